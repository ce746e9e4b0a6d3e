use Rattle.c_statement.specs.declared.statement_kind.StatementKind.TheVariants as kinds
use Rattle.c_statement.proofs.Starts.{every_ok, told_kind}
use Rattle.c_statement.proofs.statements.told.Goals as goal

pub returns-in-Goto-clause-every : goal.returns-in-Goto-clause-every
returns-in-Goto-clause-every c = λ s rest form e. c.jump.ensures.every s rest (form, told_kind s rest form e c.in-Goto.ensures) e

pub returns-in-Return-clause-every : goal.returns-in-Return-clause-every
returns-in-Return-clause-every c = λ s rest form e. c.returned.ensures.every s rest (form, told_kind s rest form e c.in-Return.ensures) e

pub returns-in-Element-clause-every : goal.returns-in-Element-clause-every
returns-in-Element-clause-every c = λ s rest form e. c.element_written.ensures.every s rest (form, told_kind s rest form e c.in-Element.ensures) e

pub returns-in-Method-clause-every : goal.returns-in-Method-clause-every
returns-in-Method-clause-every c = every_ok c.bare_method.result c.args.input.now kinds.Method c.in-Method.ensures c.bare_method.ensures.every

pub returns-in-Table-clause-every : goal.returns-in-Table-clause-every
returns-in-Table-clause-every c = λ s rest form e. c.table_written.ensures.every s rest (form, told_kind s rest form e c.in-Table.ensures) e

pub returns-in-Place-clause-every : goal.returns-in-Place-clause-every
returns-in-Place-clause-every c = λ s rest form e. c.place_written.ensures.every s rest (form, told_kind s rest form e c.in-Place.ensures) e

pub returns-in-Assigned-clause-every : goal.returns-in-Assigned-clause-every
returns-in-Assigned-clause-every c = every_ok c.assigned.result c.args.input.now kinds.Assigned c.in-Assigned.ensures c.assigned.ensures.every

pub returns-in-Free-clause-every : goal.returns-in-Free-clause-every
returns-in-Free-clause-every c = λ s rest form e. c.freed.ensures.every s rest (form, told_kind s rest form e c.in-Free.ensures) e

pub returns-in-Call-clause-every : goal.returns-in-Call-clause-every
returns-in-Call-clause-every c = every_ok c.bare_call.result c.args.input.now kinds.Call c.in-Call.ensures c.bare_call.ensures.every
