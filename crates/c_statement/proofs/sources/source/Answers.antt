use Rattle.c_statement.specs.declared.source_kind.SourceKind.TheVariants as kinds
use Rattle.c_statement.proofs.FirstTokens.{every_ok, told_kind}
use Rattle.c_statement.proofs.sources.source.Goals as goal

pub returns-in-Operand-clause-every : goal.returns-in-Operand-clause-every
returns-in-Operand-clause-every c = λ s rest form e. c.operands.ensures.every s rest (form, told_kind s rest form e c.in-Operand.ensures) e

pub returns-in-Invert-clause-every : goal.returns-in-Invert-clause-every
returns-in-Invert-clause-every c = λ s rest form e. c.inverted.ensures.every s rest (form, told_kind s rest form e c.in-Invert.ensures) e

pub returns-in-Cast-clause-every : goal.returns-in-Cast-clause-every
returns-in-Cast-clause-every c = λ s rest form e. c.cast.ensures.every s rest (form, told_kind s rest form e c.in-Cast.ensures) e

pub returns-in-Call-clause-every : goal.returns-in-Call-clause-every
returns-in-Call-clause-every c = every_ok c.called.result c.args.input.now kinds.Call c.in-Call.ensures c.called.ensures.every

pub returns-in-Place-clause-every : goal.returns-in-Place-clause-every
returns-in-Place-clause-every c = λ s rest form e. c.place.ensures.every s rest (form, told_kind s rest form e c.in-Place.ensures) e

pub returns-in-Method-clause-every : goal.returns-in-Method-clause-every
returns-in-Method-clause-every c = every_ok c.method_called.result c.args.input.now kinds.Method c.in-Method.ensures c.method_called.ensures.every

pub returns-in-Native-clause-every : goal.returns-in-Native-clause-every
returns-in-Native-clause-every c = λ s rest form e. c.native.ensures.every s rest (form, told_kind s rest form e c.in-Native.ensures) e

pub returns-in-HeapType-clause-every : goal.returns-in-HeapType-clause-every
returns-in-HeapType-clause-every c = λ s rest form e. c.heap_type.ensures.every s rest (form, told_kind s rest form e c.in-HeapType.ensures) e

pub returns-in-Buffer-clause-every : goal.returns-in-Buffer-clause-every
returns-in-Buffer-clause-every c = λ s rest form e. c.buffer.ensures.every s rest (form, told_kind s rest form e c.in-Buffer.ensures) e

pub returns-in-Format-clause-every : goal.returns-in-Format-clause-every
returns-in-Format-clause-every c = every_ok c.format.result c.args.input.now kinds.Format c.in-Format.ensures c.format.ensures.every

pub returns-in-Element-clause-every : goal.returns-in-Element-clause-every
returns-in-Element-clause-every c = λ s rest form e. c.element_read.ensures.every s rest (form, told_kind s rest form e c.in-Element.ensures) e
