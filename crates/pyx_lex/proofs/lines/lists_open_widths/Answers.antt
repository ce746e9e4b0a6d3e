use Rattle.pyx_lex.proofs.OpenWidths.{open_listed, open_rise}
use Rattle.pyx_lex.proofs.lines.lists_open_widths.Goals as goal

pub returns-clause-listed : goal.returns-clause-listed
returns-clause-listed c = open_listed

pub returns-clause-rising : goal.returns-clause-rising
returns-clause-rising c = open_rise
