use Rattle.c_tree.specs.Forms.{IsFile}
use Rattle.c_printer.proofs.ReadsBack.{all_read}
use Rattle.c_printer.proofs.item.print.Goals as goal

pub written-requires : goal.written-requires
unfolding IsFile
written-requires c = c.requires

pub returns-clause-read_back : goal.returns-clause-read_back
unfolding IsFile
returns-clause-read_back c = all_read (λ b. b.items) _ c.args.file.now.items c.written.ensures c.requires
