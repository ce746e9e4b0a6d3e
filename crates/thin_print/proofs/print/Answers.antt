use Rattle.std.proofs.Common.{arith, ◌≡◌, true, sym, subst}
use Rattle.std.proofs.lemmas.Grind.{common_steps}
use Rattle.thin_state.specs.CReading.{c_reading}
use Rattle.thin_print.specs.CText.{file_text}
use Rattle.thin_print.proofs.ReadsBack.{file_reads, file_reads_alone}
use Rattle.thin_print.proofs.print.Goals as goal

pub returns-clause-read_back : goal.returns-clause-read_back
returns-clause-read_back c =
    let written : c.loop-item.out.items ≡ file_text c.args.file.now = grind (arith, common_steps) in
    λ h. subst (λ text. c_reading text c.args.file.now.items true) (sym written) (file_reads c.args.file.now h)

pub returns-clause-read_alone : goal.returns-clause-read_alone
returns-clause-read_alone c =
    let written : c.loop-item.out.items ≡ file_text c.args.file.now = grind (arith, common_steps) in
    λ h trees whole reading. file_reads_alone c.args.file.now h trees whole (subst (λ text. c_reading text trees whole) written reading)
