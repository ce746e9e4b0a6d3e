use Rattle.std.proofs.Common.{refl, sym, ◌∙◌, below_more}
use Rattle.std.proofs.lemmas.Bool.{false≢true}
use Rattle.std.proofs.lemmas.Slice.Eq.{bytes_eq-Decides}
use Rattle.thin_source.proofs.Names.{word_found, word_more}
use Rattle.thin_source.proofs.is_among.Goals as goal

pub returns-then-eq : goal.returns-then-eq
returns-then-eq c =
    let same = (bytes_eq-Decides c.as_bytes.result.now c.args.word.now).0 (sym c.if-eq.ensures) in
    (λ _. word_found c.args.words.now c.args.word.now c.loop-entry.entry-index _ c.loop-entry-test.true (sym c.as_bytes.ensures.value ∙ same), λ _. refl)

pub loop-entry-preserved : goal.loop-entry-preserved
loop-entry-preserved c =
    below_more _ _ c.loop-entry.invariant (word_more c.args.words.now c.args.word.now c.loop-entry.entry-index _ c.loop-entry-test.true (λ e. false≢true (c.if-eq.ensures ∙ (bytes_eq-Decides c.as_bytes.result.now c.args.word.now).1 (c.as_bytes.ensures.value ∙ e))))
