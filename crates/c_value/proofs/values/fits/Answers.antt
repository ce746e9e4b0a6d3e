use Rattle.c_value.proofs.Fitting.{fits-whole}
use Rattle.c_value.proofs.values.fits.Goals as goal

pub returns : goal.returns
returns c = fits-whole _ _ _ c.loop-i-test.false c.loop-i.auto.i-end c.loop-i.invariant.1 c.loop-i.invariant.0
