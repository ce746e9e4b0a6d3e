use Rattle.thin_look.proofs.Fits.{fits-whole}
use Rattle.thin_look.proofs.readings.fits.Goals as goal

pub returns : goal.returns
returns c = fits-whole _ _ _ c.loop-i-test.false c.loop-i.auto.i-end c.loop-i.invariant.1 c.loop-i.invariant.0
