-- One light more is a join with the figures of that light alone.
use native.Mathlib.Omega.{arith}
use Rattle.light_figures.proofs.Counting.{light_added}
use Rattle.light_figures.proofs.inner.with_light.Goals as goal

pub overflow_add-bands : goal.overflow_add-bands
overflow_add-bands c = omega (arith, c.requires.0.band c.band_of-band.result, c.requires.0.voxels)

pub returns : goal.returns
returns c =
    let band_of_lem = c.band_of-band in
    light_added c.args.figures c.args.units band_of_lem.result _ _ c.requires.0 band_of_lem.ensures.0 band_of_lem.ensures.1 c.lowest_of_both.ensures c.higher.ensures
