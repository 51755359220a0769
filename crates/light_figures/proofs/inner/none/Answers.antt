-- Of no light every figure is 0.
use mathlib.Core.Path.{refl}
use Rattle.lists.specs.Fold.{tab}
use Rattle.light_figures.specs.LightFigures.{figures_of, sum_of, lowest_of, highest_of, in_band}
use Rattle.light_figures.proofs.inner.none.Goals as goal

pub returns : goal.returns
unfolding figures_of sum_of lowest_of highest_of in_band tab
returns c = refl
