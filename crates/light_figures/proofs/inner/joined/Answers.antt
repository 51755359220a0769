-- Figure by figure, as the definition has it; no sum can wrap, since both figures are sized.
use Rattle.light_figures.proofs.Counting.{bands_fit, both_joined}
use Rattle.light_figures.proofs.inner.joined.Goals as goal

pub bands_joined-bands-requires : goal.bands_joined-bands-requires
bands_joined-bands-requires c = bands_fit c.args.a c.args.b c.requires.0 c.requires.1 c.requires.2

pub returns : goal.returns
returns c =
    both_joined c.args.a c.args.b _ _ _ c.bands_joined-bands.ensures c.lowest_of_both.ensures c.higher.ensures
