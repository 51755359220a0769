-- What the test of the axes leaves known.
use Rattle.std.proofs.Common.{◌≡◌, Bool, false, sym, ◌∙◌}
use Rattle.grid.specs.declared.Axes.{Axes}
use Rattle.grid.specs.Grid.{AxesWithin}
use Rattle.limits.specs.Limits.{bad_axes}
use Rattle.limits.specs.LimitsLaws.{axes_row}

pub to_axes : (a : Axes) (r : Bool) → r ≡ bad_axes a → r ≡ false → AxesWithin a
to_axes a r p q = (axes_row a).0 (sym p ∙ q)
