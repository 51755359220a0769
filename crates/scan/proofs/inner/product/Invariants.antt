use mathlib.Core.Path.{◌≡◌}
use lib.ListN.{drop}
use Rattle.names.specs.Bits.{one32}
use Rattle.scan.specs.OpaqueLaws.{clear_pass_of}
use Rattle.scan.proofs.inner.product.Given as goal

abbrev pub invariant-loop-p : goal.invariant-loop-p
invariant-loop-p l = clear_pass_of l.uses l.numbers one32 l.places ≡ clear_pass_of l.uses l.numbers l.w (drop l.p-index l.places)
