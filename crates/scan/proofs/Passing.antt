-- How the product of the hits goes by one.
use mathlib.Core.Path.{◌≡◌}
use mathlib.Core.Bool.{cond}
use mathlib.Core.List.{List}
use Prim.Native.Nat.{ℕ, ◌+◌, ◌<◌}
use native.Mathlib.Numerals.{add-one}
use lib.ListN.{length, get_or, drop}
use lib.Seq.{drop-cons}
use lib.Ieee as Ieee
use lib.Ieee.{Float, binary32}
use Rattle.names.specs.Bits.{zero32}
use Rattle.names.specs.Numbers.{faint_limit}
use Rattle.scan.specs.OpaqueLaws.{clear_pass_of}
use Rattle.scan.specs.Transmittance.{transmission_at}

-- the product, one hit on
pub clear_step : (uses : List ℕ) (numbers : List Float) (w : Float) (is : List ℕ) (j : ℕ) → j < length is
    → clear_pass_of uses numbers w (drop j is)
    ≡ cond (Ieee.le (Ieee.mul binary32 w (transmission_at uses numbers (get_or is j 0))) faint_limit) zero32
    (clear_pass_of uses numbers (Ieee.mul binary32 w (transmission_at uses numbers (get_or is j 0))) (drop (j + 1) is))
unfolding clear_pass_of
clear_step uses numbers w is j h = rw (add-one, drop-cons is j 0)
