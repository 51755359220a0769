-- `means::inner::mean_at` is the definition: the coordinates of a place in the list lie in the grid. Assumes nothing.
use native.Mathlib.Omega.{arith}
use mathlib.Core.Path.{◌≡◌, ap, ◌∙◌}
use mathlib.Core.List.{List}
use Prim.Native.Nat.{◌/◌, ◌%◌}
use lib.ListN.{get_or}
use lib.Ieee.{Float, nan}
use Rattle.means.specs.Box.{mean_in, mean_at}
use Rattle.means.proofs.Abreast.{get_or_each}
use Rattle.means.proofs.Places.{coordinates, last_below}
use Rattle.means.proofs.inner.mean_at.Goals as goal

pub means_in-requires : goal.means_in-requires
means_in-requires c =
    let a = c.args in
    let p = c.requires in
    let at = coordinates a.w a.h a.d a.i p.0 p.1 (omega arith) in
    (omega arith, (at.0, at.1, at.2, omega arith, omega (arith, last_below a.w a.h a.d _ _ _ at.0 at.1 at.2)))

pub returns : goal.returns
unfolding mean_at
returns c =
    let a = c.args in
    let one : a.i / 1 ≡ a.i = omega arith in
    let none : a.i % 1 ≡ 0 = omega arith in
    rw (one, none)
    (ap (λ (l : List Float). get_or l 0 nan) c.means_in.ensures
    ∙ get_or_each 1 (λ k. mean_in a.src.now 1 k a.w a.h a.d (a.i % a.w) (a.i / a.w % a.h) (a.i / a.w / a.h)) 0 (omega arith))
