-- `means::inner::voxel` writes the voxel's sixteen means, which are the definition's of the list's numbers from there on. Assumes nothing.
use native.Mathlib.Omega.{arith}
use mathlib.Core.Path.{◌≡◌, refl}
use mathlib.Core.List.{List}
use Prim.Native.Nat.{ℕ, ◌+◌, ◌*◌, ◌/◌, ◌%◌, ◌<◌}
use lib.Ieee.{Float}
use Rattle.means.specs.Box.{mean_in, mean_at}
use Rattle.means.proofs.Abreast.{placed}
use Rattle.means.proofs.Places.{coordinates, last_below}
use Rattle.means.proofs.inner.voxel.Goals as goal

-- number k of voxel v is the list's number v * 16 + k
number : (src : List Float) (w h d v k : ℕ) → k < 16 → mean_in src 16 k w h d (v % w) (v / w % h) (v / w / h) ≡ mean_at src 16 w h d (v * 16 + k)
unfolding mean_at
number src w h d v k p =
    let m : (v * 16 + k) % 16 ≡ k = omega arith in
    let q : (v * 16 + k) / 16 ≡ v = omega arith in
    rw (m, q) refl

pub means_in-m-requires : goal.means_in-m-requires
means_in-m-requires c =
    let a = c.args in
    let p = c.requires in
    let at = coordinates a.w a.h a.d a.v p.0 p.1 (omega arith) in
    (omega arith, (at.0, at.1, at.2, omega arith, omega (arith, last_below a.w a.h a.d _ _ _ at.0 at.1 at.2)))

pub returns : goal.returns
returns c =
    let a = c.args in
    placed (mean_at a.src.now 16 a.w a.h a.d) _ a.dst.now _ _ (a.v * 16) 16 (omega arith) (omega arith) (omega arith) c.put.ensures c.means_in-m.ensures (λ j h. number a.src.now a.w a.h a.d a.v j h)
