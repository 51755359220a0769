-- `means::inner::squares` writes one square, or sixteen of which the first n are the definition's of the list's numbers from there on. Assumes nothing.
use native.Mathlib.Omega.{arith}
use native.Mathlib.Nat.{div-add-mod', mul-le-mul_right}
use mathlib.Core.Path.{◌≡◌, ap, ◌∙◌}
use mathlib.Core.List.{List}
use Prim.Native.Nat.{ℕ, ◌+◌, ◌-◌, ◌*◌, ◌/◌, ◌%◌, ◌≤◌, ◌<◌}
use lib.ListN.{length, get_or, length-set}
use lib.Ieee.{Float, nan, binary32, mul}
use Rattle.lists.specs.Fold.{length_tab, tab_step}
use Rattle.means.specs.Box.{past_near, mean_in, square_at}
use Rattle.means.specs.Sums.{span_of, last_in, each}
use Rattle.means.proofs.Abreast.{each_same, get_or_each, placed}
use Rattle.means.proofs.Lanes.{square_on}
use Rattle.means.proofs.Places.{coordinates}
use Rattle.means.proofs.inner.squares.Goals as goal

-- a voxel does not stand after the last voxel of its box
not_after : (w h d i : ℕ) {l : ℕ} → 0 < w → 0 < h → d * h * w ≡ l → i < l → i ≤ last_in w h (span_of (i % w) w) (span_of (i / w % h) h) (span_of (i / w / h) d)
not_after w h d i p q e l =
    let c = coordinates w h d i p q (omega arith) in
    let a : i / w / h ≤ past_near (i / w / h) d - 1 = omega arith in
    let b : i / w ≤ (past_near (i / w / h) d - 1) * h + (past_near (i / w % h) h - 1) = omega (arith, mul-le-mul_right h a, div-add-mod' (i / w) h) in
    omega (arith, mul-le-mul_right w b, div-add-mod' i w)

-- the squares of sixteen means
made : (f : ℕ → Float) (m q : List Float) → m ≡ each f → q ≡ each (λ k. mul binary32 (get_or m k nan) (get_or m k nan)) → q ≡ each (λ k. mul binary32 (f k) (f k))
made f m q e g =
    g ∙ each_same 16 _ _ (λ k p. ap (λ (a : Float). mul binary32 a a) (ap (λ (l : List Float). get_or l k nan) e ∙ get_or_each 16 f k p))

pub returns-then-n-eq1 : goal.returns-then-n-eq1
returns-then-n-eq1 c =
    let a = c.args in
    simp length-set (omega arith, omega arith, rw c.square_at.ensures (tab_step _ a.dst.now a.i (omega arith)))

pub put-requires : goal.put-requires
put-requires c =
    let a = c.args in
    let p = c.requires in
    (omega (arith, (c.abreast-n.ensures.3 (omega arith)).2, not_after a.w a.h a.d a.i p.0 p.1 p.2 p.4), rw c.squared.ensures (length_tab _ 16 0))

pub returns : goal.returns
returns c =
    let n = c.abreast-n in
    let a = c.args in
    let p = c.requires in
    let inner = n.ensures.3 (omega arith) in
    let fits : a.i + n.result ≤ length a.dst.now = omega (arith, inner.2, not_after a.w a.h a.d a.i p.0 p.1 p.2 p.4) in (
      omega arith,
      fits,
      placed (square_at a.src.now a.w a.h a.d) _ a.dst.now _ _ a.i n.result n.ensures.1 fits (omega arith) c.put.ensures
          (made (λ k. mean_in a.src.now 1 k a.w a.h a.d (a.i % a.w) (a.i / a.w % a.h) (a.i / a.w / a.h)) _ _ c.means_in-m.ensures c.squared.ensures)
          (λ j h. square_on a.src.now a.w a.h a.d a.i j inner.0 (omega (arith, inner.1))),
    )
