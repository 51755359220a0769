-- How far rounding takes the blend between eight cells from its values: three blends one after the other, so the 2 ^ 20th part and eight units of 2 ^ -149. Assumes nothing.
use Rattle.std.specs.Prelude.{Bool, true, false, ℕ, ◌+◌, ◌*◌, ◌≤◌, Float}
use Rattle.std.proofs.Common.{arith}
use Rattle.lookup.specs.declared.Cells.{Cells}
use Rattle.lookup.specs.Place.{blend_of, blended_of}
use Rattle.blend_laws.specs.Signed.{above_zero, below_zero}
use Rattle.blend_laws.specs.Blendable.{Blendable, Raised, EachCell, Weights}
use Rattle.blend_laws.specs.WeightLaws.{value_units}
use Rattle.blend_laws.specs.BlendWithin.{blend_within}
use Rattle.blend_laws.specs.BlendedLaws.{blended_raised, blended_between}
use Rattle.blend_laws.specs.Nearness.{LittleOver, LittleUnder, NotFarAbove, NotFarBelow, NotFar}
use Rattle.blend_laws.specs.BlendSpread.{itself_units, not_far_above, not_far_below}

-- ---- whole numbers

-- what lies near v is not much longer
size_over : (r : Bool) (x : ℕ) (s : Bool) (v : ℕ) → LittleOver 4194304 2 r x s v → LittleUnder 4194304 2 r x s v → x * 4194304 ≤ v * 4194305 + 8388608
size_over false x false v h k = omega arith
size_over true x true v h k = omega arith
size_over false x true v h k = omega arith
size_over true x false v h k = omega arith

three_sizes : (v x y : ℕ) → x * 4194304 ≤ v * 4194305 + 8388608 → y * 4194304 ≤ x * 4194305 + 8388608 → x + y ≤ 3 * v + 8
three_sizes v x y h k = omega arith

-- four numbers as what stands above zero, p, and what below, q; each near the one before
three_steps : (p q p1 q1 p2 q2 p3 q3 v x y : ℕ)
    → (p1 + q) * 4194304 ≤ (p + q1) * 4194304 + (v + 8388608)
    → (p2 + q1) * 4194304 ≤ (p1 + q2) * 4194304 + (x + 8388608)
    → (p3 + q2) * 4194304 ≤ (p2 + q3) * 4194304 + (y + 8388608)
    → x + y ≤ 3 * v + 8
    → (p3 + q) * 1048576 ≤ (p + q3) * 1048576 + (v + 8388608)
three_steps p q p1 q1 p2 q2 p3 q3 v x y h k l m = omega arith

three_steps_down : (p q p1 q1 p2 q2 p3 q3 v x y : ℕ)
    → (p + q1) * 4194304 ≤ (p1 + q) * 4194304 + (v + 8388608)
    → (p1 + q2) * 4194304 ≤ (p2 + q1) * 4194304 + (x + 8388608)
    → (p2 + q3) * 4194304 ≤ (p3 + q2) * 4194304 + (y + 8388608)
    → x + y ≤ 3 * v + 8
    → (p + q3) * 1048576 ≤ (p3 + q) * 1048576 + (v + 8388608)
three_steps_down p q p1 q1 p2 q2 p3 q3 v x y h k l m = omega arith

-- ---- eight times one value

module _ (k : ℕ) (K : k ≤ 126) (c : Cells) (w : Weights c) where
  pub blended_itself_near : (v : Float) → Blendable k v → NotFar 1048576 8 (blended_of c (λ i. v)) v
  unfolding blended_of
  blended_itself_near v p =
      let r1 = blend_of v v c.x in
      let p1 = blend_within c.x w.x k v v K p p in
      let r2 = blend_of r1 r1 c.y in
      let p2 = blend_within c.y w.y k r1 r1 K p1 p1 in
      let r3 = blend_of r2 r2 c.z in
      let p3 = blend_within c.z w.z k r2 r2 K p2 p2 in
      let u = value_units k v p in
      let u1 = value_units k r1 p1 in
      let u2 = value_units k r2 p2 in
      let u3 = value_units k r3 p3 in
      let n1 = itself_units c.x w.x k K v p p1 in
      let n2 = itself_units c.y w.y k K r1 p1 p2 in
      let n3 = itself_units c.z w.z k K r2 p2 p3 in
      let m = three_sizes u.size u1.size u2.size (size_over u1.negative u1.size u.negative u.size n1.0 n1.1) (size_over u2.negative u2.size u1.negative u1.size n2.0 n2.1) in
      record {
        left = u3;
        right = u;
        above = three_steps (above_zero u.negative u.size) (below_zero u.negative u.size) (above_zero u1.negative u1.size) (below_zero u1.negative u1.size) (above_zero u2.negative u2.size) (below_zero u2.negative u2.size) (above_zero u3.negative u3.size) (below_zero u3.negative u3.size) u.size u1.size u2.size n1.0 n2.0 n3.0 m;
        below = three_steps_down (above_zero u.negative u.size) (below_zero u.negative u.size) (above_zero u1.negative u1.size) (below_zero u1.negative u1.size) (above_zero u2.negative u2.size) (below_zero u2.negative u2.size) (above_zero u3.negative u3.size) (below_zero u3.negative u3.size) u.size u1.size u2.size n1.1 n2.1 n3.1 m;
      }

  -- between the least and the greatest of the eight values, up to the 2 ^ 20th part of each and eight units
  pub blended_spread : (f : ℕ → Float) (least greatest : Float) → EachCell (λ i. Raised k least (f i)) c → EachCell (λ i. Raised k (f i) greatest) c
      → NotFarBelow 1048576 8 (blended_of c f) least × NotFarAbove 1048576 8 (blended_of c f) greatest
  blended_spread f least greatest p q =
      let b = blended_between k K c w f least greatest p q in
      let here = value_units k (blended_of c f) (blended_raised k K c w f (λ i. greatest) q).first in (
        not_far_below 1048576 8 (blended_of c f) (blended_of c (λ i. least)) least here (blended_itself_near least p.c000.first) b.0,
        not_far_above 1048576 8 (blended_of c f) (blended_of c (λ i. greatest)) greatest here (blended_itself_near greatest q.c000.second) b.1,
      )
