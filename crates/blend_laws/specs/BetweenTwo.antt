-- Between two neighbours along one axis, where the other two coordinates come out whole, a lookup is the blend of two values, and lies between them up to the 2 ^ 22nd part of each and two units of
-- 2 ^ -149. In the centre mode these are the positions between two centres. Assumes nothing.
use Rattle.std.specs.Prelude.{◌≡◌, refl, Bool, true, false, ◌||◌, ℕ, ◌^◌, ◌≤◌, Float}
use Rattle.std.specs.Float.Ieee.{fits, lt, eq, le, of_bits}
use Rattle.names.specs.Bits.{zero32}
use Rattle.floats.specs.Units.{InUnits}
use Rattle.floats.specs.OrderLaws.{eq_symmetric, le_transitive}
use Rattle.limits.specs.Limits.{up_to}
use Rattle.bounds.specs.BoundsLaws.{at_most_finite}
use Rattle.lookup.specs.declared.Cells.{Cells}
use Rattle.lookup.specs.Place.{blend_of, blended_of}
use Rattle.lookup.specs.BlendLaws.{Plain, same}
use Rattle.lookup.proofs.BlendLaws.{kept_equal, blend_at_zero}
use Rattle.blend_laws.specs.Blendable.{Blendable, SameNumber, Weight, EachCell, Weights}
use Rattle.blend_laws.specs.WeightLaws.{value_units}
use Rattle.blend_laws.specs.BlendOrder.{blend_no_more, blend_between, blend_between_down}
use Rattle.blend_laws.specs.BlendWithin.{blend_within}
use Rattle.blend_laws.specs.Nearness.{BetweenThem}
use Rattle.blend_laws.specs.BlendSpread.{blend_itself_near, not_far_above, not_far_below}

-- ---- equal numbers, where a zero may differ in its sign

eq_le : (x y : Float) → eq x y ≡ true → le x y ≡ true
unfolding le
eq_le x y h = go (lt x y)
  where
    go : (b : Bool) → b || eq x y ≡ true
    go true = refl
    go false = h

zero_weight : Weight zero32
unfolding fits up_to le lt eq of_bits
zero_weight = record { fit = tt; from_to = refl }

plain : (k : ℕ) (x : Float) → Blendable k x → Plain x
plain k x p = record { fit = p.fit; number = at_most_finite x 1 k p.within }

module _ (k : ℕ) (K : k ≤ 126) where
  itself : {a : Float} → Blendable k a → SameNumber k a a
  itself {a} p = let h = eq_le a a (kept_equal (plain k a p) same) in record { first = p; second = p; no_more = h; no_less = h }

  -- a blend does not tell them apart
  alike : (t : Float) → Weight t → {a b a' b' : Float} → SameNumber k a a' → SameNumber k b b' → SameNumber k (blend_of a b t) (blend_of a' b' t)
  alike t w {a} {b} {a'} {b'} p q = record {
    first = blend_within t w k a b K p.first q.first;
    second = blend_within t w k a' b' K p.second q.second;
    no_more = blend_no_more t w k a b a' b' K p.first q.first p.second q.second p.no_more q.no_more;
    no_less = blend_no_more t w k a' b' a b K p.second q.second p.first q.first p.no_less q.no_less;
  }

  -- by a weight of 0 it is its first
  first_only : (t : Float) → t ≡ zero32 → {a b v : Float} → SameNumber k a v → Blendable k b → SameNumber k (blend_of a b t) v
  first_only t e {a} {b} {v} p q =
      let h = kept_equal (plain k a p.first) (blend_at_zero a b (plain k a p.first) (plain k b q)) in
      rw e
      (record {
        first = blend_within zero32 zero_weight k a b K p.first q;
        second = p.second;
        no_more = le_transitive (blend_of a b zero32) a v (eq_le (blend_of a b zero32) a h) p.no_more;
        no_less = le_transitive v a (blend_of a b zero32) p.no_less (eq_le a (blend_of a b zero32) (eq_symmetric (blend_of a b zero32) a h));
      })

  -- ---- eight cells, where two of the three fractions are +0

  module _ (c : Cells) (w : Weights c) (f : ℕ → Float) (p : EachCell (λ i. Blendable k (f i)) c) where
    within : (t : Float) → Weight t → {a b : Float} → Blendable k a → Blendable k b → Blendable k (blend_of a b t)
    within t v {a} {b} q r = blend_within t v k a b K q r

    pub blended_along_x : c.y ≡ zero32 → c.z ≡ zero32 → SameNumber k (blended_of c f) (blend_of (f c.c000) (f c.c100) c.x)
    unfolding blended_of
    blended_along_x y z =
        first_only c.z z (first_only c.y y (itself (within c.x w.x p.c000 p.c100)) (within c.x w.x p.c010 p.c110))
        (within c.y w.y (within c.x w.x p.c001 p.c101) (within c.x w.x p.c011 p.c111))

    pub blended_along_y : c.x ≡ zero32 → c.z ≡ zero32 → SameNumber k (blended_of c f) (blend_of (f c.c000) (f c.c010) c.y)
    unfolding blended_of
    blended_along_y x z =
        first_only c.z z (alike c.y w.y (first_only c.x x (itself p.c000) p.c100) (first_only c.x x (itself p.c010) p.c110))
        (within c.y w.y (within c.x w.x p.c001 p.c101) (within c.x w.x p.c011 p.c111))

    pub blended_along_z : c.x ≡ zero32 → c.y ≡ zero32 → SameNumber k (blended_of c f) (blend_of (f c.c000) (f c.c001) c.z)
    unfolding blended_of
    blended_along_z x y =
        alike c.z w.z
        (first_only c.y y (first_only c.x x (itself p.c000) p.c100) (within c.x w.x p.c010 p.c110))
        (first_only c.y y (first_only c.x x (itself p.c001) p.c101) (within c.x w.x p.c011 p.c111))

  -- ---- what is the blend of a and b lies between them

  module _ (t : Float) (w : Weight t) (a b r : Float) (p : Blendable k a) (q : Blendable k b) (s : SameNumber k r (blend_of a b t)) where
    here : InUnits (2 ^ 149) r
    here = value_units k r s.first

    pub between_two : BetweenThem 4194304 2 r a b
    between_two =
        record {
          rising = λ h.
              let l = blend_between t w k a b K p q h in (
                not_far_below 4194304 2 r (blend_of a a t) a here (blend_itself_near t w k K a p) (le_transitive (blend_of a a t) (blend_of a b t) r l.0 s.no_less),
                not_far_above 4194304 2 r (blend_of b b t) b here (blend_itself_near t w k K b q) (le_transitive r (blend_of a b t) (blend_of b b t) s.no_more l.1),
              );
          falling = λ h.
              let l = blend_between_down t w k a b K p q h in (
                not_far_below 4194304 2 r (blend_of b b t) b here (blend_itself_near t w k K b q) (le_transitive (blend_of b b t) (blend_of a b t) r l.0 s.no_less),
                not_far_above 4194304 2 r (blend_of a a t) a here (blend_itself_near t w k K a p) (le_transitive r (blend_of a b t) (blend_of a a t) s.no_more l.1),
              );
        }

  -- so does the blend itself
  pub blend_between_them : (t : Float) → Weight t → (a b : Float) → Blendable k a → Blendable k b → BetweenThem 4194304 2 (blend_of a b t) a b
  blend_between_them t w a b p q = between_two t w a b (blend_of a b t) p q (itself (blend_within t w k a b K p q))
