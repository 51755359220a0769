-- A blend grows with each of its values: raise one, and the blend is no less. So a blend of a and b, with a ≤ b, lies between the blend of a with itself and that of b with itself. Assumes nothing.
use Rattle.std.specs.Prelude.{◌≡◌, true, ℕ, ◌^◌, ◌≤◌, Float}
use Rattle.std.specs.Float.Ieee.{binary32, sub, mul, le}
use Rattle.names.specs.Bits.{one32}
use Rattle.floats.specs.OrderLaws.{lt_irreflexive, not_lt_le}
use Rattle.floats.specs.FiniteLaws.{finite_number}
use Rattle.bounds.specs.BoundsLaws.{at_most_finite}
use Rattle.lookup.specs.Place.{blend_of}
use Rattle.blend_laws.specs.SignedLaws.{not_negative, add_no_more, mul_no_more}
use Rattle.blend_laws.specs.Blendable.{Blendable, Weight}
use Rattle.blend_laws.specs.WeightLaws.{unit_pos, value_units, part_units_lem, weight_from, weight_within, weight_units, rest_within, rest_units_lem, rest_from}

itself : (k : ℕ) (x : Float) → Blendable k x → le x x ≡ true
itself k x b = let n = finite_number x (at_most_finite x 1 k b.within) in not_lt_le x x n n (lt_irreflexive x)

module _ (t : Float) (w : Weight t) where
  -- a ≤ a' and b ≤ b', so the blend of a and b is at most that of a' and b'
  pub blend_no_more : (k : ℕ) (a b a' b' : Float) → k ≤ 126 → Blendable k a → Blendable k b → Blendable k a' → Blendable k b' → le a a' ≡ true → le b b' ≡ true
      → le (blend_of a b t) (blend_of a' b' t) ≡ true
  unfolding blend_of
  blend_no_more k a b a' b' K p q p' q' h g =
      let h0 = (weight_from t w).0 in
      add_no_more (2 ^ 149) unit_pos (mul binary32 a (sub binary32 one32 t)) (mul binary32 b t) (mul binary32 a' (sub binary32 one32 t)) (mul binary32 b' t)
      (part_units_lem k a (sub binary32 one32 t) K p (rest_within t w)) (part_units_lem k b t K q (weight_within t w)) (part_units_lem k a' (sub binary32 one32 t) K p' (rest_within t w)) (part_units_lem k b' t K q' (weight_within t w))
      (mul_no_more (2 ^ 149) unit_pos a a' (sub binary32 one32 t) (value_units k a p) (value_units k a' p') (rest_units_lem t w) (not_negative (2 ^ 149) unit_pos (sub binary32 one32 t) (rest_units_lem t w) (rest_from t w)) h)
      (mul_no_more (2 ^ 149) unit_pos b b' t (value_units k b q) (value_units k b' q') (weight_units t w) (not_negative (2 ^ 149) unit_pos t (weight_units t w) h0) g)

  -- a ≤ b: between the blend of a with itself and the blend of b with itself
  pub blend_between : (k : ℕ) (a b : Float) → k ≤ 126 → Blendable k a → Blendable k b → le a b ≡ true → (le (blend_of a a t) (blend_of a b t) ≡ true) × (le (blend_of a b t) (blend_of b b t) ≡ true)
  blend_between k a b K p q h = (blend_no_more k a a a b K p p p q (itself k a p) h, blend_no_more k a b b b K p q q q h (itself k b q))

  -- and so it does where the second is the lower
  pub blend_between_down : (k : ℕ) (a b : Float) → k ≤ 126 → Blendable k a → Blendable k b → le b a ≡ true → (le (blend_of b b t) (blend_of a b t) ≡ true) × (le (blend_of a b t) (blend_of a a t) ≡ true)
  blend_between_down k a b K p q h = (blend_no_more k b b a b K q q p q h (itself k b q), blend_no_more k a b a a K p q p p (itself k a p) h)
