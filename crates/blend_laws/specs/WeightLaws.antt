-- The values of a blend and its two weights, t and 1 − t, in units of 2 ^ -149. Assumes nothing.
use Rattle.std.specs.Prelude.{◌≡◌, refl, Bool, true, false, ◌&&◌, ℕ, ◌+◌, ◌-◌, ◌*◌, ◌^◌, ◌≤◌, ◌<◌, T, Float}
use Rattle.std.proofs.Common.{sym, zero-le, le_trans, le_of_eq, lt_of_le_of_lt, zero-lt-suc, sub-le, one-mul, zero-mul, arith, lit<, pow_pos}
use Rattle.std.proofs.lemmas.Bool.{false≢true}
use Rattle.std.proofs.Math.Pow.{pow-lt}
use Rattle.std.specs.Float.{nan, inf, fin, binary32}
use Rattle.std.specs.Float.Ieee.{fits, round, neg, sub, mul, lt, eq, le, of_bits}
use Rattle.std.specs.Float.Ieee.Fits.{sub-fits, mul-fits}
use Rattle.std.specs.Float.Ieee.Scale.{finite}
use Rattle.names.specs.Bits.{zero32, one32}
use Rattle.floats.specs.Units.{InUnits}
use Rattle.floats.specs.OrderLaws.{le_transitive}
use Rattle.floats.specs.RootLaws.Units.{count_exact}
use Rattle.limits.specs.Limits.{up_to}
use Rattle.bounds.specs.Bounds.{Within}
use Rattle.bounds.specs.BoundsLaws.{round_at_most, mul_at_most, at_most_of_test, at_most_finite, one_value}
use Rattle.blend_laws.specs.Signed.{NoMore}
use Rattle.blend_laws.specs.RoundLaws.{round_no_more}
use Rattle.blend_laws.specs.SignedLaws.{rest_at}
use Rattle.blend_laws.specs.Blendable.{Blendable, Weight}

-- ---- in units of 2 ^ -149, of which a finite f32 is a whole number

pub unit_pos : 0 < 2 ^ 149
unit_pos = pow_pos 149

pub in_units : (x : Float) → T (fits binary32 x) → finite x ≡ true → InUnits (2 ^ 149) x
in_units nan f h = absurd (false≢true h)
in_units (inf s) f h = absurd (false≢true h)
in_units (fin s m e) f h = record { negative = s; size = _; exact = count_exact s m e f }

pub value_units : (k : ℕ) (x : Float) → Blendable k x → InUnits (2 ^ 149) x
value_units k x b = in_units x b.fit (at_most_finite x 1 k b.within)

-- 2 ^ k is far below the largest f32
small : (k : ℕ) → k ≤ 126 → 1 * 1 * 2 ^ (k + 0) < 2 ^ 128
small k h = lt_of_le_of_lt (le_of_eq (one-mul (2 ^ (k + 0)))) (pow-lt {i = k + 0} {j = 128} (omega arith))

-- a value times a part of 1 is finite
pub part_finite : (k : ℕ) (x y : Float) → k ≤ 126 → Blendable k x → Within 0 y → finite (mul binary32 x y) ≡ true
part_finite k x y K b h = at_most_finite (mul binary32 x y) (1 * 1) (k + 0) (mul_at_most x y 1 k 1 0 (lit< tt) (small k K) b.within h)

pub part_units_lem : (k : ℕ) (x y : Float) → k ≤ 126 → Blendable k x → Within 0 y → InUnits (2 ^ 149) (mul binary32 x y)
part_units_lem k x y K b h = in_units (mul binary32 x y) (mul-fits binary32 x y) (part_finite k x y K b h)

-- ---- the weight, and what is left of 1

both : (p q : Bool) → p && q ≡ true → (p ≡ true) × (q ≡ true)
both true true h = (refl, refl)
both true false h = absurd (false≢true h)
both false q h = absurd (false≢true h)

pub weight_from : (t : Float) → Weight t → (le zero32 t ≡ true) × (le t one32 ≡ true)
unfolding up_to
weight_from t w = both (le zero32 t) (le t one32) w.from_to

minus_one_low : le (neg one32) zero32 ≡ true
unfolding le lt eq neg of_bits
minus_one_low = refl

pub zero_rounds : round binary32 false 0 1 ≡ zero32
unfolding round of_bits
zero_rounds = refl

module _ (t : Float) (w : Weight t) where
  pub weight_within : Within 0 t
  weight_within =
      let h = weight_from t w in
      at_most_of_test t one32 1 0 one_value (le_transitive (neg one32) zero32 t minus_one_low h.0) h.1

  pub weight_units : InUnits (2 ^ 149) t
  weight_units = in_units t w.fit (at_most_finite t 1 0 weight_within)

  -- 1 − t is rounded once
  pub rest_rounded : (weight_units.size ≤ 2 ^ 149) × (sub binary32 one32 t ≡ round binary32 false (2 ^ 149 - weight_units.size) (2 ^ 149))
  unfolding sub
  rest_rounded = let h = weight_from t w in rest_at (2 ^ 149) unit_pos t weight_units h.0 h.1

  pub rest_within : Within 0 (sub binary32 one32 t)
  rest_within =
      rw rest_rounded.1
      (round_at_most false (2 ^ 149 - weight_units.size) (2 ^ 149) 1 0 unit_pos (lit< tt) (lit< tt) (le_trans (sub-le (2 ^ 149) weight_units.size) (le_of_eq (sym (one-mul (2 ^ 149))))))

  pub rest_units_lem : InUnits (2 ^ 149) (sub binary32 one32 t)
  rest_units_lem = in_units (sub binary32 one32 t) (sub-fits binary32 one32 t) (at_most_finite (sub binary32 one32 t) 1 0 rest_within)

  pub rest_from : le zero32 (sub binary32 one32 t) ≡ true
  rest_from =
      rw (rest_rounded.1, ← zero_rounds)
      (round_no_more false 0 1 false (2 ^ 149 - weight_units.size) (2 ^ 149) (zero-lt-suc 0) unit_pos (no_more_zero (2 ^ 149) ((2 ^ 149 - weight_units.size) * 1)))
    where
      no_more_zero : (c b : ℕ) → NoMore false (0 * c) false b
      no_more_zero c b = rw (zero-mul c) zero-le
