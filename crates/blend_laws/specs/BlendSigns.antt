-- The blend of two numbers that are not negative is not negative; of numbers from 0 to 1 it is one from 0 to 1, with nothing over for rounding. Assumes nothing.
use Rattle.std.specs.Prelude.{◌≡◌, Bool, true, false, ℕ, ◌*◌, ◌^◌, ◌≤◌, T, Float}
use Rattle.std.proofs.Common.{ap, ◌∙◌, zero-le, mul_comm, zero-lt-suc, arith}
use Rattle.std.specs.Float.{binary32}
use Rattle.std.specs.Float.Ieee.{unlike, fits, round, le, of_bits}
use Rattle.std.specs.Float.Ieee.Scale.{grid}
use Rattle.names.specs.Bits.{zero32, one32}
use Rattle.floats.specs.OrderLaws.{le_transitive}
use Rattle.limits.specs.Limits.{up_to}
use Rattle.bounds.specs.BoundsLaws.{zero_at_most, test_of_at_most, one_value}
use Rattle.lookup.specs.Place.{blend_of}
use Rattle.blend_laws.specs.Signed.{NoMore}
use Rattle.blend_laws.specs.RoundLaws.{round_no_more}
use Rattle.blend_laws.specs.SignedLaws.{zero_in_units}
use Rattle.blend_laws.specs.Blendable.{Blendable, Weight, rest_units, part_units}
use Rattle.blend_laws.specs.WeightLaws.{unit_pos, value_units, zero_rounds, weight_from, weight_units, weight_within}
use Rattle.blend_laws.specs.BlendOrder.{blend_no_more}
use Rattle.blend_laws.specs.BlendWithin.{net_most, blend_rounded, blend_within}
use Rattle.blend_laws.specs.PartLaws.{part_none, units_once}

zero_fits : T (fits binary32 zero32)
unfolding fits of_bits
zero_fits = tt

pub zero_blendable : (k : ℕ) → Blendable k zero32
zero_blendable k = record { fit = zero_fits; within = zero_at_most 1 k }

-- what rounds nothing
none_rounds : (r : Bool) (z : ℕ) → z ≤ 0 → le zero32 (round binary32 r z (2 ^ 149)) ≡ true
none_rounds r z h =
    let e : z ≡ 0 = omega arith in
    rw (e, ← zero_rounds) (round_no_more false 0 1 r 0 (2 ^ 149) (zero-lt-suc 0) unit_pos (nought r))
  where
    nought : (r : Bool) → NoMore false (0 * 2 ^ 149) r (0 * 1)
    nought true = zero-le
    nought false = zero-le

none_part : (t : ℕ) → part_units 0 t ≡ 0
unfolding part_units
none_part t = ap (λ (z : ℕ). grid binary32 z (2 ^ 149 * 2 ^ 149)) (mul_comm 0 t) ∙ part_none t

module _ (t : Float) (w : Weight t) (k : ℕ) (K : k ≤ 126) where
  -- a blend of zeros is a zero
  zeros_blend : le zero32 (blend_of zero32 zero32 t) ≡ true
  zeros_blend =
      let p = zero_blendable k in
      let u = value_units k zero32 p in
      let x = weight_units t w in
      let z = units_once zero32 u.negative false u.size 0 (2 ^ 149) u.exact (zero_in_units (2 ^ 149) unit_pos) in
      let first : part_units u.size (rest_units x.size) ≡ 0 = ap (λ (n : ℕ). part_units n (rest_units x.size)) z.1 ∙ none_part (rest_units x.size) in
      let second : part_units u.size x.size ≡ 0 = ap (λ (n : ℕ). part_units n x.size) z.1 ∙ none_part x.size in
      let r = blend_rounded t w k zero32 zero32 K p p in
      let l = net_most (unlike u.negative false) (part_units u.size (rest_units x.size)) (unlike u.negative x.negative) (part_units u.size x.size) r.negative r.size r.net in
      rw r.same (none_rounds r.negative r.size (omega (arith, l, first, second)))

  pub blend_not_negative : (a b : Float) → Blendable k a → Blendable k b → le zero32 a ≡ true → le zero32 b ≡ true → le zero32 (blend_of a b t) ≡ true
  blend_not_negative a b p q h g =
      let z = zero_blendable k in
      le_transitive zero32 (blend_of zero32 zero32 t) (blend_of a b t) zeros_blend (blend_no_more t w k zero32 zero32 a b K z z p q h g)

-- ---- from 0 to 1

pub weight_blendable : (x : Float) → Weight x → Blendable 0 x
weight_blendable x v = record { fit = v.fit; within = weight_within x v }

weight_of : (x : Float) → Blendable 0 x → le zero32 x ≡ true → Weight x
unfolding up_to
weight_of x p h = record { fit = p.fit; from_to = rw (h, (test_of_at_most x one32 1 0 one_value p.within).1) }

pub blend_unit : (t : Float) → Weight t → (a b : Float) → Weight a → Weight b → Weight (blend_of a b t)
blend_unit t w a b v u =
    let p = weight_blendable a v in
    let q = weight_blendable b u in
    weight_of (blend_of a b t) (blend_within t w 0 a b zero-le p q) (blend_not_negative t w 0 zero-le a b p q (weight_from a v).0 (weight_from b u).0)
