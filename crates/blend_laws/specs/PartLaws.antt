-- A blend's two products and their sum, in units of 2 ^ -149: each is off by a part of 2 ^ -24 and half a unit at most. Assumes nothing.
use Rattle.std.specs.Prelude.{◌≡◌, Bool, ℕ, ◌+◌, ◌*◌, ◌^◌, ◌≤◌, ◌<◌, Float}
use Rattle.std.proofs.Common.{sym, ap, ◌∙◌, le_trans, le_of_eq, mul-zero, mul_assoc, mul_right_comm, add-mul, mul-pos, le_of_mul-le-mul_right, arith}
use Rattle.std.proofs.Math.Nat.{eq_of_mul-eq-mul_right}
use Rattle.std.specs.Float.{nan, inf, fin, binary32}
use Rattle.std.specs.Float.Ieee.{down}
use Rattle.std.specs.Float.Ieee.Fits.{down_pos}
use Rattle.std.specs.Float.Ieee.Exact.{HasValue}
use Rattle.std.specs.Float.Ieee.Scale.{grid}
use Rattle.blend_laws.specs.RoundErrors.{grid_error}
use Rattle.blend_laws.specs.Blendable.{part_units}
use Rattle.blend_laws.specs.WeightLaws.{unit_pos}

-- a number is so many units in one way
pub units_once : (x : Float) (s t : Bool) (a b c : ℕ) → HasValue x s a c → HasValue x t b c → (s ≡ t) × (a ≡ b)
units_once nan s t a b c v w = absurd v
units_once (inf p) s t a b c v w = absurd v
units_once (fin p m e) s t a b c v w = (sym v.0 ∙ w.0, eq_of_mul-eq-mul_right (down e) (down_pos e) a b (sym v.1 ∙ w.1))

-- ---- how far a product and a sum are off

-- without a factor u
without_over : (g n c u : ℕ) → 0 < u → g * u * 16777216 ≤ n * u * 16777217 + c * u * 8388608 → g * 16777216 ≤ n * 16777217 + c * 8388608
without_over g n c u U h =
    let l : g * 16777216 * u ≡ g * u * 16777216 = mul_right_comm g 16777216 u in
    let m : (n * 16777217 + c * 8388608) * u ≡ n * u * 16777217 + c * u * 8388608 = add-mul (n * 16777217) (c * 8388608) u ∙ ap (λ (x : ℕ). x + c * 8388608 * u) (mul_right_comm n 16777217 u) ∙ ap (λ (x : ℕ). n * u * 16777217 + x) (mul_right_comm c 8388608 u) in
    le_of_mul-le-mul_right (omega arith) U

without_under : (g n c u : ℕ) → 0 < u → n * u * 16777215 ≤ g * u * 16777216 + c * u * 8388608 → n * 16777215 ≤ g * 16777216 + c * 8388608
without_under g n c u U h =
    let l : n * 16777215 * u ≡ n * u * 16777215 = mul_right_comm n 16777215 u in
    let m : (g * 16777216 + c * 8388608) * u ≡ g * u * 16777216 + c * u * 8388608 = add-mul (g * 16777216) (c * 8388608) u ∙ ap (λ (x : ℕ). x + c * 8388608 * u) (mul_right_comm g 16777216 u) ∙ ap (λ (x : ℕ). g * u * 16777216 + x) (mul_right_comm c 8388608 u) in
    le_of_mul-le-mul_right (omega arith) U

-- a product
pub part_error : (a t : ℕ) → (part_units a t * 2 ^ 149 * 16777216 ≤ a * t * 16777217 + 2 ^ 149 * 8388608) × (a * t * 16777215 ≤ part_units a t * 2 ^ 149 * 16777216 + 2 ^ 149 * 8388608)
unfolding part_units
part_error a t =
    let u = 2 ^ 149 in
    let g = grid binary32 (a * t) (u * u) in
    let e = grid_error (a * t) (u * u) (mul-pos unit_pos unit_pos) in
    let s : g * (u * u) ≡ g * u * u = sym (mul_assoc g u u) in
    let f = rw s at e in
    (without_over (g * u) (a * t) u u unit_pos f.0, without_under (g * u) (a * t) u u unit_pos f.1)

-- a sum
pub sum_error : (z : ℕ) → (grid binary32 z (2 ^ 149) * 16777216 ≤ z * 16777217 + 8388608) × (z * 16777215 ≤ grid binary32 z (2 ^ 149) * 16777216 + 8388608)
sum_error z =
    let u = 2 ^ 149 in
    let e = grid_error z u unit_pos in
    (without_over (grid binary32 z u) z 1 u unit_pos e.0, without_under (grid binary32 z u) z 1 u unit_pos e.1)

-- by a weight of 0
pub part_none : (a : ℕ) → part_units a 0 ≡ 0
part_none a =
    let h : part_units a 0 * 16777216 * 2 ^ 149 ≤ 8388608 * 2 ^ 149 = le_trans (le_of_eq (mul_right_comm (part_units a 0) 16777216 (2 ^ 149))) (le_trans (part_error a 0).0 (le_of_eq (ap (λ (x : ℕ). x * 16777217 + 2 ^ 149 * 8388608) (mul-zero a)))) in
    let g : part_units a 0 * 16777216 ≤ 8388608 = le_of_mul-le-mul_right h unit_pos in
    omega arith
