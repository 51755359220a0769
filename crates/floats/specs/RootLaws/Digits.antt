-- `closest_root` gives the whole number nearest to √n; and an f32's units, cut by the powers of 4 that `fours` counts, lose nothing. Assumes nothing.
use Rattle.std.specs.Prelude.{◌≡◌, refl, ℕ, zero, suc, ◌+◌, ◌-◌, ◌*◌, ◌/◌, ◌^◌, ◌≤◌, ◌<◌, Bool, true, false, not, cond, T, leb}
use Rattle.std.proofs.Common.{sym, ap, ◌∙◌, subst, le_trans, le_of_eq, lt_of_lt_of_le, lt_of_not-le, lt_irrefl, mul-le-mul, mul-le-mul_right, mul_assoc, mul-pos, mul-div_cancel, pow-suc, div-lt_iff_lt-mul, le-div_iff_mul-le, arith, leb→le, pow_pos, pow_mono, pow-add, shl_lt}
use Rattle.std.proofs.Math.Nat.{mul-mul-mul_comm}
use Rattle.std.proofs.Math.Decide.{dec_le}
use Rattle.std.proofs.Math.Dec.{nleb→lt}
use Rattle.std.specs.Float.Ieee.{size}
use Rattle.std.specs.Float.Ieee.Digits.{size-lt, size_reaches, size-le, back}
use Rattle.floats.specs.Root.{whole_root, closest_root, fours}
use Rattle.floats.specs.RootParts.{Near, Rounds}
use Rattle.floats.specs.RootLaws.Square.{sq_suc, rounds}

-- ---- the whole part of a root
four_pow : (k : ℕ) → 4 ^ k ≡ 2 ^ k * 2 ^ k
four_pow zero = refl
four_pow (suc k) = pow-suc 4 k ∙ ap (λ (z : ℕ). z * 4) (four_pow k) ∙ mul-mul-mul_comm (2 ^ k) (2 ^ k) 2 2 ∙ sym (ap (λ (z : ℕ). z * z) (pow-suc 2 k))

abbrev Whole : ℕ → ℕ → Type 0
Whole n w = (w * w ≤ n) × (n < (w + 1) * (w + 1))

-- from the whole part v of √(n / 4) to that of √n
next : (v n : ℕ) → Whole (n / 4) v → (b : Bool) → (T b → (2 * v + 1) * (2 * v + 1) ≤ n) → (T (not b) → n < (2 * v + 1) * (2 * v + 1)) → Whole n (cond b (2 * v + 1) (2 * v))
next v n i true f g = (f tt, omega (arith, sq_suc v, sq_suc (2 * v + 1), sq_suc (2 * v), mul-mul-mul_comm 2 v 2 v))
next v n i false f g = (omega (arith, mul-mul-mul_comm 2 v 2 v), g tt)

whole_root_lem : (k n : ℕ) → n < 4 ^ k → Whole n (whole_root k n)
unfolding whole_root
whole_root_lem zero n h = (omega arith, omega arith)
whole_root_lem (suc k) n h =
    let v = whole_root k (n / 4) in
    let l : n < 4 ^ k * 4 = subst (λ (z : ℕ). n < z) (pow-suc 4 k) h in
    let s = (2 * v + 1) * (2 * v + 1) in
    next v n (whole_root_lem k (n / 4) (omega arith)) (leb s n) (leb→le s n) (nleb→lt s n)

closest_root_lem : (k n : ℕ) → n < 4 ^ k → Near n → Rounds n (closest_root k n)
unfolding closest_root
closest_root_lem k n h N = go (leb n (r * r + r)) (leb→le n (r * r + r)) (nleb→lt n (r * r + r))
  where
    r : ℕ
    r = whole_root k n

    go : (b : Bool) → (T b → n ≤ r * r + r) → (T (not b) → r * r + r < n) → Rounds n (cond b r (r + 1))
    go true f g =
        let w = whole_root_lem k n h in
        let l = f tt in
        rounds n r N (pos r w.0 l) l
      where
        pos : (r : ℕ) → r * r ≤ n → n ≤ r * r + r → r * r < n + r
        pos zero a b = let m = N.least in omega arith
        pos (suc r) a b = omega arith
    go false f g =
        let w = whole_root_lem k n h in
        let l = g tt in
        rounds n (r + 1) N (omega (arith, sq_suc r)) (omega (arith, sq_suc r))

-- ---- the cut
pub record Cut (a : ℕ) : Type 0 where
  pub exact : a * 2 ^ 149 ≡ a * 2 ^ 149 / 4 ^ fours (a * 2 ^ 149) * (2 ^ fours (a * 2 ^ 149) * 2 ^ fours (a * 2 ^ 149))
  pub full : 70368744177664 ≤ a * 2 ^ 149 / 4 ^ fours (a * 2 ^ 149)
  pub rounds : Rounds (a * 2 ^ 149 / 4 ^ fours (a * 2 ^ 149)) (closest_root 24 (a * 2 ^ 149 / 4 ^ fours (a * 2 ^ 149)))
  pub room : closest_root 24 (a * 2 ^ 149 / 4 ^ fours (a * 2 ^ 149)) * 2 ^ fours (a * 2 ^ 149) < 2 ^ 277

-- k * 2 ^ t below 2 ^ 48, with k below 2 ^ 24
at_most : (k t : ℕ) → k < 16777216 → k * 2 ^ t < 281474976710656 → k * 2 ^ t ≤ 281474959933440
at_most k t h l = go (dec_le t 24)
  where
    go : Dec (t ≤ 24) → k * 2 ^ t ≤ 281474959933440
    go (yes g) = mul-le-mul {n₁ = k} {n₂ = 16777215} (omega arith) (pow_mono {i = t} {j = 24} g)
    go (no g) =
        let e : k * 2 ^ t ≡ k * 2 ^ (t - 24) * 16777216 = ap (λ (z : ℕ). k * 2 ^ z) (sym (back t 24 (omega arith))) ∙ ap (λ (z : ℕ). k * z) (pow-add 2 (t - 24) 24) ∙ sym (mul_assoc k (2 ^ (t - 24)) (2 ^ 24)) in
        omega arith

-- n of z digits
module _ (n z : ℕ) (lo : (j : ℕ) → j < z → 2 ^ j ≤ n) (hi : n < 2 ^ z) (big : 47 ≤ z) where
  cut_least : 70368744177664 ≤ n / 4 ^ ((z - 47) / 2)
  cut_least =
      let k = (z - 47) / 2 in
      (le-div_iff_mul-le (subst (λ (t : ℕ). 0 < t) (sym (four_pow k)) (mul-pos (pow_pos k) (pow_pos k)))).1
      (le_trans (le_of_eq (ap (λ (t : ℕ). 2 ^ 46 * t) (four_pow k ∙ sym (pow-add 2 k k)) ∙ sym (pow-add 2 46 (k + k)))) (lo (46 + (k + k)) (omega arith)))

  cut_most : n / 4 ^ ((z - 47) / 2) < 281474976710656
  cut_most =
      let k = (z - 47) / 2 in
      (div-lt_iff_lt-mul (subst (λ (t : ℕ). 0 < t) (sym (four_pow k)) (mul-pos (pow_pos k) (pow_pos k)))).1
      (lt_of_lt_of_le hi (le_trans (pow_mono {i = z} {j = 48 + (k + k)} (omega arith)) (le_of_eq (pow-add 2 48 (k + k) ∙ ap (λ (t : ℕ). 2 ^ 48 * t) (pow-add 2 k k ∙ sym (four_pow k))))))

pub cut_of : (a k i : ℕ) → a ≡ k * 2 ^ i → k < 16777216 → 0 < a → a < 2 ^ 277 → Cut a
cut_of a k i e h p l =
    let n = a * 2 ^ 149 in
    let z = size n in
    let K = fours n in
    let q = n / 4 ^ K in
    let small : z ≤ 426 = size-le n 426 (shl_lt 277 149 l) in
    let big : 149 < z = reaches n 149 (mul-le-mul_right {m = 1} {n = a} (2 ^ 149) p) in
    let j = i + 149 in
    let same : n ≡ k * 2 ^ j = ap (λ (t : ℕ). t * 2 ^ 149) e ∙ mul_assoc k (2 ^ i) (2 ^ 149) ∙ ap (λ (t : ℕ). k * t) (sym (pow-add 2 i 149)) in
    let digits : z ≤ 24 + j = size-le n (24 + j) (subst (λ (t : ℕ). t < 2 ^ (24 + j)) (sym same) (shl_lt 24 j h)) in
    let t = j - (K + K) in
    let split : n ≡ k * 2 ^ t * 4 ^ K = same ∙ ap (λ (s : ℕ). k * 2 ^ s) (sym (back j (K + K) (omega arith))) ∙ ap (λ (s : ℕ). k * s) (pow-add 2 t (K + K)) ∙ sym (mul_assoc k (2 ^ t) (2 ^ (K + K))) ∙ ap (λ (s : ℕ). k * 2 ^ t * s) (pow-add 2 K K ∙ sym (four_pow K)) in
    let whole : q ≡ k * 2 ^ t = ap (λ (s : ℕ). s / 4 ^ K) split ∙ mul-div_cancel (k * 2 ^ t) (subst (λ (s : ℕ). 0 < s) (sym (four_pow K)) (mul-pos (pow_pos K) (pow_pos K))) in
    let least : 70368744177664 ≤ q = cut_least n z (size_reaches n) (size-lt n) (omega arith) in
    let most : q < 281474976710656 = cut_most n z (size_reaches n) (size-lt n) (omega arith) in
    let near : q ≤ 281474959933440 = subst (λ (s : ℕ). s ≤ 281474959933440) (sym whole) (at_most k t h (subst (λ (s : ℕ). s < 281474976710656) whole most)) in
    let R = closest_root_lem 24 q most (record { least = least; most = near }) in
    record {
      exact = split ∙ ap (λ (s : ℕ). s * 4 ^ K) (sym whole) ∙ ap (λ (s : ℕ). q * s) (four_pow K);
      full = least;
      rounds = R;
      room = lt_of_lt_of_le (shl_lt 24 K R.most) (pow_mono {i = 24 + K} {j = 277} (omega arith));
    }
  where
    reaches : (n j : ℕ) → 2 ^ j ≤ n → j < size n
    reaches n j h = lt_of_not-le (λ (g : size n ≤ j). lt_irrefl n (lt_of_lt_of_le (size-lt n) (le_trans (pow_mono g) h)))
