-- The bits of a number: what they are after one is changed, of a number put together from them, that they say which number it is, and their count.
use Rattle.std.specs.Prelude.{◌≡◌, refl, ◌⊎◌, Bool, true, false, cond, ℕ, zero, suc, ◌+◌, ◌-◌, ◌*◌, ◌/◌, ◌%◌, ◌^◌, ◌≤◌, ◌<◌, ltb, eqb}
use Rattle.std.proofs.Common.{sym, ap, ap₂, ◌∙◌, subst, inl, inr, arith, pow-suc, div-one, add-mul, add-zero, zero-add, mod-lt, lt_of_lt_of_le, pow_pos, pow_mono, pow-add, shr-shr, shr_lt, shl_exact, ltb-true, ltb-false, eqb-true}
use Rattle.std.proofs.Math.Nat.{div-eq_of_lt}
use Rattle.std.proofs.Math.Pow.{split, high, low, field, mod-mod-pow}
use Rattle.std.proofs.lemmas.Bool.{eqb-false}
use Rattle.std.proofs.Math.Arith.{lt_of_le-ne, digits_lt}
use Rattle.std.specs.Int.{from_bool}
use Rattle.std.specs.Int.Bits.{bit_or, or_zero_r}
use Rattle.std.proofs.lemmas.Nat.{or_block}
use Rattle.std.specs.Int.Count.{ones, ones_step, count_trailing_zeros, under}
use Rattle.lists.specs.Fold.{fold}
use Rattle.words.specs.Words.{bit_of, packed}
use Rattle.words.specs.ByWords.{put_bit}

-- two tests each of which follows from the other
pub alike : (a b : Bool) → (a ≡ true → b ≡ true) → (b ≡ true → a ≡ true) → a ≡ b
alike true b f g = sym (f refl)
alike false true f g = g refl
alike false false f g = refl

pub below_or_from : (a b : ℕ) → (a < b) ⊎ (b ≤ a)
below_or_from a b = go (ltb a b) refl
  where
    go : (t : Bool) → ltb a b ≡ t → (a < b) ⊎ (b ≤ a)
    go true e = inl (ltb-true a b e)
    go false e = inr (ltb-false a b e)

pub same_or_not : (a b : ℕ) → (a ≡ b) ⊎ (a ≡ b → ⊥)
same_or_not a b = go (eqb a b) refl
  where
    go : (t : Bool) → eqb a b ≡ t → (a ≡ b) ⊎ (a ≡ b → ⊥)
    go true e = inl (eqb-true a b e)
    go false e = inr (eqb-false a b e)

-- half of a number has its bits one place lower
pub bit_suc : (w j : ℕ) → bit_of w (suc j) ≡ bit_of (w / 2) j
bit_suc w j =
    let e : suc j ≡ 1 + j = omega arith in ap (λ (x : ℕ). w / 2 ^ x % 2) e ∙ ap (λ (x : ℕ). x % 2) (sym (shr-shr w 1 j))

pub bit_zero : (w : ℕ) → bit_of w 0 ≡ w % 2
bit_zero w = ap (λ (x : ℕ). x % 2) (div-one w)

pub bit_lt : (w j : ℕ) → bit_of w j < 2
bit_lt w j = omega arith

pub half_lt : (d w : ℕ) → w < 2 ^ suc d → w / 2 < 2 ^ d
half_lt d w h = omega (arith, pow-suc 2 d)

-- equal bits, equal numbers
pub bits_same : (d a b : ℕ) → a < 2 ^ d → b < 2 ^ d → ((j : ℕ) → j < d → bit_of a j ≡ bit_of b j) → a ≡ b
bits_same zero a b p q e = omega arith
bits_same (suc d) a b p q e =
    let ih : a / 2 ≡ b / 2 = bits_same d (a / 2) (b / 2) (half_lt d a p) (half_lt d b q) (λ j h. sym (bit_suc a j) ∙ e (suc j) (omega arith) ∙ bit_suc b j) in
    let z : a % 2 ≡ b % 2 = sym (bit_zero a) ∙ e 0 (omega arith) ∙ bit_zero b in
    omega arith

-- no bit set: 0
pub zero_bits : (j : ℕ) → bit_of 0 j ≡ 0
zero_bits zero = bit_zero 0
zero_bits (suc j) = bit_suc 0 j ∙ zero_bits j

-- a number but 0 has a bit set
pub some_bit : (d w : ℕ) → w < 2 ^ d → 0 < w → (j : ℕ) × (j < d) × (bit_of w j ≡ 1)
some_bit zero w h p = absurd (omega arith)
some_bit (suc d) w h p = go (same_or_not (w % 2) 1) (λ q. some_bit d (w / 2) (half_lt d w h) q)
  where
    go : (w % 2 ≡ 1) ⊎ (w % 2 ≡ 1 → ⊥) → (0 < w / 2 → (j : ℕ) × (j < d) × (bit_of (w / 2) j ≡ 1)) → (j : ℕ) × (j < suc d) × (bit_of w j ≡ 1)
    go (inl e) rest = (0, omega arith, bit_zero w ∙ e)
    go (inr ne) rest = let r = rest (omega arith) in (suc r.0, omega (arith, r.1), bit_suc w r.0 ∙ r.2)

-- ---- a number put together from its bits

-- a test as a number
pub bit_is : (b : Bool) → from_bool b ≡ cond b 1 0
bit_is true = refl
bit_is false = refl

pub one_below : (b : Bool) → cond {A = ℕ} b 1 0 < 2
one_below true = omega arith
one_below false = omega arith

pub packed_lt : (f : ℕ → Bool) (d i : ℕ) → packed f d i < 2 ^ d
unfolding packed
packed_lt f zero i = omega arith
packed_lt f (suc d) i = omega (arith, one_below (f i), packed_lt f d (i + 1), pow-suc 2 d)

pub packed_bit : (f : ℕ → Bool) (d i j : ℕ) → j < d → bit_of (packed f d i) j ≡ cond (f (i + j)) 1 0
unfolding packed
packed_bit f zero i j h = absurd (omega arith)
packed_bit f (suc d) i zero h =
    let e : i ≡ i + 0 = omega arith in
    bit_zero (cond (f i) 1 0 + 2 * packed f d (i + 1)) ∙ omega (arith, one_below (f i)) ∙ ap (λ (x : ℕ). cond {A = ℕ} (f x) 1 0) e
packed_bit f (suc d) i (suc j) h =
    let w : ℕ = cond (f i) 1 0 + 2 * packed f d (i + 1) in
    let s : w / 2 ≡ packed f d (i + 1) = omega (arith, one_below (f i)) in
    let e : i + 1 + j ≡ i + suc j = omega arith in
    bit_suc w j ∙ ap (λ (x : ℕ). bit_of x j) s ∙ packed_bit f d (i + 1) j (omega arith) ∙ ap (λ (x : ℕ). cond {A = ℕ} (f x) 1 0) e

-- one bit more at the low end, where j of the 64 are still to come
pub packed_next : (f : ℕ → Bool) (first j : ℕ) → 0 < j → j ≤ 64
    → cond (f (first + (j - 1))) 1 0 + 2 * packed f (64 - j) (first + j) ≡ packed f (64 - (j - 1)) (first + (j - 1))
unfolding packed
packed_next f first j p q =
    let e : 64 - (j - 1) ≡ suc (64 - j) = omega arith in
    let a : first + j ≡ first + (j - 1) + 1 = omega arith in
    rw (e, a) refl

-- and there is room for it
pub packed_room : (f : ℕ → Bool) (first j : ℕ) → 0 < j → packed f (64 - j) (first + j) < 2 ^ 63
packed_room f first j p = lt_of_lt_of_le (packed_lt f (64 - j) (first + j)) (pow_mono {i = 64 - j} {j = 63} (omega arith))

-- no bit: 0
pub packed_none : (f : ℕ → Bool) (d i : ℕ) → ((j : ℕ) → i ≤ j → f j ≡ false) → packed f d i ≡ 0
unfolding packed
packed_none f zero i e = refl
packed_none f (suc d) i e = rw (e i (omega arith), packed_none f d (i + 1) (λ j p. e j (omega arith))) refl

-- eight bits, lowest first
pub packed_eight : (f : ℕ → Bool) (i : ℕ)
    → cond (f i) 1 0 + cond (f (i + 1)) 1 0 * 2 + cond (f (i + 2)) 1 0 * 4 + cond (f (i + 3)) 1 0 * 8 + cond (f (i + 4)) 1 0 * 16 + cond (f (i + 5)) 1 0 * 32 + cond (f (i + 6)) 1 0 * 64 + cond (f (i + 7)) 1 0 * 128
    ≡ packed f 8 i
unfolding packed
packed_eight f i =
    let e₂ : i + 2 ≡ i + 1 + 1 = omega arith in
    let e₃ : i + 3 ≡ i + 1 + 1 + 1 = omega arith in
    let e₄ : i + 4 ≡ i + 1 + 1 + 1 + 1 = omega arith in
    let e₅ : i + 5 ≡ i + 1 + 1 + 1 + 1 + 1 = omega arith in
    let e₆ : i + 6 ≡ i + 1 + 1 + 1 + 1 + 1 + 1 = omega arith in
    let e₇ : i + 7 ≡ i + 1 + 1 + 1 + 1 + 1 + 1 + 1 = omega arith in
    rw (e₂, e₃, e₄, e₅, e₆, e₇) (omega arith)

-- and eight more at the low end
pub packed_eight_more : (f : ℕ → Bool) (d i : ℕ) → packed f 8 i + 256 * packed f d (i + 8) ≡ packed f (8 + d) i
unfolding packed
packed_eight_more f d i =
    let e : i + 8 ≡ i + 1 + 1 + 1 + 1 + 1 + 1 + 1 + 1 = omega arith in
    let n : 8 + d ≡ suc (suc (suc (suc (suc (suc (suc (suc d))))))) = omega arith in
    rw (e, n) (omega arith)

-- so where j eights of eight are still to come
pub packed_eight_next : (f : ℕ → Bool) (first j : ℕ) → 0 < j → j ≤ 8
    → packed f 8 (first + (j - 1) * 8) + 256 * packed f (64 - j * 8) (first + j * 8) ≡ packed f (64 - (j - 1) * 8) (first + (j - 1) * 8)
packed_eight_next f first j p q =
    let e : 64 - (j - 1) * 8 ≡ 8 + (64 - j * 8) = omega arith in
    let a : first + j * 8 ≡ first + (j - 1) * 8 + 8 = omega arith in
    rw (e, a) (packed_eight_more f (64 - j * 8) (first + (j - 1) * 8))

pub packed_eight_room : (f : ℕ → Bool) (first j : ℕ) → 0 < j → packed f (64 - j * 8) (first + j * 8) < 2 ^ 56
packed_eight_room f first j p = lt_of_lt_of_le (packed_lt f (64 - j * 8) (first + j * 8)) (pow_mono {i = 64 - j * 8} {j = 56} (omega arith))

pub packed_same : (f g : ℕ → Bool) (d i : ℕ) → ((j : ℕ) → i ≤ j → j < i + d → f j ≡ g j) → packed f d i ≡ packed g d i
unfolding packed
packed_same f g zero i e = refl
packed_same f g (suc d) i e =
    ap₂ (λ (b : Bool) (x : ℕ). cond {A = ℕ} b 1 0 + 2 * x) (e i (omega arith) (omega arith)) (packed_same f g d (i + 1) (λ j p q. e j (omega arith) (omega arith)))

-- ---- a number with one bit changed

-- a number in three parts: what lies above bit k, bit k, and what lies below
module _ (h v l k : ℕ) (pv : v < 2) (pl : l < 2 ^ k) where
  -- bit k is the middle part
  pub middle_bit : bit_of ((h * 2 + v) * 2 ^ k + l) k ≡ v
  middle_bit = ap (λ (x : ℕ). x % 2) (high (h * 2 + v) k pl) ∙ omega arith

  -- a lower bit is the lower part's
  pub lower_bit : (j : ℕ) → j < k → bit_of ((h * 2 + v) * 2 ^ k + l) j ≡ bit_of l j
  lower_bit j p =
      let x : ℕ = (h * 2 + v) * 2 ^ k + l in
      let m : ℕ = k - j - 1 in
      let e : m + 1 + j ≡ k = omega arith in
      let c : x % 2 ^ (m + 1 + j) ≡ l = ap (λ (y : ℕ). x % 2 ^ y) e ∙ low (h * 2 + v) k pl in
      sym (mod-mod-pow (x / 2 ^ j) m 1) ∙ ap (λ (y : ℕ). y % 2) (sym (field x (m + 1) j) ∙ ap (λ (y : ℕ). y / 2 ^ j) c)

  -- a higher bit is the higher part's
  pub higher_bit : (j : ℕ) → k < j → bit_of ((h * 2 + v) * 2 ^ k + l) j ≡ bit_of h (j - k - 1)
  higher_bit j p =
      let x : ℕ = (h * 2 + v) * 2 ^ k + l in
      let m : ℕ = j - k - 1 in
      let e : j ≡ k + 1 + m = omega arith in
      let a : x / 2 ^ (k + 1) ≡ h = sym (shr-shr x k 1) ∙ ap (λ (y : ℕ). y / 2) (high (h * 2 + v) k pl) ∙ omega arith in
      ap (λ (y : ℕ). x / 2 ^ y % 2) e ∙ ap (λ (y : ℕ). y % 2) (sym (shr-shr x (k + 1) m) ∙ ap (λ (y : ℕ). y / 2 ^ m) a)

module _ (w k : ℕ) where
  -- w in those parts
  pub in_parts : w ≡ (w / 2 ^ k / 2 * 2 + bit_of w k) * 2 ^ k + w % 2 ^ k
  in_parts =
      let q : w / 2 ^ k / 2 * 2 + bit_of w k ≡ w / 2 ^ k = omega arith in
      sym (split w k) ∙ ap (λ (y : ℕ). y * 2 ^ k + w % 2 ^ k) (sym q)

  below_k : w % 2 ^ k < 2 ^ k
  below_k = mod-lt w (pow_pos k)

  -- the bits below k are those of the lower part
  pub low_bit : (j : ℕ) → j < k → bit_of (w % 2 ^ k) j ≡ bit_of w j
  low_bit j p = sym (ap (λ (y : ℕ). bit_of y j) in_parts ∙ lower_bit (w / 2 ^ k / 2) (bit_of w k) (w % 2 ^ k) k (bit_lt w k) below_k j p)

  pub put_parts : (v : ℕ) → put_bit w k v ≡ (w / 2 ^ k / 2 * 2 + v) * 2 ^ k + w % 2 ^ k
  put_parts v =
      let h : ℕ = w / 2 ^ k / 2 * 2 in
      omega (arith, in_parts, add-mul h (bit_of w k) (2 ^ k), add-mul h v (2 ^ k))

  pub put_bit_lem : (v : ℕ) → v < 2 → bit_of (put_bit w k v) k ≡ v
  put_bit_lem v p = ap (λ (y : ℕ). bit_of y k) (put_parts v) ∙ middle_bit (w / 2 ^ k / 2) v (w % 2 ^ k) k p below_k

  pub put_other : (v j : ℕ) → v < 2 → (j ≡ k → ⊥) → bit_of (put_bit w k v) j ≡ bit_of w j
  put_other v j p ne = ap (λ (y : ℕ). bit_of y j) (put_parts v) ∙ go (below_or_from j k) ∙ sym (ap (λ (y : ℕ). bit_of y j) in_parts)
    where
      go : (j < k) ⊎ (k ≤ j) → bit_of ((w / 2 ^ k / 2 * 2 + v) * 2 ^ k + w % 2 ^ k) j ≡ bit_of ((w / 2 ^ k / 2 * 2 + bit_of w k) * 2 ^ k + w % 2 ^ k) j
      go (inl q) = lower_bit _ v _ k p below_k j q ∙ sym (lower_bit _ (bit_of w k) _ k (bit_lt w k) below_k j q)
      go (inr q) = let r : k < j = lt_of_le-ne q (λ e. ne (sym e)) in higher_bit _ v _ k p below_k j r ∙ sym (higher_bit _ (bit_of w k) _ k (bit_lt w k) below_k j r)

  -- a word stays a word
  pub put_lt : (v d : ℕ) → v < 2 → k < d → w < 2 ^ d → put_bit w k v < 2 ^ d
  put_lt v d p q r =
      let m : ℕ = d - k - 1 in
      let e : d ≡ m + 1 + k = omega arith in
      let a : w / 2 ^ k < 2 ^ (m + 1) = shr_lt (m + 1) k (subst (λ (y : ℕ). w < 2 ^ y) e r) in
      let b : w / 2 ^ k / 2 < 2 ^ m = shr_lt m 1 a in
      let s : w / 2 ^ k / 2 * 2 + v < 2 ^ m * 2 = omega arith in
      let t : (w / 2 ^ k / 2 * 2 + v) * 2 ^ k + w % 2 ^ k < 2 ^ m * 2 * 2 ^ k = digits_lt s below_k in
      let u : 2 ^ m * 2 * 2 ^ k ≡ 2 ^ d = ap (λ (y : ℕ). y * 2 ^ k) (sym (pow-add 2 m 1)) ∙ sym (pow-add 2 (m + 1) k) ∙ ap (λ (y : ℕ). 2 ^ y) (sym e) in
      omega (arith, put_parts v)

-- what the code shifts stays within the word
pub shifted : (v k : ℕ) → v < 2 → k < 64 → (v * 2 ^ k) % 2 ^ 64 ≡ v * 2 ^ k
shifted v k p q = shl_exact 1 k 64 p (omega arith)

-- the bit that is taken away is there
pub bit_below : (w k : ℕ) → bit_of w k * 2 ^ k ≤ w
bit_below w k = omega (arith, in_parts w k, add-mul (w / 2 ^ k / 2 * 2) (bit_of w k) (2 ^ k))

-- `|` sets a bit
low_set : (b : ℕ) → b < 2 → bit_or b 1 ≡ 1
low_set zero h = refl
low_set (suc zero) h = refl
low_set (suc (suc b)) h = absurd (omega arith)

pub or_puts : (w k : ℕ) → bit_or w (2 ^ k) ≡ put_bit w k 1
or_puts w k =
    let h : ℕ = w / 2 ^ k / 2 in
    let b : ℕ = bit_of w k in
    let l : ℕ = w % 2 ^ k in
    let e : 2 ^ k ≡ 1 * 2 ^ k + 0 = omega arith in
    let top : bit_or (h * 2 ^ 1 + b) (0 * 2 ^ 1 + 1) ≡ bit_or h 0 * 2 ^ 1 + bit_or b 1 = or_block 1 h 0 b 1 (bit_lt w k) (omega arith) in
    let set_there : bit_or (h * 2 + b) 1 ≡ h * 2 + 1 = top ∙ ap₂ (λ (x y : ℕ). x * 2 + y) (or_zero_r h) (low_set b (bit_lt w k)) in
    ap₂ bit_or (in_parts w k) e ∙ or_block k (h * 2 + b) 1 l 0 (below_k w k) (pow_pos k)
    ∙ ap₂ (λ (x y : ℕ). x * 2 ^ k + y) set_there (or_zero_r l) ∙ sym (put_parts w k 1)

-- ---- the count of the set bits

-- how many of the k values from i on f gives, added
unfoldable pub total : (ℕ → ℕ) → ℕ → ℕ → ℕ
total f zero i = 0
total f (suc k) i = f i + total f k (i + 1)

pub total_same : (f g : ℕ → ℕ) (k i i' : ℕ) → ((j : ℕ) → j < k → f (i + j) ≡ g (i' + j)) → total f k i ≡ total g k i'
unfolding total
total_same f g zero i i' e = refl
total_same f g (suc k) i i' e =
    let z : f i ≡ g i' = ap f (sym (add-zero i)) ∙ e 0 (omega arith) ∙ ap g (add-zero i') in
    let s : total f k (i + 1) ≡ total g k (i' + 1) = total_same f g k (i + 1) (i' + 1) (λ j p.
    let a : i + 1 + j ≡ i + suc j = omega arith in
    let b : i' + suc j ≡ i' + 1 + j = omega arith in
    ap f a ∙ e (suc j) (omega arith) ∙ ap g b) in
    omega arith

-- the same as a fold
pub fold_total : (f : ℕ → ℕ) (k i s : ℕ) → fold (λ (j n : ℕ). n + f j) k i s ≡ s + total f k i
unfolding total fold
fold_total f zero i s = omega arith
fold_total f (suc k) i s = fold_total f k (i + 1) (s + f i) ∙ omega arith

-- in two runs
pub total_split : (f : ℕ → ℕ) (k m i : ℕ) → total f (k + m) i ≡ total f k i + total f m (i + k)
unfolding total
total_split f zero m i = ap (λ (y : ℕ). total f y i) (zero-add m) ∙ ap (total f m) (sym (add-zero i)) ∙ sym (zero-add (total f m (i + 0)))
total_split f (suc k) m i =
    let a : suc k + m ≡ suc (k + m) = omega arith in
    let b : i + 1 + k ≡ i + suc k = omega arith in
    let c : total f m (i + 1 + k) ≡ total f m (i + suc k) = ap (total f m) b in
    ap (λ (y : ℕ). total f y i) a ∙ omega (arith, total_split f k m (i + 1))

pub total_zero : (f : ℕ → ℕ) (k i : ℕ) → ((j : ℕ) → i ≤ j → f j ≡ 0) → total f k i ≡ 0
unfolding total
total_zero f zero i e = refl
total_zero f (suc k) i e = omega (arith, e i (omega arith), total_zero f k (i + 1) (λ j p. e j (omega arith)))

-- values of 0 and 1 add up to at most their number
pub total_most : (f : ℕ → ℕ) (k i : ℕ) → ((j : ℕ) → f j < 2) → total f k i ≤ k
unfolding total
total_most f zero i e = omega arith
total_most f (suc k) i e = omega (arith, e i, total_most f k (i + 1) e)

-- the set bits of a word are its ones
pub ones_total : (d w : ℕ) → w < 2 ^ d → total (bit_of w) d 0 ≡ ones w
unfolding total ones
ones_total zero w h = let e : w ≡ 0 = omega arith in sym (ap ones e)
ones_total (suc d) w h =
    let s : total (bit_of w) d (0 + 1) ≡ total (bit_of (w / 2)) d 0 = total_same (bit_of w) (bit_of (w / 2)) d (0 + 1) 0 (λ j p.
    let a : 0 + 1 + j ≡ suc j = omega arith in
    let b : j ≡ 0 + j = omega arith in
    ap (bit_of w) a ∙ bit_suc w j ∙ ap (bit_of (w / 2)) b) in
    omega (arith, bit_zero w, ones_step w, ones_total d (w / 2) (half_lt d w h))

-- those below place d are the ones of what they make
pub low_ones : (d w : ℕ) → total (bit_of w) d 0 ≡ ones (w % 2 ^ d)
low_ones d w = total_same (bit_of w) (bit_of (w % 2 ^ d)) d 0 0 (λ j h. sym (low_bit w d (0 + j) (omega arith))) ∙ ones_total d (w % 2 ^ d) (mod-lt w (pow_pos d))

-- ---- the lowest set bit

pub record Lowest (d w t : ℕ) : Type 0 where
  pub within : t < d
  pub there : bit_of w t ≡ 1
  pub none_below : (j : ℕ) → j < t → bit_of w j ≡ 0

pub lowest : (d w : ℕ) → w < 2 ^ d → 0 < w → Lowest d w (count_trailing_zeros d w)
unfolding count_trailing_zeros
lowest zero w h p = absurd (omega arith)
lowest (suc d) w h p = go (w % 2) refl (λ q. lowest d (w / 2) (half_lt d w h) q)
  where
    go : (b : ℕ) → w % 2 ≡ b → (0 < w / 2 → Lowest d (w / 2) (count_trailing_zeros d (w / 2))) → Lowest (suc d) w (under b (count_trailing_zeros d (w / 2)))
    go (suc b) e rest = record { within = omega arith; there = bit_zero w ∙ omega arith; none_below = λ j q. absurd (omega arith) }
    go zero e rest =
        let r = rest (omega arith) in
        record {
          within = omega (arith, r.within);
          there = bit_suc w (count_trailing_zeros d (w / 2)) ∙ r.there;
          none_below = λ j q. low j q r.none_below;
        }
      where
        low : (j : ℕ) → j < suc (count_trailing_zeros d (w / 2)) → ((k : ℕ) → k < count_trailing_zeros d (w / 2) → bit_of (w / 2) k ≡ 0) → bit_of w j ≡ 0
        low zero q r = bit_zero w ∙ e
        low (suc j) q r = bit_suc w j ∙ r j (omega arith)

-- the bits of a number shifted down
pub bit_shifted : (w a j : ℕ) → bit_of (w / 2 ^ a) j ≡ bit_of w (a + j)
bit_shifted w a j = ap (λ (x : ℕ). x % 2) (shr-shr w a j)

-- no bit past the last
pub bit_beyond : (w m j : ℕ) → w < 2 ^ m → m ≤ j → bit_of w j ≡ 0
bit_beyond w m j h q = ap (λ (x : ℕ). x % 2) (div-eq_of_lt (lt_of_lt_of_le h (pow_mono q)))
