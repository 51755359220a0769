-- The next marked voxel: a run of unmarked ones is passed over, and the lowest bit of what is left of a word is the next.
use Rattle.std.specs.Prelude.{◌≡◌, Bool, List, ◌⊎◌, eqb, get_or}
use Rattle.std.proofs.Math.Path.{refl, sym, ap, subst}
use Rattle.std.proofs.Common.{ap₂, ◌∙◌, inl, inr, add-zero, lt_of_le_of_lt}
use Rattle.std.proofs.Math.Bool.{true, false, cond}
use Prim.Native.Nat.{ℕ, zero, suc, ◌+◌, ◌-◌, ◌*◌, ◌/◌, ◌%◌, ◌^◌, ◌≤◌, ◌<◌}
use native.Mathlib.Omega.{arith}
use Rattle.std.specs.Int.Count.{count_trailing_zeros}
use Rattle.std.proofs.lemmas.Nat.{shr_le}
use Rattle.lists.specs.Fold.{ahead}
use Rattle.marks.specs.Marks.{is_marked}
use Rattle.words.specs.Words.{bit_of, bit_at, entries_of, AreWords, Tidy}
use Rattle.words.specs.ByWords.{next_from}
use Rattle.words.specs.BitLaws.{below_or_from, zero_bits, Lowest, lowest, bit_shifted, bit_beyond}
use Rattle.words.specs.WordsLaws.{entries_at, entries_past, clean_bits}

module _ (f : ℕ → Bool) (n : ℕ) where
  pub first_end : (i : ℕ) → n ≤ i → next_from f n (n - i) i ≡ n
  unfolding next_from
  first_end i h = let z : n - i ≡ 0 = omega arith in rw z refl

  pub first_here : (i : ℕ) → i < n → f i ≡ true → next_from f n (n - i) i ≡ i
  unfolding next_from
  first_here i h e = rw (ahead i n h, e) refl

  -- m numbers of which f does not hold are passed over
  pub first_skip : (m i : ℕ) → ((j : ℕ) → j < m → f (i + j) ≡ false) → next_from f n (n - i) i ≡ next_from f n (n - (i + m)) (i + m)
  unfolding next_from
  first_skip zero i e = ap (λ (x : ℕ). next_from f n (n - x) x) (sym (add-zero i))
  first_skip (suc m) i e = go (below_or_from i n) (first_skip m (i + 1) (λ j h. let a : i + 1 + j ≡ i + suc j = omega arith in ap f a ∙ e (suc j) (omega arith)))
    where
      go : (i < n) ⊎ (n ≤ i) → next_from f n (n - (i + 1)) (i + 1) ≡ next_from f n (n - (i + 1 + m)) (i + 1 + m) → next_from f n (n - i) i ≡ next_from f n (n - (i + suc m)) (i + suc m)
      go (inr h) ih = first_end i h ∙ sym (first_end (i + suc m) (omega arith))
      go (inl h) ih =
          let s : next_from f n (n - i) i ≡ next_from f n (n - (i + 1)) (i + 1) = let z : f i ≡ false = ap f (sym (add-zero i)) ∙ e 0 (omega arith) in rw (ahead i n h, z) refl in
          let a : i + 1 + m ≡ i + suc m = omega arith in
          s ∙ ih ∙ ap (λ (x : ℕ). next_from f n (n - x) x) a

  -- what passes from each number to the next where f does not hold passes to the next of which it holds
  pub next_carries : (P : ℕ → Type 0) → ((j : ℕ) → j < n → f j ≡ false → P j → P (j + 1)) → (k i : ℕ) → i + k ≡ n → P i → P (next_from f n k i)
  unfolding next_from
  next_carries P on zero i h p = let e : i ≡ n = omega arith in subst P e p
  next_carries P on (suc k) i h p = go (f i) refl (λ q. next_carries P on k (i + 1) (omega arith) q)
    where
      go : (b : Bool) → f i ≡ b → (P (i + 1) → P (next_from f n k (i + 1))) → P (cond b i (next_from f n k (i + 1)))
      go true e rest = p
      go false e rest = rest (on i (omega arith) e p)

  -- the next one lies from i on
  pub next_from_lem : (k i : ℕ) → i + k ≡ n → i ≤ next_from f n k i
  next_from_lem k i h = next_carries (λ j. i ≤ j) (λ j l e p. omega arith) k i h (omega arith)

  -- and of it f holds
  pub next_there : (k i : ℕ) → i + k ≡ n → next_from f n k i < n → f (next_from f n k i) ≡ true
  unfolding next_from
  next_there zero i h l = absurd (omega arith)
  next_there (suc k) i h l = go (f i) refl l (λ q. next_there k (i + 1) (omega arith) q)
    where
      go : (b : Bool) → f i ≡ b → cond b i (next_from f n k (i + 1)) < n → (next_from f n k (i + 1) < n → f (next_from f n k (i + 1)) ≡ true)
          → f (cond b i (next_from f n k (i + 1))) ≡ true
      go true e m rest = e
      go false e m rest = rest m

module _ (words : List ℕ) (n : ℕ) (a : AreWords words) (t : Tidy words n) where
  -- what an entry says is what the bit says, at every place
  pub marked_bit : (i : ℕ) → is_marked (entries_of words n) i ≡ eqb (bit_at words i) 1
  marked_bit i = ap (λ (x : ℕ). eqb x 1) (go (below_or_from i n))
    where
      go : (i < n) ⊎ (n ≤ i) → get_or (entries_of words n) i 0 ≡ bit_at words i
      go (inl h) = entries_at words n i h
      go (inr h) = entries_past words n i h ∙ sym (clean_bits words n t i h)

  -- the bits of the word of i from i on
  rest_bit : (i j : ℕ) → i % 64 + j < 64 → bit_at words (i + j) ≡ bit_of (get_or words (i / 64) 0 / 2 ^ (i % 64)) j
  rest_bit i j h =
      let d : (i + j) / 64 ≡ i / 64 = omega arith in
      let r : (i + j) % 64 ≡ i % 64 + j = omega arith in
      ap₂ (λ (x y : ℕ). bit_of (get_or words x 0) y) d r ∙ sym (bit_shifted (get_or words (i / 64) 0) (i % 64) j)

  -- none of them set: on with the next word
  pub next_word : (i : ℕ) → get_or words (i / 64) 0 / 2 ^ (i % 64) ≡ 0
      → next_from (is_marked (entries_of words n)) n (n - i) i ≡ next_from (is_marked (entries_of words n)) n (n - (i / 64 + 1) * 64) ((i / 64 + 1) * 64)
  next_word i z =
      let m : ℕ = 64 - i % 64 in
      let e : i + m ≡ (i / 64 + 1) * 64 = omega arith in
      first_skip (is_marked (entries_of words n)) n m i (λ j h.
      marked_bit (i + j) ∙ ap (λ (x : ℕ). eqb x 1) (rest_bit i j (omega arith) ∙ ap (λ (x : ℕ). bit_of x j) z ∙ zero_bits j))
      ∙ ap (λ (x : ℕ). next_from (is_marked (entries_of words n)) n (n - x) x) e

  -- the lowest of them
  pub next_here : (i : ℕ) → 0 < get_or words (i / 64) 0 / 2 ^ (i % 64)
      → next_from (is_marked (entries_of words n)) n (n - i) i ≡ i + count_trailing_zeros 64 (get_or words (i / 64) 0 / 2 ^ (i % 64))
  next_here i p =
      let w : ℕ = get_or words (i / 64) 0 / 2 ^ (i % 64) in
      let z : ℕ = count_trailing_zeros 64 w in
      let l : Lowest 64 w z = lowest 64 w (lt_of_le_of_lt (shr_le (get_or words (i / 64) 0) (i % 64)) (a (i / 64))) p in
      let short : i % 64 + z < 64 = within i l in
      let one : bit_at words (i + z) ≡ 1 = rest_bit i z short ∙ l.there in
      let inside : i + z < n = used (i + z) one in
      first_skip (is_marked (entries_of words n)) n z i (λ j h. marked_bit (i + j) ∙ ap (λ (x : ℕ). eqb x 1) (rest_bit i j (omega arith) ∙ l.none_below j h))
      ∙ first_here (is_marked (entries_of words n)) n (i + z) inside (marked_bit (i + z) ∙ ap (λ (x : ℕ). eqb x 1) one)
    where
      -- a set bit of what is left of a word lies in the word
      within : (i : ℕ) {t : ℕ} → Lowest 64 (get_or words (i / 64) 0 / 2 ^ (i % 64)) t → i % 64 + t < 64
      within i {t} l = go (below_or_from (i % 64 + t) 64)
        where
          go : (i % 64 + t < 64) ⊎ (64 ≤ i % 64 + t) → i % 64 + t < 64
          go (inl h) = h
          go (inr h) = absurd (omega (arith, l.there, bit_shifted (get_or words (i / 64) 0) (i % 64) t, bit_beyond (get_or words (i / 64) 0) 64 (i % 64 + t) (a (i / 64)) h))

      -- and no unused bit is set
      used : (j : ℕ) → bit_at words j ≡ 1 → j < n
      used j e = go (below_or_from j n)
        where
          go : (j < n) ⊎ (n ≤ j) → j < n
          go (inl h) = h
          go (inr h) = absurd (omega (arith, e, clean_bits words n t j h))
