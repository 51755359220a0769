-- Masks in words and masks of entries: each is the other's, reads and changes agree, and so do the counts.
use Rattle.std.proofs.Math.Path.{◌≡◌, sym, ap}
use Rattle.std.specs.Prelude.{refl, ◌⊎◌, Bool, false, cond, not, ◌&&◌, set}
use Rattle.std.proofs.Common.{ap₂, ◌∙◌, subst, inl, inr, zero-add, mod-eq_of_lt, pos_of_ne-zero, shr-shr, shr_lt, ext_get_or, get_or-set_same, get_or-set_other}
use Rattle.std.proofs.Math.Bool.{true, and-eq-true_iff}
use Rattle.std.proofs.lemmas.Bool.{false≢true}
use mathlib.Core.List.{List}
use Prim.Native.Nat.{ℕ, zero, suc, ◌+◌, ◌-◌, ◌*◌, ◌/◌, ◌%◌, ◌^◌, ◌≤◌, ◌<◌}
use native.Mathlib.Omega.{arith}
use Rattle.std.proofs.Math.Dec.{leb, eqb}
use borrow.Author.Tests.{eqb-true, eqb-false, eq-eqb, ne_eqb, leb-true, le-leb, not-true}
use Rattle.std.specs.Int.Count.{ones}
use Rattle.std.proofs.Math.ListN.{length, get_or, length-set, get_or-eq_default}
use Rattle.lists.specs.Fold.{tab, length_tab, get_or_tab, tab_same}
use Rattle.lists.specs.Any.{any, any_in, any_out}
use Rattle.marks.specs.Marks.{is_marked, marked_below, marked_count}
use Rattle.words.specs.Words.{bit_of, bit_at, entries_of, word_count, word_of, words_of, unused_set, AreWords, Tidy, Holds}
use Rattle.words.specs.ByWords.{put_bit, put_at, no_bits}
use Rattle.words.specs.BitLaws.{alike, below_or_from, same_or_not, bit_lt, bits_same, zero_bits, some_bit, packed_lt, packed_bit, put_bit_lem, put_other, put_lt, total, total_same, total_split, total_zero, total_most, fold_total, low_ones}

-- entries of 0 and 1
abbrev pub AreEntries : List ℕ → Type 0
AreEntries entries = (i : ℕ) → get_or entries i 0 < 2

-- a number that is 0 or 1 says whether it is 1
pub bit_says : (b : ℕ) → b < 2 → cond {A = ℕ} (eqb b 1) 1 0 ≡ b
bit_says zero h = refl
bit_says (suc zero) h = refl
bit_says (suc (suc b)) h = absurd (omega arith)

-- ---- entries of words

module _ (words : List ℕ) where
  pub bit_at_lt : (i : ℕ) → bit_at words i < 2
  bit_at_lt i = bit_lt _ _

  -- past the last word there is no bit
  pub bit_past : (i : ℕ) → length words ≤ i / 64 → bit_at words i ≡ 0
  bit_past i h = rw (get_or-eq_default words 0 h) (zero_bits _)

  pub entries_length : (n : ℕ) → length (entries_of words n) ≡ n
  unfolding entries_of
  entries_length n = length_tab (bit_at words) n 0

  pub entries_at : (n i : ℕ) → i < n → get_or (entries_of words n) i 0 ≡ bit_at words i
  unfolding entries_of
  entries_at n i h = get_or_tab (bit_at words) n 0 i 0 h ∙ ap (bit_at words) (zero-add i)

  pub entries_past : (n i : ℕ) → n ≤ i → get_or (entries_of words n) i 0 ≡ 0
  entries_past n i h = get_or-eq_default (entries_of words n) 0 (omega (arith, entries_length n))

  pub entries_are : (n : ℕ) → AreEntries (entries_of words n)
  entries_are n i = go (below_or_from i n)
    where
      go : (i < n) ⊎ (n ≤ i) → get_or (entries_of words n) i 0 < 2
      go (inl h) = omega (arith, entries_at n i h, bit_at_lt i)
      go (inr h) = omega (arith, entries_past n i h)

-- ---- words of entries

module _ (entries : List ℕ) where
  pub words_length : length (words_of entries) ≡ word_count (length entries)
  unfolding words_of
  words_length = length_tab (word_of entries) (word_count (length entries)) 0

  pub words_at : (k : ℕ) → k < word_count (length entries) → get_or (words_of entries) k 0 ≡ word_of entries k
  unfolding words_of
  words_at k h = get_or_tab (word_of entries) (word_count (length entries)) 0 k 0 h ∙ ap (word_of entries) (zero-add k)

  pub words_are : AreWords (words_of entries)
  words_are k = go (below_or_from k (word_count (length entries)))
    where
      go : (k < word_count (length entries)) ⊎ (word_count (length entries) ≤ k) → get_or (words_of entries) k 0 < 2 ^ 64
      go (inl h) = omega (arith, words_at k h, packed_lt (is_marked entries) 64 (k * 64))
      go (inr h) = omega (arith, get_or-eq_default (words_of entries) 0 {n = k} (omega (arith, words_length)))

  past_unmarked : (i : ℕ) → length entries ≤ i → cond {A = ℕ} (is_marked entries i) 1 0 ≡ 0
  past_unmarked i h = ap (λ (x : ℕ). cond {A = ℕ} (eqb x 1) 1 0) (get_or-eq_default entries 0 h)

  -- bit i says whether entry i is marked
  pub words_bit : (i : ℕ) → bit_at (words_of entries) i ≡ cond (is_marked entries i) 1 0
  words_bit i = go (below_or_from (i / 64) (word_count (length entries)))
    where
      go : (i / 64 < word_count (length entries)) ⊎ (word_count (length entries) ≤ i / 64) → bit_at (words_of entries) i ≡ cond (is_marked entries i) 1 0
      go (inl h) =
          let e : i / 64 * 64 + i % 64 ≡ i = omega arith in
          ap (λ (w : ℕ). bit_of w (i % 64)) (words_at (i / 64) h) ∙ packed_bit (is_marked entries) 64 (i / 64 * 64) (i % 64) (omega arith)
          ∙ ap (λ (x : ℕ). cond {A = ℕ} (is_marked entries x) 1 0) e
      go (inr h) = bit_past (words_of entries) i (omega (arith, words_length)) ∙ sym (past_unmarked i (omega arith))

  -- the entries of a mask's words are the mask
  pub entries_words : AreEntries entries → entries_of (words_of entries) (length entries) ≡ entries
  entries_words h =
      ext_get_or 0 (entries_of (words_of entries) (length entries)) entries (entries_length (words_of entries) (length entries)) (λ i p.
      entries_at (words_of entries) (length entries) i (omega (arith, entries_length (words_of entries) (length entries)))
      ∙ words_bit i ∙ bit_says (get_or entries i 0) (h i))

-- ---- unused bits

module _ (words : List ℕ) (n : ℕ) where
  -- an unused bit set: there is one
  pub unclean_bit : unused_set words n ≡ true → (i : ℕ) × (n ≤ i) × (i / 64 < length words) × (bit_at words i ≡ 1)
  unfolding unused_set
  unclean_bit e =
      let s = any_out _ (length words * 64) 0 e in
      let p = (and-eq-true_iff _ _).0 s.3 in
      (s.0, leb-true n s.0 p.0, omega (arith, s.2), eqb-true (bit_at words s.0) 1 p.1)

  -- a set bit past the last voxel is an unused bit set
  pub bit_unclean : (i : ℕ) → n ≤ i → bit_at words i ≡ 1 → unused_set words n ≡ true
  unfolding unused_set
  bit_unclean i h e = go (below_or_from (i / 64) (length words))
    where
      go : (i / 64 < length words) ⊎ (length words ≤ i / 64) → any (λ k. leb n k && eqb (bit_at words k) 1) (length words * 64) 0 ≡ true
      go (inl p) = any_in _ (length words * 64) 0 i (omega arith) (omega arith) ((and-eq-true_iff _ _).1 (le-leb n i h, eq-eqb (bit_at words i) 1 e))
      go (inr p) = let z : ◌≡◌ {A = ℕ} 0 1 = sym (bit_past words i p) ∙ e in absurd (omega arith)

  -- no unused bit set: every bit past the last voxel is 0
  pub clean_bits : Tidy words n → (i : ℕ) → n ≤ i → bit_at words i ≡ 0
  clean_bits t i h = go (same_or_not (bit_at words i) 1)
    where
      go : (bit_at words i ≡ 1) ⊎ (bit_at words i ≡ 1 → ⊥) → bit_at words i ≡ 0
      go (inl e) = absurd (false≢true (sym t.clean ∙ bit_unclean i h e))
      go (inr o) = omega (arith, bit_at_lt words i)

  -- where the words are as many as n voxels take, whole words have no unused bit
  pub unused_none : length words ≡ word_count n → n % 64 ≡ 0 → unused_set words n ≡ false
  unused_none l z = go (unused_set words n) refl
    where
      go : (b : Bool) → unused_set words n ≡ b → b ≡ false
      go false e = refl
      go true e = let s = unclean_bit e in absurd (omega (arith, s.1, s.2))

  -- and else all unused bits stand in the last
  pub unused_word : AreWords words → length words ≡ word_count n → unused_set words n ≡ not (eqb (get_or words (n / 64) 0 / 2 ^ (n % 64)) 0)
  unused_word a l = alike (unused_set words n) (not (eqb rest 0)) there back
    where
      rest : ℕ
      rest = get_or words (n / 64) 0 / 2 ^ (n % 64)

      there : unused_set words n ≡ true → not (eqb rest 0) ≡ true
      there e =
          let s = unclean_bit e in
          let i : ℕ = s.0 in
          let k : i / 64 ≡ n / 64 = omega (arith, s.1, s.2) in
          let m : ℕ = i % 64 - n % 64 in
          let d : i % 64 ≡ n % 64 + m = omega (arith, s.1) in
          let b : bit_of rest m ≡ 1 =
          ap (λ (y : ℕ). y % 2) (shr-shr (get_or words (n / 64) 0) (n % 64) m) ∙ ap₂ (λ (x y : ℕ). bit_of (get_or words x 0) y) (sym k) (sym d) ∙ s.3
          in
          ap not (ne_eqb rest 0 (λ z. let o : ◌≡◌ {A = ℕ} 0 1 = sym (ap (λ (y : ℕ). bit_of y m) z ∙ zero_bits m) ∙ b in absurd (omega arith)))

      back : not (eqb rest 0) ≡ true → unused_set words n ≡ true
      back e =
          let m : ℕ = 64 - n % 64 in
          let r : m + n % 64 ≡ 64 = omega arith in
          let q : rest ≡ 0 → ⊥ = eqb-false rest 0 (not-true _ e) in
          let s = some_bit m rest (shr_lt m (n % 64) (subst (λ (y : ℕ). get_or words (n / 64) 0 < 2 ^ y) (sym r) (a (n / 64)))) (pos_of_ne-zero q) in
          let j : ℕ = s.0 in
          let b : j < m = s.1 in
          let d : (n + j) / 64 ≡ n / 64 = omega arith in
          let f : (n + j) % 64 ≡ n % 64 + j = omega arith in
          let one : bit_at words (n + j) ≡ 1 =
          ap₂ (λ (x y : ℕ). bit_of (get_or words x 0) y) d f ∙ ap (λ (y : ℕ). y % 2) (sym (shr-shr (get_or words (n / 64) 0) (n % 64) j)) ∙ s.2
          in
          bit_unclean (n + j) (omega arith) one

  -- the words of a tidy mask's entries are the mask
  pub words_entries : AreWords words → Tidy words n → words_of (entries_of words n) ≡ words
  words_entries a t =
      let e : List ℕ = entries_of words n in
      let c : length e ≡ n = entries_length words n in
      let l : length (words_of e) ≡ length words = words_length e ∙ ap word_count c ∙ sym t.long in
      ext_get_or 0 (words_of e) words l (λ k p. bits_same 64 (get_or (words_of e) k 0) (get_or words k 0) (words_are e k) (a k) (λ j h. bit k j h))
    where
      e : List ℕ
      e = entries_of words n

      read : (i : ℕ) → get_or e i 0 ≡ bit_at words i
      read i = go (below_or_from i n)
        where
          go : (i < n) ⊎ (n ≤ i) → get_or (entries_of words n) i 0 ≡ bit_at words i
          go (inl h) = entries_at words n i h
          go (inr h) = entries_past words n i h ∙ sym (clean_bits t i h)

      bit : (k j : ℕ) → j < 64 → bit_of (get_or (words_of e) k 0) j ≡ bit_of (get_or words k 0) j
      bit k j h =
          let d : (k * 64 + j) / 64 ≡ k = omega arith in
          let r : (k * 64 + j) % 64 ≡ j = omega arith in
          let i : ℕ = k * 64 + j in
          ap₂ (λ (x y : ℕ). bit_of (get_or (words_of e) x 0) y) (sym d) (sym r)
          ∙ words_bit e i ∙ ap (λ (x : ℕ). cond {A = ℕ} (eqb x 1) 1 0) (read i) ∙ bit_says (bit_at words i) (bit_at_lt words i)
          ∙ ap₂ (λ (x y : ℕ). bit_of (get_or words x 0) y) d r

-- ---- the words of a mask are tidy

module _ (words : List ℕ) (n : ℕ) where
  -- every bit past the last voxel 0: no unused bit set
  pub bits_clean : ((i : ℕ) → n ≤ i → bit_at words i ≡ 0) → unused_set words n ≡ false
  bits_clean z = go (unused_set words n) refl
    where
      go : (b : Bool) → unused_set words n ≡ b → unused_set words n ≡ false
      go true e = let s = unclean_bit words n e in let o : ◌≡◌ {A = ℕ} 0 1 = sym (z s.0 s.1) ∙ s.3 in absurd (omega arith)
      go false e = e

pub words_tidy : (entries : List ℕ) → Tidy (words_of entries) (length entries)
words_tidy entries = record {
  long = words_length entries;
  clean = bits_clean (words_of entries) (length entries) (λ i h. words_bit entries i ∙ past_unmarked entries i h);
}

-- ---- a bit changed

module _ (words : List ℕ) (i v : ℕ) (h : i / 64 < length words) (p : v < 2) where
  pub put_at_same : bit_at (put_at words i v) i ≡ v
  unfolding put_at
  put_at_same =
      ap (λ (w : ℕ). bit_of w (i % 64)) (get_or-set_same words (i / 64) (put_bit (get_or words (i / 64) 0) (i % 64) v) 0 h)
      ∙ put_bit_lem (get_or words (i / 64) 0) (i % 64) v p

  pub put_at_other : (j : ℕ) → (j ≡ i → ⊥) → bit_at (put_at words i v) j ≡ bit_at words j
  unfolding put_at
  put_at_other j ne = go (same_or_not (j / 64) (i / 64))
    where
      w : ℕ
      w = get_or words (i / 64) 0

      go : (j / 64 ≡ i / 64) ⊎ (j / 64 ≡ i / 64 → ⊥) → bit_of (get_or (set words (i / 64) (put_bit w (i % 64) v)) (j / 64) 0) (j % 64) ≡ bit_of (get_or words (j / 64) 0) (j % 64)
      go (inr d) = ap (λ (y : ℕ). bit_of y (j % 64)) (get_or-set_other words (i / 64) (j / 64) (put_bit w (i % 64) v) 0 d)
      go (inl e) =
          let o : j % 64 ≡ i % 64 → ⊥ = (λ r. ne (omega arith)) in
          ap (λ (y : ℕ). bit_of (get_or (set words (i / 64) (put_bit w (i % 64) v)) y 0) (j % 64)) e
          ∙ ap (λ (y : ℕ). bit_of y (j % 64)) (get_or-set_same words (i / 64) (put_bit w (i % 64) v) 0 h)
          ∙ put_other w (i % 64) v (j % 64) p o
          ∙ ap (λ (y : ℕ). bit_of (get_or words y 0) (j % 64)) (sym e)

  pub put_length : length (put_at words i v) ≡ length words
  unfolding put_at
  put_length = length-set words (i / 64) (put_bit (get_or words (i / 64) 0) (i % 64) v)

  pub put_are : AreWords words → AreWords (put_at words i v)
  unfolding put_at
  put_are a k = go (same_or_not k (i / 64))
    where
      w : ℕ
      w = get_or words (i / 64) 0

      go : (k ≡ i / 64) ⊎ (k ≡ i / 64 → ⊥) → get_or (set words (i / 64) (put_bit w (i % 64) v)) k 0 < 2 ^ 64
      go (inl e) = subst (λ (y : ℕ). y < 2 ^ 64) (sym (ap (λ (y : ℕ). get_or (set words (i / 64) (put_bit w (i % 64) v)) y 0) e ∙ get_or-set_same words (i / 64) (put_bit w (i % 64) v) 0 h)) (put_lt w (i % 64) v 64 p (omega arith) (a (i / 64)))
      go (inr d) = subst (λ (y : ℕ). y < 2 ^ 64) (sym (get_or-set_other words (i / 64) k (put_bit w (i % 64) v) 0 d)) (a k)

  -- the same entry is changed
  pub entries_put : (n : ℕ) → entries_of (put_at words i v) n ≡ set (entries_of words n) i v
  entries_put n =
      let l : length (entries_of (put_at words i v) n) ≡ n = entries_length (put_at words i v) n in
      ext_get_or 0 (entries_of (put_at words i v) n) (set (entries_of words n) i v) (l ∙ sym (length-set (entries_of words n) i v ∙ entries_length words n)) (λ j q.
      entries_at (put_at words i v) n j (omega arith) ∙ go j (omega arith) (same_or_not j i))
    where
      go : (j : ℕ) → j < n → (j ≡ i) ⊎ (j ≡ i → ⊥) → bit_at (put_at words i v) j ≡ get_or (set (entries_of words n) i v) j 0
      go j q (inl e) =
          ap (bit_at (put_at words i v)) e ∙ put_at_same
          ∙ sym (get_or-set_same (entries_of words n) i v 0 (omega (arith, entries_length words n))) ∙ ap (λ (y : ℕ). get_or (set (entries_of words n) i v) y 0) (sym e)
      go j q (inr d) = put_at_other j d ∙ sym (entries_at words n j q) ∙ sym (get_or-set_other (entries_of words n) i j v 0 d)

  -- and no unused bit is set
  pub put_tidy : (n : ℕ) → i < n → Tidy words n → Tidy (put_at words i v) n
  put_tidy n q t = record {
    long = put_length ∙ t.long;
    clean = bits_clean (put_at words i v) n (λ j r. put_at_other j (λ e. omega arith) ∙ clean_bits words n t j r);
  }

  -- what was held with that entry changed is held
  pub put_holds : (n : ℕ) {after : List ℕ} → i < n → Tidy words n → after ≡ put_at words i v → Holds after n (set (entries_of words n) i v)
  put_holds n {after} q t e =
      record {
        tidy = subst (λ (l : List ℕ). Tidy l n) (sym e) (put_tidy n q t);
        same = ap (λ (l : List ℕ). entries_of l n) e ∙ entries_put n;
      }

-- the words of a mask with an entry changed
pub put_words : (entries : List ℕ) (i v : ℕ) → i < length entries → v < 2 → put_at (words_of entries) i v ≡ words_of (set entries i v)
put_words entries i v h p =
    let w : List ℕ = words_of entries in
    let e : List ℕ = set entries i v in
    let inside : i / 64 < length w = omega (arith, words_length entries) in
    let l : length (put_at w i v) ≡ length (words_of e) = put_length w i v inside p ∙ words_length entries ∙ ap word_count (sym (length-set entries i v)) ∙ sym (words_length e) in
    ext_get_or 0 (put_at w i v) (words_of e) l (λ k q.
    bits_same 64 (get_or (put_at w i v) k 0) (get_or (words_of e) k 0) (put_are w i v inside p (words_are entries) k) (words_are e k) (λ j b.
    let d : (k * 64 + j) / 64 ≡ k = omega arith in
    let r : (k * 64 + j) % 64 ≡ j = omega arith in
    ap₂ (λ (x y : ℕ). bit_of (get_or (put_at w i v) x 0) y) (sym d) (sym r) ∙ go inside (k * 64 + j) (same_or_not (k * 64 + j) i) ∙ ap₂ (λ (x y : ℕ). bit_of (get_or (words_of e) x 0) y) d r))
  where
    go : i / 64 < length (words_of entries) → (j : ℕ) → (j ≡ i) ⊎ (j ≡ i → ⊥) → bit_at (put_at (words_of entries) i v) j ≡ bit_at (words_of (set entries i v)) j
    go inside j (inl e) =
        ap (bit_at (put_at (words_of entries) i v)) e ∙ put_at_same (words_of entries) i v inside p ∙ sym (bit_says v p)
        ∙ ap (λ (y : ℕ). cond {A = ℕ} (eqb y 1) 1 0) (sym (get_or-set_same entries i v 0 h)) ∙ sym (words_bit (set entries i v) i) ∙ ap (bit_at (words_of (set entries i v))) (sym e)
    go inside j (inr d) =
        put_at_other (words_of entries) i v inside p j d ∙ words_bit entries j
        ∙ ap (λ (y : ℕ). cond {A = ℕ} (eqb y 1) 1 0) (sym (get_or-set_other entries i j v 0 d)) ∙ sym (words_bit (set entries i v) j)

-- ---- counts

module _ (words : List ℕ) where
  -- the marks below p are the set bits below p
  pub marked_bits : (n p : ℕ) → p ≤ n → marked_below (entries_of words n) p ≡ total (bit_at words) p 0
  marked_bits n p h =
      let e : List ℕ = entries_of words n in
      fold_total (λ i. cond (is_marked e i) 1 0) p 0 0 ∙ zero-add _ ∙ total_same (λ i. cond (is_marked e i) 1 0) (bit_at words) p 0 0 (λ j q.
      ap (λ (y : ℕ). cond {A = ℕ} (eqb y 1) 1 0) (entries_at words n (0 + j) (omega arith)) ∙ bit_says (bit_at words (0 + j)) (bit_at_lt words (0 + j)))

  -- at most p
  pub bits_most : (p : ℕ) → total (bit_at words) p 0 ≤ p
  bits_most p = total_most (bit_at words) p 0 (bit_at_lt words)

  -- those below place r of word k: the ones of the words before it, and of its lowest r bits
  pub bits_part : (k r : ℕ) → r ≤ 64 → total (bit_at words) (k * 64) 0 + ones (get_or words k 0 % 2 ^ r) ≡ total (bit_at words) (k * 64 + r) 0
  bits_part k r h =
      let w : ℕ = get_or words k 0 in
      let here : total (bit_at words) r (0 + k * 64) ≡ total (bit_of w) r 0 = total_same (bit_at words) (bit_of w) r (0 + k * 64) 0 (λ j q.
      let d : (0 + k * 64 + j) / 64 ≡ k = omega arith in
      let m : (0 + k * 64 + j) % 64 ≡ 0 + j = omega arith in
      ap₂ (λ (x y : ℕ). bit_of (get_or words x 0) y) d m) in
      omega (arith, here, low_ones r w, total_split (bit_at words) (k * 64) r 0)

  -- and of all of it
  pub bits_word : AreWords words → (k : ℕ) → total (bit_at words) (k * 64) 0 + ones (get_or words k 0) ≡ total (bit_at words) ((k + 1) * 64) 0
  bits_word a k =
      let w : get_or words k 0 % 2 ^ 64 ≡ get_or words k 0 = mod-eq_of_lt (a k) in
      let n : k * 64 + 64 ≡ (k + 1) * 64 = omega arith in
      ap (λ (y : ℕ). total (bit_at words) (k * 64) 0 + ones y) (sym w) ∙ bits_part k 64 (omega arith) ∙ ap (λ (y : ℕ). total (bit_at words) y 0) n

  -- tidy words have no bit set from n on
  module _ (n : ℕ) (t : Tidy words n) where
    -- so that all the marks are counted below any place from n on
    pub ones_marked : (p : ℕ) → n ≤ p → total (bit_at words) p 0 ≡ marked_count (entries_of words n)
    unfolding marked_count
    ones_marked p h =
        let m : ℕ = p - n in
        let l : p ≡ n + m = omega arith in
        let unused : total (bit_at words) m (0 + n) ≡ 0 = total_zero (bit_at words) m (0 + n) (λ j q. clean_bits words n t j (omega arith)) in
        let used : total (bit_at words) p 0 ≡ total (bit_at words) n 0 + total (bit_at words) m (0 + n) = ap (λ (y : ℕ). total (bit_at words) y 0) l ∙ total_split (bit_at words) n m 0 in
        let e : List ℕ = entries_of words n in
        let all : marked_below e (length e) ≡ marked_below e n = ap (marked_below e) (entries_length words n) in
        omega (arith, used, unused, all, marked_bits n n (omega arith))

    -- and are at most n
    pub bits_room : (p : ℕ) → total (bit_at words) p 0 ≤ n
    bits_room p = go (below_or_from p n)
      where
        go : (p < n) ⊎ (n ≤ p) → total (bit_at words) p 0 ≤ n
        go (inl h) = omega (arith, bits_most p)
        go (inr h) = omega (arith, ones_marked p h, ones_marked n (omega arith), bits_most n)

-- words that hold a mask are its words
pub holds_words : {words : List ℕ} {n : ℕ} {entries : List ℕ} → AreWords words → Holds words n entries → words ≡ words_of entries
holds_words {words} {n} a h = sym (words_entries words n a h.tidy) ∙ ap words_of h.same

-- ---- no bit set

module _ (m : ℕ) where
  no_word : (k : ℕ) → get_or (no_bits m) k 0 ≡ 0
  unfolding no_bits
  no_word k = go (below_or_from k m)
    where
      go : (k < m) ⊎ (m ≤ k) → get_or (tab {A = ℕ} (λ j. 0) m 0) k 0 ≡ 0
      go (inl h) = get_or_tab (λ j. 0) m 0 k 0 h
      go (inr h) = get_or-eq_default (tab (λ j. 0) m 0) 0 (omega (arith, length_tab {A = ℕ} (λ j. 0) m 0))

  pub no_bit : (i : ℕ) → bit_at (no_bits m) i ≡ 0
  no_bit i = ap (λ (w : ℕ). bit_of w (i % 64)) (no_word (i / 64)) ∙ zero_bits (i % 64)

-- cleared words hold a mask of zeros
pub clear_holds : (n : ℕ) → Holds (no_bits (word_count n)) n (tab (λ i. 0) n 0)
unfolding no_bits entries_of
clear_holds n =
    record {
      tidy = record {
        long = length_tab {A = ℕ} (λ k. 0) (word_count n) 0;
        clean = bits_clean (no_bits (word_count n)) n (λ i h. no_bit (word_count n) i);
      };
      same = tab_same (bit_at (no_bits (word_count n))) (λ i. 0) n 0 (λ i p q. no_bit (word_count n) i);
    }
