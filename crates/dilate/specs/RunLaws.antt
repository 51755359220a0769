-- Runs of bits: the bits of an `or`, of a number shifted either way, and cut; a run that is read, and one that is set.
use Rattle.std.specs.Prelude.{◌≡◌, refl, ◌⊎◌, List, ℕ, zero, suc, ◌+◌, ◌-◌, ◌*◌, ◌/◌, ◌%◌, ◌^◌, ◌≤◌, ◌<◌, max, length, get_or, set}
use Rattle.std.proofs.Common.{sym, ap, ap₂, ◌∙◌, inl, inr, arith, mod-lt, mul_assoc, pow_pos, pow-add, length-set, get_or-set_same, get_or-set_other}
use Rattle.std.proofs.Math.Nat.{zero-max, max-zero}
use Rattle.std.specs.Int.Bits.{bit_or, or_step}
use Rattle.std.proofs.lemmas.Nat.{shl-shr}
use Rattle.std.proofs.Math.Pow.{field}
use Rattle.words.specs.Words.{bit_of, bit_at, AreWords}
use Rattle.words.specs.BitLaws.{below_or_from, same_or_not, bit_suc, bit_zero, zero_bits, low_bit, bit_shifted, bit_beyond}
use Rattle.dilate.specs.ByBlocks.{or_word, Run, Ored, Merged}

-- ---- one of two bits

pub max_lt : (a b : ℕ) → a < 2 → b < 2 → max a b < 2
max_lt zero b p q = rw (zero-max b) q
max_lt (suc zero) zero p q = omega arith
max_lt (suc zero) (suc zero) p q = omega arith
max_lt (suc zero) (suc (suc b)) p q = absurd (omega arith)
max_lt (suc (suc a)) b p q = absurd (omega arith)

pub max_one_left : (a b : ℕ) → b < 2 → a ≡ 1 → max a b ≡ 1
max_one_left a zero q e = rw e refl
max_one_left a (suc zero) q e = rw e refl
max_one_left a (suc (suc b)) q e = absurd (omega arith)

pub max_one_right : (a b : ℕ) → a < 2 → b ≡ 1 → max a b ≡ 1
max_one_right zero b q e = rw e refl
max_one_right (suc zero) b q e = rw e refl
max_one_right (suc (suc a)) b q e = absurd (omega arith)

pub one_of_max : (a b : ℕ) → a < 2 → max a b ≡ 1 → (a ≡ 1) ⊎ (b ≡ 1)
one_of_max zero b q e = inr (sym (zero-max b) ∙ e)
one_of_max (suc zero) b q e = inl refl
one_of_max (suc (suc a)) b q e = absurd (omega arith)

-- ---- bits of numbers

pub or_bit : (a b j : ℕ) → bit_of (bit_or a b) j ≡ max (bit_of a j) (bit_of b j)
or_bit a b zero =
    let m : ℕ = max (a % 2) (b % 2) in
    bit_zero (bit_or a b) ∙ omega (arith, or_step a b, max_lt (a % 2) (b % 2) (omega arith) (omega arith)) ∙ sym (ap₂ max (bit_zero a) (bit_zero b))
or_bit a b (suc j) =
    let h : bit_or a b / 2 ≡ bit_or (a / 2) (b / 2) = omega (arith, or_step a b, max_lt (a % 2) (b % 2) (omega arith) (omega arith)) in
    bit_suc (bit_or a b) j ∙ ap (λ (x : ℕ). bit_of x j) h ∙ or_bit (a / 2) (b / 2) j ∙ sym (ap₂ max (bit_suc a j) (bit_suc b j))

pub no_high_bit : (w m j : ℕ) → m ≤ j → bit_of (w % 2 ^ m) j ≡ 0
no_high_bit w m j h = bit_beyond (w % 2 ^ m) m j (mod-lt w (pow_pos m)) h

-- shifted up, in a word
pub up_bit : (w a j : ℕ) → a + j < 64 → bit_of (w * 2 ^ a % 2 ^ 64) (a + j) ≡ bit_of w j
up_bit w a j h =
    low_bit (w * 2 ^ a) 64 (a + j) h ∙ sym (bit_shifted (w * 2 ^ a) a j) ∙ ap (λ (y : ℕ). bit_of y j) (shl-shr w a)

pub up_none : (w a j : ℕ) → j < a → bit_of (w * 2 ^ a % 2 ^ 64) j ≡ 0
up_none w a j h = go (below_or_from j 64)
  where
    go : (j < 64) ⊎ (64 ≤ j) → bit_of (w * 2 ^ a % 2 ^ 64) j ≡ 0
    go (inr q) = no_high_bit (w * 2 ^ a) 64 j q
    go (inl q) =
        let n : ℕ = a - j - 1 in
        let e : a ≡ n + 1 + j = omega arith in
        let d : w * 2 ^ a ≡ w * 2 ^ n * 2 * 2 ^ j =
        ap (λ (y : ℕ). w * 2 ^ y) e ∙ ap (λ (y : ℕ). w * y) (pow-add 2 (n + 1) j ∙ ap (λ (y : ℕ). y * 2 ^ j) (pow-add 2 n 1))
        ∙ sym (mul_assoc w (2 ^ n * 2) (2 ^ j)) ∙ ap (λ (y : ℕ). y * 2 ^ j) (sym (mul_assoc w (2 ^ n) 2))
        in
        low_bit (w * 2 ^ a) 64 j q ∙ ap (λ (y : ℕ). bit_of y j) d ∙ ap (λ (y : ℕ). y % 2) (shl-shr (w * 2 ^ n * 2) j) ∙ omega arith

-- cut to its low bits by two shifts
pub cut_low : (w len : ℕ) → len ≤ 64 → w * 2 ^ (64 - len) % 2 ^ 64 / 2 ^ (64 - len) ≡ w % 2 ^ len
cut_low w len h =
    let e : len + (64 - len) ≡ 64 = omega arith in
    sym (ap (λ (y : ℕ). w * 2 ^ (64 - len) % 2 ^ y / 2 ^ (64 - len)) e) ∙ field (w * 2 ^ (64 - len)) len (64 - len) ∙ ap (λ (y : ℕ). y % 2 ^ len) (shl-shr w (64 - len))

-- ---- a run that is read

module _ (words : List ℕ) (o len : ℕ) where
  abbrev place : ℕ
  place = o % 64

  -- a bit of the word of o, and of the next
  here : (j : ℕ) → place + j < 64 → bit_of (get_or words (o / 64) 0) (place + j) ≡ bit_at words (o + j)
  here j h =
      let d : o / 64 ≡ (o + j) / 64 = omega arith in
      let r : o % 64 + j ≡ (o + j) % 64 = omega arith in
      ap₂ (λ (x y : ℕ). bit_of (get_or words x 0) y) d r

  next : (j : ℕ) → 64 ≤ place + j → place + j < 128 → bit_of (get_or words (o / 64 + 1) 0) (j - (64 - place)) ≡ bit_at words (o + j)
  next j h k =
      let d : o / 64 + 1 ≡ (o + j) / 64 = omega arith in
      let r : j - (64 - o % 64) ≡ (o + j) % 64 = omega arith in
      ap₂ (λ (x y : ℕ). bit_of (get_or words x 0) y) d r

  -- within a word
  pub run_within : {r : ℕ} → place + len ≤ 64 → r ≡ get_or words (o / 64) 0 / 2 ^ place % 2 ^ len → Run words o len r
  run_within {r} h e =
      record {
        there = λ j q.
            ap (λ (y : ℕ). bit_of y j) e ∙ low_bit (get_or words (o / 64) 0 / 2 ^ (o % 64)) len j q
            ∙ bit_shifted (get_or words (o / 64) 0) (o % 64) j ∙ here j (omega arith);
        beyond = λ j q. ap (λ (y : ℕ). bit_of y j) e ∙ no_high_bit (get_or words (o / 64) 0 / 2 ^ (o % 64)) len j q;
      }

  -- over two words
  pub run_over : {r : ℕ} → AreWords words → len ≤ 64 → 64 < place + len
      → r ≡ bit_or (get_or words (o / 64) 0 / 2 ^ place) (get_or words (o / 64 + 1) 0 * 2 ^ (64 - place) % 2 ^ 64) % 2 ^ len → Run words o len r
  run_over {r} a l h e =
      record {
        there = λ j q.
            ap (λ (y : ℕ). bit_of y j) e ∙ low_bit (bit_or low high) len j q ∙ or_bit low high j ∙ go j q (below_or_from (o % 64 + j) 64);
        beyond = λ j q. ap (λ (y : ℕ). bit_of y j) e ∙ no_high_bit (bit_or low high) len j q;
      }
    where
      low : ℕ
      low = get_or words (o / 64) 0 / 2 ^ (o % 64)

      high : ℕ
      high = get_or words (o / 64 + 1) 0 * 2 ^ (64 - o % 64) % 2 ^ 64

      go : (j : ℕ) → j < len → (o % 64 + j < 64) ⊎ (64 ≤ o % 64 + j) → max (bit_of low j) (bit_of high j) ≡ bit_at words (o + j)
      go j q (inl p) =
          ap₂ max (bit_shifted (get_or words (o / 64) 0) (o % 64) j ∙ here j p) (up_none (get_or words (o / 64 + 1) 0) (64 - o % 64) j (omega arith))
          ∙ max-zero (bit_at words (o + j))
      go j q (inr p) =
          let i : ℕ = j - (64 - o % 64) in
          let d : 64 - o % 64 + i ≡ j = omega arith in
          let z : bit_of low j ≡ 0 = bit_shifted (get_or words (o / 64) 0) (o % 64) j ∙ bit_beyond (get_or words (o / 64) 0) 64 (o % 64 + j) (a (o / 64)) p in
          let u : bit_of high j ≡ bit_of (get_or words (o / 64 + 1) 0) i =
          sym (ap (bit_of high) d) ∙ up_bit (get_or words (o / 64 + 1) 0) (64 - o % 64) i (omega arith)
          in
          ap₂ max z (u ∙ next j p (omega arith)) ∙ zero-max (bit_at words (o + j))

-- ---- a run that is set

or_word_there : (words : List ℕ) (k v x : ℕ) → k < length words → x / 64 ≡ k → bit_at (or_word words k v) x ≡ max (bit_at words x) (bit_of v (x % 64))
or_word_there words k v x h e =
    let w : ℕ = bit_or (get_or words k 0) v in
    ap (λ (y : ℕ). bit_of (get_or (set words k w) y 0) (x % 64)) e ∙ ap (λ (y : ℕ). bit_of y (x % 64)) (get_or-set_same words k w 0 h)
    ∙ or_bit (get_or words k 0) v (x % 64) ∙ ap (λ (y : ℕ). max (bit_of (get_or words y 0) (x % 64)) (bit_of v (x % 64))) (sym e)

or_word_elsewhere : (words : List ℕ) (k v x : ℕ) → (x / 64 ≡ k → ⊥) → bit_at (or_word words k v) x ≡ bit_at words x
or_word_elsewhere words k v x n = ap (λ (y : ℕ). bit_of y (x % 64)) (get_or-set_other words k (x / 64) (bit_or (get_or words k 0) v) 0 n)

pub ored_none : (words : List ℕ) (o v : ℕ) → v ≡ 0 → Ored words words o v
ored_none words o v e =
    record {
      there = λ j. sym (ap (max (bit_at words (o + j))) (ap (λ (y : ℕ). bit_of y j) e ∙ zero_bits j) ∙ max-zero (bit_at words (o + j)));
      below = λ x h. refl;
    }

module _ (words : List ℕ) (o len v : ℕ) (l : len ≤ 64) (z : (j : ℕ) → len ≤ j → bit_of v j ≡ 0) (inside : o / 64 < length words) where
  abbrev low : ℕ
  low = v * 2 ^ (o % 64) % 2 ^ 64

  abbrev first : List ℕ
  first = or_word words (o / 64) low

  -- the bits that the word of o takes, and those below
  first_there : (j : ℕ) → o % 64 + j < 64 → bit_at first (o + j) ≡ max (bit_at words (o + j)) (bit_of v j)
  first_there j h =
      let r : (o + j) % 64 ≡ o % 64 + j = omega arith in
      or_word_there words (o / 64) low (o + j) inside (omega arith)
      ∙ ap (max (bit_at words (o + j))) (ap (bit_of low) r ∙ up_bit v (o % 64) j h)

  first_below : (x : ℕ) → x < o → bit_at first x ≡ bit_at words x
  first_below x h = go (same_or_not (x / 64) (o / 64))
    where
      go : (x / 64 ≡ o / 64) ⊎ (x / 64 ≡ o / 64 → ⊥) → bit_at first x ≡ bit_at words x
      go (inr n) = or_word_elsewhere words (o / 64) low x n
      go (inl e) =
          or_word_there words (o / 64) low x inside e ∙ ap (max (bit_at words x)) (up_none v (o % 64) (x % 64) (omega arith)) ∙ max-zero (bit_at words x)

  unset : (j : ℕ) → len ≤ j → bit_at words (o + j) ≡ max (bit_at words (o + j)) (bit_of v j)
  unset j h = sym (ap (max (bit_at words (o + j))) (z j h) ∙ max-zero (bit_at words (o + j)))

  -- within a word
  pub ored_within : o % 64 + len ≤ 64 → Ored words first o v
  ored_within h = record { there = λ j. go j (below_or_from (o % 64 + j) 64); below = first_below }
    where
      go : (j : ℕ) → (o % 64 + j < 64) ⊎ (64 ≤ o % 64 + j) → bit_at first (o + j) ≡ max (bit_at words (o + j)) (bit_of v j)
      go j (inl p) = first_there j p
      go j (inr p) = or_word_elsewhere words (o / 64) low (o + j) (λ e. omega arith) ∙ unset j (omega arith)

  -- over two words
  pub ored_over : o / 64 + 1 < length words → Ored words (or_word first (o / 64 + 1) (v / 2 ^ (64 - o % 64))) o v
  ored_over h =
      record {
        there = λ j. go j (below_or_from (o % 64 + j) 64);
        below = λ x p. or_word_elsewhere first (o / 64 + 1) high x (λ e. omega arith) ∙ first_below x p;
      }
    where
      high : ℕ
      high = v / 2 ^ (64 - o % 64)

      far : (j : ℕ) → 64 ≤ o % 64 + j → (o % 64 + j < 128) ⊎ (128 ≤ o % 64 + j) → bit_at (or_word first (o / 64 + 1) high) (o + j) ≡ max (bit_at words (o + j)) (bit_of v j)
      far j p (inl q) =
          let r : (o + j) % 64 ≡ j - (64 - o % 64) = omega arith in
          let d : 64 - o % 64 + (j - (64 - o % 64)) ≡ j = omega arith in
          or_word_there first (o / 64 + 1) high (o + j) (omega (arith, length-set words (o / 64) (bit_or (get_or words (o / 64) 0) low))) (omega arith)
          ∙ ap₂ max (or_word_elsewhere words (o / 64) low (o + j) (λ e. omega arith)) (ap (bit_of high) r ∙ bit_shifted v (64 - o % 64) (j - (64 - o % 64)) ∙ ap (bit_of v) d)
      far j p (inr q) =
          or_word_elsewhere first (o / 64 + 1) high (o + j) (λ e. omega arith) ∙ or_word_elsewhere words (o / 64) low (o + j) (λ e. omega arith) ∙ unset j (omega arith)

      go : (j : ℕ) → (o % 64 + j < 64) ⊎ (64 ≤ o % 64 + j) → bit_at (or_word first (o / 64 + 1) high) (o + j) ≡ max (bit_at words (o + j)) (bit_of v j)
      go j (inl p) = or_word_elsewhere first (o / 64 + 1) high (o + j) (λ e. omega arith) ∙ first_there j p
      go j (inr p) = far j p (below_or_from (o % 64 + j) 128)

-- ---- runs that are set where others are

pub merged_none : (words : List ℕ) (at from i : ℕ) → Merged words words at from i i
merged_none words at from i =
    record {
      taken = λ j p q. absurd (omega arith);
      below = λ x h. refl;
      above = λ x h. refl;
    }

module _ (before now after : List ℕ) (at from lo hi len v : ℕ) where
  -- the next piece, where the bits that it takes are still as they were
  pub merged_next : at ≤ from → lo ≤ hi → Merged before now at from lo hi → Run now (from + hi) len v → Ored now after (at + hi) v → Merged before after at from lo (hi + len)
  merged_next h le m r o =
      record {
        taken = λ j p q. go j p q (below_or_from j hi);
        below = λ x p. o.below x (omega arith) ∙ m.below x p;
        above = λ x p.
            let d : at + hi + (x - (at + hi)) ≡ x = omega arith in
            sym (ap (bit_at after) d) ∙ o.there (x - (at + hi))
            ∙ ap₂ max (ap (bit_at now) d ∙ m.above x (omega arith)) (r.beyond (x - (at + hi)) (omega arith)) ∙ max-zero (bit_at before x);
      }
    where
      go : (j : ℕ) → lo ≤ j → j < hi + len → (j < hi) ⊎ (hi ≤ j) → bit_at after (at + j) ≡ max (bit_at before (at + j)) (bit_at before (from + j))
      go j p q (inl k) = o.below (at + j) (omega arith) ∙ m.taken j p k
      go j p q (inr k) =
          let d : at + hi + (j - hi) ≡ at + j = omega arith in
          let e : from + hi + (j - hi) ≡ from + j = omega arith in
          sym (ap (bit_at after) d) ∙ o.there (j - hi)
          ∙ ap₂ max (ap (bit_at now) d ∙ m.above (at + j) (omega arith))
          (r.there (j - hi) (omega arith) ∙ ap (bit_at now) e ∙ m.above (from + j) (omega arith))

  -- the piece before, in the same way
  pub merged_before : from ≤ at → len ≤ lo → lo ≤ hi → Merged before now at from lo hi → Run now (from + (lo - len)) len v → Ored now after (at + (lo - len)) v
      → Merged before after at from (lo - len) hi
  merged_before h w le m r o =
      record {
        taken = λ j p q. go j p q (below_or_from j lo);
        below = λ x p. o.below x p ∙ m.below x (omega arith);
        above = λ x p.
            let b : ℕ = at + (lo - len) in
            let d : b + (x - b) ≡ x = omega arith in
            sym (ap (bit_at after) d) ∙ o.there (x - b)
            ∙ ap₂ max (ap (bit_at now) d ∙ m.above x p) (r.beyond (x - b) (omega arith)) ∙ max-zero (bit_at before x);
      }
    where
      go : (j : ℕ) → lo - len ≤ j → j < hi → (j < lo) ⊎ (lo ≤ j) → bit_at after (at + j) ≡ max (bit_at before (at + j)) (bit_at before (from + j))
      go j p q (inl k) =
          let i : ℕ = j - (lo - len) in
          let d : at + (lo - len) + i ≡ at + j = omega arith in
          let e : from + (lo - len) + i ≡ from + j = omega arith in
          sym (ap (bit_at after) d) ∙ o.there i
          ∙ ap₂ max (ap (bit_at now) d ∙ m.below (at + j) (omega arith))
          (r.there i (omega arith) ∙ ap (bit_at now) e ∙ m.below (from + j) (omega arith))
      go j p q (inr k) =
          let i : ℕ = j - (lo - len) in
          let d : at + (lo - len) + i ≡ at + j = omega arith in
          sym (ap (bit_at after) d) ∙ o.there i
          ∙ ap₂ max (ap (bit_at now) d ∙ m.taken j k q) (r.beyond i (omega arith)) ∙ max-zero (max (bit_at before (at + j)) (bit_at before (from + j)))
