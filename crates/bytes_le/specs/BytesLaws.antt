-- What is written is read back, and what is read is written back.
use Rattle.std.specs.Prelude.{◌≡◌, refl, List, [], ◌∷◌, ◌++◌, ℕ, suc, ◌+◌, ◌*◌, ◌/◌, ◌%◌, ◌<◌, length, get_or, take, set, Float}
use Rattle.std.proofs.Common.{sym, ap, ◌∙◌, append-nil, add-zero, zero-add, add-one, arith, drop_of_length-le, take-suc, length-take-le}
use Rattle.std.proofs.Math.Nat.{div-div-eq-div-mul}
use Rattle.std.proofs.lemmas.List.Edits.{sets, sets-eq}
use Rattle.std.specs.Float.{binary32}
use Rattle.std.specs.Float.Ieee.{to_bits}
use Rattle.bytes_le.specs.Bytes.{word, bytes2, bytes4, encode}

-- ---- whole numbers

pub half_back : (n : ℕ) → n < 65536 → n % 256 + n / 256 % 256 * 256 ≡ n
half_back n h = omega arith

parted : (x : ℕ) → x % 256 + x / 256 * 256 ≡ x
parted x = omega arith

chain : (b₀ b₁ b₂ b₃ q₁ q₂ q₃ b : ℕ) → b₀ + q₁ * 256 ≡ b → b₁ + q₂ * 256 ≡ q₁ → b₂ + q₃ * 256 ≡ q₂ → b₃ ≡ q₃ → word b₀ b₁ b₂ b₃ ≡ b
chain b₀ b₁ b₂ b₃ q₁ q₂ q₃ b e f g h = omega arith

pub word_back : (b : ℕ) → b < 4294967296 → word (b % 256) (b / 256 % 256) (b / 65536 % 256) (b / 16777216 % 256) ≡ b
word_back b h =
    let d : b / 256 / 256 ≡ b / 65536 = div-div-eq-div-mul b 256 256 in
    let e : b / 65536 / 256 ≡ b / 16777216 = div-div-eq-div-mul b 65536 256 in
    chain _ _ _ _ (b / 256) (b / 65536) (b / 16777216) b (parted b) (rw d at (parted (b / 256))) (rw e at (parted (b / 65536))) (omega arith)

pub half_bytes : (a b : ℕ) → a < 256 → b < 256 → bytes2 (a + b * 256) ≡ a ∷ b ∷ []
half_bytes a b p q =
    let e : (a + b * 256) % 256 ≡ a = omega arith in
    let f : (a + b * 256) / 256 ≡ b = omega arith in
    let g : b % 256 ≡ b = omega arith in
    rw (e, f, g) refl

pub word_bytes : (a b c d : ℕ) → a < 256 → b < 256 → c < 256 → d < 256 → bytes4 (word a b c d) ≡ a ∷ b ∷ c ∷ d ∷ []
word_bytes a b c d p q r t =
    let e : word a b c d % 256 ≡ a = omega arith in
    let f : word a b c d / 256 ≡ b + c * 256 + d * 65536 = omega arith in
    let f' : (b + c * 256 + d * 65536) % 256 ≡ b = omega arith in
    let g : word a b c d / 65536 ≡ c + d * 256 = omega arith in
    let g' : (c + d * 256) % 256 ≡ c = omega arith in
    let h : word a b c d / 16777216 ≡ d = omega arith in
    let h' : d % 256 ≡ d = omega arith in
    rw (e, f, f', g, g', h, h') refl

-- ---- runs of stores

module _ {A : Type 0} where
  -- one run after another
  pub sets_append : (l : List A) (i : ℕ) (x y : List A) → sets l i (x ++ y) ≡ sets (sets l i x) (i + length x) y
  sets_append l i [] y = rw (add-zero i) refl
  sets_append l i (a ∷ x) y =
      let e : suc i + length x ≡ i + suc (length x) = omega arith in
      sets_append (set l i a) (suc i) x y ∙ ap (λ (k : ℕ). sets (sets (set l i a) (suc i) x) k y) e

  -- a run written after another is one run
  pub sets_after : {l₁ l₂ : List A} (l : List A) (at k : ℕ) (x y : List A) → at + length x ≡ k → l₁ ≡ sets l at x → l₂ ≡ sets l₁ k y → l₂ ≡ sets l at (x ++ y)
  sets_after l at k x y e f g = g ∙ rw (f, ← e) (sym (sets_append l at x y))

  -- a run of one more
  pub sets_one_more : (l : List A) (at : ℕ) (x : List A) (i : ℕ) (d : A) → i < length x
      → set (sets l at (take i x)) (at + i) (get_or x i d) ≡ sets l at (take (i + 1) x)
  sets_one_more l at x i d h =
      let n : length (take i x) ≡ i = length-take-le i x (omega arith) in
      sym (rw (add-one i, take-suc x i d h, sets_append l at (take i x) (get_or x i d ∷ []), n) refl)

  -- a run that covers the whole list
  pub sets_whole : (l x : List A) → length x ≡ length l → sets l 0 x ≡ x
  sets_whole l x h = sets-eq x l 0 (omega arith) ∙ rw (zero-add (length x), drop_of_length-le l {i = length x} (omega arith)) (append-nil x)

  -- two and four stores in a row
  pub two_stores : (l : List A) (at : ℕ) (a b : A) → set (set l at a) (at + 1) b ≡ sets l at (a ∷ b ∷ [])
  two_stores l at a b = rw (add-one at) refl

  pub four_stores : (l : List A) (at : ℕ) (a b c d : A) → set (set (set (set l at a) (at + 1) b) (at + 2) c) (at + 3) d ≡ sets l at (a ∷ b ∷ c ∷ d ∷ [])
  four_stores l at a b c d =
      let e : at + 2 ≡ suc (suc at) = omega arith in
      let f : at + 3 ≡ suc (suc (suc at)) = omega arith in
      rw (add-one at, e, f) refl

-- ---- runs of numbers

pub encode_append : (x y : List Float) → encode (x ++ y) ≡ encode x ++ encode y
unfolding encode
encode_append [] y = refl
encode_append (a ∷ x) y = rw (encode_append x y)

pub length_encode : (x : List Float) → length (encode x) ≡ length x * 4
unfolding encode
length_encode [] = refl
length_encode (a ∷ x) = rw (length_encode x) (omega arith)

encode_single : (a : Float) → encode (a ∷ []) ≡ bytes4 (to_bits binary32 a)
unfolding encode
encode_single a = refl

-- a run of one more
pub encode_one_more : (l : List ℕ) (at : ℕ) (x : List Float) (i : ℕ) (d : Float) → i < length x
    → sets (sets l at (encode (take i x))) (at + i * 4) (bytes4 (to_bits binary32 (get_or x i d))) ≡ sets l at (encode (take (i + 1) x))
encode_one_more l at x i d h =
    let n : length (encode (take i x)) ≡ i * 4 = length_encode (take i x) ∙ ap (λ (k : ℕ). k * 4) (length-take-le i x (omega arith)) in
    let t : encode (take (i + 1) x) ≡ encode (take i x) ++ bytes4 (to_bits binary32 (get_or x i d)) = rw (add-one i, take-suc x i d h) (encode_append (take i x) (get_or x i d ∷ []) ∙ ap (λ (y : List ℕ). encode (take i x) ++ y) (encode_single (get_or x i d))) in
    sym (rw (t, sets_append l at (encode (take i x)) (bytes4 (to_bits binary32 (get_or x i d))), n) refl)
