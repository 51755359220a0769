-- A run of numbers that is written is read back, and one that is read is written back, every bit of it. The logic has one NaN, so
-- the second holds of patterns that are no NaN's.
use Rattle.std.specs.Prelude.{◌≡◌, refl, Bool, false, not, List, [], ◌∷◌, ◌++◌, ℕ, zero, suc, ◌+◌, ◌*◌, ◌<◌, ◌≤◌, T, length, get_or, take, drop, Float}
use Rattle.std.proofs.Common.{sym, ap, ap₂, ◌∙◌, subst, append_assoc, arith, length-append, get_or-append-add, drop-cons}
use Rattle.std.proofs.Math.Seq.{get_or-append_seam}
use Rattle.std.specs.Float.{binary32}
use Rattle.std.specs.Float.Ieee.{to_bits, fits, is_nan}
use Rattle.std.specs.Float.Ieee.Bits.{of_bits-to_bits, to_bits-lt, to_bits-of_bits}
use Rattle.names.specs.Bits.{lit}
use Rattle.lists.specs.Fold.{tab}
use Rattle.bytes_le.specs.Bytes.{word, u32_at, f32_at, floats_at, bytes_at, bytes4, encode}
use Rattle.bytes_le.specs.BytesLaws.{word_back, word_bytes}

-- every number is an f32's, as each number of a list of f32 is
abbrev pub AllFit : List Float → Type 0
AllFit [] = Unit
AllFit (x ∷ xs) = T (fits binary32 x) × AllFit xs

-- every entry is a byte's, as each entry of a list of u8 is
abbrev pub AllBytes : List ℕ → Type 0
AllBytes s = (i : ℕ) → get_or s i 0 < 256

-- ---- written, then read

pub u32_back : (p q : List ℕ) (a b c d : ℕ) → u32_at (p ++ a ∷ b ∷ c ∷ d ∷ q) (length p) ≡ word a b c d
u32_back p q a b c d =
    let s : List ℕ = a ∷ b ∷ c ∷ d ∷ q in
    rw (get_or-append_seam p a (b ∷ c ∷ d ∷ q) 0, get_or-append-add p s 1 0, get_or-append-add p s 2 0, get_or-append-add p s 3 0) refl

float_back : (x : Float) → T (fits binary32 x) → (p q s : List ℕ) (at : ℕ) → s ≡ p ++ (bytes4 (to_bits binary32 x) ++ q) → length p ≡ at → f32_at s at ≡ x
unfolding f32_at
float_back x h p q s at e l =
    rw (e, ← l) (ap lit (u32_back p q _ _ _ _ ∙ word_back (to_bits binary32 x) (to_bits-lt binary32 x h)) ∙ of_bits-to_bits binary32 x h)

run_back : (xs : List Float) → AllFit xs → (p q s : List ℕ) (at j : ℕ) → s ≡ p ++ (encode xs ++ q) → length p ≡ at + j * 4
    → tab (λ i. f32_at s (at + i * 4)) (length xs) j ≡ xs
unfolding encode tab
run_back [] h p q s at j e l = refl
run_back (x ∷ xs) h p q s at j e l =
    let b : List ℕ = bytes4 (to_bits binary32 x) in
    let f : s ≡ p ++ (b ++ (encode xs ++ q)) = e in
    let g : s ≡ (p ++ b) ++ (encode xs ++ q) = f ∙ sym (append_assoc p b (encode xs ++ q)) in
    let m : length (p ++ b) ≡ at + (j + 1) * 4 = length-append p b ∙ omega arith in
    ap₂ (λ (y : Float) (ys : List Float). y ∷ ys) (float_back x h.0 p (encode xs ++ q) s (at + j * 4) f l) (run_back xs h.1 (p ++ b) q s at (j + 1) g m)

pub floats_back : (xs : List Float) → AllFit xs → (p q : List ℕ) (at : ℕ) → length p ≡ at → floats_at (p ++ (encode xs ++ q)) at (length xs) ≡ xs
floats_back xs h p q at l = run_back xs h p q (p ++ (encode xs ++ q)) at 0 refl (omega arith)

-- ---- read, then written

word_lt : (a b c d : ℕ) → a < 256 → b < 256 → c < 256 → d < 256 → word a b c d < 4294967296
word_lt a b c d p q r t = omega arith

float_kept : (s : List ℕ) (k : ℕ) → AllBytes s → is_nan (f32_at s k) ≡ false → bytes4 (to_bits binary32 (f32_at s k)) ≡ get_or s k 0 ∷ get_or s (k + 1) 0 ∷ get_or s (k + 2) 0 ∷ get_or s (k + 3) 0 ∷ []
unfolding f32_at
float_kept s k h n =
    let t : T (not (is_nan (lit (u32_at s k)))) = subst (λ (b : Bool). T (not b)) (sym n) tt in
    ap bytes4 (to_bits-of_bits binary32 (u32_at s k) (word_lt _ _ _ _ (h k) (h (k + 1)) (h (k + 2)) (h (k + 3))) t)
    ∙ word_bytes _ _ _ _ (h k) (h (k + 1)) (h (k + 2)) (h (k + 3))

pub one_cons : (s : List ℕ) (k m : ℕ) → k < length s → suc k ≡ m → drop k s ≡ get_or s k 0 ∷ drop m s
one_cons s k m h e = drop-cons s k 0 h ∙ ap (λ (x : ℕ). get_or s k 0 ∷ drop x s) e

four_cons : (s : List ℕ) (k : ℕ) → k + 4 ≤ length s → drop k s ≡ get_or s k 0 ∷ get_or s (k + 1) 0 ∷ get_or s (k + 2) 0 ∷ get_or s (k + 3) 0 ∷ drop (k + 4) s
four_cons s k h =
    rw (one_cons s k (k + 1) (omega arith) (omega arith), one_cons s (k + 1) (k + 2) (omega arith) (omega arith), one_cons s (k + 2) (k + 3) (omega arith) (omega arith), one_cons s (k + 3) (k + 4) (omega arith) (omega arith)) refl

run_kept : (s : List ℕ) → AllBytes s → (n at j : ℕ) → at + (j + n) * 4 ≤ length s
    → ((i : ℕ) → j ≤ i → i < j + n → is_nan (f32_at s (at + i * 4)) ≡ false)
    → encode (tab (λ i. f32_at s (at + i * 4)) n j) ≡ take (n * 4) (drop (at + j * 4) s)
unfolding encode tab
run_kept s h zero at j l f = refl
run_kept s h (suc n) at j l f =
    let k : ℕ = at + j * 4 in
    let e : suc n * 4 ≡ suc (suc (suc (suc (n * 4)))) = omega arith in
    let m : at + (j + 1) * 4 ≡ k + 4 = omega arith in
    let rest : encode (tab (λ i. f32_at s (at + i * 4)) n (j + 1)) ≡ take (n * 4) (drop (k + 4) s) =
    run_kept s h n at (j + 1) (omega arith) (λ i p q. f i (omega arith) (omega arith)) ∙ ap (λ (x : ℕ). take (n * 4) (drop x s)) m in
    ap₂ (λ (x y : List ℕ). x ++ y) (float_kept s k h (f j (omega arith) (omega arith))) rest
    ∙ sym (rw (e, four_cons s k (omega arith)) refl)

pub floats_kept : (s : List ℕ) → AllBytes s → (n at : ℕ) → at + n * 4 ≤ length s
    → ((i : ℕ) → i < n → is_nan (f32_at s (at + i * 4)) ≡ false) → encode (floats_at s at n) ≡ bytes_at s at (n * 4)
floats_kept s h n at l f =
    let z : at + 0 * 4 ≡ at = omega arith in
    run_kept s h n at 0 (omega arith) (λ i p q. f i (omega arith)) ∙ ap (λ (x : ℕ). take (n * 4) (drop x s)) z
