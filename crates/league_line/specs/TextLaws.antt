-- What the text means: a number's digits are the fewest that hold it; and how long the lines are.
use Rattle.std.specs.Prelude.{◌≡◌, refl, Bool, true, false, cond, List, [], ◌∷◌, ◌++◌, ℕ, zero, suc, ◌+◌, ◌-◌, ◌/◌, ◌%◌, ◌^◌, ◌≤◌, ◌<◌, ltb, leb, length, replicate}
use Rattle.std.proofs.Common.{sym, ap, ◌∙◌, append_assoc, append-nil, le_trans, eq-or-lt_of_le, arith, ⊎_elim, length-append, lt-ltb, le-ltb, leb-true, leb-false}
use Rattle.std.proofs.Math.Nat.{pow-le-pow_right}
use Rattle.console.specs.Digits.{hex_digit_ascii, last_digits, IsDigitCount}
use Rattle.lists.specs.Fold.{tab}
use Rattle.league_report.specs.Report.{figures, refused}
use Rattle.league_line.specs.Text.{digit_count_from, digit_count, decimal_of, spaced, text_of}

-- ---- the fewest digits

from_fewest : (more k n r : ℕ) → IsDigitCount 10 1 n r → 1 ≤ k → k ≤ r → r ≤ k + more → digit_count_from more k n ≡ r
unfolding digit_count_from
from_fewest zero k n r f a b c = omega arith
from_fewest (suc more) k n r f a b c = ⊎_elim (λ e. same e) (λ l. further l (from_fewest more (k + 1) n r f)) (eq-or-lt_of_le b)
  where
    same : k ≡ r → cond (ltb n (10 ^ k)) k (digit_count_from more (k + 1) n) ≡ r
    same e = rw (e, lt-ltb n (10 ^ r) f.1) refl

    further : k < r → (1 ≤ k + 1 → k + 1 ≤ r → r ≤ k + 1 + more → digit_count_from more (k + 1) n ≡ r) → cond (ltb n (10 ^ k)) k (digit_count_from more (k + 1) n) ≡ r
    further l next =
        let p : 10 ^ k ≤ n = le_trans (pow-le-pow_right {n = 10} (omega arith) (omega arith)) (f.2 (omega arith)) in
        rw (le-ltb n (10 ^ k) p) (next (omega arith) (omega arith) (omega arith))

-- no zeros in front: the fewest digits, at least one, that hold the number
pub digit_count_fewest : (n r : ℕ) → IsDigitCount 10 1 n r → r ≤ 20 → digit_count n ≡ r
digit_count_fewest n r f h = from_fewest 19 1 n r f (omega arith) f.0 h

pub decimal_is : (n r : ℕ) → IsDigitCount 10 1 n r → r ≤ 20 → decimal_of n ≡ last_digits 10 r n
unfolding decimal_of
decimal_is n r f h = ap (λ (k : ℕ). last_digits 10 k n) (digit_count_fewest n r f h)

-- a u64 has at most twenty
pub fewest_most : (n r : ℕ) → IsDigitCount 10 1 n r → n < 18446744073709551616 → r ≤ 20
fewest_most n r f h = go (leb r 20) refl
  where
    go : (b : Bool) → leb r 20 ≡ b → r ≤ 20
    go true e = leb-true r 20 e
    go false e =
        let l : 20 < r = leb-false r 20 e in
        let p : 10 ^ 20 ≤ n = le_trans (pow-le-pow_right {n = 10} (omega arith) {i = 20} {j = r - 1} (omega arith)) (f.2 (omega arith)) in
        absurd (omega arith)

pub length_digits : (b k n : ℕ) → length (last_digits b k n) ≡ k
length_digits b zero n = refl
length_digits b (suc k) n = length-append (last_digits b k (n / b)) (hex_digit_ascii (n % b) ∷ []) ∙ omega (arith, length_digits b k (n / b))

-- ---- numbers one after another

pub spaced_append : (a b : List ℕ) → spaced (a ++ b) ≡ spaced a ++ spaced b
unfolding spaced
spaced_append [] b = refl
spaced_append (n ∷ a) b = rw (spaced_append a b) (sym (append_assoc (32 ∷ decimal_of n) (spaced a) (spaced b)))

pub spaced_one : (n : ℕ) → spaced (n ∷ []) ≡ 32 ∷ decimal_of n
unfolding spaced
spaced_one n = ap (λ (l : List ℕ). 32 ∷ l) (append-nil (decimal_of n))

-- ---- two lines in full

-- k zeros, each after a space, and a newline
abbrev pub zeros_after : ℕ → List ℕ
zeros_after zero = 10 ∷ []
zeros_after (suc k) = 32 ∷ 48 ∷ zeros_after k

-- `refused 12 3` and a newline
pub refused_text : text_of (refused 12 3) ≡ 114 ∷ 101 ∷ 102 ∷ 117 ∷ 115 ∷ 101 ∷ 100 ∷ 32 ∷ 49 ∷ 50 ∷ 32 ∷ 51 ∷ 10 ∷ []
unfolding text_of spaced decimal_of digit_count_from
refused_text = refl

-- twenty-one zeros
pub zeros_text : text_of (figures 0 (record { voxels = 0; sum = 0; lowest = 0; highest = 0; bands = replicate 16 0 })) ≡ 48 ∷ zeros_after 20
unfolding text_of spaced decimal_of digit_count_from tab
zeros_text = refl
