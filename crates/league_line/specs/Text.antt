-- The lines of the league report as bytes: "single spaces between"; "one line, `refused`, the number and the place". Assumes nothing.
use Rattle.std.specs.Prelude.{cond, List, [], ◌∷◌, ◌++◌, ℕ, zero, suc, ◌+◌, ◌^◌, ltb, get_or}
use Rattle.names.specs.Numbers.{band_number}
use Rattle.console.specs.Digits.{last_digits}
use Rattle.lists.specs.Fold.{tab}
use Rattle.light_figures.specs.declared.LightFigures.{LightFigures}
use Rattle.league_report.specs.Report.{Line, figures, refused}

-- ---- a number

-- the first of k, k + 1, .. up to `more` further whose power of ten is above n
unfoldable pub digit_count_from : ℕ → ℕ → ℕ → ℕ
digit_count_from zero k n = k
digit_count_from (suc more) k n = cond (ltb n (10 ^ k)) k (digit_count_from more (k + 1) n)

-- how many decimal digits a number below 10^20 has, as every u64 is
abbrev pub digit_count : ℕ → ℕ
digit_count n = digit_count_from 19 1 n

unfoldable pub decimal_of : ℕ → List ℕ
decimal_of n = last_digits 10 (digit_count n) n

-- each after a space
unfoldable pub spaced : List ℕ → List ℕ
spaced [] = []
spaced (n ∷ ns) = 32 ∷ decimal_of n ++ spaced ns

-- ---- a line

-- "voxels, sum of units, lowest and highest in units, and sixteen band counts"
abbrev pub numbers_of : LightFigures → List ℕ
numbers_of f = f.voxels ∷ f.sum ∷ f.lowest ∷ f.highest ∷ tab (λ b. get_or f.bands b 0) band_number 0

abbrev pub refused_word : List ℕ
refused_word = 114 ∷ 101 ∷ 102 ∷ 117 ∷ 115 ∷ 101 ∷ 100 ∷ []

unfoldable pub text_of : Line → List ℕ
text_of (figures first f) = decimal_of first ++ (spaced (numbers_of f) ++ (10 ∷ []))
text_of (refused number place) = refused_word ++ (spaced (number ∷ place ∷ []) ++ (10 ∷ []))
