-- Little-endian numbers in a list of bytes: a u16 is two bytes, a u32 four, an f32 the four of its bit pattern. Assumes nothing.
use Rattle.std.specs.Prelude.{◌≡◌, false, List, [], ◌∷◌, ◌++◌, ℕ, ◌+◌, ◌*◌, ◌/◌, ◌%◌, ◌<◌, length, get_or, take, drop, Float}
use Rattle.std.specs.Float.{nan, binary32}
use Rattle.std.specs.Float.Ieee.{is_nan, to_bits}
use Rattle.names.specs.Bits.{lit}
use Rattle.lists.specs.Fold.{tab}

-- ---- read

abbrev pub word : ℕ → ℕ → ℕ → ℕ → ℕ
word a b c d = a + b * 256 + c * 65536 + d * 16777216

abbrev pub u16_at : List ℕ → ℕ → ℕ
u16_at s at = get_or s at 0 + get_or s (at + 1) 0 * 256

abbrev pub u32_at : List ℕ → ℕ → ℕ
u32_at s at = word (get_or s at 0) (get_or s (at + 1) 0) (get_or s (at + 2) 0) (get_or s (at + 3) 0)

-- every NaN pattern is the one NaN
unfoldable pub f32_at : List ℕ → ℕ → Float
f32_at s at = lit (u32_at s at)

-- n numbers from at on
abbrev pub floats_at : List ℕ → ℕ → ℕ → List Float
floats_at s at n = tab (λ i. f32_at s (at + i * 4)) n 0

-- n bytes from at on
abbrev pub bytes_at : List ℕ → ℕ → ℕ → List ℕ
bytes_at s at n = take n (drop at s)

-- ---- written

abbrev pub bytes2 : ℕ → List ℕ
bytes2 n = n % 256 ∷ n / 256 % 256 ∷ []

abbrev pub bytes4 : ℕ → List ℕ
bytes4 n = n % 256 ∷ n / 256 % 256 ∷ n / 65536 % 256 ∷ n / 16777216 % 256 ∷ []

unfoldable pub encode : List Float → List ℕ
encode [] = []
encode (x ∷ xs) = bytes4 (to_bits binary32 x) ++ encode xs

-- no NaN among them
abbrev pub NoneNan : List Float → Type 0
NoneNan xs = (i : ℕ) → i < length xs → is_nan (get_or xs i nan) ≡ false
