-- "Hold masks as u64 words, voxel i in bit i%64 of word i/64, unused bits zero." What a mask says is defined over its entries, one a voxel (`marks`); the
-- words stand for those entries, and a mask of n voxels takes (n+63)/64 of them. Row 3 asks for that many words and row 13 for no unused bit set; words that
-- neither refuses and their entries are each other's (WordsLaws, `words_entries`, `entries_words`). Assumes nothing.
use Rattle.std.specs.Prelude.{◌≡◌, Bool, false, cond, ◌&&◌, List, ℕ, zero, suc, ◌+◌, ◌*◌, ◌/◌, ◌%◌, ◌^◌, ◌<◌, leb, eqb, length, get_or}
use Rattle.lists.specs.Fold.{tab}
use Rattle.lists.specs.Any.{any}
use Rattle.marks.specs.Marks.{is_marked}

-- bit j of a word
abbrev pub bit_of : ℕ → ℕ → ℕ
bit_of w j = w / 2 ^ j % 2

-- bit i of a list of words
abbrev pub bit_at : List ℕ → ℕ → ℕ
bit_at words i = bit_of (get_or words (i / 64) 0) (i % 64)

-- the n entries, each 0 or 1, that words stand for
unfoldable pub entries_of : List ℕ → ℕ → List ℕ
entries_of words n = tab (bit_at words) n 0

-- how many words n voxels take
abbrev pub word_count : ℕ → ℕ
word_count n = (n + 63) / 64

-- the number whose bits, lowest first, say of k voxels from i on whether f holds
unfoldable pub packed : (ℕ → Bool) → ℕ → ℕ → ℕ
packed f zero i = 0
packed f (suc k) i = cond (f i) 1 0 + 2 * packed f k (i + 1)

-- word k of a mask
abbrev pub word_of : List ℕ → ℕ → ℕ
word_of entries k = packed (is_marked entries) 64 (k * 64)

-- the words of a mask
unfoldable pub words_of : List ℕ → List ℕ
words_of entries = tab (word_of entries) (word_count (length entries)) 0

-- a bit of the words past the last of n voxels is set
unfoldable pub unused_set : List ℕ → ℕ → Bool
unused_set words n = any (λ i. leb n i && eqb (bit_at words i) 1) (length words * 64) 0

-- words of 64 bits
abbrev pub AreWords : List ℕ → Type 0
AreWords words = (k : ℕ) → get_or words k 0 < 2 ^ 64

-- words of a mask of n voxels: as many as that takes, and no unused bit set
pub record Tidy (words : List ℕ) (n : ℕ) : Type 0 where
  pub long : length words ≡ word_count n
  pub clean : unused_set words n ≡ false

-- words hold a mask of entries
pub record Holds (words : List ℕ) (n : ℕ) (entries : List ℕ) : Type 0 where
  pub tidy : Tidy words n
  pub same : entries_of words n ≡ entries
