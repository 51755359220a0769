-- How the code works on words: it changes one bit, looks for the next mark, and takes eight bits at a time apart. Nothing here is part of what a mask means. Assumes nothing.
use Rattle.std.specs.Prelude.{Bool, cond, List, [], ◌∷◌, ℕ, zero, suc, ◌+◌, ◌-◌, ◌*◌, ◌/◌, ◌%◌, ◌^◌, get_or, set}
use Rattle.std.specs.Int.Bits.{bit_and}
use Rattle.lists.specs.Fold.{tab}
use Rattle.words.specs.Words.{bit_of}

-- a word with v for its bit j
abbrev pub put_bit : ℕ → ℕ → ℕ → ℕ
put_bit w j v = w - bit_of w j * 2 ^ j + v * 2 ^ j

-- words with v for their bit i
unfoldable pub put_at : List ℕ → ℕ → ℕ → List ℕ
put_at words i v = set words (i / 64) (put_bit (get_or words (i / 64) 0) (i % 64) v)

-- m words with no bit set
unfoldable pub no_bits : ℕ → List ℕ
no_bits m = tab (λ k. 0) m 0

-- the first of the k numbers from i on of which f holds, or n if there is none
unfoldable pub next_from : (ℕ → Bool) → ℕ → ℕ → ℕ → ℕ
next_from f n zero i = n
next_from f n (suc k) i = cond (f i) i (next_from f n k (i + 1))

-- the eight bits of b, each in a byte of its own
unfoldable pub spread_of : ℕ → ℕ
spread_of b = bit_and ((bit_and (b * 0x0101010101010101) 0x8040201008040201 + 0x7f7f7f7f7f7f7f7f) / 2 ^ 7) 0x0101010101010101

-- the eight bytes of a number, lowest first
abbrev pub eight_bytes : ℕ → List ℕ
eight_bytes x =
    x % 256
    ∷ x / 256 % 256
    ∷ x / 65536 % 256
    ∷ x / 16777216 % 256
    ∷ x / 4294967296 % 256
    ∷ x / 1099511627776 % 256
    ∷ x / 281474976710656 % 256
    ∷ x / 72057594037927936 % 256
    ∷ []
