-- How the code dilates words along a grid's middle axis. The voxels of one place on the outer axis are a run of bits, a block, in which the next voxel of a
-- line stands `stride` bits on; so a block taken together with itself, moved by stride, has every line moved by one place, and no line touches another.
-- A block is dilated so four times: twice from above, which marks what lies up to 2 below a mark, and twice from below. Assumes nothing.
use Rattle.std.specs.Prelude.{◌≡◌, List, ℕ, ◌+◌, ◌*◌, ◌/◌, ◌%◌, ◌^◌, ◌≤◌, ◌<◌, max, get_or, set}
use Rattle.std.specs.Int.Bits.{bit_or}
use Rattle.names.specs.Numbers.{reach}
use Rattle.words.specs.Words.{bit_of, bit_at}

-- ---- words

-- word k with the bits of v set
abbrev pub or_word : List ℕ → ℕ → ℕ → List ℕ
or_word words k v = set words k (bit_or (get_or words k 0) v)

-- a word's bits taken together with those s places above, and with those s places below
abbrev pub above_word : ℕ → ℕ → ℕ
above_word s v = bit_or v (v / 2 ^ s)

abbrev pub below_word : ℕ → ℕ → ℕ
below_word s v = bit_or v (v * 2 ^ s % 2 ^ 64)

-- ---- runs of bits

-- v has the bits of words from o on, len of them
pub record Run (words : List ℕ) (o len v : ℕ) : Type 0 where
  pub there : (j : ℕ) → j < len → bit_of v j ≡ bit_at words (o + j)
  pub beyond : (j : ℕ) → len ≤ j → bit_of v j ≡ 0

-- the bits of v are set from o on
pub record Ored (before after : List ℕ) (o v : ℕ) : Type 0 where
  pub there : (j : ℕ) → bit_at after (o + j) ≡ max (bit_at before (o + j)) (bit_of v j)
  pub below : (x : ℕ) → x < o → bit_at after x ≡ bit_at before x

-- bits lo to hi from `at` on are set where those from `from` on are
pub record Merged (before after : List ℕ) (at from lo hi : ℕ) : Type 0 where
  pub taken : (j : ℕ) → lo ≤ j → j < hi → bit_at after (at + j) ≡ max (bit_at before (at + j)) (bit_at before (from + j))
  pub below : (x : ℕ) → x < at + lo → bit_at after x ≡ bit_at before x
  pub above : (x : ℕ) → at + hi ≤ x → bit_at after x ≡ bit_at before x

-- ---- a block of m bits, its lines' places s apart; f and g give its bits before and after

-- each place takes what the place above it has
pub record FromAbove (s m : ℕ) (f g : ℕ → ℕ) : Type 0 where
  pub taken : (j : ℕ) → j + s < m → g j ≡ max (f j) (f (j + s))
  pub last : (j : ℕ) → j < m → m ≤ j + s → g j ≡ f j

-- each place takes what the place below it has
pub record FromBelow (s m : ℕ) (f g : ℕ → ℕ) : Type 0 where
  pub taken : (j : ℕ) → j + s < m → g (j + s) ≡ max (f (j + s)) (f j)
  pub first : (j : ℕ) → j < m → j < s → g j ≡ f j

-- line r has a mark at most a places above its place c and at most b below
abbrev pub MarkedNear : (ℕ → ℕ) → ℕ → ℕ → ℕ → ℕ → ℕ → ℕ → Type 0
MarkedNear f s m a b r c = (k : ℕ) × (k * s + r < m) × (k ≤ c + a) × (c ≤ k + b) × (f (k * s + r) ≡ 1)

-- the marks are those near a mark
pub record SpreadTo (s m a b : ℕ) (f g : ℕ → ℕ) : Type 0 where
  pub marked_near : (r c : ℕ) → r < s → c * s + r < m → g (c * s + r) ≡ 1 → MarkedNear f s m a b r c
  pub near_marked : (r c : ℕ) → r < s → c * s + r < m → MarkedNear f s m a b r c → g (c * s + r) ≡ 1

-- so far in the block from o on, and no other bit changes
pub record BlockSpread (before after : List ℕ) (o s m a b : ℕ) : Type 0 where
  pub spread : SpreadTo s m a b (λ j. bit_at before (o + j)) (λ j. bit_at after (o + j))
  pub below : (x : ℕ) → x < o → bit_at after x ≡ bit_at before x
  pub above : (x : ℕ) → o + m ≤ x → bit_at after x ≡ bit_at before x

-- the block is dilated
abbrev pub BlockDilated : List ℕ → List ℕ → ℕ → ℕ → ℕ → Type 0
BlockDilated before after o s m = BlockSpread before after o s m reach reach

-- the first k blocks are dilated, and no other bit changes
pub record BlocksDilated (before after : List ℕ) (s m k : ℕ) : Type 0 where
  pub spread : (b : ℕ) → b < k → SpreadTo s m reach reach (λ j. bit_at before (b * m + j)) (λ j. bit_at after (b * m + j))
  pub above : (x : ℕ) → k * m ≤ x → bit_at after x ≡ bit_at before x
