-- What the laws of proofs/ContentsLaws.antt are said with. Definitions only.
use Rattle.std.specs.Prelude.{◌≡◌, true, cond, List, ℕ, ◌+◌, ◌-◌, ◌*◌, ◌<◌, ◌≤◌, ltb, eqb, length}
use Rattle.contents.specs.Contents.{marked, entries_at, bodies_from, entry_kind_at, offset_at, length_at, contents_from}

-- ---- one entry

-- entry i of kind k and so long is one of these, in a file of n voxels
pub data Fit (k i long n : ℕ) : Type 0 where
  light : k ≡ 1 → i ≡ 0 → long ≡ n * 4 → Fit k i long n
  coefficients : k ≡ 2 → i ≡ 1 → long ≡ n * 64 → Fit k i long n
  active : k ≡ 3 → i ≡ 2 → long ≡ n → Fit k i long n
  occupied : k ≡ 4 → i ≡ 3 → long ≡ n → Fit k i long n
  corners : k ≡ 5 → i ≡ 4 → long ≡ 24 → Fit k i long n
  foreign : 128 ≤ k → k ≤ 255 → 5 ≤ i → Fit k i long n

-- how long the body of kind i + 1 is
abbrev pub long_of : ℕ → ℕ → ℕ
long_of i n = cond (eqb i 0) (n * 4) (cond (eqb i 1) (n * 64) (cond (ltb i 4) n 24))

-- what one entry says
pub record Entry (s : List ℕ) (n to i previous start : ℕ) : Type 0 where
  pub above : previous < entry_kind_at s i
  pub offset : offset_at s i ≡ start
  pub fit : Fit (entry_kind_at s i) i (length_at s i) n
  pub rest : contents_from s n (to - (i + 1)) (i + 1) (entry_kind_at s i) (start + length_at s i) ≡ true

-- ---- the head

pub record Headed (s : List ℕ) : Type 0 where
  pub long : 12 ≤ length s
  pub mark : marked s ≡ true
  pub least : 5 ≤ entries_at s
  pub most : entries_at s ≤ 16
  pub contents : bodies_from (entries_at s) ≤ length s
