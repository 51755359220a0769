-- What the laws of proofs/FilledLaws.antt are said with. Definitions only.
use Rattle.std.specs.Prelude.{◌≡◌, List, ℕ, Float}

-- ---- one result

pub record SameFill (r s : ℕ) (out' out'' : List Float) : Type 0 where
  pub same_answer : r ≡ s
  pub same_list : out' ≡ out''
