-- Where the five bodies lie in a file of n voxels. Assumes nothing.
use Rattle.std.specs.Prelude.{◌≡◌, refl, Bool, true, false, cond, ◌&&◌, List, ℕ, zero, suc, ◌+◌, ◌-◌, ◌*◌, ◌<◌, ◌≤◌, leb, ltb, eqb, length}
use Rattle.std.proofs.Common.{sym, ◌∙◌, arith, eqb-true, leb-true, ltb-true, eq-eqb, le-leb, lt-ltb, ne_eqb}
use Rattle.std.proofs.lemmas.Bool.{false≢true}
use Rattle.std.proofs.Math.Bool.{and-eq-true_iff}
use Rattle.std.proofs.Math.Nat.{sub-zero}
use Rattle.lists.specs.Fold.{ahead}
use Rattle.contents.specs.Contents.{marked, entries_at, bodies_from, headed, entry_kind_at, offset_at, length_at, kind_of, body_fits, entry_good, contents_from, contents_good}
use Rattle.contents.specs.declared.Kind.TheVariants.{Light, Coefficients, Active, Occupied, Corners, Foreign, Refused}

pub record Laid (s : List ℕ) (n : ℕ) : Type 0 where
  pub light : offset_at s 0 ≡ bodies_from (entries_at s)
  pub volume : offset_at s 1 ≡ bodies_from (entries_at s) + n * 4
  pub active : offset_at s 2 ≡ bodies_from (entries_at s) + n * 68
  pub occupied : offset_at s 3 ≡ bodies_from (entries_at s) + n * 69
  pub corners : offset_at s 4 ≡ bodies_from (entries_at s) + n * 70
  pub within : bodies_from (entries_at s) + n * 70 + 24 ≤ length s
  pub kind₀ : entry_kind_at s 0 ≡ 1
  pub kind₁ : entry_kind_at s 1 ≡ 2
  pub kind₂ : entry_kind_at s 2 ≡ 3
  pub kind₃ : entry_kind_at s 3 ≡ 4
  pub kind₄ : entry_kind_at s 4 ≡ 5
  pub long₀ : length_at s 0 ≡ n * 4
  pub long₁ : length_at s 1 ≡ n * 64
  pub long₂ : length_at s 2 ≡ n
  pub long₃ : length_at s 3 ≡ n
  pub long₄ : length_at s 4 ≡ 24
  -- what is left after the five
  pub rest : contents_from s n (entries_at s - 5) 5 5 (bodies_from (entries_at s) + n * 70 + 24) ≡ true
