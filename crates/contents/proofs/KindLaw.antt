-- A kind that is none of 1 to 5 is foreign from 128 to 255, and refused otherwise.
use Prim.Native.Nat.{ℕ, ◌≤◌, ◌<◌}
use mathlib.Core.Path.{◌≡◌}
use mathlib.Core.Bool.{cond, ◌&&◌}
use lib.Dec.{leb}
use borrow.Author.Tests.{ne_eqb, le-leb, lt-leb}
use Rattle.contents.specs.Contents.{kind_of}
use Rattle.contents.specs.declared.Kind.TheVariants.{Foreign, Refused}

-- what the rest of a `match` on 1, 2, 3, 4, 5 knows
abbrev pub Rest : ℕ → Type 0
Rest k = ((((Unit × (k ≡ 1 → ⊥)) × (k ≡ 2 → ⊥)) × (k ≡ 3 → ⊥)) × (k ≡ 4 → ⊥)) × (k ≡ 5 → ⊥)

rest : (k : ℕ) → Rest k → kind_of k ≡ cond (leb 128 k && leb k 255) Foreign Refused
unfolding kind_of
rest k r = simp (ne_eqb k 1 r.0.0.0.0.1, ne_eqb k 2 r.0.0.0.1, ne_eqb k 3 r.0.0.1, ne_eqb k 4 r.0.1, ne_eqb k 5 r.1)

pub foreign : (k : ℕ) → Rest k → 128 ≤ k → k ≤ 255 → Foreign ≡ kind_of k
foreign k r a b = simp (rest k r, le-leb 128 k a, le-leb k 255 b)

pub below : (k : ℕ) → Rest k → k < 128 → Refused ≡ kind_of k
below k r a = simp (rest k r, lt-leb 128 k a)

pub above : (k : ℕ) → Rest k → 128 ≤ k → 255 < k → Refused ≡ kind_of k
above k r a b = simp (rest k r, le-leb 128 k a, lt-leb k 255 b)
