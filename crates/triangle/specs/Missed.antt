-- What the search for a hit may pass over. Most triangles are missed, and most misses show in u, v and t alone: `outside_of` has no branch, so that a
-- processor asks it of several triangles at once. It may hold back where the judgement misses, for a determinant or a distance that is no good, and
-- never says outside of a hit (`outside_missed`).
use Rattle.std.specs.Prelude.{◌≡◌, refl, Option, None, Some, Bool, true, false, cond, not, ◌||◌, List, ℕ, ◌+◌, ◌≤◌, ◌<◌, ltb, Float}
use Rattle.std.proofs.lemmas.Bool.{false≢true}
use Rattle.std.proofs.Common.{arith, ltb-true, ltb-false}
use Rattle.std.specs.Float.Ieee as Ieee
use Rattle.std.specs.Float.{binary32}
use Rattle.names.specs.Bits.{zero32, one32}
use Rattle.names.specs.Numbers.{flat_limit}
use Rattle.floats.specs.Choice.{magnitude_of}
use Rattle.vectors.specs.declared.Ray.{Ray}
use Rattle.vectors.specs.declared.Triangle.{Triangle}
use Rattle.triangle.specs.declared.Hit.{Hit}
use Rattle.triangle.specs.declared.Solved.{Solved}
use Rattle.triangle.specs.Meet.{hit_of, largest32, front_of, solved_of, judged_of, meet_of}
use Rattle.triangle.specs.Laws.{judged_missed}
use Rattle.triangle.specs.Places.{triangle_at}

-- u below 0 or no number, v below 0, u+v above 1, or t outside shortest..longest: the judgement's own tests, of the same polarity
unfoldable pub outside_of : Solved → Float → Float → Bool
outside_of s shortest longest =
    not (Ieee.le zero32 s.u)
    || Ieee.lt s.v zero32
    || Ieee.lt one32 (Ieee.add binary32 s.u s.v)
    || Ieee.lt s.t shortest
    || Ieee.lt longest s.t

-- of a meeting at each place, those from place i up to place j are misses
abbrev pub AllMiss : (ℕ → Option Hit) → ℕ → ℕ → Type 0
AllMiss meets i j = (l : ℕ) → i ≤ l → l < j → meets l ≡ None

-- the triangles from place i up to place j are missed
abbrev pub Missed : List Float → Ray → ℕ → ℕ → Type 0
Missed points ray i j = AllMiss (λ l. meet_of ray (triangle_at points l)) i j

module _ (meets : ℕ → Option Hit) where
  pub missed_more : (i j k : ℕ) → AllMiss meets i j → AllMiss meets j k → AllMiss meets i k
  missed_more i j k m n l p q = by (ltb l j) refl
    where
      by : (b : Bool) → ltb l j ≡ b → meets l ≡ None
      by true e = m l p (ltb-true l j e)
      by false e = n l (ltb-false l j e) q

  pub missed_one : (i j : ℕ) → AllMiss meets i j → meets j ≡ None → AllMiss meets i (j + 1)
  missed_one i j m e = missed_more i j (j + 1) m (λ l p q. let s : l ≡ j = omega arith in rw s e)

some_test : (flat from to low sum near far good : Bool) (m : Option Hit) → not from || low || sum || near || far ≡ true
    → cond flat None (cond from (cond to (cond low None (cond sum None (cond near None (cond far None (cond good m None))))) None) None) ≡ None
some_test true from to low sum near far good m h = refl
some_test false false to low sum near far good m h = refl
some_test false true false low sum near far good m h = refl
some_test false true true true sum near far good m h = refl
some_test false true true false true near far good m h = refl
some_test false true true false false true far good m h = refl
some_test false true true false false false true good m h = refl
some_test false true true false false false false good m h = absurd (false≢true h)

-- what is outside is a miss
pub outside_missed : (ray : Ray) (triangle : Triangle) → outside_of (solved_of ray triangle) ray.shortest ray.longest ≡ true → meet_of ray triangle ≡ None
unfolding outside_of judged_of
outside_missed ray triangle h =
    let s = solved_of ray triangle in
    judged_missed ray triangle
    (some_test
    (Ieee.le (magnitude_of s.det) flat_limit)
    (Ieee.le zero32 s.u)
    (Ieee.le s.u one32)
    (Ieee.lt s.v zero32)
    (Ieee.lt one32 (Ieee.add binary32 s.u s.v))
    (Ieee.lt s.t ray.shortest)
    (Ieee.lt ray.longest s.t)
    (Ieee.le (magnitude_of s.t) largest32)
    (Some (hit_of s.t s.u s.v (front_of s.det)))
    h)
