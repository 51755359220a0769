-- How the code puts a run in order: a triangle's rank is its place in the run and its place in the scene's list as one number, so that ranks ascend and a rank
-- tells the place. Assumes nothing.
use Rattle.std.specs.Prelude.{◌≡◌, false, List, [], ◌∷◌, ℕ, suc, ◌+◌, ◌*◌, ◌/◌, ◌%◌, ◌≤◌, length, Float}
use Rattle.names.specs.Numbers.{triangle_limit}
use Rattle.limits.specs.Limits.{bad_points}
use Rattle.hits.specs.Hits.{Struck, struck}
use Rattle.tree_order.specs.Order.{times_of}

abbrev pub run_rank : ℕ → ℕ → ℕ
run_rank k p = k * triangle_limit + p

abbrev pub place_of : ℕ → ℕ
place_of rank = rank % triangle_limit

-- keys with ranks, of triangles that stand from place k of the run on
unfoldable pub ranked : (ℕ → Float) → ℕ → List ℕ → List Struck
ranked key k [] = []
ranked key k (p ∷ ps) = struck (key p) (run_rank k p) ∷ ranked key (suc k) ps

-- a list of places of triangles
abbrev pub PlacesOf : List Float → List ℕ → Type 0
PlacesOf points run = (p : ℕ) → length points / 9 ≤ p → times_of p run ≡ 0

-- a scene that rows 4 and 5 accept
pub record AcceptedPoints (points : List Float) : Type 0 where
  pub few : length points / 9 ≤ triangle_limit
  pub good : bad_points points ≡ false
