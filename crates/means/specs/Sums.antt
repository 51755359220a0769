-- What the inner loops give: a row's columns, a plane's rows, a box's planes, each added to a sum s. Assumes nothing.
use Rattle.std.specs.Prelude.{◌≡◌, List, ℕ, ◌+◌, ◌-◌, ◌*◌, Float}
use Rattle.std.proofs.Common.{ap₂}
use Rattle.lists.specs.Fold.{fold, tab}
use Rattle.means.specs.declared.Span.{Span}
use Rattle.means.specs.Box.{first_near, past_near, plus}

-- the coordinates within 1 of x on an axis of n
abbrev pub span_of : ℕ → ℕ → Span
span_of x n = record { first = first_near x; past = past_near x n }

pub span_is : (r : Span) (x n : ℕ) → r.first ≡ first_near x → r.past ≡ past_near x n → r ≡ span_of x n
span_is r x n e f = ap₂ (λ (a b : ℕ). record { first = a; past = b }) e f

abbrev pub plus_cell : List Float → ℕ → ℕ → ℕ → ℕ → Float → Float
plus_cell src stride c row x s = plus src stride c (row + x) s

unfoldable pub row_sum : List Float → ℕ → ℕ → ℕ → Span → Float → Float
row_sum src stride c row columns s = fold (plus_cell src stride c row) (columns.past - columns.first) columns.first s

abbrev pub plus_row : List Float → ℕ → ℕ → ℕ → Span → ℕ → ℕ → Float → Float
plus_row src stride c w columns plane y s = row_sum src stride c ((plane + y) * w) columns s

unfoldable pub plane_sum : List Float → ℕ → ℕ → ℕ → Span → ℕ → Span → Float → Float
plane_sum src stride c w columns plane rows s = fold (plus_row src stride c w columns plane) (rows.past - rows.first) rows.first s

abbrev pub plus_plane : List Float → ℕ → ℕ → ℕ → ℕ → Span → Span → ℕ → Float → Float
plus_plane src stride c w h columns rows z s = plane_sum src stride c w columns (z * h) rows s

unfoldable pub box_sum : List Float → ℕ → ℕ → ℕ → ℕ → Span → Span → Span → Float → Float
box_sum src stride c w h columns rows planes s =
    fold (plus_plane src stride c w h columns rows) (planes.past - planes.first) planes.first s

-- the voxel of a box that stands last in the list
abbrev pub last_in : ℕ → ℕ → Span → Span → Span → ℕ
last_in w h columns rows planes = ((planes.past - 1) * h + (rows.past - 1)) * w + (columns.past - 1)

-- what f gives for each of sixteen numbers
abbrev pub each : (ℕ → Float) → List Float
each f = tab f 16 0
