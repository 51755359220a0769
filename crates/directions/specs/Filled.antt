-- The table in a lent list: 3 where the list has another length than the table's, and then the list is as it was. Definitions only.
use Rattle.std.specs.Prelude.{◌≡◌, not, List, [], ◌∷◌, ℕ, eqb, length, Float}
use Rattle.names.specs.Numbers.{sky_numbers}
use Rattle.names.specs.Refusals.{Row, row, first_of, unless_refused}
use Rattle.directions.specs.Table.{directions}

abbrev pub fill_rows : List Float → List Row
fill_rows out = row 3 (not (eqb (length out) sky_numbers)) ∷ []

unfoldable pub fill_refusal : List Float → ℕ
fill_refusal out = first_of (fill_rows out)

pub record DirectionsFilled (out : List Float) (r : ℕ) (out' : List Float) : Type 0 where
  pub answer : r ≡ fill_refusal out
  pub out_after : out' ≡ unless_refused r directions out
