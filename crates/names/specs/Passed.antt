-- A call that answers 0 has passed all its rows: each test is false, read off row by row. And a call whose tests are all false answers 0.
use Rattle.std.specs.Prelude.{◌≡◌, refl, false, List, [], ◌∷◌}
use Rattle.names.specs.Refusals.{Row, first_of, Numbered, NoneHolds, none, later, none_found}

-- every row's test is false: a product, row by row, that ends in `Unit`
abbrev pub Passed : List Row → Type 0
Passed [] = Unit
Passed (r ∷ rows) = (r.holds ≡ false) × Passed rows

read_off : {rows : List Row} → NoneHolds rows → Passed rows
read_off none = tt
read_off (later f) = (refl, read_off f)

pub passed : (rows : List Row) → Numbered rows → first_of rows ≡ 0 → Passed rows
passed rows n e = read_off (none_found rows n e)

pub passes : (rows : List Row) → Passed rows → first_of rows ≡ 0
unfolding first_of
passes [] h = refl
passes (r ∷ rows) h = rw h.0 (passes rows h.1)
