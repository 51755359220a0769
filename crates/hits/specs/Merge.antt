-- Hits put in order. `hits_of` inserts one after the other; two lists that are in order are merged, from the heads on.
use Rattle.std.specs.Prelude.{◌≡◌, Bool, true, false, cond, List, [], ◌∷◌}
use Rattle.std.specs.Float.Ieee.{is_nan}
use Rattle.hits.specs.Hits.{Struck, before, insert_of}

-- hits inserted one after the other into some that are there
unfoldable pub insert_all : List Struck → List Struck → List Struck
insert_all gs [] = gs
insert_all gs (h ∷ hs) = insert_all (insert_of h gs) hs

-- the hits of a list by distance, then by place
abbrev pub sort_of : List Struck → List Struck
sort_of hs = insert_all [] hs

-- h and what is merged by `rest`, merged with a second list
unfoldable pub merge_into : Struck → (List Struck → List Struck) → List Struck → List Struck
merge_into h rest [] = h ∷ rest []
merge_into h rest (g ∷ gs) = cond (before g h) (g ∷ merge_into h rest gs) (h ∷ rest (g ∷ gs))

-- two lists merged: the head of the second is taken where it comes before the head of the first
unfoldable pub merge_of : List Struck → List Struck → List Struck
merge_of [] gs = gs
merge_of (h ∷ hs) gs = merge_into h (merge_of hs) gs

-- whether the second list's head is taken
unfoldable pub takes_second : List Struck → List Struck → Bool
takes_second hs [] = false
takes_second [] (g ∷ gs) = true
takes_second (h ∷ hs) (g ∷ gs) = before g h

-- every distance is a number
abbrev pub Numbers : List Struck → Type 0
Numbers [] = Unit {0}
Numbers (h ∷ hs) = (is_nan h.distance ≡ false) × Numbers hs
