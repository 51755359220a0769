-- What it means that no other kind stands in the list, and how much room hits take.
use Rattle.std.specs.Prelude.{◌≡◌, refl, Bool, true, false, cond, not, ◌||◌, ◌↔◌, List, [], ◌∷◌, ℕ, zero, suc, ◌<◌, ◌≤◌, eqb, length, get_or}
use Rattle.std.proofs.Common.{sym, le_of_suc-le-suc, arith, eqb-true, eq-eqb}
use Rattle.std.proofs.lemmas.Bool.{false≢true}
use Rattle.names.specs.Numbers.{opaque_kind}
use Rattle.names.specs.Scene.{Scene, other_kind, hit_room}

-- no other kind stands in the list exactly when each of its kinds is opaque
pub none_other : (kinds : List ℕ) → (other_kind kinds ≡ false) ↔ ((m : ℕ) → m < length kinds → get_or kinds m 0 ≡ opaque_kind)
unfolding other_kind
none_other kinds = (out kinds, back kinds)
  where
    out : (kinds : List ℕ) → other_kind kinds ≡ false → (m : ℕ) → m < length kinds → get_or kinds m 0 ≡ opaque_kind
    out [] e m h = absurd (omega arith)
    out (k ∷ kinds) e zero h = at (eqb k opaque_kind) refl e
      where
        at : (b : Bool) → eqb k opaque_kind ≡ b → not b || other_kind kinds ≡ false → k ≡ opaque_kind
        at true f g = eqb-true k opaque_kind f
        at false f g = absurd (false≢true (sym g))
    out (k ∷ kinds) e (suc m) h = out kinds (rest (eqb k opaque_kind) e) m (le_of_suc-le-suc h)
      where
        rest : (b : Bool) → not b || other_kind kinds ≡ false → other_kind kinds ≡ false
        rest true g = g
        rest false g = absurd (false≢true (sym g))

    back : (kinds : List ℕ) → ((m : ℕ) → m < length kinds → get_or kinds m 0 ≡ opaque_kind) → other_kind kinds ≡ false
    back [] h = refl
    back (k ∷ kinds) h = rw (eq-eqb k opaque_kind (h 0 (omega arith)), back kinds (λ m l. h (suc m) (omega arith))) refl

-- hits take no more room than there are triangles, and none where no other kind stands in the list
pub room_most : (s : Scene) → hit_room s ≤ length s.uses
unfolding hit_room
room_most s = go (other_kind s.kinds)
  where
    go : (b : Bool) → cond b (length s.uses) 0 ≤ length s.uses
    go true = omega arith
    go false = omega arith

pub solid_room : (s : Scene) → other_kind s.kinds ≡ false → hit_room s ≡ 0
unfolding hit_room
solid_room s e = rw e refl

-- they take room for all where one does stand there
pub other_room : (s : Scene) (m : ℕ) → m < length s.kinds → (get_or s.kinds m 0 ≡ opaque_kind → ⊥) → hit_room s ≡ length s.uses
unfolding hit_room
other_room s m h n = go (other_kind s.kinds) refl
  where
    go : (b : Bool) → other_kind s.kinds ≡ b → cond b (length s.uses) 0 ≡ length s.uses
    go true e = refl
    go false e = absurd (n ((none_other s.kinds).0 e m h))
