-- The hits of a ray, "by t, then by place": each is inserted before the first that it comes before. The back of a panel is no hit.
use Rattle.std.specs.Prelude.{Option, None, Some, Bool, cond, ◌||◌, ◌&&◌, List, [], ◌∷◌, ◌++◌, map, ℕ, zero, suc, take, drop, ltb, Float}
use Rattle.std.specs.Float.Ieee as Ieee
use Rattle.names.specs.Scene.{Scene}
use Rattle.vectors.specs.declared.Ray.{Ray}
use Rattle.triangle.specs.declared.Hit.{Hit}
use Rattle.panels.specs.Panels.{meet_at}

-- a hit: how far, and the place of the triangle
pub record Struck : Type 0 where
  pub distance : Float
  pub place : ℕ

abbrev pub struck : Float → ℕ → Struck
struck t i = record { distance = t; place = i }

-- it is nearer, or as near and of a lower place
unfoldable pub before : Struck → Struck → Bool
before h g = Ieee.lt h.distance g.distance || (Ieee.eq h.distance g.distance && ltb h.place g.place)

unfoldable pub insert_of : Struck → List Struck → List Struck
insert_of h [] = h ∷ []
insert_of h (g ∷ gs) = cond (before h g) (h ∷ g ∷ gs) (g ∷ insert_of h gs)

-- the hits with a meeting at place i among them
unfoldable pub with_meet : List Struck → ℕ → Option Hit → List Struck
with_meet hs i None = hs
with_meet hs i (Some h) = insert_of (struck h.t i) hs

-- the hits of the first n triangles of a scene
unfoldable pub hits_of : Scene → Ray → ℕ → List Struck
hits_of scene ray zero = []
hits_of scene ray (suc i) = with_meet (hits_of scene ray i) i (meet_at scene ray i)

abbrev pub places_of : List Struck → List ℕ
places_of hs = map (λ (h : Struck). h.place) hs

-- ---- how two scratch lists hold hits

-- the distances of one and the places of the other, pair by pair
unfoldable pub paired : List Float → List ℕ → List Struck
paired [] is = []
paired (t ∷ ts) [] = []
paired (t ∷ ts) (i ∷ is) = struck t i ∷ paired ts is

-- how many at the head a hit does not come before
unfoldable pub rank_of : Struck → List Struck → ℕ
rank_of h [] = zero
rank_of h (g ∷ gs) = cond (before h g) zero (suc (rank_of h gs))

unfoldable pub insert_at {ℓ} : {A : Type ℓ} → ℕ → A → List A → List A
insert_at j x l = take j l ++ (x ∷ drop j l)
