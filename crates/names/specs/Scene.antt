-- A scene as the lent lists hold it. Assumes nothing.
use Rattle.std.specs.Prelude.{◌≡◌, Bool, true, false, cond, not, ◌||◌, List, [], ◌∷◌, ℕ, ◌*◌, ◌<◌, ◌≤◌, eqb, length, get_or, Float}
use Rattle.names.specs.Numbers.{opaque_kind, triangle_limit, material_limit}

-- T triangles and M materials
pub record Scene : Type 0 where
  -- nine numbers a triangle: p0 xyz, p1 xyz, p2 xyz
  pub points : List Float
  -- one a triangle: its material's place
  pub uses : List ℕ
  -- one a material: 0 opaque, 1 translucent, 2 a panel, opaque from the front and absent from the back
  pub kinds : List ℕ
  -- seven a material: base colour RGB, emissive RGB, transmission
  pub numbers : List Float
  -- whether it comes with a box tree: a triangle whose own padded box a ray passes over is then none of its candidates
  pub boxed : Bool
  -- the tree: six numbers a box, three whole numbers a box, places of triangles
  pub boxes : List Float
  pub nodes : List ℕ
  pub order : List ℕ

abbrev pub scene_for : Bool → List Float → List ℕ → List ℕ → List Float → List Float → List ℕ → List ℕ → Scene
scene_for boxed ps us ks ns bs ds os =
    record { points = ps; uses = us; kinds = ks; numbers = ns; boxed = boxed; boxes = bs; nodes = ds; order = os }

-- without a tree, and with one
abbrev pub scene_of : List Float → List ℕ → List ℕ → List Float → Scene
scene_of ps us ks ns = scene_for false ps us ks ns [] [] []

abbrev pub tree_scene : List Float → List ℕ → List ℕ → List Float → List Float → List ℕ → List ℕ → Scene
tree_scene = scene_for true

-- the lists of a scene fit each other and the limits: what stands once rows 3, 4 and 6 have passed
pub record Sound (s : Scene) : Type 0 where
  pub points : length s.points ≡ length s.uses * 9
  pub numbers : length s.numbers ≡ length s.kinds * 7
  pub triangles : length s.uses ≤ triangle_limit
  pub materials : length s.kinds ≤ material_limit
  pub within : (i : ℕ) → i < length s.uses → get_or s.uses i 0 < length s.kinds

-- ---- solid walls

-- "another kind stands in the list": one that is not opaque, of a material that is used or not
unfoldable pub other_kind : List ℕ → Bool
other_kind [] = false
other_kind (k ∷ kinds) = not (eqb k opaque_kind) || other_kind kinds

-- for how many hits of a ray there has to be room: none where every material is opaque, since the ray then ends at its first hit
unfoldable pub hit_room : Scene → ℕ
hit_room s = cond (other_kind s.kinds) (length s.uses) 0

-- two lists of hits of these lengths have it
abbrev pub HitsFit : Scene → ℕ → ℕ → Type 0
HitsFit s distances_length places_length = (hit_room s ≤ distances_length) × (hit_room s ≤ places_length)
