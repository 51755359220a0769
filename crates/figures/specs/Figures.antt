-- Document 01's figures marked P, in one statement over a list: each applies the definitions that the public contracts cite to the figure's
-- input, refusal included, and the answer is compared bit for bit. Assumes nothing.
use Rattle.std.specs.Prelude.{List, [], ◌∷◌, map, ◌++◌, ℕ, zero, suc, replicate, Float}
use Rattle.std.specs.Float.Ieee as Ieee
use Rattle.std.specs.Float.{binary32}
use Rattle.std.specs.Float.Ieee.{to_bits}
use Rattle.names.specs.Bits.{lit, zero32, quarter32, half32, one32, inf32}
use Rattle.names.specs.Refusals.{unless_refused}
use Rattle.names.specs.Scene.{Scene, scene_of}
use Rattle.vectors.specs.Vectors.{vec}
use Rattle.vectors.specs.declared.Ray.{Ray}
use Rattle.vectors.specs.declared.Triangle.{Triangle}
use Rattle.grid.specs.declared.Axes.{Axes}
use Rattle.grid.specs.declared.Corners.{Corners}
use Rattle.scan.specs.Transmittance.{transmittance_of}
use Rattle.rays.specs.Rays.{meet_values, transmittance_refusal}
use Rattle.means.specs.Box.{light_blur_of}
use Rattle.blurs.specs.Blurs.{light_blur_refusal}
use Rattle.samples.specs.Samples.{sample_count, side_of, share_of, point_of}
use Rattle.occupy.specs.Occupied.{occupied_of}
use Rattle.words.specs.Words.{words_of}
use Rattle.masks.specs.Masks.{masks_refusal, active_mask_of, marked_of}
use Rattle.lookup.specs.Lookup.{light_at_of}
use Rattle.spread.specs.Spread.{run}
use Rattle.intake.specs.Three.{three, begun}
use Rattle.demand.specs.Bake.{bake_of}

-- the bits of floats
abbrev pub bits : List Float → List ℕ
bits l = map (to_bits binary32) l

-- ---- rays: "Triangle Q is (0,0,0),(1,0,0),(0,1,0); direction (0,0,−1)."

unfoldable pub triangle_q : Triangle
triangle_q = record { p0 = vec zero32 zero32 zero32; p1 = vec one32 zero32 zero32; p2 = vec zero32 one32 zero32 }

unfoldable pub points_q : List Float
points_q = zero32 ∷ zero32 ∷ zero32 ∷ one32 ∷ zero32 ∷ zero32 ∷ zero32 ∷ one32 ∷ zero32 ∷ []

unfoldable pub down_from : Float → Float → Float → Ray
down_from a b c = record { origin = vec a b c; direction = vec zero32 zero32 (lit 0xbf800000); shortest = zero32; longest = inf32 }

-- refusal, hit or not, place, distance, u, v, and 1 where the front was met
unfoldable pub meet_answer : Ray → List ℕ
meet_answer ray = let a = meet_values ray triangle_q in a.number ∷ a.hit ∷ a.place ∷ (bits (a.t ∷ a.u ∷ a.v ∷ []) ++ (a.front ∷ []))

-- so many sheets of Q, each of the second of two materials, which is translucent at 0.5; the first is opaque
unfoldable pub stacked : ℕ → List Float
stacked zero = []
stacked (suc n) = points_q ++ stacked n

unfoldable pub sheets : ℕ → Scene
sheets n =
    scene_of (stacked n) (replicate n 1) (0 ∷ 1 ∷ [])
    (one32 ∷ one32 ∷ one32 ∷ zero32 ∷ zero32 ∷ zero32 ∷ zero32 ∷ one32 ∷ one32 ∷ one32 ∷ zero32 ∷ zero32 ∷ zero32 ∷ half32 ∷ [])

-- refusal and transmittance
unfoldable pub passing : ℕ → List ℕ
passing n =
    let ray = down_from quarter32 quarter32 one32 in
    let r = transmittance_refusal (sheets n) ray (replicate n zero32) (replicate n 0) in
    r ∷ bits (unless_refused r (transmittance_of (sheets n) ray) zero32 ∷ [])

-- ---- masks

abbrev pub axes_of : ℕ → ℕ → ℕ → Axes
axes_of w h d = record { width = w; height = h; depth = d }

-- from 0 to these
unfoldable pub up_to_corner : Float → Float → Float → Corners
up_to_corner a b c = record { min = vec zero32 zero32 zero32; max = vec a b c }

-- how many samples triangle Q has over edge 1, how many a side, and where the first lies
unfoldable pub sampled : List ℕ
sampled =
    let n = side_of (sample_count triangle_q one32) in
    let u = share_of 0 n in
    let p = point_of triangle_q u u (Ieee.sub binary32 (Ieee.sub binary32 one32 u) u) in
    sample_count triangle_q one32 ∷ n ∷ bits (p.x ∷ p.y ∷ p.z ∷ [])

-- refusal, both counts, and the word of each mask after the call, on a grid of 6×1×1 voxels of edge 1 with Q in the first
unfoldable pub masked : List ℕ
masked =
    let axes = axes_of 6 1 1 in
    let corners = up_to_corner (lit 0x40c00000) one32 one32 in
    let held : List ℕ = 9 ∷ [] in
    let r = masks_refusal axes corners points_q held held in
    let a = marked_of r axes corners points_q in
    a.refusal ∷ a.occupied ∷ a.active
    ∷ (unless_refused r (words_of (occupied_of axes corners points_q)) held ++ unless_refused r (words_of (active_mask_of axes corners points_q)) held)

-- ---- light blur: refusal, then the light after the call

unfoldable pub blur_answer : Axes → List Float → List Float → List ℕ
blur_answer axes light scratch =
    let r = light_blur_refusal axes light scratch in
    r ∷ bits (unless_refused r (light_blur_of light axes.width axes.height axes.depth) light)

-- ---- lookup: "2×1×1, x from 0 to 2, other axes 0 to 1, y=z=0, light 0, 1": refusal and light

unfoldable pub looked : Float → List ℕ
looked x =
    let a = light_at_of (axes_of 2 1 1) (up_to_corner (lit 0x40000000) one32 one32) (zero32 ∷ one32 ∷ []) (vec x zero32 zero32) in
    a.refusal ∷ bits (a.light ∷ [])

-- ---- bake: "3×1×1 all active, no triangles", called with each allowance in turn: refusals, rays, then next and the rays so far at the end

unfoldable pub bake_answers : List ℕ → List ℕ
bake_answers allowances =
    let r = run (bake_of three) allowances begun in
    r.refusals ++ (r.rays ++ (r.stage.progress.next ∷ r.stage.progress.rays ∷ []))

-- ---- the figures

-- an answer, computed from the definitions, and what document 01 gives for it
pub record Figure : Type 0 where
  pub answer : List ℕ
  pub given : List ℕ

abbrev figure : List ℕ → List ℕ → Figure
figure a g = record { answer = a; given = g }

-- those that computation alone decides, in document 01's order
unfoldable pub computed : List Figure
computed =
    figure (meet_answer (down_from quarter32 quarter32 one32)) (0 ∷ 1 ∷ 0 ∷ 0x3f800000 ∷ 0x3e800000 ∷ 0x3e800000 ∷ 1 ∷ [])
    ∷ figure (meet_answer (down_from half32 half32 one32)) (0 ∷ 1 ∷ 0 ∷ 0x3f800000 ∷ 0x3f000000 ∷ 0x3f000000 ∷ 1 ∷ [])
    ∷ figure (meet_answer (down_from half32 (lit 0x3f400000) one32)) (0 ∷ 0 ∷ 0 ∷ 0 ∷ 0 ∷ 0 ∷ 0 ∷ [])
    ∷ figure (meet_answer (down_from quarter32 quarter32 (lit 0xbf800000))) (0 ∷ 0 ∷ 0 ∷ 0 ∷ 0 ∷ 0 ∷ 0 ∷ [])
    ∷ figure (passing 0) (0 ∷ 0x3f800000 ∷ [])
    ∷ figure (passing 13) (0 ∷ 0x39000000 ∷ [])
    ∷ figure (passing 14) (0 ∷ 0 ∷ [])
    ∷ figure sampled (1 ∷ 1 ∷ 0x3f000000 ∷ 0x3f000000 ∷ 0 ∷ [])
    ∷ figure masked (0 ∷ 1 ∷ 3 ∷ 1 ∷ 7 ∷ [])
    ∷ figure (blur_answer (axes_of 1 1 1) (half32 ∷ []) (zero32 ∷ [])) (0 ∷ 0x3e800000 ∷ [])
    ∷ figure (blur_answer (axes_of 2 1 1) (one32 ∷ zero32 ∷ []) (zero32 ∷ zero32 ∷ [])) (0 ∷ 0x3e800000 ∷ 0x3e800000 ∷ [])
    ∷ figure (looked (lit 0xbe800000)) (0 ∷ 0x3f400000 ∷ [])
    ∷ figure (looked half32) (0 ∷ 0x3f000000 ∷ [])
    ∷ figure (looked (lit 0x3fe00000)) (0 ∷ 0x3f800000 ∷ [])
    ∷ []

-- those that follow from the laws of a spread bake
unfoldable pub bakes : List Figure
bakes =
    figure (bake_answers (384 ∷ 384 ∷ 384 ∷ [])) (0 ∷ 0 ∷ 0 ∷ 64 ∷ 64 ∷ 64 ∷ 3 ∷ 192 ∷ [])
    ∷ figure (bake_answers (448 ∷ 448 ∷ [])) (0 ∷ 0 ∷ 128 ∷ 64 ∷ 3 ∷ 192 ∷ [])
    ∷ figure (bake_answers (383 ∷ [])) (10 ∷ 0 ∷ 0 ∷ 0 ∷ [])
    ∷ []

abbrev pub answers : List Figure → List (List ℕ)
answers l = map (λ (f : Figure). f.answer) l

abbrev pub givens : List Figure → List (List ℕ)
givens l = map (λ (f : Figure). f.given) l
