-- What the rows mean: of each, what holds exactly when it is not given. And what follows once several have passed.
use Rattle.std.specs.Prelude.{◌≡◌, refl, Bool, true, false, not, ◌&&◌, ◌||◌, ◌↔◌, ◌⊎◌, List, [], ◌∷◌, ℕ, zero, suc, ◌+◌, ◌*◌, ◌/◌, ◌%◌, ◌≤◌, ◌<◌, ltb, leb, eqb, length, get_or, drop, Float}
use Rattle.std.proofs.Common.{sym, ap, ◌∙◌, ⊎_elim, div-add-mod', add-zero, zero-add, mul-div_cancel, add-one, arith, le-ltb, eq-eqb, ne_eqb, ltb-false, leb-false, eqb-true, drop_of_length-le, drop-cons}
use Rattle.std.proofs.Math.Bool.{or-false, and-eq-true_iff}
use Rattle.std.proofs.lemmas.Bool.{false≢true, lt-leb, not-false}
use Rattle.std.proofs.Math.Nat.{mul-mod_left}
use Rattle.std.specs.Float.Ieee as Ieee
use Rattle.std.specs.Float.Ieee.Scale.{finite}
use Rattle.std.specs.Float.{nan, inf, fin}
use Rattle.std.specs.Float.Ieee.{is_nan}
use Rattle.names.specs.Bits.{one32}
use Rattle.names.specs.Numbers.{axis_limit, triangle_limit, material_limit, opaque_kind, last_kind, lamp_limit, point_limit, edge_limit, colour_limit, light_direction_limit, origin_limit, direction_limit, shortest_limit, position_limit, light_limit, coefficient_limit, thin_limit}
use Rattle.names.specs.Refusals.{Row, row, first_of}
use Rattle.names.specs.Scene.{Scene, Sound, other_kind, HitsFit}
use Rattle.names.specs.SolidLaws.{none_other, room_most, solid_room}
use Rattle.vectors.specs.declared.Vec3.{Vec3}
use Rattle.vectors.specs.declared.Ray.{Ray}
use Rattle.vectors.specs.Vectors.{dot_v}
use Rattle.grid.specs.declared.Axes.{Axes}
use Rattle.grid.specs.declared.Corners.{Corners}
use Rattle.grid.specs.Grid.{edges_of, AxesUnder, AxesWithin}
use Rattle.lists.specs.Any.{any, any_in, any_out}
use Rattle.limits.specs.declared.Lamp.{Lamp}
use Rattle.lists.specs.Some.{some, none_out, none_in}
use Rattle.limits.specs.Limits.{within, outside, up_to, outside_v, bad_axis, bad_axes_under, bad_axes, bad_corners, bad_edges, bad_grid, wrong_share, too_short, short_hits, wrong_scene, too_many, bad_points, bad_kinds, bad_number, bad_from, bad_numbers, bad_uses, bad_materials, bad_materials_for, bad_direction, bad_sky, bad_ray, bad_mask, bad_lights, bad_coefficients, lamp_count, lamp_at, bad_lamp, bad_lamp_at, bad_lamps}

-- ---- tests joined

or_out : (a b : Bool) → a || b ≡ false → (a ≡ false) × (b ≡ false)
or_out true b e = absurd (false≢true (sym e))
or_out false b e = (refl, e)

or_in : (a b : Bool) → (a ≡ false) × (b ≡ false) → a || b ≡ false
or_in a b h = rw h.0 h.1

-- a test of two parts, and of three
pub either : (a b : Bool) → (a || b ≡ false) ↔ ((a ≡ false) × (b ≡ false))
either a b = (or_out a b, or_in a b)

pub any_of_three : (a b c : Bool) → (a || b || c ≡ false) ↔ ((a ≡ false) × (b ≡ false) × (c ≡ false))
any_of_three a b c = (out, in')
  where
    out : a || b || c ≡ false → (a ≡ false) × (b ≡ false) × (c ≡ false)
    out e = let p = or_out (a || b) c e in let q = or_out a b p.0 in (q.0, q.1, p.1)

    in' : (a ≡ false) × (b ≡ false) × (c ≡ false) → a || b || c ≡ false
    in' h = or_in (a || b) c (or_in a b (h.0, h.1), h.2)

-- ---- one number

-- what lies within a finite bound is finite
pub limit_finite : (b x : Float) → finite b ≡ true → within b x ≡ true → finite x ≡ true
unfolding within Ieee.neg Ieee.le Ieee.lt Ieee.eq
limit_finite nan x h e = absurd (false≢true h)
limit_finite (inf t) x h e = absurd (false≢true h)
limit_finite (fin t n d) nan h e = absurd (false≢true e)
limit_finite (fin t n d) (inf true) h e = absurd (false≢true e)
limit_finite (fin t n d) (inf false) h e = absurd (false≢true e)
limit_finite (fin t n d) (fin s m q) h e = refl

-- and lies between the bounds
pub within_between : (b x : Float) → (within b x ≡ true) ↔ ((Ieee.le (Ieee.neg b) x ≡ true) × (Ieee.le x b ≡ true))
unfolding within
within_between b x = and-eq-true_iff _ _

-- only NaN differs from itself
pub differs : (x : Float) → Ieee.ne x x ≡ is_nan x
unfolding Ieee.ne Ieee.eq is_nan
differs nan = refl
differs (inf true) = refl
differs (inf false) = refl
differs (fin true m e) = rw (eq-eqb (m * Ieee.up e * Ieee.down e) (m * Ieee.up e * Ieee.down e) refl)
differs (fin false m e) = rw (eq-eqb (m * Ieee.up e * Ieee.down e) (m * Ieee.up e * Ieee.down e) refl)

-- ---- three numbers

pub vector_row : (b : Float) (v : Vec3)
    → (outside_v b v ≡ false) ↔ ((within b v.x ≡ true) × (within b v.y ≡ true) × (within b v.z ≡ true))
unfolding outside_v
vector_row b v = (out, in')
  where
    out : outside b v.x || outside b v.y || outside b v.z ≡ false → (within b v.x ≡ true) × (within b v.y ≡ true) × (within b v.z ≡ true)
    out e = let p = (any_of_three _ _ _).0 e in (not-false _ p.0, not-false _ p.1, not-false _ p.2)

    in' : (within b v.x ≡ true) × (within b v.y ≡ true) × (within b v.z ≡ true) → outside b v.x || outside b v.y || outside b v.z ≡ false
    in' h = rw (h.0, h.1, h.2)

-- ---- a list of numbers

pub all_within : (b : Float) (l : List Float) → (some (outside b) l ≡ false) ↔ ((i : ℕ) → i < length l → within b (get_or l i nan) ≡ true)
all_within b l =
    (λ e i h. not-false _ (none_out (outside b) l nan e i h), λ f. none_in (outside b) l nan (λ i h. ap not (f i h)))

-- ---- 1

-- one axis under any limit
axis_row : (most n : ℕ) → (bad_axis most n ≡ false) ↔ ((1 ≤ n) × (n ≤ most))
axis_row most n = (out, λ h. or_in _ _ (le-ltb n 1 h.0, le-ltb most n h.1))
  where
    out : bad_axis most n ≡ false → (1 ≤ n) × (n ≤ most)
    out e = let p = or_out (ltb n 1) (ltb most n) e in (ltb-false n 1 p.0, ltb-false most n p.1)

pub axes_under_row : (most : ℕ) (a : Axes) → (bad_axes_under most a ≡ false) ↔ AxesUnder most a
axes_under_row most a = (out, in')
  where
    out : bad_axes_under most a ≡ false → AxesUnder most a
    out e =
        let p = (any_of_three _ _ _).0 e in
        let w = (axis_row most a.width).0 p.0 in
        let h = (axis_row most a.height).0 p.1 in
        let d = (axis_row most a.depth).0 p.2 in
        record { width = w.0; widest = w.1; height = h.0; highest = h.1; depth = d.0; deepest = d.1 }

    in' : AxesUnder most a → bad_axes_under most a ≡ false
    in' h =
        (any_of_three _ _ _).1
        ((axis_row most a.width).1 (h.width, h.widest), (axis_row most a.height).1 (h.height, h.highest), (axis_row most a.depth).1 (h.depth, h.deepest))

pub axes_row : (a : Axes) → (bad_axes a ≡ false) ↔ AxesWithin a
unfolding bad_axes
axes_row a = axes_under_row axis_limit a

-- an axis lies above a limit
abbrev pub Above : ℕ → Axes → Type 0
Above most a = (most < a.width) ⊎ (most < a.height) ⊎ (most < a.depth)

-- which that limit refuses
pub above_limit : (most : ℕ) (a : Axes) → Above most a → bad_axes_under most a ≡ true
above_limit most a h = by (bad_axes_under most a) refl
  where
    by : (b : Bool) → bad_axes_under most a ≡ b → bad_axes_under most a ≡ true
    by true e = e
    by false e =
        let w = (axes_under_row most a).0 e in
        ⊎_elim (λ p. absurd (omega (arith, p, w.widest))) (⊎_elim (λ p. absurd (omega (arith, p, w.highest))) (λ p. absurd (omega (arith, p, w.deepest)))) h

-- none does; one of 0 may be among them
abbrev pub NoneAbove : ℕ → Axes → Type 0
NoneAbove most a = (a.width ≤ most) × (a.height ≤ most) × (a.depth ≤ most)

same_axis : (old new n : ℕ) → old ≤ new → n ≤ old → bad_axis new n ≡ bad_axis old n
same_axis old new n l p =
    let q : n ≤ new = omega (arith, p, l) in
    rw (le-ltb old n p, le-ltb new n q) refl

-- "no bit changes for grids the old limit allowed": of a grid with no axis above it row 1 says the same under a higher limit
pub raised_limit : (old new : ℕ) (a : Axes) → old ≤ new → NoneAbove old a → bad_axes_under new a ≡ bad_axes_under old a
raised_limit old new a l h =
    rw (same_axis old new a.width l h.0, same_axis old new a.height l h.1, same_axis old new a.depth l h.2) refl

-- and rows that begin with it give the same number
pub rows_raised : (old new : ℕ) (a : Axes) (rows : List Row) → old ≤ new → NoneAbove old a
    → first_of (row 1 (bad_axes_under new a) ∷ rows) ≡ first_of (row 1 (bad_axes_under old a) ∷ rows)
rows_raised old new a rows l h = ap (λ (b : Bool). first_of (row 1 b ∷ rows)) (raised_limit old new a l h)

-- ---- 2

-- the corners lie within ±4,096, and each edge is at least 1/1024
pub grid_row : (c : Corners) (a : Axes)
    → (bad_grid c a ≡ false)
    ↔ ((outside_v point_limit c.min ≡ false)
    × (outside_v point_limit c.max ≡ false)
    × (Ieee.le edge_limit (edges_of c a).x ≡ true)
    × (Ieee.le edge_limit (edges_of c a).y ≡ true)
    × (Ieee.le edge_limit (edges_of c a).z ≡ true))
unfolding bad_corners bad_edges
grid_row c a = (
  λ e.
      let p = or_out (outside_v point_limit c.min || outside_v point_limit c.max) _ e in
      let q = or_out _ _ p.0 in
      let r = (any_of_three _ _ _).0 p.1 in
      (q.0, q.1, not-false _ r.0, not-false _ r.1, not-false _ r.2),
  λ h. rw (h.0, h.1, h.2, h.3, h.4),
)

-- ---- 3

-- exactly k for each of n
pub share_row : (k len n : ℕ) → 0 < k → (wrong_share k len n ≡ false) ↔ (len ≡ n * k)
unfolding wrong_share
share_row k len n h = (out, in')
  where
    out : not (eqb (len / k) n && eqb (len % k) 0) ≡ false → len ≡ n * k
    out e =
        let p = (and-eq-true_iff (eqb (len / k) n) (eqb (len % k) 0)).0 (not-false _ e) in
        let q = eqb-true (len / k) n p.0 in
        let r = eqb-true (len % k) 0 p.1 in
        sym (div-add-mod' len k) ∙ rw (q, r) (add-zero (n * k))

    in' : len ≡ n * k → not (eqb (len / k) n && eqb (len % k) 0) ≡ false
    in' e =
        let q : len / k ≡ n = rw e (mul-div_cancel n h) in
        let r : len % k ≡ 0 = rw e (mul-mod_left n k) in
        rw (eq-eqb (len / k) n q, eq-eqb (len % k) 0 r)

pub scene_row : (points : List Float) (uses kinds : List ℕ) (numbers : List Float)
    → (wrong_scene points uses kinds numbers ≡ false) ↔ ((length points ≡ length uses * 9) × (length numbers ≡ length kinds * 7))
unfolding wrong_scene
scene_row points uses kinds numbers =
    let p = share_row 9 (length points) (length uses) (omega arith) in
    let q = share_row 7 (length numbers) (length kinds) (omega arith) in
    (λ e. let s = or_out _ _ e in (p.0 s.0, q.0 s.1), λ h. or_in _ _ (p.1 h.0, q.1 h.1))

-- ---- 4

pub many_row : (t m : ℕ) → (too_many t m ≡ false) ↔ ((t ≤ triangle_limit) × (m ≤ material_limit))
unfolding too_many
many_row t m = (
  λ e. let p = or_out _ _ e in (ltb-false triangle_limit t p.0, ltb-false material_limit m p.1),
  λ h. or_in _ _ (le-ltb triangle_limit t h.0, le-ltb material_limit m h.1),
)

-- ---- 5

-- every number of the list lies within ±4,096
pub points_row : (l : List Float) → (bad_points l ≡ false) ↔ ((i : ℕ) → i < length l → within point_limit (get_or l i nan) ≡ true)
unfolding bad_points
points_row l = all_within point_limit l

-- ---- 6

pub kinds_row : (l : List ℕ) → (bad_kinds l ≡ false) ↔ ((i : ℕ) → i < length l → get_or l i 0 ≤ last_kind)
unfolding bad_kinds
kinds_row l =
    (λ e i h. ltb-false last_kind _ (none_out (ltb last_kind) l 0 e i h), λ f. none_in (ltb last_kind) l 0 (λ i h. le-ltb last_kind _ (f i h)))

pub uses_row : (l : List ℕ) (m : ℕ) → (bad_uses l m ≡ false) ↔ ((i : ℕ) → i < length l → get_or l i 0 < m)
unfolding bad_uses
uses_row l m = (λ e i h. leb-false m _ (none_out (leb m) l 0 e i h), λ f. none_in (leb m) l 0 (λ i h. lt-leb m _ (f i h)))

-- a scan from the left, of what is left at i
numbers_step : (l : List Float) (i : ℕ) → i < length l → bad_from i (drop i l) ≡ bad_number i (get_or l i nan) || bad_from (i + 1) (drop (i + 1) l)
unfolding bad_from
numbers_step l i h = rw (drop-cons l i nan h, add-one i)

pub numbers_found : (l : List Float) (i : ℕ) → i < length l → bad_number i (get_or l i nan) ≡ true → bad_from i (drop i l) ≡ true
numbers_found l i h e = numbers_step l i h ∙ rw e

pub numbers_next : (l : List Float) (i : ℕ) → i < length l → bad_number i (get_or l i nan) ≡ false → bad_from i (drop i l) ≡ bad_from (i + 1) (drop (i + 1) l)
numbers_next l i h e = numbers_step l i h ∙ rw e

pub numbers_end : (l : List Float) (i : ℕ) → length l ≤ i → bad_from i (drop i l) ≡ false
unfolding bad_from
numbers_end l i h = rw (drop_of_length-le l h)

from_out : (k : ℕ) (l : List Float) → bad_from k l ≡ false → (i : ℕ) → i < length l → bad_number (k + i) (get_or l i nan) ≡ false
unfolding bad_from
from_out k [] e i h = absurd (omega arith)
from_out k (x ∷ l) e zero h = rw (add-zero k) (or_out (bad_number k x) _ e).0
from_out k (x ∷ l) e (suc i) h =
    let s : k + 1 + i ≡ k + suc i = omega arith in rw s at (from_out (k + 1) l (or_out (bad_number k x) _ e).1 i (omega arith))

from_in : (k : ℕ) (l : List Float) → ((i : ℕ) → i < length l → bad_number (k + i) (get_or l i nan) ≡ false) → bad_from k l ≡ false
unfolding bad_from
from_in k [] f = refl
from_in k (x ∷ l) f =
    or_in (bad_number k x) (bad_from (k + 1) l) (
      rw (add-zero k) at (f 0 (omega arith)),
      from_in (k + 1) l (λ i h. let s : k + suc i ≡ k + 1 + i = omega arith in rw s at (f (suc i) (omega arith))),
    )

-- every number is good at its place
pub numbers_row : (l : List Float) → (bad_numbers l ≡ false) ↔ ((i : ℕ) → i < length l → bad_number i (get_or l i nan) ≡ false)
numbers_row l = (λ e i h. rw (zero-add i) at (from_out 0 l e i h), λ f. from_in 0 l (λ i h. rw (zero-add i) (f i h)))

-- those at 7·k + 6 are transmissions and lie from 0 to 1
pub transmission_within : (l : List Float) → bad_numbers l ≡ false → (i : ℕ) → i < length l → i % 7 ≡ 6 → up_to one32 (get_or l i nan) ≡ true
transmission_within l e i h s = not-false _ (rw (eq-eqb (i % 7) 6 s) at ((numbers_row l).0 e i h))

-- the others are colours and lie within ±65,536
pub colour_within : (l : List Float) → bad_numbers l ≡ false → (i : ℕ) → i < length l → (i % 7 ≡ 6 → ⊥) → within colour_limit (get_or l i nan) ≡ true
colour_within l e i h s = not-false _ (rw (ne_eqb (i % 7) 6 s) at ((numbers_row l).0 e i h))

pub materials_row : (uses kinds : List ℕ) (numbers : List Float)
    → (bad_materials uses kinds numbers ≡ false)
    ↔ ((bad_kinds kinds ≡ false) × (bad_numbers numbers ≡ false) × (bad_uses uses (length kinds) ≡ false))
unfolding bad_materials
materials_row uses kinds numbers = any_of_three (bad_kinds kinds) (bad_numbers numbers) (bad_uses uses (length kinds))

-- of the engine of solid walls: each kind is opaque too
pub solid_row : (uses kinds : List ℕ) (numbers : List Float)
    → (bad_materials_for true uses kinds numbers ≡ false)
    ↔ ((bad_materials uses kinds numbers ≡ false) × ((m : ℕ) → m < length kinds → get_or kinds m 0 ≡ opaque_kind))
solid_row uses kinds numbers =
    let parts = either (bad_materials uses kinds numbers) (other_kind kinds) in (
      λ e. let p = parts.0 e in (p.0, (none_other kinds).0 p.1),
      λ h. parts.1 (h.0, (none_other kinds).1 h.1),
    )

-- what either engine lets pass, document 01's rule lets pass too
pub materials_for : (solid : Bool) (uses kinds : List ℕ) (numbers : List Float) → bad_materials_for solid uses kinds numbers ≡ false → bad_materials uses kinds numbers ≡ false
materials_for true uses kinds numbers e = (or_out (bad_materials uses kinds numbers) (other_kind kinds) e).0
materials_for false uses kinds numbers e = e

-- where no other kind stands in the list both engines have one row
pub solid_same : (solid : Bool) (uses kinds : List ℕ) (numbers : List Float) → other_kind kinds ≡ false → bad_materials_for solid uses kinds numbers ≡ bad_materials uses kinds numbers
solid_same true uses kinds numbers e = rw e (or-false (bad_materials uses kinds numbers))
solid_same false uses kinds numbers e = refl

-- hit scratch passes exactly when both lists are as long as the triangles are many; for solid walls nothing is asked of it
pub hits_row : (distances_length places_length t : ℕ) → (short_hits false distances_length places_length t ≡ false) ↔ ((t ≤ distances_length) × (t ≤ places_length))
hits_row distances_length places_length t =
    let parts = either (too_short distances_length t) (too_short places_length t) in (
      λ e. let p = parts.0 e in (ltb-false distances_length t p.0, ltb-false places_length t p.1),
      λ h. parts.1 (le-ltb distances_length t h.0, le-ltb places_length t h.1),
    )

-- so that hit scratch that is long enough is refused by neither engine
pub long_hits : (solid : Bool) (distances_length places_length t : ℕ) → t ≤ distances_length → t ≤ places_length → short_hits solid distances_length places_length t ≡ false
long_hits true distances_length places_length t h k = refl
long_hits false distances_length places_length t h k = (hits_row distances_length places_length t).1 (h, k)

-- 3 and 6 passed: there is room for hits
pub room : (solid : Bool) (s : Scene) (distances_length places_length : ℕ) → short_hits solid distances_length places_length (length s.uses) ≡ false
    → bad_materials_for solid s.uses s.kinds s.numbers ≡ false
    → HitsFit s distances_length places_length
room true s distances_length places_length e f =
    let z = solid_room s (or_out (bad_materials s.uses s.kinds s.numbers) (other_kind s.kinds) f).1 in
    (omega (arith, z), omega (arith, z))
room false s distances_length places_length e f =
    let p = (hits_row distances_length places_length (length s.uses)).0 e in
    let m = room_most s in
    (omega (arith, m, p.0), omega (arith, m, p.1))

-- ---- 3 and 4 passed: the points are of no more triangles than the limit

pub few_points : (points : List Float) (uses kinds : List ℕ) (numbers : List Float) → wrong_scene points uses kinds numbers ≡ false
    → too_many (length uses) (length kinds) ≡ false → length points / 9 ≤ triangle_limit
few_points points uses kinds numbers p q = omega (arith, ((scene_row points uses kinds numbers).0 p).0, ((many_row (length uses) (length kinds)).0 q).0)

-- ---- 3, 4 and 6 passed: the lists of a scene fit

pub sound : (scene : Scene)
    → wrong_scene scene.points scene.uses scene.kinds scene.numbers ≡ false
    → too_many (length scene.uses) (length scene.kinds) ≡ false
    → bad_materials scene.uses scene.kinds scene.numbers ≡ false
    → Sound scene
sound scene p q r =
    let s = (scene_row scene.points scene.uses scene.kinds scene.numbers).0 p in
    let t = (many_row (length scene.uses) (length scene.kinds)).0 q in
    record {
      points = s.0;
      numbers = s.1;
      triangles = t.0;
      materials = t.1;
      within = (uses_row scene.uses (length scene.kinds)).0 ((materials_row scene.uses scene.kinds scene.numbers).0 r).2;
    }

-- ---- 7

-- every component lies within ±4,096, and the squared length is above 1e-12
pub direction_row : (d : Vec3) → (bad_direction d ≡ false) ↔ ((outside_v light_direction_limit d ≡ false) × (Ieee.lt thin_limit (dot_v d d) ≡ true))
unfolding bad_direction
direction_row d = (λ e. let p = or_out _ _ e in (p.0, not-false _ p.1), λ h. or_in _ _ (h.0, ap not h.1))

pub sky_row : (l : List Float) → (bad_sky l ≡ false) ↔ ((i : ℕ) → i < length l → within colour_limit (get_or l i nan) ≡ true)
unfolding bad_sky
sky_row l = all_within colour_limit l

-- ---- 8

pub ray_row : (r : Ray)
    → (bad_ray r ≡ false)
    ↔ ((outside_v origin_limit r.origin ≡ false)
    × (outside_v direction_limit r.direction ≡ false)
    × (up_to shortest_limit r.shortest ≡ true)
    × (is_nan r.longest ≡ false))
unfolding bad_ray
ray_row r = (
  λ e.
      let p = or_out _ (is_nan r.longest) e in
      let q = (any_of_three _ _ _).0 p.0 in
      (q.0, q.1, not-false _ q.2, p.1),
  λ h. rw (h.0, h.1, h.2, h.3),
)

-- ---- 13

pub mask_row : (l : List ℕ) → (bad_mask l ≡ false) ↔ ((i : ℕ) → i < length l → get_or l i 0 ≤ 1)
unfolding bad_mask
mask_row l = (λ e i h. ltb-false 1 _ (none_out (ltb 1) l 0 e i h), λ f. none_in (ltb 1) l 0 (λ i h. le-ltb 1 _ (f i h)))

pub lights_row : (l : List Float) → (bad_lights l ≡ false) ↔ ((i : ℕ) → i < length l → within light_limit (get_or l i nan) ≡ true)
unfolding bad_lights
lights_row l = all_within light_limit l

pub coefficients_row : (l : List Float) → (bad_coefficients l ≡ false) ↔ ((i : ℕ) → i < length l → within coefficient_limit (get_or l i nan) ≡ true)
unfolding bad_coefficients
coefficients_row l = all_within coefficient_limit l

-- ---- 19

pub lamp_row : (lamp : Lamp) → (bad_lamp lamp ≡ false) ↔ ((outside_v position_limit lamp.position ≡ false) × (outside_v colour_limit lamp.colour ≡ false))
unfolding bad_lamp
lamp_row lamp = either _ _

-- at most eight, and each is good
pub lamps_row : (l : List Float)
    → (bad_lamps l ≡ false) ↔ ((lamp_count l ≤ lamp_limit) × ((j : ℕ) → j < lamp_count l → bad_lamp (lamp_at l j) ≡ false))
unfolding bad_lamps
lamps_row l = (
  λ e. let p = or_out _ _ e in (ltb-false lamp_limit (lamp_count l) p.0, λ j h. good p.1 j h (bad_lamp (lamp_at l j)) refl),
  λ h. or_in _ _ (le-ltb lamp_limit (lamp_count l) h.0, none (any (bad_lamp_at l) (lamp_count l) 0) refl h.1),
)
  where
    good : any (bad_lamp_at l) (lamp_count l) 0 ≡ false → (j : ℕ) → j < lamp_count l → (b : Bool) → bad_lamp (lamp_at l j) ≡ b → b ≡ false
    good e j h false p = refl
    good e j h true p = absurd (false≢true (sym e ∙ any_in (bad_lamp_at l) (lamp_count l) 0 j (omega arith) (omega arith) p))

    none : (b : Bool) → any (bad_lamp_at l) (lamp_count l) 0 ≡ b → ((j : ℕ) → j < lamp_count l → bad_lamp (lamp_at l j) ≡ false) → b ≡ false
    none false p f = refl
    none true p f =
        let s = any_out (bad_lamp_at l) (lamp_count l) 0 p in absurd (false≢true (sym (f s.0 (omega (arith, s.2))) ∙ s.3))
