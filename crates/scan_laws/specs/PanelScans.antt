-- What a panel is to both scans. "Material kind 2 is opaque from the front and absent from the back, for nearest hits as for transmittance": panels that a ray
-- meets from the front, or not at all, may be made opaque, and those that it meets from the back, or not at all, absent, and neither answer changes.
use Rattle.std.specs.Prelude.{◌≡◌, Option, None, Some, Bool, true, false, cond, ◌&&◌, ◌⊎◌, Float}
use Rattle.std.proofs.Math.Path.{refl, ap}
use Rattle.std.proofs.Common.{sym, ◌∙◌, ⊎_elim, arith}
use mathlib.Core.List.{List, [], ◌∷◌, Memᴰ}
use Prim.Native.Nat.{ℕ, zero, suc, ◌≤◌, ◌<◌}
use Rattle.std.proofs.Math.ListN.{length}
use Rattle.std.specs.Float.Ieee as Ieee
use Rattle.std.specs.Float.Ieee.{binary32}
use Rattle.names.specs.Bits.{one32}
use Rattle.names.specs.Numbers.{opaque_kind, panel_kind}
use Rattle.names.specs.Scene.{Scene, scene_for}
use Rattle.vectors.specs.declared.Ray.{Ray}
use Rattle.triangle.specs.Meet.{hit_of, absent_of, meet_of}
use Rattle.triangle.specs.Laws.{absent_missed}
use Rattle.triangle.specs.Places.{triangle_at}
use Rattle.triangle.specs.declared.Hit.{Hit}
use Rattle.panels.specs.Panels.{kind_at, counts, stops_light, counted_of, met_at, own_passed, met_by, meet_at}
use Rattle.panels.specs.PanelLaws.{missed_at, panel_back, by_missed}
use Rattle.hits.specs.Hits.{Struck, hits_of, places_of}
use Rattle.hits.proofs.HitLaws.{hits_only}
use Rattle.scan_laws.specs.BaseScans.{NoPanels, nearest_base, transmittance_base, nearest_base_lem, transmittance_base_lem}
use Rattle.scan.specs.Nearest.{nearest_to, nearest_of}
use Rattle.scan.specs.Transmittance.{transmission_at, pass_of, transmittance_of}

-- ---- two scenes that a ray cannot tell apart

pub record Alike (a b : Scene) (ray : Ray) : Type 0 where
  pub long : length a.uses ≡ length b.uses
  pub met : (i : ℕ) → i < length a.uses → meet_at a ray i ≡ meet_at b ray i
  -- what is met stops light in both or in neither, and lets as much through
  pub stops : (i : ℕ) (h : Hit) → i < length a.uses → meet_at a ray i ≡ Some h
      → stops_light (kind_at a.uses a.kinds i) ≡ stops_light (kind_at b.uses b.kinds i)
  pub passes : (i : ℕ) → i < length a.uses → transmission_at a.uses a.numbers i ≡ transmission_at b.uses b.numbers i

pub record SameAnswers (a b : Scene) (ray : Ray) : Type 0 where
  pub nearest : nearest_of a ray ≡ nearest_of b ray
  pub transmittance : transmittance_of a ray ≡ transmittance_of b ray

module _ (a b : Scene) (ray : Ray) (alike : Alike a b ray) where
  nearest_to_same : (n : ℕ) → n ≤ length a.uses → nearest_to a ray n ≡ nearest_to b ray n
  unfolding nearest_to
  nearest_to_same zero h = refl
  nearest_to_same (suc n) h = rw (nearest_to_same n (omega arith), alike.met n h) refl

  hits_same : (n : ℕ) → n ≤ length a.uses → hits_of a ray n ≡ hits_of b ray n
  unfolding hits_of
  hits_same zero h = refl
  hits_same (suc n) h = rw (hits_same n (omega arith), alike.met n h) refl

  pass_same : (w : Float) (hs : List Struck) → ((h : Struck) → Memᴰ h hs → Memᴰ h (hits_of a ray (length a.uses)))
      → pass_of a.uses a.kinds a.numbers w (places_of hs) ≡ pass_of b.uses b.kinds b.numbers w (places_of hs)
  unfolding pass_of
  pass_same w [] f = refl
  pass_same w (h ∷ hs) f =
      let s = hits_only a ray (length a.uses) (f h (Memᴰ.head refl)) in
      rw (
        alike.stops h.place (hit_of h.distance s.first s.second s.front) s.within s.met,
        alike.passes h.place s.within,
        pass_same (Ieee.mul binary32 w (transmission_at b.uses b.numbers h.place)) hs (λ g m. f g (Memᴰ.tail m)),
      )
      refl

  pub alike_same : SameAnswers a b ray
  unfolding nearest_of transmittance_of
  alike_same =
      let n = length a.uses in
      record {
        nearest = nearest_to_same n (omega arith) ∙ ap (λ (k : ℕ). nearest_to b ray k) alike.long;
        transmittance =
            pass_same one32 (hits_of a ray n) (λ h m. m)
            ∙ ap (λ (hs : List Struck). pass_of b.uses b.kinds b.numbers one32 (places_of hs)) (hits_same n (omega arith) ∙ ap (λ (k : ℕ). hits_of b ray k) alike.long);
      }

-- ---- the same scene with other kinds, and with other points

abbrev pub with_kinds : Scene → List ℕ → Scene
with_kinds s kinds = scene_for s.boxed s.points s.uses kinds s.numbers s.boxes s.nodes s.order

abbrev pub with_points : Scene → List Float → Scene
with_points s points = scene_for s.boxed points s.uses s.kinds s.numbers s.boxes s.nodes s.order

-- ---- opaque from the front

-- a triangle keeps its kind, or is a panel that the ray does not meet from the back, made opaque
abbrev pub MadeOpaque : Scene → List ℕ → Ray → ℕ → Type 0
MadeOpaque scene kinds ray i =
    (kind_at scene.uses scene.kinds i ≡ kind_at scene.uses kinds i)
    ⊎ ((kind_at scene.uses scene.kinds i ≡ panel_kind) × (kind_at scene.uses kinds i ≡ opaque_kind)
    × ((h : Hit) → meet_of ray (triangle_at scene.points i) ≡ Some h → h.front ≡ false → ⊥))

pub opaque_from_front : (scene : Scene) (kinds : List ℕ) (ray : Ray) → ((i : ℕ) → i < length scene.uses → MadeOpaque scene kinds ray i)
    → SameAnswers scene (with_kinds scene kinds) ray
unfolding met_by met_at counted_of counts stops_light
opaque_from_front scene kinds ray f =
    alike_same scene (with_kinds scene kinds) ray
    (record {
      long = refl;
      met = λ i h. ⊎_elim (λ e. rw e refl) (λ e. ap (cond (scene.boxed && own_passed scene.points ray i) None) (both i (meet_of ray (triangle_at scene.points i)) refl e.0 e.1 e.2)) (f i h);
      stops = λ i k h m. ⊎_elim (λ e. rw e refl) (λ e. rw (e.0, e.1) refl) (f i h);
      passes = λ i h. refl;
    })
  where
    both : (i : ℕ) (m : Option Hit) → meet_of ray (triangle_at scene.points i) ≡ m → kind_at scene.uses scene.kinds i ≡ panel_kind
        → kind_at scene.uses kinds i ≡ opaque_kind → ((h : Hit) → meet_of ray (triangle_at scene.points i) ≡ Some h → h.front ≡ false → ⊥)
        → counted_of (kind_at scene.uses scene.kinds i) m ≡ counted_of (kind_at scene.uses kinds i) m
    both i None e p o n = refl
    both i (Some h) e p o n = by h.front refl
      where
        by : (side : Bool) → h.front ≡ side → counted_of (kind_at scene.uses scene.kinds i) (Some h) ≡ counted_of (kind_at scene.uses kinds i) (Some h)
        by true f = rw f refl
        by false f = absurd (n h e f)

-- ---- absent from the back

-- a triangle keeps its points, or is a panel that the ray does not meet from the front, made absent
abbrev pub MadeAbsent : Scene → List Float → Ray → ℕ → Type 0
MadeAbsent scene points ray i =
    (triangle_at scene.points i ≡ triangle_at points i)
    ⊎ ((kind_at scene.uses scene.kinds i ≡ panel_kind) × (absent_of (triangle_at points i) ≡ true)
    × ((h : Hit) → meet_of ray (triangle_at scene.points i) ≡ Some h → h.front ≡ true → ⊥))

pub absent_from_back : (scene : Scene) (points : List Float) (ray : Ray) → ((i : ℕ) → i < length scene.uses → MadeAbsent scene points ray i)
    → SameAnswers scene (with_points scene points) ray
unfolding met_by met_at own_passed
absent_from_back scene points ray f =
    alike_same scene (with_points scene points) ray
    (record {
      long = refl;
      met =
          λ i h.
          ⊎_elim
          (λ e. rw e refl)
          (λ e.
          gone i (meet_of ray (triangle_at scene.points i)) refl e.0 e.2
          ∙ sym (by_missed scene.boxed points scene.uses scene.kinds ray i (missed_at points scene.uses scene.kinds ray i (absent_missed ray (triangle_at points i) e.1))))
          (f i h);
      stops = λ i k h m. refl;
      passes = λ i h. refl;
    })
  where
    gone : (i : ℕ) (m : Option Hit) → meet_of ray (triangle_at scene.points i) ≡ m → kind_at scene.uses scene.kinds i ≡ panel_kind
        → ((h : Hit) → meet_of ray (triangle_at scene.points i) ≡ Some h → h.front ≡ true → ⊥) → meet_at scene ray i ≡ None
    gone i None e p n = by_missed scene.boxed scene.points scene.uses scene.kinds ray i (missed_at scene.points scene.uses scene.kinds ray i e)
    gone i (Some h) e p n = by h.front refl
      where
        by : (side : Bool) → h.front ≡ side → meet_at scene ray i ≡ None
        by true f = absurd (n h e f)
        by false f = by_missed scene.boxed scene.points scene.uses scene.kinds ray i (panel_back scene.points scene.uses scene.kinds ray i h p e f)

-- ---- both: a scene with panels is one of document 01's, ray by ray

-- the backs made absent and the panels opaque, both answers are document 01's
pub panels_base : (scene : Scene) (points : List Float) (kinds : List ℕ) (ray : Ray) → scene.boxed ≡ false
    → ((i : ℕ) → i < length scene.uses → MadeAbsent scene points ray i)
    → ((i : ℕ) → i < length scene.uses → MadeOpaque (with_points scene points) kinds ray i)
    → NoPanels (with_kinds (with_points scene points) kinds)
    → let b = with_kinds (with_points scene points) kinds in
    (nearest_of scene ray ≡ nearest_base b ray (length scene.uses)) × (transmittance_of scene ray ≡ transmittance_base b ray)
panels_base scene points kinds ray treeless gone solid none =
    let a = with_points scene points in
    let b = with_kinds (with_points scene points) kinds in
    let p = absent_from_back scene points ray gone in
    let q = opaque_from_front a kinds ray solid in
    (p.nearest ∙ q.nearest ∙ nearest_base_lem b ray treeless none, p.transmittance ∙ q.transmittance ∙ transmittance_base_lem b ray treeless none)
