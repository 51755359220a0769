-- What the sun pass means: each figure before the blur, all of them 1.0 where no voxel is active; which row refuses a call; one result; and what an accepted call has.
use Rattle.std.specs.Prelude.{◌≡◌, Bool, cond, ◌||◌, ◌↔◌, List, [], ◌∷◌, ◌++◌, ℕ, ◌/◌, ◌≤◌, ◌<◌, length, get_or, Float}
use Rattle.std.proofs.Math.Path.{refl, ap}
use Rattle.std.proofs.Common.{sym, ap₂, ◌∙◌, zero-add, arith, eqb-true}
use Rattle.std.proofs.Math.Bool.{true, false}
use Rattle.std.proofs.lemmas.Bool.{false≢true, not-false}
use Rattle.std.specs.Float.Ieee.{nan}
use Rattle.names.specs.Bits.{one32}
use Rattle.names.specs.Refusals.{Row, row, first_of, Numbered, RefusedBy, refused_by}
use Rattle.names.specs.Scene.{Scene, other_kind}
use Rattle.lists.specs.Fold.{length_tab, get_or_tab, tab_same}
use Rattle.vectors.specs.Vectors.{normal_v}
use Rattle.vectors.specs.declared.Vec3.{Vec3}
use Rattle.grid.specs.Grid.{voxels, x_of, y_of, z_of, edges_of, centre_of}
use Rattle.grid.specs.declared.Axes.{Axes}
use Rattle.grid.specs.declared.Corners.{Corners}
use Rattle.limits.specs.Limits.{bad_axes, bad_grid, wrong_scene, wrong_length, short_hits, too_many, bad_points, scene_rows, bad_direction}
use Rattle.limits.specs.LimitsLaws.{either, axes_row, sound, materials_for, solid_same, long_hits, room}
use Rattle.names.specs.Passed.{passed}
use Rattle.tree.specs.Trees.{bad_tree, TreeStands}
use Rattle.tree.proofs.TreesLaws.{sound_tree}
use Rattle.marks.specs.Marks.{is_marked, marked_count}
use Rattle.marks.specs.MarksLaws.{active_some}
use Rattle.words.specs.Words.{bit_at, entries_of, word_count, words_of, unused_set, AreWords, Tidy}
use Rattle.words.specs.WordsLaws.{unclean_bit, bit_unclean, words_entries}
use Rattle.scan.specs.Transmittance.{transmittance_of}
use Rattle.sun.specs.declared.Sunned.{Sunned}
use Rattle.sun.specs.Sun.{ahead_of, sun_ray, figure_of, sun_at, sun_before, all_ones, sun_rows, wrong_sun, sun_refusal, Traceable, SunAnswered, SolidSunAnswered}

-- ---- the figures before the blur

module _ (axes : Axes) (corners : Corners) (scene : Scene) (direction : Vec3) (active : List ℕ) where
  pub length_before : length (sun_before axes corners scene direction active) ≡ voxels axes
  unfolding sun_before
  length_before = length_tab (sun_at axes corners scene direction active) (voxels axes) 0

  pub before_at : (i : ℕ) → i < voxels axes → get_or (sun_before axes corners scene direction active) i nan ≡ sun_at axes corners scene direction active i
  unfolding sun_before
  before_at i h = get_or_tab (sun_at axes corners scene direction active) (voxels axes) 0 i nan h ∙ ap (sun_at axes corners scene direction active) (zero-add i)

  pub inactive_before : (i : ℕ) → i < voxels axes → is_marked active i ≡ false → get_or (sun_before axes corners scene direction active) i nan ≡ one32
  unfolding figure_of
  inactive_before i h e = before_at i h ∙ rw e

  pub active_before : (i : ℕ) → i < voxels axes → is_marked active i ≡ true
      → get_or (sun_before axes corners scene direction active) i nan
      ≡ transmittance_of scene (sun_ray (normal_v direction) (ahead_of (edges_of corners axes)) (centre_of corners axes (x_of axes i) (y_of axes i) (z_of axes i)))
  unfolding figure_of
  active_before i h e = before_at i h ∙ rw e

  -- where no voxel is active every figure is 1.0
  pub none_before : length active ≡ voxels axes → marked_count active ≡ 0 → sun_before axes corners scene direction active ≡ all_ones axes
  unfolding sun_before figure_of
  none_before l z = tab_same (sun_at axes corners scene direction active) (λ (i : ℕ). one32) (voxels axes) 0 (λ j p q. at j (is_marked active j) refl (omega arith))
    where
      at : (j : ℕ) (b : Bool) → is_marked active j ≡ b → j < voxels axes → sun_at axes corners scene direction active j ≡ one32
      at j true e h = absurd (omega (arith, active_some active j (omega arith) e))
      at j false e h = rw e

-- ---- k is refused exactly when row k holds and none before it, and a call is accepted exactly when none holds

pub sun_numbered : (solid : Bool) (axes : Axes) (corners : Corners) (scene : Scene) (direction : Vec3) (active : List ℕ) (light_length scratch_length distances_length places_length : ℕ)
    → Numbered (sun_rows solid axes corners scene direction active light_length scratch_length distances_length places_length)
sun_numbered solid axes corners scene direction active light_length scratch_length distances_length places_length =
    (omega arith, (omega arith, (omega arith, (omega arith, (omega arith, (omega arith, (omega arith, (omega arith, (omega arith, tt)))))))))

pub sun_refused_by : (solid : Bool) (axes : Axes) (corners : Corners) (scene : Scene) (direction : Vec3) (active : List ℕ) (light scratch distances : List Float) (places : List ℕ)
    (r : Sunned) (light' scratch' distances' : List Float) (places' : List ℕ)
    → SunAnswered solid axes corners scene direction active light scratch distances places r light' scratch' distances' places'
    → RefusedBy (sun_rows solid axes corners scene direction active (length light) (length scratch) (length distances) (length places)) r.refusal
unfolding sun_refusal
sun_refused_by solid axes corners scene direction active light scratch distances places r light' scratch' distances' places' p =
    refused_by _ r.refusal (sun_numbered solid axes corners scene direction active (length light) (length scratch) (length distances) (length places)) p.answer

-- 13 is refused exactly when the rows before it pass and a bit past the last voxel is set

-- every row but the last
abbrev pub earlier_rows : Bool → Axes → Corners → Scene → Vec3 → List ℕ → ℕ → ℕ → ℕ → ℕ → List Row
earlier_rows solid axes corners scene direction active light_length scratch_length distances_length places_length =
    row 1 (bad_axes axes)
    ∷ row 2 (bad_grid corners axes)
    ∷ row 3 (wrong_sun solid (voxels axes) scene (length active) light_length scratch_length distances_length places_length)
    ∷ scene_rows solid scene (row 7 (bad_direction direction) ∷ row 16 (bad_tree scene) ∷ [])

-- no row has the number k
abbrev Without : ℕ → List Row → Type 0
Without k [] = Unit
Without k (r ∷ rows) = (r.number ≡ k → ⊥) × Without k rows

last_row : (k : ℕ) (b : Bool) (rows : List Row) → 0 < k → Numbered rows → Without k rows → (first_of (rows ++ (row k b ∷ [])) ≡ k) ↔ ((first_of rows ≡ 0) × (b ≡ true))
unfolding first_of
last_row k true [] h p q = (λ e. (refl, refl), λ e. refl)
last_row k false [] h p q = (λ e. absurd (omega arith), λ e. absurd (false≢true e.1))
last_row k b (r ∷ rows) h p q = go r.holds (last_row k b rows h p.1 q.1)
  where
    go : (c : Bool) → (first_of (rows ++ (row k b ∷ [])) ≡ k) ↔ ((first_of rows ≡ 0) × (b ≡ true))
        → (cond c r.number (first_of (rows ++ (row k b ∷ []))) ≡ k) ↔ ((cond c r.number (first_of rows) ≡ 0) × (b ≡ true))
    go true rest = (λ e. absurd (q.0 e), λ e. absurd (omega (arith, p.0, e.0)))
    go false rest = rest

pub sun_unused_bit : (solid : Bool) (axes : Axes) (corners : Corners) (scene : Scene) (direction : Vec3) (active : List ℕ) (light_length scratch_length distances_length places_length : ℕ)
    → (sun_refusal solid axes corners scene direction active light_length scratch_length distances_length places_length ≡ 13)
    ↔ ((first_of (earlier_rows solid axes corners scene direction active light_length scratch_length distances_length places_length) ≡ 0)
    × ((i : ℕ) × (voxels axes ≤ i) × (i / 64 < length active) × (bit_at active i ≡ 1)))
unfolding sun_refusal
sun_unused_bit solid axes corners scene direction active light_length scratch_length distances_length places_length =
    let n : ℕ = voxels axes in
    let rows : List Row = earlier_rows solid axes corners scene direction active light_length scratch_length distances_length places_length in
    let only = last_row 13 (unused_set active n) rows (omega arith)
    (omega arith, (omega arith, (omega arith, (omega arith, (omega arith, (omega arith, (omega arith, (omega arith, tt))))))))
    ((λ e. omega arith), ((λ e. omega arith), ((λ e. omega arith), ((λ e. omega arith), ((λ e. omega arith), ((λ e. omega arith), ((λ e. omega arith), ((λ e. omega arith), tt)))))))) in (
      λ e. let p = only.0 e in (p.0, unclean_bit active n p.1),
      λ p. only.1 (p.0, bit_unclean active n p.1.0 p.1.1 p.1.3),
    )

-- ---- one result

pub record SameSun (r s : Sunned) (light light' scratch scratch' distances distances' : List Float) (places places' : List ℕ) : Type 0 where
  pub answer : r ≡ s
  pub lights : light ≡ light'
  pub scratches : scratch ≡ scratch'
  pub distances_same : r.rays ≡ 0 → distances ≡ distances'
  pub places_same : r.rays ≡ 0 → places ≡ places'
  pub distances_long_is : length distances ≡ length distances'
  pub places_long_lem : length places ≡ length places'

pub sun_answered_once : (solid : Bool) (axes : Axes) (corners : Corners) (scene : Scene) (direction : Vec3) (active : List ℕ) (l s d : List Float) (p : List ℕ)
    (r₁ r₂ : Sunned) (l₁ s₁ d₁ l₂ s₂ d₂ : List Float) (p₁ p₂ : List ℕ)
    → SunAnswered solid axes corners scene direction active l s d p r₁ l₁ s₁ d₁ p₁ → SunAnswered solid axes corners scene direction active l s d p r₂ l₂ s₂ d₂ p₂
    → SameSun r₁ r₂ l₁ l₂ s₁ s₂ d₁ d₂ p₁ p₂
sun_answered_once solid axes corners scene direction active l s d p r₁ r₂ l₁ s₁ d₁ l₂ s₂ d₂ p₁ p₂ a b =
    let f : r₁.refusal ≡ r₂.refusal = a.answer ∙ sym b.answer in
    let g : r₁.rays ≡ r₂.rays = a.rays ∙ rw f (sym b.rays) in
    record {
      answer = ap₂ (λ (m n : ℕ). record { refusal = m; rays = n }) f g;
      lights = a.light_after ∙ rw f (sym b.light_after);
      scratches = a.scratch_after ∙ rw f (sym b.scratch_after);
      distances_same = λ z. a.distances_kept z ∙ sym (b.distances_kept (sym g ∙ z));
      places_same = λ z. a.places_kept z ∙ sym (b.places_kept (sym g ∙ z));
      distances_long_is = a.distances_long_is ∙ sym b.distances_long_is;
      places_long_lem = a.places_long_lem ∙ sym b.places_long_lem;
    }

-- between solid walls nothing is left open
pub record SameSolidSun (r s : Sunned) (light light' scratch scratch' : List Float) : Type 0 where
  pub answer : r ≡ s
  pub lights : light ≡ light'
  pub scratches : scratch ≡ scratch'

pub solid_sun_answered_once : (axes : Axes) (corners : Corners) (scene : Scene) (direction : Vec3) (active : List ℕ) (l s : List Float) (r₁ r₂ : Sunned) (l₁ s₁ l₂ s₂ : List Float)
    → SolidSunAnswered axes corners scene direction active l s r₁ l₁ s₁ → SolidSunAnswered axes corners scene direction active l s r₂ l₂ s₂
    → SameSolidSun r₁ r₂ l₁ l₂ s₁ s₂
solid_sun_answered_once axes corners scene direction active l s r₁ r₂ l₁ s₁ l₂ s₂ a b =
    let same = sun_answered_once true axes corners scene direction active l s [] [] r₁ r₂ l₁ s₁ [] l₂ s₂ [] [] [] a b in
    record { answer = same.answer; lights = same.lights; scratches = same.scratches }

-- ---- both engines

-- where no other kind stands in the list and hit scratch is long enough both refuse alike
pub sun_refusal_same : (axes : Axes) (corners : Corners) (scene : Scene) (direction : Vec3) (active : List ℕ) (light_length scratch_length distances_length places_length : ℕ)
    → other_kind scene.kinds ≡ false → length scene.uses ≤ distances_length → length scene.uses ≤ places_length
    → sun_refusal true axes corners scene direction active light_length scratch_length 0 0
    ≡ sun_refusal false axes corners scene direction active light_length scratch_length distances_length places_length
unfolding sun_refusal wrong_sun
sun_refusal_same axes corners scene direction active light_length scratch_length distances_length places_length o h k =
    let n : ℕ = voxels axes in
    let lists : Bool = wrong_scene scene.points scene.uses scene.kinds scene.numbers || wrong_length (length active) (word_count n) || wrong_length light_length n || wrong_length scratch_length n in
    ap₂
    (λ (short bad : Bool). first_of
    (row 1 (bad_axes axes)
    ∷ row 2 (bad_grid corners axes)
    ∷ row 3 (lists || short)
    ∷ row 4 (too_many (length scene.uses) (length scene.kinds))
    ∷ row 5 (bad_points scene.points)
    ∷ row 6 bad
    ∷ row 7 (bad_direction direction)
    ∷ row 16 (bad_tree scene)
    ∷ row 13 (unused_set active n)
    ∷ []))
    (sym (long_hits false distances_length places_length (length scene.uses) h k))
    (solid_same true scene.uses scene.kinds scene.numbers o)

-- and answer and leave the same
pub sun_engines_agree : (axes : Axes) (corners : Corners) (scene : Scene) (direction : Vec3) (active : List ℕ) (l s d : List Float) (p : List ℕ)
    (r₁ r₂ : Sunned) (l₁ s₁ l₂ s₂ d₂ : List Float) (p₂ : List ℕ)
    → other_kind scene.kinds ≡ false → length scene.uses ≤ length d → length scene.uses ≤ length p
    → SolidSunAnswered axes corners scene direction active l s r₁ l₁ s₁ → SunAnswered false axes corners scene direction active l s d p r₂ l₂ s₂ d₂ p₂
    → SameSolidSun r₁ r₂ l₁ l₂ s₁ s₂
sun_engines_agree axes corners scene direction active l s d p r₁ r₂ l₁ s₁ l₂ s₂ d₂ p₂ o h k a b =
    let f : r₁.refusal ≡ r₂.refusal = a.answer ∙ sun_refusal_same axes corners scene direction active (length l) (length s) (length d) (length p) o h k ∙ sym b.answer in
    let g : r₁.rays ≡ r₂.rays = a.rays ∙ rw f (sym b.rays) in
    record {
      answer = ap₂ (λ (m n : ℕ). record { refusal = m; rays = n }) f g;
      lights = a.light_after ∙ rw f (sym b.light_after);
      scratches = a.scratch_after ∙ rw f (sym b.scratch_after);
    }

-- ---- what an accepted call has

pub record SunReady (axes : Axes) (scene : Scene) (active : List ℕ) (light_length scratch_length distances_length places_length : ℕ) : Type 0 where
  pub traceable : Traceable axes scene distances_length places_length
  pub tree_stands : TreeStands scene
  pub tidy : Tidy active (voxels axes)
  pub light_fits : light_length ≡ voxels axes
  pub scratch_fits : scratch_length ≡ voxels axes

right : (len n : ℕ) → wrong_length len n ≡ false → len ≡ n
right len n e = eqb-true _ _ (not-false _ e)

-- what row 3 lets pass has the words of n voxels
pub words_long : (solid : Bool) (n : ℕ) (scene : Scene) (active_length light_length scratch_length distances_length places_length : ℕ)
    → wrong_sun solid n scene active_length light_length scratch_length distances_length places_length ≡ false → active_length ≡ word_count n
unfolding wrong_sun
words_long solid n scene active_length light_length scratch_length distances_length places_length e =
    let t : ℕ = length scene.uses in
    right _ _ (second (wrong_scene scene.points scene.uses scene.kinds scene.numbers) (wrong_length active_length (word_count n)) (wrong_length light_length n) (wrong_length scratch_length n) (short_hits solid distances_length places_length t) e)
  where
    second : (a b c d f : Bool) → a || b || c || d || f ≡ false → b ≡ false
    second false false c d f h = refl
    second false true c d f h = h
    second true b c d f h = absurd (false≢true (sym h))

pub sun_ready : (solid : Bool) (axes : Axes) (corners : Corners) (scene : Scene) (direction : Vec3) (active : List ℕ) (light_length scratch_length distances_length places_length : ℕ)
    → sun_refusal solid axes corners scene direction active light_length scratch_length distances_length places_length ≡ 0
    → SunReady axes scene active light_length scratch_length distances_length places_length
unfolding sun_refusal wrong_sun
sun_ready solid axes corners scene direction active light_length scratch_length distances_length places_length e =
    let p = passed (sun_rows solid axes corners scene direction active light_length scratch_length distances_length places_length) (sun_numbered solid axes corners scene direction active light_length scratch_length distances_length places_length) e in
    let t : ℕ = length scene.uses in
    let b = (either _ (short_hits solid distances_length places_length t)).0 p.1.1.0 in
    let c = (either _ _).0 b.0 in
    let d = (either _ _).0 c.0 in
    let f = (either _ _).0 d.0 in
    let m = p.1.1.1.1.1.0 in
    let fitting = sound scene f.0 p.1.1.1.0 (materials_for solid scene.uses scene.kinds scene.numbers m) in
    record {
      traceable = record {
        axes_fit = (axes_row axes).0 p.0;
        scene_fits = fitting;
        hits_fit = room solid scene distances_length places_length b.1 m;
      };
      tree_stands = sound_tree scene fitting p.1.1.1.1.1.1.1.0;
      tidy = record { long = right _ _ f.1; clean = p.1.1.1.1.1.1.1.1.0 };
      light_fits = right _ _ d.1;
      scratch_fits = right _ _ c.1;
    }

-- and its words are those of the entries that it sees
pub sun_words : (solid : Bool) (axes : Axes) (corners : Corners) (scene : Scene) (direction : Vec3) (active : List ℕ) (light_length scratch_length distances_length places_length : ℕ)
    → sun_refusal solid axes corners scene direction active light_length scratch_length distances_length places_length ≡ 0 → AreWords active
    → words_of (entries_of active (voxels axes)) ≡ active
sun_words solid axes corners scene direction active light_length scratch_length distances_length places_length e a =
    words_entries active (voxels axes) a (sun_ready solid axes corners scene direction active light_length scratch_length distances_length places_length e).tidy
