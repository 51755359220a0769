-- What a refusal of the bake means, what stands once none is given, and when a later call at another stage is given none.
use Rattle.std.specs.Prelude.{◌≡◌, refl, Bool, true, false, ◌||◌, ◌↔◌, List, [], ◌∷◌, ℕ, ◌*◌, ◌<◌, ◌≤◌, length, Float}
use Rattle.std.proofs.Common.{sym, ap₂, ◌∙◌}
use native.Mathlib.Omega.{arith}
use borrow.Author.Tests.{ltb-false, le-ltb, eqb-true, not-false}
use Rattle.names.specs.Numbers.{sky_numbers, lamp_limit}
use Rattle.names.specs.Refusals.{Row, row, first_of, FirstIs, NoneHolds, none, later, Numbered, first_given, first_found, none_given, none_found}
use Rattle.names.specs.Scene.{Sound, other_kind, HitsFit}
use Rattle.lists.specs.Fold.{fold}
use Rattle.spread.specs.declared.Progress.{Progress}
use Rattle.spread.specs.Spread.{progress_of, at_zero, Stage}
use Rattle.grid.specs.Grid.{AxesWithin}
use Rattle.limits.specs.Limits.{bad_axes, bad_grid, wrong_scene, wrong_length, wrong_lamps, short_hits, too_many, bad_points, bad_materials_for, below_cost, lamp_count, bad_lamps, bad_lights}
use Rattle.tree.specs.Trees.{bad_tree, TreeStands}
use Rattle.tree.proofs.TreesLaws.{sound_tree}
use Rattle.marks.specs.Marks.{marked_below}
use Rattle.words.specs.Words.{word_count, unused_set, Tidy}
use Rattle.limits.specs.LimitsLaws.{either, any_of_three, axes_row, sound, materials_for, solid_same, long_hits, room, lamps_row}
use Rattle.intake.specs.Intake.{BakeInput, solid_of, voxel_numbers, bake_cost, voxel_count, active_entries, triangle_count, wrong_lengths, wrong_bake_lists, bad_lighting, bad_progress, bad_volume, bad_contents, bake_rows, bake_refusal, GoodProgress}

-- no row holds of a call at the stage s with the allowance a
pub record BakePassed (b : BakeInput) (s : Stage Float) (a : ℕ) : Type 0 where
  pub axes : bad_axes b.axes ≡ false
  pub grid : bad_grid b.corners b.axes ≡ false
  pub lists : wrong_bake_lists b s ≡ false
  pub few : too_many (triangle_count b) (length b.scene.kinds) ≡ false
  pub points : bad_points b.scene.points ≡ false
  pub materials : bad_materials_for b.solid b.scene.uses b.scene.kinds b.scene.numbers ≡ false
  pub lighting : bad_lighting b.light b.ambient b.sky ≡ false
  pub lamps : bad_lamps b.lamps ≡ false
  pub tree : bad_tree b.scene ≡ false
  pub progress : bad_progress (voxel_count b) (active_entries b) (lamp_count b.lamps) s.progress ≡ false
  pub allowance : below_cost (lamp_count b.lamps) a ≡ false
  pub contents : bad_contents b.active b.lights s.volume s.progress.next (voxel_count b) ≡ false

-- what the code may count on then
pub record Fits (b : BakeInput) (s : Stage Float) (a : ℕ) : Type 0 where
  pub axes : AxesWithin b.axes
  pub scene : Sound b.scene
  pub tree : TreeStands b.scene
  pub sky : length b.sky ≡ sky_numbers
  pub lamps : lamp_count b.lamps ≤ lamp_limit
  -- the words of the mask, none of their unused bits set
  pub active : Tidy b.active (voxel_count b)
  pub lights : length b.lights ≡ voxel_count b
  pub volume : length s.volume ≡ voxel_count b * voxel_numbers
  pub scratch : length s.scratch ≡ voxel_count b * voxel_numbers
  pub hits : HitsFit b.scene b.distances b.places
  pub progress : GoodProgress b s.progress
  pub allowance : bake_cost b ≤ a

exactly : (x y : ℕ) → wrong_length x y ≡ false → x ≡ y
exactly x y e = eqb-true x y (not-false _ e)

-- the lent lists of n voxels and t triangles are as long as they have to be
pub record FittingLengths (solid : Bool) (n t sky_length lamps_length active_length lights_length volume_length scratch_length distances_length places_length : ℕ) : Type 0 where
  pub sky : sky_length ≡ sky_numbers
  pub lamps : wrong_lamps lamps_length ≡ false
  pub active : active_length ≡ word_count n
  pub lights : lights_length ≡ n
  pub volume : volume_length ≡ n * voxel_numbers
  pub scratch : scratch_length ≡ n * voxel_numbers
  pub hits : short_hits solid distances_length places_length t ≡ false

pub long : {solid : Bool} {n t sky lamps active lights volume scratch distances places : ℕ} → wrong_lengths solid n t sky lamps active lights volume scratch distances places ≡ false
    → FittingLengths solid n t sky lamps active lights volume scratch distances places
unfolding wrong_lengths
long {solid} {n} {t} {distances = distances} {places = places} h =
    let whole = (either _ _).0 h in
    let hits = (either _ (short_hits solid distances places t)).0 whole.0 in
    let lengths = (either _ _).0 hits.0 in
    let one = (any_of_three _ _ _).0 lengths.0 in
    let sixteen = (either _ _).0 lengths.1 in
    record {
      sky = exactly _ _ one.0;
      lamps = whole.1;
      active = exactly _ _ one.1;
      lights = exactly _ _ one.2;
      volume = exactly _ _ sixteen.0;
      scratch = exactly _ _ sixteen.1;
      hits = hits.1;
    }

-- row 9 passes exactly such a progress; at next 0 none is marked below it, so that it knows no ray
pub progress_row : (b : BakeInput) (p : Progress) → (bad_progress (voxel_count b) (active_entries b) (lamp_count b.lamps) p ≡ false) ↔ GoodProgress b p
unfolding bad_progress
progress_row b p = (out, back)
  where
    out : bad_progress (voxel_count b) (active_entries b) (lamp_count b.lamps) p ≡ false → GoodProgress b p
    out e =
        let q = (either _ _).0 e in
        let r = (either _ _).0 q.1 in
        record { within = ltb-false _ _ q.0; least = ltb-false _ _ r.0; most = ltb-false _ _ r.1 }

    back : GoodProgress b p → bad_progress (voxel_count b) (active_entries b) (lamp_count b.lamps) p ≡ false
    back k = (either _ _).1 (le-ltb _ _ k.within, (either _ _).1 (le-ltb _ _ k.least, le-ltb _ _ k.most))

pub good_at_zero : (b : BakeInput) (p : Progress) → p ≡ at_zero → GoodProgress b p
unfolding fold
good_at_zero b p e = rw e (record { within = omega arith; least = omega arith; most = omega arith })

pub zero_at_zero : (b : BakeInput) (p : Progress) → GoodProgress b p → p.next ≡ 0 → p ≡ at_zero
unfolding fold
zero_at_zero b p k e =
    let none : marked_below (active_entries b) p.next ≡ 0 = rw e refl in
    ap₂ progress_of e (omega (arith, rw none at k.most))

module _ (b : BakeInput) (s : Stage Float) (a : ℕ) where
  -- ---- a number k is answered exactly when row k holds and none before it does

  pub refusal_given : (k : ℕ) → 0 < k → (bake_refusal b s a ≡ k) ↔ FirstIs k (bake_rows b s a)
  unfolding bake_refusal
  refusal_given k h = (first_found k (bake_rows b s a) h, first_given)

  -- ---- and 0 exactly when none does

  passes : {n : ℕ} {t : Bool} {rows : List Row} → NoneHolds (row n t ∷ rows) → (t ≡ false) × NoneHolds rows
  passes (later h) = (refl, h)

  numbered : Numbered (bake_rows b s a)
  unfolding bake_rows
  numbered = omega arith

  pub none_refused : (bake_refusal b s a ≡ 0) ↔ BakePassed b s a
  unfolding bake_refusal bake_rows
  none_refused = (λ e. out (none_found (bake_rows b s a) numbered e), back)
    where
      back : BakePassed b s a → first_of (bake_rows b s a) ≡ 0
      back p =
          rw (p.axes, p.grid, p.lists, p.few, p.points, p.materials, p.lighting, p.lamps, p.tree, p.progress, p.allowance, p.contents)
          (none_given (later (later (later (later (later (later (later (later (later (later (later (later none)))))))))))))

      out : NoneHolds (bake_rows b s a) → BakePassed b s a
      out h =
          let r₁ = passes h in
          let r₂ = passes r₁.1 in
          let r₃ = passes r₂.1 in
          let r₄ = passes r₃.1 in
          let r₅ = passes r₄.1 in
          let r₆ = passes r₅.1 in
          let r₇ = passes r₆.1 in
          let r₁₉ = passes r₇.1 in
          let r₁₆ = passes r₁₉.1 in
          let r₉ = passes r₁₆.1 in
          let r₁₀ = passes r₉.1 in
          let r₁₃ = passes r₁₀.1 in
          record {
            axes = r₁.0;
            grid = r₂.0;
            lists = r₃.0;
            few = r₄.0;
            points = r₅.0;
            materials = r₆.0;
            lighting = r₇.0;
            lamps = r₁₉.0;
            tree = r₁₆.0;
            progress = r₉.0;
            allowance = r₁₀.0;
            contents = r₁₃.0;
          }

  -- ---- what stands then

  pub fits : BakePassed b s a → Fits b s a
  unfolding wrong_bake_lists bad_contents
  fits p =
      let r = (either _ _).0 p.lists in
      let l = long r.1 in
      let fitting = sound b.scene r.0 p.few (materials_for b.solid b.scene.uses b.scene.kinds b.scene.numbers p.materials) in
      record {
        axes = (axes_row b.axes).0 p.axes;
        scene = fitting;
        tree = sound_tree b.scene fitting p.tree;
        sky = l.sky;
        lamps = ((lamps_row b.lamps).0 p.lamps).0;
        active = record { long = l.active; clean = ((any_of_three (unused_set b.active (voxel_count b)) (bad_lights b.lights) _).0 p.contents).0 };
        lights = l.lights;
        volume = l.volume;
        scratch = l.scratch;
        hits = room b.solid b.scene b.distances b.places l.hits p.materials;
        progress = (progress_row b s.progress).0 p.progress;
        allowance = ltb-false _ _ p.allowance;
      }

  -- ---- a later call

  -- at a stage whose lists are as long, whose progress knows its rays and whose volume holds good coefficients
  pub still_passed : (t : Stage Float) (c : ℕ) → BakePassed b s a → length t.volume ≡ length s.volume → length t.scratch ≡ length s.scratch
      → GoodProgress b t.progress
      → bake_cost b ≤ c
      → bad_volume t.volume t.progress.next (voxel_count b) ≡ false
      → BakePassed b t c
  unfolding wrong_bake_lists bad_contents
  still_passed t c p v x q h g =
      let k = (any_of_three (unused_set b.active (voxel_count b)) (bad_lights b.lights) _).0 p.contents in
      record {
        axes = p.axes;
        grid = p.grid;
        lists = rw (v, x) p.lists;
        few = p.few;
        points = p.points;
        materials = p.materials;
        lighting = p.lighting;
        lamps = p.lamps;
        tree = p.tree;
        progress = (progress_row b t.progress).1 q;
        allowance = le-ltb _ _ h;
        contents = (any_of_three (unused_set b.active (voxel_count b)) (bad_lights b.lights) _).1 (k.0, k.1, g);
      }

-- ---- both engines

-- where no other kind stands in the list and hit scratch is long enough both refuse alike
pub bake_refusal_same : (b : BakeInput) (s : Stage Float) (a : ℕ) → other_kind b.scene.kinds ≡ false → triangle_count b ≤ b.distances → triangle_count b ≤ b.places
    → bake_refusal (solid_of b) s a ≡ bake_refusal b s a
unfolding bake_refusal bake_rows wrong_bake_lists wrong_lengths
bake_refusal_same b s a o h k =
    let n : ℕ = voxel_count b in
    let lists : Bool = wrong_scene b.scene.points b.scene.uses b.scene.kinds b.scene.numbers in
    let lengths : Bool
    = (wrong_length (length b.sky) sky_numbers || wrong_length (length b.active) (word_count n) || wrong_length (length b.lights) n)
    || (wrong_length (length s.volume) (n * voxel_numbers) || wrong_length (length s.scratch) (n * voxel_numbers)) in
    ap₂
    (λ (short bad : Bool). first_of
    (row 1 (bad_axes b.axes)
    ∷ row 2 (bad_grid b.corners b.axes)
    ∷ row 3 (lists || (lengths || short || wrong_lamps (length b.lamps)))
    ∷ row 4 (too_many (triangle_count b) (length b.scene.kinds))
    ∷ row 5 (bad_points b.scene.points)
    ∷ row 6 bad
    ∷ row 7 (bad_lighting b.light b.ambient b.sky)
    ∷ row 19 (bad_lamps b.lamps)
    ∷ row 16 (bad_tree b.scene)
    ∷ row 9 (bad_progress n (active_entries b) (lamp_count b.lamps) s.progress)
    ∷ row 10 (below_cost (lamp_count b.lamps) a)
    ∷ row 13 (bad_contents b.active b.lights s.volume s.progress.next n)
    ∷ []))
    (sym (long_hits b.solid b.distances b.places (triangle_count b) h k))
    (solid_same true b.scene.uses b.scene.kinds b.scene.numbers o ∙ sym (solid_same b.solid b.scene.uses b.scene.kinds b.scene.numbers o))
