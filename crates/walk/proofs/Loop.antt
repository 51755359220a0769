-- The loop's invariant: with r rays fired and voxel i next, the whole walk is the rest of it, from the volume as it is, with r rays more. And how
-- each way through the loop keeps it or ends it, by the walk's own steps.
use mathlib.Core.Path.{◌≡◌, refl, sym, ap, ◌∙◌}
use mathlib.Core.Bool.{true}
use mathlib.Core.List.{List}
use Prim.Native.Nat.{ℕ, ◌+◌, ◌-◌, ◌≤◌, ◌<◌}
use native.Mathlib.Omega.{arith}
use native.Mathlib.Nat.{sub-zero, zero-add}
use lib.ListN.{length}
use lib.Ieee.{Float}
use Rattle.lists.specs.Laid.{length_replaced}
use Rattle.marks.specs.Marks.{is_marked}
use Rattle.words.specs.Words.{entries_of}
use Rattle.words.specs.ByWords.{next_from}
use Rattle.words.specs.NextLaws.{next_from_lem, next_there}
use Rattle.spread.specs.Spread.{Walked, walked, more, walk}
use Rattle.spread.proofs.Walks.{so_far_stop, so_far_end, so_far_take}
use Rattle.gather.specs.Gather.{gathered_of}
use Rattle.gather.specs.GatherLaws.{length_gathered, cost_least, cost_most}
use Rattle.intake.specs.Intake.{BakeInput, voxel_numbers, voxel_count, active_entries, bake_cost}
use Rattle.demand.specs.Bake.{gather_input, bake_of}
use Rattle.walk.specs.Next.{so_far_next}
use Rattle.walk.specs.Reports.{Taken, Walkable, Unhit, Reports}

pub record SoFar (b : BakeInput) (v₀ d₀ : List Float) (p₀ : List ℕ) (start allowance : ℕ) (v d : List Float) (p : List ℕ) (i r : ℕ) : Type 0 where
  pub within : r ≤ allowance
  pub volume : length v ≡ length v₀
  pub distances : length d ≡ length d₀
  pub places : length p ≡ length p₀
  pub hits : Unhit r d₀ d p₀ p
  pub goes : walk (bake_of b) (voxel_count b - start) start allowance v₀ ≡ more r (walk (bake_of b) (voxel_count b - i) i (allowance - r) v)

-- what the walk comes to as the code answers it
reports : {w : Walked Float} {i r : ℕ} {v d₀ d : List Float} {p₀ p : List ℕ} → w ≡ walked i r v → Unhit r d₀ d p₀ p
    → Reports w (record { next = i; rays = r }) v d₀ d p₀ p
reports e h =
    record {
      next = sym (ap (λ (x : Walked Float). x.next) e);
      rays = sym (ap (λ (x : Walked Float). x.rays) e);
      volume = sym (ap (λ (x : Walked Float). x.volume) e);
      hits = h;
    }

pub begins : {b : BakeInput} {v₀ d₀ : List Float} {p₀ : List ℕ} {start allowance : ℕ} → SoFar b v₀ d₀ p₀ start allowance v₀ d₀ p₀ start 0
begins =
    record {
      within = omega arith;
      volume = refl;
      distances = refl;
      places = refl;
      hits = record { distances = λ z. refl; places = λ z. refl };
      goes = rw (sub-zero, zero-add) refl;
    }

-- t is the next active voxel from i on, as the code finds it, of as many voxels as there are lights
abbrev pub Found : BakeInput → ℕ → ℕ → Type 0
Found b i t = t ≡ next_from (is_marked (entries_of b.active (length b.lights))) (length b.lights) (length b.lights - i) i

-- i is active, unless it is past the last
abbrev pub Active : BakeInput → ℕ → Type 0
Active b i = i < length b.lights → is_marked (entries_of b.active (length b.lights)) i ≡ true

module _ {b : BakeInput} {m start : ℕ} (f : Walkable b m start) where
  of_voxels : (i : ℕ) {t : ℕ} → Found b i t → t ≡ next_from (bake_of b).active (voxel_count b) (voxel_count b - i) i
  of_voxels i e = e ∙ ap (λ (n : ℕ). next_from (is_marked (entries_of b.active n)) n (n - i) i) f.lights

  pub found_active : {i t : ℕ} → i ≤ length b.lights → Found b i t → Active b t
  found_active {i} h e p =
      ap (is_marked (entries_of b.active (length b.lights))) e
      ∙ next_there (is_marked (entries_of b.active (length b.lights))) (length b.lights) (length b.lights - i) i (omega arith) (omega arith)

  -- the next one lies further on
  pub further : {i t : ℕ} → i < length b.lights → Found b (i + 1) t → length b.lights - t < length b.lights - i
  further {i} h e =
      let l : i + 1 ≤ voxel_count b = omega (arith, f.lights) in
      omega (arith, of_voxels (i + 1) e, next_from_lem (bake_of b).active (voxel_count b) (voxel_count b - (i + 1)) (i + 1) (omega arith))

module _ {b : BakeInput} {v₀ d₀ : List Float} {p₀ : List ℕ} {start allowance : ℕ} (f : Walkable b (length v₀) start) where
  module _ {v d : List Float} {p : List ℕ} {i r : ℕ} (s : SoFar b v₀ d₀ p₀ start allowance v d p i r) where
    pub ends : length b.lights ≤ i
        → Reports (walk (bake_of b) (voxel_count b - start) start allowance v₀) (record { next = i; rays = r }) v d₀ d p₀ p
    ends h = reports (so_far_end (bake_of b) i r allowance (voxel_count b) v s.goes (omega (arith, f.lights))) s.hits

    -- voxels that are not active are passed over
    pub passes : {t : ℕ} → i ≤ length b.lights → Found b i t → SoFar b v₀ d₀ p₀ start allowance v d p t r
    passes h e =
        record {
          within = s.within;
          volume = s.volume;
          distances = s.distances;
          places = s.places;
          hits = s.hits;
          goes =
              let l : i ≤ voxel_count b = omega (arith, f.lights) in
              rw (of_voxels f i e) (so_far_next (bake_of b) r allowance (voxel_count b) v (voxel_count b - i) i (omega arith) s.goes);
        }

    pub fits_rays : {c : ℕ} {v' : List Float} → Taken (gather_input b) i c v v' → bake_cost b ≤ allowance - r → r + c ≤ allowance
    fits_rays t h = omega (arith, t.rays, cost_most (gather_input b) i, s.within)

    module _ (h : i < length b.lights) (t : Active b i) where
      inside : i < voxel_count b
      inside = omega (arith, f.lights)

      is_active : is_marked (active_entries b) i ≡ true
      is_active = rw (← f.lights) (t h)

      pub stops : allowance - r < bake_cost b
          → Reports (walk (bake_of b) (voxel_count b - start) start allowance v₀) (record { next = i; rays = r }) v d₀ d p₀ p
      stops g = reports (so_far_stop (bake_of b) i r allowance (voxel_count b) v s.goes inside is_active g) s.hits

      pub takes : {c : ℕ} {v' d' : List Float} {p' : List ℕ} → bake_cost b ≤ allowance - r → Taken (gather_input b) i c v v'
          → length d' ≡ length d
          → length p' ≡ length p
          → SoFar b v₀ d₀ p₀ start allowance v' d' p' (i + 1) (r + c)
      takes {c} g k y z =
          let n : 0 < r + c = omega (arith, k.rays, cost_least (gather_input b) i) in
          record {
            within = fits_rays k g;
            volume = ap length k.volume ∙ length_replaced voxel_numbers i (gathered_of (gather_input b) i) v (length_gathered (gather_input b) i)
                (omega (arith, f.inside, inside, s.volume)) ∙ s.volume;
            distances = y ∙ s.distances;
            places = z ∙ s.places;
            hits = record { distances = λ q. absurd (omega arith); places = λ q. absurd (omega arith) };
            goes = so_far_take (bake_of b) i r allowance (voxel_count b) v s.goes inside is_active g ∙ rw (k.rays, k.volume) refl;
          }
