-- A list in which each present triangle of a scene stands once, and no other place: going through it, in whatever order it has, comes to the scan over the triangles whose own padded box is not
-- passed over. Assumes nothing.
use Rattle.std.specs.Prelude.{Option, None, ◌≡◌, refl, Bool, true, false, List, [], ℕ, zero, suc, ◌≤◌, length}
use Rattle.std.proofs.Common.{ap, ◌∙◌, arith}
use Rattle.names.specs.Scene.{Scene, Sound}
use Rattle.vectors.specs.declared.Ray.{Ray}
use Rattle.triangle.specs.declared.Hit.{Hit}
use Rattle.hits.specs.Hits.{Struck, with_meet, hits_of}
use Rattle.hits.specs.Merge.{Numbers}
use Rattle.scan.specs.Nearest.{nearer_of, nearest_to, nearest_of}
use Rattle.scan.specs.declared.PlacedHit.{PlacedHit}
use Rattle.tree.specs.Tree.{present_at, one, sum_to}
use Rattle.tree.specs.SumLaws.{one_most, sum_less, sum_ones}
use Rattle.tree.proofs.TestLaws.{present_within}
use Rattle.tree_walk.specs.Boxed.{boxed_meet_at, nearest_step, nearest_boxed_to, nearest_boxed, hits_step, hits_boxed}
use Rattle.tree_walk.specs.SwapLaws.{NumberHeld, nearer_swap, nearer_number, hits_swap, hits_numbers}
use Rattle.tree_walk.specs.BoxedLaws.{boxed_number, boxed_absent}
use Rattle.tree_walk.specs.FoldLaws.{stands_in, fold_of, scan_from, fold_scan}
use Rattle.tree_walk.specs.UnderLaws.{length_stands}

-- ---- what is missed adds nothing, and the scan is going through all places

pub nearer_missed : (b : Option PlacedHit) (i : ℕ) (m : Option Hit) → m ≡ None → nearer_of b i m ≡ b
unfolding nearer_of
nearer_missed b i m e = rw e refl

pub hits_missed : (hs : List Struck) (i : ℕ) (m : Option Hit) → m ≡ None → with_meet hs i m ≡ hs
unfolding with_meet
hits_missed hs i m e = rw e refl

nearest_scan : (scene : Scene) (ray : Ray) (n : ℕ) → scan_from (nearest_step scene.points scene.uses scene.kinds ray) None n ≡ nearest_boxed_to scene ray n
unfolding nearest_to
nearest_scan scene ray zero = refl
nearest_scan scene ray (suc n) = ap (λ (b : Option PlacedHit). nearer_of b n (boxed_meet_at scene ray n)) (nearest_scan scene ray n)

hits_scan : (scene : Scene) (ray : Ray) (n : ℕ) → scan_from (hits_step scene.points scene.uses scene.kinds ray) [] n ≡ hits_boxed scene ray n
unfolding hits_of
hits_scan scene ray zero = refl
hits_scan scene ray (suc n) = ap (λ (hs : List Struck). with_meet hs n (boxed_meet_at scene ray n)) (hits_scan scene ray n)

-- ---- the list

module _ (scene : Scene) (sound : Sound scene) (l : List ℕ) (once : (p : ℕ) → stands_in p l ≡ one (present_at scene.points p)) where
  none_past : (p : ℕ) → length scene.uses ≤ p → stands_in p l ≡ 0
  none_past p h = once p ∙ by (present_at scene.points p) refl
    where
      by : (b : Bool) → present_at scene.points p ≡ b → one b ≡ 0
      by true e = absurd (omega (arith, present_within scene.points p e, sound.points))
      by false e = refl

  -- it is no longer than the scene has triangles
  pub listed_room : length l ≤ length scene.uses
  listed_room =
      let n = length scene.uses in
      let a : length l ≡ sum_to (λ p. stands_in p l) n = length_stands n l none_past in
      let b : sum_to (λ p. stands_in p l) n ≤ sum_to (λ p. 1) n = sum_less (λ p. stands_in p l) (λ p. 1) n (λ p _. omega (arith, once p, one_most (present_at scene.points p))) in
      omega (arith, sum_ones n)

  module _ (ray : Ray) where
    pub listed_nearest : fold_of (nearest_step scene.points scene.uses scene.kinds ray) None l ≡ nearest_boxed scene ray
    unfolding nearest_of
    listed_nearest =
        fold_scan (nearest_step scene.points scene.uses scene.kinds ray) NumberHeld
        (λ b i h. nearer_number b i (boxed_meet_at scene ray i) h (boxed_number scene ray i))
        (λ b i j h d. nearer_swap b i j (boxed_meet_at scene ray i) (boxed_meet_at scene ray j) h (boxed_number scene ray i) (boxed_number scene ray j) d)
        (present_at scene.points) None tt (length scene.uses)
        (λ b p h e. nearer_missed b p (boxed_meet_at scene ray p) (boxed_absent scene ray p (omega (arith, sound.points)) e))
        l (λ p h. once p) none_past
        ∙ nearest_scan scene ray (length scene.uses)

    pub listed_hits : fold_of (hits_step scene.points scene.uses scene.kinds ray) [] l ≡ hits_boxed scene ray (length scene.uses)
    listed_hits =
        fold_scan (hits_step scene.points scene.uses scene.kinds ray) Numbers
        (λ hs i h. hits_numbers hs i (boxed_meet_at scene ray i) h (boxed_number scene ray i))
        (λ hs i j h d. hits_swap hs i j (boxed_meet_at scene ray i) (boxed_meet_at scene ray j) h (boxed_number scene ray i) (boxed_number scene ray j) d)
        (present_at scene.points) [] tt (length scene.uses)
        (λ hs p h e. hits_missed hs p (boxed_meet_at scene ray p) (boxed_absent scene ray p (omega (arith, sound.points)) e))
        l (λ p h. once p) none_past
        ∙ hits_scan scene ray (length scene.uses)
