-- What passes after the hits that were collected of a list of places, each present triangle once among them, is the transmittance over the boxed triangles; a walk through an accepted tree goes
-- through such a list. Assumes nothing.
use Rattle.std.specs.Prelude.{Option, None, Some, ◌≡◌, Bool, get_or, Float}
use Rattle.std.proofs.Math.Path.{refl, sym, ap, subst}
use Rattle.std.proofs.Common.{◌∙◌, arith}
use Rattle.std.proofs.Math.Bool.{true, false, cond}
use mathlib.Core.List.Memᴰ
use mathlib.Core.List.{List, [], ◌∷◌, ◌++◌, Memᴰ}
use Prim.Native.Nat.{ℕ, zero, suc, ◌<◌}
use Rattle.std.proofs.Math.ListN.{length}
use Rattle.names.specs.Bits.{zero32, one32}
use Rattle.names.specs.Scene.{Scene, Sound, hit_room, HitsFit}
use Rattle.vectors.specs.declared.Ray.{Ray}
use Rattle.triangle.specs.declared.Hit.{Hit}
use Rattle.panels.specs.Panels.{kind_at, stops_light}
use Rattle.hits.specs.Hits.{Struck, struck, insert_of, with_meet, places_of}
use Rattle.hits.proofs.HitLaws.{put_here, put_kept, places_below}
use Rattle.hits.specs.Merge.{insert_all, sort_of, Numbers}
use Rattle.hits.specs.MergeLaws.{insert_all_append, numbers_append}
use Rattle.scan.specs.OpaqueLaws.{clear_pass_of, NoneOpaque, opaque_leaves, clear_pass, none_opaque_put}
use Rattle.scan.specs.Transmittance.{transmittance_of}
use Rattle.boxes.specs.Boxes.{bounds_at, passed_over}
use Rattle.tree.specs.Tree.{count_at, inner_at, left_at, right_at, place_at, present_at, one, AcceptedTree}
use Rattle.tree_walk.specs.Boxed.{boxed_of, boxed_meet_at, hits_step, hits_boxed, pass_hits, transmittance_boxed}
use Rattle.tree_walk.specs.Walk.{run_visit, node_visit, tree_visit}
use Rattle.tree_walk.specs.SwapLaws.{NumberMeet}
use Rattle.tree_walk.specs.BoxedLaws.{boxed_over, boxed_number}
use Rattle.tree_walk.specs.FoldLaws.{stands_in, fold_of}
use Rattle.tree_walk.specs.UnderLaws.{tree_places}
use Rattle.tree_walk.specs.ListedLaws.{listed_room, listed_hits}
use Rattle.tree_walk.proofs.WalkLaws.{walk_listed}
use Rattle.tree_walk.specs.Collect.{Collected, dark, came, collect_meet, collect_step, pass_collected}
use Rattle.tree_walk.specs.Kept.{RoomFor}
use Rattle.tree_walk.specs.CollectLaws.{collected_over}

-- what the steps keep, two goings keep
fold_both : {A B : Type 0} (f : A → ℕ → A) (g : B → ℕ → B) (R : A → B → Type 0) → ((a : A) (b : B) (p : ℕ) → R a b → R (f a p) (g b p))
    → (a : A) (b : B) (l : List ℕ) → R a b → R (fold_of f a l) (fold_of g b l)
fold_both f g R kept a b [] r = r
fold_both f g R kept a b (p ∷ l) r = fold_both f g R kept (f a p) (g b p) l (kept a b p r)

-- ---- after a hit that stops light nothing is added, so that a walk may end there

module _ {S : Type 0} (step : S → ℕ → S) (s : S) (still : (p : ℕ) → step s p ≡ s) (ray : Ray) (boxes : List Float) (nodes order : List ℕ) where
  run_still : (i k : ℕ) → run_visit step nodes order i k s ≡ s
  unfolding run_visit
  run_still i zero = refl
  run_still i (suc k) = rw (run_still i k) (still (place_at nodes order i k))

  node_still : (levels i : ℕ) → node_visit step ray boxes nodes order levels i s ≡ s
  unfolding node_visit
  node_still zero i = refl
  node_still (suc levels) i = rw (node_still levels (left_at nodes i), node_still levels (right_at nodes i), run_still i (count_at nodes i), either (inner_at nodes i)) (either (passed_over ray.origin ray.direction (bounds_at boxes i)))
    where
      either : (b : Bool) → cond b s s ≡ s
      either true = refl
      either false = refl

pub run_dark : (points : List Float) (uses kinds : List ℕ) (ray : Ray) (nodes order : List ℕ) (i k : ℕ) → run_visit (collect_step points uses kinds ray) nodes order i k dark ≡ dark
unfolding collect_meet
run_dark points uses kinds ray nodes order i k = run_still (collect_step points uses kinds ray) dark (λ p. refl) ray [] nodes order i k

pub node_dark : (points : List Float) (uses kinds : List ℕ) (ray : Ray) (boxes : List Float) (nodes order : List ℕ) (levels i : ℕ)
    → node_visit (collect_step points uses kinds ray) ray boxes nodes order levels i dark ≡ dark
unfolding collect_meet
node_dark points uses kinds ray boxes nodes order levels i = node_still (collect_step points uses kinds ray) dark (λ p. refl) ray boxes nodes order levels i

-- ---- what is collected, beside the hits in order

-- a miss adds nothing
pub collect_missed : (uses kinds : List ℕ) (c : Collected) (i : ℕ) (m : Option Hit) → m ≡ None → collect_meet uses kinds c i m ≡ c
unfolding collect_meet
collect_missed uses kinds dark i m e = refl
collect_missed uses kinds (came hs) i m e = rw e refl

insert_last : (h : Struck) (gs : List Struck) → sort_of (gs ++ (h ∷ [])) ≡ insert_of h (sort_of gs)
unfolding insert_all
insert_last h gs = insert_all_append [] gs (h ∷ [])

module _ (uses kinds : List ℕ) where
  -- a hit that stops light is among them; or they are what came, put in order, and none stops light
  abbrev pub CollectedOf : Collected → List Struck → Type 0
  CollectedOf dark hs = (h : Struck) × Memᴰ h hs × (stops_light (kind_at uses kinds h.place) ≡ true)
  CollectedOf (came gs) hs = (hs ≡ sort_of gs) × NoneOpaque uses kinds hs × Numbers gs

  pub meet_kept : (c : Collected) (hs : List Struck) (i : ℕ) (m : Option Hit) → NumberMeet m → CollectedOf c hs → CollectedOf (collect_meet uses kinds c i m) (with_meet hs i m)
  unfolding collect_meet with_meet
  meet_kept dark hs i None n r = r
  meet_kept dark hs i (Some h) n r = (r.0, put_kept (struck h.t i) hs r.1, r.2)
  meet_kept (came gs) hs i None n r = r
  meet_kept (came gs) hs i (Some h) n r = by (stops_light (kind_at uses kinds i)) refl
    where
      by : (b : Bool) → stops_light (kind_at uses kinds i) ≡ b → CollectedOf (cond b dark (came (gs ++ (struck h.t i ∷ [])))) (insert_of (struck h.t i) hs)
      by true e = (struck h.t i, put_here (struck h.t i) hs, e)
      by false e = (
        ap (insert_of (struck h.t i)) r.0 ∙ sym (insert_last (struck h.t i) gs),
        none_opaque_put uses kinds (struck h.t i) hs e r.1,
        numbers_append gs (struck h.t i ∷ []) r.2 (n, tt),
      )

module _ (scene : Scene) where
  pub pass_collected_lem : (c : Collected) (hs : List Struck) → CollectedOf scene.uses scene.kinds c hs → pass_collected scene c ≡ pass_hits scene hs
  unfolding pass_collected
  pass_collected_lem dark hs r = sym (opaque_leaves scene.uses scene.kinds scene.numbers one32 r.0 hs r.1 r.2)
  pass_collected_lem (came gs) hs r =
      ap (λ (ks : List Struck). clear_pass_of scene.uses scene.numbers one32 (places_of ks)) (sym r.0)
      ∙ sym (clear_pass scene.uses scene.kinds scene.numbers one32 hs r.1)

module _ (scene : Scene) (sound : Sound scene) (l : List ℕ) (once : (p : ℕ) → stands_in p l ≡ one (present_at scene.points p)) where
  -- there is room for as many hits as stand in it
  pub listed_fits : (d p : ℕ) → HitsFit scene d p → RoomFor scene.kinds (length l) d p
  unfolding hit_room
  listed_fits d p f o =
      let r : hit_room scene ≡ length scene.uses = rw o refl in
      let m = listed_room scene sound l once in
      (omega (arith, f.0), omega (arith, f.1))

  module _ (ray : Ray) where
    -- what is collected stands beside the hits, and leaves the transmittance
    listed_collects : CollectedOf scene.uses scene.kinds (collected_over scene ray l) (hits_boxed scene ray (length scene.uses))
    unfolding insert_all
    listed_collects =
        subst (CollectedOf scene.uses scene.kinds (collected_over scene ray l)) (listed_hits scene sound l once ray)
        (fold_both (collect_step scene.points scene.uses scene.kinds ray) (hits_step scene.points scene.uses scene.kinds ray) (CollectedOf scene.uses scene.kinds)
        (λ c hs p r. meet_kept scene.uses scene.kinds c hs p (boxed_meet_at scene ray p) (boxed_number scene ray p) r)
        (came []) [] l (refl, (λ h m. absurd (Memᴰ.not-nil m)), tt))

    pub listed_collected : pass_collected scene (collected_over scene ray l) ≡ transmittance_boxed scene ray
    unfolding transmittance_of
    listed_collected = pass_collected_lem scene _ (hits_boxed scene ray (length scene.uses)) listed_collects

    -- as the code takes it: a hit that stops light
    pub dark_passes : dark ≡ collected_over scene ray l → zero32 ≡ transmittance_boxed scene ray
    unfolding pass_collected
    dark_passes e = ap (pass_collected scene) e ∙ listed_collected

    -- or hits: their distances are numbers, their places are the scene's, and what passes is the transmittance
    module _ (gs : List Struck) (e : came gs ≡ collected_over scene ray l) where
      pub came_passes : clear_pass_of scene.uses scene.numbers one32 (places_of (sort_of gs)) ≡ transmittance_boxed scene ray
      unfolding pass_collected
      came_passes = ap (pass_collected scene) e ∙ listed_collected

      came_is : CollectedOf scene.uses scene.kinds (came gs) (hits_boxed scene ray (length scene.uses))
      came_is = subst (λ (c : Collected). CollectedOf scene.uses scene.kinds c (hits_boxed scene ray (length scene.uses))) (sym e) listed_collects

      pub came_numbers : Numbers gs
      came_numbers = came_is.2

      pub came_below : (j : ℕ) → j < length (places_of (sort_of gs)) → get_or (places_of (sort_of gs)) j 0 < length scene.uses
      came_below = rw (sym came_is.0) (places_below (boxed_of scene) ray (length scene.uses))

-- ---- through an accepted tree

pub walk_collects : (scene : Scene) (boxes : List Float) (nodes order : List ℕ) → AcceptedTree scene.points boxes nodes order → (ray : Ray)
    → tree_visit (collect_step scene.points scene.uses scene.kinds ray) ray boxes nodes order (came []) ≡ collected_over scene ray (tree_places nodes order)
walk_collects scene boxes nodes order t ray =
    walk_listed scene.points boxes nodes order t ray (collect_step scene.points scene.uses scene.kinds ray)
    (λ c p h. collect_missed scene.uses scene.kinds c p (boxed_meet_at scene ray p) (boxed_over scene ray p h)) (came [])
