-- What a walk through an accepted tree collected, as the code goes: from the root, where there is one. Assumes nothing.
use Rattle.std.specs.Prelude.{Some}
use mathlib.Core.Path.{◌≡◌, sym, ap, subst, ◌∙◌}
use mathlib.Core.List.{List}
use Prim.Native.Nat.{ℕ, suc, ◌+◌, ◌<◌}
use native.Mathlib.Omega.{arith}
use borrow.Author.Tests.{eq-eqb, ne_eqb}
use lib.ListN.{length, get_or}
use lib.Ieee.{Float}
use Rattle.names.specs.Bits.{zero32, one32}
use Rattle.names.specs.Numbers.{depth_limit}
use Rattle.names.specs.Scene.{Scene, Sound, HitsFit}
use Rattle.vectors.specs.declared.Ray.{Ray}
use Rattle.hits.specs.Hits.{Struck, paired, places_of}
use Rattle.hits.specs.Merge.{insert_all, sort_of, Numbers}
use Rattle.hits.specs.PairedLaws.{paired_places}
use Rattle.scan.specs.OpaqueLaws.{clear_pass_of}
use Rattle.tree.specs.Tree.{box_count, present_at, one, AcceptedTree}
use Rattle.tree_walk.specs.Boxed.{transmittance_boxed}
use Rattle.tree_walk.specs.Walk.{node_visit, tree_visit}
use Rattle.tree_walk.specs.FoldLaws.{stands_in}
use Rattle.tree_walk.specs.UnderLaws.{places_under, tree_places, tree_once}
use Rattle.tree_walk.specs.Collect.{Collected, dark, came, collect_step, pass_collected}
use Rattle.tree_walk.specs.CollectLaws.{collected_over}
use Rattle.tree_walk.proofs.CollectLaws.{listed_fits, listed_collected, dark_passes, came_passes, came_numbers, came_below, walk_collects}
use Rattle.tree_walk.specs.Kept.{collected_by, RoomFor}

-- once hits are in order, the second list is their places
pub ordered_places : (ts us : List Float) (is js : List ℕ) → length us ≡ length ts → length js ≡ length is → length ts ≡ length is → paired us js ≡ sort_of (paired ts is)
    → js ≡ places_of (sort_of (paired ts is))
ordered_places ts us is js t i e o = sym (paired_places us js (t ∙ e ∙ sym i)) ∙ ap places_of o

module _ (scene : Scene) (sound : Sound scene) (boxes : List Float) (nodes order : List ℕ) (t : AcceptedTree scene.points boxes nodes order) where
  pub root_fits : (box_count nodes ≡ 0 → ⊥) → (d p : ℕ) → HitsFit scene d p → RoomFor scene.kinds (0 + length (places_under nodes order (suc depth_limit) 0)) d p
  unfolding tree_places
  root_fits z d p f o =
      let e : length (tree_places nodes order) ≡ 0 + length (places_under nodes order (suc depth_limit) 0) = rw (ne_eqb (box_count nodes) 0 z) (omega arith) in
      subst (λ (n : ℕ). RoomFor scene.kinds n d p) e (listed_fits scene sound (tree_places nodes order) (tree_once scene.points boxes nodes order t) d p f) o

  module _ (ray : Ray) where
    pub empty_passes : box_count nodes ≡ 0 → one32 ≡ transmittance_boxed scene ray
    unfolding tree_places pass_collected clear_pass_of insert_all
    empty_passes z = rw (eq-eqb (box_count nodes) 0 z) at (listed_collected scene sound (tree_places nodes order) (tree_once scene.points boxes nodes order t) ray)

    module _ (z : box_count nodes ≡ 0 → ⊥) (ds : List Float) (ps : List ℕ) where
      -- what the walk comes to
      abbrev pub walked : Collected
      walked = node_visit (collect_step scene.points scene.uses scene.kinds ray) ray boxes nodes order (suc depth_limit) 0 (collected_by (Some 0) ds ps)

      from_root : walked ≡ collected_over scene ray (tree_places nodes order)
      unfolding tree_visit paired
      from_root = rw (ne_eqb (box_count nodes) 0 z) at (walk_collects scene boxes nodes order t ray)

      once : (p : ℕ) → stands_in p (tree_places nodes order) ≡ one (present_at scene.points p)
      once = tree_once scene.points boxes nodes order t

      -- a hit that stops light
      pub root_dark : dark ≡ walked → zero32 ≡ transmittance_boxed scene ray
      root_dark e = dark_passes scene sound (tree_places nodes order) once ray (e ∙ from_root)

      -- or hits, to be put in order
      module _ (gs : List Struck) (e : came gs ≡ walked) where
        pub root_numbers : Numbers gs
        root_numbers = came_numbers scene sound (tree_places nodes order) once ray gs (e ∙ from_root)

        pub root_below : (j : ℕ) → j < length (places_of (sort_of gs)) → get_or (places_of (sort_of gs)) j 0 < length scene.uses
        root_below = came_below scene sound (tree_places nodes order) once ray gs (e ∙ from_root)

        pub root_passes : clear_pass_of scene.uses scene.numbers one32 (places_of (sort_of gs)) ≡ transmittance_boxed scene ray
        root_passes = came_passes scene sound (tree_places nodes order) once ray gs (e ∙ from_root)
