-- One step of the walk, as the code reads its numbers. Assumes nothing.
use mathlib.Core.Path.{◌≡◌, refl, sym, ◌∙◌}
use mathlib.Core.Bool.{true, false}
use mathlib.Core.List.{List}
use Prim.Native.Nat.{ℕ, zero, suc, ◌+◌, ◌*◌, ◌-◌, ◌≤◌, ◌<◌}
use native.Mathlib.Omega.{arith}
use borrow.Author.Tests.{eq-eqb, ne_eqb}
use lib.ListN.{length, get_or}
use lib.Ieee.{Float}
use Rattle.std.specs.Prelude.{Option, None, Some}
use Rattle.vectors.specs.declared.Ray.{Ray}
use Rattle.boxes.specs.declared.Bounds.{Bounds}
use Rattle.boxes.specs.Boxes.{bounds_at, passed_over}
use Rattle.tree.specs.Tree.{box_count, count_at, inner_at, left_at, right_at, place_at}
use Rattle.tree_walk.specs.FoldLaws.{fold_of}
use Rattle.tree_walk.specs.Kept.{MetWithin, RoomFor}
use Rattle.tree_walk.specs.Spans.{span_places, SpanFits, run_span}
use Rattle.tree_walk.specs.UnderLaws.{places_under, halves_room, leaf_room}
use Rattle.tree_walk.specs.Walk.{node_visit, pair_visit, TreeFits}

-- ---- a box that is passed over

pub box_over : {S : Type 0} (step : S → ℕ → S) (held : S) (ray : Ray) (boxes : List Float) (nodes order : List ℕ) (i levels : ℕ) → (levels ≡ 0 → ⊥) → (box : Bounds) → box ≡ bounds_at boxes i
    → true ≡ passed_over ray.origin ray.direction box → held ≡ node_visit step ray boxes nodes order levels i held
unfolding node_visit
box_over step held ray boxes nodes order i zero some box reads o = absurd (some refl)
box_over step held ray boxes nodes order i (suc n) some box reads o = rw (← reads, ← o)

-- ---- what is read of box i

module _ (nodes : List ℕ) (i count first : ℕ) (counted : count ≡ get_or nodes (i * 3) 0) (begins : first ≡ get_or nodes (i * 3 + 1) 0) where
  inner_read : count ≤ 0 → inner_at nodes i ≡ true
  unfolding count_at
  inner_read h = let z : get_or nodes (i * 3) 0 ≡ 0 = omega arith in eq-eqb (get_or nodes (i * 3) 0) 0 z

  leaf_read : 0 < count → inner_at nodes i ≡ false
  unfolding count_at
  leaf_read h = ne_eqb (get_or nodes (i * 3) 0) 0 (λ (e : get_or nodes (i * 3) 0 ≡ 0). omega arith)

  -- no index lies past its list
  module _ (points : List Float) (uses kinds : List ℕ) (boxes : List Float) (order : List ℕ) (turned : List Float) (fits : TreeFits points uses kinds boxes nodes order turned) (b : i < box_count nodes) where
    pub leaf_fits : 0 < count → SpanFits points uses kinds order turned first count
    unfolding count_at left_at place_at
    leaf_fits h =
        let q = leaf_read h in
        record {
          points_fit = fits.points_fit;
          use_fits = fits.use_fits;
          span_fits = let r = fits.run_fits i b q in omega arith;
          place_fits =
              λ l c d.
              let e : get_or nodes (i * 3 + 1) 0 + (l - first) ≡ l = omega arith in
              rw e at (fits.place_fits i (l - first) b q (omega arith));
          turned_fits = fits.turned_fits;
        }

    pub halves_fit : count ≤ 0 → (right : ℕ) → right ≡ get_or nodes (i * 3 + 2) 0 → (first < box_count nodes) × (right < box_count nodes)
    unfolding left_at right_at
    halves_fit h right r = let q = inner_read h in (rw begins (fits.left_fits i b q), rw r (fits.right_fits i b q))

  module _ (order : List ℕ) (levels : ℕ) (some : levels ≡ 0 → ⊥) where
    -- how many triangles stand under it
    pub leaf_under : 0 < count → count ≡ length (places_under nodes order levels i)
    unfolding count_at
    leaf_under h = by levels some
      where
        by : (n : ℕ) → (n ≡ 0 → ⊥) → count ≡ length (places_under nodes order n i)
        by zero f = absurd (f refl)
        by (suc n) f = counted ∙ sym (leaf_room nodes order n i (leaf_read h))

    pub halves_under : count ≤ 0 → (right : ℕ) → right ≡ get_or nodes (i * 3 + 2) 0
        → length (places_under nodes order (levels - 1) first) + length (places_under nodes order (levels - 1) right) ≡ length (places_under nodes order levels i)
    unfolding left_at right_at
    halves_under h right r = by levels some
      where
        by : (n : ℕ) → (n ≡ 0 → ⊥) → length (places_under nodes order (n - 1) first) + length (places_under nodes order (n - 1) right) ≡ length (places_under nodes order n i)
        by zero f = absurd (f refl)
        by (suc n) f = let less : suc n - 1 ≡ n = omega arith in rw (begins, r, less) (sym (halves_room nodes order n i (inner_read h)))

    -- and what it comes to
    module _ {S : Type 0} (step : S → ℕ → S) (held : S) (ray : Ray) (boxes : List Float) (box : Bounds) (reads : box ≡ bounds_at boxes i) where
      pub box_leaf : false ≡ passed_over ray.origin ray.direction box → 0 < count → fold_of step held (span_places order first count) ≡ node_visit step ray boxes nodes order levels i held
      unfolding node_visit count_at left_at
      box_leaf o h = by levels some
        where
          by : (n : ℕ) → (n ≡ 0 → ⊥) → fold_of step held (span_places order first count) ≡ node_visit step ray boxes nodes order n i held
          by zero f = absurd (f refl)
          by (suc n) f = rw (← reads, ← o, leaf_read h, counted, begins) (sym (run_span step nodes order i (get_or nodes (i * 3) 0) held))

      pub box_halves : false ≡ passed_over ray.origin ray.direction box → count ≤ 0 → (right : ℕ) → right ≡ get_or nodes (i * 3 + 2) 0
          → pair_visit step ray boxes nodes order (levels - 1) first right held ≡ node_visit step ray boxes nodes order levels i held
      unfolding node_visit pair_visit left_at right_at
      box_halves o h right r = by levels some
        where
          by : (n : ℕ) → (n ≡ 0 → ⊥)
              → pair_visit step ray boxes nodes order (n - 1) first right held ≡ node_visit step ray boxes nodes order n i held
          by zero f = absurd (f refl)
          by (suc n) f = let less : suc n - 1 ≡ n = omega arith in rw (← reads, ← o, inner_read h, begins, r, less)

-- ---- what is met within some is met within more, and where there is room for some there is room for fewer

pub met_more : (r : Option ℕ) (a b d e p q : ℕ) → MetWithin r a d p → a ≤ b → d ≡ e → p ≡ q → MetWithin r b e q
met_more None a b d e p q w h x y = tt
met_more (Some m) a b d e p q w h x y = (omega (arith, w.0), omega (arith, w.1), omega (arith, w.2))

pub room_less : (kinds : List ℕ) (a b d e p q : ℕ) → RoomFor kinds b d p → a ≤ b → e ≡ d → q ≡ p → RoomFor kinds a e q
room_less kinds a b d e p q f h x y o = (omega (arith, (f o).0), omega (arith, (f o).1))
