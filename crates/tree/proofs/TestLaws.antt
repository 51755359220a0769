-- What each test says where it finds nothing bad, and that it finds nothing bad where that holds. Assumes nothing.
use Rattle.std.specs.Prelude.{◌≡◌, Bool, not, ◌||◌, List, ℕ, ◌+◌, ◌*◌, ◌/◌, ◌≤◌, ◌<◌, eqb, ltb, leb, length, get_or, Float}
use Rattle.std.proofs.Math.Path.{refl}
use Rattle.std.proofs.Common.{sym, ap, ◌∙◌, arith}
use Rattle.std.proofs.Math.Bool.{true, false, cond, and-eq-true_iff}
use Rattle.std.proofs.lemmas.Bool.{false≢true}
use borrow.Author.Tests.{ltb-true, ltb-false, leb-false, eqb-true, eqb-false, le-ltb, lt-leb, eq-eqb, ne_eqb, not-false}
use Rattle.std.specs.List.{between}
use Rattle.std.proofs.lemmas.List.Edits.{get_or-between}
use Rattle.names.specs.Numbers.{depth_limit}
use Rattle.lists.specs.Any.{any, any_in, any_out, any_found, any_next, any_end}
use Rattle.triangle.specs.Meet.{absent_of}
use Rattle.triangle.specs.Places.{triangle_at}
use Rattle.boxes.specs.declared.Bounds.{Bounds}
use Rattle.boxes.specs.Boxes.{bounds_at, padded_of, inside_of}
use Rattle.tree.specs.Tree.{box_count, count_at, inner_at, left_at, right_at, first_at, place_at, present_at}
use Rattle.tree.specs.Test.{see_run, bad_half, bad_pair, bad_place, bad_place_at, bad_run, bad_box, wrong_lists}
use Rattle.tree.specs.TestLaws.{GoodLists, GoodHalf, GoodPair, GoodPlace}

-- ---- none of two, none of many

pub neither : (a b : Bool) → (a || b) ≡ false → (a ≡ false) × (b ≡ false)
neither true b h = absurd (false≢true (sym h))
neither false b h = (refl, h)

pub none_of : (a b : Bool) → a ≡ false → b ≡ false → (a || b) ≡ false
none_of a b h k = rw (h, k) refl

pub any_none : (f : ℕ → Bool) (m : ℕ) → any f m 0 ≡ false → (i : ℕ) → i < m → f i ≡ false
any_none f m e i h = go (f i) refl
  where
    go : (b : Bool) → f i ≡ b → f i ≡ false
    go false p = p
    go true p = absurd (false≢true (sym e ∙ any_in f m 0 i (omega arith) (omega arith) p))

pub none_any : (f : ℕ → Bool) (m : ℕ) → ((i : ℕ) → i < m → f i ≡ false) → any f m 0 ≡ false
none_any f m n = go (any f m 0) refl
  where
    go : (b : Bool) → any f m 0 ≡ b → any f m 0 ≡ false
    go false p = p
    go true p = let s = any_out f m 0 p in absurd (false≢true (sym (n s.0 (omega (arith, s.2))) ∙ s.3))

pub lists_out : (points boxes : List Float) (nodes order : List ℕ) → wrong_lists points boxes nodes order ≡ false → GoodLists points boxes nodes order
unfolding wrong_lists
lists_out points boxes nodes order e =
    let a = eqb (length nodes) (box_count nodes * 3) in
    let b = eqb (length boxes) (box_count nodes * 6) in
    let p = neither (not a || not b) (ltb (length points / 9) (length order)) e in
    let q = neither (not a) (not b) p.0 in
    record {
      nodes_fit = eqb-true (length nodes) (box_count nodes * 3) (not-false a q.0);
      boxes_fit = eqb-true (length boxes) (box_count nodes * 6) (not-false b q.1);
      order_fits = ltb-false (length points / 9) (length order) p.1;
    }

pub lists_in : (points boxes : List Float) (nodes order : List ℕ) → GoodLists points boxes nodes order → wrong_lists points boxes nodes order ≡ false
unfolding wrong_lists
lists_in points boxes nodes order g =
    rw (eq-eqb (length nodes) (box_count nodes * 3) g.nodes_fit, eq-eqb (length boxes) (box_count nodes * 6) g.boxes_fit, le-ltb (length points / 9) (length order) g.order_fits) refl

-- ---- a present triangle

pub present_within : (points : List Float) (p : ℕ) → present_at points p ≡ true → p < length points / 9
unfolding present_at
present_within points p h = ltb-true p (length points / 9) ((and-eq-true_iff (ltb p (length points / 9)) (not (absent_of (triangle_at points p)))).0 h).0

pub half_out : (boxes : List Float) (n : ℕ) (depths : List ℕ) (i h : ℕ) → bad_half boxes n depths i h ≡ false → GoodHalf boxes n depths i h
unfolding bad_half
half_out boxes n depths i h e =
    let s = inside_of (bounds_at boxes h) (bounds_at boxes i) in
    let z = eqb (get_or depths h 0) 0 in
    let p = neither (leb h i || leb n h || not z) (not s) e in
    let q = neither (leb h i || leb n h) (not z) p.0 in
    let r = neither (leb h i) (leb n h) q.0 in
    record {
      follows = leb-false h i r.0;
      within = leb-false n h r.1;
      orphan = eqb-true (get_or depths h 0) 0 (not-false z q.1);
      inside = not-false s p.1;
    }

pub half_in : (boxes : List Float) (n : ℕ) (depths : List ℕ) (i h : ℕ) → GoodHalf boxes n depths i h → bad_half boxes n depths i h ≡ false
unfolding bad_half
half_in boxes n depths i h g = rw (lt-leb h i g.follows, lt-leb n h g.within, eq-eqb (get_or depths h 0) 0 g.orphan, g.inside) refl

pub pair_out : (boxes : List Float) (nodes : List ℕ) (i : ℕ) (depths : List ℕ) → bad_pair boxes nodes i depths ≡ false → GoodPair boxes nodes i depths
unfolding bad_pair
pair_out boxes nodes i depths e =
    let l = bad_half boxes (box_count nodes) depths i (left_at nodes i) in
    let r = bad_half boxes (box_count nodes) depths i (right_at nodes i) in
    let p = neither (l || r || eqb (left_at nodes i) (right_at nodes i)) (ltb depth_limit (get_or depths i 0)) e in
    let q = neither (l || r) (eqb (left_at nodes i) (right_at nodes i)) p.0 in
    let s = neither l r q.0 in
    record {
      left = half_out boxes (box_count nodes) depths i (left_at nodes i) s.0;
      right = half_out boxes (box_count nodes) depths i (right_at nodes i) s.1;
      apart = eqb-false (left_at nodes i) (right_at nodes i) q.1;
      shallow = ltb-false depth_limit (get_or depths i 0) p.1;
    }

pub pair_in : (boxes : List Float) (nodes : List ℕ) (i : ℕ) (depths : List ℕ) → GoodPair boxes nodes i depths → bad_pair boxes nodes i depths ≡ false
unfolding bad_pair
pair_in boxes nodes i depths g =
    rw (half_in boxes (box_count nodes) depths i (left_at nodes i) g.left, half_in boxes (box_count nodes) depths i (right_at nodes i) g.right, ne_eqb (left_at nodes i) (right_at nodes i) g.apart, le-ltb depth_limit (get_or depths i 0) g.shallow) refl

pub place_out : (points : List Float) (b : Bounds) (seen : List ℕ) (p : ℕ) → bad_place points b seen p ≡ false → GoodPlace points b seen p
unfolding bad_place
place_out points b seen p e =
    let s = inside_of (padded_of (triangle_at points p)) b in
    let z = eqb (get_or seen p 0) 0 in
    let q = neither (not (present_at points p) || not z) (not s) e in
    let r = neither (not (present_at points p)) (not z) q.0 in
    record {
      present = not-false (present_at points p) r.0;
      unseen = eqb-true (get_or seen p 0) 0 (not-false z r.1);
      inside = not-false s q.1;
    }

pub place_in : (points : List Float) (b : Bounds) (seen : List ℕ) (p : ℕ) → GoodPlace points b seen p → bad_place points b seen p ≡ false
unfolding bad_place
place_in points b seen p g = rw (g.present, eq-eqb (get_or seen p 0) 0 g.unseen, g.inside) refl

-- ---- a leaf

-- its k th triangle, as the code reads it
pub place_read : (nodes order : List ℕ) (i k : ℕ) → k < count_at nodes i
    → get_or (between (first_at nodes i) (first_at nodes i + count_at nodes i) order) k 0 ≡ place_at nodes order i k
unfolding place_at
place_read nodes order i k h = get_or-between order (first_at nodes i) (first_at nodes i + count_at nodes i) k 0 (omega arith)

module _ (points boxes : List Float) (nodes order : List ℕ) (i : ℕ) where
  pub record GoodRun (seen : List ℕ) : Type 0 where
    pub fits : first_at nodes i + count_at nodes i ≤ length order
    pub places : (k : ℕ) → k < count_at nodes i → GoodPlace points (bounds_at boxes i) (see_run nodes order i k seen) (place_at nodes order i k)

  pub run_out : (seen : List ℕ) → bad_run points boxes nodes order i seen ≡ false → GoodRun seen
  unfolding bad_run
  run_out seen e =
      let p = neither (ltb (length order) (first_at nodes i + count_at nodes i)) (any (bad_place_at points boxes nodes order i seen) (count_at nodes i) 0) e in
      record {
        fits = ltb-false (length order) (first_at nodes i + count_at nodes i) p.0;
        places = λ k h. place_out points (bounds_at boxes i) (see_run nodes order i k seen) (place_at nodes order i k) (any_none (bad_place_at points boxes nodes order i seen) (count_at nodes i) p.1 k h);
      }

  pub run_in : (seen : List ℕ) → GoodRun seen → bad_run points boxes nodes order i seen ≡ false
  unfolding bad_run
  run_in seen g =
      rw (le-ltb (length order) (first_at nodes i + count_at nodes i) g.fits, none_any (bad_place_at points boxes nodes order i seen) (count_at nodes i) (λ k h. place_in points (bounds_at boxes i) (see_run nodes order i k seen) (place_at nodes order i k) (g.places k h))) refl

  -- ---- a box

  pub record GoodBox (depths seen : List ℕ) : Type 0 where
    pub reached : get_or depths i 0 ≡ 0 → ⊥
    pub pair : inner_at nodes i ≡ true → GoodPair boxes nodes i depths
    pub run : inner_at nodes i ≡ false → GoodRun seen

  pub box_out : (depths seen : List ℕ) → bad_box points boxes nodes order i depths seen ≡ false → GoodBox depths seen
  unfolding bad_box
  box_out depths seen e =
      let P = bad_pair boxes nodes i depths in
      let R = bad_run points boxes nodes order i seen in
      let p = neither (eqb (get_or depths i 0) 0) (cond (inner_at nodes i) P R) e in
      record {
        reached = eqb-false (get_or depths i 0) 0 p.0;
        pair = λ h. pair_out boxes nodes i depths (sym (ap (λ (b : Bool). cond b P R) h) ∙ p.1);
        run = λ h. run_out seen (sym (ap (λ (b : Bool). cond b P R) h) ∙ p.1);
      }

  pub box_in : (depths seen : List ℕ) → GoodBox depths seen → bad_box points boxes nodes order i depths seen ≡ false
  unfolding bad_box
  box_in depths seen g = none_of (eqb (get_or depths i 0) 0) _ (ne_eqb (get_or depths i 0) 0 g.reached) (by (inner_at nodes i) refl)
    where
      by : (b : Bool) → inner_at nodes i ≡ b → cond b (bad_pair boxes nodes i depths) (bad_run points boxes nodes order i seen) ≡ false
      by true h = pair_in boxes nodes i depths (g.pair h)
      by false h = run_in seen (g.run h)

-- ---- for the loops of the test

pub ruleset any_steps = (any_found, any_next, any_end)

pub ruleset run_steps = (any_steps, present_within, place_out, place_read)
