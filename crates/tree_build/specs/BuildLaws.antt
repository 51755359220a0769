-- What the answers of the builder mean: which row refuses, that a refused call changes nothing, that the contract leaves one answer and one content of each list,
-- what an accepted call has, and that its tree is accepted. Assumes nothing.
use Rattle.std.specs.Prelude.{◌≡◌, Bool, not, ◌||◌, List, [], ◌++◌, ℕ, zero, suc, ◌+◌, ◌-◌, ◌*◌, ◌/◌, ◌%◌, ◌≤◌, ◌<◌, eqb, ltb, length, take, drop, Float}
use Rattle.std.proofs.Math.Path.{refl, sym, ap}
use Rattle.std.proofs.Common.{ap₂, ◌∙◌, subst, append-nil, arith, ltb-true, ltb-false, length-take-le, get_or-take, take_at, ext_get_or}
use Rattle.std.proofs.Math.Bool.{true, false, cond}
use Rattle.std.proofs.Math.ListN.{get_or}
use Rattle.std.specs.Float.Ieee.{nan}
use Rattle.names.specs.Numbers.{triangle_limit}
use Rattle.names.specs.Refusals.{unless_refused, Numbered, RefusedBy, refused_by, kept, given}
use Rattle.names.specs.Passed.{passed}
use Rattle.boxes.specs.declared.Bounds.{Bounds}
use Rattle.boxes.specs.Boxes.{bounds_at}
use Rattle.tree.specs.Tree.{box_count, count_at, left_at, right_at, present_at, one, AcceptedTree}
use Rattle.tree.proofs.TestLaws.{neither}
use Rattle.tree_order.specs.Order.{order_of}
use Rattle.tree_order.specs.Ranks.{AcceptedPoints}
use Rattle.tree_order.specs.OrderLaws.{order_once, order_few, order_places}
use Rattle.tree_build.specs.declared.TreeBuilt.{TreeBuilt}
use Rattle.tree_build.specs.Built.{boxes_within, boxes_for, times_in, KeptBeside, TreeRoom, TreePut, BuiltTree}
use Rattle.tree_build.specs.Build.{wrong_build, build_rows, build_refusal, built_of, BuildAnswered}
use Rattle.tree_build.specs.RunLaws.{times_of_lem, kept_same}
use Rattle.tree_build.specs.BuiltLaws.{built_most}
use Rattle.tree_build.specs.GrownLaws.{built_same}
use Rattle.tree_build.specs.OneTreeLaws.{SameBox, one_tree}
use Rattle.tree_build.specs.BuiltAccepted.{built_accepted}

-- ---- which row refuses

build_numbered : (points : List Float) (boxes nodes order : ℕ) → Numbered (build_rows points boxes nodes order)
build_numbered points boxes nodes order = (omega arith, (omega arith, (omega arith, tt)))

module _ (points boxes : List Float) (nodes order : List ℕ) (r : TreeBuilt) (boxes' : List Float) (nodes' order' : List ℕ) (a : BuildAnswered points boxes nodes order r boxes' nodes' order') where
  pub build_refused_by : RefusedBy (build_rows points (length boxes) (length nodes) (length order)) r.refusal
  unfolding build_refusal built_of
  build_refused_by =
      refused_by _ r.refusal (build_numbered points (length boxes) (length nodes) (length order)) (ap (λ (x : TreeBuilt). x.refusal) a.answer)

-- ---- what an accepted call has

pub record BuildReady (points : List Float) (boxes nodes order : ℕ) : Type 0 where
  pub scene : AcceptedPoints points
  pub boxes_long : length points / 9 * 6 ≤ boxes
  pub nodes_long : length points / 9 * 3 ≤ nodes
  pub order_long : length points / 9 ≤ order

pub build_ready : (points : List Float) (boxes nodes order : ℕ) → build_refusal points boxes nodes order ≡ 0 → BuildReady points boxes nodes order
unfolding build_refusal wrong_build
build_ready points boxes nodes order e =
    let n = length points in
    let p = passed (build_rows points boxes nodes order) (build_numbered points boxes nodes order) e in
    let u = neither (not (eqb (n % 9) 0) || ltb boxes (n / 9 * 6) || ltb nodes (n / 9 * 3)) (ltb order (n / 9)) p.0 in
    let v = neither (not (eqb (n % 9) 0) || ltb boxes (n / 9 * 6)) (ltb nodes (n / 9 * 3)) u.0 in
    let w = neither (not (eqb (n % 9) 0)) (ltb boxes (n / 9 * 6)) v.0 in
    record {
      scene = record { few = ltb-false triangle_limit (n / 9) p.1.0; good = p.1.1.0 };
      boxes_long = ltb-false boxes (n / 9 * 6) w.1;
      nodes_long = ltb-false nodes (n / 9 * 3) v.1;
      order_long = ltb-false order (n / 9) u.1;
    }

-- ---- how the code answers

same_answer : (r s : TreeBuilt) → r.refusal ≡ s.refusal → r.boxes ≡ s.boxes → r.places ≡ s.places → r ≡ s
same_answer r s e f g = ap₂ (λ (h : ℕ → TreeBuilt) (m : ℕ). h m) (ap₂ built e f) g
  where
    built : ℕ → ℕ → ℕ → TreeBuilt
    built k n m = record { refusal = k; boxes = n; places = m }

module _ (points boxes : List Float) (nodes order : List ℕ) where
  abbrev refusal : ℕ
  refusal = build_refusal points (length boxes) (length nodes) (length order)

  -- the order put, there is room for its boxes
  pub order_fits_lem : (order₁ : List ℕ) (m : ℕ) → refusal ≡ 0 → m ≡ length (order_of points) → order₁ ≡ order_of points ++ drop m order → length order₁ ≡ length order → TreeRoom points boxes nodes order₁ m
  order_fits_lem order₁ m e number after same =
      let g = build_ready points (length boxes) (length nodes) (length order) e in
      let f = order_few points in
      let few = g.scene.few in
      record {
        few = omega arith;
        boxes_long = omega (arith, g.boxes_long);
        nodes_long = omega (arith, g.nodes_long);
        order_long = omega (arith, g.order_long);
        places = λ p h. rw (after, number) (times_of_lem (order_of points) (drop (length (order_of points)) order) p ∙ order_places points p h);
      }

  pub build_answered : (boxes' : List Float) (nodes' order₁ : List ℕ) (m n : ℕ) → refusal ≡ 0 → m ≡ length (order_of points) → order₁ ≡ order_of points ++ drop m order
      → TreePut points boxes boxes' nodes nodes' order₁ m n → BuildAnswered points boxes nodes order (record { refusal = 0; boxes = n; places = m }) boxes' nodes' order₁
  unfolding built_of
  build_answered boxes' nodes' order₁ m n e number after t =
      record {
        answer =
            rw e (same_answer _ _ refl (t.counted ∙ ap (λ (k : ℕ). boxes_for k) number ∙ given 0 _ 0 refl) (number ∙ given 0 _ 0 refl));
        order_after = after ∙ given 0 _ _ refl;
        tree = t.tree;
        boxes_kept_is = t.boxes_kept;
        nodes_kept_is = t.nodes_kept;
      }

  pub build_refused : (k : ℕ) → k ≡ refusal → (k ≡ 0 → ⊥) → BuildAnswered points boxes nodes order (record { refusal = k; boxes = 0; places = 0 }) boxes nodes order
  unfolding built_of
  build_refused k e n =
      record {
        answer = rw (← e) (same_answer _ _ refl (kept k _ 0 n) (kept k _ 0 n));
        order_after = kept k _ order n;
        tree = λ h. absurd (omega arith);
        boxes_kept_is = kept_same nan boxes 0 0;
        nodes_kept_is = kept_same 0 nodes 0 0;
      }

-- ---- what an answer says

module _ (points boxes : List Float) (nodes order : List ℕ) (r : TreeBuilt) (boxes' : List Float) (nodes' order' : List ℕ) (a : BuildAnswered points boxes nodes order r boxes' nodes' order') where
  refused_as : r.refusal ≡ build_refusal points (length boxes) (length nodes) (length order)
  unfolding built_of
  refused_as = ap (λ (x : TreeBuilt). x.refusal) a.answer

  boxes_counted : r.boxes ≡ unless_refused r.refusal (boxes_for (length (order_of points))) 0
  unfolding built_of
  boxes_counted = rw refused_as (ap (λ (x : TreeBuilt). x.boxes) a.answer)

  places_counted : r.places ≡ unless_refused r.refusal (length (order_of points)) 0
  unfolding built_of
  places_counted = rw refused_as (ap (λ (x : TreeBuilt). x.places) a.answer)

  -- no box without a place
  none_none : r.places ≡ 0 → r.boxes ≡ 0
  unfolding unless_refused boxes_within
  none_none z = by (eqb r.refusal 0) boxes_counted places_counted
    where
      by : (b : Bool) → r.boxes ≡ cond b (boxes_for (length (order_of points))) 0 → r.places ≡ cond b (length (order_of points)) 0 → r.boxes ≡ 0
      by true e f = e ∙ ap (λ (k : ℕ). boxes_for k) (sym f ∙ z)
      by false e f = e

  -- no more boxes than places
  few_boxes : r.boxes ≤ r.places
  few_boxes = by r.places refl
    where
      by : (m : ℕ) → r.places ≡ m → r.boxes ≤ r.places
      by zero e = omega (arith, none_none e)
      by (suc m) e = omega (arith, built_most (a.tree (omega arith)))

  -- ---- a refused call changes nothing

  unchanged : {A : Type 0} (d : A) (l m : List A) → KeptBeside d l m 0 0 → m ≡ l
  unchanged d l m k = ext_get_or d m l k.same (λ i h. k.above i (omega arith))

  pub build_keeps : (r.refusal ≡ 0 → ⊥) → (r.boxes ≡ 0) × (r.places ≡ 0) × (boxes' ≡ boxes) × (nodes' ≡ nodes) × (order' ≡ order)
  build_keeps n =
      let e = boxes_counted ∙ sym (kept r.refusal _ 0 n) in (
        e,
        places_counted ∙ sym (kept r.refusal _ 0 n),
        unchanged nan boxes boxes' (subst (λ (k : ℕ). KeptBeside nan boxes boxes' 0 (k * 6)) e a.boxes_kept_is),
        unchanged 0 nodes nodes' (subst (λ (k : ℕ). KeptBeside 0 nodes nodes' 0 (k * 3)) e a.nodes_kept_is),
        a.order_after ∙ sym (kept r.refusal _ order n),
      )

  -- ---- the tree of an accepted call is accepted

  module _ (z : r.refusal ≡ 0) where
    ready : BuildReady points (length boxes) (length nodes) (length order)
    ready = build_ready points (length boxes) (length nodes) (length order) (sym refused_as ∙ z)

    number : r.places ≡ length (order_of points)
    number = places_counted ∙ sym (given r.refusal _ 0 z)

    after : order' ≡ order_of points ++ drop r.places order
    after = a.order_after ∙ sym (given r.refusal _ order z)

    -- the places that it hands on are the builder's order
    pub build_order : take r.places order' ≡ order_of points
    build_order = ap (take r.places) after ∙ take_at (order_of points) _ r.places (sym number)

    once : (p : ℕ) → times_in (order_of points) 0 (length (order_of points)) p ≡ one (present_at points p)
    once p = rw (append-nil (order_of points)) at (times_of_lem (order_of points) [] p) ∙ order_once points p

    pub build_tree : BuiltTree points (take (r.boxes * 6) boxes') (take (r.boxes * 3) nodes') (take r.places order')
    build_tree =
        let n = r.boxes in
        let m = r.places in
        let few = few_boxes in
        let most = order_few points in
        let x = a.boxes_kept_is.same in
        let y = a.nodes_kept_is.same in
        let bl : length (take (n * 6) boxes') ≡ n * 6 = length-take-le (n * 6) boxes' (omega (arith, ready.boxes_long, number)) in
        let nl : length (take (n * 3) nodes') ≡ n * 3 = length-take-le (n * 3) nodes' (omega (arith, ready.nodes_long, number)) in
        let ol : length (take m order') ≡ m = ap (λ (l : List ℕ). length l) build_order ∙ sym number in
        let count : box_count (take (n * 3) nodes') ≡ n = omega arith in
        record {
          nodes_fit = omega arith;
          boxes_fit = omega arith;
          few = omega (arith, number);
          each_once = λ p. rw build_order (once p);
          none = λ e. omega (arith, none_none (sym ol ∙ e));
          tree = λ h. rw (ol, count) (built_same points boxes' (take (n * 6) boxes') nodes' (take (n * 3) nodes') order' (take m order') (λ k u v. get_or-take (n * 6) boxes' k nan v) (λ k u v. get_or-take (n * 3) nodes' k 0 v) (λ k u v. get_or-take m order' k 0 (omega arith)) (a.tree (omega arith)));
        }

    -- "show its trees accepted": the parts that a call hands on, of every scene that it does not refuse
    pub build_accepted : AcceptedTree points (take (r.boxes * 6) boxes') (take (r.boxes * 3) nodes') (take r.places order')
    build_accepted = built_accepted points _ _ _ build_tree ready.scene.good ready.scene.few

-- ---- one result

-- where box i is the same, so are its numbers
module _ (l m : List Float) (i k : ℕ) (lower : i * 6 ≤ k) (upper : k < i * 6 + 6) (same : bounds_at m i ≡ bounds_at l i) where
  same_number : get_or m k nan ≡ get_or l k nan
  unfolding bounds_at
  same_number = by (k - i * 6) refl
    where
      at : (j : ℕ) → k ≡ j → get_or m j nan ≡ get_or l j nan → get_or m k nan ≡ get_or l k nan
      at j e f = ap (λ (x : ℕ). get_or m x nan) e ∙ f ∙ sym (ap (λ (x : ℕ). get_or l x nan) e)

      by : (j : ℕ) → k - i * 6 ≡ j → get_or m k nan ≡ get_or l k nan
      by zero e = at (i * 6) (omega arith) (ap (λ (b : Bounds). b.low.x) same)
      by (suc zero) e = at (i * 6 + 1) (omega arith) (ap (λ (b : Bounds). b.low.y) same)
      by (suc (suc zero)) e = at (i * 6 + 2) (omega arith) (ap (λ (b : Bounds). b.low.z) same)
      by (suc (suc (suc zero))) e = at (i * 6 + 3) (omega arith) (ap (λ (b : Bounds). b.high.x) same)
      by (suc (suc (suc (suc zero)))) e = at (i * 6 + 3 + 1) (omega arith) (ap (λ (b : Bounds). b.high.y) same)
      by (suc (suc (suc (suc (suc zero))))) e = at (i * 6 + 3 + 2) (omega arith) (ap (λ (b : Bounds). b.high.z) same)
      by (suc (suc (suc (suc (suc (suc j)))))) e = absurd (omega arith)

module _ (l m : List ℕ) (i k : ℕ) (lower : i * 3 ≤ k) (upper : k < i * 3 + 3) (number : count_at m i ≡ count_at l i) (left : left_at m i ≡ left_at l i) (right : right_at m i ≡ right_at l i) where
  same_word : get_or m k 0 ≡ get_or l k 0
  unfolding count_at left_at right_at
  same_word = by (k - i * 3) refl
    where
      at : (j : ℕ) → k ≡ j → get_or m j 0 ≡ get_or l j 0 → get_or m k 0 ≡ get_or l k 0
      at j e f = ap (λ (x : ℕ). get_or m x 0) e ∙ f ∙ sym (ap (λ (x : ℕ). get_or l x 0) e)

      by : (j : ℕ) → k - i * 3 ≡ j → get_or m k 0 ≡ get_or l k 0
      by zero e = at (i * 3) (omega arith) number
      by (suc zero) e = at (i * 3 + 1) (omega arith) left
      by (suc (suc zero)) e = at (i * 3 + 2) (omega arith) right
      by (suc (suc (suc j))) e = absurd (omega arith)

pub record SameBuild (r s : TreeBuilt) (boxes boxes' : List Float) (nodes nodes' order order' : List ℕ) : Type 0 where
  pub answer : r ≡ s
  pub boxes_same : boxes ≡ boxes'
  pub nodes_same : nodes ≡ nodes'
  pub order_same : order ≡ order'

module _ (points boxes : List Float) (nodes order : List ℕ) (r₁ r₂ : TreeBuilt) (boxes₁ boxes₂ : List Float) (nodes₁ nodes₂ order₁ order₂ : List ℕ)
    (a : BuildAnswered points boxes nodes order r₁ boxes₁ nodes₁ order₁) (b : BuildAnswered points boxes nodes order r₂ boxes₂ nodes₂ order₂) where
  same : r₁ ≡ r₂
  same = a.answer ∙ sym b.answer

  same_boxes : r₁.boxes ≡ r₂.boxes
  same_boxes = ap (λ (x : TreeBuilt). x.boxes) same

  same_places : r₁.places ≡ r₂.places
  same_places = ap (λ (x : TreeBuilt). x.places) same

  same_order : order₁ ≡ order₂
  same_order = a.order_after ∙ rw same (sym b.order_after)

  -- a tree with a box is that of a place
  some : (i : ℕ) → i < r₁.boxes → 0 < r₁.places
  some i h = omega (arith, few_boxes points boxes nodes order r₁ boxes₁ nodes₁ order₁ a)

  same_box : (i : ℕ) → i < r₁.boxes → SameBox points boxes₁ boxes₂ nodes₁ nodes₂ order₁ i
  same_box i h =
      one_tree points boxes₁ boxes₂ nodes₁ nodes₂ order₁ i (a.tree (some i h))
      (rw (← same_order, ← same_places) at (b.tree (omega (arith, some i h, same_places)))) (omega arith) h

  pub build_answered_once : SameBuild r₁ r₂ boxes₁ boxes₂ nodes₁ nodes₂ order₁ order₂
  build_answered_once =
      record {
        answer = same;
        boxes_same = ext_get_or nan boxes₁ boxes₂ (a.boxes_kept_is.same ∙ sym b.boxes_kept_is.same) (λ k h. box k (ltb k (r₁.boxes * 6)) refl);
        nodes_same = ext_get_or 0 nodes₁ nodes₂ (a.nodes_kept_is.same ∙ sym b.nodes_kept_is.same) (λ k h. node k (ltb k (r₁.boxes * 3)) refl);
        order_same = same_order;
      }
    where
      box : (k : ℕ) (t : Bool) → ltb k (r₁.boxes * 6) ≡ t → get_or boxes₁ k nan ≡ get_or boxes₂ k nan
      box k true e =
          let l = ltb-true k (r₁.boxes * 6) e in
          let i = k / 6 in
          sym (same_number boxes₁ boxes₂ i k (omega arith) (omega arith) (same_box i (omega arith)).bounds)
      box k false e = let l = ltb-false k (r₁.boxes * 6) e in a.boxes_kept_is.above k l ∙ sym (b.boxes_kept_is.above k (omega (arith, same_boxes)))

      node : (k : ℕ) (t : Bool) → ltb k (r₁.boxes * 3) ≡ t → get_or nodes₁ k 0 ≡ get_or nodes₂ k 0
      node k true e =
          let l = ltb-true k (r₁.boxes * 3) e in
          let i = k / 3 in
          let s = same_box i (omega arith) in
          sym (same_word nodes₁ nodes₂ i k (omega arith) (omega arith) s.number s.left s.right)
      node k false e = let l = ltb-false k (r₁.boxes * 3) e in a.nodes_kept_is.above k l ∙ sym (b.nodes_kept_is.above k (omega (arith, same_boxes)))
