-- Each box of a run's tree is the first of a tree of its own, of a part of the run: so its halves follow it and lie inside, its triangles lie inside, and it is
-- not deep. Assumes nothing.
use Rattle.std.specs.Prelude.{◌≡◌, refl, Bool, true, false, List, ℕ, zero, suc, ◌+◌, ◌-◌, ◌/◌, ◌≤◌, ◌<◌, ltb, Float}
use Rattle.std.proofs.Common.{sym, ◌∙◌, subst, ⊎_elim, eq-or-lt_of_le, arith, ltb-true, ltb-false}
use Rattle.std.proofs.lemmas.Bool.{false≢true}
use Rattle.names.specs.Numbers.{triangle_limit, leaf_limit}
use Rattle.triangle.specs.Places.{triangle_at}
use Rattle.boxes.specs.Boxes.{bounds_at, padded_of, inside_of}
use Rattle.tree.specs.Tree.{inner_at, count_at, left_at, right_at, first_at, place_at, Deep, root, left, right}
use Rattle.tree_build.specs.Built.{run_bounds, Built, leaf, pair}
use Rattle.tree_build.specs.JoinLaws.{NumbersIn, run_holds, run_inside}
use Rattle.tree_build.specs.BuiltLaws.{built_some, built_more, inner_of, leaf_of_lem, built_bounds}

-- how many triangles at most a run has that is halved k times at most
abbrev pub run_limit : ℕ → ℕ
run_limit zero = leaf_limit
run_limit (suc k) = run_limit k + run_limit k

module _ (points boxes : List Float) (nodes order : List ℕ) where
  abbrev Tree : ℕ → ℕ → ℕ → ℕ → Type 0
  Tree = Built points boxes nodes order

  -- ---- its own tree

  pub record BoxAt (i from to end : ℕ) : Type 0 where
    pub first : ℕ
    pub count : ℕ
    pub next : ℕ
    pub built : Built points boxes nodes order i first count next
    pub begins : from ≤ first
    pub ends : first + count ≤ to
    pub stops : next ≤ end

  wider : (i from to end a b c : ℕ) → a ≤ from → to ≤ b → end ≤ c → BoxAt i from to end → BoxAt i a b c
  wider i from to end a b c p q r t =
      let x = t.begins in
      let y = t.ends in
      let z = t.stops in
      record { first = t.first; count = t.count; next = t.next; built = t.built; begins = omega arith; ends = omega arith; stops = omega arith }

  pub box_at : {at first count next : ℕ} (i : ℕ) → Built points boxes nodes order at first count next → at ≤ i → i < next → BoxAt i first (first + count) next
  box_at i (leaf {at} {first} {count} a b h) l u =
      let e : at ≡ i = omega arith in
      record {
        first = first;
        count = count;
        next = at + 1;
        built = subst (λ (j : ℕ). Tree j first count (at + 1)) e (leaf a b h);
        begins = omega arith;
        ends = omega arith;
        stops = omega arith;
      }
  box_at i (pair {at} {first} {count} {next} middle a h x y) l u =
      ⊎_elim
      (λ (e : at ≡ i). record {
        first = first;
        count = count;
        next = next;
        built = subst (λ (j : ℕ). Tree j first count next) e (pair middle a h x y);
        begins = omega arith;
        ends = omega arith;
        stops = omega arith;
      })
      (λ (g : at < i). by g (ltb i middle) refl (λ (q : i < middle). box_at i x (omega arith) q) (λ (q : middle ≤ i). box_at i y q u))
      (eq-or-lt_of_le l)
    where
      by : at < i → (b : Bool) → ltb i middle ≡ b → (i < middle → BoxAt i first (first + count / 2) middle)
          → (middle ≤ i → BoxAt i (first + count / 2) (first + count / 2 + (count - count / 2)) next) → BoxAt i first (first + count) next
      by g true e p q =
          let m = built_more y in
          wider i first (first + count / 2) middle first (first + count) next (omega arith) (omega arith) (omega arith) (p (ltb-true i middle e))
      by g false e p q =
          wider i (first + count / 2) (first + count / 2 + (count - count / 2)) next first (first + count) next (omega arith) (omega arith) (omega arith) (q (ltb-false i middle e))

  -- ---- what it holds

  pub built_follows : {i first count next : ℕ} → Built points boxes nodes order i first count next → inner_at nodes i ≡ true
      → (i < left_at nodes i) × (left_at nodes i < next) × (i < right_at nodes i) × (right_at nodes i < next)
  built_follows (leaf l m h) q = absurd (false≢true (sym (leaf_of_lem l h) ∙ q))
  built_follows (pair {at} {first} {count} {next} middle l h x y) q =
      let u = built_more x in
      let v = built_more y in
      let e = h.left in
      let f = h.right in
      (omega arith, omega arith, omega arith, omega arith)

  pub built_run : {i first count next : ℕ} → Built points boxes nodes order i first count next → inner_at nodes i ≡ false → (first_at nodes i ≡ first) × (count_at nodes i ≡ count)
  built_run (leaf l m h) q = (h.left, h.number)
  built_run (pair middle l h x y) q = absurd (false≢true (sym q ∙ inner_of h))

  pub built_leaf : {i first count next : ℕ} → Built points boxes nodes order i first count next → NumbersIn points order first count → inner_at nodes i ≡ false
      → (k : ℕ) → k < count_at nodes i → inside_of (padded_of (triangle_at points (place_at nodes order i k))) (bounds_at boxes i) ≡ true
  unfolding place_at
  built_leaf {i} {first} {count} b numbers q k h =
      let r = built_run b q in
      let e = r.1 in
      let s = built_some b in
      rw (r.0, built_bounds b) (run_holds points order first (count - 1) (λ j u. numbers j (omega arith)) k (omega arith))

  pub built_above : {i first count next : ℕ} → Built points boxes nodes order i first count next → NumbersIn points order first count → inner_at nodes i ≡ true
      → (inside_of (bounds_at boxes (left_at nodes i)) (bounds_at boxes i) ≡ true) × (inside_of (bounds_at boxes (right_at nodes i)) (bounds_at boxes i) ≡ true)
  built_above (leaf l m h) numbers q = absurd (false≢true (sym (leaf_of_lem l h) ∙ q))
  built_above (pair {at} {first} {count} {next} middle l h x y) numbers q =
      let z : first + 0 ≡ first = omega arith in
      rw (h.left, h.right, h.bounds, built_bounds x, built_bounds y) (
        subst (λ (f : ℕ). inside_of (run_bounds points order f (count / 2 - 1)) (run_bounds points order first (count - 1)) ≡ true) z (run_inside points order first (count - 1) 0 (count / 2 - 1) (omega arith) (λ j u. numbers j (omega arith))),
        run_inside points order first (count - 1) (count / 2) (count - count / 2 - 1) (omega arith) (λ j u. numbers j (omega arith)),
      )

  -- ---- depth

  -- a box at depth d is that of a run of at most 4·2^(10−d) triangles
  pub record DeepBox (i d : ℕ) : Type 0 where
    pub above : ℕ
    pub depth : d + above ≡ 10
    pub first : ℕ
    pub count : ℕ
    pub next : ℕ
    pub built : Built points boxes nodes order i first count next
    pub few : count ≤ run_limit above

  -- a half of an inner box lies one deeper, and its run is half as long
  deeper : {i first count next : ℕ} (d k : ℕ) → d + k ≡ 10 → count ≤ run_limit k → Built points boxes nodes order i first count next → inner_at nodes i ≡ true
      → DeepBox (left_at nodes i) (suc d) × DeepBox (right_at nodes i) (suc d)
  deeper d k e f (leaf u v w) q = absurd (false≢true (sym (leaf_of_lem u w) ∙ q))
  deeper d zero e f (pair {at} {first} {count} {next} middle u w x y) q = absurd (omega arith)
  deeper d (suc k) e f (pair {at} {first} {count} {next} middle u w x y) q = (
    record { above = k; depth = omega arith; first = first; count = count / 2; next = middle; built = rw w.left x; few = omega arith },
    record { above = k; depth = omega arith; first = first + count / 2; count = count - count / 2; next = next; built = rw w.right y; few = omega arith },
  )

  pub deep_box : {count next i d : ℕ} → Built points boxes nodes order 0 0 count next → count ≤ triangle_limit → Deep nodes i d → DeepBox i d
  deep_box {count} {next} b h root = record { above = 10; depth = refl; first = 0; count = count; next = next; built = b; few = h }
  deep_box b h (left {i} {d} l q deep) = let t = deep_box b h deep in (deeper d t.above t.depth t.few t.built q).0
  deep_box b h (right {i} {d} l q deep) = let t = deep_box b h deep in (deeper d t.above t.depth t.few t.built q).1
