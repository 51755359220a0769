-- What the marks show: a box is marked exactly where it is the first or a parent of it was passed, and a triangle exactly where it stood in a leaf that was
-- passed. That holds of every tree, accepted or not. Assumes nothing.
use Rattle.std.specs.Prelude.{◌≡◌, refl, Bool, List, eqb, length, set, replicate, Float}
use Rattle.std.proofs.Common.{sym, ap, ◌∙◌, arith, eqb-true, length-set, get_or-set_same, get_or-set_other}
use Rattle.std.proofs.Math.Bool.{true, false, cond}
use Prim.Native.Nat.{ℕ, zero, suc, ◌+◌, ◌/◌, ◌≤◌, ◌<◌}
use Rattle.std.proofs.lemmas.Bool.{eqb-false}
use Rattle.std.proofs.Math.ListN.{get_or}
use Rattle.tree.specs.Tree.{box_count, count_at, inner_at, left_at, right_at, place_at, one, parents_to, run_to, stands_to}
use Rattle.tree.specs.SumLaws.{one_other}
use Rattle.tree.specs.Test.{mark_pair, depths_to, see_run, seen_to}

-- of the first m marks those are 0 whose count is 0
pub record Shows (m : ℕ) (marks : List ℕ) (count : ℕ → ℕ) : Type 0 where
  pub long : m ≤ length marks
  pub unmarked : (p : ℕ) → p < m → count p ≡ 0 → get_or marks p 0 ≡ 0
  pub uncounted : (p : ℕ) → p < m → get_or marks p 0 ≡ 0 → count p ≡ 0

pub shows_same : {m : ℕ} {marks : List ℕ} (c d : ℕ → ℕ) → ((p : ℕ) → c p ≡ d p) → Shows m marks c → Shows m marks d
shows_same c d e s =
    record {
      long = s.long;
      unmarked = λ p h z. s.unmarked p h (e p ∙ z);
      uncounted = λ p h z. sym (e p) ∙ s.uncounted p h z;
    }

-- one mark more
pub shows_set : {m : ℕ} (marks : List ℕ) (c : ℕ → ℕ) (q v : ℕ) → 0 < v → Shows m marks c → Shows m (set marks q v) (λ p. c p + one (eqb q p))
shows_set {m} marks c q v pos s =
    record {
      long = omega (arith, s.long, length-set marks q v);
      unmarked = λ p h z. fresh p h z (eqb q p) refl;
      uncounted = λ p h z. stale p h z (eqb q p) refl;
    }
  where
    fresh : (p : ℕ) → p < m → c p + one (eqb q p) ≡ 0 → (b : Bool) → eqb q p ≡ b → get_or (set marks q v) p 0 ≡ 0
    fresh p h z true e = absurd (omega (arith, ap one e))
    fresh p h z false e = get_or-set_other marks q p v 0 (λ (x : p ≡ q). eqb-false q p e (sym x)) ∙ s.unmarked p h (omega arith)

    stale : (p : ℕ) → p < m → get_or (set marks q v) p 0 ≡ 0 → (b : Bool) → eqb q p ≡ b → c p + one (eqb q p) ≡ 0
    stale p h z true e =
        let x = eqb-true q p e in
        let w : get_or (set marks q v) q 0 ≡ 0 = ap (λ (y : ℕ). get_or (set marks q v) y 0) x ∙ z in
        let long = s.long in
        absurd (omega (arith, get_or-set_same marks q v 0 (omega arith)))
    stale p h z false e =
        let w = s.uncounted p h (sym (get_or-set_other marks q p v 0 (λ (x : p ≡ q). eqb-false q p e (sym x))) ∙ z) in
        omega (arith, ap one e)

module _ (nodes depths : List ℕ) where
  pub depths_show : Shows (box_count nodes) depths (λ j. one (eqb 0 j)) → (m : ℕ) → Shows (box_count nodes) (depths_to nodes depths m) (λ j. one (eqb 0 j) + parents_to nodes m j)
  unfolding depths_to parents_to mark_pair
  depths_show s zero = shows_same (λ j. one (eqb 0 j)) (λ j. one (eqb 0 j) + 0) (λ p. omega arith) s
  depths_show s (suc m) = by (inner_at nodes m) (depths_show s m)
    where
      by : (b : Bool) → Shows (box_count nodes) (depths_to nodes depths m) (λ j. one (eqb 0 j) + parents_to nodes m j)
          → Shows (box_count nodes) (cond b (mark_pair nodes m (depths_to nodes depths m)) (depths_to nodes depths m)) (λ j. one (eqb 0 j) + (parents_to nodes m j + cond b (one (eqb (left_at nodes m) j) + one (eqb (right_at nodes m) j)) 0))
      by true r =
          let D = depths_to nodes depths m in
          let w = get_or D m 0 + 1 in
          shows_same _ _ (λ p. omega arith) (shows_set (set D (left_at nodes m) w) _ (right_at nodes m) w (omega arith) (shows_set D _ (left_at nodes m) w (omega arith) r))
      by false r = shows_same _ _ (λ p. omega arith) r

module _ (nodes order : List ℕ) where
  pub run_shows : {t : ℕ} (i : ℕ) (seen : List ℕ) (c : ℕ → ℕ) → Shows t seen c → (k : ℕ) → Shows t (see_run nodes order i k seen) (λ p. c p + run_to nodes order i k p)
  unfolding see_run run_to
  run_shows i seen c s zero = shows_same c (λ p. c p + 0) (λ p. omega arith) s
  run_shows i seen c s (suc k) =
      shows_same _ _ (λ p. omega arith) (shows_set (see_run nodes order i k seen) _ (place_at nodes order i k) 1 (omega arith) (run_shows i seen c s k))

  pub seen_shows : {t : ℕ} (seen : List ℕ) → Shows t seen (λ p. 0) → (m : ℕ) → Shows t (seen_to nodes order seen m) (stands_to nodes order m)
  unfolding seen_to stands_to
  seen_shows seen s zero = s
  seen_shows {t} seen s (suc m) = by (inner_at nodes m) (seen_shows seen s m)
    where
      by : (b : Bool) → Shows t (seen_to nodes order seen m) (stands_to nodes order m)
          → Shows t (cond b (seen_to nodes order seen m) (see_run nodes order m (count_at nodes m) (seen_to nodes order seen m))) (λ p. stands_to nodes order m p + cond b 0 (run_to nodes order m (count_at nodes m) p))
      by true r = shows_same _ _ (λ p. omega arith) r
      by false r = run_shows m (seen_to nodes order seen m) (stands_to nodes order m) r (count_at nodes m)

-- the marks before the first box
pub record Start (points : List Float) (nodes depths seen : List ℕ) : Type 0 where
  pub depths_long : box_count nodes ≤ length depths
  pub depths_start : (j : ℕ) → get_or depths j 0 ≡ one (eqb 0 j)
  pub seen_long : length points / 9 ≤ length seen
  pub seen_start : (p : ℕ) → get_or seen p 0 ≡ 0

module _ (points : List Float) (nodes order depths seen : List ℕ) (s : Start points nodes depths seen) where
  -- and after m of them
  pub depths_after : (m : ℕ) → Shows (box_count nodes) (depths_to nodes depths m) (λ j. one (eqb 0 j) + parents_to nodes m j)
  depths_after = depths_show nodes depths (record { long = s.depths_long; unmarked = λ p h z. s.depths_start p ∙ z; uncounted = λ p h z. sym (s.depths_start p) ∙ z })

  pub seen_after_lem : (m : ℕ) → Shows (length points / 9) (seen_to nodes order seen m) (stands_to nodes order m)
  seen_after_lem = seen_shows nodes order seen (record { long = s.seen_long; unmarked = λ p h z. s.seen_start p; uncounted = λ p h z. refl })

-- such marks: blank-zero, but for a 1 at the first box
abbrev pub blank : ℕ → List ℕ
blank m = replicate m 0

pub blank_zero : (m i : ℕ) → get_or (blank m) i 0 ≡ 0
blank_zero zero i = refl
blank_zero (suc m) zero = refl
blank_zero (suc m) (suc i) = blank_zero m i

pub first_mark : (m j : ℕ) → get_or (set (blank (suc m)) 0 1) j 0 ≡ one (eqb 0 j)
first_mark m zero = refl
first_mark m (suc j) = blank_zero m j ∙ sym (one_other 0 (suc j) (λ (e : 0 ≡ suc j). omega arith))
