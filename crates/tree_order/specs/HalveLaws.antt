-- A run by halves: as many triangles, each as often as before; a run of four or fewer stays, and a longer one is its two halves, each by itself. Assumes nothing.
use Rattle.std.specs.Prelude.{◌≡◌, Bool, take, drop, Float}
use Rattle.std.proofs.Math.Path.{refl, ap₂}
use Rattle.std.proofs.Common.{sym, ◌∙◌, length-drop, length-take-le}
use Rattle.std.proofs.Math.Bool.{true, false, cond}
use mathlib.Core.List.{List, ◌++◌}
use Prim.Native.Nat.{ℕ, zero, suc, ◌+◌, ◌≤◌, ◌<◌}
use native.Mathlib.Omega.{arith}
use borrow.Author.Tests.{leb-false, le-leb, lt-leb}
use Rattle.std.proofs.Math.Dec.{leb}
use Rattle.std.proofs.Math.ListN.{length, length-append}
use Rattle.names.specs.Numbers.{leaf_limit}
use Rattle.tree_order.specs.Order.{along_widest, half_of, halved_within, halved, times_of}
use Rattle.tree_order.specs.SortLaws.{times_append, times_of_cut, sorted_times, sorted_length}

module _ (points : List Float) where
  pub widest_times : (p : ℕ) (run : List ℕ) → times_of p (along_widest points run) ≡ times_of p run
  unfolding along_widest
  widest_times p run = sorted_times _ p run

  pub widest_length : (run : List ℕ) → length (along_widest points run) ≡ length run
  unfolding along_widest
  widest_length run = sorted_length _ run

  -- the halves of a run
  abbrev pub left_of : List ℕ → List ℕ
  left_of run = take (half_of run) (along_widest points run)

  abbrev pub right_of : List ℕ → List ℕ
  right_of run = drop (half_of run) (along_widest points run)

  pub left_length : (run : List ℕ) → length (left_of run) ≡ half_of run
  left_length run = let e = widest_length run in length-take-le (half_of run) (along_widest points run) (omega arith)

  pub right_length : (run : List ℕ) → length (right_of run) + half_of run ≡ length run
  right_length run = let e = widest_length run in let f = length-drop (half_of run) (along_widest points run) in omega arith

  pub halves_times : (p : ℕ) (run : List ℕ) → times_of p (left_of run) + times_of p (right_of run) ≡ times_of p run
  halves_times p run = sym (times_of_cut p (half_of run) (along_widest points run)) ∙ widest_times p run

  -- ---- enough is enough

  within_same : (j k : ℕ) (run : List ℕ) → length run ≤ j → length run ≤ k → halved_within j points run ≡ halved_within k points run
  unfolding halved_within
  within_same zero zero run h g = refl
  within_same zero (suc k) run h g = let few : length run ≤ leaf_limit = omega arith in rw (le-leb (length run) leaf_limit few) refl
  within_same (suc j) zero run h g = let few : length run ≤ leaf_limit = omega arith in rw (le-leb (length run) leaf_limit few) refl
  within_same (suc j) (suc k) run h g =
      let l = left_length run in
      let r = right_length run in
      by (leb (length run) leaf_limit) refl
      (λ (big : leaf_limit < length run). within_same j k (left_of run) (omega arith) (omega arith))
      (λ (big : leaf_limit < length run). within_same j k (right_of run) (omega arith) (omega arith))
    where
      by : (b : Bool) → leb (length run) leaf_limit ≡ b → (leaf_limit < length run → halved_within j points (left_of run) ≡ halved_within k points (left_of run))
          → (leaf_limit < length run → halved_within j points (right_of run) ≡ halved_within k points (right_of run))
          → cond b run (halved_within j points (left_of run) ++ halved_within j points (right_of run)) ≡ cond b run (halved_within k points (left_of run) ++ halved_within k points (right_of run))
      by true e x y = refl
      by false e x y = let big = leb-false (length run) leaf_limit e in ap₂ (λ (l m : List ℕ). l ++ m) (x big) (y big)

  -- ---- one step

  pub halved_few : (run : List ℕ) → length run ≤ leaf_limit → halved points run ≡ run
  unfolding halved_within
  halved_few run h = within_same (length run) (suc (length run)) run (omega arith) (omega arith) ∙ rw (le-leb (length run) leaf_limit h) refl

  pub halved_cut : (run : List ℕ) → leaf_limit < length run → halved points run ≡ halved points (left_of run) ++ halved points (right_of run)
  unfolding halved_within
  halved_cut run h =
      let l = left_length run in
      let r = right_length run in
      within_same (length run) (suc (length run)) run (omega arith) (omega arith)
      ∙ rw (lt-leb (length run) leaf_limit h)
      (ap₂ (λ (l m : List ℕ). l ++ m) (within_same (length run) (length (left_of run)) (left_of run) (omega arith) (omega arith)) (within_same (length run) (length (right_of run)) (right_of run) (omega arith) (omega arith)))

  -- ---- the same triangles

  within_times : (k p : ℕ) (run : List ℕ) → times_of p (halved_within k points run) ≡ times_of p run
  unfolding halved_within
  within_times zero p run = refl
  within_times (suc k) p run = by (leb (length run) leaf_limit) (within_times k p (left_of run)) (within_times k p (right_of run))
    where
      by : (b : Bool) → times_of p (halved_within k points (left_of run)) ≡ times_of p (left_of run) → times_of p (halved_within k points (right_of run)) ≡ times_of p (right_of run)
          → times_of p (cond b run (halved_within k points (left_of run) ++ halved_within k points (right_of run))) ≡ times_of p run
      by true x y = refl
      by false x y = times_append p (halved_within k points (left_of run)) (halved_within k points (right_of run)) ∙ ap₂ (λ (a b : ℕ). a + b) x y ∙ halves_times p run

  pub halved_times : (p : ℕ) (run : List ℕ) → times_of p (halved points run) ≡ times_of p run
  halved_times p run = within_times (length run) p run

  within_length : (k : ℕ) (run : List ℕ) → length (halved_within k points run) ≡ length run
  unfolding halved_within
  within_length zero run = refl
  within_length (suc k) run = by (leb (length run) leaf_limit) (within_length k (left_of run)) (within_length k (right_of run))
    where
      by : (b : Bool) → length (halved_within k points (left_of run)) ≡ length (left_of run) → length (halved_within k points (right_of run)) ≡ length (right_of run)
          → length (cond b run (halved_within k points (left_of run) ++ halved_within k points (right_of run))) ≡ length run
      by true x y = refl
      by false x y =
          let l = left_length run in
          let r = right_length run in
          let a = length-append (halved_within k points (left_of run)) (halved_within k points (right_of run)) in
          omega arith

  pub halved_length : (run : List ℕ) → length (halved points run) ≡ length run
  halved_length run = within_length (length run) run
