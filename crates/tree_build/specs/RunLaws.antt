-- Runs of the order: a run is its two halves, what changed in a part changed in the whole, and what stands in a run is counted there. Assumes nothing.
use Rattle.std.specs.Prelude.{◌≡◌, refl, List, [], ◌∷◌, ◌++◌, ℕ, zero, suc, ◌+◌, ◌-◌, ◌/◌, ◌≤◌, ◌<◌, Bool, true, false, eqb, ltb, length, Float}
use Rattle.std.proofs.Common.{sym, ◌∙◌, add_assoc, add-suc, add-zero, add-one, ltb-true, ltb-false}
use Rattle.std.proofs.Math.Path.{ap}
use native.Mathlib.Omega.{arith}
use Rattle.std.proofs.Math.ListN.{get_or}
use Rattle.tree.specs.Tree.{sum_to, one}
use Rattle.tree.specs.SumLaws.{one_self, sum_more, sum_same}
use Rattle.tree_order.specs.Order.{times_of}
use Rattle.tree_build.specs.Built.{times_in, PlacesIn, KeptBeside}

-- ---- sums, one further and in two parts

pub sum_next : (f : ℕ → ℕ) (n : ℕ) → sum_to f (n + 1) ≡ sum_to f n + f n
sum_next f n = ap (sum_to f) (add-one n)

pub sum_parts : (f : ℕ → ℕ) (a b : ℕ) → sum_to f (a + b) ≡ sum_to f a + sum_to (λ k. f (a + k)) b
sum_parts f a zero = omega (arith, ap (sum_to f) (add-zero a))
sum_parts f a (suc b) = let r = sum_parts f a b in omega (arith, ap (sum_to f) (add-suc a b))

-- ---- a run is its two halves

module _ (order : List ℕ) (first : ℕ) where
  pub times_parts : (a b p : ℕ) → times_in order first (a + b) p ≡ times_in order first a p + times_in order (first + a) b p
  unfolding times_in
  times_parts a b p =
      sum_parts (λ k. one (eqb (get_or order (first + k) 0) p)) a b
      ∙ ap (λ (n : ℕ). sum_to (λ k. one (eqb (get_or order (first + k) 0) p)) a + n) (sum_same (λ k. one (eqb (get_or order (first + (a + k)) 0) p)) (λ k. one (eqb (get_or order (first + a + k) 0) p)) b (λ k h. ap (λ (n : ℕ). one (eqb (get_or order n 0) p)) (sym (add_assoc first a k))))

  pub times_cut : (a count p : ℕ) → a ≤ count → times_in order first count p ≡ times_in order first a p + times_in order (first + a) (count - a) p
  times_cut a count p h = let e : a + (count - a) ≡ count = omega arith in sym (ap (λ (n : ℕ). times_in order first n p) e) ∙ times_parts a (count - a) p

  -- what stands in a run is counted there
  pub times_here : (count k : ℕ) → k < count → 1 ≤ times_in order first count (get_or order (first + k) 0)
  unfolding times_in
  times_here count k h =
      let p = get_or order (first + k) 0 in
      let a = sum_more (λ j. one (eqb (get_or order (first + j) 0) p)) (suc k) count h in
      let b = one_self p in
      omega arith

-- a place out of such a run is a triangle's
pub run_place_within : (points : List Float) (order : List ℕ) (first count k : ℕ) → PlacesIn points order first count → k < count → get_or order (first + k) 0 < length points / 9
run_place_within points order first count k h l = by (ltb (get_or order (first + k) 0) (length points / 9)) refl
  where
    by : (b : Bool) → ltb (get_or order (first + k) 0) (length points / 9) ≡ b → get_or order (first + k) 0 < length points / 9
    by true e = ltb-true _ _ e
    by false e = absurd (omega (arith, h _ (ltb-false _ _ e), times_here order first count k l))

-- the halves of such a run are such runs
pub places_parts : (points : List Float) (order : List ℕ) (first a count : ℕ) → a ≤ count → PlacesIn points order first count
    → PlacesIn points order first a × PlacesIn points order (first + a) (count - a)
places_parts points order first a count h w =
    (λ p l. omega (arith, times_cut order first a count p h, w p l), λ p l. omega (arith, times_cut order first a count p h, w p l))

-- ---- what changed

module _ {A : Type 0} (d : A) where
  pub kept_same : (l : List A) (from to : ℕ) → KeptBeside d l l from to
  kept_same l from to = record { same = refl; below = λ k h. refl; above = λ k h. refl }

  -- in a part, so in the whole
  pub kept_more : (l m : List A) (from to a b : ℕ) → a ≤ from → to ≤ b → KeptBeside d l m from to → KeptBeside d l m a b
  kept_more l m from to a b h g k = record { same = k.same; below = λ i q. k.below i (omega arith); above = λ i q. k.above i (omega arith) }

  -- one after another
  pub kept_through : (l m n : List A) (from to : ℕ) → KeptBeside d l m from to → KeptBeside d m n from to → KeptBeside d l n from to
  kept_through l m n from to k j = record { same = j.same ∙ k.same; below = λ i q. j.below i q ∙ k.below i q; above = λ i q. j.above i q ∙ k.above i q }

-- of equal runs the counts are equal
pub times_same : (l m : List ℕ) (first count p : ℕ) → ((k : ℕ) → first ≤ k → k < first + count → get_or m k 0 ≡ get_or l k 0) → times_in m first count p ≡ times_in l first count p
unfolding times_in
times_same l m first count p h =
    sum_same (λ k. one (eqb (get_or m (first + k) 0) p)) (λ k. one (eqb (get_or l (first + k) 0) p)) count (λ k q. ap (λ (n : ℕ). one (eqb n p)) (h (first + k) (omega arith) (omega arith)))

-- ---- a list counted place by place

-- how often p stands in a list's front, one by one
pub times_of_lem : (l rest : List ℕ) (p : ℕ) → times_in (l ++ rest) 0 (length l) p ≡ times_of p l
unfolding times_in
times_of_lem [] rest p = refl
times_of_lem (q ∷ l) rest p =
    let e : suc (length l) ≡ 1 + length l = omega arith in
    let t = times_of_lem l rest p in
    let s = sum_parts (λ k. one (eqb (get_or (q ∷ (l ++ rest)) (0 + k) 0) p)) 1 (length l) in
    let u = sum_same (λ k. one (eqb (get_or (q ∷ (l ++ rest)) (0 + (1 + k)) 0) p)) (λ k. one (eqb (get_or (l ++ rest) (0 + k) 0) p)) (length l) (λ k h. let f : 0 + (1 + k) ≡ suc k = omega arith in let g : 0 + k ≡ k = omega arith in rw (f, g) refl) in
    omega (arith, ap (sum_to (λ k. one (eqb (get_or (q ∷ (l ++ rest)) (0 + k) 0) p))) e, s, t, u)
