-- The box around two boxes without NaN holds both, and lies inside whatever holds both; so a run's box holds its triangles' and those of the runs within it.
use Rattle.std.specs.Prelude.{◌≡◌, Bool, true, false, cond, List, Float}
use Rattle.std.proofs.Math.Path.{refl, subst}
use Rattle.std.proofs.Common.{sym, ap, ◌∙◌, eq-or-lt_of_le, add-zero, add_assoc}
use Rattle.std.proofs.Math.Logic.{⊎_elim}
use Prim.Native.Nat.{ℕ, zero, suc, ◌+◌, ◌-◌, ◌≤◌, ◌<◌}
use native.Mathlib.Omega.{arith}
use Rattle.std.specs.Float.Ieee.{le, lt, is_nan}
use Rattle.floats.specs.Choice.{larger_of, smaller_of}
use Rattle.floats.specs.OrderLaws.{not_lt_le, le_numbers, lt_irreflexive}
use Rattle.floats.specs.FiniteLaws.{larger_number, smaller_number, larger_not_below, smaller_not_above}
use Rattle.vectors.specs.Vectors.{larger_v, smaller_v}
use Rattle.boxes.specs.declared.Bounds.{Bounds}
use Rattle.boxes.specs.Boxes.{inside_of}
use Rattle.boxes.specs.BoxLaws.{NumbersOf, inside_in, inside_out, inside_numbers, inside_transitive}
use Rattle.tree_build.specs.Built.{join_of, own_box, run_bounds}

-- ---- two numbers

choice_number : (b : Bool) (x y : Float) → is_nan x ≡ false → is_nan y ≡ false → is_nan (cond b x y) ≡ false
choice_number true x y h k = h
choice_number false x y h k = k

larger_not_nan : (x y : Float) → is_nan x ≡ false → is_nan y ≡ false → is_nan (larger_of x y) ≡ false
larger_not_nan x y h k = ap is_nan (larger_number x y h k) ∙ choice_number (lt y x) x y h k

smaller_not_nan : (x y : Float) → is_nan x ≡ false → is_nan y ≡ false → is_nan (smaller_of x y) ≡ false
smaller_not_nan x y h k = ap is_nan (smaller_number x y h k) ∙ choice_number (lt x y) x y h k

larger_le : (x y : Float) → is_nan x ≡ false → is_nan y ≡ false → (le x (larger_of x y) ≡ true) × (le y (larger_of x y) ≡ true)
larger_le x y h k =
    let n = larger_not_nan x y h k in
    let b = larger_not_below x y h k in
    (not_lt_le x (larger_of x y) h n b.0, not_lt_le y (larger_of x y) k n b.1)

smaller_le : (x y : Float) → is_nan x ≡ false → is_nan y ≡ false → (le (smaller_of x y) x ≡ true) × (le (smaller_of x y) y ≡ true)
smaller_le x y h k =
    let n = smaller_not_nan x y h k in
    let b = smaller_not_above x y h k in
    (not_lt_le (smaller_of x y) x n h b.0, not_lt_le (smaller_of x y) y n k b.1)

-- what holds of both holds of the choice
larger_below : (x y z : Float) → le x z ≡ true → le y z ≡ true → le (larger_of x y) z ≡ true
larger_below x y z h k = subst (λ (v : Float). le v z ≡ true) (sym (larger_number x y (le_numbers x z h).0 (le_numbers y z k).0)) (by (lt y x))
  where
    by : (b : Bool) → le (cond b x y) z ≡ true
    by true = h
    by false = k

smaller_above : (x y z : Float) → le z x ≡ true → le z y ≡ true → le z (smaller_of x y) ≡ true
smaller_above x y z h k = subst (λ (v : Float). le z v ≡ true) (sym (smaller_number x y (le_numbers z x h).1 (le_numbers z y k).1)) (by (lt x y))
  where
    by : (b : Bool) → le z (cond b x y) ≡ true
    by true = h
    by false = k

-- ---- two boxes

-- each lies inside the box around both
pub join_holds : (a b : Bounds) → NumbersOf a → NumbersOf b → (inside_of a (join_of a b) ≡ true) × (inside_of b (join_of a b) ≡ true)
unfolding join_of smaller_v larger_v
join_holds a b p q =
    let lx = smaller_le a.low.x b.low.x p.low.x q.low.x in
    let ly = smaller_le a.low.y b.low.y p.low.y q.low.y in
    let lz = smaller_le a.low.z b.low.z p.low.z q.low.z in
    let hx = larger_le a.high.x b.high.x p.high.x q.high.x in
    let hy = larger_le a.high.y b.high.y p.high.y q.high.y in
    let hz = larger_le a.high.z b.high.z p.high.z q.high.z in (
      inside_in a (join_of a b) (record { x = lx.0; y = ly.0; z = lz.0 }) (record { x = hx.0; y = hy.0; z = hz.0 }),
      inside_in b (join_of a b) (record { x = lx.1; y = ly.1; z = lz.1 }) (record { x = hx.1; y = hy.1; z = hz.1 }),
    )

-- and the box around both inside whatever holds both
pub join_least : (a b o : Bounds) → inside_of a o ≡ true → inside_of b o ≡ true → inside_of (join_of a b) o ≡ true
unfolding join_of smaller_v larger_v
join_least a b o h k =
    let p = inside_out a o h in
    let q = inside_out b o k in
    inside_in (join_of a b) o
    (record {
      x = smaller_above a.low.x b.low.x o.low.x p.0.x q.0.x;
      y = smaller_above a.low.y b.low.y o.low.y p.0.y q.0.y;
      z = smaller_above a.low.z b.low.z o.low.z p.0.z q.0.z;
    })
    (record {
      x = larger_below a.high.x b.high.x o.high.x p.1.x q.1.x;
      y = larger_below a.high.y b.high.y o.high.y p.1.y q.1.y;
      z = larger_below a.high.z b.high.z o.high.z p.1.z q.1.z;
    })

-- a box without NaN lies inside itself
pub inside_self : (a : Bounds) → NumbersOf a → inside_of a a ≡ true
inside_self a n = inside_in a a (record { x = le_self _ n.low.x; y = le_self _ n.low.y; z = le_self _ n.low.z }) (record { x = le_self _ n.high.x; y = le_self _ n.high.y; z = le_self _ n.high.z })
  where
    le_self : (x : Float) → is_nan x ≡ false → le x x ≡ true
    le_self x h = not_lt_le x x h h (lt_irreflexive x)

-- ---- a run

module _ (points : List Float) (order : List ℕ) where
  -- no bound of its triangles' padded boxes is NaN
  abbrev pub NumbersIn : ℕ → ℕ → Type 0
  NumbersIn first m = (k : ℕ) → k < m → NumbersOf (own_box points order (first + k))

  -- with one triangle more
  pub run_next : (first k : ℕ) → 1 ≤ k → run_bounds points order first (k + 1 - 1) ≡ join_of (run_bounds points order first (k - 1)) (own_box points order (first + k))
  unfolding run_bounds
  run_next first zero h = absurd (omega arith)
  run_next first (suc m) h = let e : suc m + 1 - 1 ≡ suc m = omega arith in let f : suc m - 1 ≡ m = omega arith in rw (e, f) refl

  -- its box holds each of them
  pub run_holds : (first m : ℕ) → NumbersIn first (suc m) → (k : ℕ) → k < suc m → inside_of (own_box points order (first + k)) (run_bounds points order first m) ≡ true
  unfolding run_bounds
  run_holds first zero n k h =
      let e : k ≡ 0 = omega arith in
      let f : first + k ≡ first = omega arith in
      rw f (inside_self (own_box points order first) (subst (λ (j : ℕ). NumbersOf (own_box points order j)) f (n k (omega arith))))
  run_holds first (suc m) n k h =
      let before = run_holds first m (λ j q. n j (omega arith)) in
      let whole = (inside_numbers (own_box points order (first + 0)) (run_bounds points order first m) (before 0 (omega arith))).1 in
      let last = n (suc m) (omega arith) in
      let both = join_holds (run_bounds points order first m) (own_box points order (first + suc m)) whole last in
      ⊎_elim
      (λ (e : k ≡ suc m). rw e both.1)
      (λ (l : k < suc m). inside_transitive (own_box points order (first + k)) (run_bounds points order first m) _ (before k l) both.0)
      (eq-or-lt_of_le (let g : k ≤ suc m = omega arith in g))

  -- and lies inside whatever holds each of them
  pub run_least : (first m : ℕ) (o : Bounds) → ((k : ℕ) → k < suc m → inside_of (own_box points order (first + k)) o ≡ true) → inside_of (run_bounds points order first m) o ≡ true
  unfolding run_bounds
  run_least first zero o h = subst (λ (j : ℕ). inside_of (own_box points order j) o ≡ true) (add-zero first) (h 0 (omega arith))
  run_least first (suc m) o h =
      join_least (run_bounds points order first m) (own_box points order (first + suc m)) o (run_least first m o (λ k l. h k (omega arith))) (h (suc m) (omega arith))

  -- so it holds the box of a run within it
  pub run_inside : (first m a n : ℕ) → a + n ≤ m → NumbersIn first (suc m) → inside_of (run_bounds points order (first + a) n) (run_bounds points order first m) ≡ true
  run_inside first m a n h w =
      run_least (first + a) n (run_bounds points order first m)
      (λ k l. subst (λ (j : ℕ). inside_of (own_box points order j) (run_bounds points order first m) ≡ true) (sym (add_assoc first a k)) (run_holds first m w (a + k) (omega arith)))
