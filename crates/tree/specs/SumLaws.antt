-- Sums over the first m numbers: of more they are more, of pointwise less they are less, two of them may change places, and one place is hit once. Assumes nothing.
use Rattle.std.specs.Prelude.{◌≡◌, refl, Bool, true, false, ℕ, zero, suc, ◌+◌, ◌≤◌, ◌<◌, eqb}
use Rattle.std.proofs.Common.{sym, ap, ⊎_elim, eq-or-lt_of_le, arith, eqb-true, ne_eqb, eq-eqb}
use Rattle.std.proofs.lemmas.Bool.{eqb-false}
use Rattle.std.proofs.Math.Arith.{lt_of_le-ne}
use Rattle.tree.specs.Tree.{sum_to, one}

pub one_most : (b : Bool) → one b ≤ 1
one_most true = omega arith
one_most false = omega arith

pub one_self : (x : ℕ) → one (eqb x x) ≡ 1
one_self x = ap one (eq-eqb x x refl)

pub one_other : (x y : ℕ) → (x ≡ y → ⊥) → one (eqb x y) ≡ 0
one_other x y n = ap one (ne_eqb x y n)

pub positive : (x : ℕ) → (x ≡ 0 → ⊥) → 0 < x
positive zero n = absurd (n refl)
positive (suc x) n = omega arith

-- of more
pub sum_more : (f : ℕ → ℕ) (m n : ℕ) → m ≤ n → sum_to f m ≤ sum_to f n
sum_more f m zero h = let e : m ≡ 0 = omega arith in omega (arith, ap (sum_to f) e)
sum_more f m (suc n) h =
    ⊎_elim (λ (e : m ≡ suc n). omega (arith, ap (sum_to f) e)) (λ (l : m < suc n). let r = sum_more f m n (omega arith) in omega arith) (eq-or-lt_of_le h)

-- of pointwise less
pub sum_less : (f g : ℕ → ℕ) (m : ℕ) → ((i : ℕ) → i < m → f i ≤ g i) → sum_to f m ≤ sum_to g m
sum_less f g zero h = omega arith
sum_less f g (suc m) h =
    let a = sum_less f g m (λ i lt. h i (omega arith)) in
    let b = h m (omega arith) in
    omega arith

pub sum_same : (f g : ℕ → ℕ) (m : ℕ) → ((i : ℕ) → i < m → f i ≡ g i) → sum_to f m ≡ sum_to g m
sum_same f g zero h = refl
sum_same f g (suc m) h =
    let a = sum_same f g m (λ i lt. h i (omega arith)) in
    let b = h m (omega arith) in
    omega arith

pub sum_plus : (f g : ℕ → ℕ) (m : ℕ) → sum_to (λ i. f i + g i) m ≡ sum_to f m + sum_to g m
sum_plus f g zero = refl
sum_plus f g (suc m) = let a = sum_plus f g m in omega arith

pub sum_none : (m : ℕ) → sum_to (λ i. 0) m ≡ 0
sum_none zero = refl
sum_none (suc m) = let a = sum_none m in omega arith

pub sum_ones : (m : ℕ) → sum_to (λ i. 1) m ≡ m
sum_ones zero = refl
sum_ones (suc m) = let a = sum_ones m in omega arith

-- two sums change places
pub sum_swap : (g : ℕ → ℕ → ℕ) (m n : ℕ) → sum_to (λ p. sum_to (g p) n) m ≡ sum_to (λ i. sum_to (λ p. g p i) m) n
sum_swap g zero n = sym (sum_none n)
sum_swap g (suc m) n =
    let a = sum_swap g m n in
    let b = sum_plus (λ i. sum_to (λ p. g p i) m) (g m) n in
    omega arith

-- no number from m on is hit, and every number below it once
pub sum_past : (x m : ℕ) → m ≤ x → sum_to (λ p. one (eqb x p)) m ≡ 0
sum_past x zero h = refl
sum_past x (suc m) h =
    let a = sum_past x m (omega arith) in
    let b = one_other x m (λ (e : x ≡ m). omega arith) in
    omega arith

pub sum_hit : (x m : ℕ) → x < m → sum_to (λ p. one (eqb x p)) m ≡ 1
sum_hit x zero h = absurd (omega arith)
sum_hit x (suc m) h = by (eqb x m) refl (sum_hit x m)
  where
    by : (b : Bool) → eqb x m ≡ b → (x < m → sum_to (λ p. one (eqb x p)) m ≡ 1) → sum_to (λ p. one (eqb x p)) m + one (eqb x m) ≡ 1
    by true e rec =
        let q = eqb-true x m e in
        let a = sum_past x m (omega arith) in
        omega (arith, ap one e)
    by false e rec =
        let l : x < m = lt_of_le-ne (omega arith) (eqb-false x m e) in
        let a = rec l in
        omega (arith, ap one e)
