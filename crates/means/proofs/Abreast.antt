-- n folds side by side: a step of them all, their end, and the whole of one to three steps; and sixteen numbers that are put into a list.
use mathlib.Core.Path.{◌≡◌, refl, sym, ap, ap₂, ◌∙◌}
use mathlib.Core.List.{List, [], ◌∷◌, ◌++◌, append_assoc}
use Prim.Native.Nat.{ℕ, zero, suc, ◌+◌, ◌-◌, ◌*◌, ◌≤◌, ◌<◌}
use native.Mathlib.Omega.{arith}
use native.Mathlib.Nat.{zero-add, add-zero, mul-le-mul_right, le-mul_of_pos_right}
use lib.ListN.{length, get_or, take}
use lib.Seq.{length-take-le, take-take, take-append-add}
use lib.Ieee.{Float, nan}
use Rattle.lists.specs.Fold.{fold, fold_step, fold_end, tab, length_tab, get_or_tab, tab_same}
use Rattle.means.specs.Sums.{each}

pub each_same : (n : ℕ) (f g : ℕ → Float) → ((j : ℕ) → j < n → f j ≡ g j) → tab f n 0 ≡ tab g n 0
each_same n f g e = tab_same f g n 0 (λ j p q. e j (omega arith))

pub get_or_each : (n : ℕ) (f : ℕ → Float) (k : ℕ) → k < n → get_or (tab f n 0) k nan ≡ f k
get_or_each n f k p = get_or_tab f n 0 k nan p ∙ ap f (zero-add k)

-- a list is what stands in it
tab_own : (l : List Float) (f : ℕ → Float) (i : ℕ) → ((j : ℕ) → j < length l → f (i + j) ≡ get_or l j nan) → tab f (length l) i ≡ l
unfolding tab
tab_own [] f i e = refl
tab_own (x ∷ l) f i e =
    let e0 : f i ≡ x = (let z : i ≡ i + 0 = omega arith in ap f z) ∙ e 0 (omega arith) in
    ap₂ (λ (y : Float) (m : List Float). y ∷ m) e0
    (tab_own l f (i + 1) (λ j p. (let z : i + 1 + j ≡ i + suc j = omega arith in ap f z) ∙ e (suc j) (omega arith)))

module _ (n : ℕ) (step : ℕ → ℕ → Float → Float) (x to : ℕ) (sum : List Float) where
  pub each_step : (sum' : List Float) → x < to → sum' ≡ tab (λ k. step k x (get_or sum k nan)) n 0
      → tab (λ k. fold (step k) (to - x) x (get_or sum k nan)) n 0 ≡ tab (λ k. fold (step k) (to - (x + 1)) (x + 1) (get_or sum' k nan)) n 0
  each_step sum' h e =
      each_same n _ _ (λ k p. fold_step (step k) x to (get_or sum k nan) h ∙ ap (fold (step k) (to - (x + 1)) (x + 1)) (sym (ap (λ (l : List Float). get_or l k nan) e ∙ get_or_each n (λ j. step j x (get_or sum j nan)) k p)))

  pub each_end : to ≤ x → length sum ≡ n → tab (λ k. fold (step k) (to - x) x (get_or sum k nan)) n 0 ≡ sum
  each_end h e =
      each_same n _ _ (λ k p. fold_end (step k) x to (get_or sum k nan) h) ∙ ap (λ (m : ℕ). tab (λ k. get_or sum k nan) m 0) (sym e) ∙ tab_own sum (λ k. get_or sum k nan) 0 (λ j p. ap (λ (i : ℕ). get_or sum i nan) (zero-add j))

module _ (n : ℕ) (step : ℕ → ℕ → Float → Float) (x to : ℕ) (s one : List Float) where
  pub each_one : to ≡ x + 1 → one ≡ tab (λ k. step k x (get_or s k nan)) n 0 → one ≡ tab (λ k. fold (step k) (to - x) x (get_or s k nan)) n 0
  each_one h e = sym (each_step n step x to s one (omega arith) e ∙ each_end n step (x + 1) to one (omega arith) (rw e (length_tab _ n 0)))

  module _ (two : List Float) where
    pub each_two : to ≡ x + 2 → one ≡ tab (λ k. step k x (get_or s k nan)) n 0 → two ≡ tab (λ k. step k (x + 1) (get_or one k nan)) n 0
        → two ≡ tab (λ k. fold (step k) (to - x) x (get_or s k nan)) n 0
    each_two h e f =
        sym (each_step n step x to s one (omega arith) e ∙ each_step n step (x + 1) to one two (omega arith) f ∙ each_end n step (x + 1 + 1) to two (omega arith) (rw f (length_tab _ n 0)))

    pub each_three : (three : List Float) → to ≡ x + 3 → one ≡ tab (λ k. step k x (get_or s k nan)) n 0 → two ≡ tab (λ k. step k (x + 1) (get_or one k nan)) n 0
        → three ≡ tab (λ k. step k (x + 2) (get_or two k nan)) n 0 → three ≡ tab (λ k. fold (step k) (to - x) x (get_or s k nan)) n 0
    each_three three h e f g =
        let g' : three ≡ tab (λ k. step k (x + 1 + 1) (get_or two k nan)) n 0 = (let z : x + 1 + 1 ≡ x + 2 = omega arith in rw z g) in
        sym
        (each_step n step x to s one (omega arith) e
        ∙ each_step n step (x + 1) to one two (omega arith) f
        ∙ each_step n step (x + 1 + 1) to two three (omega arith) g'
        ∙ each_end n step (x + 1 + 1 + 1) to three (omega arith) (rw g (length_tab _ n 0)))

-- ---- places: n numbers can be read at a voxel before one where they can, and that one's number is no more than the length

pub before : (n stride : ℕ) {a b l : ℕ} → a ≤ b → b * stride + n ≤ l → a * stride + n ≤ l
before n stride p q = omega (arith, mul-le-mul_right stride p)

pub in_length : (n stride a : ℕ) {l : ℕ} → 0 < stride → a * stride + n ≤ l → a ≤ l
in_length n stride a p q = omega (arith, le-mul_of_pos_right {m = stride} a p)

-- ---- sixteen numbers put into a list

tab_split : (f : ℕ → Float) (j k i : ℕ) → tab f (j + k) i ≡ tab f j i ++ tab f k (i + j)
unfolding tab
tab_split f zero k i = rw (zero-add k, add-zero i) refl
tab_split f (suc j) k i =
    let e : suc j + k ≡ suc (j + k) = omega arith in
    let g : i + suc j ≡ i + 1 + j = omega arith in
    rw (e, g) (ap (λ (l : List Float). f i ∷ l) (tab_split f j k (i + 1)))

take_tab : (f : ℕ → Float) (n k i : ℕ) → n ≤ k → take n (tab f k i) ≡ tab f n i
unfolding tab
take_tab f zero k i p = refl
take_tab f (suc n) zero i p = absurd (omega arith)
take_tab f (suc n) (suc k) i p = ap (λ (l : List Float). f i ∷ l) (take_tab f n k (i + 1) (omega arith))

tab_moved : (f g : ℕ → Float) (at k i : ℕ) → ((j : ℕ) → i ≤ j → j < i + k → g j ≡ f (at + j)) → tab g k i ≡ tab f k (at + i)
unfolding tab
tab_moved f g at zero i e = refl
tab_moved f g at (suc k) i e =
    let z : at + (i + 1) ≡ at + i + 1 = omega arith in
    ap₂ (λ (x : Float) (l : List Float). x ∷ l) (e i (omega arith) (omega arith)) (tab_moved f g at k (i + 1) (λ j p q. e j (omega arith) (omega arith)) ∙ ap (tab f k) z)

-- the first n of them are f's from there on: what stands before them, and what f gives from them on, are as before
module _ (f g : ℕ → Float) (old new m : List Float) (at n : ℕ) where
  pub placed : n ≤ 16 → at + n ≤ length old → length new ≡ length old → take (at + 16) new ≡ take at old ++ m → m ≡ each g
      → ((j : ℕ) → j < n → g j ≡ f (at + j))
      → take (at + n) new ++ tab f (length new - (at + n)) (at + n) ≡ take at old ++ tab f (length old - at) at
  placed p fits same put made are =
      let front : length (take at old) ≡ at = length-take-le at old (omega arith) in
      let lanes : take n m ≡ tab f n at
      = ap (take n) made ∙ take_tab g n 16 0 p ∙ tab_moved f g at n 0 (λ j a b. are j (omega arith)) ∙ ap (tab f n) (add-zero at) in
      let first : take (at + n) new ≡ take at old ++ tab f n at
      = sym (take-take (at + n) (at + 16) new (omega arith)) ∙ ap (take (at + n)) put
      ∙ ap (λ (k : ℕ). take (k + n) (take at old ++ m)) (sym front)
      ∙ take-append-add (take at old) m n
      ∙ ap (λ (l : List Float). take at old ++ l) lanes in
      let rest : length old - at ≡ n + (length new - (at + n)) = omega arith in
      rw (first, rest, append_assoc) (ap (λ (l : List Float). take at old ++ l) (sym (tab_split f n (length new - (at + n)) at)))
