-- The list of the present places, made one by one: each stands there once, and nothing else does. Assumes nothing.
use Rattle.std.specs.Prelude.{◌≡◌, Bool, List, [], ◌∷◌, ◌++◌, eqb, set, Float}
use Rattle.std.proofs.Math.Path.{refl, sym}
use Rattle.std.proofs.Common.{ap, ◌∙◌, eq-eqb, eqb-true, ne_eqb, drop-cons}
use Rattle.std.proofs.Math.Bool.{true, false, cond}
use Prim.Native.Nat.{ℕ, zero, suc, ◌+◌, ◌/◌, ◌≤◌, ◌<◌}
use Rattle.std.proofs.Math.Numerals.{add-one}
use native.Mathlib.Omega.{arith}
use Rattle.std.proofs.lemmas.Bool.{eqb-false}
use Rattle.std.proofs.Math.ListN.{length, drop, length-append}
use Rattle.std.proofs.lemmas.List.{set_at}
use Rattle.std.proofs.Math.Seq.{append_snoc}
use Rattle.tree.specs.Tree.{present_at, sum_to, one}
use Rattle.tree.specs.SumLaws.{one_most, sum_less, sum_same, sum_ones, sum_none, sum_hit}
use Rattle.tree.proofs.TestLaws.{present_within}
use Rattle.tree_order.specs.Order.{present_below, present_to, present_places, times_of}
use Rattle.tree_order.specs.SortLaws.{times_append}

module _ (points : List Float) where
  -- ---- how many

  pub present_length : (p : ℕ) → length (present_below points p) ≡ present_to points p
  unfolding present_below present_to
  present_length zero = refl
  present_length (suc p) = by (present_at points p) (present_length p)
    where
      by : (b : Bool) → length (present_below points p) ≡ present_to points p → length (cond b (present_below points p ++ (p ∷ [])) (present_below points p)) ≡ present_to points p + one b
      by true e = let a = length-append (present_below points p) (p ∷ []) in omega arith
      by false e = omega arith

  -- no more than there are places
  pub present_few : (p : ℕ) → present_to points p ≤ p
  unfolding present_to
  present_few p = omega (arith, sum_less (λ j. one (present_at points j)) (λ j. 1) p (λ j _. one_most (present_at points j)), sum_ones p)

  -- ---- one place more

  -- at the front of a list that has room for it
  pub present_next : (p n : ℕ) (order : List ℕ) → n ≡ length (present_below points p) → n < length order
      → cond (present_at points p) (set (present_below points p ++ drop n order) n p) (present_below points p ++ drop n order)
      ≡ present_below points (p + 1) ++ drop (cond (present_at points p) (n + 1) n) order
  unfolding present_below
  present_next p n order e h = rw (add-one p) (by (present_at points p))
    where
      by : (b : Bool) → cond b (set (present_below points p ++ drop n order) n p) (present_below points p ++ drop n order)
          ≡ cond b (present_below points p ++ (p ∷ [])) (present_below points p) ++ drop (cond b (n + 1) n) order
      by true =
          rw (drop-cons order n 0 h, add-one n) (set_at (present_below points p) _ (drop (suc n) order) p n (sym e) ∙ sym (append_snoc (present_below points p) p (drop (suc n) order)))
      by false = refl

  pub present_next_length : (p n : ℕ) → n ≡ length (present_below points p) → cond (present_at points p) (n + 1) n ≡ length (present_below points (p + 1))
  unfolding present_below
  present_next_length p n e = rw (add-one p) (by (present_at points p))
    where
      by : (b : Bool) → cond b (n + 1) n ≡ length (cond b (present_below points p ++ (p ∷ [])) (present_below points p))
      by true = let a = length-append (present_below points p) (p ∷ []) in omega arith
      by false = e

  -- ---- which

  -- how often q is among the present places below p
  abbrev listed_to : ℕ → ℕ → ℕ
  listed_to p q = sum_to (λ j. cond (present_at points j) (one (eqb j q)) 0) p

  listed : (p q : ℕ) → times_of q (present_below points p) ≡ listed_to p q
  unfolding present_below
  listed zero q = refl
  listed (suc p) q = by (present_at points p) (listed p q)
    where
      by : (b : Bool) → times_of q (present_below points p) ≡ listed_to p q
          → times_of q (cond b (present_below points p ++ (p ∷ [])) (present_below points p)) ≡ listed_to p q + cond b (one (eqb p q)) 0
      by true e = let a = times_append q (present_below points p) (p ∷ []) in omega arith
      by false e = omega arith

  same_test : (a b : ℕ) → one (eqb a b) ≡ one (eqb b a)
  same_test a b = by (eqb a b) refl
    where
      by : (t : Bool) → eqb a b ≡ t → one (eqb a b) ≡ one (eqb b a)
      by true e = ap one (e ∙ sym (eq-eqb b a (sym (eqb-true a b e))))
      by false e = ap one (e ∙ sym (ne_eqb b a (λ (z : b ≡ a). eqb-false a b e (sym z))))

  nothing : (c : Bool) → ◌≡◌ {A = ℕ} (cond c 0 0) 0
  nothing true = refl
  nothing false = refl

  -- each present place once
  pub present_once : (q : ℕ) → times_of q (present_places points) ≡ one (present_at points q)
  present_once q = listed (length points / 9) q ∙ by (present_at points q) refl
    where
      -- a place other than q counts nothing
      at : (b : Bool) → present_at points q ≡ b → (j : ℕ) (c : Bool) → eqb j q ≡ c → cond (present_at points j) (one (eqb j q)) 0 ≡ cond b (one (eqb q j)) 0
      at true e j true f = rw (ap (present_at points) (eqb-true j q f) ∙ e) (same_test j q)
      at true e j false f = rw (f, ne_eqb q j (λ (z : q ≡ j). eqb-false j q f (sym z))) (nothing (present_at points j))
      at false e j true f = rw (ap (present_at points) (eqb-true j q f) ∙ e) refl
      at false e j false f = rw f (nothing (present_at points j))

      by : (b : Bool) → present_at points q ≡ b → listed_to (length points / 9) q ≡ one b
      by true e = sum_same _ (λ j. one (eqb q j)) (length points / 9) (λ j _. at true e j (eqb j q) refl) ∙ sum_hit q (length points / 9) (present_within points q e)
      by false e = sum_same _ (λ j. 0) (length points / 9) (λ j _. at false e j (eqb j q) refl) ∙ sum_none (length points / 9)
