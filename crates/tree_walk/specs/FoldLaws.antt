-- A list of places that has each present place once, and no other: going through it in its order comes to what going through the scene in list order comes to,
-- for any step that does not mind which of two places comes first and that passes absent places by. Assumes nothing.
use Rattle.std.specs.Prelude.{◌≡◌, refl, Bool, true, false, List, [], ◌∷◌, ◌++◌, ℕ, zero, suc, ◌+◌, ◌≤◌, ◌<◌, eqb}
use Rattle.std.proofs.Common.{sym, ap, ◌∙◌, arith, eqb-true}
use Rattle.std.proofs.lemmas.Bool.{eqb-false}
use Rattle.std.proofs.Math.Arith.{lt_of_le-ne}
use Rattle.tree.specs.Tree.{one}
use Rattle.tree.specs.SumLaws.{one_self, one_other}

-- how often p stands in a list
abbrev pub stands_in : ℕ → List ℕ → ℕ
stands_in p [] = 0
stands_in p (x ∷ l) = one (eqb x p) + stands_in p l

pub stands_append : (p : ℕ) (l m : List ℕ) → stands_in p (l ++ m) ≡ stands_in p l + stands_in p m
stands_append p [] m = omega arith
stands_append p (x ∷ l) m = let a = stands_append p l m in omega arith

-- a list in which n stands once, about it
record Split (n : ℕ) (l : List ℕ) : Type 0 where
  before : List ℕ
  after : List ℕ
  whole : l ≡ before ++ (n ∷ after)

split : (n : ℕ) (l : List ℕ) → stands_in n l ≡ 1 → Split n l
split n [] h = absurd (omega arith)
split n (x ∷ l) h = by (eqb x n) refl (split n l)
  where
    by : (b : Bool) → eqb x n ≡ b → (stands_in n l ≡ 1 → Split n l) → Split n (x ∷ l)
    by true e rec = record { before = []; after = l; whole = ap (λ (y : ℕ). y ∷ l) (eqb-true x n e) }
    by false e rec =
        let z : one (eqb x n) ≡ 0 = ap one e in
        let s = rec (omega arith) in
        record { before = x ∷ s.before; after = s.after; whole = ap (λ (m : List ℕ). x ∷ m) s.whole }

without : (p n : ℕ) (l m : List ℕ) → stands_in p (l ++ (n ∷ m)) ≡ one (eqb n p) + stands_in p (l ++ m)
without p n l m = let a = stands_append p l (n ∷ m) in let b = stands_append p l m in omega arith

nowhere : (l : List ℕ) → ((p : ℕ) → stands_in p l ≡ 0) → l ≡ []
nowhere [] h = refl
nowhere (x ∷ l) h = absurd (omega (arith, h x, one_self x))

module _ {S : Type 0} (step : S → ℕ → S) where
  -- the places of a list, one after another
  abbrev pub fold_of : S → List ℕ → S
  fold_of s [] = s
  fold_of s (p ∷ l) = fold_of (step s p) l

  -- the places below n, one after another
  abbrev pub scan_from : S → ℕ → S
  scan_from s zero = s
  scan_from s (suc n) = step (scan_from s n) n

  pub fold_append : (s : S) (l m : List ℕ) → fold_of s (l ++ m) ≡ fold_of (fold_of s l) m
  fold_append s [] m = refl
  fold_append s (p ∷ l) m = fold_append (step s p) l m

  module _ (Good : S → Type 0) (kept : (s : S) (i : ℕ) → Good s → Good (step s i))
      (swap : (s : S) (i j : ℕ) → Good s → (i ≡ j → ⊥) → step (step s i) j ≡ step (step s j) i) where
    fold_kept : (s : S) (l : List ℕ) → Good s → Good (fold_of s l)
    fold_kept s [] g = g
    fold_kept s (p ∷ l) g = fold_kept (step s p) l (kept s p g)

    -- a place that does not stand in the list may come after it
    fold_late : (s : S) (n : ℕ) (l : List ℕ) → Good s → stands_in n l ≡ 0 → fold_of (step s n) l ≡ step (fold_of s l) n
    fold_late s n [] g h = refl
    fold_late s n (p ∷ l) g h =
        ap (λ (x : S). fold_of x l) (swap s n p g (λ (e : n ≡ p). omega (arith, one_self n, ap (λ (q : ℕ). one (eqb q n)) e)))
        ∙ fold_late (step s p) n l (kept s p g) (omega arith)

    pub fold_scan : (present : ℕ → Bool) (s : S) → Good s → (n : ℕ) → ((x : S) (p : ℕ) → p < n → present p ≡ false → step x p ≡ x)
        → (l : List ℕ) → ((p : ℕ) → p < n → stands_in p l ≡ one (present p)) → ((p : ℕ) → n ≤ p → stands_in p l ≡ 0)
        → fold_of s l ≡ scan_from s n
    fold_scan present s g zero a l h o = ap (fold_of s) (nowhere l (λ p. o p (omega arith)))
    fold_scan present s g (suc n) a l h o = by (present n) refl (fold_scan present s g n (λ x p b. a x p (omega arith)))
      where
        by : (b : Bool) → present n ≡ b
            → ((l : List ℕ) → ((p : ℕ) → p < n → stands_in p l ≡ one (present p)) → ((p : ℕ) → n ≤ p → stands_in p l ≡ 0) → fold_of s l ≡ scan_from s n)
            → fold_of s l ≡ step (scan_from s n) n
        by false e rec = rec l (λ p b. h p (omega arith)) others ∙ sym (a (scan_from s n) n (omega arith) e)
          where
            others : (p : ℕ) → n ≤ p → stands_in p l ≡ 0
            others p b = here (eqb n p) refl
              where
                here : (c : Bool) → eqb n p ≡ c → stands_in p l ≡ 0
                here true f = ap (λ (q : ℕ). stands_in q l) (sym (eqb-true n p f)) ∙ h n (omega arith) ∙ ap one e
                here false f = o p (lt_of_le-ne b (eqb-false n p f))
        by true e rec =
            let c = split n l (h n (omega arith) ∙ ap one e) in
            let B = c.before in
            let A = c.after in
            let count : (p : ℕ) → stands_in p l ≡ one (eqb n p) + stands_in p (B ++ A) = λ p. ap (stands_in p) c.whole ∙ without p n B A in
            let gone : stands_in n (B ++ A) ≡ 0 = omega (arith, count n, one_self n, h n (omega arith), ap one e) in
            let after : stands_in n A ≡ 0 = omega (arith, stands_append n B A) in
            ap (fold_of s) c.whole ∙ fold_append s B (n ∷ A)
            ∙ fold_late (fold_of s B) n A (fold_kept s B g) after
            ∙ ap (λ (x : S). step x n) (sym (fold_append s B A)
            ∙ rec (B ++ A)
            (λ p b. omega (arith, count p, one_other n p (λ (q : n ≡ p). omega arith), h p (omega arith)))
            (λ p b. others p b (B ++ A) (count p) gone (eqb n p) refl))
          where
            others : (p : ℕ) → n ≤ p → (m : List ℕ) → stands_in p l ≡ one (eqb n p) + stands_in p m → stands_in n m ≡ 0 → (c : Bool) → eqb n p ≡ c → stands_in p m ≡ 0
            others p b m k gone true f = ap (λ (q : ℕ). stands_in q m) (sym (eqb-true n p f)) ∙ gone
            others p b m k gone false f = omega (arith, o p (lt_of_le-ne b (eqb-false n p f)))
