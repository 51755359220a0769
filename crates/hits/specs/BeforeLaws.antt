-- The order of hits, by distance and then by place: one before another that is before a third is before the third, and where distances are numbers the
-- same of not before. A hit's distance is a number.
use Rattle.std.specs.Prelude.{◌≡◌, refl, Some, Bool, true, false, ◌||◌, ◌&&◌, List, ℕ, ltb, Float}
use Rattle.std.proofs.Common.{sym, ◌∙◌, arith, lt-ltb, ltb-true, ltb-false}
use Rattle.std.proofs.lemmas.Bool.{false≢true}
use Rattle.std.proofs.Math.Bool.{and-eq-true_iff}
use Rattle.std.specs.Float.{nan, inf, fin}
use Rattle.std.specs.Float.Ieee.{lt, eq, le, is_nan}
use Rattle.floats.specs.Choice.{magnitude_of}
use Rattle.floats.specs.OrderLaws.{lt_transitive, lt_negatively_transitive, lt_tells_apart, eq_symmetric, eq_numbers}
use Rattle.vectors.specs.declared.Ray.{Ray}
use Rattle.triangle.specs.Meet.{largest32}
use Rattle.triangle.specs.Laws.{hit_met}
use Rattle.triangle.specs.declared.Hit.{Hit}
use Rattle.panels.specs.Panels.{met_by}
use Rattle.panels.specs.PanelLaws.{by_answered}
use Rattle.hits.specs.Hits.{Struck, before}
use Rattle.hits.specs.Order.{lt_eq, eq_lt, eq_transitive}

-- a hit's distance is a number
pub hit_number : (boxed : Bool) (points : List Float) (uses kinds : List ℕ) (ray : Ray) (i : ℕ) (h : Hit)
    → met_by boxed points uses kinds ray i ≡ Some h → is_nan h.t ≡ false
unfolding is_nan le lt eq magnitude_of
hit_number boxed points uses kinds ray i h e = by h.t (hit_met ray _ h (by_answered boxed points uses kinds ray i h e)).finite
  where
    by : (x : Float) → le (magnitude_of x) largest32 ≡ true → is_nan x ≡ false
    by nan h = absurd (false≢true h)
    by (inf s) h = refl
    by (fin s m d) h = refl

or_cases : {A : Type 0} (a b : Bool) → a || b ≡ true → (a ≡ true → A) → (b ≡ true → A) → A
or_cases true b h f g = f refl
or_cases false b h f g = g h

or_neither : (a b : Bool) → a || b ≡ false → (a ≡ false) × (b ≡ false)
or_neither true b h = absurd (false≢true (sym h))
or_neither false b h = (refl, h)

and_second_not : (a b : Bool) → a ≡ true → a && b ≡ false → b ≡ false
and_second_not true b h k = k
and_second_not false b h k = absurd (false≢true h)

nearer_first : (a b : Bool) → a ≡ true → a || b ≡ true
nearer_first a b h = rw h refl

as_near : (a b c : Bool) → b ≡ true → c ≡ true → a || (b && c) ≡ true
as_near true b c h k = refl
as_near false b c h k = rw (h, k) refl

pub before_trans : (h g k : Struck) → before h g ≡ true → before g k ≡ true → before h k ≡ true
unfolding before
before_trans h g k a b =
    or_cases (lt x y) (eq x y && ltb i j) a
    (λ e. or_cases (lt y z) (eq y z && ltb j l) b
    (λ f. nearer_first (lt x z) _ (lt_transitive x y z e f))
    (λ f. nearer_first (lt x z) _ (lt_eq x y z e ((and-eq-true_iff _ _).0 f).0)))
    (λ e.
    let u = (and-eq-true_iff (eq x y) (ltb i j)).0 e in
    or_cases (lt y z) (eq y z && ltb j l) b
    (λ f. nearer_first (lt x z) _ (eq_lt x y z u.0 f))
    (λ f.
    let v = (and-eq-true_iff (eq y z) (ltb j l)).0 f in
    as_near (lt x z) (eq x z) (ltb i l) (eq_transitive x y z u.0 v.0)
    (lt-ltb i l (omega (arith, ltb-true i j u.1, ltb-true j l v.1)))))
  where
    x : Float
    x = h.distance

    y : Float
    y = g.distance

    z : Float
    z = k.distance

    i : ℕ
    i = h.place

    j : ℕ
    j = g.place

    l : ℕ
    l = k.place

-- the same of not before, past a hit whose distance is a number
pub not_before_trans : (h g k : Struck) → is_nan g.distance ≡ false → before h g ≡ false → before g k ≡ false → before h k ≡ false
unfolding before
not_before_trans h g k n a b = by (lt x z || (eq x z && ltb i l)) refl
  where
    x : Float
    x = h.distance

    y : Float
    y = g.distance

    z : Float
    z = k.distance

    i : ℕ
    i = h.place

    j : ℕ
    j = g.place

    l : ℕ
    l = k.place

    hg : (lt x y ≡ false) × ((eq x y && ltb i j) ≡ false)
    hg = or_neither (lt x y) (eq x y && ltb i j) a

    gk : (lt y z ≡ false) × ((eq y z && ltb j l) ≡ false)
    gk = or_neither (lt y z) (eq y z && ltb j l) b

    -- as near as the third, the first is as near as the second, and the places go down
    nearness : (lt y x ≡ false) → eq x z ≡ true → ltb i l ≡ true → ⊥
    nearness o e s =
        let m : eq x y ≡ true = lt_tells_apart x y (eq_numbers x z e).0 n hg.0 o in
        let f : eq y z ≡ true = eq_transitive y x z (eq_symmetric x y m) e in
        let p = ltb-false i j (and_second_not _ _ m hg.1) in
        let q = ltb-false j l (and_second_not _ _ f gk.1) in
        let r = ltb-true i l s in
        absurd (omega (arith, p, q, r))

    not_above : (c : Bool) → lt y x ≡ c → eq x z ≡ true → lt y x ≡ false
    not_above false e f = e
    not_above true e f = absurd (false≢true (sym gk.0 ∙ lt_eq y x z e f))

    by : (c : Bool) → (lt x z || (eq x z && ltb i l)) ≡ c → c ≡ false
    by false e = refl
    by true e =
        or_cases (lt x z) (eq x z && ltb i l) e
        (λ f. absurd (false≢true (sym (lt_negatively_transitive x y z n hg.0 gk.0) ∙ f)))
        (λ f. let u = (and-eq-true_iff (eq x z) (ltb i l)).0 f in absurd (nearness (not_above (lt y x) refl u.0) u.0 u.1))
