-- What a triangle adds does not depend on which came before: two triangles may be asked in either order, for the nearest hit and for the hits, where the distances
-- that are held are numbers. Assumes nothing.
use Rattle.std.specs.Prelude.{Option, None, Some, ◌≡◌, Bool, ◌||◌, ◌&&◌, ℕ, ltb, Float}
use Rattle.std.proofs.Math.Path.{refl}
use Rattle.std.proofs.Common.{sym, ◌∙◌, arith, lt-ltb, le-ltb, ltb-true, ltb-false}
use Rattle.std.proofs.Math.Bool.{true, false, cond, and-eq-true_iff}
use Rattle.std.proofs.lemmas.Bool.{false≢true}
use mathlib.Core.List.{List, [], ◌∷◌}
use Rattle.std.proofs.Math.Arith.{lt_of_le-ne}
use Rattle.std.specs.Float.Ieee.{lt, eq, is_nan}
use Rattle.floats.specs.OrderLaws.{lt_asymmetric, lt_transitive, eq_symmetric, eq_not_lt}
use Rattle.triangle.specs.declared.Hit.{Hit}
use Rattle.hits.specs.Hits.{Struck, struck, before, insert_of, with_meet}
use Rattle.hits.specs.Merge.{Numbers}
use Rattle.hits.specs.Order.{lt_eq, eq_lt, eq_transitive, otherwise_below}
use Rattle.hits.specs.BeforeLaws.{before_trans}
use Rattle.scan.specs.Nearest.{placed, beats, nearer_of}
use Rattle.scan.specs.declared.PlacedHit.{PlacedHit}

-- a meeting's distance is a number, if it is a hit
abbrev pub NumberMeet : Option Hit → Type 0
NumberMeet None = Unit {0}
NumberMeet (Some h) = is_nan h.t ≡ false

-- and what is held
abbrev pub NumberHeld : Option PlacedHit → Type 0
NumberHeld None = Unit {0}
NumberHeld (Some best) = is_nan best.hit.t ≡ false

-- ---- by distance, and at equal distances by an order of places

module _ (prior : ℕ → ℕ → Bool) where
  abbrev by_then : Float → ℕ → Float → ℕ → Bool
  by_then t i s j = lt t s || (eq t s && prior i j)

  either : {A : Type 0} (t : Float) (i : ℕ) (s : Float) (j : ℕ) → by_then t i s j ≡ true → (lt t s ≡ true → A) → (eq t s ≡ true → prior i j ≡ true → A) → A
  either {A} t i s j h f g = by (lt t s) refl h
    where
      by : (b : Bool) → lt t s ≡ b → b || (eq t s && prior i j) ≡ true → A
      by true e k = f e
      by false e k = let p = (and-eq-true_iff (eq t s) (prior i j)).0 k in g p.0 p.1

  first : (a b : Bool) → a ≡ true → a || b ≡ true
  first a b h = rw h refl

  second : (a b c : Bool) → b ≡ true → c ≡ true → a || (b && c) ≡ true
  second true b c h k = refl
  second false b c h k = rw (h, k) refl

  by_trans : ((i j k : ℕ) → prior i j ≡ true → prior j k ≡ true → prior i k ≡ true)
      → (t s r : Float) (i j k : ℕ) → by_then t i s j ≡ true → by_then s j r k ≡ true → by_then t i r k ≡ true
  by_trans chain t s r i j k a b =
      either t i s j a
      (λ e. either s j r k b (λ f. first (lt t r) _ (lt_transitive t s r e f)) (λ f _. first (lt t r) _ (lt_eq t s r e f)))
      (λ e p. either s j r k b (λ f. first (lt t r) _ (eq_lt t s r e f)) (λ f q. second (lt t r) (eq t r) (prior i k) (eq_transitive t s r e f) (chain i j k p q)))

  by_asym : ((i j : ℕ) → prior i j ≡ true → prior j i ≡ false) → (t s : Float) (i j : ℕ) → by_then t i s j ≡ true → by_then s j t i ≡ false
  by_asym one_way t s i j a =
      either t i s j a
      (λ e. rw (lt_asymmetric t s e) (unequal (eq s t) refl e))
      (λ e p. rw (eq_not_lt s t (eq_symmetric t s e), one_way i j p) (nothing (eq s t)))
    where
      nothing : (b : Bool) → b && false ≡ false
      nothing true = refl
      nothing false = refl

      unequal : (b : Bool) → eq s t ≡ b → lt t s ≡ true → b && prior j i ≡ false
      unequal true f e = absurd (false≢true (sym (eq_not_lt t s (eq_symmetric s t f)) ∙ e))
      unequal false f e = refl

  by_total : ((i j : ℕ) → (i ≡ j → ⊥) → prior i j ≡ false → prior j i ≡ true)
      → (t s : Float) (i j : ℕ) → is_nan t ≡ false → is_nan s ≡ false → (i ≡ j → ⊥) → by_then t i s j ≡ false → by_then s j t i ≡ true
  by_total some t s i j n m d h = by (lt t s) (eq t s) refl refl h
    where
      by : (a b : Bool) → lt t s ≡ a → eq t s ≡ b → a || (b && prior i j) ≡ false → by_then s j t i ≡ true
      by true b e f k = absurd (false≢true (sym k))
      by false true e f k = second (lt s t) (eq s t) (prior j i) (eq_symmetric t s f) (some i j d k)
      by false false e f k = first (lt s t) _ (otherwise_below t s n m e f)

-- the higher place first
beats_trans : (t s r : Float) (i j k : ℕ) → beats t i s j ≡ true → beats s j r k ≡ true → beats t i r k ≡ true
unfolding beats
beats_trans = by_trans (λ i j. ltb j i) (λ i j k a b. lt-ltb k i (omega (arith, ltb-true j i a, ltb-true k j b)))

beats_asym : (t s : Float) (i j : ℕ) → beats t i s j ≡ true → beats s j t i ≡ false
unfolding beats
beats_asym = by_asym (λ i j. ltb j i) (λ i j a. le-ltb i j (omega (arith, ltb-true j i a)))

beats_total : (t s : Float) (i j : ℕ) → is_nan t ≡ false → is_nan s ≡ false → (i ≡ j → ⊥) → beats t i s j ≡ false → beats s j t i ≡ true
unfolding beats
beats_total = by_total (λ i j. ltb j i) (λ i j d a. lt-ltb i j (lt_of_le-ne (ltb-false j i a) d))

-- the lower place first
before_asym : (h g : Struck) → before h g ≡ true → before g h ≡ false
unfolding before
before_asym h g = by_asym ltb (λ i j a. le-ltb j i (omega (arith, ltb-true i j a))) h.distance g.distance h.place g.place

before_total : (h g : Struck) → is_nan h.distance ≡ false → is_nan g.distance ≡ false → (h.place ≡ g.place → ⊥) → before h g ≡ false → before g h ≡ true
unfolding before
before_total h g =
    by_total ltb (λ i j d a. lt-ltb j i (lt_of_le-ne (ltb-false i j a) (λ (e : j ≡ i). d (sym e)))) h.distance g.distance h.place g.place

-- ---- the nearest

against : (b : Bool) → (b ≡ true → false ≡ true) → b ≡ false
against true f = sym (f refl)
against false f = refl

-- the better of two, either way round
one_better : (r s : Bool) (x y : Option PlacedHit) → (r ≡ true → s ≡ false) → (r ≡ false → s ≡ true) → cond r y x ≡ cond s x y
one_better true true x y a b = absurd (false≢true (sym (a refl)))
one_better true false x y a b = refl
one_better false true x y a b = refl
one_better false false x y a b = absurd (false≢true (b refl))

-- the best of three: p and q say whether x and y beat z, r whether y beats x, s whether x beats y
best_of : (p q r s : Bool) (x y z : Option PlacedHit) → (r ≡ true → s ≡ false) → (r ≡ false → s ≡ true) → (p ≡ true → q ≡ false → r ≡ false) → (p ≡ false → q ≡ true → s ≡ false)
    → cond p (cond r y x) (cond q y z) ≡ cond q (cond s x y) (cond p x z)
best_of true true r s x y z a b c d = one_better r s x y a b
best_of true false true s x y z a b c d = absurd (false≢true (sym (c refl refl)))
best_of true false false s x y z a b c d = refl
best_of false true r true x y z a b c d = absurd (false≢true (sym (d refl refl)))
best_of false true r false x y z a b c d = refl
best_of false false r s x y z a b c d = refl

nearer_cond : (c : Bool) (x y : Option PlacedHit) (i : ℕ) (m : Option Hit) → nearer_of (cond c x y) i m ≡ cond c (nearer_of x i m) (nearer_of y i m)
nearer_cond true x y i m = refl
nearer_cond false x y i m = refl

pub nearer_swap : (b : Option PlacedHit) (i j : ℕ) (m n : Option Hit) → NumberHeld b → NumberMeet m → NumberMeet n → (i ≡ j → ⊥)
    → nearer_of (nearer_of b i m) j n ≡ nearer_of (nearer_of b j n) i m
unfolding nearer_of
nearer_swap b i j None n hb hm hn d = refl
nearer_swap b i j (Some m) None hb hm hn d = refl
nearer_swap None i j (Some m) (Some n) hb hm hn d =
    one_better (beats n.t j m.t i) (beats m.t i n.t j) (Some (placed i m)) (Some (placed j n)) (beats_asym n.t m.t j i) (beats_total n.t m.t j i hn hm (λ (e : j ≡ i). d (sym e)))
nearer_swap (Some best) i j (Some m) (Some n) hb hm hn d =
    let t = m.t in
    let s = n.t in
    let r = best.hit.t in
    let k = best.place in
    nearer_cond (beats t i r k) (Some (placed i m)) (Some best) j (Some n)
    ∙ best_of (beats t i r k) (beats s j r k) (beats s j t i) (beats t i s j) (Some (placed i m)) (Some (placed j n)) (Some best)
    (beats_asym s t j i)
    (beats_total s t j i hn hm (λ (e : j ≡ i). d (sym e)))
    (λ a c. against (beats s j t i) (λ h. sym c ∙ beats_trans s t r j i k h a))
    (λ a c. against (beats t i s j) (λ h. sym a ∙ beats_trans t s r i j k h c))
    ∙ sym (nearer_cond (beats s j r k) (Some (placed j n)) (Some best) i (Some m))

pub nearer_number : (b : Option PlacedHit) (i : ℕ) (m : Option Hit) → NumberHeld b → NumberMeet m → NumberHeld (nearer_of b i m)
unfolding nearer_of
nearer_number b i None h k = h
nearer_number None i (Some m) h k = k
nearer_number (Some best) i (Some m) h k = by (beats m.t i best.hit.t best.place)
  where
    by : (c : Bool) → NumberHeld (cond c (Some (placed i m)) (Some best))
    by true = k
    by false = h

-- ---- the hits

module _ (x y : Struck) (nx : is_nan x.distance ≡ false) (ny : is_nan y.distance ≡ false) (apart : x.place ≡ y.place → ⊥) where
  insert_swap : (l : List Struck) → Numbers l → insert_of y (insert_of x l) ≡ insert_of x (insert_of y l)
  unfolding insert_of
  insert_swap [] n = by (before x y) (before y x) refl refl
    where
      by : (p q : Bool) → before x y ≡ p → before y x ≡ q → cond q (y ∷ x ∷ []) (x ∷ y ∷ []) ≡ cond p (x ∷ y ∷ []) (y ∷ x ∷ [])
      by true true e f = absurd (false≢true (sym (before_asym x y e) ∙ f))
      by true false e f = refl
      by false true e f = refl
      by false false e f = absurd (false≢true (sym f ∙ before_total x y nx ny apart e))
  insert_swap (h ∷ l) n = by (before x h) (before y h) (before x y) (before y x) refl refl refl refl (insert_swap l n.1)
    where
      by : (a b p q : Bool) → before x h ≡ a → before y h ≡ b → before x y ≡ p → before y x ≡ q → insert_of y (insert_of x l) ≡ insert_of x (insert_of y l)
          → insert_of y (cond a (x ∷ h ∷ l) (h ∷ insert_of x l)) ≡ insert_of x (cond b (y ∷ h ∷ l) (h ∷ insert_of y l))
      by true true true true ea eb ep eq r = absurd (false≢true (sym (before_asym x y ep) ∙ eq))
      by true true true false ea eb ep eq r = rw (eq, eb, ep)
      by true true false true ea eb ep eq r = rw (eq, ep, ea)
      by true true false false ea eb ep eq r = absurd (false≢true (sym eq ∙ before_total x y nx ny apart ep))
      by true false p true ea eb ep eq r = absurd (false≢true (sym eb ∙ before_trans y x h eq ea))
      by true false p false ea eb ep eq r = rw (eq, eb, ea)
      by false true true q ea eb ep eq r = absurd (false≢true (sym ea ∙ before_trans x y h ep eb))
      by false true false q ea eb ep eq r = rw (ep, ea, eb)
      by false false p q ea eb ep eq r = rw (ea, eb, r)

pub hits_swap : (hs : List Struck) (i j : ℕ) (m n : Option Hit) → Numbers hs → NumberMeet m → NumberMeet n → (i ≡ j → ⊥)
    → with_meet (with_meet hs i m) j n ≡ with_meet (with_meet hs j n) i m
unfolding with_meet
hits_swap hs i j None n h hm hn d = refl
hits_swap hs i j (Some m) None h hm hn d = refl
hits_swap hs i j (Some m) (Some n) h hm hn d = insert_swap (struck m.t i) (struck n.t j) hm hn d hs h

insert_numbers : (h : Struck) (gs : List Struck) → is_nan h.distance ≡ false → Numbers gs → Numbers (insert_of h gs)
unfolding insert_of
insert_numbers h [] k n = (k, tt)
insert_numbers h (g ∷ gs) k n = by (before h g) (insert_numbers h gs k n.1)
  where
    by : (b : Bool) → Numbers (insert_of h gs) → Numbers (cond b (h ∷ g ∷ gs) (g ∷ insert_of h gs))
    by true r = (k, n)
    by false r = (n.0, r)

pub hits_numbers : (hs : List Struck) (i : ℕ) (m : Option Hit) → Numbers hs → NumberMeet m → Numbers (with_meet hs i m)
unfolding with_meet
hits_numbers hs i None h k = h
hits_numbers hs i (Some m) h k = insert_numbers (struck m.t i) hs k h
