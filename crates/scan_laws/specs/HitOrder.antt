-- The hits that transmittance goes through stand in order: each comes before the next, by distance and then by place.
use Rattle.std.specs.Prelude.{◌≡◌, refl, Option, None, Some, Bool, true, false, cond, ◌||◌, ◌&&◌, ℕ, zero, suc, ◌<◌, ltb, Float}
use Rattle.std.proofs.Common.{sym, ap₂, ◌∙◌, ⊎_elim, arith, lt-ltb, le-ltb}
use Rattle.std.proofs.lemmas.Bool.{false≢true}
use mathlib.Core.List.Memᴰ
use mathlib.Core.List.{List, [], ◌∷◌, Memᴰ}
use Rattle.std.specs.Float.Ieee.{lt, eq, is_nan}
use Rattle.floats.specs.OrderLaws.{lt_irreflexive}
use Rattle.names.specs.Scene.{Scene}
use Rattle.vectors.specs.declared.Ray.{Ray}
use Rattle.triangle.specs.declared.Hit.{Hit}
use Rattle.triangle.specs.Meet.{hit_of}
use Rattle.panels.specs.Panels.{meet_at}
use Rattle.hits.specs.Hits.{Struck, struck, before, insert_of, with_meet, hits_of}
use Rattle.hits.specs.HitLaws.{Stands}
use Rattle.hits.proofs.HitLaws.{hits_only, hits_all}
use Rattle.hits.specs.Order.{otherwise_below}
use Rattle.hits.specs.BeforeLaws.{hit_number, before_trans}

pub data Sorted : List Struck → Type 0 where
  none : Sorted []
  one : {h : Struck} → Sorted (h ∷ [])
  more : {h g : Struck} {gs : List Struck} → before h g ≡ true → Sorted (g ∷ gs) → Sorted (h ∷ g ∷ gs)

-- a hit goes in by order, where of it and each of the others one comes before the other
put : (h : Struck) (gs : List Struck) → ((g : Struck) → Memᴰ g gs → before h g ≡ false → before g h ≡ true) → Sorted gs → Sorted (insert_of h gs)
unfolding insert_of
put h [] t none = one
put h (g ∷ []) t one = by (before h g) refl
  where
    by : (b : Bool) → before h g ≡ b → Sorted (cond b (h ∷ g ∷ []) (g ∷ h ∷ []))
    by true e = more e one
    by false e = more (t g (Memᴰ.head refl) e) one
put h (g ∷ k ∷ gs) t (more e s) = by (before h g) (before h k) refl refl (put h (k ∷ gs) (λ x m. t x (Memᴰ.tail m)) s)
  where
    by : (b c : Bool) → before h g ≡ b → before h k ≡ c → Sorted (cond c (h ∷ k ∷ gs) (k ∷ insert_of h gs))
        → Sorted (cond b (h ∷ g ∷ k ∷ gs) (g ∷ cond c (h ∷ k ∷ gs) (k ∷ insert_of h gs)))
    by true c p q r = more p (more e s)
    by false true p q r = more (t g (Memᴰ.head refl) p) r
    by false false p q r = more e r

-- the hit at a new place n, against one at a lower place
either : (t d : Float) (n p : ℕ) → is_nan t ≡ false → is_nan d ≡ false → p < n → before (struck t n) (struck d p) ≡ false
    → before (struck d p) (struck t n) ≡ true
unfolding before
either t d n p a b l e = by (lt d t) (eq d t) (lt t d) refl refl refl
  where
    by : (x y z : Bool) → lt d t ≡ x → eq d t ≡ y → lt t d ≡ z → x || (y && ltb p n) ≡ true
    by true y z f g k = refl
    by false true z f g k = lt-ltb p n l
    by false false true f g k = absurd (false≢true (sym e ∙ rw k refl))
    by false false false f g k = absurd (false≢true (sym k ∙ otherwise_below d t b a f g))

pub hits_sorted : (scene : Scene) (ray : Ray) (n : ℕ) → Sorted (hits_of scene ray n)
unfolding hits_of with_meet
hits_sorted scene ray zero = none
hits_sorted scene ray (suc n) = by (meet_at scene ray n) refl (hits_sorted scene ray n)
  where
    by : (m : Option Hit) → meet_at scene ray n ≡ m → Sorted (hits_of scene ray n) → Sorted (with_meet (hits_of scene ray n) n m)
    by None e s = s
    by (Some k) e s =
        put (struck k.t n) (hits_of scene ray n)
        (λ g m f.
        let h = hits_only scene ray n m in
        either k.t g.distance n g.place (hit_number _ _ _ _ ray _ k e) (hit_number _ _ _ _ ray _ (hit_of g.distance h.first h.second h.front) h.met) h.within f)
        s

-- ---- and so each comes before all that follow

pub sorted_all : (h : Struck) (gs : List Struck) → Sorted (h ∷ gs) → (k : Struck) → Memᴰ k gs → before h k ≡ true
sorted_all h [] one k m = absurd (Memᴰ.not-nil m)
sorted_all h (g ∷ gs) (more e s) k m =
    ⊎_elim (λ (f : k ≡ g). rw f e) (λ f. before_trans h g k e (sorted_all g gs s k f)) (Memᴰ.cases_cons m)

-- ---- one list: what is sorted and holds the same hits is the same

tail_sorted : {h : Struck} {gs : List Struck} → Sorted (h ∷ gs) → Sorted gs
tail_sorted one = none
tail_sorted (more e s) = s

not_itself : (h : Struck) → before h h ≡ true → ⊥
unfolding before
not_itself h e = by (eq h.distance h.distance) (rw (lt_irreflexive h.distance, le-ltb h.place h.place (omega arith)) at e)
  where
    by : (b : Bool) → b && false ≡ true → ⊥
    by true f = false≢true f
    by false f = false≢true f

sorted_once : (gs hs : List Struck) → Sorted gs → Sorted hs
    → ((k : Struck) → Memᴰ k gs → Memᴰ k hs) → ((k : Struck) → Memᴰ k hs → Memᴰ k gs) → gs ≡ hs
sorted_once [] [] s t f b = refl
sorted_once [] (h ∷ hs) s t f b = absurd (Memᴰ.not-nil (b h (Memᴰ.head refl)))
sorted_once (g ∷ gs) [] s t f b = absurd (Memᴰ.not-nil (f g (Memᴰ.head refl)))
sorted_once (g ∷ gs) (h ∷ hs) s t f b =
    ap₂ (λ (x : Struck) (l : List Struck). x ∷ l) heads
    (sorted_once gs hs (tail_sorted s) (tail_sorted t)
    (λ k m. ⊎_elim (λ (e : k ≡ h). absurd (not_itself g (rw (e ∙ sym heads) at (after_g k m)))) (λ r. r) (Memᴰ.cases_cons (f k (Memᴰ.tail m))))
    (λ k m. ⊎_elim (λ (e : k ≡ g). absurd (not_itself h (rw (e ∙ heads) at (after_h k m)))) (λ r. r) (Memᴰ.cases_cons (b k (Memᴰ.tail m)))))
  where
    after_g : (k : Struck) → Memᴰ k gs → before g k ≡ true
    after_g k m = sorted_all g gs s k m

    after_h : (k : Struck) → Memᴰ k hs → before h k ≡ true
    after_h k m = sorted_all h hs t k m

    heads : g ≡ h
    heads =
        ⊎_elim (λ (e : g ≡ h). e)
        (λ p. ⊎_elim (λ (e : h ≡ g). sym e)
        (λ q. absurd (not_itself g (before_trans g h g (after_g h q) (after_h g p))))
        (Memᴰ.cases_cons (b h (Memᴰ.head refl))))
        (Memᴰ.cases_cons (f g (Memᴰ.head refl)))

-- the hits are the one sorted list of the triangles that are met
pub hits_are : (scene : Scene) (ray : Ray) (n : ℕ) (hs : List Struck) → Sorted hs → ((k : Struck) → Memᴰ k hs → Stands scene ray n k)
    → ((k : Struck) → Stands scene ray n k → Memᴰ k hs) → hits_of scene ray n ≡ hs
hits_are scene ray n hs s f b =
    sorted_once (hits_of scene ray n) hs (hits_sorted scene ray n) s
    (λ k m. b k (hits_only scene ray n m))
    (λ k m. let e = f k m in hits_all scene ray n k.place (hit_of k.distance e.first e.second e.front) e.within e.met)
