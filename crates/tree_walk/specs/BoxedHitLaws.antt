-- The hits of a scan through boxes are those of the scan without, in their order, but for the triangles whose own padded box is passed over. Assumes nothing.
use Rattle.std.specs.Prelude.{Option, None, Some, ◌≡◌, Bool, ℕ, zero, suc, Float}
use Rattle.std.proofs.Math.Path.{refl}
use Rattle.std.proofs.Common.{sym, ap, ◌∙◌}
use Rattle.std.proofs.Math.Bool.{true, false, cond}
use mathlib.Core.List.{List, [], ◌∷◌, Memᴰ}
use Rattle.names.specs.Scene.{Scene}
use Rattle.vectors.specs.declared.Ray.{Ray}
use Rattle.triangle.specs.declared.Hit.{Hit}
use Rattle.panels.specs.Panels.{own_passed, meet_at}
use Rattle.hits.specs.Hits.{Struck, struck, before, insert_of, with_meet, hits_of}
use Rattle.hits.specs.BeforeLaws.{before_trans}
use Rattle.scan_laws.specs.HitOrder.{Sorted, none, more, hits_sorted, sorted_all}
use Rattle.tree_walk.specs.Boxed.{plain_of, boxed_meet_at, hits_boxed}
use Rattle.tree_walk.specs.BoxedLaws.{boxed_over, boxed_met, boxed_missed}

-- of these hits the ones whose triangle's own padded box is not passed over
unfoldable pub not_passed : List Float → Ray → List Struck → List Struck
not_passed points ray [] = []
not_passed points ray (h ∷ hs) = cond (own_passed points ray h.place) (not_passed points ray hs) (h ∷ not_passed points ray hs)

tail_sorted : {h : Struck} (gs : List Struck) → Sorted (h ∷ gs) → Sorted gs
tail_sorted [] s = none
tail_sorted (g ∷ gs) (more e s) = s

module _ (points : List Float) (ray : Ray) (h : Struck) where
  -- one that is left out, inserted before or after
  left_out : own_passed points ray h.place ≡ true → (gs : List Struck) → not_passed points ray (insert_of h gs) ≡ not_passed points ray gs
  unfolding not_passed insert_of
  left_out e [] = rw e refl
  left_out e (g ∷ gs) = by (before h g) (left_out e gs)
    where
      by : (b : Bool) → not_passed points ray (insert_of h gs) ≡ not_passed points ray gs
          → not_passed points ray (cond b (h ∷ g ∷ gs) (g ∷ insert_of h gs)) ≡ not_passed points ray (g ∷ gs)
      by true r = rw e refl
      by false r = rw r refl

  -- before all of them
  first_of : (gs : List Struck) → ((k : Struck) → Memᴰ k gs → before h k ≡ true) → insert_of h (not_passed points ray gs) ≡ h ∷ not_passed points ray gs
  unfolding not_passed insert_of
  first_of [] f = refl
  first_of (g ∷ gs) f = by (own_passed points ray g.place) (first_of gs (λ k m. f k (Memᴰ.tail m)))
    where
      by : (b : Bool) → insert_of h (not_passed points ray gs) ≡ h ∷ not_passed points ray gs
          → insert_of h (cond b (not_passed points ray gs) (g ∷ not_passed points ray gs)) ≡ h ∷ cond b (not_passed points ray gs) (g ∷ not_passed points ray gs)
      by true r = r
      by false r = rw (f g (Memᴰ.head refl)) refl

  -- one that is not left out
  kept_in : own_passed points ray h.place ≡ false → (gs : List Struck) → Sorted gs → insert_of h (not_passed points ray gs) ≡ not_passed points ray (insert_of h gs)
  unfolding not_passed insert_of
  kept_in e [] s = rw e refl
  kept_in e (g ∷ gs) s = by (before h g) (own_passed points ray g.place) refl refl (kept_in e gs (tail_sorted gs s))
    where
      by : (a b : Bool) → before h g ≡ a → own_passed points ray g.place ≡ b → insert_of h (not_passed points ray gs) ≡ not_passed points ray (insert_of h gs)
          → insert_of h (cond b (not_passed points ray gs) (g ∷ not_passed points ray gs)) ≡ not_passed points ray (cond a (h ∷ g ∷ gs) (g ∷ insert_of h gs))
      by true true p q r = rw (e, q) (first_of gs (λ k m. before_trans h g k p (sorted_all g gs s k m)))
      by true false p q r = rw (e, q, p) refl
      by false true p q r = rw q r
      by false false p q r = rw (q, p, r) refl

pub boxed_hits : (scene : Scene) (ray : Ray) (n : ℕ) → hits_boxed scene ray n ≡ not_passed scene.points ray (hits_of (plain_of scene) ray n)
unfolding hits_of with_meet not_passed
boxed_hits scene ray zero = refl
boxed_hits scene ray (suc n) = by (meet_at (plain_of scene) ray n) (own_passed scene.points ray n) refl refl (boxed_hits scene ray n)
  where
    by : (m : Option Hit) (b : Bool) → meet_at (plain_of scene) ray n ≡ m → own_passed scene.points ray n ≡ b → hits_boxed scene ray n ≡ not_passed scene.points ray (hits_of (plain_of scene) ray n)
        → with_meet (hits_boxed scene ray n) n (boxed_meet_at scene ray n) ≡ not_passed scene.points ray (with_meet (hits_of (plain_of scene) ray n) n m)
    by None b e o r = rw (boxed_missed scene ray n e) r
    by (Some h) true e o r = rw (boxed_over scene ray n o) (r ∙ sym (left_out scene.points ray (struck h.t n) o (hits_of (plain_of scene) ray n)))
    by (Some h) false e o r =
        rw (boxed_met scene ray n o, e) (ap (insert_of (struck h.t n)) r ∙ kept_in scene.points ray (struck h.t n) o (hits_of (plain_of scene) ray n) (hits_sorted (plain_of scene) ray n))
