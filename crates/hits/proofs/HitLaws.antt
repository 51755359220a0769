-- What the hits are: exactly the triangles that are met, each with its place, and each place within the list.
use Rattle.std.specs.Prelude.{◌≡◌, refl, Option, None, Some, Bool, true, false, cond, ◌⊎◌, ℕ, zero, suc, ◌<◌, length, get_or, Float}
use Rattle.std.proofs.Common.{inl, inr, ⊎_elim, eq-or-lt_of_le, le_of_suc-le-suc, not-suc-le-zero, arith}
use mathlib.Core.List.Memᴰ
use mathlib.Core.List.{List, [], ◌∷◌, Memᴰ}
use Rattle.names.specs.Scene.{Scene}
use Rattle.vectors.specs.declared.Ray.{Ray}
use Rattle.triangle.specs.declared.Hit.{Hit}
use Rattle.panels.specs.Panels.{meet_at}
use Rattle.hits.specs.Hits.{Struck, struck, before, insert_of, with_meet, hits_of, places_of}
use Rattle.hits.specs.HitLaws.{Stands}

-- ---- one inserted

pub put_here : (h : Struck) (gs : List Struck) → Memᴰ h (insert_of h gs)
unfolding insert_of
put_here h [] = Memᴰ.head refl
put_here h (g ∷ gs) = by (before h g) (put_here h gs)
  where
    by : (b : Bool) → Memᴰ h (insert_of h gs) → Memᴰ h (cond b (h ∷ g ∷ gs) (g ∷ insert_of h gs))
    by true r = Memᴰ.head refl
    by false r = Memᴰ.tail r

pub put_kept : (h : Struck) {k : Struck} (gs : List Struck) → Memᴰ k gs → Memᴰ k (insert_of h gs)
unfolding insert_of
put_kept h [] m = Memᴰ.tail m
put_kept h {k} (g ∷ gs) m = by (before h g) m (⊎_elim (λ e. inl e) (λ n. inr (put_kept h gs n)) (Memᴰ.cases_cons m))
  where
    by : (b : Bool) → Memᴰ k (g ∷ gs) → (k ≡ g) ⊎ Memᴰ k (insert_of h gs) → Memᴰ k (cond b (h ∷ g ∷ gs) (g ∷ insert_of h gs))
    by true n r = Memᴰ.tail n
    by false n (inl e) = Memᴰ.head e
    by false n (inr r) = Memᴰ.tail r

pub put_only : (h : Struck) {k : Struck} (gs : List Struck) → Memᴰ k (insert_of h gs) → (k ≡ h) ⊎ Memᴰ k gs
unfolding insert_of
put_only h [] m = Memᴰ.cases_cons m
put_only h {k} (g ∷ gs) m = by (before h g) m (λ n. put_only h gs n)
  where
    by : (b : Bool) → Memᴰ k (cond b (h ∷ g ∷ gs) (g ∷ insert_of h gs)) → (Memᴰ k (insert_of h gs) → (k ≡ h) ⊎ Memᴰ k gs)
        → (k ≡ h) ⊎ Memᴰ k (g ∷ gs)
    by true n r = Memᴰ.cases_cons n
    by false n r =
        ⊎_elim (λ e. inr (Memᴰ.head e)) (λ l. ⊎_elim (λ e. inl e) (λ q. inr (Memᴰ.tail q)) (r l))
        (Memᴰ.cases_cons n)

wider : {scene : Scene} {ray : Ray} {n : ℕ} {h : Struck} → Stands scene ray n h → Stands scene ray (suc n) h
wider s = record { within = omega arith; first = s.first; second = s.second; front = s.front; met = s.met }

-- every hit of the list is a triangle that is met
pub hits_only : (scene : Scene) (ray : Ray) (n : ℕ) {h : Struck} → Memᴰ h (hits_of scene ray n) → Stands scene ray n h
unfolding hits_of with_meet
hits_only scene ray zero m = absurd (Memᴰ.not-nil m)
hits_only scene ray (suc n) {h} m = by (meet_at scene ray n) refl m (λ r. hits_only scene ray n r)
  where
    by : (a : Option Hit) → meet_at scene ray n ≡ a → Memᴰ h (with_meet (hits_of scene ray n) n a)
        → (Memᴰ h (hits_of scene ray n) → Stands scene ray n h) → Stands scene ray (suc n) h
    by None e q r = wider (r q)
    by (Some k) e q r =
        ⊎_elim
        (λ (s : h ≡ struck k.t n). let z : h.place ≡ n = rw s in record { within = omega arith; first = k.u; second = k.v; front = k.front; met = rw s e })
        (λ s. wider (r s))
        (put_only (struck k.t n) (hits_of scene ray n) q)

-- and every triangle that is met stands in the list
pub hits_all : (scene : Scene) (ray : Ray) (n i : ℕ) (h : Hit) → i < n → meet_at scene ray i ≡ Some h → Memᴰ (struck h.t i) (hits_of scene ray n)
unfolding hits_of with_meet
hits_all scene ray zero i h p e = absurd (not-suc-le-zero p)
hits_all scene ray (suc n) i h p e =
    ⊎_elim
    (λ (s : i ≡ n). let f : meet_at scene ray n ≡ Some h = rw s at e in rw (s, f) (put_here (struck h.t n) (hits_of scene ray n)))
    (λ (s : i < n). kept (meet_at scene ray n) (hits_all scene ray n i h s e))
    (eq-or-lt_of_le (le_of_suc-le-suc p))
  where
    kept : (a : Option Hit) → Memᴰ (struck h.t i) (hits_of scene ray n) → Memᴰ (struck h.t i) (with_meet (hits_of scene ray n) n a)
    kept None m = m
    kept (Some k) m = put_kept (struck k.t n) (hits_of scene ray n) m

-- ---- places

-- the hit at a place of the list
nth : (hs : List Struck) (j : ℕ) → j < length (places_of hs) → (h : Struck) × Memᴰ h hs × (get_or (places_of hs) j 0 ≡ h.place)
nth [] j p = absurd (not-suc-le-zero p)
nth (h ∷ hs) zero p = (h, Memᴰ.head refl, refl)
nth (h ∷ hs) (suc j) p = let r = nth hs j (le_of_suc-le-suc p) in (r.0, Memᴰ.tail r.1, r.2)

-- every place of the hits of the first n triangles is below n
pub places_below : (scene : Scene) (ray : Ray) (n j : ℕ) → j < length (places_of (hits_of scene ray n)) → get_or (places_of (hits_of scene ray n)) j 0 < n
places_below scene ray n j p = let r = nth (hits_of scene ray n) j p in rw r.2 (hits_only scene ray n r.1).within
