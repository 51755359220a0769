-- The first hit in the list's order, from a place on. A triangle that is missed, or does not count, changes neither scan, so both go from hit to hit.
use Rattle.std.specs.Prelude.{◌≡◌, refl, Option, None, Some, List, [], ℕ, zero, suc, ◌≤◌, ◌<◌, Float}
use Rattle.std.proofs.Common.{⊎_elim, eq-or-lt_of_le, le_of_suc-le-suc, arith}
use Rattle.names.specs.Scene.{Scene, scene_of}
use Rattle.vectors.specs.declared.Ray.{Ray}
use Rattle.triangle.specs.Missed.{AllMiss}
use Rattle.panels.specs.Panels.{meet_at}
use Rattle.scan.specs.declared.PlacedHit.{PlacedHit}
use Rattle.scan.specs.Nearest.{nearer_of, nearest_to}
use Rattle.hits.specs.Hits.{struck, insert_of, with_meet, hits_of}

-- what is the first hit from place i up to place n: none where all are missed; otherwise a hit, and all before it are missed
abbrev pub FirstOf : Scene → Ray → ℕ → ℕ → Option PlacedHit → Type 0
FirstOf scene ray i n None = AllMiss (meet_at scene ray) i n
FirstOf scene ray i n (Some met) = (i ≤ met.place) × (met.place < n) × AllMiss (meet_at scene ray) i met.place × (meet_at scene ray met.place ≡ Some met.hit)

-- the same of the lists of a scene without a tree
abbrev pub FirstFrom : List Float → List ℕ → List ℕ → Ray → ℕ → ℕ → Option PlacedHit → Type 0
FirstFrom points uses kinds ray i n f = FirstOf (scene_of points uses kinds []) ray i n f

-- ---- what is missed changes nothing

pub nearest_over : (scene : Scene) (ray : Ray) (i n : ℕ) → i ≤ n → AllMiss (meet_at scene ray) i n → nearest_to scene ray n ≡ nearest_to scene ray i
unfolding nearest_to nearer_of
nearest_over scene ray i zero h m = let e : i ≡ 0 = omega arith in rw e refl
nearest_over scene ray i (suc n) h m =
    ⊎_elim
    (λ (e : i ≡ suc n). rw e refl)
    (λ (b : i < suc n). rw (m n (le_of_suc-le-suc b) (omega arith)) (nearest_over scene ray i n (le_of_suc-le-suc b) (λ l p q. m l p (omega arith))))
    (eq-or-lt_of_le h)

pub hits_over : (scene : Scene) (ray : Ray) (i n : ℕ) → i ≤ n → AllMiss (meet_at scene ray) i n → hits_of scene ray n ≡ hits_of scene ray i
unfolding hits_of with_meet
hits_over scene ray i zero h m = let e : i ≡ 0 = omega arith in rw e refl
hits_over scene ray i (suc n) h m =
    ⊎_elim
    (λ (e : i ≡ suc n). rw e refl)
    (λ (b : i < suc n). rw (m n (le_of_suc-le-suc b) (omega arith)) (hits_over scene ray i n (le_of_suc-le-suc b) (λ l p q. m l p (omega arith))))
    (eq-or-lt_of_le h)

-- ---- and the first hit is one step

pub nearest_first : (scene : Scene) (ray : Ray) (i n : ℕ) (met : PlacedHit) → FirstOf scene ray i n (Some met)
    → nearest_to scene ray (suc met.place) ≡ nearer_of (nearest_to scene ray i) met.place (Some met.hit)
unfolding nearest_to
nearest_first scene ray i n met f = rw (f.3, nearest_over scene ray i met.place f.0 f.2) refl

pub hits_first : (scene : Scene) (ray : Ray) (i n : ℕ) (met : PlacedHit) → FirstOf scene ray i n (Some met)
    → hits_of scene ray (suc met.place) ≡ insert_of (struck met.hit.t met.place) (hits_of scene ray i)
unfolding hits_of with_meet
hits_first scene ray i n met f = rw (f.3, hits_over scene ray i met.place f.0 f.2) refl
