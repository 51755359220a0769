-- The Rust's own scan for the nearest hit, the backs of panels left out, which the Rust has not: each hit's distance becomes the longest of what follows, and a later hit takes the place of what is held
-- (raytracer.rs, trace_nearest). It answers what `nearest_of` answers, which tests every triangle over the whole ray and keeps the better.
use Rattle.std.specs.Prelude.{◌≡◌, Option, None, Some, Bool, true, false, cond, ◌&&◌, length, Float}
use Rattle.std.proofs.Math.Path.{refl}
use Rattle.std.proofs.Common.{sym, ◌∙◌, arith, lt-ltb}
use Rattle.std.proofs.lemmas.Bool.{false≢true}
use Prim.Native.Nat.{ℕ, zero, suc, ◌<◌}
use Rattle.std.specs.Float.{binary32}
use Rattle.std.specs.Float.Ieee.{add, lt, eq, le, is_nan}
use Rattle.floats.specs.Choice.{magnitude_of}
use Rattle.floats.specs.OrderLaws.{lt_asymmetric, eq_symmetric, eq_not_lt, lt_numbers, not_lt_le, le_lt_transitive}
use Rattle.names.specs.Bits.{zero32, one32}
use Rattle.names.specs.Numbers.{flat_limit}
use Rattle.names.specs.Scene.{Scene}
use Rattle.vectors.specs.declared.Ray.{Ray}
use Rattle.vectors.specs.declared.Triangle.{Triangle}
use Rattle.triangle.specs.Meet.{hit_of, largest32, absent_of, solved_of, front_of, judged_of, meet_of}
use Rattle.triangle.specs.Places.{triangle_at}
use Rattle.triangle.specs.Laws.{hit_met}
use Rattle.triangle.specs.declared.Hit.{Hit}
use Rattle.panels.specs.Panels.{kind_at, counts, counted_of, met_at, own_passed, met_by, meet_at}
use Rattle.panels.specs.PanelLaws.{by_answered}
use Rattle.scan.specs.Nearest.{placed, beats, nearer_of, nearest_to, nearest_of}
use Rattle.scan.specs.declared.PlacedHit.{PlacedHit}
use Rattle.hits.specs.Order.{otherwise_below}
use Rattle.hits.specs.BeforeLaws.{hit_number}

-- the ray up to a distance
abbrev pub narrowed : Ray → Float → Ray
narrowed ray d = record { origin = ray.origin; direction = ray.direction; shortest = ray.shortest; longest = d }

-- what the scan holds: the distance that a further hit may have at most, and the last hit
pub record Held : Type 0 where
  pub limit : Float
  pub hit : Option PlacedHit

unfoldable pub taken : Held → ℕ → Option Hit → Held
taken b i None = b
taken b i (Some h) = record { limit = h.t; hit = Some (placed i h) }

unfoldable pub narrowing_to : Scene → Ray → ℕ → Held
narrowing_to scene ray zero = record { limit = ray.longest; hit = None }
narrowing_to scene ray (suc i) =
    taken (narrowing_to scene ray i) i (meet_at scene (narrowed ray (narrowing_to scene ray i).limit) i)

-- ---- the test of a narrowed ray

-- beyond s is a miss
abbrev unless_beyond : Float → Option Hit → Option Hit
unless_beyond s None = None
unless_beyond s (Some h) = cond (lt s h.t) None (Some h)

-- the tests before, which do not see the longest distance
first_tests : (s : Float) (a b c d e f g : Bool) (m n : Option Hit) → m ≡ unless_beyond s n
    → cond a None (cond b None (cond c (cond d (cond e None (cond f None (cond g None m))) None) None))
    ≡ unless_beyond s (cond a None (cond b None (cond c (cond d (cond e None (cond f None (cond g None n))) None) None)))
first_tests s true b c d e f g m n h = refl
first_tests s false true c d e f g m n h = refl
first_tests s false false false d e f g m n h = refl
first_tests s false false true false e f g m n h = refl
first_tests s false false true true true f g m n h = refl
first_tests s false false true true false true g m n h = refl
first_tests s false false true true false false true m n h = refl
first_tests s false false true true false false false m n h = h

-- the last two tests, where s is no longer than d
last_tests : (s d : Float) (k : Hit) → is_nan s ≡ false → lt d s ≡ false
    → cond (lt s k.t) None (cond (le (magnitude_of k.t) largest32) (Some k) None)
    ≡ unless_beyond s (cond (lt d k.t) None (cond (le (magnitude_of k.t) largest32) (Some k) None))
last_tests s d k n h = by (lt d k.t) (lt s k.t) (le (magnitude_of k.t) largest32) refl refl
  where
    by : (a b c : Bool) → lt d k.t ≡ a → lt s k.t ≡ b → cond b None (cond c (Some k) None) ≡ unless_beyond s (cond a None (cond c (Some k) None))
    by true true c e f = refl
    by true false c e f =
        absurd (false≢true (sym f ∙ le_lt_transitive s d k.t (not_lt_le s d n (lt_numbers d k.t e).0 h) e))
    by false true true e f = rw f refl
    by false true false e f = refl
    by false false true e f = rw f refl
    by false false false e f = refl

narrowed_test : (ray : Ray) (triangle : Triangle) (s : Float) → is_nan s ≡ false → lt ray.longest s ≡ false
    → meet_of (narrowed ray s) triangle ≡ unless_beyond s (meet_of ray triangle)
unfolding meet_of judged_of solved_of
narrowed_test ray triangle s n h =
    let x = solved_of ray triangle in
    first_tests s (absent_of triangle) (le (magnitude_of x.det) flat_limit) (le zero32 x.u) (le x.u one32) (lt x.v zero32)
    (lt one32 (add binary32 x.u x.v)) (lt x.t ray.shortest) _ _
    (last_tests s ray.longest (hit_of x.t x.u x.v (front_of x.det)) n h)

-- whether a triangle counts does not see the longest distance
counted_beyond : (kind : ℕ) (s : Float) (m : Option Hit) → counted_of kind (unless_beyond s m) ≡ unless_beyond s (counted_of kind m)
unfolding counted_of
counted_beyond kind s None = refl
counted_beyond kind s (Some h) = by (lt s h.t) (counts kind h.front) refl refl
  where
    by : (a b : Bool) → lt s h.t ≡ a → counts kind h.front ≡ b
        → counted_of kind (cond a None (Some h)) ≡ unless_beyond s (cond b (Some h) None)
    by true true e f = rw e refl
    by true false e f = refl
    by false true e f = rw (f, e) refl
    by false false e f = rw f refl

narrowed_met : (scene : Scene) (ray : Ray) (i : ℕ) (s : Float) → is_nan s ≡ false → lt ray.longest s ≡ false
    → meet_at scene (narrowed ray s) i ≡ unless_beyond s (meet_at scene ray i)
unfolding met_by met_at own_passed
narrowed_met scene ray i s n h = rw (narrowed_test ray (triangle_at scene.points i) s n h, counted_beyond (kind_at scene.uses scene.kinds i) s (meet_of ray (triangle_at scene.points i)))
    (by (scene.boxed && own_passed scene.points ray i) (counted_of (kind_at scene.uses scene.kinds i) (meet_of ray (triangle_at scene.points i))))
  where
    by : (b : Bool) (m : Option Hit) → cond b None (unless_beyond s m) ≡ unless_beyond s (cond b None m)
    by true m = refl
    by false m = refl

-- ---- the two scans

-- who beats whom, by what is known of the distances
beats_nearer : (t s : Float) (n i : ℕ) → lt t s ≡ true → beats t n s i ≡ true
unfolding beats
beats_nearer t s n i g = rw g refl

beats_equal : (t s : Float) (n i : ℕ) → i < n → lt t s ≡ false → eq t s ≡ true → beats t n s i ≡ true
unfolding beats
beats_equal t s n i h g k = rw (g, k) (lt-ltb i n h)

beats_not : (t s : Float) (n i : ℕ) → lt t s ≡ false → eq t s ≡ false → beats t n s i ≡ false
unfolding beats
beats_not t s n i g k = rw (g, k) refl

module _ (scene : Scene) (ray : Ray) where
  -- what is held is a hit below n, and the limit is its distance
  pub record Holding (n i : ℕ) (t : Float) (b : Held) : Type 0 where
    pub below : i < n
    pub number : is_nan t ≡ false
    pub reached : lt ray.longest t ≡ false
    pub limit : b.limit ≡ t

  abbrev Agrees : ℕ → Held → Option PlacedHit → Type 0
  Agrees n b None = (b.hit ≡ None) × (b.limit ≡ ray.longest)
  Agrees n b (Some best) = (b.hit ≡ Some best) × Holding n best.place best.hit.t b

  holding : (n : ℕ) (h : Hit) → meet_at scene ray n ≡ Some h → Holding (suc n) n h.t (record { limit = h.t; hit = Some (placed n h) })
  holding n h e =
      record { below = omega arith; number = hit_number _ _ _ _ ray _ h e; reached = (hit_met ray _ h (by_answered _ _ _ _ ray n h e)).not_above; limit = refl }

  step : (n : ℕ) (b : Held) (c : Option PlacedHit) (m : Option Hit) → meet_at scene ray n ≡ m → Agrees n b c
      → Agrees (suc n) (taken b n (meet_at scene (narrowed ray b.limit) n)) (nearer_of c n m)
  unfolding taken nearer_of
  step n b None None e a = let f : meet_at scene (narrowed ray b.limit) n ≡ None = rw a.1 e in rw f a
  step n b None (Some h) e a = let f : meet_at scene (narrowed ray b.limit) n ≡ Some h = rw a.1 e in rw f (refl, holding n h e)
  step n b (Some best) None e a =
      let h = a.1 in
      let f : meet_at scene (narrowed ray b.limit) n ≡ None = rw (h.limit, narrowed_met scene ray n best.hit.t h.number h.reached, e) refl in
      rw f (a.0, record { below = omega (arith, h.below); number = h.number; reached = h.reached; limit = h.limit })
  step n b (Some best) (Some k) e a = by (lt s t) (lt t s) (eq t s) refl refl refl
    where
      s : Float
      s = best.hit.t

      t : Float
      t = k.t

      i : ℕ
      i = best.place

      h : Holding n i s b
      h = a.1

      met : meet_at scene (narrowed ray b.limit) n ≡ cond (lt s t) None (Some k)
      met = rw (h.limit, narrowed_met scene ray n s h.number h.reached, e) refl

      kept : Holding (suc n) i s b
      kept = record { below = omega (arith, h.below); number = h.number; reached = h.reached; limit = h.limit }

      nearer : beats t n s i ≡ true → lt s t ≡ false
          → Agrees (suc n) (taken b n (meet_at scene (narrowed ray b.limit) n)) (cond (beats t n s i) (Some (placed n k)) (Some best))
      nearer g f = rw (g, met, f) (refl, holding n k e)

      farther : beats t n s i ≡ false → lt s t ≡ true
          → Agrees (suc n) (taken b n (meet_at scene (narrowed ray b.limit) n)) (cond (beats t n s i) (Some (placed n k)) (Some best))
      farther g f = rw (g, met, f) (a.0, kept)

      by : (x y z : Bool) → lt s t ≡ x → lt t s ≡ y → eq t s ≡ z
          → Agrees (suc n) (taken b n (meet_at scene (narrowed ray b.limit) n)) (cond (beats t n s i) (Some (placed n k)) (Some best))
      by x true z f g l = nearer (beats_nearer t s n i g) (lt_asymmetric t s g)
      by x false true f g l = nearer (beats_equal t s n i h.below g l) (eq_not_lt s t (eq_symmetric t s l))
      by x false false f g l = farther (beats_not t s n i g l) (otherwise_below t s (hit_number _ _ _ _ ray _ k e) h.number g l)

  agrees : (n : ℕ) → Agrees n (narrowing_to scene ray n) (nearest_to scene ray n)
  unfolding narrowing_to nearest_to
  agrees zero = (refl, refl)
  agrees (suc n) = step n (narrowing_to scene ray n) (nearest_to scene ray n) (meet_at scene ray n) refl (agrees n)

  same_hit : (n : ℕ) (b : Held) (c : Option PlacedHit) → Agrees n b c → b.hit ≡ c
  same_hit n b None a = a.0
  same_hit n b (Some best) a = a.0

  -- the Rust's scan answers the nearest hit
  pub narrowing_is_nearest : (narrowing_to scene ray (length scene.uses)).hit ≡ nearest_of scene ray
  unfolding nearest_of
  narrowing_is_nearest = same_hit (length scene.uses) _ _ (agrees (length scene.uses))
