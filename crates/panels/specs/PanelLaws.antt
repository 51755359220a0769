-- What it means that a triangle counts: what is met is what the test answers, but for the back of a panel, which is a miss.
use Rattle.std.specs.Prelude.{◌≡◌, Option, None, Some, Bool, not, ◌&&◌, ◌||◌, ◌↔◌, List, ℕ, eqb, Float}
use Rattle.std.proofs.Math.Path.{refl}
use Rattle.std.proofs.Common.{sym, ◌∙◌}
use Rattle.std.proofs.Math.Bool.{true, false, cond}
use Rattle.std.proofs.lemmas.Bool.{false≢true}
use borrow.Author.Tests.{eq-eqb, ne_eqb, eqb-true}
use Rattle.names.specs.Numbers.{opaque_kind, panel_kind}
use Rattle.vectors.specs.declared.Ray.{Ray}
use Rattle.triangle.specs.Meet.{meet_of}
use Rattle.triangle.specs.Missed.{AllMiss, Missed}
use Rattle.triangle.specs.Places.{triangle_at}
use Rattle.triangle.specs.declared.Hit.{Hit}
use Rattle.panels.specs.Panels.{kind_at, counts, stops_light, counted_of, met_at, own_passed, met_by}

-- ---- kind and side

-- a triangle counts exactly when, if it is a panel, its front is met
pub counts_exactly : (kind : ℕ) (front : Bool) → (counts kind front ≡ true) ↔ (kind ≡ panel_kind → front ≡ true)
unfolding counts
counts_exactly kind true = (λ e k. refl, λ f. refl)
counts_exactly kind false = (λ e k. absurd (false≢true (sym (rw (eq-eqb kind panel_kind k) refl) ∙ e)), λ f. by (eqb kind panel_kind) refl f)
  where
    by : (b : Bool) → eqb kind panel_kind ≡ b → (kind ≡ panel_kind → false ≡ true) → not b ≡ true
    by true e f = absurd (false≢true (f (eqb-true kind panel_kind e)))
    by false e f = refl

-- kinds 0 and 2 stop light, and no other
pub stops_exactly : (kind : ℕ) → (stops_light kind ≡ false) ↔ ((kind ≡ opaque_kind → ⊥) × (kind ≡ panel_kind → ⊥))
unfolding stops_light
stops_exactly kind = (
  λ e. (λ k. false≢true (sym e ∙ rw (eq-eqb kind opaque_kind k) refl), λ k. by (eqb kind opaque_kind) (rw (eq-eqb kind panel_kind k) at e)),
  λ f. rw (ne_eqb kind opaque_kind f.0, ne_eqb kind panel_kind f.1) refl,
)
  where
    by : (b : Bool) → b || true ≡ false → ⊥
    by true e = false≢true (sym e)
    by false e = false≢true (sym e)

-- ---- what is met

module _ (points : List Float) (uses kinds : List ℕ) (ray : Ray) (i : ℕ) where
  -- what the test misses is missed
  pub missed_at : meet_of ray (triangle_at points i) ≡ None → met_at points uses kinds ray i ≡ None
  unfolding met_at counted_of
  missed_at e = rw e refl

  -- a hit is met where its triangle counts, and missed where it does not
  pub counted_met : (h : Hit) → meet_of ray (triangle_at points i) ≡ Some h → counts (kind_at uses kinds i) h.front ≡ true → met_at points uses kinds ray i ≡ Some h
  unfolding met_at counted_of
  counted_met h e c = rw (e, c) refl

  pub uncounted_missed : (h : Hit) → meet_of ray (triangle_at points i) ≡ Some h → counts (kind_at uses kinds i) h.front ≡ false → met_at points uses kinds ray i ≡ None
  unfolding met_at counted_of
  uncounted_missed h e c = rw (e, c) refl

  -- the back of a panel is a miss
  pub panel_back : (h : Hit) → kind_at uses kinds i ≡ panel_kind → meet_of ray (triangle_at points i) ≡ Some h → h.front ≡ false → met_at points uses kinds ray i ≡ None
  unfolding met_at counted_of counts
  panel_back h k e f = rw (e, f, eq-eqb (kind_at uses kinds i) panel_kind k) refl

  -- the front of every triangle is met
  pub front_met : (h : Hit) → meet_of ray (triangle_at points i) ≡ Some h → h.front ≡ true → met_at points uses kinds ray i ≡ Some h
  unfolding met_at counted_of counts
  front_met h e f = rw (e, f) refl

  -- and of any other kind both sides
  pub plain_met : (kind_at uses kinds i ≡ panel_kind → ⊥) → met_at points uses kinds ray i ≡ meet_of ray (triangle_at points i)
  unfolding met_at counted_of
  plain_met n = by (meet_of ray (triangle_at points i))
    where
      by : (m : Option Hit) → counted_of (kind_at uses kinds i) m ≡ m
      by None = refl
      by (Some h) = rw ((counts_exactly (kind_at uses kinds i) h.front).1 (λ k. absurd (n k))) refl

  -- a hit that is met is one that the test answers, and its triangle counts
  pub met_answered : (h : Hit) → met_at points uses kinds ray i ≡ Some h → (meet_of ray (triangle_at points i) ≡ Some h) × (counts (kind_at uses kinds i) h.front ≡ true)
  unfolding met_at counted_of
  met_answered h e = by (meet_of ray (triangle_at points i)) refl e
    where
      by : (m : Option Hit) → meet_of ray (triangle_at points i) ≡ m → counted_of (kind_at uses kinds i) m ≡ Some h
          → (meet_of ray (triangle_at points i) ≡ Some h) × (counts (kind_at uses kinds i) h.front ≡ true)
      by None f g = absurd (false≢true cc)
      by (Some k) f g = chosen (counts (kind_at uses kinds i) k.front) refl g
        where
          chosen : (c : Bool) → counts (kind_at uses kinds i) k.front ≡ c → cond c (Some k) None ≡ Some h
              → (meet_of ray (triangle_at points i) ≡ Some h) × (counts (kind_at uses kinds i) h.front ≡ true)
          chosen false p q = absurd (false≢true cc)
          chosen true p q = let z : k ≡ h = cc in (f ∙ q, rw z at p)

  -- exactly so: met are the test's hits, but for the backs of panels
  pub met_exactly : (h : Hit) → (met_at points uses kinds ray i ≡ Some h) ↔ ((meet_of ray (triangle_at points i) ≡ Some h) × (kind_at uses kinds i ≡ panel_kind → h.front ≡ true))
  met_exactly h = (
    λ e. let a = met_answered h e in (a.0, (counts_exactly (kind_at uses kinds i) h.front).0 a.1),
    λ f. counted_met h f.0 ((counts_exactly (kind_at uses kinds i) h.front).1 f.1),
  )

-- ---- with a box tree or without

module _ (boxed : Bool) (points : List Float) (uses kinds : List ℕ) (ray : Ray) (i : ℕ) where
  -- what is missed without one is missed with one
  pub by_missed : met_at points uses kinds ray i ≡ None → met_by boxed points uses kinds ray i ≡ None
  unfolding met_by
  by_missed e = either (boxed && own_passed points ray i) _ e
    where
      either : (b : Bool) (m : Option Hit) → m ≡ None → cond b None m ≡ None
      either true m e = refl
      either false m e = e

  -- a hit with one is that hit without one, of a triangle whose own padded box is not passed over
  pub by_met : (h : Hit) → met_by boxed points uses kinds ray i ≡ Some h → (met_at points uses kinds ray i ≡ Some h) × (boxed && own_passed points ray i ≡ false)
  unfolding met_by
  by_met h e = by (boxed && own_passed points ray i) refl e
    where
      by : (b : Bool) → boxed && own_passed points ray i ≡ b → cond b None (met_at points uses kinds ray i) ≡ Some h
          → (met_at points uses kinds ray i ≡ Some h) × (boxed && own_passed points ray i ≡ false)
      by true f g = absurd (false≢true cc)
      by false f g = (g, f)

  -- and one that the test answers
  pub by_answered : (h : Hit) → met_by boxed points uses kinds ray i ≡ Some h → meet_of ray (triangle_at points i) ≡ Some h
  by_answered h e = (met_answered points uses kinds ray i h (by_met h e).0).0

-- without one all is as the test answers it
pub by_list : (points : List Float) (uses kinds : List ℕ) (ray : Ray) (i : ℕ) → met_by false points uses kinds ray i ≡ met_at points uses kinds ray i
unfolding met_by
by_list points uses kinds ray i = refl

-- what a search passes over is not met
pub all_missed_at : (points : List Float) (uses kinds : List ℕ) (ray : Ray) (i j : ℕ) → Missed points ray i j → AllMiss (met_at points uses kinds ray) i j
all_missed_at points uses kinds ray i j m l p q = missed_at points uses kinds ray l (m l p q)

pub all_missed_by : (boxed : Bool) (points : List Float) (uses kinds : List ℕ) (ray : Ray) (i j : ℕ) → Missed points ray i j → AllMiss (met_by boxed points uses kinds ray) i j
all_missed_by boxed points uses kinds ray i j m l p q = by_missed boxed points uses kinds ray l (missed_at points uses kinds ray l (m l p q))
