-- A span of the order, as the code goes through it: from place k up to the span's end. What the search over the turned points passes over adds nothing. Assumes nothing.
use Rattle.std.specs.Prelude.{Option, None, Some}
use mathlib.Core.Path.{◌≡◌, refl, sym, ap, ◌∙◌}
use mathlib.Core.Bool.{Bool, true, false, false≢true}
use mathlib.Core.List.{List, [], ◌∷◌, ◌++◌}
use mathlib.Core.Logic.{⊎_elim}
use Prim.Native.Nat.{ℕ, zero, suc, ◌+◌, ◌*◌, ◌-◌, ◌≤◌, ◌<◌}
use native.Mathlib.Nat.{eq-or-lt_of_le}
use native.Mathlib.Omega.{arith}
use lib.ListN.{length, get_or}
use lib.Ieee.{Float}
use Rattle.names.specs.Scene.{other_kind}
use Rattle.names.specs.SolidLaws.{none_other}
use Rattle.vectors.specs.declared.Ray.{Ray}
use Rattle.triangle.specs.Meet.{meet_of}
use Rattle.triangle.specs.Missed.{AllMiss, Missed, missed_more}
use Rattle.triangle.specs.declared.Hit.{Hit}
use Rattle.panels.specs.Panels.{kind_at, stops_light}
use Rattle.panels.specs.PanelLaws.{missed_at, by_missed}
use Rattle.hits.specs.Hits.{Struck, struck}
use Rattle.scan.specs.Nearest.{nearer_of}
use Rattle.scan.specs.declared.PlacedHit.{PlacedHit}
use Rattle.tree_walk.specs.Boxed.{boxed_at, nearest_step}
use Rattle.tree_walk.specs.FoldLaws.{fold_of, fold_append}
use Rattle.tree_walk.specs.ListedLaws.{nearer_missed}
use Rattle.tree_walk.proofs.CollectLaws.{collect_missed}
use Rattle.tree_walk.specs.Kept.{RoomFor}
use Rattle.tree_walk.specs.Spans.{span_places, SpanFits, SpanFirst}
use Rattle.tree_walk.specs.Collect.{Collected, dark, came, collect_meet, collect_step}

-- ---- what is missed adds nothing

module _ (points : List Float) (uses kinds : List ℕ) (ray : Ray) (p : ℕ) (e : boxed_at points uses kinds ray p ≡ None) where
  pub nearest_none : (held : Option PlacedHit) → nearest_step points uses kinds ray held p ≡ held
  nearest_none held = nearer_missed held p (boxed_at points uses kinds ray p) e

  pub collect_none : (held : Collected) → collect_step points uses kinds ray held p ≡ held
  collect_none held = collect_missed uses kinds held p (boxed_at points uses kinds ray p) e

-- after one that stops light nothing is added
pub dark_stays : (points : List Float) (uses kinds : List ℕ) (ray : Ray) (order : List ℕ) (first a b : ℕ) (start : Collected) → a ≤ b
    → dark ≡ fold_of (collect_step points uses kinds ray) start (span_places order first a) → dark ≡ fold_of (collect_step points uses kinds ray) start (span_places order first b)
unfolding collect_meet
dark_stays points uses kinds ray order first a zero start h d = let z : a ≡ 0 = omega arith in rw z at d
dark_stays points uses kinds ray order first a (suc b) start h d =
    ⊎_elim
    (λ (z : a ≡ suc b). rw z at d)
    (λ (l : a < suc b).
    ap (λ (c : Collected). collect_step points uses kinds ray c (get_or order (first + b) 0)) (dark_stays points uses kinds ray order first a b start (omega arith) d)
    ∙ sym (fold_append (collect_step points uses kinds ray) start (span_places order first b) (get_or order (first + b) 0 ∷ [])))
    (eq-or-lt_of_le h)

-- where a hit does not stop light, there is a material that is not opaque
pub clear_other : (uses kinds : List ℕ) (p : ℕ) → get_or uses p 0 < length kinds → stops_light (kind_at uses kinds p) ≡ false → other_kind kinds ≡ true
unfolding stops_light
clear_other uses kinds p h e = by (other_kind kinds) refl
  where
    by : (b : Bool) → other_kind kinds ≡ b → other_kind kinds ≡ true
    by true q = q
    by false q = absurd (false≢true (sym e ∙ ap stops_light ((none_other kinds).0 q (get_or uses p 0) h)))

-- ---- a span

module _ (points : List Float) (uses kinds order : List ℕ) (turned : List Float) (first count : ℕ) (fits : SpanFits points uses kinds order turned first count) where
  pub turned_long : (first + count) * 9 ≤ length turned
  turned_long = let t = fits.turned_fits.long in omega (arith, fits.span_fits)

  -- what the search passes over
  pub span_missed : (ray : Ray) (k j : ℕ) → first ≤ k → j ≤ first + count → Missed turned ray k j → AllMiss (λ l. boxed_at points uses kinds ray (get_or order l 0)) k j
  span_missed ray k j a b m l c d =
      let w = fits.place_fits l (omega arith) (omega arith) in
      let s = fits.turned_fits.same l (omega (arith, fits.span_fits)) (omega (arith, fits.points_fit)) in
      by_missed true points uses kinds ray (get_or order l 0) (missed_at points uses kinds ray (get_or order l 0) (ap (meet_of ray) (sym s) ∙ m l c d))

  pub span_passed : (ray : Ray) (k j : ℕ) → first ≤ k → j ≤ first + count → AllMiss (λ l. boxed_at points uses kinds ray (get_or order l 0)) first k → Missed turned ray k j
      → AllMiss (λ l. boxed_at points uses kinds ray (get_or order l 0)) first j
  span_passed ray k j a b m o = missed_more _ first k j m (span_missed ray k j a b o)

  -- where a hit of it does not stop light, there is a material that is not opaque, and so there is room for the hit
  pub span_room : (ray : Ray) (k : ℕ) (f : ℕ × PlacedHit) → first ≤ k → SpanFirst points uses kinds order ray k (first + count) (Some f)
      → (kind : ℕ) → kind ≡ kind_at uses kinds f.1.place → false ≡ stops_light kind
      → (held m d p : ℕ) → RoomFor kinds (held + count) d p → m + first ≤ held + k → (m < d) × (m < p)
  span_room ray k f a h kind e l held m d p room few =
      let used : f.1.place < length uses = rw h.3 (fits.place_fits f.0 (omega (arith, h.0)) h.1) in
      let r = room (clear_other uses kinds f.1.place (fits.use_fits f.1.place used) (rw e at (sym l))) in
      (omega (arith, r.0, h.0, h.1), omega (arith, r.1, h.0, h.1))

-- ---- going through it, from place to place

module _ (order : List ℕ) (first : ℕ) {S : Type 0} (step : S → ℕ → S) (before : S) where
  pub span_starts : before ≡ fold_of step before (span_places order first (first - first))
  span_starts = let z : first - first ≡ 0 = omega arith in rw z

  span_next : (j : ℕ) (held after : S) → first ≤ j → held ≡ fold_of step before (span_places order first (j - first)) → after ≡ step held (get_or order j 0)
      → after ≡ fold_of step before (span_places order first (j + 1 - first))
  span_next j held after a e g =
      let s : j + 1 - first ≡ suc (j - first) = omega arith in
      let o : first + (j - first) ≡ j = omega arith in
      rw (s, fold_append step before (span_places order first (j - first)) (get_or order (first + (j - first)) 0 ∷ []), o, ← e) g

  module _ (met : ℕ → Option Hit) (none : (p : ℕ) (s : S) → met p ≡ None → step s p ≡ s) where
    -- what is missed adds nothing
    span_over : (k j : ℕ) (held : S) → first ≤ k → k ≤ j → AllMiss (λ l. met (get_or order l 0)) k j
        → held ≡ fold_of step before (span_places order first (k - first)) → held ≡ fold_of step before (span_places order first (j - first))
    span_over k zero held a b f e = let z : k ≡ 0 = omega arith in rw z at e
    span_over k (suc j) held a b f e =
        ⊎_elim
        (λ (z : k ≡ suc j). rw z at e)
        (λ (l : k < suc j).
        span_next j held held (omega arith) (span_over k j held a (omega arith) (λ l p r. f l p (omega arith)) e) (sym (none (get_or order j 0) held (f j (omega arith) (omega arith))))
        ∙ ap (λ (x : ℕ). fold_of step before (span_places order first (x - first))) (let z : j + 1 ≡ suc j = omega arith in z))
        (eq-or-lt_of_le b)

    -- so each hit is one step from the one before it
    pub span_on : (k j p : ℕ) (held after : S) → first ≤ k → k ≤ j → AllMiss (λ l. met (get_or order l 0)) k j → p ≡ get_or order j 0
        → held ≡ fold_of step before (span_places order first (k - first)) → after ≡ step held p → after ≡ fold_of step before (span_places order first (j + 1 - first))
    span_on k j p held after a b f r e g = span_next j held after (omega arith) (span_over k j held a b f e) (rw r at g)

    pub span_ends : (count k : ℕ) (held : S) → first ≤ k → k ≤ first + count → AllMiss (λ l. met (get_or order l 0)) k (first + count)
        → held ≡ fold_of step before (span_places order first (k - first)) → held ≡ fold_of step before (span_places order first count)
    span_ends count k held a b f e = let z : count ≡ first + count - first = omega arith in rw z (span_over k (first + count) held a b f e)

-- ---- from hit to hit, as the code goes

module _ (points : List Float) (uses kinds order : List ℕ) (first : ℕ) (ray : Ray) where
  module _ (best held : Option PlacedHit) (k : ℕ) (from : first ≤ k)
      (before : held ≡ fold_of (nearest_step points uses kinds ray) best (span_places order first (k - first))) where
    pub nearest_on : (end : ℕ) (f : ℕ × PlacedHit) → SpanFirst points uses kinds order ray k end (Some f) → (after : Option PlacedHit) → after ≡ nearer_of held f.1.place (Some f.1.hit)
        → after ≡ fold_of (nearest_step points uses kinds ray) best (span_places order first (f.0 + 1 - first))
    nearest_on end f h after e =
        span_on order first (nearest_step points uses kinds ray) best (boxed_at points uses kinds ray) (λ p s n. nearest_none points uses kinds ray p n s)
        k f.0 f.1.place held after from h.0 h.2 h.3 before (e ∙ ap (nearer_of held f.1.place) (sym h.4))

    pub nearest_ends : (count : ℕ) → k ≤ first + count → SpanFirst points uses kinds order ray k (first + count) None
        → held ≡ fold_of (nearest_step points uses kinds ray) best (span_places order first count)
    nearest_ends count to h =
        span_ends order first (nearest_step points uses kinds ray) best (boxed_at points uses kinds ray) (λ p s n. nearest_none points uses kinds ray p n s)
        count k held from to h before

  module _ (start : Collected) (hs : List Struck) (k : ℕ) (from : first ≤ k)
      (before : came hs ≡ fold_of (collect_step points uses kinds ray) start (span_places order first (k - first))) where
    module _ (end : ℕ) (f : ℕ × PlacedHit) (h : SpanFirst points uses kinds order ray k end (Some f)) where
      -- with a meeting there
      collect_on : (after : Collected) → after ≡ collect_meet uses kinds (came hs) f.1.place (Some f.1.hit)
          → after ≡ fold_of (collect_step points uses kinds ray) start (span_places order first (f.0 + 1 - first))
      collect_on after e =
          span_on order first (collect_step points uses kinds ray) start (boxed_at points uses kinds ray) (λ p s n. collect_none points uses kinds ray p n s)
          k f.0 f.1.place (came hs) after from h.0 h.2 h.3 before (e ∙ ap (collect_meet uses kinds (came hs) f.1.place) (sym h.4))

      pub collect_clear : (kind : ℕ) → kind ≡ kind_at uses kinds f.1.place → false ≡ stops_light kind
          → came (hs ++ (struck f.1.hit.t f.1.place ∷ [])) ≡ fold_of (collect_step points uses kinds ray) start (span_places order first (f.0 + 1 - first))
      unfolding collect_meet
      collect_clear kind e l = collect_on _ (rw (← e, ← l) refl)

      -- after one that stops light nothing is added
      pub collect_dark : (kind : ℕ) → kind ≡ kind_at uses kinds f.1.place → true ≡ stops_light kind → (count : ℕ) → end ≡ first + count
          → dark ≡ fold_of (collect_step points uses kinds ray) start (span_places order first count)
      unfolding collect_meet
      collect_dark kind e l count z = dark_stays points uses kinds ray order first (f.0 + 1 - first) count start (omega (arith, h.1)) (collect_on _ (rw (← e, ← l) refl))

    pub collect_ends : (count : ℕ) → k ≤ first + count → SpanFirst points uses kinds order ray k (first + count) None
        → came hs ≡ fold_of (collect_step points uses kinds ray) start (span_places order first count)
    collect_ends count to h =
        span_ends order first (collect_step points uses kinds ray) start (boxed_at points uses kinds ray) (λ p s n. collect_none points uses kinds ray p n s)
        count k (came hs) from to h before
