-- The best of a row of meetings, kept as a scan for the nearest hit keeps it: no hit has a smaller distance, and none at an equal distance a higher place; there is
-- nothing exactly where all are misses.
use Rattle.std.specs.Prelude.{◌≡◌, Option, None, Some, Bool, cond, ◌&&◌, ℕ, zero, suc, ◌≤◌, ◌<◌}
use Rattle.std.proofs.Math.Path.{refl}
use Rattle.std.proofs.Common.{sym, ap₂, ◌∙◌, ⊎_elim, eq-or-lt_of_le, not-suc-le-zero, arith, lt-ltb}
use Rattle.std.proofs.Math.Bool.{true, false}
use Rattle.std.proofs.lemmas.Bool.{false≢true}
use Rattle.std.proofs.Math.Nat.{le_of_suc-le-suc}
use Rattle.std.proofs.Math.Dec.{ltb}
use Rattle.std.specs.Float.Ieee.{lt, eq, is_nan}
use Rattle.floats.specs.OrderLaws.{lt_irreflexive, lt_transitive, lt_tells_apart}
use Rattle.triangle.specs.declared.Hit.{Hit}
use Rattle.scan.specs.Nearest.{placed, beats, nearer_of}
use Rattle.scan.specs.declared.PlacedHit.{PlacedHit}
use Rattle.hits.specs.Order.{lt_eq}

-- a miss is no hit
apart : {A : Type 0} (m : Option Hit) (h : Hit) → m ≡ None → m ≡ Some h → A
apart m h p q = absurd (let z : ◌≡◌ {A = ℕ} 0 1 = cc in omega arith)

module _ (meets : ℕ → Option Hit) where
  -- the best of the first n meetings
  abbrev pub best_to : ℕ → Option PlacedHit
  best_to zero = None
  best_to (suc i) = nearer_of (best_to i) i (meets i)

  -- which that is
  pub record IsBest (n : ℕ) (best : PlacedHit) : Type 0 where
    pub within : best.place < n
    pub met : meets best.place ≡ Some best.hit
    pub none_nearer : (j : ℕ) (h : Hit) → j < n → meets j ≡ Some h → lt h.t best.hit.t ≡ false
    pub none_later : (j : ℕ) (h : Hit) → j < n → meets j ≡ Some h → eq h.t best.hit.t ≡ true → j ≤ best.place

  abbrev pub AllMisses : ℕ → Type 0
  AllMisses n = (j : ℕ) → j < n → meets j ≡ None

  abbrev Holds : ℕ → Option PlacedHit → Type 0
  Holds n None = AllMisses n
  Holds n (Some best) = IsBest n best

  -- the last of the first n + 1, or one before it
  last_or_before : {A : Type 0} (n j : ℕ) → j < suc n → (j ≡ n → A) → (j < n → A) → A
  last_or_before n j h f g = ⊎_elim f g (eq-or-lt_of_le (le_of_suc-le-suc h))

  same_distance : (j n : ℕ) (h k : Hit) → j ≡ n → meets n ≡ Some h → meets j ≡ Some k → k.t ≡ h.t
  same_distance j n h k e f g = let m : meets n ≡ Some k = rw e at g in cc

  better : (n : ℕ) (best : PlacedHit) (h : Hit) → meets n ≡ Some h → IsBest n best → beats h.t n best.hit.t best.place ≡ true → IsBest (suc n) (placed n h)
  unfolding beats
  better n best h e held b =
      record {
        within = omega arith;
        met = e;
        none_nearer =
            λ j k l f.
            last_or_before n j l (λ g. rw (same_distance j n h k g e f) (lt_irreflexive h.t)) (λ g. below j k (lt k.t h.t) refl (held.none_nearer j k g f));
        none_later = λ j k l f g. le_of_suc-le-suc l;
      }
    where
      -- what is below the new distance is below the old
      below : (j : ℕ) (k : Hit) (c : Bool) → lt k.t h.t ≡ c → lt k.t best.hit.t ≡ false → c ≡ false
      below j k false f g = refl
      below j k true f g = by (lt h.t best.hit.t) refl
        where
          by : (d : Bool) → lt h.t best.hit.t ≡ d → true ≡ false
          by true m = absurd (false≢true (sym g ∙ lt_transitive k.t h.t best.hit.t f m))
          by false m = equal (eq h.t best.hit.t) refl (rw m at b)
            where
              equal : (c : Bool) → eq h.t best.hit.t ≡ c → eq h.t best.hit.t && ltb best.place n ≡ true → true ≡ false
              equal true o z = absurd (false≢true (sym g ∙ lt_eq k.t h.t best.hit.t f o))
              equal false o z = absurd (false≢true (sym (rw o refl) ∙ z))

  worse : (n : ℕ) (best : PlacedHit) (h : Hit) → meets n ≡ Some h → IsBest n best → beats h.t n best.hit.t best.place ≡ false → IsBest (suc n) best
  unfolding beats
  worse n best h e held b =
      record {
        within = omega (arith, held.within);
        met = held.met;
        none_nearer = λ j k l f. last_or_before n j l (λ g. rw (same_distance j n h k g e f) (not_below (lt h.t best.hit.t) refl)) (λ g. held.none_nearer j k g f);
        none_later =
            λ j k l f g.
            last_or_before n j l (λ o. absurd (not_equal (eq h.t best.hit.t) refl (let w = rw (same_distance j n h k o e f) at g in w))) (λ o. held.none_later j k o f g);
      }
    where
      not_below : (c : Bool) → lt h.t best.hit.t ≡ c → lt h.t best.hit.t ≡ false
      not_below false k = k
      not_below true k = absurd (false≢true (sym b ∙ rw k refl))

      not_equal : (c : Bool) → eq h.t best.hit.t ≡ c → eq h.t best.hit.t ≡ true → ⊥
      not_equal c k m = false≢true (sym b ∙ rw (not_below (lt h.t best.hit.t) refl, m, lt-ltb best.place n held.within) refl)

  step : (n : ℕ) (b : Option PlacedHit) (m : Option Hit) → meets n ≡ m → Holds n b → Holds (suc n) (nearer_of b n m)
  unfolding nearer_of
  step n None None e h = λ j l. last_or_before n j l (λ g. rw g e) (λ g. h j g)
  step n (Some best) None e h =
      record {
        within = omega (arith, h.within);
        met = h.met;
        none_nearer = λ j k l f. last_or_before n j l (λ g. apart _ k (rw g e) f) (λ g. h.none_nearer j k g f);
        none_later = λ j k l f o. last_or_before n j l (λ g. apart _ k (rw g e) f) (λ g. h.none_later j k g f o);
      }
  step n None (Some m) e h =
      record {
        within = omega arith;
        met = e;
        none_nearer = λ j k l f. last_or_before n j l (λ g. rw (same_distance j n m k g e f) (lt_irreflexive m.t)) (λ g. apart _ k (h j g) f);
        none_later = λ j k l f o. le_of_suc-le-suc l;
      }
  step n (Some best) (Some m) e h = by (beats m.t n best.hit.t best.place) refl
    where
      by : (c : Bool) → beats m.t n best.hit.t best.place ≡ c → Holds (suc n) (cond c (Some (placed n m)) (Some best))
      by true f = better n best m e h f
      by false f = worse n best m e h f

  holds : (n : ℕ) → Holds n (best_to n)
  holds zero = λ j l. absurd (not-suc-le-zero l)
  holds (suc n) = step n (best_to n) (meets n) refl (holds n)

  -- a hit that is answered is the best
  pub best_is_best : (n : ℕ) (best : PlacedHit) → best_to n ≡ Some best → IsBest n best
  best_is_best n best e = let w : Holds n (Some best) = rw e at (holds n) in w

  -- nothing is answered only where all are missed
  pub nothing_is_misses : (n : ℕ) → best_to n ≡ None → AllMisses n
  nothing_is_misses n e = let w : Holds n None = rw e at (holds n) in w

  -- and wherever they are
  pub misses_is_nothing : (n : ℕ) → AllMisses n → best_to n ≡ None
  misses_is_nothing n h = by (best_to n) refl
    where
      by : (b : Option PlacedHit) → best_to n ≡ b → b ≡ None
      by None e = refl
      by (Some best) e = let k = best_is_best n best e in apart _ best.hit (h best.place k.within) k.met

  -- the best is the answer, where distances are numbers
  pub best_is_answered : ((i : ℕ) (h : Hit) → meets i ≡ Some h → is_nan h.t ≡ false) → (n : ℕ) (best : PlacedHit) → IsBest n best → best_to n ≡ Some best
  best_is_answered numbers n best h = by (best_to n) refl
    where
      by : (b : Option PlacedHit) → best_to n ≡ b → b ≡ Some best
      by None e = apart _ best.hit (nothing_is_misses n e best.place h.within) h.met
      by (Some other) e =
          let k = best_is_best n other e in
          let s = other.hit.t in
          let t = best.hit.t in
          let a : lt s t ≡ false = h.none_nearer other.place other.hit k.within k.met in
          let b : lt t s ≡ false = k.none_nearer best.place best.hit h.within h.met in
          let st : eq s t ≡ true = lt_tells_apart s t (numbers other.place other.hit k.met) (numbers best.place best.hit h.met) a b in
          let ts : eq t s ≡ true = lt_tells_apart t s (numbers best.place best.hit h.met) (numbers other.place other.hit k.met) b a in
          let below = h.none_later other.place other.hit k.within k.met st in
          let above = k.none_later best.place best.hit h.within h.met ts in
          let same : other.place ≡ best.place = omega arith in
          let m : meets best.place ≡ Some other.hit = rw same at k.met in
          let n : meets best.place ≡ Some best.hit = h.met in
          let hits : other.hit ≡ best.hit = cc in
          ap₂ (λ (i : ℕ) (g : Hit). Some (placed i g)) same hits
