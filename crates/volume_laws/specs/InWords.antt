-- Good contents in document 01's words: known kinds that ascend strictly, 1 to 5 all among them; each body right after the one before
-- it, the first after the contents and the last at the file's end; bodies 1 to 5 of the lengths that the axes ask for. The judge goes
-- by an entry's place, and here it is shown to say the same, both ways.
use Rattle.std.specs.Prelude.{◌≡◌, refl, Bool, false, List, ◌⊎◌, ◌↔◌, ltb, length}
use Rattle.std.proofs.Common.{sym, ◌∙◌, subst, inl, inr, ⊎_elim, add-zero, zero-add, eq-or-lt_of_le}
use Rattle.std.proofs.Math.Bool.{true}
use Prim.Native.Nat.{ℕ, zero, suc, ◌+◌, ◌-◌, ◌*◌, ◌<◌, ◌≤◌}
use Rattle.std.proofs.Math.Nat.{sub-zero}
use Rattle.std.proofs.Math.Numerals.{add-one}
use native.Mathlib.Omega.{arith}
use borrow.Author.Tests.{eqb-true, eq-eqb, lt-ltb, ltb-true, ltb-false}
use Rattle.contents.specs.Contents.{bodies_from, entry_kind_at, offset_at, length_at, entry_good, contents_from, contents_good}
use Rattle.contents.specs.ContentsLaws.{Fit, Entry}
use Rattle.contents.specs.ContentsLaws.{light, coefficients, active, occupied, corners, foreign}
use Rattle.contents.proofs.ContentsLaws.{fit_kind, fit_given, entry_found}

-- 1 to 5, or 128 to 255
pub data Known (k : ℕ) : Type 0 where
  of_volume : 1 ≤ k → k ≤ 5 → Known k
  of_others : 128 ≤ k → k ≤ 255 → Known k

-- the length that kind k asks for in a file of n voxels
pub data Long (k long n : ℕ) : Type 0 where
  for_light : k ≡ 1 → long ≡ n * 4 → Long k long n
  for_coefficients : k ≡ 2 → long ≡ n * 64 → Long k long n
  for_mask : 3 ≤ k → k ≤ 4 → long ≡ n → Long k long n
  for_corners : k ≡ 5 → long ≡ 24 → Long k long n
  for_others : 6 ≤ k → Long k long n

-- c entries
pub record InWords (s : List ℕ) (c n : ℕ) : Type 0 where
  pub known : (i : ℕ) → i < c → Known (entry_kind_at s i)
  pub ascend : (i : ℕ) → i + 1 < c → entry_kind_at s i < entry_kind_at s (i + 1)
  pub required : (k : ℕ) → 1 ≤ k → k ≤ 5 → (i : ℕ) × (i < c) × (entry_kind_at s i ≡ k)
  pub long : (i : ℕ) → i < c → Long (entry_kind_at s i) (length_at s i) n
  pub first : offset_at s 0 ≡ bodies_from c
  pub next : (i : ℕ) → i + 1 < c → offset_at s (i + 1) ≡ offset_at s i + length_at s i
  pub last : (i : ℕ) → i + 1 ≡ c → offset_at s i + length_at s i ≡ length s

-- ---- from the judge

fit_known : (k i long n : ℕ) → Fit k i long n → Known k
fit_known k i long n (light p q r) = of_volume (omega arith) (omega arith)
fit_known k i long n (coefficients p q r) = of_volume (omega arith) (omega arith)
fit_known k i long n (active p q r) = of_volume (omega arith) (omega arith)
fit_known k i long n (occupied p q r) = of_volume (omega arith) (omega arith)
fit_known k i long n (corners p q r) = of_volume (omega arith) (omega arith)
fit_known k i long n (foreign p q r) = of_others p q

fit_asks : (k i long n : ℕ) → Fit k i long n → Long k long n
fit_asks k i long n (light p q r) = for_light p r
fit_asks k i long n (coefficients p q r) = for_coefficients p r
fit_asks k i long n (active p q r) = for_mask (omega arith) (omega arith) r
fit_asks k i long n (occupied p q r) = for_mask (omega arith) (omega arith) r
fit_asks k i long n (corners p q r) = for_corners p r
fit_asks k i long n (foreign p q r) = for_others (omega arith)

-- what stands before entry i: its kind, and where its body ends
abbrev kind_before : List ℕ → ℕ → ℕ
kind_before s zero = 0
kind_before s (suc i) = entry_kind_at s i

abbrev end_before : List ℕ → ℕ → ℕ → ℕ
end_before s c zero = bodies_from c
end_before s c (suc i) = offset_at s i + length_at s i

module _ (s : List ℕ) (c n : ℕ) where
  each : contents_good s c n ≡ true → (i : ℕ) → i < c → Entry s n c i (kind_before s i) (end_before s c i)
  each e zero h = entry_found s n c 0 0 (bodies_from c) h (rw sub-zero e)
  each e (suc i) h =
      let d = each e i (omega arith) in
      let r : contents_from s n (c - suc i) (suc i) (entry_kind_at s i) (offset_at s i + length_at s i) ≡ true = rw (add-one i, ← d.offset) at d.rest in
      entry_found s n c (suc i) (entry_kind_at s i) (offset_at s i + length_at s i) h r

  ends : contents_good s c n ≡ true → (i : ℕ) → i + 1 ≡ c → offset_at s i + length_at s i ≡ length s
  unfolding contents_from
  ends e i h =
      let d = each e i (omega arith) in
      let z : c - (i + 1) ≡ 0 = omega arith in
      eqb-true _ (length s) (rw (z, ← d.offset) at d.rest)

  pub words_found : 5 ≤ c → contents_good s c n ≡ true → InWords s c n
  words_found h e =
      record {
        known = λ i p. fit_known _ i (length_at s i) n (each e i p).fit;
        ascend = λ i p. subst (λ (j : ℕ). entry_kind_at s i < entry_kind_at s j) (sym (add-one i)) (each e (suc i) (omega arith)).above;
        required = λ k p q. (k - 1, omega arith, fit_kind _ (k - 1) (length_at s (k - 1)) n (each e (k - 1) (omega arith)).fit (omega arith) ∙ omega arith);
        long = λ i p. fit_asks _ i (length_at s i) n (each e i p).fit;
        first = (each e 0 (omega arith)).offset;
        next = λ i p. subst (λ (j : ℕ). offset_at s j ≡ offset_at s i + length_at s i) (sym (add-one i)) (each e (suc i) (omega arith)).offset;
        last = ends e;
      }

-- ---- to the judge

asks_fit : (k i long n : ℕ) → Long k long n → k ≡ i + 1 → i < 5 → Fit k i long n
asks_fit k i long n (for_light p r) e h = light p (omega arith) r
asks_fit k i long n (for_coefficients p r) e h = coefficients p (omega arith) r
asks_fit k i long n (for_mask a b r) e h = ⊎_elim (λ q. occupied q (omega arith) r) (λ q. active (omega arith) (omega arith) r) (eq-or-lt_of_le b)
asks_fit k i long n (for_corners p r) e h = corners p (omega arith) r
asks_fit k i long n (for_others p) e h = absurd (omega arith)

known_least : (k : ℕ) → Known k → 1 ≤ k
known_least k (of_volume p q) = p
known_least k (of_others p q) = omega arith

early_or_late : (i : ℕ) → (i < 5) ⊎ (5 ≤ i)
early_or_late i = go (ltb i 5) refl
  where
    go : (b : Bool) → ltb i 5 ≡ b → (i < 5) ⊎ (5 ≤ i)
    go true e = inl (ltb-true i 5 e)
    go false e = inr (ltb-false i 5 e)

known_late : (k : ℕ) → Known k → 6 ≤ k → (128 ≤ k) × (k ≤ 255)
known_late k (of_volume p q) h = absurd (omega arith)
known_late k (of_others p q) h = (p, q)

module _ (s : List ℕ) (c n : ℕ) (h : 5 ≤ c) (w : InWords s c n) where
  climbs : (i k : ℕ) → i + k < c → entry_kind_at s i + k ≤ entry_kind_at s (i + k)
  climbs i zero p = rw (add-zero i) (omega arith)
  climbs i (suc k) p =
      let e : i + suc k ≡ i + k + 1 = omega arith in
      rw e (omega (arith, climbs i k (omega arith), w.ascend (i + k) (omega arith)))

  low : (i : ℕ) → i < c → i + 1 ≤ entry_kind_at s i
  low i p =
      let a : entry_kind_at s 0 + i ≤ entry_kind_at s i = rw (zero-add i) at (climbs 0 i (rw (zero-add i) p)) in
      omega (arith, known_least (entry_kind_at s 0) (w.known 0 (omega arith)))

  -- the five required kinds stand first
  five : (i : ℕ) → i < 5 → (j : ℕ) → j ≤ i → entry_kind_at s j ≡ j + 1
  five zero p j q =
      let r = w.required 1 (omega arith) (omega arith) in
      let z : r.0 ≡ j = omega (arith, low r.0 r.1, r.2) in
      subst (λ (x : ℕ). entry_kind_at s x ≡ j + 1) z (r.2 ∙ omega arith)
  five (suc i) p j q = ⊎_elim (here (five i (omega arith))) (λ l. five i (omega arith) j (omega arith)) (eq-or-lt_of_le q)
    where
      found : (x : ℕ) → x < c → entry_kind_at s x ≡ suc i + 1 → ((y : ℕ) → y ≤ i → entry_kind_at s y ≡ y + 1) → x ≡ suc i
      found x l e f = ⊎_elim (λ a. a) (λ b. absurd (omega (arith, f x (omega arith), e))) (eq-or-lt_of_le {n = x} {m = suc i} (omega (arith, low x l, e)))

      here : ((y : ℕ) → y ≤ i → entry_kind_at s y ≡ y + 1) → j ≡ suc i → entry_kind_at s j ≡ j + 1
      here f a =
          let r = w.required (suc i + 1) (omega arith) (omega arith) in
          let z : r.0 ≡ j = found r.0 r.1 r.2 f ∙ sym a in
          subst (λ (x : ℕ). entry_kind_at s x ≡ j + 1) z (r.2 ∙ omega arith)

  fits : (i : ℕ) → i < c → Fit (entry_kind_at s i) i (length_at s i) n
  fits i p = ⊎_elim early late (early_or_late i)
    where
      early : i < 5 → Fit (entry_kind_at s i) i (length_at s i) n
      early q = asks_fit (entry_kind_at s i) i (length_at s i) n (w.long i p) (five i q i (omega arith)) q

      late : 5 ≤ i → Fit (entry_kind_at s i) i (length_at s i) n
      late q = let r = known_late (entry_kind_at s i) (w.known i p) (omega (arith, low i p)) in foreign r.0 r.1 q

  good : (i previous start : ℕ) → i < c → previous < entry_kind_at s i → offset_at s i ≡ start → entry_good (entry_kind_at s i) previous (offset_at s i) start (length_at s i) i n ≡ true
  unfolding entry_good
  good i previous start p q e = rw (lt-ltb previous (entry_kind_at s i) q, eq-eqb (offset_at s i) start e) (fit_given (entry_kind_at s i) i (length_at s i) n (fits i p))

  build : (k i : ℕ) → i + k ≡ c → contents_from s n k i (kind_before s i) (end_before s c i) ≡ true
  unfolding contents_from
  build zero zero e = absurd (omega arith)
  build zero (suc i) e = eq-eqb (offset_at s i + length_at s i) (length s) (w.last i (omega arith))
  build (suc k) zero e =
      let r : contents_from s n k 1 (entry_kind_at s 0) (offset_at s 0 + length_at s 0) ≡ true = build k 1 (omega arith) in
      let g = good 0 0 (bodies_from c) (omega arith) (omega (arith, low 0 (omega arith))) w.first in
      rw g (rw w.first at r)
  build (suc k) (suc i) e =
      let a : entry_kind_at s i < entry_kind_at s (suc i) = rw (add-one i) at (w.ascend i (omega arith)) in
      let o : offset_at s (suc i) ≡ offset_at s i + length_at s i = rw (add-one i) at (w.next i (omega arith)) in
      let r : contents_from s n k (suc (suc i)) (entry_kind_at s (suc i)) (offset_at s (suc i) + length_at s (suc i)) ≡ true = build k (suc (suc i)) (omega arith) in
      let g = good (suc i) (entry_kind_at s i) (offset_at s i + length_at s i) (omega arith) a o in
      rw (g, add-one (suc i)) (rw o at r)

  pub words_given : contents_good s c n ≡ true
  words_given = build c 0 (zero-add c)

-- the judge of the contents says what document 01 says
pub contents_in_words : (s : List ℕ) (c n : ℕ) → 5 ≤ c → (contents_good s c n ≡ true) ↔ InWords s c n
contents_in_words s c n h = (words_found s c n h, words_given s c n h)
