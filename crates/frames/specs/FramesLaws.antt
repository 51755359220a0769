-- What the definitions of a frame mean: the first refusal is that of the least place at which the single lookup refuses; a frame is accepted exactly when
-- every position is accepted alone; each number written is the single lookup's; and each contract leaves one result.
use Rattle.std.specs.Prelude.{◌≡◌, Bool, true, false, cond, not, ◌||◌, ◌↔◌, List, [], ◌∷◌, ℕ, zero, suc, ◌+◌, ◌-◌, ◌*◌, ◌%◌, ◌<◌, ◌≤◌, eqb, length, get_or, replicate, Float}
use Rattle.std.proofs.Math.Path.{refl}
use Rattle.std.proofs.Common.{sym, ap, subst, ◌∙◌, ⊎_elim, eq-or-lt_of_le, zero-add, mul-one, eq-eqb, ne_eqb, eqb-true}
use Rattle.std.proofs.lemmas.Bool.{false≢true, eqb-false, not-false}
use native.Mathlib.Omega.{arith}
use Rattle.std.specs.Float.{nan}
use Rattle.names.specs.Bits.{zero32}
use Rattle.names.specs.Refusals.{Row, row, first_of, unless_refused, FirstIs, first_given, kept, given}
use Rattle.names.specs.Passed.{passed}
use Rattle.lists.specs.Fold.{tab, ahead, length_tab, get_or_tab}
use Rattle.lists.specs.Laid.{laid, voxel_part, part_of_laid}
use Rattle.grid.specs.declared.Axes.{Axes}
use Rattle.grid.specs.declared.Corners.{Corners}
use Rattle.grid.specs.Grid.{voxels}
use Rattle.limits.specs.Limits.{bad_axes, bad_grid, wrong_length, wrong_share, bad_position}
use Rattle.limits.specs.LimitsLaws.{either, share_row}
use Rattle.vectors.specs.declared.Vec3.{Vec3}
use Rattle.lookup.specs.Place.{cells_of}
use Rattle.lookup.specs.Lookup.{light_at_of, bad_light_cells, coefficients_at_of, coefficient_blend, coefficient_refusal, bad_volume_cells}
use Rattle.frames.specs.declared.FirstRefusal.{FirstRefusal}
use Rattle.frames.specs.Frames.{frame_rows, position_count, position_at, wrong_frame, refused_at, least_refused, first_refusal_of, light_refusal_at, light_frame_refusal, light_frame_of, coefficient_refusal_at, coefficient_frame_refusal, coefficient_frame_of, LightsFramed, CoefficientsFramed}

-- ---- the least place

module _ (number : ℕ → ℕ) where
  passed_over_lem : (k i : ℕ) → number i ≡ 0 → least_refused number (suc k) i ≡ least_refused number k (i + 1)
  unfolding least_refused
  passed_over_lem k i e = rw (eq-eqb (number i) 0 e) refl

  met_first : (k i : ℕ) → (number i ≡ 0 → ⊥) → least_refused number (suc k) i ≡ refused_at (number i) i
  unfolding least_refused
  met_first k i n = rw (ne_eqb (number i) 0 n) refl

  none_left : (i : ℕ) → least_refused number zero i ≡ refused_at 0 0
  unfolding least_refused
  none_left i = refl

  -- how a walk from the left goes by one

  pub least_found : (i to : ℕ) → i < to → (number i ≡ 0 → ⊥) → least_refused number (to - i) i ≡ refused_at (number i) i
  least_found i to h n = ap (λ (k : ℕ). least_refused number k i) (ahead i to h) ∙ met_first (to - (i + 1)) i n

  pub least_next : (i to : ℕ) → i < to → number i ≡ 0 → least_refused number (to - i) i ≡ least_refused number (to - (i + 1)) (i + 1)
  least_next i to h e = ap (λ (k : ℕ). least_refused number k i) (ahead i to h) ∙ passed_over_lem (to - (i + 1)) i e

  pub least_end : (i to : ℕ) → to ≤ i → least_refused number (to - i) i ≡ refused_at 0 0
  unfolding least_refused
  least_end i to h = let z : to - i ≡ 0 = omega arith in rw z refl

  -- r is the number at place p, one of k from i on, and every place before it has none
  pub record LeastAt (k i r p : ℕ) : Type 0 where
    pub from : i ≤ p
    pub within : p < i + k
    pub here : number p ≡ r
    pub before : (j : ℕ) → i ≤ j → j < p → number j ≡ 0

  pub least_out : (k i : ℕ) → ((least_refused number k i).refusal ≡ 0 → ⊥)
      → LeastAt k i (least_refused number k i).refusal (least_refused number k i).place
  least_out zero i n = absurd (n (ap (λ (x : FirstRefusal). x.refusal) (none_left i)))
  least_out (suc k) i n = go (eqb (number i) 0) refl (λ m. least_out k (i + 1) m)
    where
      go : (b : Bool) → eqb (number i) 0 ≡ b
          → (((least_refused number k (i + 1)).refusal ≡ 0 → ⊥) → LeastAt k (i + 1) (least_refused number k (i + 1)).refusal (least_refused number k (i + 1)).place)
          → LeastAt (suc k) i (least_refused number (suc k) i).refusal (least_refused number (suc k) i).place
      go true e rest =
          let z : number i ≡ 0 = eqb-true _ _ e in
          let s = passed_over_lem k i z in
          let l = rest (λ w. n (ap (λ (x : FirstRefusal). x.refusal) s ∙ w)) in
          rw s
          (record {
            from = omega (arith, l.from);
            within = omega (arith, l.within);
            here = l.here;
            before = λ j p q. ⊎_elim (λ h. ap number (sym h) ∙ z) (λ h. l.before j (omega arith) q) (eq-or-lt_of_le p);
          })
      go false e rest =
          rw (met_first k i (eqb-false _ _ e))
          (record { from = omega arith; within = omega arith; here = refl; before = λ j p q. absurd (omega arith) })

  least_in : (k i r p : ℕ) → 0 < r → LeastAt k i r p → least_refused number k i ≡ refused_at r p
  least_in zero i r p h l = absurd (omega (arith, l.from, l.within))
  least_in (suc k) i r p h l =
      ⊎_elim
      (λ e. let f : number i ≡ r = ap number e ∙ l.here in
      met_first k i (λ z. omega arith) ∙ rw (f, e) refl)
      (λ q. passed_over_lem k i (l.before i (omega arith) q) ∙ least_in k (i + 1) r p h (record { from = omega arith; within = omega (arith, l.within); here = l.here; before = λ j a b. l.before j (omega arith) b }))
      (eq-or-lt_of_le l.from)

  -- the answer is that number and that place
  pub least_is : (k i r p : ℕ) → 0 < r → (least_refused number k i ≡ refused_at r p) ↔ LeastAt k i r p
  least_is k i r p h = (
    λ e. subst (λ (x : FirstRefusal). LeastAt k i x.refusal x.place) e
        (least_out k i (λ z. let s : (least_refused number k i).refusal ≡ r = ap (λ (x : FirstRefusal). x.refusal) e in omega arith)),
    least_in k i r p h,
  )

  pub least_zeros : (k i : ℕ) → ((j : ℕ) → i ≤ j → j < i + k → number j ≡ 0) → least_refused number k i ≡ refused_at 0 0
  least_zeros zero i n = none_left i
  least_zeros (suc k) i n = passed_over_lem k i (n i (omega arith) (omega arith)) ∙ least_zeros k (i + 1) (λ j p q. n j (omega arith) (omega arith))

  each_zero : (k i : ℕ) → (least_refused number k i).refusal ≡ 0 → (j : ℕ) → i ≤ j → j < i + k → number j ≡ 0
  each_zero zero i e j p q = absurd (omega arith)
  each_zero (suc k) i e j p q = go (eqb (number i) 0) refl (λ d h. each_zero k (i + 1) d j (omega arith) (omega arith))
    where
      go : (b : Bool) → eqb (number i) 0 ≡ b → ((least_refused number k (i + 1)).refusal ≡ 0 → i < j → number j ≡ 0) → number j ≡ 0
      go true f rest =
          let z : number i ≡ 0 = eqb-true _ _ f in
          ⊎_elim (λ h. ap number (sym h) ∙ z) (rest (ap (λ (x : FirstRefusal). x.refusal) (sym (passed_over_lem k i z)) ∙ e)) (eq-or-lt_of_le p)
      go false f rest =
          let n = eqb-false _ _ f in absurd (n (ap (λ (x : FirstRefusal). x.refusal) (sym (met_first k i n)) ∙ e))

  -- there is none, and the answer is two zeros
  pub least_none : (k i : ℕ) → ((least_refused number k i).refusal ≡ 0) ↔ ((j : ℕ) → i ≤ j → j < i + k → number j ≡ 0)
  least_none k i = (each_zero k i, λ n. ap (λ (x : FirstRefusal). x.refusal) (least_zeros k i n))

-- ---- the lengths

-- three numbers a position, and so many numbers an answer
pub frame_row : (each positions answers : ℕ) → 0 < each
    → (wrong_frame each positions answers ≡ false) ↔ ((positions ≡ position_count positions * 3) × (answers ≡ position_count positions * each))
unfolding wrong_frame
frame_row each positions answers h = (
  λ e.
      let p = (either (wrong_length (positions % 3) 0) (wrong_share each answers (position_count positions))).0 e in
      let z : positions % 3 ≡ 0 = eqb-true _ _ (not-false _ p.0) in
      (omega arith, (share_row each answers (position_count positions) h).0 p.1),
  λ e.
      let z : positions % 3 ≡ 0 = omega (arith, e.0) in
      (either (wrong_length (positions % 3) 0) (wrong_share each answers (position_count positions))).1 (ap not (eq-eqb _ _ z), (share_row each answers (position_count positions) h).1 e.1),
)

-- ---- a refusal that no position causes

module _ (number : ℕ → ℕ) (count : ℕ) (rows : List Row) where
  pub rows_first : (k : ℕ) → 0 < k → FirstIs k rows → first_refusal_of rows number count ≡ refused_at k 0
  rows_first k h f = let e = first_given f in sym (kept _ _ _ (λ z. omega arith)) ∙ ap (λ (r : ℕ). refused_at r 0) e

  pub rows_passed_over : first_of rows ≡ 0 → first_refusal_of rows number count ≡ least_refused number count 0
  rows_passed_over e = sym (given _ _ _ e)

-- what holds where none of them does: of row 3 the list that is looked up in, and the lengths of positions and answers
pub frame_rows_passed : (each : ℕ) (a : Axes) (c : Corners) (list positions answers : ℕ) → first_of (frame_rows each a c list positions answers) ≡ 0
    → (bad_axes a ≡ false) × (bad_grid c a ≡ false) × (wrong_length list (voxels a * each) ≡ false) × (wrong_frame each positions answers ≡ false)
frame_rows_passed each a c list positions answers e =
    let p = passed (frame_rows each a c list positions answers) (omega arith, (omega arith, (omega arith, tt))) e in
    let q = (either (wrong_length list (voxels a * each)) (wrong_frame each positions answers)).0 p.1.1.0 in (p.0, p.1.0, q.0, q.1)

-- lists that fit, and a position at least: then the frame's answer is what the single lookups, asked one after another, refuse first. Rows 1, 2 and 3 of
-- the single lookup hold at the first place or at none, which is why they have place 0.
singles : (x y z w : Bool) (rest : ℕ → List Row) (count : ℕ) → w ≡ false → 0 < count
    → first_refusal_of (row 1 x ∷ row 2 y ∷ row 3 (z || w) ∷ []) (λ (k : ℕ). first_of (row 1 x ∷ row 2 y ∷ row 3 z ∷ rest k)) count
    ≡ least_refused (λ (k : ℕ). first_of (row 1 x ∷ row 2 y ∷ row 3 z ∷ rest k)) count 0
unfolding first_of unless_refused least_refused
singles x y z w rest zero e h = absurd (omega arith)
singles x y z true rest (suc n) e h = absurd (false≢true (sym e))
singles true y z false rest (suc n) e h = refl
singles false true z false rest (suc n) e h = refl
singles false false true false rest (suc n) e h = refl
singles false false false false rest (suc n) e h = refl

-- ---- light

module _ (a : Axes) (c : Corners) (light positions : List Float) (answers : ℕ) (fits : wrong_frame 1 (length positions) answers ≡ false) (some : 0 < position_count (length positions)) where
  pub light_frame_singles : light_frame_refusal a c light positions answers ≡ least_refused (light_refusal_at a c light positions) (position_count (length positions)) 0
  unfolding light_frame_refusal
  light_frame_singles =
      rw (mul-one (voxels a))
      (singles (bad_axes a) (bad_grid c a) (wrong_length (length light) (voxels a)) _
      (λ k. row 11 (bad_position (position_at positions k)) ∷ row 13 (bad_light_cells light (cells_of a c (position_at positions k))) ∷ [])
      _ fits some)

  -- accepted exactly when every position is accepted alone
  pub light_frame_accepted : ((light_frame_refusal a c light positions answers).refusal ≡ 0)
      ↔ ((k : ℕ) → k < position_count (length positions) → light_refusal_at a c light positions k ≡ 0)
  light_frame_accepted =
      let s = ap (λ (x : FirstRefusal). x.refusal) light_frame_singles in
      let l = least_none (light_refusal_at a c light positions) (position_count (length positions)) 0 in
      (λ e k h. l.0 (sym s ∙ e) k (omega arith) (omega arith), λ n. s ∙ l.1 (λ j p q. n j (omega arith)))

  -- refused r at place p exactly when the single lookup at p refuses r and at none before refuses
  pub light_frame_refused : (r p : ℕ) → 0 < r
      → (light_frame_refusal a c light positions answers ≡ refused_at r p) ↔ LeastAt (light_refusal_at a c light positions) (position_count (length positions)) 0 r p
  light_frame_refused r p h =
      let l = least_is (light_refusal_at a c light positions) (position_count (length positions)) 0 r p h in
      (λ e. l.0 (sym light_frame_singles ∙ e), λ m. light_frame_singles ∙ l.1 m)

-- each number written is the single lookup's
pub light_frame_each : (a : Axes) (c : Corners) (light positions : List Float) (k : ℕ) → k < position_count (length positions)
    → get_or (light_frame_of a c light positions) k nan ≡ (light_at_of a c light (position_at positions k)).light
unfolding light_frame_of
light_frame_each a c light positions k h = get_or_tab _ _ 0 k nan h ∙ ap (λ (j : ℕ). (light_at_of a c light (position_at positions j)).light) (zero-add k)

light_nothing_refused : (a : Axes) (c : Corners) (light : List Float) → bad_axes a ≡ false → bad_grid c a ≡ false → length light ≡ voxels a
    → light_frame_refusal a c light [] 0 ≡ refused_at 0 0
unfolding light_frame_refusal wrong_frame wrong_share first_of unless_refused least_refused
light_nothing_refused a c light p q n = rw (p, q, eq-eqb (length light) (voxels a * 1) (n ∙ sym (mul-one _))) refl

light_nothing_written : (a : Axes) (c : Corners) (light : List Float) → unless_refused 0 (light_frame_of a c light []) [] ≡ []
unfolding light_frame_of unless_refused tab
light_nothing_written a c light = refl

-- no position: accepted where the grid and the light are good, and nothing is written
pub light_frame_empty : (a : Axes) (c : Corners) (light : List Float) (r : FirstRefusal) (answers' : List Float)
    → bad_axes a ≡ false → bad_grid c a ≡ false → length light ≡ voxels a
    → LightsFramed a c light [] [] r answers' → (r ≡ refused_at 0 0) × (answers' ≡ [])
light_frame_empty a c light r answers' p q n h =
    let e : r ≡ refused_at 0 0 = h.answer ∙ light_nothing_refused a c light p q n in
    (e, h.answers_after ∙ ap (λ (x : FirstRefusal). unless_refused x.refusal (light_frame_of a c light []) []) e ∙ light_nothing_written a c light)

pub record SameFrame (r s : FirstRefusal) (answers₁ answers₂ : List Float) : Type 0 where
  pub same_first : r ≡ s
  pub same_answers : answers₁ ≡ answers₂

pub lights_framed_once : {a : Axes} {c : Corners} {light positions answers : List Float} {r s : FirstRefusal} {l m : List Float}
    → LightsFramed a c light positions answers r l → LightsFramed a c light positions answers s m → SameFrame r s l m
lights_framed_once h k =
    let e = h.answer ∙ sym k.answer in
    record { same_first = e; same_answers = h.answers_after ∙ rw e (sym k.answers_after) }

-- ---- the four coefficients

module _ (a : Axes) (c : Corners) (volume positions : List Float) (answers : ℕ) (fits : wrong_frame 16 (length positions) answers ≡ false) (some : 0 < position_count (length positions)) where
  pub coefficient_frame_singles : coefficient_frame_refusal a c volume positions answers ≡ least_refused (coefficient_refusal_at a c volume positions) (position_count (length positions)) 0
  unfolding coefficient_frame_refusal
  coefficient_frame_singles =
      singles (bad_axes a) (bad_grid c a) (wrong_length (length volume) (voxels a * 16)) _
      (λ k. row 11 (bad_position (position_at positions k)) ∷ row 13 (bad_volume_cells volume (cells_of a c (position_at positions k))) ∷ [])
      _ fits some

  -- accepted exactly when every position is accepted alone
  pub coefficient_frame_accepted : ((coefficient_frame_refusal a c volume positions answers).refusal ≡ 0)
      ↔ ((k : ℕ) → k < position_count (length positions) → coefficient_refusal_at a c volume positions k ≡ 0)
  coefficient_frame_accepted =
      let s = ap (λ (x : FirstRefusal). x.refusal) coefficient_frame_singles in
      let l = least_none (coefficient_refusal_at a c volume positions) (position_count (length positions)) 0 in
      (λ e k h. l.0 (sym s ∙ e) k (omega arith) (omega arith), λ n. s ∙ l.1 (λ j p q. n j (omega arith)))

  -- refused r at place p exactly when the single lookup at p refuses r and at none before refuses
  pub coefficient_frame_refused : (r p : ℕ) → 0 < r
      → (coefficient_frame_refusal a c volume positions answers ≡ refused_at r p) ↔ LeastAt (coefficient_refusal_at a c volume positions) (position_count (length positions)) 0 r p
  coefficient_frame_refused r p h =
      let l = least_is (coefficient_refusal_at a c volume positions) (position_count (length positions)) 0 r p h in
      (λ e. l.0 (sym coefficient_frame_singles ∙ e), λ m. coefficient_frame_singles ∙ l.1 m)

-- sixteen numbers, refused or not
pub length_numbers : (a : Axes) (c : Corners) (volume : List Float) (p : Vec3) → length (coefficients_at_of a c volume p).numbers ≡ 16
unfolding coefficients_at_of coefficient_blend unless_refused
length_numbers a c volume p = go (eqb (coefficient_refusal a c volume p) 0)
  where
    go : (b : Bool) → length (cond b (coefficient_blend volume (cells_of a c p)) (replicate 16 zero32)) ≡ 16
    go true = length_tab _ 16 0
    go false = refl

-- the sixteen numbers written for a position are the single lookup's
pub coefficient_frame_each : (a : Axes) (c : Corners) (volume positions : List Float) (k : ℕ) → k < position_count (length positions)
    → voxel_part 16 k (coefficient_frame_of a c volume positions) ≡ (coefficients_at_of a c volume (position_at positions k)).numbers
unfolding coefficient_frame_of
coefficient_frame_each a c volume positions k h =
    part_of_laid 16 (λ (j : ℕ). (coefficients_at_of a c volume (position_at positions j)).numbers) (λ j. length_numbers a c volume _) k _ h

coefficient_nothing_refused : (a : Axes) (c : Corners) (volume : List Float) → bad_axes a ≡ false → bad_grid c a ≡ false → length volume ≡ voxels a * 16
    → coefficient_frame_refusal a c volume [] 0 ≡ refused_at 0 0
unfolding coefficient_frame_refusal wrong_frame wrong_share first_of unless_refused least_refused
coefficient_nothing_refused a c volume p q n = rw (p, q, eq-eqb (length volume) (voxels a * 16) (n)) refl

coefficient_nothing_written : (a : Axes) (c : Corners) (volume : List Float) → unless_refused 0 (coefficient_frame_of a c volume []) [] ≡ []
unfolding coefficient_frame_of unless_refused laid
coefficient_nothing_written a c volume = refl

-- no position: accepted where the grid and the volume are good, and nothing is written
pub coefficient_frame_empty : (a : Axes) (c : Corners) (volume : List Float) (r : FirstRefusal) (answers' : List Float)
    → bad_axes a ≡ false → bad_grid c a ≡ false → length volume ≡ voxels a * 16
    → CoefficientsFramed a c volume [] [] r answers' → (r ≡ refused_at 0 0) × (answers' ≡ [])
coefficient_frame_empty a c volume r answers' p q n h =
    let e : r ≡ refused_at 0 0 = h.answer ∙ coefficient_nothing_refused a c volume p q n in
    (e, h.answers_after ∙ ap (λ (x : FirstRefusal). unless_refused x.refusal (coefficient_frame_of a c volume []) []) e ∙ coefficient_nothing_written a c volume)

pub coefficients_framed_once : {a : Axes} {c : Corners} {volume positions answers : List Float} {r s : FirstRefusal} {l m : List Float}
    → CoefficientsFramed a c volume positions answers r l → CoefficientsFramed a c volume positions answers s m → SameFrame r s l m
coefficients_framed_once h k =
    let e = h.answer ∙ sym k.answer in
    record { same_first = e; same_answers = h.answers_after ∙ rw e (sym k.answers_after) }
