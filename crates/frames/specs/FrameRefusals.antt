-- Which row or which position refuses a frame, as one law of both contracts. The rows that concern no position have the numbers 1, 2 and 3; where none of
-- them holds, the single lookup's number at a place is 0 or above 3. So the number alone tells whether a row or a position was refused.
use Rattle.std.specs.Prelude.{◌≡◌, refl, Bool, true, false, ◌↔◌, List, [], ◌∷◌, ℕ, ◌*◌, ◌<◌, ◌≤◌, eqb, length, Float}
use Rattle.std.proofs.Common.{sym, ap, ◌∙◌, arith, mul-one, eqb-true}
use Rattle.std.proofs.lemmas.Bool.{eqb-false}
use Rattle.names.specs.Refusals.{Row, row, first_of, FirstIs, NoneHolds, Numbered, first_given, first_found, none_given, none_found, kept, given}
use Rattle.grid.specs.declared.Axes.{Axes}
use Rattle.grid.specs.declared.Corners.{Corners}
use Rattle.grid.specs.Grid.{voxels}
use Rattle.limits.specs.Limits.{bad_axes, bad_grid, wrong_length, bad_position}
use Rattle.lookup.specs.Place.{cells_of}
use Rattle.lookup.specs.Lookup.{bad_light_cells, bad_volume_cells}
use Rattle.frames.specs.declared.FirstRefusal.{FirstRefusal}
use Rattle.frames.specs.Frames.{position_count, position_at, refused_at, least_refused, first_refusal_of, frame_rows, light_refusal_at, light_frame_refusal, coefficient_refusal_at, coefficient_frame_refusal, LightsFramed, CoefficientsFramed}
use Rattle.frames.specs.FramesLaws.{LeastAt, least_out, least_is, least_zeros, least_none, frame_rows_passed}

-- An answer by rows that concern no position, and then by the single lookup's number at each of `count` places.
pub record FrameRefusedBy (rows : List Row) (number : ℕ → ℕ) (count : ℕ) (answer : FirstRefusal) : Type 0 where
  -- 1, 2 or 3: that row holds and none before it
  pub by_row : (r : ℕ) → 0 < r → r ≤ 3 → (answer.refusal ≡ r) ↔ FirstIs r rows
  -- above 3: none of the rows holds, and p is the least place at which the single lookup refuses, with this number
  pub by_position : (r p : ℕ) → 3 < r → (answer ≡ refused_at r p) ↔ (NoneHolds rows × LeastAt number count 0 r p)
  -- 0: no row holds, and no position is refused
  pub accepted : (answer.refusal ≡ 0) ↔ (NoneHolds rows × ((k : ℕ) → k < count → number k ≡ 0))
  -- a row, or nothing refused: the place is 0
  pub no_position : answer.refusal ≤ 3 → answer.place ≡ 0

module _ (rows : List Row) (number : ℕ → ℕ) (count : ℕ) (numbered : Numbered rows) where
  -- a row holds
  row_refused : first_of rows ≤ 3 → (first_of rows ≡ 0 → ⊥) → FrameRefusedBy rows number count (refused_at (first_of rows) 0)
  row_refused low n =
      record {
        by_row = λ r h m. (first_found r rows h, first_given);
        by_position = λ r p h. (
          λ e. let f : first_of rows ≡ r = ap (λ (x : FirstRefusal). x.refusal) e in absurd (omega arith),
          λ g. absurd (n (none_given g.0)),
        );
        accepted = (λ e. absurd (n e), λ g. absurd (n (none_given g.0)));
        no_position = λ m. refl;
      }

  -- no row holds
  position_refused : first_of rows ≡ 0 → ((k : ℕ) → (number k ≡ 0 → ⊥) → 3 < number k) → FrameRefusedBy rows number count (least_refused number count 0)
  position_refused z high =
      record {
        by_row = λ r h m. (
          λ e. absurd (low_none (omega arith) (omega arith)),
          λ f. absurd (let g = first_given f in omega arith),
        );
        by_position = λ r p h.
            let l = least_is number count 0 r p (omega arith) in
            (λ e. (none, l.0 e), λ g. l.1 g.1);
        accepted = (
          λ e. (none, λ k h. (least_none number count 0).0 e k (omega arith) (omega arith)),
          λ g. (least_none number count 0).1 (λ k i h. g.1 k (omega arith)),
        );
        no_position = λ m. at_zero_lem (eqb least.refusal 0) refl m;
      }
    where
      least : FirstRefusal
      least = least_refused number count 0

      none : NoneHolds rows
      none = none_found rows numbered z

      -- what is refused is above 3
      low_none : least.refusal ≤ 3 → (least.refusal ≡ 0 → ⊥) → ⊥
      low_none m n =
          let l = least_out number count 0 n in
          let g : number least.place ≡ least.refusal = l.here in
          let h = high least.place (λ w. n (sym g ∙ w)) in omega arith

      at_zero_lem : (b : Bool) → eqb least.refusal 0 ≡ b → least.refusal ≤ 3 → least.place ≡ 0
      at_zero_lem true e m =
          let each = (least_none number count 0).0 (eqb-true _ _ e) in
          ap (λ (x : FirstRefusal). x.place) (least_zeros number count 0 each)
      at_zero_lem false e m = absurd (low_none m (eqb-false _ _ e))

  pub frame_refused_by : (answer : FirstRefusal) → first_of rows ≤ 3 → (first_of rows ≡ 0 → (k : ℕ) → (number k ≡ 0 → ⊥) → 3 < number k)
      → answer ≡ first_refusal_of rows number count → FrameRefusedBy rows number count answer
  frame_refused_by answer low high e = go (eqb (first_of rows) 0) refl
    where
      go : (b : Bool) → eqb (first_of rows) 0 ≡ b → FrameRefusedBy rows number count answer
      go true f = let z = eqb-true _ _ f in rw (e ∙ sym (given _ _ _ z)) (position_refused z (high z))
      go false f = let n = eqb-false _ _ f in rw (e ∙ sym (kept _ _ _ n)) (row_refused low n)

-- ---- of each contract

low_rows : (x y z : Bool) → first_of (row 1 x ∷ row 2 y ∷ row 3 z ∷ []) ≤ 3
unfolding first_of
low_rows true y z = omega arith
low_rows false true z = omega arith
low_rows false false true = omega arith
low_rows false false false = omega arith

-- rows 1, 2 and 3 of the single lookup have passed: 11 and 13 are left
high_rows : (x y z b d : Bool) → x ≡ false → y ≡ false → z ≡ false
    → (first_of (row 1 x ∷ row 2 y ∷ row 3 z ∷ row 11 b ∷ row 13 d ∷ []) ≡ 0 → ⊥) → 3 < first_of (row 1 x ∷ row 2 y ∷ row 3 z ∷ row 11 b ∷ row 13 d ∷ [])
unfolding first_of
high_rows x y z true d e f g n = rw (e, f, g) (omega arith)
high_rows x y z false true e f g n = rw (e, f, g) (omega arith)
high_rows x y z false false e f g n = absurd (n (rw (e, f, g) refl))

pub lights_framed_refused_by : (a : Axes) (c : Corners) (light positions answers : List Float) (r : FirstRefusal) (answers' : List Float)
    → LightsFramed a c light positions answers r answers'
    → FrameRefusedBy (frame_rows 1 a c (length light) (length positions) (length answers)) (light_refusal_at a c light positions) (position_count (length positions)) r
unfolding light_frame_refusal
lights_framed_refused_by a c light positions answers r answers' h =
    frame_refused_by
    (frame_rows 1 a c (length light) (length positions) (length answers))
    (light_refusal_at a c light positions)
    (position_count (length positions))
    (omega arith, (omega arith, (omega arith, tt)))
    r
    (low_rows _ _ _)
    (λ z k.
    let p = frame_rows_passed 1 a c (length light) (length positions) (length answers) z in
    let list = sym (ap (λ (n : ℕ). wrong_length (length light) n) (mul-one (voxels a))) ∙ p.2 in
    high_rows (bad_axes a) (bad_grid c a) (wrong_length (length light) (voxels a)) (bad_position (position_at positions k)) (bad_light_cells light (cells_of a c (position_at positions k))) p.0 p.1 list)
    h.answer

pub coefficients_framed_refused_by : (a : Axes) (c : Corners) (volume positions answers : List Float) (r : FirstRefusal) (answers' : List Float)
    → CoefficientsFramed a c volume positions answers r answers'
    → FrameRefusedBy (frame_rows 16 a c (length volume) (length positions) (length answers)) (coefficient_refusal_at a c volume positions) (position_count (length positions)) r
unfolding coefficient_frame_refusal
coefficients_framed_refused_by a c volume positions answers r answers' h =
    frame_refused_by
    (frame_rows 16 a c (length volume) (length positions) (length answers))
    (coefficient_refusal_at a c volume positions)
    (position_count (length positions))
    (omega arith, (omega arith, (omega arith, tt)))
    r
    (low_rows _ _ _)
    (λ z k.
    let p = frame_rows_passed 16 a c (length volume) (length positions) (length answers) z in
    high_rows (bad_axes a) (bad_grid c a) (wrong_length (length volume) (voxels a * 16)) (bad_position (position_at positions k)) (bad_volume_cells volume (cells_of a c (position_at positions k))) p.0 p.1 p.2)
    h.answer
