-- A frame's answer from its parts: a row that holds, a position that is refused, or all that is found.
use mathlib.Core.Path.{◌≡◌, refl, sym, ap, ◌∙◌}
use mathlib.Core.Bool.{Bool, true, false}
use mathlib.Core.List.{List}
use Prim.Native.Nat.{ℕ, ◌*◌, ◌<◌}
use native.Mathlib.Omega.{arith}
use lib.Dec.{eqb}
use borrow.Author.Tests.{eqb-true, eqb-false}
use lib.ListN.{length}
use lib.Ieee.{Float}
use Rattle.names.specs.Refusals.{first_of, kept, given}
use Rattle.vectors.specs.declared.Vec3.{Vec3}
use Rattle.grid.specs.declared.Axes.{Axes}
use Rattle.grid.specs.declared.Corners.{Corners}
use Rattle.lookup.specs.Lookup.{GridGood}
use Rattle.frames.specs.declared.FirstRefusal.{FirstRefusal}
use Rattle.frames.specs.Frames.{position_count, refused_at, frame_rows}
use Rattle.frames.specs.FramesLaws.{least_none, frame_row, frame_rows_passed}
use Rattle.frames.specs.Passes.{FrameAnswered, EachAccepted, first_position, frame_refusal}

module _ (each : ℕ) (refusal : Axes → Corners → List Float → Vec3 → ℕ) (a : Axes) (c : Corners) (list positions : List Float) where
  abbrev rows_number : ℕ → ℕ
  rows_number answers = first_of (frame_rows each a c (length list) (length positions) answers)

  -- ---- the first refusal

  pub row_first : (n answers : ℕ) → n ≡ rows_number answers → (n ≡ 0 → ⊥) → refused_at n 0 ≡ frame_refusal each refusal a c list positions answers
  row_first n answers e m = ap (λ (r : ℕ). refused_at r 0) e ∙ kept _ _ _ (λ z. m (e ∙ z))

  pub position_first : (r : FirstRefusal) (answers : ℕ) → 0 ≡ rows_number answers → r ≡ first_position refusal a c list positions
      → r ≡ frame_refusal each refusal a c list positions answers
  position_first r answers z e = e ∙ given _ _ _ (sym z)

  -- there is none
  pub none_first : refused_at 0 0 ≡ first_position refusal a c list positions → EachAccepted refusal a c list positions
  none_first e k h =
      (least_none _ (position_count (length positions)) 0).0 (ap (λ (x : FirstRefusal). x.refusal) (sym e)) k (omega arith) (omega arith)

  -- ---- what is left

  module _ (frame : Axes → Corners → List Float → List Float → List Float) where
    pub frame_refused : (r : FirstRefusal) (answers : List Float) → r ≡ frame_refusal each refusal a c list positions (length answers) → (r.refusal ≡ 0 → ⊥)
        → FrameAnswered each refusal frame a c list positions answers r answers
    frame_refused r answers e n = record { answer = e; answers_after = kept _ _ _ n }

    pub frame_found : (answers answers' : List Float) → refused_at 0 0 ≡ frame_refusal each refusal a c list positions (length answers)
        → answers' ≡ frame a c list positions → FrameAnswered each refusal frame a c list positions answers (refused_at 0 0) answers'
    frame_found answers answers' e f = record { answer = e; answers_after = f ∙ given 0 _ _ refl }

  -- ---- where the rows have passed

  module _ (answers : ℕ) where
    pub rows_first_none : refused_at 0 0 ≡ frame_refusal each refusal a c list positions answers → 0 ≡ rows_number answers
    rows_first_none e = go (eqb (rows_number answers) 0) refl
      where
        go : (b : Bool) → eqb (rows_number answers) 0 ≡ b → 0 ≡ rows_number answers
        go true f = sym (eqb-true _ _ f)
        go false f = ap (λ (x : FirstRefusal). x.refusal) (e ∙ sym (kept _ _ _ (eqb-false _ _ f)))

    module _ (z : 0 ≡ rows_number answers) where
      pub grid_good : GridGood each a c list
      grid_good =
          let r = frame_rows_passed each a c (length list) (length positions) answers (sym z) in
          record { axes = r.0; grid = r.1; fits = r.2 }

      pub answers_long : 0 < each → answers ≡ position_count (length positions) * each
      answers_long h =
          let r = frame_rows_passed each a c (length list) (length positions) answers (sym z) in
          ((frame_row each (length positions) answers h).0 r.3).1

      pub positions_first : refused_at 0 0 ≡ frame_refusal each refusal a c list positions answers → refused_at 0 0 ≡ first_position refusal a c list positions
      positions_first e = e ∙ sym (given _ _ _ (sym z))
