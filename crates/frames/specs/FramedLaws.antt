-- A frame that is not refused, of lights and of coefficients: what stands between the cells of each position.
use Rattle.std.specs.Prelude.{◌≡◌, refl, List, [], ◌∷◌, ℕ, zero, suc, ◌+◌, Float}
use Rattle.std.proofs.Common.{sym, ap, ◌∙◌, arith}
use Rattle.names.specs.Bits.{zero32}
use Rattle.names.specs.Refusals.{given}
use Rattle.lists.specs.Fold.{tab, tab_same}
use Rattle.lists.specs.Laid.{laid, laid_same}
use Rattle.vectors.specs.declared.Vec3.{Vec3}
use Rattle.grid.specs.declared.Axes.{Axes}
use Rattle.grid.specs.declared.Corners.{Corners}
use Rattle.lookup.specs.Place.{cells_of}
use Rattle.lookup.specs.Lookup.{light_refusal, light_blend, light_at_of, coefficient_refusal, coefficient_blend, coefficients_at_of, no_numbers}
use Rattle.frames.specs.Frames.{light_frame_of, coefficient_frame_of}
use Rattle.frames.specs.Passes.{FramedLaws}

-- what is found where nothing is refused

light_there : (a : Axes) (c : Corners) (l : List Float) (p : Vec3) → light_refusal a c l p ≡ 0 → (light_at_of a c l p).light ≡ light_blend l (cells_of a c p)
unfolding light_at_of
light_there a c l p e = sym (given (light_refusal a c l p) (light_blend l (cells_of a c p)) zero32 e)

coefficients_there : (a : Axes) (c : Corners) (l : List Float) (p : Vec3) → coefficient_refusal a c l p ≡ 0
    → (coefficients_at_of a c l p).numbers ≡ coefficient_blend l (cells_of a c p)
unfolding coefficients_at_of
coefficients_there a c l p e = sym (given (coefficient_refusal a c l p) (coefficient_blend l (cells_of a c p)) no_numbers e)

one_each : (f : ℕ → Float) (k i : ℕ) → tab f k i ≡ laid (λ (j : ℕ). f j ∷ []) k i
unfolding tab laid
one_each f zero i = refl
one_each f (suc k) i = ap (λ (l : List Float). f i ∷ l) (one_each f k (i + 1))

pub lights_framed_laws : FramedLaws light_blend light_refusal (λ x. x ∷ []) light_frame_of
unfolding light_frame_of
lights_framed_laws =
    record { frame_is = λ a c list positions none. tab_same _ _ _ 0 (λ k p q. light_there a c list _ (none k (omega arith))) ∙ one_each _ _ 0 }

pub coefficients_framed_laws : FramedLaws coefficient_blend coefficient_refusal (λ numbers. numbers) coefficient_frame_of
unfolding coefficient_frame_of
coefficients_framed_laws =
    record { frame_is = λ a c list positions none. laid_same _ _ _ 0 (λ k p q. coefficients_there a c list _ (none k (omega arith))) }
