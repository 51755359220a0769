-- The wrong bakes that document 01 shuts out by name, refuted by the contract itself. After the first call over three active voxels and no triangles,
-- at an allowance of 384, every result that satisfies the contract answers no refusal, next 1, 64 rays so far and 64 rays, with voxel 0 gathered, voxels 1 and 2
-- ambient and scratch untouched; and what is gathered for voxel 0 is not ambient. So none refuses everything, leaves the volume always ambient, bakes
-- all in call one, or invents its count; and none leaves the volume untouched, since voxel 1 held zeros.
use Rattle.std.specs.Prelude.{◌≡◌, refl, List, [], ◌∷◌, ℕ, get_or, Float}
use Rattle.std.proofs.Common.{sym, ap, ◌∙◌, arith, lit<}
use Rattle.std.proofs.lemmas.Bool.{false≢true}
use Rattle.std.specs.Float.Ieee as Ieee
use Rattle.std.specs.Float.{nan}
use Rattle.std.specs.Float.Ieee.{of_bits}
use Rattle.names.specs.Bits.{one32}
use Rattle.lists.specs.Fold.{tab}
use Rattle.lists.specs.Laid.{voxel_part}
use Rattle.words.specs.Words.{entries_of}
use Rattle.spread.specs.declared.Progress.{Progress}
use Rattle.spread.specs.Spread.{progress_of, call, run}
use Rattle.ends.specs.Ends.{ambient_voxel, ambient_at}
use Rattle.gather.specs.Gather.{gathered_of}
use Rattle.intake.specs.Three.{three, begun, three_accepted}
use Rattle.demand.specs.Bake.{gather_input, bake_of}
use Rattle.demand.proofs.Demanded.{bake_demand}
use Rattle.demand.proofs.Figure.{figure_first, gathered_differs}
use Rattle.bake.specs.declared.BakeAnswer.{BakeAnswer}
use Rattle.bake.specs.Baked.{Baked}

head_of : {x y : ℕ} → x ∷ [] ≡ y ∷ [] → x ≡ y
head_of e = ap (λ (l : List ℕ). get_or l 0 0) e

pub record First (r : BakeAnswer) (v x : List Float) : Type 0 where
  pub refusal : r.refusal ≡ 0
  pub progress : r.progress ≡ progress_of 1 64
  pub rays : r.rays ≡ 64
  pub baked : voxel_part 16 0 v ≡ gathered_of (gather_input three) 0
  pub not_ambient : voxel_part 16 0 v ≡ ambient_at three.ambient three.lights 0 → ⊥
  pub second : voxel_part 16 1 v ≡ ambient_at three.ambient three.lights 1
  pub third : voxel_part 16 2 v ≡ ambient_at three.ambient three.lights 2
  pub touched : v ≡ begun.volume → ⊥
  pub scratch : x ≡ begun.scratch

pub after_the_first : (r : BakeAnswer) (v x d d' : List Float) (p p' : List ℕ) → Baked three begun 384 r v x d d' p p' → First r v x
unfolding run entries_of tab ambient_voxel of_bits Ieee.eq
after_the_first r v x d d' p p' h =
    let q : (call (bake_of three) 384 begun).stage.progress.next ≡ 1 = ap (λ (p : Progress). p.next) figure_first.2 in
    let b = (bake_demand three begun 384 three_accepted.0).before (384 ∷ []) begun refl (omega (arith, q)) (omega (arith, q)) in
    let e₀ : voxel_part 16 0 v ≡ gathered_of (gather_input three) 0 = ap (voxel_part 16 0) h.volume ∙ b.0 0 (lit< tt) ∙ rw q refl in
    let e₁ : voxel_part 16 1 v ≡ ambient_at three.ambient three.lights 1 = ap (voxel_part 16 1) h.volume ∙ b.0 1 (lit< tt) ∙ rw q refl in
    let e₂ : voxel_part 16 2 v ≡ ambient_at three.ambient three.lights 2 = ap (voxel_part 16 2) h.volume ∙ b.0 2 (lit< tt) ∙ rw q refl in
    record {
      refusal = h.refusal ∙ head_of figure_first.0;
      progress = h.progress ∙ figure_first.2;
      rays = h.rays ∙ head_of figure_first.1;
      baked = e₀;
      not_ambient = λ z. gathered_differs (sym e₀ ∙ z);
      second = e₁;
      third = e₂;
      touched = λ z. false≢true (ap (λ (l : List Float). Ieee.eq (get_or l 0 nan) one32) (ap (voxel_part 16 1) (sym z) ∙ e₁));
      scratch = h.scratch ∙ b.2;
    }
