-- The call's definition, opened: what a refused call and an accepted call come to.
use Rattle.std.specs.Prelude.{◌≡◌, Bool, true, false, cond, ℕ, zero, suc, eqb, Float}
use Rattle.std.proofs.Math.Path.{refl}
use Rattle.std.proofs.Common.{sym, ap, ◌∙◌, arith, eq-eqb, ne_eqb}
use Rattle.spread.specs.Spread.{Stage, Called, baked, accepted, call}
use Rattle.intake.specs.Intake.{BakeInput, voxel_count, bake_refusal}
use Rattle.demand.specs.Bake.{bake_of, bake_call}

module _ (b : BakeInput) (s : Stage Float) (a : ℕ) where
  -- a refusal returns its number, zero rays, the whole progress as handed in, and writes nothing
  pub refused_call : (bake_refusal b s a ≡ 0 → ⊥) → bake_call b s a ≡ record { refusal = bake_refusal b s a; rays = 0; stage = s }
  unfolding call
  refused_call n = rw (ne_eqb (bake_refusal b s a) 0 n) refl

  pub accepted_call : bake_refusal b s a ≡ 0 → bake_call b s a ≡ accepted (bake_of b) a s
  unfolding call
  accepted_call e = rw (eq-eqb (bake_refusal b s a) 0 e) refl

  pub accepted_none : (accepted (bake_of b) a s).refusal ≡ 0
  accepted_none = go (eqb s.progress.next (voxel_count b))
    where
      go : (t : Bool) → (cond t (record { refusal = 0; rays = 0; stage = s }) (baked (bake_of b) a s)).refusal ≡ 0
      go true = refl
      go false = refl

  -- the number answered is that of the rows
  pub answers_refusal : (bake_call b s a).refusal ≡ bake_refusal b s a
  answers_refusal = go (bake_refusal b s a) refl
    where
      go : (n : ℕ) → bake_refusal b s a ≡ n → (bake_call b s a).refusal ≡ bake_refusal b s a
      go zero e = ap (λ (c : Called Float). c.refusal) (accepted_call e) ∙ accepted_none ∙ sym e
      go (suc n) e = ap (λ (c : Called Float). c.refusal) (refused_call (λ z. omega (arith, e, z)))
