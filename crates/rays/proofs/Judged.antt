-- What the rows of a call refuse, as the code asks them: first the lengths, then the rows over what they say. Assumes nothing.
use Rattle.std.specs.Prelude.{◌≡◌, Bool, true, false, ◌||◌, List, ℕ, length, Float}
use Rattle.std.proofs.Common.{sym, ◌∙◌}
use Rattle.names.specs.Refusals.{first_of}
use Rattle.names.specs.Scene.{Scene, Sound}
use Rattle.vectors.specs.declared.Ray.{Ray}
use Rattle.limits.specs.Limits.{short_hits}
use Rattle.tree.specs.Trees.{TreeStands}
use Rattle.rays.specs.Rays.{wrong_scene_lists, scan_rows, nearest_refusal, wrong_scratch, transmittance_refusal, solid_transmittance_refusal}
use Rattle.rays.specs.RaysLaws.{nearest_sound, TransmittanceReady, transmittance_ready, solid_transmittance_ready}

module _ (scene : Scene) (ray : Ray) (refusal : ℕ) (lists : Bool) (l : lists ≡ wrong_scene_lists scene) where
  module _ (e : refusal ≡ first_of (scan_rows false lists scene ray)) where
    pub nearest_judged : refusal ≡ nearest_refusal scene ray
    unfolding nearest_refusal
    nearest_judged = e ∙ rw l

    pub nearest_sound_of : refusal ≡ 0 → Sound scene × TreeStands scene
    nearest_sound_of z = nearest_sound scene ray (sym nearest_judged ∙ z)

  module _ (e : refusal ≡ first_of (scan_rows true lists scene ray)) where
    pub solid_judged : refusal ≡ solid_transmittance_refusal scene ray
    unfolding solid_transmittance_refusal
    solid_judged = e ∙ rw l

    pub solid_ready_of : refusal ≡ 0 → TransmittanceReady scene 0 0
    solid_ready_of z = solid_transmittance_ready scene ray (sym solid_judged ∙ z)

  -- with hit scratch
  module _ (ds : List Float) (ps : List ℕ) (short : Bool) (h : short ≡ short_hits false (length ds) (length ps) (length scene.uses))
      (e : refusal ≡ first_of (scan_rows false (lists || short) scene ray)) where
    pub judged : refusal ≡ transmittance_refusal scene ray ds ps
    unfolding transmittance_refusal wrong_scratch
    judged = e ∙ rw (l, h)

    pub ready_of : refusal ≡ 0 → TransmittanceReady scene (length ds) (length ps)
    ready_of z = transmittance_ready scene ray ds ps (sym judged ∙ z)
