-- Two accepted trees of one scene agree, of results of the public calls tree_nearest and tree_transmittance: the answers are the same, refusals too.
use Rattle.std.specs.Prelude.{Option, ◌≡◌, List, ℕ, Float}
use Rattle.std.proofs.Common.{sym, ap, ◌∙◌}
use Rattle.std.proofs.Math.Path.{ap₂}
use Rattle.std.proofs.Math.Bool.{true}
use Rattle.names.specs.Bits.{zero32}
use Rattle.names.specs.Refusals.{unless_refused}
use Rattle.names.specs.Scene.{tree_scene}
use Rattle.vectors.specs.declared.Ray.{Ray}
use Rattle.tree.specs.Tree.{AcceptedTree}
use Rattle.scan.specs.declared.PlacedHit.{PlacedHit}
use Rattle.tracing.specs.UnreadLaws.{nearest_unread, transmittance_unread}
use Rattle.rays.specs.declared.Found.{Found}
use Rattle.rays.specs.declared.Transmitted.{Transmitted}
use Rattle.rays.specs.Rays.{found_case, found_of, TreeNearestAnswered, TreeTransmittanceAnswered}
use Rattle.rays.specs.RaysLaws.{SameTransmitted, transmittance_answered_once}
use Rattle.tree_alike.specs.RefusalsAlike.{nearest_refusals_alike, transmittance_refusals_alike}

module _ (points : List Float) (uses kinds : List ℕ) (numbers boxes boxes' : List Float) (nodes order nodes' order' : List ℕ)
    (accepted : AcceptedTree points boxes nodes order) (accepted' : AcceptedTree points boxes' nodes' order') (ray : Ray) where
  found_alike : found_of (tree_scene points uses kinds numbers boxes nodes order) ray ≡ found_of (tree_scene points uses kinds numbers boxes' nodes' order') ray
  unfolding found_of
  found_alike =
      ap₂ (λ (k : ℕ) (n : Option PlacedHit). unless_refused k (found_case n) (Found.Refused k))
      (nearest_refusals_alike points uses kinds numbers boxes boxes' nodes order nodes' order' accepted accepted' ray)
      (nearest_unread true points uses kinds numbers boxes boxes' nodes order nodes' order' ray)

  pub trees_found : (r s : Found) → TreeNearestAnswered points uses kinds numbers boxes nodes order ray r → TreeNearestAnswered points uses kinds numbers boxes' nodes' order' ray s
      → r ≡ s
  trees_found r s f g = f.answer ∙ found_alike ∙ sym g.answer

  pub trees_transmitted : (distances : List Float) (places : List ℕ) (r s : Transmitted) (d e : List Float) (p q : List ℕ)
      → TreeTransmittanceAnswered points uses kinds numbers boxes nodes order ray distances places r d p
      → TreeTransmittanceAnswered points uses kinds numbers boxes' nodes' order' ray distances places s e q
      → SameTransmitted r s d e p q
  trees_transmitted distances places r s d e p q f g =
      transmittance_answered_once (tree_scene points uses kinds numbers boxes nodes order) ray distances places r s d e p q f
      (record {
        answer = g.answer ∙ sym (transmittance_refusals_alike points uses kinds numbers boxes boxes' nodes order nodes' order' accepted accepted' ray distances places);
        transmittance = g.transmittance
            ∙ ap (λ (t : Float). unless_refused s.refusal t zero32) (sym (transmittance_unread true points uses kinds numbers boxes boxes' nodes order nodes' order' ray));
        distances_kept = g.distances_kept;
        places_kept = g.places_kept;
        distances_long_is = g.distances_long_is;
        places_long_lem = g.places_long_lem;
      })
