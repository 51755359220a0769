-- Between solid walls, where no other kind stands in the list, a ray passes whole or not at all: 1.0 where every triangle is missed, and 0 where any is met,
-- whichever that is and wherever it stands in the list. So "a second engine that stops a transmittance ray at its first hit" answers the same, by
-- whatever hit it finds first, and holds none. Each triangle is met as document 01 has it, from both sides.
use Rattle.std.specs.Prelude.{◌≡◌, Option, None, Some, false, ◌↔◌, ℕ, ◌<◌, length, get_or, Float}
use Rattle.std.proofs.Math.Path.{refl, ap}
use Rattle.std.proofs.Common.{sym, ◌∙◌, arith}
use Rattle.std.proofs.lemmas.Bool.{false≢true}
use Rattle.std.specs.Float.Ieee as Ieee
use Rattle.std.specs.Float.Ieee.{of_bits, of_fields, odd}
use Rattle.names.specs.Bits.{zero32, one32}
use Rattle.names.specs.Numbers.{opaque_kind}
use Rattle.names.specs.Scene.{Scene, Sound, other_kind}
use Rattle.names.specs.SolidLaws.{none_other}
use Rattle.vectors.specs.declared.Ray.{Ray}
use Rattle.triangle.specs.Meet.{meet_of}
use Rattle.triangle.specs.Places.{triangle_at}
use Rattle.triangle.specs.declared.Hit.{Hit}
use Rattle.panels.specs.Panels.{kind_at, stops_light, meet_at}
use Rattle.panels.specs.PanelLaws.{plain_met, by_list}
use Rattle.hits.specs.Hits.{hits_of}
use Rattle.scan.specs.Nearest.{nearest_of}
use Rattle.scan.specs.Transmittance.{pass_of, transmittance_of}
use Rattle.scan.specs.FirstHit.{hits_over}
use Rattle.scan.specs.OpaqueLaws.{opaque_dark}
use Rattle.scan.specs.declared.PlacedHit.{PlacedHit}
use Rattle.scan_laws.specs.NearestLaws.{AllMissed, nearest_is_nearest, nothing_is_missed}

-- all light where there is no hit, and none where there is one
unfoldable pub all_or_nothing : Option PlacedHit → Float
all_or_nothing None = one32
all_or_nothing (Some best) = zero32

one_not_zero : zero32 ≡ one32 → ⊥
unfolding of_bits of_fields odd Ieee.lt
one_not_zero e = false≢true (ap (Ieee.lt zero32) e)

module _ (scene : Scene) (ray : Ray) (sound : Sound scene) (none : other_kind scene.kinds ≡ false) where
  opaque_at : (i : ℕ) → i < length scene.uses → kind_at scene.uses scene.kinds i ≡ opaque_kind
  opaque_at i h = (none_other scene.kinds).0 none (get_or scene.uses i 0) (sound.within i h)

  -- what is met of a triangle without a box tree is what the test answers, from either side
  pub solid_met : scene.boxed ≡ false → (i : ℕ) → i < length scene.uses → meet_at scene ray i ≡ meet_of ray (triangle_at scene.points i)
  solid_met treeless i h = rw treeless (by_list scene.points scene.uses scene.kinds ray i ∙ plain_met scene.points scene.uses scene.kinds ray i (λ e. let o = opaque_at i h in absurd (omega arith)))

  -- any hit leaves nothing
  pub solid_stopped : (i : ℕ) (h : Hit) → i < length scene.uses → meet_at scene ray i ≡ Some h → transmittance_of scene ray ≡ zero32
  unfolding stops_light
  solid_stopped i h l e = opaque_dark scene ray i h l e (ap stops_light (opaque_at i l))

  -- none leaves all
  pub solid_passed : AllMissed scene ray (length scene.uses) → transmittance_of scene ray ≡ one32
  unfolding transmittance_of pass_of hits_of
  solid_passed m = rw (hits_over scene ray 0 (length scene.uses) (omega arith) (λ l p q. m l q)) refl

  -- in one line: as there is a nearest hit or none
  pub solid_all_or_nothing : transmittance_of scene ray ≡ all_or_nothing (nearest_of scene ray)
  unfolding all_or_nothing
  solid_all_or_nothing = go (nearest_of scene ray) refl
    where
      go : (n : Option PlacedHit) → nearest_of scene ray ≡ n → transmittance_of scene ray ≡ all_or_nothing n
      go None e = solid_passed (nothing_is_missed scene ray e)
      go (Some best) e = let k = nearest_is_nearest scene ray best e in solid_stopped best.place best.hit k.within k.met

  -- light passes exactly where nothing is met
  pub solid_exactly : (transmittance_of scene ray ≡ one32) ↔ AllMissed scene ray (length scene.uses)
  unfolding all_or_nothing
  solid_exactly = (λ e. go (nearest_of scene ray) refl (sym e ∙ solid_all_or_nothing), solid_passed)
    where
      go : (n : Option PlacedHit) → nearest_of scene ray ≡ n → one32 ≡ all_or_nothing (nearest_of scene ray) → AllMissed scene ray (length scene.uses)
      go None e f = nothing_is_missed scene ray e
      go (Some best) e f = absurd (one_not_zero (sym (f ∙ ap all_or_nothing e)))
