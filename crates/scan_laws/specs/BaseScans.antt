-- The scans of document 01, which knows no panels: every triangle that the test hits counts, and kind 0 alone stops light. Where no triangle is a panel they are
-- the scans: "Answers for kinds 0 and 1 keep their bits."
use Rattle.std.specs.Prelude.{◌≡◌, Option, None, Bool, cond, ◌||◌, eqb, get_or, Float}
use Rattle.std.proofs.Math.Path.{refl, ap}
use Rattle.std.proofs.Common.{◌∙◌, arith, ne_eqb}
use Rattle.std.proofs.Math.Bool.{true, false}
use mathlib.Core.List.{List, [], ◌∷◌}
use Prim.Native.Nat.{ℕ, zero, suc, ◌≤◌, ◌<◌, suc-le-suc, zero-le}
use Rattle.std.proofs.Math.ListN.{length}
use Rattle.std.specs.Float.Ieee as Ieee
use Rattle.std.specs.Float.Ieee.{binary32}
use Rattle.names.specs.Bits.{zero32, one32}
use Rattle.names.specs.Numbers.{panel_kind, faint_limit}
use Rattle.names.specs.Scene.{Scene, Sound}
use Rattle.vectors.specs.declared.Ray.{Ray}
use Rattle.triangle.specs.Meet.{meet_of}
use Rattle.triangle.specs.Places.{triangle_at}
use Rattle.triangle.specs.declared.Hit.{Hit}
use Rattle.panels.specs.Panels.{kind_at, stops_light, meet_at}
use Rattle.panels.specs.PanelLaws.{plain_met, by_list}
use Rattle.hits.specs.Hits.{Struck, with_meet, hits_of, places_of}
use Rattle.hits.proofs.HitLaws.{places_below}
use Rattle.scan.specs.Nearest.{nearer_of, nearest_to, nearest_of}
use Rattle.scan.specs.Transmittance.{transmission_at, pass_of, transmittance_of}
use Rattle.scan.specs.declared.PlacedHit.{PlacedHit}

-- no triangle is a panel
abbrev pub NoPanels : Scene → Type 0
NoPanels scene = (i : ℕ) → i < length scene.uses → kind_at scene.uses scene.kinds i ≡ panel_kind → ⊥

-- as where every kind is 0 or 1
pub old_kinds : (scene : Scene) → Sound scene → ((k : ℕ) → k < length scene.kinds → get_or scene.kinds k 0 ≤ 1) → NoPanels scene
old_kinds scene s f i h e = let g = f (get_or scene.uses i 0) (s.within i h) in absurd (omega arith)

module _ (scene : Scene) (ray : Ray) where
  -- what the test answers, whatever the kind
  abbrev tested_at : ℕ → Option Hit
  tested_at i = meet_of ray (triangle_at scene.points i)

  unfoldable pub nearest_base : ℕ → Option PlacedHit
  nearest_base zero = None
  nearest_base (suc i) = nearer_of (nearest_base i) i (tested_at i)

  unfoldable pub hits_base : ℕ → List Struck
  hits_base zero = []
  hits_base (suc i) = with_meet (hits_base i) i (tested_at i)

  unfoldable pub pass_base : Float → List ℕ → Float
  pass_base w [] = w
  pass_base w (i ∷ is) =
      let x = Ieee.mul binary32 w (transmission_at scene.uses scene.numbers i) in
      cond (eqb (kind_at scene.uses scene.kinds i) 0) zero32 (cond (Ieee.le x faint_limit) zero32 (pass_base x is))

  unfoldable pub transmittance_base : Float
  transmittance_base = pass_base one32 (places_of (hits_base (length scene.uses)))

  module _ (treeless : scene.boxed ≡ false) (none : NoPanels scene) where
    tested : (i : ℕ) → i < length scene.uses → meet_at scene ray i ≡ tested_at i
    tested i h = rw treeless (by_list scene.points scene.uses scene.kinds ray i ∙ plain_met scene.points scene.uses scene.kinds ray i (none i h))

    nearest_to_base : (n : ℕ) → n ≤ length scene.uses → nearest_to scene ray n ≡ nearest_base n
    unfolding nearest_to nearest_base
    nearest_to_base zero h = refl
    nearest_to_base (suc n) h = rw (nearest_to_base n (omega arith), tested n h) refl

    -- the nearest hit is document 01's
    pub nearest_base_lem : nearest_of scene ray ≡ nearest_base (length scene.uses)
    unfolding nearest_of
    nearest_base_lem = nearest_to_base (length scene.uses) (omega arith)

    hits_base_lem : (n : ℕ) → n ≤ length scene.uses → hits_of scene ray n ≡ hits_base n
    unfolding hits_of hits_base
    hits_base_lem zero h = refl
    hits_base_lem (suc n) h = rw (hits_base_lem n (omega arith), tested n h) refl

    stops_base : (kind : ℕ) → (kind ≡ panel_kind → ⊥) → stops_light kind ≡ eqb kind 0
    unfolding stops_light
    stops_base kind n = rw (ne_eqb kind panel_kind n) (by (eqb kind 0))
      where
        by : (b : Bool) → b || false ≡ b
        by true = refl
        by false = refl

    pass_base_lem : (w : Float) (is : List ℕ) → ((j : ℕ) → j < length is → get_or is j 0 < length scene.uses)
        → pass_of scene.uses scene.kinds scene.numbers w is ≡ pass_base w is
    unfolding pass_of pass_base
    pass_base_lem w [] h = refl
    pass_base_lem w (i ∷ is) h =
        rw (
          stops_base (kind_at scene.uses scene.kinds i) (none i (h 0 (suc-le-suc zero-le))),
          pass_base_lem (Ieee.mul binary32 w (transmission_at scene.uses scene.numbers i)) is (λ j l. h (suc j) (suc-le-suc l)),
        )
        refl

    -- and the transmittance too
    pub transmittance_base_lem : transmittance_of scene ray ≡ transmittance_base
    unfolding transmittance_of transmittance_base
    transmittance_base_lem =
        let n = length scene.uses in
        pass_base_lem one32 (places_of (hits_of scene ray n)) (places_below scene ray n)
        ∙ ap (λ (hs : List Struck). pass_base one32 (places_of hs)) (hits_base_lem n (omega arith))
