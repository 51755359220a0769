-- What the scan for a transmittance holds from search to search: the first m of two lists, put in order, are the hits of the first i triangles, each distance is
-- a number, and no hit stops light.
use Rattle.std.specs.Prelude.{◌≡◌, refl, Some, false, List, [], ◌++◌, ℕ, ◌+◌, ◌≤◌, ◌<◌, length, get_or, take, set, Float}
use Rattle.std.proofs.Common.{sym, ap, subst, ◌∙◌, arith, add-one, length-set, length-take-le}
use lib.Seq.{take_at}
use mathlib.Core.List.Memᴰ
use Rattle.names.specs.Bits.{one32}
use Rattle.names.specs.Scene.{Scene, Sound, HitsFit}
use Rattle.vectors.specs.declared.Ray.{Ray}
use Rattle.triangle.specs.Missed.{AllMiss}
use Rattle.panels.specs.Panels.{kind_at, stops_light, meet_at}
use Rattle.hits.specs.BeforeLaws.{hit_number}
use Rattle.hits.specs.Hits.{Struck, struck, paired, hits_of, places_of}
use Rattle.hits.proofs.HitLaws.{places_below}
use Rattle.hits.specs.Merge.{insert_all, sort_of, Numbers}
use Rattle.hits.specs.MergeLaws.{insert_all_append, numbers_append}
use Rattle.hits.specs.PairedLaws.{paired_places, stored}
use Rattle.scan.specs.FirstHit.{FirstOf, hits_over, hits_first}
use Rattle.scan.specs.OpaqueLaws.{NoneOpaque, none_opaque_put, clear_room, clear_pass, clear_pass_of}
use Rattle.scan.specs.Transmittance.{transmittance_of}
use Rattle.scan.specs.declared.PlacedHit.{PlacedHit}

pub record Collected (scene : Scene) (ray : Ray) (i m : ℕ) (distances : List Float) (places : List ℕ) : Type 0 where
  pub few : m ≤ i
  pub distances_long : m ≤ length distances
  pub places_long : m ≤ length places
  pub hits : sort_of (paired (take m distances) (take m places)) ≡ hits_of scene ray i
  pub numbers : Numbers (paired (take m distances) (take m places))
  pub clear : NoneOpaque scene.uses scene.kinds (hits_of scene ray i)

module _ (scene : Scene) (ray : Ray) where
  pub collected_none : (ds : List Float) (ps : List ℕ) → Collected scene ray 0 0 ds ps
  unfolding hits_of paired insert_all
  collected_none ds ps =
      record { few = omega arith; distances_long = omega arith; places_long = omega arith; hits = refl; numbers = tt; clear = λ h m. absurd (Memᴰ.not-nil m) }

  module _ (i m : ℕ) (ds : List Float) (ps : List ℕ) (c : Collected scene ray i m ds ps) where
    -- triangles that are missed add none
    pub collected_over : (j : ℕ) → i ≤ j → AllMiss (meet_at scene ray) i j → Collected scene ray j m ds ps
    collected_over j h a =
        let e = hits_over scene ray i j h a in
        record {
          few = omega (arith, c.few);
          distances_long = c.distances_long;
          places_long = c.places_long;
          hits = c.hits ∙ sym e;
          numbers = c.numbers;
          clear = rw e c.clear;
        }

    -- a hit that lets light through has room in the lists, and goes to the others
    module _ (sound : Sound scene) {d p : ℕ} (fit : HitsFit scene d p) (d_is : length ds ≡ d) (p_is : length ps ≡ p) (n : ℕ) (b : n ≤ length scene.uses)
        (met : PlacedHit) (first : FirstOf scene ray i n (Some met)) (k : ℕ) (kind : k ≡ kind_at scene.uses scene.kinds met.place) (e : false ≡ stops_light k) where
      lets : stops_light (kind_at scene.uses scene.kinds met.place) ≡ false
      lets = rw kind at (sym e)

      pub collected_room : (m < length ds) × (m < length ps)
      collected_room =
          let below : met.place < length scene.uses = omega (arith, first.1) in
          let all = clear_room scene met.place sound below lets in
          (omega (arith, all, c.few, first.0, fit.0), omega (arith, all, c.few, first.0, fit.1))

      pub collected_more : Collected scene ray (met.place + 1) (m + 1) (set ds m met.hit.t) (set ps m met.place)
      unfolding insert_all
      collected_more =
          let room = collected_room in
          let one = stored ds ps m met.hit.t met.place room.0 room.1 in
          record {
            few = omega (arith, c.few, first.0);
            distances_long = omega (arith, room.0, length-set ds m met.hit.t);
            places_long = omega (arith, room.1, length-set ps m met.place);
            hits =
                ap (λ (l : List Struck). sort_of l) one
                ∙ insert_all_append [] (paired (take m ds) (take m ps)) _
                ∙ rw (c.hits, add-one) (sym (hits_first scene ray i n met first));
            numbers =
                subst (λ (l : List Struck). Numbers l) (sym one)
                (numbers_append (paired (take m ds) (take m ps)) _ c.numbers (hit_number _ _ _ _ _ _ met.hit first.3, tt));
            clear =
                rw (add-one, hits_first scene ray i n met first)
                (none_opaque_put scene.uses scene.kinds (struck met.hit.t met.place) (hits_of scene ray i) lets c.clear);
          }

  -- at the end, once the lists are put in order
  module _ (i m : ℕ) (ds : List Float) (ps : List ℕ) (c : Collected scene ray i m ds ps) (all : i ≡ length scene.uses)
      (ts : List Float) (is : List ℕ) (t_long : length ts ≡ length (take m ds)) (i_long : length is ≡ length (take m ps)) (ordered : paired ts is ≡ sort_of (paired (take m ds) (take m ps)))
      (rest : List ℕ) where
    pub collected_places : take m (is ++ rest) ≡ places_of (hits_of scene ray (length scene.uses))
    collected_places =
        let t_is : length ts ≡ m = t_long ∙ length-take-le m ds c.distances_long in
        let i_is : length is ≡ m = i_long ∙ length-take-le m ps c.places_long in
        take_at is rest m i_is
        ∙ sym (paired_places ts is (t_is ∙ sym i_is))
        ∙ ap (λ (h : List Struck). places_of h) (ordered ∙ c.hits ∙ rw all)

    -- each place stands in the list of uses
    pub collected_below : (j : ℕ) → j < length (take m (is ++ rest)) → get_or (take m (is ++ rest)) j 0 < length scene.uses
    collected_below = rw collected_places (places_below scene ray (length scene.uses))

    -- and the product is what passes
    pub collected_passes : clear_pass_of scene.uses scene.numbers one32 (take m (is ++ rest)) ≡ transmittance_of scene ray
    unfolding transmittance_of
    collected_passes =
        rw collected_places (sym (clear_pass scene.uses scene.kinds scene.numbers one32 (hits_of scene ray (length scene.uses)) (rw all at c.clear)))
