-- A hit that stops light, of an opaque triangle or of a panel's front, lets none through, at whatever place of the order it stands. So the scan for a transmittance may end at the first that it meets, and
-- where it meets none the product need not ask.
use Rattle.std.specs.Prelude.{◌≡◌, refl, Some, Bool, true, false, cond, ℕ, ◌<◌, length, get_or, Float}
use Rattle.std.proofs.Common.{sym, ap, ◌∙◌, ⊎_elim}
use Rattle.std.proofs.lemmas.Bool.{false≢true}
use mathlib.Core.List.Memᴰ
use mathlib.Core.List.{List, [], ◌∷◌, Memᴰ}
use Rattle.std.specs.Float.Ieee as Ieee
use Rattle.std.specs.Float.{binary32}
use Rattle.names.specs.Bits.{zero32, one32}
use Rattle.names.specs.Numbers.{opaque_kind, faint_limit}
use Rattle.names.specs.Scene.{Scene, Sound, hit_room}
use Rattle.names.specs.SolidLaws.{other_room}
use Rattle.vectors.specs.declared.Ray.{Ray}
use Rattle.triangle.specs.declared.Hit.{Hit}
use Rattle.panels.specs.Panels.{kind_at, stops_light, meet_at}
use Rattle.hits.specs.Hits.{Struck, struck, insert_of, places_of}
use Rattle.hits.proofs.HitLaws.{put_only, hits_all}
use Rattle.scan.specs.Transmittance.{transmission_at, pass_of, transmittance_of}

either_way : (b : Bool) (x : Float) → cond b x x ≡ x
either_way true x = refl
either_way false x = refl

opaque_pass : (uses kinds : List ℕ) (numbers : List Float) (w : Float) (i : ℕ) (is : List ℕ) → Memᴰ i is → stops_light (kind_at uses kinds i) ≡ true
    → pass_of uses kinds numbers w is ≡ zero32
unfolding pass_of
opaque_pass uses kinds numbers w i [] m e = absurd (Memᴰ.not-nil m)
opaque_pass uses kinds numbers w i (j ∷ is) m e =
    ⊎_elim (λ (h : i ≡ j). let f : stops_light (kind_at uses kinds j) ≡ true = rw h at e in rw f refl)
    (λ h. rw (opaque_pass uses kinds numbers (Ieee.mul binary32 w (transmission_at uses numbers j)) i is h e, either_way, either_way) refl)
    (Memᴰ.cases_cons m)

place_of : {h : Struck} (hs : List Struck) → Memᴰ h hs → Memᴰ h.place (places_of hs)
place_of [] m = absurd (Memᴰ.not-nil m)
place_of (g ∷ hs) m = ⊎_elim (λ e. Memᴰ.head (ap (λ (x : Struck). x.place) e)) (λ n. Memᴰ.tail (place_of hs n)) (Memᴰ.cases_cons m)

-- a hit that stops light, at whatever place of the order, leaves nothing
pub opaque_leaves : (uses kinds : List ℕ) (numbers : List Float) (w : Float) (h : Struck) (hs : List Struck) → Memᴰ h hs → stops_light (kind_at uses kinds h.place) ≡ true
    → pass_of uses kinds numbers w (places_of hs) ≡ zero32
opaque_leaves uses kinds numbers w h hs m k = opaque_pass uses kinds numbers w h.place (places_of hs) (place_of hs m) k

-- so a triangle that stops light and is met lets none through
pub opaque_dark : (scene : Scene) (ray : Ray) (i : ℕ) (h : Hit) → i < length scene.uses → meet_at scene ray i ≡ Some h
    → stops_light (kind_at scene.uses scene.kinds i) ≡ true → transmittance_of scene ray ≡ zero32
unfolding transmittance_of
opaque_dark scene ray i h p e k =
    opaque_leaves scene.uses scene.kinds scene.numbers one32 (struck h.t i) _ (hits_all scene ray (length scene.uses) i h p e) k

-- what is left of w after the hits at these places, of which none stops light
unfoldable pub clear_pass_of : List ℕ → List Float → Float → List ℕ → Float
clear_pass_of uses numbers w [] = w
clear_pass_of uses numbers w (i ∷ is) =
    let x = Ieee.mul binary32 w (transmission_at uses numbers i) in
    cond (Ieee.le x faint_limit) zero32 (clear_pass_of uses numbers x is)

-- no hit of a list stops light
abbrev pub NoneOpaque : List ℕ → List ℕ → List Struck → Type 0
NoneOpaque uses kinds hs = (h : Struck) → Memᴰ h hs → stops_light (kind_at uses kinds h.place) ≡ false

pub clear_pass : (uses kinds : List ℕ) (numbers : List Float) (w : Float) (hs : List Struck) → NoneOpaque uses kinds hs
    → pass_of uses kinds numbers w (places_of hs) ≡ clear_pass_of uses numbers w (places_of hs)
unfolding pass_of clear_pass_of
clear_pass uses kinds numbers w [] n = refl
clear_pass uses kinds numbers w (h ∷ hs) n =
    rw (n h (Memᴰ.head refl), clear_pass uses kinds numbers (Ieee.mul binary32 w (transmission_at uses numbers h.place)) hs (λ g m. n g (Memᴰ.tail m)))

-- one more that does not stop light
pub none_opaque_put : (uses kinds : List ℕ) (h : Struck) (hs : List Struck) → stops_light (kind_at uses kinds h.place) ≡ false → NoneOpaque uses kinds hs
    → NoneOpaque uses kinds (insert_of h hs)
none_opaque_put uses kinds h hs e n g m = ⊎_elim (λ (f : g ≡ h). rw f e) (λ k. n g k) (put_only h hs m)

-- ---- room for hits

-- a triangle that does not stop light is of another kind than opaque, and then there has to be room for the hits of all triangles
pub clear_room : (scene : Scene) (i : ℕ) → Sound scene → i < length scene.uses → stops_light (kind_at scene.uses scene.kinds i) ≡ false
    → hit_room scene ≡ length scene.uses
unfolding stops_light
clear_room scene i s h e =
    other_room scene (get_or scene.uses i 0) (s.within i h)
    (λ (k : kind_at scene.uses scene.kinds i ≡ opaque_kind). false≢true (sym e ∙ ap stops_light k))
