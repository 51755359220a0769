-- How large what a scene's surfaces send back is, where its numbers lie within document 01's limits.
use Rattle.std.specs.Prelude.{Option, None, Some, ◌≡◌, Bool, cond, length, Float}
use Rattle.std.proofs.Math.Path.{refl}
use Rattle.std.proofs.Math.Bool.{true, false}
use mathlib.Core.List.{List, [], ◌∷◌}
use Prim.Native.Nat.{ℕ, zero, suc, ◌+◌, ◌*◌, ◌^◌, ◌<◌, ◌≤◌}
use Rattle.std.proofs.Math.Nat.{add-zero}
use Rattle.std.proofs.Common.{mul-le-mul_right, lt_of_le_of_lt, lit<, lit≤}
use native.Mathlib.Omega.{arith}
use Rattle.std.proofs.Math.ListN.{get_or}
use Rattle.std.specs.Float.Ieee as Ieee
use Rattle.std.specs.Float.{nan}
use Rattle.std.specs.Float.Ieee.{is_nan, binary32}
use Rattle.names.specs.Bits.{zero32, one32}
use Rattle.names.specs.Numbers.{lamp_limit, thin_limit, faint_limit}
use Rattle.names.specs.Scene.{Scene, Sound}
use Rattle.lists.specs.Fold.{fold}
use Rattle.floats.specs.FiniteLaws.{finite_number}
use Rattle.vectors.specs.declared.Vec3.{Vec3}
use Rattle.vectors.specs.declared.Ray.{Ray}
use Rattle.vectors.specs.Vectors.{add_v}
use Rattle.bounds.specs.Bounds.{AtMost, EachAtMost}
use Rattle.bounds.specs.BoundsLaws.{at_most_finite, add_at_most, mul_at_most, zero_at_most, one_at_most}
use Rattle.bounds.specs.VectorLaws.{each_up, add_each, sub_each, cross_each, dot_at_most, clamp_each}
use Rattle.bounds.specs.NormalLaws.{thin_normal_within}
use Rattle.limits.specs.declared.Lamp.{Lamp}
use Rattle.limits.specs.Limits.{lamp_count, lamp_at}
use Rattle.vectors.specs.Places.{vec_at}
use Rattle.triangle.specs.Places.{triangle_at}
use Rattle.triangle.specs.Meet.{absent_of}
use Rattle.triangle.specs.Laws.{hit_met}
use Rattle.triangle.specs.declared.Hit.{Hit}
use Rattle.panels.specs.Panels.{kind_at, stops_light, meet_at}
use Rattle.panels.specs.PanelLaws.{by_answered}
use Rattle.scan.specs.Nearest.{placed, nearest_to, nearer_of, beats}
use Rattle.scan.specs.declared.PlacedHit.{PlacedHit}
use Rattle.hits.specs.Hits.{hits_of, places_of}
use Rattle.hits.proofs.HitLaws.{places_below}
use Rattle.scan.specs.Transmittance.{transmittance_of, pass_of, transmission_at}
use Rattle.bounce.specs.declared.Way.{Way}
use Rattle.bounce.specs.Light.{face_normal, black_of, slant_of}
use Rattle.bounce.specs.Lamps.{way_to, unlit_by, lamplight_of}
use Rattle.surface.specs.declared.Setting.{Setting}
use Rattle.surface.specs.declared.Surface.{Surface}
use Rattle.surface.specs.declared.Traced.{Traced}
use Rattle.surface.specs.Surface.{surface_of, seen_by, seen_of, sun_of, sky_of, daylight_of, lit_by, lit_after, fallen_on, bounced_by, sky_ray, shadow_ray, lamp_ray}
use Rattle.gather_bounds.specs.Each.{zero_each, AllAtMost}
use Rattle.gather_bounds.specs.LightBounds.{raised_each, facing_each, skylight_each, sunlight_each, above, thin_number, lamplight_each, reflected_each}

-- the numbers of a scene lie within the limits
pub record Modest (s : Scene) : Type 0 where
  pub sound : Sound s
  pub points : (i : ℕ) → i < length s.points → AtMost 1 12 (get_or s.points i nan)
  pub colours : (m c : ℕ) → m < length s.kinds → c < 6 → AtMost 1 16 (get_or s.numbers (m * 7 + c) nan)
  pub transmissions : (m : ℕ) → m < length s.kinds → AtMost 1 0 (get_or s.numbers (m * 7 + 6) nan)

-- what lights a scene does
pub record ModestSetting (s : Setting) : Type 0 where
  pub toward : EachAtMost 1 1 s.toward
  pub colour : EachAtMost 1 16 s.colour
  pub ambient : AllAtMost 1 16 s.ambient

-- and what its lamps do
pub record ModestLamp (l : Lamp) : Type 0 where
  pub colour : EachAtMost 1 16 l.colour

pub record ModestLamps (l : List Float) : Type 0 where
  pub few : lamp_count l ≤ lamp_limit
  pub each : (j : ℕ) → j < lamp_count l → ModestLamp (lamp_at l j)

-- ---- transmittance is at most 1

abbrev EachBelow : ℕ → List ℕ → Type 0
EachBelow n [] = Unit
EachBelow n (i ∷ is) = (i < n) × EachBelow n is

below : (n : ℕ) (is : List ℕ) → ((j : ℕ) → j < length is → get_or is j 0 < n) → EachBelow n is
below n [] f = tt
below n (i ∷ is) f = (f 0 (omega arith), below n is (λ j h. f (suc j) (omega arith)))

number : (x : Float) → AtMost 1 16 x → is_nan x ≡ false
number x h = finite_number x (at_most_finite x 1 16 h)

module _ (s : Scene) (m : Modest s) where
  transmission_small : (i : ℕ) → i < length s.uses → AtMost 1 0 (transmission_at s.uses s.numbers i)
  transmission_small i h = m.transmissions (get_or s.uses i 0) (m.sound.within i h)

  pass_small : (w : Float) (is : List ℕ) → AtMost 1 0 w → EachBelow (length s.uses) is → AtMost 1 0 (pass_of s.uses s.kinds s.numbers w is)
  unfolding pass_of
  pass_small w [] h b = h
  pass_small w (i ∷ is) h b =
      let x = mul_at_most w (transmission_at s.uses s.numbers i) 1 0 1 0 (lit< tt) (lit< tt) h (transmission_small i b.0) in
      go (stops_light (kind_at s.uses s.kinds i)) (Ieee.le (Ieee.mul binary32 w (transmission_at s.uses s.numbers i)) faint_limit) _ (pass_small (Ieee.mul binary32 w (transmission_at s.uses s.numbers i)) is x b.1)
    where
      go : (p q : Bool) (r : Float) → AtMost 1 0 r → AtMost 1 0 (cond p zero32 (cond q zero32 r))
      go true q r k = zero_at_most 1 0
      go false true r k = zero_at_most 1 0
      go false false r k = k

  pub transmittance_small : (ray : Ray) → AtMost 1 0 (transmittance_of s ray)
  unfolding transmittance_of
  transmittance_small ray = pass_small one32 _ one_at_most (below (length s.uses) (places_of (hits_of s ray (length s.uses))) (places_below s ray (length s.uses)))

  -- ---- the normal of a triangle that is met

  -- three points of the list
  point_small : (i c : ℕ) → i < length s.uses → c + 2 < 9 → EachAtMost 1 12 (vec_at s.points (i * 9 + c))
  point_small i c h k =
      let l = m.sound.points in
      record { x = m.points (i * 9 + c) (omega arith); y = m.points (i * 9 + c + 1) (omega arith); z = m.points (i * 9 + c + 2) (omega arith) }

  first_small : (i : ℕ) → i < length s.uses → EachAtMost 1 12 (vec_at s.points (i * 9))
  first_small i h =
      let l = m.sound.points in
      record { x = m.points (i * 9) (omega arith); y = m.points (i * 9 + 1) (omega arith); z = m.points (i * 9 + 2) (omega arith) }

  normal_small : (i : ℕ) → i < length s.uses → absent_of (triangle_at s.points i) ≡ false → EachAtMost 1 1 (face_normal (triangle_at s.points i))
  unfolding absent_of face_normal triangle_at
  normal_small i h a =
      let p = vec_at s.points (i * 9) in
      let one = sub_each (vec_at s.points (i * 9 + 3)) p 1 1 12 (lit< tt) (lit< tt) (point_small i 3 h (lit< tt)) (first_small i h) in
      let two = sub_each (vec_at s.points (i * 9 + 6)) p 1 1 12 (lit< tt) (lit< tt) (point_small i 6 h (lit< tt)) (first_small i h) in
      let cross = cross_each _ _ 2 12 2 12 (lit< tt) (lit< tt) one two in
      let f = at_most_finite _ 192 48 (dot_at_most _ _ 8 24 8 24 (lit< tt) (lit< tt) cross cross) in
      thin_normal_within _ (above thin_limit _ thin_number (finite_number _ f) a) f

  -- ---- where a surface is met, a triangle of the scene is

  abbrev pub FoundAt : Ray → ℕ → Option PlacedHit → Type 0
  FoundAt ray n None = Unit
  FoundAt ray n (Some met) = (met.place < n) × (meet_at s ray met.place ≡ Some met.hit)

  later : (ray : Ray) (n : ℕ) (found : Option PlacedHit) → FoundAt ray n found → FoundAt ray (suc n) found
  later ray n None h = tt
  later ray n (Some met) h = (omega (arith, h.0), h.1)

  nearer_found : (ray : Ray) (n : ℕ) (best : Option PlacedHit) (a : Option Hit) → meet_at s ray n ≡ a → FoundAt ray n best → FoundAt ray (suc n) (nearer_of best n a)
  unfolding nearer_of
  nearer_found ray n best None e h = later ray n best h
  nearer_found ray n None (Some m) e h = (omega arith, e)
  nearer_found ray n (Some best) (Some m) e h = go (beats m.t n best.hit.t best.place)
    where
      go : (b : Bool) → FoundAt ray (suc n) (cond b (Some (placed n m)) (Some best))
      go true = (omega arith, e)
      go false = (omega (arith, h.0), h.1)

  pub nearest_found : (ray : Ray) (n : ℕ) → FoundAt ray n (nearest_to s ray n)
  unfolding nearest_to
  nearest_found ray zero = tt
  nearest_found ray (suc n) = nearer_found ray n (nearest_to s ray n) (meet_at s ray n) refl (nearest_found ray n)

  -- ---- a surface

  pub record ModestSurface (f : Surface) : Type 0 where
    pub normal : EachAtMost 1 1 f.normal
    pub albedo : EachAtMost 1 0 f.albedo
    pub emissive : EachAtMost 1 16 f.emissive

  colour_small : (k c : ℕ) → k < length s.kinds → c + 2 < 6 → EachAtMost 1 16 (vec_at s.numbers (k * 7 + c))
  colour_small k c h g =
      let p : k * 7 + c + 1 ≡ k * 7 + (c + 1) = omega arith in
      let q : k * 7 + c + 2 ≡ k * 7 + (c + 2) = omega arith in
      record { x = m.colours k c h (omega arith); y = rw p (m.colours k (c + 1) h (omega arith)); z = rw q (m.colours k (c + 2) h (omega arith)) }

  base_small : (k : ℕ) → k < length s.kinds → EachAtMost 1 16 (vec_at s.numbers (k * 7))
  base_small k h =
      record { x = rw add-zero at (m.colours k 0 h (lit< tt)); y = m.colours k 1 h (lit< tt); z = m.colours k 2 h (lit< tt) }

  pub surface_small : (ray : Ray) (place : ℕ) (hit : Hit) (bias : Float) → place < length s.uses → meet_at s ray place ≡ Some hit → ModestSurface (surface_of s ray place hit.t bias)
  unfolding surface_of
  surface_small ray place hit bias h e =
      let k = get_or s.uses place 0 in
      let g = m.sound.within place h in
      let n = (hit_met ray (triangle_at s.points place) hit (by_answered s.boxed s.points s.uses s.kinds ray place hit e)).present in
      let b = base_small k g in
      record { normal = facing_each _ ray.direction 1 1 (normal_small place h n); albedo = clamp_each _ (number _ b.x) (number _ b.y) (number _ b.z); emissive = raised_each _ 1 16 (colour_small k 3 g (lit< tt)) }

  -- ---- its light: at most 10 · 2^79

  module _ (g : Setting) (h : ModestSetting g) (f : Surface) (k : ModestSurface f) where
    seen_small : AtMost 4 0 (seen_of s g f).sum
    unfolding seen_of fold seen_by
    seen_small =
        add_at_most _ _ 3 1 0 (lit< tt) (lit< tt) (add_at_most _ _ 2 1 0 (lit< tt) (lit< tt) (add_at_most _ _ 1 1 0 (lit< tt) (lit< tt) (add_at_most zero32 _ 0 1 0 (lit< tt) (lit< tt) (zero_at_most 0 0) (transmittance_small (sky_ray g f 0))) (transmittance_small (sky_ray g f 1))) (transmittance_small (sky_ray g f 2))) (transmittance_small (sky_ray g f 3))

    sky_small : EachAtMost 16 17 (sky_of s g f).light
    unfolding sky_of
    sky_small = skylight_each g.ambient f.normal (seen_of s g f).sum h.ambient k.normal seen_small

    sun_small : EachAtMost 3 18 (sun_of s g f).light
    unfolding sun_of
    sun_small = go (Ieee.lt zero32 (slant_of f.normal g.toward)) _ _ (sunlight_each g.colour f.normal g.toward _ h.colour k.normal h.toward (transmittance_small (shadow_ray g f))) (zero_each 3 18)
      where
        go : (b : Bool) (x y : Traced) → EachAtMost 3 18 x.light → EachAtMost 3 18 y.light → EachAtMost 3 18 (cond b x y).light
        go true x y p q = p
        go false x y p q = q

    -- sun plus sky
    day_small : EachAtMost 1 79 (daylight_of s g f).light
    unfolding daylight_of
    day_small = each_up _ 11 18 1 79 (lit≤ tt) (add_each _ _ 3 8 18 (lit< tt) (lit< tt) sun_small (each_up _ 16 17 8 18 (lit≤ tt) sky_small))

    -- each lamp adds at most 1 · 2^79
    lit_small : (l : List Float) (j n : ℕ) (t : Traced) → n < 9 → ModestLamp (lamp_at l j) → EachAtMost n 79 t.light
        → EachAtMost (n + 1) 79 (lit_after s l g f j t).light
    unfolding lit_by
    lit_small l j n t h m a = go (unlit_by f.normal (way_to f.point (lamp_at l j).position)) refl
      where
        way : Way
        way = way_to f.point (lamp_at l j).position

        light : Vec3
        light = lamplight_of (lamp_at l j).colour f.normal way (transmittance_of s (lamp_ray g f way))

        go : (b : Bool) → unlit_by f.normal way ≡ b
            → EachAtMost (n + 1) 79 (cond b t (record { light = add_v t.light light; rays = t.rays + 1 })).light
        go true e = each_up _ n 79 (n + 1) 79 (mul-le-mul_right {m = n} {n = n + 1} (2 ^ 79) (omega arith)) a
        go false e =
            add_each t.light light n 1 79 (omega arith) (lt_of_le_of_lt (mul-le-mul_right {m = n + 1} {n = 9} (2 ^ 79) (omega arith)) (lit< tt)) a
            (lamplight_each (lamp_at l j).colour f.normal f.point (lamp_at l j).position _ m.colour k.normal (transmittance_small (lamp_ray g f way)) e)

    fallen_from : (l : List Float) (c j : ℕ) (t : Traced) → j + c ≤ lamp_limit → ((i : ℕ) → i < j + c → ModestLamp (lamp_at l i)) → EachAtMost (1 + j) 79 t.light
        → EachAtMost (1 + (j + c)) 79 (fold (lit_after s l g f) c j t).light
    unfolding fold
    fallen_from l zero j t h m a = rw add-zero a
    fallen_from l (suc c) j t h m a =
        let e : j + suc c ≡ j + 1 + c = omega arith in
        let q : 1 + j + 1 ≡ 1 + (j + 1) = omega arith in
        rw e (fallen_from l c (j + 1) (lit_after s l g f j t) (omega arith) (λ i r. m i (omega arith)) (rw q at (lit_small l j (1 + j) t (omega arith) (m j (omega arith)) a)))

    fallen_small : (l : List Float) → ModestLamps l → EachAtMost 9 79 (fallen_on s l g f).light
    unfolding fallen_on
    fallen_small l m =
        let z : 0 + lamp_count l ≡ lamp_count l = omega arith in
        each_up _ (1 + lamp_count l) 79 9 79 (mul-le-mul_right {m = 1 + lamp_count l} {n = 9} (2 ^ 79) (omega (arith, m.few)))
        (rw z at (fallen_from l (lamp_count l) 0 (daylight_of s g f) (omega (arith, m.few)) (λ i r. m.each i (omega arith)) day_small))

    pub bounced_small : (l : List Float) → ModestLamps l → EachAtMost 10 79 (bounced_by s l g f).light
    unfolding bounced_by
    bounced_small l m = go (black_of f.albedo f.emissive) _ _ (zero_each 10 79) (reflected_each f.albedo f.emissive _ k.albedo k.emissive (fallen_small l m))
      where
        go : (b : Bool) (x y : Traced) → EachAtMost 10 79 x.light → EachAtMost 10 79 y.light → EachAtMost 10 79 (cond b x y).light
        go true x y p q = p
        go false x y p q = q
