-- The blend between eight cells, along x, then y, then z: it stays within the power of two that holds the eight values, and it grows with each of them. So it lies between the blend of
-- eight times the least and that of eight times the greatest. Of numbers from 0 to 1 it is one. Assumes nothing.
use Rattle.std.specs.Prelude.{◌≡◌, true, ℕ, ◌≤◌, Float}
use Rattle.std.specs.Float.Ieee.{le}
use Rattle.names.specs.Bits.{zero32}
use Rattle.lookup.specs.declared.Cells.{Cells}
use Rattle.lookup.specs.Place.{blend_of, blended_of}
use Rattle.blend_laws.specs.Blendable.{Blendable, Raised, Weight, EachCell, Weights}
use Rattle.blend_laws.specs.BlendOrder.{blend_no_more}
use Rattle.blend_laws.specs.BlendWithin.{blend_within}
use Rattle.blend_laws.specs.BlendSigns.{zero_blendable, blend_not_negative, blend_unit}

module _ (k : ℕ) (K : k ≤ 126) (c : Cells) (w : Weights c) where
  -- along one axis
  within : (t : Float) → Weight t → {a b : Float} → Blendable k a → Blendable k b → Blendable k (blend_of a b t)
  within t v {a} {b} p q = blend_within t v k a b K p q

  raised : (t : Float) → Weight t → {a b a' b' : Float} → Raised k a a' → Raised k b b' → Raised k (blend_of a b t) (blend_of a' b' t)
  raised t v {a} {b} {a'} {b'} p q = record {
    first = within t v p.first q.first;
    second = within t v p.second q.second;
    order = blend_no_more t v k a b a' b' K p.first q.first p.second q.second p.order q.order;
  }

  pub blended_within : (f : ℕ → Float) → EachCell (λ i. Blendable k (f i)) c → Blendable k (blended_of c f)
  unfolding blended_of
  blended_within f p =
      within c.z w.z
      (within c.y w.y (within c.x w.x p.c000 p.c100) (within c.x w.x p.c010 p.c110))
      (within c.y w.y (within c.x w.x p.c001 p.c101) (within c.x w.x p.c011 p.c111))

  -- raise any of the eight, and the blend is no less
  pub blended_raised : (f g : ℕ → Float) → EachCell (λ i. Raised k (f i) (g i)) c → Raised k (blended_of c f) (blended_of c g)
  unfolding blended_of
  blended_raised f g p =
      raised c.z w.z
      (raised c.y w.y (raised c.x w.x p.c000 p.c100) (raised c.x w.x p.c010 p.c110))
      (raised c.y w.y (raised c.x w.x p.c001 p.c101) (raised c.x w.x p.c011 p.c111))

  -- no value is below `least` nor above `greatest`
  pub blended_between : (f : ℕ → Float) (least greatest : Float) → EachCell (λ i. Raised k least (f i)) c → EachCell (λ i. Raised k (f i) greatest) c
      → (le (blended_of c (λ i. least)) (blended_of c f) ≡ true) × (le (blended_of c f) (blended_of c (λ i. greatest)) ≡ true)
  blended_between f least greatest p q = ((blended_raised (λ i. least) f p).order, (blended_raised f (λ i. greatest) q).order)

  -- no value is negative, so the blend is not
  floored : (t : Float) → Weight t → {a b : Float} → Raised k zero32 a → Raised k zero32 b → Raised k zero32 (blend_of a b t)
  floored t v {a} {b} p q = record {
    first = zero_blendable k;
    second = within t v p.second q.second;
    order = blend_not_negative t v k K a b p.second q.second p.order q.order;
  }

  pub blended_not_negative : (f : ℕ → Float) → EachCell (λ i. Raised k zero32 (f i)) c → le zero32 (blended_of c f) ≡ true
  unfolding blended_of
  blended_not_negative f p =
      (floored c.z w.z
      (floored c.y w.y (floored c.x w.x p.c000 p.c100) (floored c.x w.x p.c010 p.c110))
      (floored c.y w.y (floored c.x w.x p.c001 p.c101) (floored c.x w.x p.c011 p.c111))
      ).order

-- eight numbers from 0 to 1
pub blended_unit : (c : Cells) → Weights c → (f : ℕ → Float) → EachCell (λ i. Weight (f i)) c → Weight (blended_of c f)
unfolding blended_of
blended_unit c w f p =
    unit c.z w.z
    (unit c.y w.y (unit c.x w.x p.c000 p.c100) (unit c.x w.x p.c010 p.c110))
    (unit c.y w.y (unit c.x w.x p.c001 p.c101) (unit c.x w.x p.c011 p.c111))
  where
    unit : (t : Float) → Weight t → {a b : Float} → Weight a → Weight b → Weight (blend_of a b t)
    unit t v {a} {b} u q = blend_unit t v a b u q
