-- What the test means: an absent triangle is met nowhere; a hit's numbers pass every bound, and its side is the front exactly when the determinant is above zero.
use Rattle.std.specs.Prelude.{◌≡◌, refl, Option, None, Some, Bool, true, false, cond}
use Rattle.std.proofs.lemmas.Bool.{false≢true}
use Rattle.std.specs.Float.Ieee as Ieee
use Rattle.std.specs.Float.{binary32}
use Rattle.names.specs.Bits.{zero32, one32}
use Rattle.names.specs.Numbers.{flat_limit}
use Rattle.floats.specs.Choice.{magnitude_of}
use Rattle.vectors.specs.declared.Ray.{Ray}
use Rattle.vectors.specs.declared.Triangle.{Triangle}
use Rattle.triangle.specs.declared.Hit.{Hit}
use Rattle.triangle.specs.declared.Solved.{Solved}
use Rattle.triangle.specs.Meet.{hit_of, largest32, absent_of, front_of, solved_of, judged_of, meet_of}

pub absent_missed : (ray : Ray) (triangle : Triangle) → absent_of triangle ≡ true → meet_of ray triangle ≡ None
unfolding meet_of
absent_missed ray triangle h = rw h

-- and what the judgement misses is missed, absent or not
pub judged_missed : (ray : Ray) (triangle : Triangle) → judged_of (solved_of ray triangle) ray.shortest ray.longest ≡ None → meet_of ray triangle ≡ None
unfolding meet_of
judged_missed ray triangle h = by (absent_of triangle) _ h
  where
    by : (b : Bool) (m : Option Hit) → m ≡ None → cond b None m ≡ None
    by true m e = refl
    by false m e = e

-- the distance, u, v and side of a hit
pub record HitPasses (ray : Ray) (triangle : Triangle) (h : Hit) : Type 0 where
  pub present : absent_of triangle ≡ false
  pub steep : Ieee.le (magnitude_of (solved_of ray triangle).det) flat_limit ≡ false
  pub distance : h.t ≡ (solved_of ray triangle).t
  pub first : h.u ≡ (solved_of ray triangle).u
  pub second : h.v ≡ (solved_of ray triangle).v
  pub side : h.front ≡ Ieee.lt zero32 (solved_of ray triangle).det
  pub not_below : Ieee.lt h.t ray.shortest ≡ false
  pub not_above : Ieee.lt ray.longest h.t ≡ false
  pub finite : Ieee.le (magnitude_of h.t) largest32 ≡ true
  pub u_from : Ieee.le zero32 h.u ≡ true
  pub u_to : Ieee.le h.u one32 ≡ true
  pub v_from : Ieee.lt h.v zero32 ≡ false
  pub sum_to : Ieee.lt one32 (Ieee.add binary32 h.u h.v) ≡ false

-- a choice that did not give the miss took the other way
over : (b : Bool) (m : Option Hit) {h : Hit} → cond b None m ≡ Some h → (b ≡ false) × (m ≡ Some h)
over true m e = absurd (false≢true cc)
over false m e = (refl, e)

into : (b : Bool) (m : Option Hit) {h : Hit} → cond b m None ≡ Some h → (b ≡ true) × (m ≡ Some h)
into true m e = (refl, e)
into false m e = absurd (false≢true cc)

-- two hits are one, number for number
numbers_of : (s : Solved) (h : Hit) → Some (hit_of s.t s.u s.v (front_of s.det)) ≡ Some h
    → (h.t ≡ s.t) × (h.u ≡ s.u) × (h.v ≡ s.v) × (h.front ≡ Ieee.lt zero32 s.det)
unfolding front_of
numbers_of s h e = (cc, cc, cc, cc)

pub hit_met : (ray : Ray) (triangle : Triangle) (h : Hit) → meet_of ray triangle ≡ Some h → HitPasses ray triangle h
unfolding meet_of judged_of
hit_met ray triangle h e =
    let s = solved_of ray triangle in
    let a = over _ _ e in
    let b = over _ _ a.1 in
    let c = into _ _ b.1 in
    let d = into _ _ c.1 in
    let f = over _ _ d.1 in
    let g = over _ _ f.1 in
    let i = over _ _ g.1 in
    let j = over _ _ i.1 in
    let k = into _ _ j.1 in
    let n = numbers_of s h k.1 in
    record {
      present = a.0;
      steep = b.0;
      distance = n.0;
      first = n.1;
      second = n.2;
      side = n.3;
      not_below = rw n.0 i.0;
      not_above = rw n.0 j.0;
      finite = rw n.0 k.0;
      u_from = rw n.1 c.0;
      u_to = rw n.1 d.0;
      v_from = rw n.2 f.0;
      sum_to = rw (n.1, n.2) g.0;
    }
