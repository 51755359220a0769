-- What lying inside means: what lies inside a box that is passed over is itself passed over; inside what is inside is inside; and beside NaN nothing is.
use Rattle.std.specs.Prelude.{◌≡◌, Bool, ◌&&◌, ◌||◌, Float}
use Rattle.std.proofs.Math.Path.{refl}
use Rattle.std.proofs.Math.Bool.{true, false, not, and-eq-true_iff}
use Rattle.std.proofs.lemmas.Bool.{false≢true}
use Rattle.std.specs.Float.Ieee.{lt, le, is_nan}
use Rattle.names.specs.Bits.{zero32}
use Rattle.floats.specs.OrderLaws.{le_numbers, le_transitive, lt_le_transitive, le_lt_transitive}
use Rattle.vectors.specs.declared.Vec3.{Vec3}
use Rattle.boxes.specs.declared.Bounds.{Bounds}
use Rattle.boxes.specs.Boxes.{beyond, passed_over, at_most, inside_of}

-- ---- what each test says

pub record NotAbove (a b : Vec3) : Type 0 where
  pub x : le a.x b.x ≡ true
  pub y : le a.y b.y ≡ true
  pub z : le a.z b.z ≡ true

pub at_most_out : (a b : Vec3) → at_most a b ≡ true → NotAbove a b
unfolding at_most
at_most_out a b h =
    let p = (and-eq-true_iff (le a.x b.x && le a.y b.y) (le a.z b.z)).0 h in
    let q = (and-eq-true_iff (le a.x b.x) (le a.y b.y)).0 p.0 in
    record { x = q.0; y = q.1; z = p.1 }

pub at_most_in : (a b : Vec3) → NotAbove a b → at_most a b ≡ true
unfolding at_most
at_most_in a b h = rw (h.x, h.y, h.z) refl

pub inside_out : (i o : Bounds) → inside_of i o ≡ true → NotAbove o.low i.low × NotAbove i.high o.high
unfolding inside_of
inside_out i o h =
    let p = (and-eq-true_iff (at_most o.low i.low) (at_most i.high o.high)).0 h in
    (at_most_out o.low i.low p.0, at_most_out i.high o.high p.1)

pub inside_in : (i o : Bounds) → NotAbove o.low i.low → NotAbove i.high o.high → inside_of i o ≡ true
unfolding inside_of
inside_in i o l h = rw (at_most_in o.low i.low l, at_most_in i.high o.high h) refl

-- ---- inside a box that is passed over

module _ (origin direction low high low' high' : Float) where
  -- on one axis
  beyond_within : le low low' ≡ true → le high' high ≡ true → beyond origin direction low high ≡ true → beyond origin direction low' high' ≡ true
  unfolding beyond
  beyond_within l h e = above (lt high origin) refl e
    where
      below : (b : Bool) → lt origin low ≡ b → (b && not (lt zero32 direction)) ≡ true
          → ((lt high' origin && not (lt direction zero32)) || (lt origin low' && not (lt zero32 direction))) ≡ true
      below true p q = rw (lt_le_transitive origin low low' p l, q) (either (lt high' origin && not (lt direction zero32)))
        where
          either : (b : Bool) → (b || true) ≡ true
          either true = refl
          either false = refl
      below false p q = absurd (false≢true q)

      above : (b : Bool) → lt high origin ≡ b → ((b && not (lt direction zero32)) || (lt origin low && not (lt zero32 direction))) ≡ true
          → ((lt high' origin && not (lt direction zero32)) || (lt origin low' && not (lt zero32 direction))) ≡ true
      above false p q = below (lt origin low) refl q
      above true p q = turned (not (lt direction zero32)) refl q
        where
          turned : (b : Bool) → not (lt direction zero32) ≡ b → (b || (lt origin low && not (lt zero32 direction))) ≡ true
              → ((lt high' origin && not (lt direction zero32)) || (lt origin low' && not (lt zero32 direction))) ≡ true
          turned true r s = rw (le_lt_transitive high' high origin h p, r) refl
          turned false r s = below (lt origin low) refl s

or_both : (a b c d : Bool) → (a ≡ true → c ≡ true) → (b ≡ true → d ≡ true) → (a || b) ≡ true → (c || d) ≡ true
or_both true b c d f g h = rw (f refl) refl
or_both false b true d f g h = refl
or_both false b false d f g h = g h

-- what lies inside a box that is passed over is itself passed over
pub passed_inside : (origin direction : Vec3) (i o : Bounds) → inside_of i o ≡ true → passed_over origin direction o ≡ true → passed_over origin direction i ≡ true
unfolding passed_over
passed_inside origin direction i o h e =
    let p = inside_out i o h in
    or_both _ _ _ _
    (or_both _ _ _ _ (beyond_within origin.x direction.x o.low.x o.high.x i.low.x i.high.x p.0.x p.1.x)
    (beyond_within origin.y direction.y o.low.y o.high.y i.low.y i.high.y p.0.y p.1.y))
    (beyond_within origin.z direction.z o.low.z o.high.z i.low.z i.high.z p.0.z p.1.z) e

-- ---- inside what is inside

at_most_through : (a b c : Vec3) → NotAbove a b → NotAbove b c → NotAbove a c
at_most_through a b c p q =
    record {
      x = le_transitive a.x b.x c.x p.x q.x;
      y = le_transitive a.y b.y c.y p.y q.y;
      z = le_transitive a.z b.z c.z p.z q.z;
    }

pub inside_transitive : (i m o : Bounds) → inside_of i m ≡ true → inside_of m o ≡ true → inside_of i o ≡ true
inside_transitive i m o h k =
    let p = inside_out i m h in
    let q = inside_out m o k in
    inside_in i o (at_most_through o.low m.low i.low q.0 p.0) (at_most_through i.high m.high o.high p.1 q.1)

-- ---- beside NaN

-- no component is NaN
pub record NumbersV (v : Vec3) : Type 0 where
  pub x : is_nan v.x ≡ false
  pub y : is_nan v.y ≡ false
  pub z : is_nan v.z ≡ false

at_most_numbers : (a b : Vec3) → NotAbove a b → NumbersV a × NumbersV b
at_most_numbers a b h =
    let x = le_numbers a.x b.x h.x in
    let y = le_numbers a.y b.y h.y in
    let z = le_numbers a.z b.z h.z in
    (record { x = x.0; y = y.0; z = z.0 }, record { x = x.1; y = y.1; z = z.1 })

-- no bound of a box is NaN
pub record NumbersOf (b : Bounds) : Type 0 where
  pub low : NumbersV b.low
  pub high : NumbersV b.high

-- a box that lies inside another has no NaN, nor has the other: a box with a NaN bound is inside nothing, and nothing is inside it
pub inside_numbers : (i o : Bounds) → inside_of i o ≡ true → NumbersOf i × NumbersOf o
inside_numbers i o h =
    let p = inside_out i o h in
    let l = at_most_numbers o.low i.low p.0 in
    let g = at_most_numbers i.high o.high p.1 in
    (record { low = l.1; high = g.0 }, record { low = l.0; high = g.1 })

-- in the other words
pub nan_not_inside : (i o : Bounds) → (NumbersOf i → ⊥) → inside_of i o ≡ false
nan_not_inside i o n = go (inside_of i o) refl
  where
    go : (b : Bool) → inside_of i o ≡ b → inside_of i o ≡ false
    go true h = absurd (n (inside_numbers i o h).0)
    go false h = h
