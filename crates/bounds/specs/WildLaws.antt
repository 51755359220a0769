-- What is not finite stays so through a product, a sum, a dot and a cross; and what is not finite over what is not finite is NaN. Assumes nothing.
use Rattle.std.specs.Prelude.{◌≡◌, refl, Bool, true, false, cond, ℕ, eqb, Float}
use Rattle.std.proofs.Common.{sym, zero-le}
use Rattle.std.specs.Bool.{beq}
use Rattle.std.proofs.lemmas.Bool.{false≢true}
use Rattle.std.specs.Float.{nan, inf, fin, binary32}
use Rattle.std.specs.Float.Ieee.{neg, add, sub, mul, div, is_nan, of_bits}
use Rattle.std.specs.Float.Ieee.Scale.{finite}
use Rattle.names.specs.Bits.{one32}
use Rattle.floats.specs.Root.{root_of}
use Rattle.vectors.specs.declared.Vec3.{Vec3}
use Rattle.vectors.specs.Vectors.{dot_v, cross_v}
use Rattle.bounds.specs.Bounds.{AtMost}

-- a choice between NaN and an infinity
pub either_wild : (b s : Bool) → finite (cond b nan (inf s)) ≡ false
either_wild true s = refl
either_wild false s = refl

either_wild' : (b s : Bool) → finite (cond b (inf s) nan) ≡ false
either_wild' true s = refl
either_wild' false s = refl

pub mul_wild : (x y : Float) → finite x ≡ false → finite (mul binary32 x y) ≡ false
unfolding mul
mul_wild nan y h = refl
mul_wild (inf s) nan h = refl
mul_wild (inf s) (inf t) h = refl
mul_wild (inf s) (fin t n d) h = either_wild (eqb n 0) _
mul_wild (fin s m e) y h = absurd (false≢true (sym h))

pub mul_wild_second : (x y : Float) → finite y ≡ false → finite (mul binary32 x y) ≡ false
unfolding mul
mul_wild_second nan y h = refl
mul_wild_second (inf s) nan h = refl
mul_wild_second (inf s) (inf t) h = refl
mul_wild_second (inf s) (fin t n d) h = absurd (false≢true (sym h))
mul_wild_second (fin s m e) nan h = refl
mul_wild_second (fin s m e) (inf t) h = either_wild (eqb m 0) _
mul_wild_second (fin s m e) (fin t n d) h = absurd (false≢true (sym h))

pub add_wild : (x y : Float) → finite x ≡ false → finite (add binary32 x y) ≡ false
unfolding add
add_wild nan y h = refl
add_wild (inf s) nan h = refl
add_wild (inf s) (inf t) h = either_wild' (beq s t) s
add_wild (inf s) (fin t n d) h = refl
add_wild (fin s m e) y h = absurd (false≢true (sym h))

pub add_wild_second : (x y : Float) → finite y ≡ false → finite (add binary32 x y) ≡ false
unfolding add
add_wild_second nan y h = refl
add_wild_second (inf s) nan h = refl
add_wild_second (inf s) (inf t) h = either_wild' (beq s t) s
add_wild_second (inf s) (fin t n d) h = absurd (false≢true (sym h))
add_wild_second (fin s m e) nan h = refl
add_wild_second (fin s m e) (inf t) h = refl
add_wild_second (fin s m e) (fin t n d) h = absurd (false≢true (sym h))

neg_wild : (x : Float) → finite x ≡ false → finite (neg x) ≡ false
unfolding neg
neg_wild nan h = refl
neg_wild (inf s) h = refl
neg_wild (fin s m e) h = absurd (false≢true (sym h))

pub sub_wild_second : (x y : Float) → finite y ≡ false → finite (sub binary32 x y) ≡ false
unfolding sub
sub_wild_second x y h = add_wild_second x (neg y) (neg_wild y h)

-- ---- vectors

-- some component is not finite
pub data Wild (a : Vec3) : Type 0 where
  wild_x : finite a.x ≡ false → Wild a
  wild_y : finite a.y ≡ false → Wild a
  wild_z : finite a.z ≡ false → Wild a

pub dot_wild : (a b : Vec3) → Wild b → finite (dot_v a b) ≡ false
unfolding dot_v
dot_wild a b (wild_x h) = add_wild _ _ (add_wild _ _ (mul_wild_second a.x b.x h))
dot_wild a b (wild_y h) = add_wild _ _ (add_wild_second _ _ (mul_wild_second a.y b.y h))
dot_wild a b (wild_z h) = add_wild_second _ _ (mul_wild_second a.z b.z h)

-- each component of a stands in two of the cross's
pub cross_wild : (a b : Vec3) → Wild a → Wild (cross_v a b)
unfolding cross_v
cross_wild a b (wild_x h) = wild_y (sub_wild_second _ _ (mul_wild a.x b.z h))
cross_wild a b (wild_y h) = wild_z (sub_wild_second _ _ (mul_wild a.y b.x h))
cross_wild a b (wild_z h) = wild_x (sub_wild_second _ _ (mul_wild a.z b.y h))

-- ---- over what is not finite

pub root_wild : (d : Float) → finite d ≡ false → finite (root_of d) ≡ false
unfolding root_of
root_wild nan h = refl
root_wild (inf true) h = refl
root_wild (inf false) h = refl
root_wild (fin s m e) h = absurd (false≢true (sym h))

-- a finite quotient is a zero
pub over_wild : (x r : Float) (n k : ℕ) → finite r ≡ false → finite (div binary32 x r) ≡ true → AtMost n k (div binary32 x r)
unfolding div AtMost
over_wild nan r n k h g = absurd (false≢true g)
over_wild (inf s) nan n k h g = absurd (false≢true g)
over_wild (inf s) (inf t) n k h g = absurd (false≢true g)
over_wild (inf s) (fin t l d) n k h g = absurd (false≢true g)
over_wild (fin s m e) nan n k h g = absurd (false≢true g)
over_wild (fin s m e) (inf t) n k h g = zero-le
over_wild (fin s m e) (fin t l d) n k h g = absurd (false≢true (sym h))

-- x by 1 / d: an infinity by a zero, or NaN
pub wild_over_wild : (x d : Float) → finite x ≡ false → finite d ≡ false → is_nan (mul binary32 x (div binary32 one32 d)) ≡ true
unfolding mul div is_nan of_bits
wild_over_wild nan d h g = refl
wild_over_wild (inf s) nan h g = refl
wild_over_wild (inf s) (inf t) h g = refl
wild_over_wild (inf s) (fin t n d) h g = absurd (false≢true (sym g))
wild_over_wild (fin s m e) d h g = absurd (false≢true (sym h))
