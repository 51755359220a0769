-- What the definitions mean: the count lies in 1..4096, the side is the least whole number whose square is at least the count, and a sample's cell is at
-- most the number of voxels. (That the count is a ceiling stands in CountLaws, that a cell is a floor in FallsLaws.)
use Rattle.std.specs.Prelude.{◌≡◌, ℕ, zero, suc, ◌+◌, ◌*◌, ◌<◌, ◌≤◌, Bool, true, false, cond, ◌⊎◌, pos, nat_le, nat_lt, Float}
use Rattle.std.proofs.Math.Path.{refl, ap}
use Rattle.std.proofs.Common.{inl, inr, arith, mul-le-mul, eq-or-lt_of_le, le_of_lt}
use Rattle.std.proofs.Math.Logic.{⊎_elim}
use Rattle.std.specs.Float.Ieee as Ieee
use Rattle.std.specs.Float.{fin, binary32}
use Rattle.std.specs.Float.Ieee.{of_bits, of_fields, odd, to_unsigned}
use borrow.Author.Tests.{ltb-true, ltb-false, leb-false}
use Rattle.names.specs.Bits.{zero32, half32, one32}
use Rattle.names.specs.Numbers.{most_samples, most_target}
use Rattle.floats.specs.Root.{root_of}
use Rattle.floats.specs.Whole.{toward}
use Rattle.vectors.specs.declared.Vec3.{Vec3}
use Rattle.vectors.specs.declared.Triangle.{Triangle}
use Rattle.vectors.specs.Vectors.{vec, add_v, scale_v, sub_v, dot_v, cross_v, length_v}
use Rattle.grid.specs.declared.Axes.{Axes}
use Rattle.grid.specs.Grid.{voxels, index_of}
use Rattle.grid.specs.GridLaws.{index_within_lem}
use Rattle.samples.specs.Samples.{density_of, count_of, sample_count, side_from, side_of, share_of, point_of, cell_on, index_within, cell_of, sample_cell}
use Rattle.samples.specs.CastLaws.{cast_least, cast_most}

-- ---- the least side

pub square_most : (a : ℕ) → a ≤ a * a
square_most zero = omega arith
square_most (suc a) = omega (arith, mul-le-mul {n₁ = 1} {m₁ = suc a} {n₂ = suc a} {m₂ = suc a} (omega arith) (omega arith))

module _ (s : ℕ) where
  -- all below n have squares below s: then what is found has a square of at least s, where k numbers suffice, and all below it have not
  side_enough_from : (k n : ℕ) → s ≤ n + k → s ≤ side_from s k n * side_from s k n
  unfolding side_from
  side_enough_from zero n h = omega (arith, square_most n)
  side_enough_from (suc k) n h = go (nat_lt (n * n) s) refl (side_enough_from k (n + 1) (omega arith))
    where
      go : (b : Bool) → nat_lt (n * n) s ≡ b → s ≤ side_from s k (n + 1) * side_from s k (n + 1)
          → s ≤ cond b (side_from s k (n + 1)) n * cond b (side_from s k (n + 1)) n
      go true e r = r
      go false e r = ltb-false _ _ e

  side_least_from : (k n m : ℕ) → n ≤ m → s ≤ m * m → side_from s k n ≤ m
  unfolding side_from
  side_least_from zero n m h e = h
  side_least_from (suc k) n m h e = go (nat_lt (n * n) s) refl (side_least_from k (n + 1) m)
    where
      go : (b : Bool) → nat_lt (n * n) s ≡ b → (n + 1 ≤ m → s ≤ m * m → side_from s k (n + 1) ≤ m) → cond b (side_from s k (n + 1)) n ≤ m
      go true p r = r (above (ltb-true _ _ p)) e
        where
          above : n * n < s → n + 1 ≤ m
          above q = ⊎_elim (λ l. absurd (omega (arith, ap (λ (a : ℕ). a * a) l))) (λ l. omega arith) (eq-or-lt_of_le h)
      go false p r = h

  pub side_enough : s ≤ side_of s * side_of s
  unfolding side_of
  side_enough = side_enough_from s 0 (omega arith)

  pub side_least : (m : ℕ) → s ≤ m * m → side_of s ≤ m
  unfolding side_of
  side_least m e = side_least_from s 0 m (omega arith) e

-- ---- the count

least_cast : (x : Float) → Ieee.lt one32 x ≡ true → 1 ≤ to_unsigned 64 x
unfolding of_bits
least_cast x e = cast_least x e

most_cast : (x : Float) → Ieee.lt x most_target ≡ true → to_unsigned 64 x ≤ most_samples
unfolding of_bits
most_cast x e = cast_most x e

pub count_least : (x : Float) → 1 ≤ count_of x
unfolding count_of
count_least x = go (Ieee.lt one32 x) refl (Ieee.lt x most_target)
  where
    go : (a : Bool) → Ieee.lt one32 x ≡ a → (b : Bool) → 1 ≤ cond a (cond b (to_unsigned 64 x) most_samples) 1
    go true e true = least_cast x e
    go true e false = omega arith
    go false e b = omega arith

pub samples_most : (x : Float) → count_of x ≤ most_samples
unfolding count_of
samples_most x = go (Ieee.lt one32 x) (Ieee.lt x most_target) refl
  where
    go : (a b : Bool) → Ieee.lt x most_target ≡ b → cond a (cond b (to_unsigned 64 x) most_samples) 1 ≤ most_samples
    go true true e = most_cast x e
    go true false e = omega arith
    go false b e = omega arith

-- so at most 64 a side
pub side_most : (x : Float) → side_of (count_of x) ≤ 64
side_most x = side_least (count_of x) 64 (omega (arith, samples_most x))

-- ---- the cell

-- −0 is cell 0
pub cell_of_minus_zero : (n : ℕ) → cell_on (fin true 0 (pos 0)) (suc n) ≡ 0
unfolding cell_on of_bits of_fields odd Ieee.le Ieee.lt Ieee.eq to_unsigned
cell_of_minus_zero n = omega arith

-- a sample is in the grid or is none
pub index_most : (axes : Axes) (x y z : ℕ) → index_within axes x y z ≤ voxels axes
unfolding index_within
index_most axes x y z = go (nat_le axes.width x) refl (nat_le axes.height y) refl (nat_le axes.depth z) refl
  where
    go : (a : Bool) → nat_le axes.width x ≡ a → (b : Bool) → nat_le axes.height y ≡ b → (c : Bool) → nat_le axes.depth z ≡ c
        → cond a (voxels axes) (cond b (voxels axes) (cond c (voxels axes) (index_of axes x y z))) ≤ voxels axes
    go true p b q c r = omega arith
    go false p true q c r = omega arith
    go false p false q true r = omega arith
    go false p false q false r = le_of_lt (index_within_lem axes x y z (leb-false _ _ p) (leb-false _ _ q) (leb-false _ _ r))

pub sample_most : (axes : Axes) (low edges : Vec3) (t : Triangle) (n iu iv : ℕ) → sample_cell axes low edges t n iu iv ≤ voxels axes
unfolding sample_cell cell_of
sample_most axes low edges t n iu iv =
    go (Ieee.lt (Ieee.sub binary32 (Ieee.sub binary32 one32 (share_of iu n)) (share_of iv n)) zero32) (index_most axes _ _ _)
  where
    go : (b : Bool) {k : ℕ} → k ≤ voxels axes → cond b (voxels axes) k ≤ voxels axes
    go true h = omega arith
    go false h = h

-- ---- the figures: 1, 2, 4, 5 and 4,096 samples give sides of 1, 2, 2, 3 and 64; Q over an edge of 1 has one sample, at (.5, .5, 0)

pub sides : (side_of 1 ≡ 1) × (side_of 2 ≡ 2) × (side_of 4 ≡ 2) × (side_of 5 ≡ 3)
unfolding side_of side_from
sides = (refl, refl, refl, refl)

pub largest_side : side_of 4096 ≡ 64
largest_side = omega (arith, side_least 4096 64 (omega arith), enough (side_of 4096) (side_enough 4096))
  where
    enough : (n : ℕ) → 4096 ≤ n * n → 64 ≤ n
    enough n h = ⊎_elim (λ l. absurd (omega (arith, mul-le-mul (below l) (below l)))) (λ l. l) (lt_or_least n)
      where
        below : n < 64 → n ≤ 63
        below l = omega arith

        lt_or_least : (k : ℕ) → (k < 64) ⊎ (64 ≤ k)
        lt_or_least k = part (nat_lt k 64) refl
          where
            part : (b : Bool) → nat_lt k 64 ≡ b → (k < 64) ⊎ (64 ≤ k)
            part true e = inl (ltb-true _ _ e)
            part false e = inr (ltb-false _ _ e)

abbrev triangle_q : Triangle
triangle_q = record { p0 = vec zero32 zero32 zero32; p1 = vec one32 zero32 zero32; p2 = vec zero32 one32 zero32 }

pub q_count : sample_count triangle_q one32 ≡ 1
unfolding count_of density_of length_v cross_v sub_v dot_v root_of toward Ieee.add Ieee.sub Ieee.neg Ieee.mul Ieee.div Ieee.lt Ieee.round Ieee.sum Ieee.units odd Ieee.size Ieee.climb Ieee.span of_bits of_fields
q_count = refl

-- its weights are .5, .5 and 0, so that it is not skipped
pub q_share : share_of 0 1 ≡ half32
unfolding share_of Ieee.add Ieee.div Ieee.of_int Ieee.round Ieee.sum Ieee.units odd Ieee.size Ieee.climb Ieee.span of_bits of_fields
q_share = refl

pub q_rest : Ieee.sub binary32 (Ieee.sub binary32 one32 half32) half32 ≡ zero32
unfolding Ieee.sub Ieee.add Ieee.neg Ieee.round Ieee.sum Ieee.units odd Ieee.size Ieee.climb Ieee.span of_bits of_fields
q_rest = refl

pub q_point : point_of triangle_q half32 half32 zero32 ≡ vec half32 half32 zero32
unfolding point_of add_v scale_v Ieee.add Ieee.mul Ieee.round Ieee.sum Ieee.units odd Ieee.size Ieee.climb Ieee.span of_bits of_fields
q_point = refl
