-- The table keeps module 2's rule at every entry: one test, computed over all 576 of them, and a lemma that gives the rule at each. The test counts units by
-- the floats' `count`, which is exact for every f32.
-- And what callers cite of it: the table's length, and a bound of every component.
use Rattle.std.specs.Prelude.{◌≡◌, refl, Bool, true, false, ℕ, zero, suc, ◌+◌, ◌*◌, ◌^◌, ◌/◌, ◌%◌, ◌<◌, ◌≤◌, T, leb, length, get_or, Float}
use Rattle.std.proofs.Common.{subst, add-zero, mul-le-mul, lt_of_le_of_lt, arith, leb→le, lit<}
use Rattle.std.proofs.Math.Decide.{dec_lt}
use Rattle.std.specs.Float.{nan, inf, fin, binary32}
use Rattle.std.specs.Float.Ieee.{fits, of_bits, of_fields, odd}
use Rattle.std.specs.Float.Ieee.Bits.{of_bits-fits}
use Rattle.std.specs.Float.Ieee.Exact.{HasValue}
use Rattle.std.specs.Float.Ieee.Scale.{finite}
use Rattle.std.specs.Int.Count.{count_trailing_zeros}
use Rattle.floats.specs.Units.{InUnits}
use Rattle.floats.specs.Root.{count}
use Rattle.floats.specs.RootLaws.Units.{count_exact}
use Rattle.directions.specs.Table.{patterns, directions}
use Rattle.directions.specs.Rule.{Close, AtHeight, Ruled, step_of}
use Rattle.directions.specs.Triples.{both, both_left, both_right, every3, at, get_d_map}
use Rattle.directions.specs.RuleLaws.{Small}

pub patterns_length : length patterns ≡ 1728
unfolding patterns
patterns_length = refl

pub directions_length : length directions ≡ 1728
unfolding directions patterns
directions_length = refl

-- number n of the table is the float of its pattern
pub number_at : (n : ℕ) → n < 1728 → get_or directions n nan ≡ of_bits binary32 (get_or patterns n 0)
unfolding directions
number_at n h = get_d_map (of_bits binary32) patterns n 0 nan (omega (arith, patterns_length))

-- ---- the rule as a test

-- a number's units and its sign
units : Float → ℕ
units nan = 0
units (inf s) = 0
units (fin s m e) = count m e

negative : Float → Bool
negative nan = false
negative (inf s) = s
negative (fin s m e) = s

exact_units : (x : Float) → T (fits binary32 x) → T (finite x) → HasValue x (negative x) (units x) (2 ^ 149)
unfolding units negative
exact_units nan h f = absurd f
exact_units (inf s) h f = absurd f
exact_units (fin s m e) h f = count_exact s m e h

abbrev counted : (x : Float) → T (fits binary32 x) → T (finite x) → InUnits (2 ^ 149) x
counted x h f = record { negative = negative x; size = units x; exact = exact_units x h f }

abbrev near : ℕ → ℕ → ℕ → Bool
near d a b = both (leb b (a + d)) (leb a (b + d))

abbrev high : ℕ → Bool → ℕ → Bool
high k false size = near (2 ^ 129) (size + k * 2 ^ 144) (2 ^ 149)
high k true size = near (2 ^ 129) (k * 2 ^ 144) (2 ^ 149 + size)

abbrev long : Float → Float → Float → ℕ
long x y z = units x * units x + units y * units y + units z * units z

abbrev ruled : ℕ → Float → Float → Float → Bool
ruled k x y z = both (both (finite x) (both (finite y) (finite z))) (both (near (2 ^ 278) (long x y z) (2 ^ 298)) (high k (negative z) (units z)))

-- at triple n of the table: entry n % 64 of set n / 64
abbrev right : ℕ → ℕ → ℕ → ℕ → Bool
right n x y z = ruled (step_of (n / 64) (n % 64)) (of_bits binary32 x) (of_bits binary32 y) (of_bits binary32 z)

-- the one test over the whole table, computed
passed : T (every3 right 0 patterns)
unfolding patterns of_bits of_fields odd count_trailing_zeros count units negative
passed = tt

near_of : (d a b : ℕ) → T (near d a b) → Close d a b
near_of d a b t =
    record { low = leb→le _ _ (both_left (leb b (a + d)) (leb a (b + d)) t); high = leb→le _ _ (both_right (leb b (a + d)) (leb a (b + d)) t) }

height_of : (k : ℕ) (n : Bool) (size : ℕ) → T (high k n size) → AtHeight k n size
height_of k false size t = near_of (2 ^ 129) (size + k * 2 ^ 144) (2 ^ 149) t
height_of k true size t = near_of (2 ^ 129) (k * 2 ^ 144) (2 ^ 149 + size) t

ruled_of : (k : ℕ) (x y z : Float) → T (fits binary32 x) → T (fits binary32 y) → T (fits binary32 z) → T (ruled k x y z) → Ruled k x y z
ruled_of k x y z a b c t =
    let F = both (finite x) (both (finite y) (finite z)) in
    let L = near (2 ^ 278) (long x y z) (2 ^ 298) in
    let H = high k (negative z) (units z) in
    let f = both_left F (both L H) t in
    let g = both_right (finite x) (both (finite y) (finite z)) f in
    let u = both_right F (both L H) t in
    record {
      in_x = counted x a (both_left (finite x) (both (finite y) (finite z)) f);
      in_y = counted y b (both_left (finite y) (finite z) g);
      in_z = counted z c (both_right (finite y) (finite z) g);
      length = near_of (2 ^ 278) (long x y z) (2 ^ 298) (both_left L H u);
      height = height_of k (negative z) (units z) (both_right L H u);
    }

-- ---- what the table is

-- direction i of set s keeps the rule
pub rule : (s i : ℕ) → s < 9 → i < 64
    → Ruled (step_of s i) (get_or directions ((64 * s + i) * 3) nan) (get_or directions ((64 * s + i) * 3 + 1) nan) (get_or directions ((64 * s + i) * 3 + 2) nan)
rule s i hs hi =
    let n : ℕ = 64 * s + i in
    let e : n / 64 ≡ s = omega arith in
    let f : n % 64 ≡ i = omega arith in
    let h : n * 3 + 2 < length patterns = omega (arith, patterns_length) in
    rw (number_at (n * 3) (omega arith), number_at (n * 3 + 1) (omega arith), number_at (n * 3 + 2) (omega arith))
    (ruled_of (step_of s i) _ _ _ (of_bits-fits binary32 (get_or patterns (n * 3) 0)) (of_bits-fits binary32 (get_or patterns (n * 3 + 1) 0)) (of_bits-fits binary32 (get_or patterns (n * 3 + 2) 0))
    (subst (λ (m : ℕ). T (ruled (step_of m i) (of_bits binary32 (get_or patterns (n * 3) 0)) (of_bits binary32 (get_or patterns (n * 3 + 1) 0)) (of_bits binary32 (get_or patterns (n * 3 + 2) 0)))) e
    (subst (λ (m : ℕ). T (ruled (step_of (n / 64) m) (of_bits binary32 (get_or patterns (n * 3) 0)) (of_bits binary32 (get_or patterns (n * 3 + 1) 0)) (of_bits binary32 (get_or patterns (n * 3 + 2) 0)))) f
    (at right patterns passed n h))))

-- a number whose square is below another's is below it
root_below : (a b : ℕ) → a * a < b * b → a < b
root_below a b h = go (dec_lt a b)
  where
    go : Dec (a < b) → a < b
    go (yes p) = p
    go (no q) = absurd (omega (arith, mul-le-mul {n₁ = b} {m₁ = b} {n₂ = a} {m₂ = a} (omega arith) (omega arith)))

parts : (a b c t : ℕ) → a + b + c ≤ t → (a ≤ t) × (b ≤ t) × (c ≤ t)
parts a b c t h = (omega arith, omega arith, omega arith)

small : (a : ℕ) → a * a ≤ 2 ^ 298 + 2 ^ 278 → a < 2 ^ 149 + 2 ^ 128
small a h = root_below a (2 ^ 149 + 2 ^ 128) (lt_of_le_of_lt h (lit< tt))

pub ruled_small : (k : ℕ) (x y z : Float) → Ruled k x y z → Small x × Small y × Small z
ruled_small k x y z r =
    let a = r.in_x.size in
    let b = r.in_y.size in
    let c = r.in_z.size in
    let p = parts (a * a) (b * b) (c * c) (2 ^ 298 + 2 ^ 278) r.length.high in
    (record { in_units = r.in_x; below = small a p.0 }, record { in_units = r.in_y; below = small b p.1 }, record { in_units = r.in_z; below = small c p.2 })

-- so every number of the table is
pub number_small : (s i c : ℕ) → s < 9 → i < 64 → c < 3 → Small (get_or directions ((64 * s + i) * 3 + c) nan)
number_small s i c hs hi hc = go c hc (ruled_small (step_of s i) _ _ _ (rule s i hs hi))
  where
    go : (d : ℕ) → d < 3
        → Small (get_or directions ((64 * s + i) * 3) nan) × Small (get_or directions ((64 * s + i) * 3 + 1) nan) × Small (get_or directions ((64 * s + i) * 3 + 2) nan)
        → Small (get_or directions ((64 * s + i) * 3 + d) nan)
    go zero h r = rw add-zero r.0
    go (suc zero) h r = r.1
    go (suc (suc zero)) h r = r.2
    go (suc (suc (suc d))) h r = absurd (omega arith)
