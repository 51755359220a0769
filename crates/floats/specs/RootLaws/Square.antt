-- Squares near a number: a whole number next to √n, with n of 47 or 48 digits, has 24. Assumes nothing.
use Rattle.std.specs.Prelude.{◌≡◌, refl, ℕ, ◌+◌, ◌*◌, ◌≤◌, ◌<◌}
use Rattle.std.proofs.Common.{sym, ap, mul-le-mul, mul_comm, mul-add, add-mul, add_assoc, add_comm, lt_of_not-le, mul-one, one-mul, arith}
use Rattle.std.proofs.Math.Nat.{add_left_comm, le_dest}
use Rattle.floats.specs.RootParts.{Near, Rounds}

pub sq_suc : (r : ℕ) → (r + 1) * (r + 1) ≡ r * r + (r + r) + 1
sq_suc r = simp (mul-add, add-mul, mul-one, one-mul, add_assoc, add_comm, add_left_comm) refl

pub sq_le : {r s : ℕ} → r ≤ s → r * r ≤ s * s
sq_le h = mul-le-mul h h

-- r is at least 2^23 where r * r + r reaches a number from 2^46 up
pub at_least : (n r : ℕ) → n ≤ r * r + r → 70368744177664 ≤ n → 8388608 ≤ r
at_least n r h k = from (lt_of_not-le (λ (g : r ≤ 8388607). omega (arith, sq_le g)))
  where
    from : 8388607 < r → 8388608 ≤ r
    from h = omega arith

-- r is below 2^24 where r * r - r is below a number up to (2^24 - 1) * 2^24
pub at_most : (n r : ℕ) → r * r < n + r → n ≤ 281474959933440 → r < 16777216
at_most n r h k = lt_of_not-le (λ (g : 16777216 ≤ r). clash (le_dest g))
  where
    clash : (d : ℕ) × (16777216 + d ≡ r) → ⊥
    clash (d, e) =
        let q : r * r ≡ (16777216 + d) * (16777216 + d) = sym (ap (λ (z : ℕ). z * z) e) in
        let s : (16777216 + d) * (16777216 + d) ≡ 281474976710656 + 33554432 * d + d * d = expand d in
        omega arith
      where
        expand : (d : ℕ) → (16777216 + d) * (16777216 + d) ≡ 281474976710656 + 33554432 * d + d * d
        expand d = simp (mul-add, add-mul, mul_comm, add_assoc, add_comm, add_left_comm) (omega arith)

pub rounds : (n r : ℕ) → Near n → r * r < n + r → n ≤ r * r + r → Rounds n r
rounds n r N lo hi = record { least = at_least n r hi N.least; most = at_most n r lo N.most; low = lo; high = hi }
