-- What passes a row's test −b ≤ x ≤ b, for a b that is n·2^k, is within that bound, and the other way round.
use Rattle.std.specs.Prelude.{◌≡◌, true, false, ℕ, ◌*◌, ◌^◌, Float}
use Rattle.std.specs.Float.Ieee.Exact.{HasValue}
use Rattle.vectors.specs.declared.Vec3.{Vec3}
use Rattle.limits.specs.Limits.{within, outside_v}
use Rattle.limits.specs.LimitsLaws.{within_between, vector_row}
use Rattle.bounds.specs.Bounds.{AtMost, EachAtMost}
use Rattle.bounds.specs.BoundsLaws.{at_most_of_test, test_of_at_most}

pub within_at_most : (b x : Float) (n k : ℕ) → HasValue b false (n * 2 ^ k) 1 → within b x ≡ true → AtMost n k x
within_at_most b x n k v h = let p = (within_between b x).0 h in at_most_of_test x b n k v p.0 p.1

pub at_most_within : (b x : Float) (n k : ℕ) → HasValue b false (n * 2 ^ k) 1 → AtMost n k x → within b x ≡ true
at_most_within b x n k v h = (within_between b x).1 (test_of_at_most x b n k v h)

-- of three numbers
pub within_each : (b : Float) (v : Vec3) (n k : ℕ) → HasValue b false (n * 2 ^ k) 1 → outside_v b v ≡ false → EachAtMost n k v
within_each b v n k w h =
    let p = (vector_row b v).0 h in
    record { x = within_at_most b v.x n k w p.0; y = within_at_most b v.y n k w p.1; z = within_at_most b v.z n k w p.2 }

pub each_within : (b : Float) (v : Vec3) (n k : ℕ) → HasValue b false (n * 2 ^ k) 1 → EachAtMost n k v → outside_v b v ≡ false
each_within b v n k w h =
    (vector_row b v).1 (at_most_within b v.x n k w h.x, at_most_within b v.y n k w h.y, at_most_within b v.z n k w h.z)
