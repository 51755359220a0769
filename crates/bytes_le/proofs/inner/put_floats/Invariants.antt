use Prim.Native.Nat.{◌-◌, ◌≤◌}
use mathlib.Core.Path.{◌≡◌}
use lib.ListN.{length, take}
use lib.Seq.{sets}
use Rattle.bytes_le.specs.Bytes.{encode}
use Rattle.bytes_le.proofs.inner.put_floats.Given as goal

abbrev pub invariant-loop-i : goal.invariant-loop-i
invariant-loop-i l = (l.s ≡ sets l.initial.s l.at (encode (take l.i l.xs))) × (length l.s ≡ length l.initial.s) × (l.i ≤ length l.xs)

abbrev pub decreases-loop-i : goal.decreases-loop-i
decreases-loop-i l = length l.xs - l.i
