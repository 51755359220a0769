-- `floats::root` meets its contract: each way out gives what IEEE 754 calls the root (`RootOf`), and `root_of` is the only such f32.
use mathlib.Core.Path.{◌≡◌, sym, ◌∙◌, subst}
use Prim.Native.Nat.{◌+◌, ◌/◌, ◌%◌}
use native.Mathlib.Omega.{arith}
use lib.Dec.{T}
use lib.Ieee.{Float, binary32, fits, to_bits}
use lib.Ieee.Bits.{to_bits-lt}
use Rattle.floats.specs.Root.{RootOf, root_of}
use Rattle.floats.specs.RootLaws.{root_is_only}
use Rattle.floats.proofs.Choose.{no_number}
use Rattle.floats.proofs.Rooting.{result_bits}
use Rattle.floats.proofs.Ends.{root_nan, root_normal, root_subnormal, root_self, self_zero, self_inf, self_minus_zero, root_negative}
use Rattle.floats.proofs.root.Goals as goal
use Rattle.floats.proofs.root.Goals.{Start}

held : (c : Start) → T (fits binary32 c.args.x)
held c = subst T (sym c.well_formed.0.1) tt

is : (c : Start) {y : Float} → RootOf c.args.x y → y ≡ root_of c.args.x
is c {y} r = root_is_only c.args.x y (held c) r

pub returns-then-is_nan : goal.returns-then-is_nan
returns-then-is_nan c = let s = c.before.before in is s (subst (λ (v : Float). RootOf s.args.x v) no_number (root_nan s.args.x (sym c.is_nan.ensures.value ∙ c.if-is_nan.true)))

pub float_from_bits-result : goal.float_from_bits-result
float_from_bits-result c = let b = to_bits binary32 c.args.x in result_bits (b % 8388608 + 8388608) (b / 8388608 + 23) c.of_digits.result (omega arith) c.of_digits.ensures

pub returns-then-b-ge8388608 : goal.returns-then-b-ge8388608
returns-then-b-ge8388608 c = let s = c.before.before.before.before.before in is s (root_normal s.args.x c.of_digits.result (held s) (omega arith) (omega arith) c.of_digits.ensures)

pub returns-then-b-eq0 : goal.returns-then-b-eq0
returns-then-b-eq0 c = let s = c.before.before.before.before.before in is s (root_self s.args.x 0 (held s) self_zero c.if-b-eq0.true)

pub float_from_bits-result-then-b-lt2139095040 : goal.float_from_bits-result-then-b-lt2139095040
float_from_bits-result-then-b-lt2139095040 c = let q = c.of_small.ensures in result_bits q.m q.e c.of_small.result q.small q.rooted

pub returns-then-b-lt2139095040 : goal.returns-then-b-lt2139095040
returns-then-b-lt2139095040 c = let s = c.before.before.before.before.before.before in is s (root_subnormal s.args.x c.of_small.result (held s) (omega arith) (omega arith) c.of_small.ensures)

pub returns-then-b-eq2139095040 : goal.returns-then-b-eq2139095040
returns-then-b-eq2139095040 c = let s = c.before.before.before.before in is s (root_self s.args.x 2139095040 (held s) self_inf c.if-b-eq2139095040.true)

pub returns-then-b : goal.returns-then-b
returns-then-b c = let s = c.before.before.before.before.before in is s (root_self s.args.x 2147483648 (held s) self_minus_zero c.if-b.true)

pub returns : goal.returns
returns c =
    let s = c.before.before.before.before.before in
    is s (subst (λ (v : Float). RootOf s.args.x v) no_number
    (root_negative s.args.x (held s) (to_bits-lt binary32 s.args.x (held s)) (omega arith) c.if-b-eq2139095040.false c.if-b.false))
