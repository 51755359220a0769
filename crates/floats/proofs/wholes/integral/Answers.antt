-- `floats::wholes::integral` meets its contract: from 2^23 up a number is whole; below, its 24 digits over a power of two step as its value does.
use mathlib.Core.Path.{sym, ap, ◌∙◌, subst}
use Prim.Native.Nat.{◌+◌, ◌%◌, ◌^◌}
use mathlib.Core.Bool.{Bool, not, beq}
use native.Mathlib.Nat.{le_trans, le_of_eq}
use native.Mathlib.Omega.{arith}
use lib.Dec.{T, leb}
use lib.Ieee.{binary32, fits, to_bits, neg, round}
use borrow.Author.Tests.{le-leb, lt-leb}
use Rattle.floats.proofs.Choose.{no_number}
use Rattle.floats.specs.WholeLaws.Steps.{step_le, round_neg}
use Rattle.floats.proofs.Steps.{finish, large, at_zero_lem, toward_nan, of_int_lem, in_float_lem}
use Rattle.floats.proofs.wholes.integral.Goals as goal
use Rattle.floats.proofs.wholes.integral.Goals.{Start}

held : (c : Start) → T (fits binary32 c.args.x)
held c = subst T (sym c.well_formed.0.1) tt

pub returns-then-is_nan : goal.returns-then-is_nan
returns-then-is_nan c = let a = c.args in sym no_number ∙ toward_nan a.up a.x (sym c.is_nan.ensures.value ∙ c.if-is_nan.true)

pub returns-then-a-ge1258291200 : goal.returns-then-a-ge1258291200
returns-then-a-ge1258291200 c = let s = (goal.at.returns-then-a-ge1258291200 c).Start in large s.args.up s.args.x (held s) c.if-a-ge1258291200.true

pub returns-then-a-eq0 : goal.returns-then-a-eq0
returns-then-a-eq0 c = let s = (goal.at.returns-then-a-eq0 c).Start in at_zero_lem s.args.up s.args.x (held s) c.if-a-eq0.true

pub int_to_float-y : goal.int_to_float-y
int_to_float-y c =
    let a = c.args in
    let b = to_bits binary32 a.x in
    let l = step_le (not (beq (leb 2147483648 b) a.up)) (b % 2147483648 % 8388608 + 8388608) (2 ^ c.places-k.result) in
    in_float_lem c.whole-y.result (le_trans (le_of_eq c.whole-y.ensures) (le_trans l (omega arith)))

pub returns-then-negative : goal.returns-then-negative
returns-then-negative c =
    let s = (goal.at.returns-then-negative c).Start in
    let x = s.args.x in
    let q = c.whole-y.result in
    ap neg (of_int_lem q) ∙ round_neg q ∙ ap (λ (t : Bool). round binary32 t q 1) (sym (le-leb 2147483648 (to_bits binary32 x) c.if-negative.true))
    ∙ finish s.args.up q c.places-k.result x (held s) (omega arith) c.if-a-eq0.false c.places-k.ensures c.whole-y.ensures

pub returns-else-negative : goal.returns-else-negative
returns-else-negative c =
    let s = (goal.at.returns-else-negative c).Start in
    let x = s.args.x in
    let q = c.whole-y.result in
    of_int_lem q ∙ ap (λ (t : Bool). round binary32 t q 1) (sym (lt-leb 2147483648 (to_bits binary32 x) c.if-negative.false))
    ∙ finish s.args.up q c.places-k.result x (held s) (omega arith) c.if-a-eq0.false c.places-k.ensures c.whole-y.ensures
