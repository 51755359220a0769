-- After i turns the first i numbers of xs stand from `at` on: a run of stores, four more each turn.
use borrow.Author.Rules.{rules}
use native.Mathlib.Omega.{arith}
use Prim.Native.Nat.{ℕ, ◌+◌, ◌*◌, ◌<◌}
use mathlib.Core.Path.{◌≡◌, refl, ap, ◌∙◌}
use mathlib.Core.List.{List}
use lib.ListN.{length, take, get_or}
use lib.Seq.{sets, length-sets, take_all}
use lib.Ieee.{Float, nan, binary32, to_bits}
use Rattle.bytes_le.specs.Bytes.{bytes4, encode}
use Rattle.bytes_le.specs.BytesLaws.{encode_one_more}
use Rattle.bytes_le.proofs.inner.put_floats.Goals as goal

again : (l s s' : List ℕ) (at : ℕ) (x : List Float) (i : ℕ) → i < length x → s ≡ sets l at (encode (take i x))
    → s' ≡ sets s (at + i * 4) (bytes4 (to_bits binary32 (get_or x i nan))) → s' ≡ sets l at (encode (take (i + 1) x))
again l s s' at x i h e f = f ∙ rw e (encode_one_more l at x i nan h)

pub loop-i-init : goal.loop-i-init
unfolding encode
loop-i-init c = (refl, refl, search rules)

pub put_number-requires : goal.put_number-requires
put_number-requires c =
    let loop = c.loop-i in
    let pre = c.requires in
    (omega arith, pre.1 loop.i (omega arith))

pub loop-i-preserved : goal.loop-i-preserved
loop-i-preserved c =
    let loop = c.loop-i in
    let loop_test = c.loop-i-test in
    let put_number = c.put_number in
    (again _ _ _ _ _ loop.i loop_test.true loop.invariant.0 put_number.ensures, ap length put_number.ensures ∙ simp length-sets loop.invariant.1, omega arith)

pub returns : goal.returns
returns c = c.loop-i.invariant.0 ∙ rw (take_all _ _ c.loop-i-test.false) refl
