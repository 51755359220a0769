-- `decimal` puts as many digits as n has, from the last down.
use native.Mathlib.Omega.{arith}
use native.Mathlib.Numerals.{add-one, sub-one}
use mathlib.Core.Path.{◌≡◌, sym, ap, ◌∙◌, subst}
use mathlib.Core.Bool.{Bool, cond}
use mathlib.Core.List.{List, ◌∷◌, ◌++◌}
use Prim.Native.Nat.{ℕ, zero, suc, ◌+◌, ◌-◌, ◌/◌, ◌%◌, ◌^◌, ◌*◌, ◌≤◌, ◌<◌, max}
use native.Mathlib.Nat.{mul_comm, pow-le-pow_right}
use lib.Pow.{pow-add}
use borrow.Author.Tests.{lt-ltb}
use lib.ListN.{length, take, drop, set}
use lib.Seq.{slice, length-take-le, take-set-lt, append_snoc}
use Rattle.std.proofs.lemmas.List.{drop-set, drop-set-lt}
use Rattle.console.specs.Digits.{IsDigitCount, hex_digit_ascii, last_digits}
use Rattle.console.proofs.number.decimal.Goals as goal

digit_is : (d : ℕ) → d < 10 → 48 + d ≡ hex_digit_ascii d
digit_is d h = sym (ap (λ (t : Bool). cond t (48 + d) (87 + d)) (lt-ltb d 10 h))

-- a turn moves the last of the digits that are still to write to the front of those that are written
digits_step : (i k rest : ℕ) (out : List ℕ) → 0 < i → i ≤ k → k ≤ length out
    → last_digits 10 (i - 1) (rest / 10) ++ slice (i - 1) k (set out (i - 1) (48 + rest % 10)) ≡ last_digits 10 i rest ++ slice i k out
digits_step zero k rest out some h room = absurd (omega arith)
digits_step (suc j) k rest out some h room =
    let todo = last_digits 10 j (rest / 10) in
    let done = slice (suc j) k out in
    let within : j < length (take k out) = subst (λ (n : ℕ). j < n) (sym (length-take-le k out room)) h in
    ap (λ (m : ℕ). last_digits 10 m (rest / 10) ++ slice m k (set out m (48 + rest % 10))) (sub-one (suc j))
    ∙ ap (λ (l : List ℕ). todo ++ drop j l) (take-set-lt k out j (48 + rest % 10) h)
    ∙ ap (λ (l : List ℕ). todo ++ l) (drop-set (take k out) j (48 + rest % 10) within)
    ∙ ap (λ (m : ℕ). todo ++ (48 + rest % 10) ∷ drop m (take k out)) (add-one j)
    ∙ ap (λ (x : ℕ). todo ++ x ∷ done) (digit_is (rest % 10) (omega arith))
    ∙ sym (append_snoc todo (hex_digit_ascii (rest % 10)) done)

pub loop-i-preserved : goal.loop-i-preserved
loop-i-preserved c =
    let l = c.loop-i in
    let k = c.ilog10.result + 1 in
    record {
      digits = digits_step l.i k l.rest l.out c.loop-i-test.true (omega arith) (omega arith) ∙ l.invariant.digits;
      rest = drop-set-lt k l.out (l.i - 1) _ (omega arith) ∙ l.invariant.rest;
    }

-- 0 has a digit too
count_is : (n r : ℕ) → 10 ^ r ≤ max n 1 → max n 1 < 10 * 10 ^ r → IsDigitCount 10 1 n (r + 1)
count_is n r least most =
    let next : 10 ^ (r + 1) ≡ 10 * 10 ^ r = pow-add 10 r 1 ∙ mul_comm (10 ^ r) 10 in
    let e : r + 1 - 1 ≡ r = omega arith in
    (omega arith, omega arith, λ more. rw e (let some : 10 ^ 1 ≤ 10 ^ r = pow-le-pow_right (omega arith) {i = 1} {j = r} (omega arith) in omega arith))

pub returns-clause-len : goal.returns-clause-len
returns-clause-len c =
    let r = c.ilog10 in
    count_is c.args.n r.result (omega arith) (omega arith)
