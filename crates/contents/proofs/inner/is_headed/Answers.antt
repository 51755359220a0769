-- The tests in the definition's order.
use mathlib.Core.Path.{◌∙◌, subst}
use borrow.Author.Tests.{lt-leb}
use Rattle.contents.specs.Contents.{headed}
use Prim.Native.Nat.{ℕ, ◌<◌, ◌≤◌}
use Rattle.contents.proofs.Step.{held, failed}
use Rattle.contents.proofs.Head.{unmarked, few, many, sized}
use Rattle.contents.proofs.inner.is_headed.Goals as goal

pub returns-then-s-lt12 : goal.returns-then-s-lt12
unfolding headed
returns-then-s-lt12 c = simp (lt-leb _ _ c.if-s-lt12.true)

pub returns-then-not-is_marked : goal.returns-then-not-is_marked
returns-then-not-is_marked c = unmarked _ c.if-s-lt12.false (failed _ _ c.is_marked.ensures c.if-not-is_marked.true-raw)

pub returns-then-n-lt-LEAST_ENTRIES : goal.returns-then-n-lt-LEAST_ENTRIES
returns-then-n-lt-LEAST_ENTRIES c =
    let if1 = c.if-s-lt12 in
    let is_marked_lem = c.is_marked in
    let if2 = c.if-not-is_marked in
    let u16_at_lem = c.u16_at-n in
    few _ if1.false (held _ _ is_marked_lem.ensures if2.false-raw) (subst (λ (n : ℕ). n < 5) u16_at_lem.ensures.0 c.if-n-lt-LEAST_ENTRIES.true)

pub returns-then-n-gt-MOST_ENTRIES : goal.returns-then-n-gt-MOST_ENTRIES
returns-then-n-gt-MOST_ENTRIES c =
    let if1 = c.if-s-lt12 in
    let is_marked_lem = c.is_marked in
    let if2 = c.if-not-is_marked in
    let u16_at_lem = c.u16_at-n in
    let if3 = c.if-n-lt-LEAST_ENTRIES in
    many _ if1.false (held _ _ is_marked_lem.ensures if2.false-raw) (subst (λ (n : ℕ). 5 ≤ n) u16_at_lem.ensures.0 if3.false)
    (subst (λ (n : ℕ). 16 < n) u16_at_lem.ensures.0 c.if-n-gt-MOST_ENTRIES.true)

pub returns : goal.returns
returns c =
    let if1 = c.if-s-lt12 in
    let is_marked_lem = c.is_marked in
    let if2 = c.if-not-is_marked in
    let u16_at_lem = c.u16_at-n in
    let if3 = c.if-n-lt-LEAST_ENTRIES in
    let if4 = c.if-n-gt-MOST_ENTRIES in
    sized _ _ if1.false (held _ _ is_marked_lem.ensures if2.false-raw) (subst (λ (n : ℕ). 5 ≤ n) u16_at_lem.ensures.0 if3.false)
    (subst (λ (n : ℕ). n ≤ 16) u16_at_lem.ensures.0 if4.false) (c.size.ensures.0 ∙ u16_at_lem.ensures.0)
