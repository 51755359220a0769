-- `words::inner::count_below` adds the ones of each word before that of p, and of that one those below p. Assumes nothing.
use mathlib.Core.Path.{◌≡◌, refl, sym, ap, ap₂, ◌∙◌}
use mathlib.Core.List.{List}
use Prim.Native.Nat.{ℕ, ◌+◌, ◌*◌, ◌/◌, ◌%◌, ◌^◌, ◌≤◌}
use native.Mathlib.Omega.{arith}
use lib.Count.{ones}
use lib.ListN.{length, take, get_or}
use lib.Seq.{length-take-le, get_or-take}
use Rattle.marks.specs.Marks.{marked_below}
use Rattle.words.specs.Words.{bit_at, entries_of}
use Rattle.words.specs.BitLaws.{total}
use Rattle.words.specs.WordsLaws.{marked_bits, bits_most, bits_part, bits_word}
use Rattle.words.proofs.inner.count_below.Goals as goal

-- the set bits below p, as the contract says them
counted : (words : List ℕ) (p : ℕ) {c : ℕ} → c ≡ total (bit_at words) p 0 → ((n : ℕ) → p ≤ n → c ≡ marked_below (entries_of words n) p) × (c ≤ p)
counted words p e = (λ n h. e ∙ sym (marked_bits words n p h), omega (arith, e, bits_most words p))

-- how many words are before that of p
long : (words : List ℕ) (p : ℕ) → p ≤ length words * 64 → length (take (p / 64) words) ≡ p / 64
long words p h = length-take-le (p / 64) words (omega arith)

pub loop-word-init : goal.loop-word-init
unfolding total
loop-word-init c = refl

pub overflow_add-c : goal.overflow_add-c
overflow_add-c c =
    let k = c.loop-word.word-index in
    let words = c.args.words.now in
    omega (arith, long words c.args.p c.requires, c.from-c.ensures, ap ones (get_or-take (c.args.p / 64) words k 0 (omega (arith, long words c.args.p c.requires))), bits_word words (λ j. (c.type_inv.words j).fits) k, bits_most words ((k + 1) * 64))

pub loop-word-preserved : goal.loop-word-preserved
loop-word-preserved c =
    let k = c.loop-word.word-index in
    let words = c.args.words.now in
    omega (arith, c.from-c.ensures, ap ones (get_or-take (c.args.p / 64) words k 0 (omega (arith, long words c.args.p c.requires))), bits_word words (λ j. (c.type_inv.words j).fits) k)

pub returns-then-p-eq0 : goal.returns-then-p-eq0
returns-then-p-eq0 c =
    let l = c.loop-word in
    let a = c.args in
    let e : l.word-index * 64 ≡ a.p = omega (arith, long a.words.now a.p c.requires) in
    counted a.words.now a.p (l.invariant ∙ ap (λ (y : ℕ). total (bit_at a.words.now) y 0) e)

pub overflow_add-result : goal.overflow_add-result
overflow_add-result c = omega (arith, long c.args.words.now c.args.p c.requires, bits_most c.args.words.now (c.loop-word.word-index * 64))

pub returns : goal.returns
returns c =
    let l = c.loop-word in
    let a = c.args in
    let words = a.words.now in
    let k : l.word-index ≡ a.p / 64 = omega (arith, long words a.p c.requires) in
    let before : l.c ≡ total (bit_at words) (a.p / 64 * 64) 0 = l.invariant ∙ ap (λ (x : ℕ). total (bit_at words) (x * 64) 0) k in
    let last : c.ones_below.result ≡ ones (get_or words (a.p / 64) 0 % 2 ^ (a.p % 64)) = c.ones_below.ensures.0 in
    let e : a.p / 64 * 64 + a.p % 64 ≡ a.p = omega arith in
    counted words a.p (ap₂ (λ (x y : ℕ). x + y) before last ∙ bits_part words (a.p / 64) (a.p % 64) (omega arith) ∙ ap (λ (x : ℕ). total (bit_at words) x 0) e)
