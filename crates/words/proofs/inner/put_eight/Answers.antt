-- `words::inner::put_eight` copies the eight bytes, and that is the run of stores. Assumes nothing.
use mathlib.Core.Path.{◌≡◌, refl, ap, ◌∙◌}
use mathlib.Core.List.{List, ◌++◌, append_assoc}
use Prim.Native.Nat.{ℕ, ◌+◌, ◌≤◌}
use native.Mathlib.Numerals.{add-one}
use native.Mathlib.Omega.{arith}
use lib.ListN.{length, take, drop}
use lib.Seq.{paste, paste-suc}
use Rattle.std.proofs.lemmas.List.Edits.{sets, sets-eq, paste_all}
use Rattle.words.specs.ByWords.{eight_bytes}
use Rattle.words.proofs.inner.put_eight.Goals as goal

-- a copy of a whole list is the run of its stores
copied : (xs vs : List ℕ) (at n : ℕ) → length vs ≡ n → at + n ≤ length xs → paste xs at vs n ≡ sets xs at vs
copied xs vs at n l h =
    let s : sets xs at vs ≡ take at xs ++ vs ++ drop (at + length vs) xs = sets-eq vs xs at (omega arith) in
    paste_all xs at vs n (omega arith) ∙ rw (s, l, append_assoc)

pub loop-j-preserved : goal.loop-j-preserved
loop-j-preserved c =
    let a = c.args in
    let l = c.loop-j in
    let b = c.to_le_bytes-bytes in
    rw (l.invariant, add-one l.j) (paste-suc a.entries.now a.first b.result l.j 0 (omega arith) (omega (arith, ap length b.ensures)))

pub returns : goal.returns
returns c =
    let a = c.args in
    let l = c.loop-j in
    let e : l.j ≡ 8 = omega arith in
    rw e at l.invariant ∙ rw c.to_le_bytes-bytes.ensures (copied a.entries.now (eight_bytes a.x) a.first 8 refl c.requires)
