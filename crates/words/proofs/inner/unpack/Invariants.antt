use mathlib.Core.Path.{◌≡◌}
use mathlib.Core.List.{List, ◌++◌}
use Prim.Native.Nat.{ℕ, ◌+◌, ◌-◌, ◌*◌, min}
use lib.ListN.{length, take}
use Rattle.lists.specs.Fold.{tab}
use Rattle.words.specs.Words.{bit_at, entries_of}
use Rattle.words.proofs.inner.unpack.Given as goal

-- the first i entries are written
abbrev pub Written : List ℕ → List ℕ → ℕ → ℕ → Type 0
Written words entries n i = take i entries ++ tab (bit_at words) (length entries - i) i ≡ entries_of words n

abbrev pub invariant-loop-k : goal.invariant-loop-k
invariant-loop-k l = Written l.words l.entries (length l.fn.entries) (min (l.k * 8) l.eights * 8)

abbrev pub invariant-loop-j : goal.invariant-loop-j
invariant-loop-j l = Written l.words l.entries (length l.fn.entries) ((l.k * 8 + l.j) * 8)

abbrev pub invariant-loop-i : goal.invariant-loop-i
invariant-loop-i l = Written l.words l.entries (length l.fn.entries) l.i
