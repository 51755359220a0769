use Rattle.std.proofs.Common.{◌≡◌, ◌-◌, ◌++◌, length, take}
use Rattle.lists.specs.Fold.{tab}
use Rattle.lookup.specs.Lookup.{number_blend, coefficient_blend}
use Rattle.lookup.proofs.inner.ArrayF3216Looked.blend.Given as goal

abbrev pub invariant-loop-k : goal.invariant-loop-k
invariant-loop-k l = (length l.numbers ≡ 16) × (take l.k l.numbers ++ tab (number_blend l.volume l.c) (length l.numbers - l.k) l.k ≡ coefficient_blend l.volume l.c)
