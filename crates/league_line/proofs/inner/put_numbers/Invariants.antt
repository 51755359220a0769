use Rattle.std.proofs.Common.{◌≡◌, ◌++◌, ◌+◌, ◌*◌, ◌≤◌, take}
use Rattle.league_line.specs.Text.{spaced}
use Rattle.league_line.proofs.inner.put_numbers.Given as goal

abbrev pub invariant-loop-n : goal.invariant-loop-n
invariant-loop-n l = (take l.end l.line ≡ take l.at l.initial.line ++ spaced (take l.n-index l.numbers)) × (l.end ≤ l.at + l.n-index * 21)
