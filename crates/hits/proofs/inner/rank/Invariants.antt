use Rattle.std.proofs.Common.{◌≡◌, ◌+◌, drop}
use Rattle.hits.specs.Hits.{struck, rank_of, paired}
use Rattle.hits.proofs.inner.rank.Given as goal

abbrev pub invariant-loop-j : goal.invariant-loop-j
invariant-loop-j l = rank_of (struck l.t l.i) (paired l.distances l.places) ≡ l.j + rank_of (struck l.t l.i) (paired (drop l.j l.distances) (drop l.j l.places))
