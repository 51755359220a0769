use Rattle.std.proofs.Common.{◌≡◌, ◌++◌, ◌+◌, ◌≤◌, length, take, drop}
use Rattle.hits.specs.Hits.{paired}
use Rattle.hits.specs.Merge.{merge_of}
use Rattle.hits.proofs.inner.merge.Given as goal

abbrev pub invariant-loop-k : goal.invariant-loop-k
invariant-loop-k l =
    (l.i ≤ l.half) × (l.half ≤ l.j) × (l.j ≤ length l.distances) × (l.k + l.half ≡ l.i + l.j)
    × (paired (take l.k l.ts) (take l.k l.is) ++ merge_of (paired (drop l.i (take l.half l.distances)) (drop l.i (take l.half l.places))) (paired (drop l.j l.distances) (drop l.j l.places))
    ≡ merge_of (paired (take l.half l.distances) (take l.half l.places)) (paired (drop l.half l.distances) (drop l.half l.places)))
