use Rattle.std.proofs.Common.{◌≡◌, length, take, drop}
use Rattle.hits.specs.Hits.{paired}
use Rattle.hits.specs.Merge.{insert_all}
use Rattle.hits.proofs.inner.one_by_one.Given as goal

abbrev pub invariant-loop-m : goal.invariant-loop-m
invariant-loop-m l =
    (length l.distances ≡ length l.initial.distances) × (length l.places ≡ length l.initial.places)
    × (insert_all (paired (take l.m l.distances) (take l.m l.places)) (paired (drop l.m l.distances) (drop l.m l.places))
    ≡ insert_all (paired (take l.from l.initial.distances) (take l.from l.initial.places)) (paired (drop l.from l.initial.distances) (drop l.from l.initial.places)))
