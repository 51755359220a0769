use Rattle.std.proofs.Common.{◌≡◌, ◌++◌, take, drop, map}
use Rattle.tree_order.specs.Ranks.{place_of}
use Rattle.tree_order.proofs.inner.put_places.Given as goal

abbrev pub invariant-loop-k : goal.invariant-loop-k
invariant-loop-k l = take l.k l.run ++ map place_of (drop l.k l.ranks) ≡ map place_of l.ranks
