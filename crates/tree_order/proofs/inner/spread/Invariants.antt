use Rattle.std.proofs.Common.{◌≡◌, ◌+◌, get_or, drop}
use Rattle.tree_order.specs.Order.{key_at, lowest_keys, highest_keys}
use Rattle.tree_order.proofs.inner.spread.Given as goal

abbrev pub invariant-loop-place : goal.invariant-loop-place
invariant-loop-place l =
    let first = key_at l.points (get_or l.run 0 0) in
    (lowest_keys l.points l.low (drop (l.place-index + 1) l.run) ≡ lowest_keys l.points first (drop 1 l.run))
    × (highest_keys l.points l.high (drop (l.place-index + 1) l.run) ≡ highest_keys l.points first (drop 1 l.run))
