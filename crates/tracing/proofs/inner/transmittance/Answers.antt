-- `tracing::inner::transmittance` meets its contract: with a tree the walk answers, and without one the scan of the list, which reads no tree.
use mathlib.Core.Path.{◌∙◌}
use mathlib.Core.Bool.{false}
use mathlib.Core.List.{[]}
use Rattle.names.specs.Scene.{hit_room}
use Rattle.tracing.specs.UnreadLaws.{transmittance_unread}
use Rattle.tracing.proofs.inner.transmittance.Goals as goal

pub transmittance-requires-2-clause-hits_fit : goal.transmittance-requires-2-clause-hits_fit
unfolding hit_room
transmittance-requires-2-clause-hits_fit c = c.requires.hits_fit

pub returns : goal.returns
returns c = rw c.if-boxed.false (c.transmittance-2.ensures ∙ transmittance_unread false _ _ _ _ [] _ [] [] _ _ _)
