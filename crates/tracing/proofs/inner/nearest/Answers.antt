-- `tracing::inner::nearest` meets its contract: with a tree the walk answers, and without one the scan of the list, which reads no tree.
use mathlib.Core.Path.{◌∙◌}
use mathlib.Core.Bool.{false}
use mathlib.Core.List.{[]}
use Rattle.tracing.specs.UnreadLaws.{nearest_unread}
use Rattle.tracing.proofs.inner.nearest.Goals as goal

pub returns : goal.returns
returns c = rw c.if-boxed.false (c.nearest-2.ensures ∙ nearest_unread false _ _ _ _ [] _ [] [] _ _ _)
