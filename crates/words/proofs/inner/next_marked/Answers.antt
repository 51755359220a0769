-- `words::inner::next_marked`: a marked voxel is its own next; else the search finds it. Assumes nothing.
use mathlib.Core.Path.{sym, ◌∙◌}
use Rattle.words.specs.NextLaws.{first_here}
use Rattle.words.proofs.inner.next_marked.Goals as goal

pub returns-then-is_marked : goal.returns-then-is_marked
returns-then-is_marked c =
    let h = c.if-i-n.true in
    sym (first_here _ c.args.n c.args.i h (sym (c.is_marked.ensures c.args.n h) ∙ c.if-is_marked.true))
