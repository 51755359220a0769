-- `tree_walk::inner::passing` meets its contract: once the hits are in order, their places are what the product goes over.
use Rattle.tree_walk.proofs.Came.{ordered_places}
use mathlib.Core.Path.{ap, ◌∙◌}
use Rattle.scan.specs.OpaqueLaws.{clear_pass_of}
use Rattle.tree_walk.proofs.inner.passing.Goals as goal

pub product-requires-clause-by_index_2 : goal.product-requires-clause-by_index_2
product-requires-clause-by_index_2 c =
    let o = c.in_order in
    rw (ordered_places _ _ _ _ o.auto.distances o.auto.places c.requires.distances_len.0 o.ensures) c.requires.by_index_2

pub returns : goal.returns
returns c =
    let o = c.in_order in
    c.product.ensures ∙ ap (clear_pass_of _ _ _) (ordered_places _ _ _ _ o.auto.distances o.auto.places c.requires.distances_len.0 o.ensures)
