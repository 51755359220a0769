-- `tree_rows::inner::put_row` meets its contract: a row is three times three numbers.
use Rattle.tree_rows.specs.Layout.{with_row}
use Rattle.tree_rows.proofs.inner.put_row.Goals as goal

pub returns : goal.returns
unfolding with_row
returns c =
    let third = c.before.before in
    let z = third.before.before in
    let second = z.before.before.before.before.before in
    let first = second.before.before.before.before in
    let b = first in
    rw (third.put_vec-3.ensures, z.of_pattern-3.ensures, z.of_pattern-2.ensures, z.of_pattern.ensures, second.put_vec-2.ensures, first.put_vec.ensures, b.bounds_at-b.ensures)
