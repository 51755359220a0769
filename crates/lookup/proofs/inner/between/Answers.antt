-- `lookup::inner::between` meets its contract: a cell that the two tests pass is the definition's, however it was guessed.
use Rattle.std.proofs.Common.{◌≡◌, ◌+◌, true, sym, arith}
use lib.Ieee.{lt}
use Rattle.grid.specs.Grid.{float_of}
use Rattle.lookup.specs.PlaceLaws.{clamped_least, strictly_between}
use Rattle.lookup.proofs.inner.between.Goals as goal

pub returns-then-f-float : goal.returns-then-f-float
returns-then-f-float c =
    let a = c.args in
    let p = c.requires in
    let k = c.guess-k.result in
    let low : lt (float_of k) a.f ≡ true = rw c.float-low.ensures at c.if-low-f.true in
    let high : lt a.f (float_of (k + 1)) ≡ true = rw c.float.ensures at c.if-f-float.true in
    record {
      same = rw (c.min.ensures, clamped_least a.n (k + 1) p.0, c.float-low.ensures) (sym (strictly_between a.n k a.f c.if-k-n.true p.1 low high));
      cell = c.if-k-n.true;
      next = omega (arith, c.min.ensures, p.0);
    }
