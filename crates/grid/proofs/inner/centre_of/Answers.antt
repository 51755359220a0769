-- `grid::inner::centre_of` meets its contract: an index of the grid and its axes are small, and the index's coordinates lie within the axes.
use native.Mathlib.Omega.{arith}
use Rattle.grid.specs.GridLaws.{voxels_most, x_within, y_within, z_within}
use Rattle.grid.proofs.inner.centre_of.Goals as goal

pub overflow_cast-k : goal.overflow_cast-k
overflow_cast-k c = omega (arith, voxels_most c.args.axes c.requires.axes_within)

pub overflow_cast-w : goal.overflow_cast-w
overflow_cast-w c = omega (arith, c.requires.axes_within.widest)

pub overflow_cast-h : goal.overflow_cast-h
overflow_cast-h c = omega (arith, c.requires.axes_within.highest)

pub overflow_cast-k-2 : goal.overflow_cast-k-2
overflow_cast-k-2 c = let s = c.before.before in omega (arith, s.requires.axes_within.widest, x_within s.args.axes s.args.i s.requires.axes_within.width)

pub overflow_cast-row : goal.overflow_cast-row
overflow_cast-row c = let s = c.before.before in omega (arith, s.requires.axes_within.highest, y_within s.args.axes s.args.i s.requires.axes_within.height)

pub overflow_cast-row-2 : goal.overflow_cast-row-2
overflow_cast-row-2 c = let s = c.before.before in omega (arith, s.requires.axes_within.deepest, z_within s.args.axes s.args.i s.requires.axes_within.width s.requires.axes_within.height s.requires.i_bound)

pub centre-requires : goal.centre-requires
centre-requires c =
    let s = c.before.before in
    let a = s.args.axes in
    let w = s.requires.axes_within in
    (omega (arith, x_within a s.args.i (omega arith)), omega (arith, y_within a s.args.i (omega arith)), omega (arith, z_within a s.args.i (omega arith) (omega arith) s.requires.i_bound))
