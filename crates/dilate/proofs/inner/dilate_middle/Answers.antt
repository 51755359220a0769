-- `dilate::inner::dilate_middle`: the first k blocks are dilated and the rest is as it was; all of them are the grid. Assumes nothing.
use mathlib.Core.Path.{◌≡◌, refl, sym, ap, ◌∙◌}
use Prim.Native.Nat.{ℕ, ◌+◌, ◌-◌, ◌*◌, ◌≤◌, ◌<◌}
use native.Mathlib.Omega.{arith}
use native.Mathlib.Nat.{one-mul, mul-pos}
use Rattle.grid.specs.Grid.{voxels}
use Rattle.grid.specs.declared.Axes.{Axes}
use Rattle.dilate.specs.BlockLaws.{blocks_single, blocks_next, block_whole, block_inside, blocks_middle}
use Rattle.dilate.proofs.inner.dilate_middle.Goals as goal

-- how many bits a block has
abbrev block : Axes → ℕ
block v = v.width + (v.height - 1) * v.width

-- block k lies within the grid
within : (v : Axes) (k : ℕ) → 0 < v.height → k < v.depth → k * block v + block v ≤ voxels v
within v k h q = block_inside v (block v) k (block_whole v h) q

pub returns-then-view-eq1 : goal.returns-then-view-eq1
returns-then-view-eq1 c =
    let v = c.args.view in
    let m = c.args.mask.now in
    blocks_middle v m m v.width (sym (ap (λ (x : ℕ). x * v.width) c.if-view-eq1.true ∙ one-mul v.width))
    c.requires.0 c.requires.1 c.requires.3 (blocks_single m v.width v.depth) refl

pub overflow_mul-k : goal.overflow_mul-k
overflow_mul-k c = omega (arith, within c.args.view c.loop-k.k c.requires.1 c.loop-k-test.true)

pub dilate_block-requires : goal.dilate_block-requires
dilate_block-requires c =
    let e = within c.args.view c.loop-k.k c.requires.1 c.loop-k-test.true in
    (c.requires.0, mul-pos (omega arith) c.requires.0, omega arith, omega arith)

pub loop-k-preserved : goal.loop-k-preserved
loop-k-preserved c =
    let v = c.args.view in
    let l = c.loop-k in
    (c.dilate_block.auto.mask ∙ l.invariant.0, blocks_next c.args.mask.now l.mask _ v.width (block v) l.k l.invariant.1 c.dilate_block.ensures)

pub returns : goal.returns
returns c =
    let v = c.args.view in
    let l = c.loop-k in
    let e : l.k ≡ v.depth = omega arith in
    blocks_middle v c.args.mask.now l.mask (block v) (block_whole v c.requires.1) c.requires.0 c.requires.1 c.requires.3 (rw e at l.invariant.1) l.invariant.0
