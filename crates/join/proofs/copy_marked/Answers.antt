-- `join::copy_marked` goes from mark to mark: below i all marked voxels are copied, and i is marked or the end. Assumes nothing.
use Prim.Native.Nat.{◌+◌, ◌-◌}
use native.Mathlib.Omega.{arith}
use Rattle.marks.specs.Marks.{is_marked}
use Rattle.words.specs.Words.{entries_of}
use Rattle.words.specs.NextLaws.{next_from_lem}
use Rattle.join.specs.JoinLaws.{copied_none, copied_next, copied_all}
use Rattle.join.proofs.copy_marked.Goals as goal

pub loop-i-init : goal.loop-i-init
loop-i-init c =
    let s = c in
    rw c.next_marked-i.ensures (copied_none _ _ _ _ s.requires.from_len.0 s.requires.from_len.1)

pub loop-i-smaller : goal.loop-i-smaller
loop-i-smaller c =
    let s = c in
    let l = c.loop-i in
    omega (arith, c.next_marked-i-in-loop-i.ensures, next_from_lem (is_marked (entries_of s.args.share.now s.args.n)) s.args.n (s.args.n - (l.i + 1)) (l.i + 1) (omega arith))

pub loop-i-preserved : goal.loop-i-preserved
loop-i-preserved c =
    let s = c in
    let l = c.loop-i in
    rw (c.next_marked-i-in-loop-i.ensures, c.copy_voxel.ensures)
    (copied_next _ _ _ _ s.requires.from_len.0 s.requires.from_len.1 l.to l.i (omega arith) l.invariant)

pub returns : goal.returns
returns c =
    let l = c.loop-i in
    let s = c in
    copied_all _ _ _ _ s.requires.from_len.0 s.requires.from_len.1 _ l.i (omega arith) l.invariant
