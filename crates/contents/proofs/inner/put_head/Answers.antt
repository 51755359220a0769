-- Five runs of stores, each right after the one before, are one.
use mathlib.Core.Path.{refl}
use mathlib.Core.List.{◌++◌}
use Rattle.bytes_le.specs.Bytes.{bytes2}
use Rattle.bytes_le.specs.BytesLaws.{sets_after}
use Rattle.contents.specs.Contents.{mark}
use Rattle.contents.proofs.inner.put_head.Goals as goal

pub returns : goal.returns
returns c =
    let args = c.args in
    let put_mark = c.put_mark in
    let put_u16 = c.put_u16 in
    let put_u162 = c.put_u16-2 in
    let put_u163 = c.put_u16-3 in
    let put_u164 = c.put_u16-4 in
    sets_after args.s.now 0 10 (mark ++ bytes2 args.axes.width ++ bytes2 args.axes.height ++ bytes2 args.axes.depth) (bytes2 5) refl
    (sets_after args.s.now 0 8 (mark ++ bytes2 args.axes.width ++ bytes2 args.axes.height) (bytes2 args.axes.depth) refl (sets_after args.s.now 0 6 (mark ++ bytes2 args.axes.width) (bytes2 args.axes.height) refl (sets_after args.s.now 0 4 mark (bytes2 args.axes.width) refl put_mark.ensures put_u16.ensures) put_u162.ensures) put_u163.ensures)
    put_u164.ensures
