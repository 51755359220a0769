-- Three runs of stores, each right after the one before, are one.
use Prim.Native.Nat.{◌+◌}
use mathlib.Core.Path.{refl}
use mathlib.Core.List.{◌++◌}
use Rattle.bytes_le.specs.Bytes.{bytes4}
use Rattle.bytes_le.specs.BytesLaws.{sets_after}
use Rattle.contents.proofs.inner.put_entry.Goals as goal

pub returns : goal.returns
returns c =
    let args = c.args in
    let put_u32 = c.put_u32 in
    let put_u322 = c.put_u32-2 in
    let put_u323 = c.put_u32-3 in
    sets_after args.s.now args.at (args.at + 8) (bytes4 args.kind ++ bytes4 args.offset) (bytes4 args.long) refl
    (sets_after args.s.now args.at (args.at + 4) (bytes4 args.kind) (bytes4 args.offset) refl put_u32.ensures put_u322.ensures)
    put_u323.ensures
