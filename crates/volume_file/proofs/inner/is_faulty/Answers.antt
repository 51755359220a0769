-- What the tests before it leave known of the bodies.
use Rattle.std.proofs.Common.{sym, ◌∙◌, arith}
use Rattle.grid.specs.GridLaws.{voxels_most}
use Rattle.contents.proofs.ContentsLaws.{headed_found, contents_laid}
use Rattle.volume_file.proofs.Judge.{to_axes}
use Rattle.volume_file.proofs.inner.is_faulty.Goals as goal

pub bad_bodies-requires : goal.bad_bodies-requires
bad_bodies-requires c =
    let h = headed_found c.args.s.now (sym c.is_headed.ensures ∙ c.if-not-is_headed.false) in
    let a = to_axes _ _ c.bad_axes.ensures c.if-bad_axes.false in
    let good = rw c.entries_at-entries.ensures at (sym c.contents_fit.ensures ∙ c.if-not-contents_fit.false) in
    (omega (arith, h.contents, h.least), a, contents_laid c.args.s.now _ h.least good, rw c.voxel_count-n.ensures (voxels_most _ a))
