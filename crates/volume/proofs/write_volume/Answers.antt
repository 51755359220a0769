-- What is not refused fits, and the whole file is written.
use mathlib.Core.Path.{refl}
use Rattle.names.specs.AnswersLaws.{told_on}
use Rattle.volume.proofs.Calls.{write_refused, write_given, writable}
use Rattle.volume.proofs.write_volume.Goals as goal

pub returns-in_err-judge_volume : goal.returns-in_err-judge_volume
returns-in_err-judge_volume c =
    let h = told_on _ _ _ c.from_residual.ensures c.in_err-judge_volume.ensures in
    write_refused _ _ _ _ _ _ _ _ h.number h.refused

pub voxel_count-n-requires : goal.voxel_count-n-requires
voxel_count-n-requires c = (writable c.args.axes _ _ _ _ _ _ c.in_ok-judge_volume.ensures _ refl).0.axes

pub put_file-requires : goal.put_file-requires
put_file-requires c = writable _ _ _ _ _ _ _ c.in_ok-judge_volume.ensures _ c.voxel_count-n.ensures

pub returns : goal.returns
returns c = write_given _ _ _ _ _ _ _ c.in_ok-judge_volume.ensures _ c.put_file.ensures
