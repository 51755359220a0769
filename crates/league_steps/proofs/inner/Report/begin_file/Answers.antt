-- A length stands before a file that may come.
use mathlib.Core.Path.{refl}
use Rattle.league_report.specs.ReportLaws.{length_within}
use Rattle.league_steps.proofs.inner.Report.begin_file.Goals as goal

pub returns-in-Ok-Some : goal.returns-in-Ok-Some
returns-in-Ok-Some g c =
    let e = rw c.in-Ok-Some.field-0-is at c.in-Ok-Some.ensures in
    rw (← c.self.view_is) (record { announced = rw (← e) refl; within = length_within _ _ c.args.head.now e })
