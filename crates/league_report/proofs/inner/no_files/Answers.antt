-- The league of no file.
use Rattle.league_report.proofs.Turns.{league_begun}
use Rattle.league_report.proofs.inner.no_files.Goals as goal

pub returns : goal.returns
returns c = league_begun _ c.none.ensures
