-- The totals are joined, and stay within what 65,536 files can reach.
use Rattle.league_report.proofs.Turns.{league_more}
use Rattle.league_report.proofs.inner.with_file.Goals as goal

pub returns : goal.returns
returns c =
    league_more c.args.league c.args.figures _ c.requires.0 c.requires.1 c.requires.2 c.requires.3 c.joined.ensures
