-- What the test says of the whole is what was found, or what it says of what is left at i.
use Prim.Native.Nat.{◌+◌, ◌*◌}
use mathlib.Core.Path.{sym, ◌∙◌}
use Rattle.bytes_le.specs.Bytes.{f32_at}
use Rattle.league_report.proofs.Judged.{more, all}
use Rattle.league_report.proofs.any_outside.Goals as goal

pub loop-i-preserved : goal.loop-i-preserved
loop-i-preserved c =
    c.loop-i.invariant ∙ more (λ i. f32_at c.args.bytes.now (c.args.at + i * 4)) _ _ _ _ _ c.loop-i-test.true c.f32_at.ensures c.is_outside-any.ensures

pub returns : goal.returns
returns c = sym (c.loop-i.invariant ∙ all (λ i. f32_at c.args.bytes.now (c.args.at + i * 4)) _ _ _ c.loop-i-test.false)
