-- `blurs::judge_light` tests the rows in their order, and each return is the first that holds. Assumes nothing.
use mathlib.Core.Path.{sym, ◌∙◌}
use native.Mathlib.Omega.{arith}
use Rattle.names.specs.Refusals.{refusals}
use Rattle.limits.specs.LimitsLaws.{axes_row}
use Rattle.blurs.specs.Blurs.{light_blur_refusal}
use Rattle.blurs.proofs.judge_light.Goals as goal

pub returns-then-bad_axes : goal.returns-then-bad_axes
unfolding light_blur_refusal
returns-then-bad_axes c = search (refusals, ← c.bad_axes.ensures) depth 8

pub wrong_lists-requires : goal.wrong_lists-requires
wrong_lists-requires c = ((axes_row _).0 (sym c.bad_axes.ensures ∙ c.if-bad_axes.false), omega arith)

pub returns-then-wrong_lists : goal.returns-then-wrong_lists
unfolding light_blur_refusal
returns-then-wrong_lists c = search (refusals, ← c.bad_axes.ensures, ← c.wrong_lists.ensures) depth 8

pub returns-then-bad_lights : goal.returns-then-bad_lights
unfolding light_blur_refusal
returns-then-bad_lights c = search (refusals, ← c.bad_axes.ensures, ← c.wrong_lists.ensures, ← c.bad_lights.ensures) depth 12

pub returns : goal.returns
unfolding light_blur_refusal
returns c = search (refusals, ← c.bad_axes.ensures, ← c.wrong_lists.ensures, ← c.bad_lights.ensures) depth 12
