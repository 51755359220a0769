-- Where `clear` says so, the whole list was read and its test failed; where it read nothing it says false.
use mathlib.Core.Path.{sym, ◌∙◌}
use borrow.Author.Tests.{not-true}
use Rattle.frames.proofs.Clear.{lights_clear}
use Rattle.frames.proofs.inner.F32Framed.clear.Goals as goal

pub returns-then-light-count : goal.returns-then-light-count
returns-then-light-count c = λ e. lights_clear _ (sym c.bad_lights.ensures ∙ not-true _ e)
