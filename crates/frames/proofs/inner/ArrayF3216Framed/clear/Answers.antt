-- Where `clear` says so, the whole list was read and its test failed; where it read nothing it says false.
use mathlib.Core.Path.{sym, ◌∙◌}
use borrow.Author.Tests.{not-true}
use Rattle.frames.proofs.Clear.{volume_clear}
use Rattle.frames.proofs.inner.ArrayF3216Framed.clear.Goals as goal

pub returns-then-volume-count : goal.returns-then-volume-count
returns-then-volume-count c = λ e. volume_clear _ (sym c.bad_coefficients.ensures ∙ not-true _ e)
