-- `boxes::inner::padded` meets its contract: the code is the definition, call for call.
use Rattle.boxes.specs.Boxes.{padded_of}
use Rattle.boxes.proofs.inner.padded.Goals as goal

pub returns : goal.returns
unfolding padded_of
returns c =
    let b = c.before.before.before in
    rw (← b.smaller.ensures, ← b.smaller-2.ensures, ← b.sub-low.ensures, ← c.larger.ensures, ← c.larger-2.ensures, ← c.add-high.ensures)
