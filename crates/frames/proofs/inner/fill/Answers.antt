-- `frames::inner::fill` meets its contract. The invariant: what stands before place k is what is found at the positions before k, one after another.
use mathlib.Core.Path.{◌≡◌, refl, sym, ap, subst, ◌∙◌}
use mathlib.Core.List.{List, ◌++◌}
use Prim.Native.Nat.{ℕ}
use native.Mathlib.Nat.{zero-mul}
use lib.Ieee.{Float}
use Rattle.lists.specs.Laid.{laid, laid_next}
use Rattle.limits.specs.LimitsLaws.{axes_row}
use Rattle.lookup.specs.Place.{Inside, cells_of}
use Rattle.lookup.specs.LookedLaws.{grid_cells}
use Rattle.frames.specs.Frames.{position_at}
use Rattle.frames.proofs.inner.fill.Goals as goal

pub loop-k-init : goal.loop-k-init
unfolding laid
loop-k-init g c = (refl, rw (zero-mul g.F.Looked.EACH) refl)

pub cells-c-requires : goal.cells-c-requires
cells-c-requires g c = (axes_row _).0 c.requires.grid.axes

pub blend-requires : goal.blend-requires
blend-requires g c = subst (λ (n : ℕ). Inside n c.cells-c.result) (grid_cells g.F.Looked.laws _ _ _ c.requires.grid) c.cells-c.ensures.inside

pub loop-k-preserved : goal.loop-k-preserved
loop-k-preserved g c =
    let m = g.F.Looked in
    let numbers = g.F.Framed.numbers in
    let a = c.args in
    let l = c.loop-k in
    let f : ℕ → List Float = λ j. numbers (m.blend a.list.now (cells_of a.axes a.corners (position_at a.positions.now j))) in
    let e : numbers c.blend.result ≡ f l.k = ap numbers (c.blend.ensures ∙ ap (m.blend a.list.now) (c.cells-c.ensures.same ∙ ap (cells_of a.axes a.corners) c.position.ensures)) in
    (refl, c.put.ensures ∙ ap (λ (x : List Float). x ++ numbers c.blend.result) l.invariant.1 ∙ ap (λ (x : List Float). laid f l.k 0 ++ x) e ∙ sym (laid_next f l.k))
