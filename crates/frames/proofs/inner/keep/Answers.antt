-- `frames::inner::keep` meets its contract. The invariant: no place before k has a refusal, and what is kept is what is found at the positions before k, one
-- after another.
use mathlib.Core.Path.{◌≡◌, refl, sym, ap, ◌∙◌}
use mathlib.Core.List.{List, ◌++◌}
use Prim.Native.Nat.{ℕ, ◌-◌, ◌*◌, ◌/◌, ◌≤◌}
use native.Mathlib.Omega.{arith}
use native.Mathlib.Nat.{zero-mul, le_of_eq}
use lib.ListN.{length}
use lib.Seq.{take_all}
use lib.Ieee.{Float}
use Rattle.names.specs.AnswersLaws.{number_nonzero}
use Rattle.lists.specs.Laid.{laid, laid_next}
use Rattle.vectors.specs.declared.Vec3.{Vec3}
use Rattle.lookup.specs.Place.{cells_of}
use Rattle.frames.specs.Frames.{position_at}
use Rattle.frames.proofs.Clear.{walk_found, walk_next, walk_end}
use Rattle.frames.proofs.Whole.{none_first}
use Rattle.frames.proofs.inner.keep.Goals as goal

pub loop-k-init : goal.loop-k-init
unfolding laid
loop-k-init g c =
    let n = length c.args.positions.now / 3 in
    let e : n - 0 ≡ n = omega arith in (refl, rw e refl, rw (zero-mul g.F.Looked.EACH) refl)

pub returns-in-Err : goal.returns-in-Err
returns-in-Err g c =
    let number = g.F.Looked.refusal c.args.axes c.args.corners c.args.list.now in
    record {
      first = walk_found (λ (j : ℕ). number (position_at c.args.positions.now j)) (length c.args.positions.now / 3) _ _ _ c.loop-k.invariant.1 c.loop-k-test.true (c.in-Err.ensures.number_is ∙ ap number c.position.ensures) (number_nonzero _);
      kept = λ z. absurd (number_nonzero _ z);
    }

pub loop-k-preserved : goal.loop-k-preserved
loop-k-preserved g c =
    let m = g.F.Looked in
    let numbers = g.F.Framed.numbers in
    let a = c.args in
    let l = c.loop-k in
    let number = m.refusal a.axes a.corners a.list.now in
    let found = λ (p : Vec3). m.blend a.list.now (cells_of a.axes a.corners p) in
    let f : ℕ → List Float = λ j. numbers (found (position_at a.positions.now j)) in
    let e : numbers c.in-Ok.found ≡ f l.k = ap numbers (c.in-Ok.ensures.there ∙ ap found c.position.ensures) in (
      refl,
      walk_next (λ (j : ℕ). number (position_at a.positions.now j)) (length a.positions.now / 3) _ 0 _ l.invariant.1 c.loop-k-test.true (c.in-Ok.ensures.number_is ∙ ap number c.position.ensures) refl,
      c.put.ensures ∙ ap (λ (x : List Float). x ++ numbers c.in-Ok.found) l.invariant.2 ∙ ap (λ (x : List Float). laid f l.k 0 ++ x) e ∙ sym (laid_next f l.k),
    )

pub returns : goal.returns
returns g c =
    let m = g.F.Looked in
    let a = c.args in
    let l = c.loop-k in
    let number = m.refusal a.axes a.corners a.list.now in
    let f : ℕ → List Float = λ j. g.F.Framed.numbers (m.blend a.list.now (cells_of a.axes a.corners (position_at a.positions.now j))) in
    let e : l.k ≡ length a.positions.now / 3 = omega arith in
    let first = walk_end (λ (j : ℕ). number (position_at a.positions.now j)) (length a.positions.now / 3) _ 0 _ l.invariant.1 c.loop-k-test.false in
    let h : length l.room ≤ l.k * m.EACH = le_of_eq (l.auto.room ∙ c.requires.long ∙ ap (λ (n : ℕ). n * m.EACH) (sym e)) in
    record {
      first = first;
      kept = λ z.
          sym (take_all (l.k * m.EACH) l.room h) ∙ l.invariant.2 ∙ ap (λ (n : ℕ). laid f n 0) e
          ∙ sym (g.met.F.Framed.framed.frame_is _ _ _ _ (none_first m.EACH m.refusal _ _ _ _ first));
    }
