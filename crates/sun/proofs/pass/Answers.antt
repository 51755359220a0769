-- `sun::pass` meets its contract: with no active voxel the light is all 1.0, and with one the light is the blur of the traced figures, which scratch
-- holds.
use mathlib.Core.Path.{◌≡◌, refl, sym, ◌∙◌}
use borrow.Author.Tests.{eq-eqb, ne_eqb}
use Rattle.grid.specs.Grid.{voxels}
use Rattle.marks.specs.Marks.{marked_count}
use Rattle.words.specs.Words.{entries_of}
use Rattle.sun.specs.Sun.{sun_light, sun_scratch}
use Rattle.sun.proofs.Lit.{ones}
use Rattle.sun.proofs.pass.Goals as goal

pub returns-then-rays-eq0 : goal.returns-then-rays-eq0
unfolding sun_light sun_scratch
returns-then-rays-eq0 c =
    let counted : c.count-rays.result ≡ marked_count (entries_of c.args.active.now (voxels c.args.axes)) =
    rw (← c.requires.sun_ready.light_fits) c.count-rays.ensures in
    let none = c.if-rays-eq0.true in
    let e = eq-eqb _ 0 (sym counted ∙ none) in
    record {
      rays_counted = sym none ∙ counted;
      light_after = rw e (c.fill.ensures.after (λ y e. e) ∙ ones _ 0 ∙ rw c.requires.sun_ready.light_fits refl);
      scratch_after = rw e refl;
      distances_kept = λ z. refl;
      places_kept = λ z. refl;
    }

pub returns : goal.returns
unfolding sun_light sun_scratch
returns c =
    let counted : c.count-rays.result ≡ marked_count (entries_of c.args.active.now (voxels c.args.axes)) =
    rw (← c.requires.sun_ready.light_fits) c.count-rays.ensures in
    let some = c.if-rays-eq0.false in
    let e = ne_eqb _ 0 (λ z. some (counted ∙ z)) in
    record {
      rays_counted = counted;
      light_after = rw (e, ← c.trace.ensures) c.square.ensures;
      scratch_after = rw e c.trace.ensures;
      distances_kept = λ z. absurd (some z);
      places_kept = λ z. absurd (some z);
    }
