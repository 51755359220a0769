-- `sun::trace` meets its contract: all figures are 1.0 at first, and each step writes one and finds the next active voxel.
use mathlib.Core.Path.{refl, ◌∙◌}
use mathlib.Core.List.{List}
use Prim.Native.Nat.{ℕ, ◌+◌}
use native.Mathlib.Omega.{arith}
use lib.ListN.{length, set, length-set}
use Rattle.words.specs.Words.{entries_of}
use Rattle.sun.specs.Sun.{sun_before}
use Rattle.sun.proofs.Lit.{next_on, next_active, ones, right_first, right_written, right_next, right_whole}
use Rattle.sun.proofs.trace.Goals as goal

pub loop-i-init : goal.loop-i-init
loop-i-init c =
    let n : ℕ = length c.fill.new.self in
    let mask : List ℕ = entries_of c.args.active.now n in
    let m = c.next_marked-i.ensures in
    record {
      all = omega arith;
      before_long = refl;
      distances_long = refl;
      places_long = refl;
      active = next_active mask n 0 _ (omega arith) m;
      figures = right_next _ _ _ _ _ _ mask n c.fill.new.self 0 _ (omega arith) m
          (right_first _ _ _ _ _ _ _ _ c.fill.new.self _ (omega arith) (c.fill.ensures.after (λ y e. e) ∙ ones _ 0));
    }

pub loop-i-smaller : goal.loop-i-smaller
loop-i-smaller c =
    let n : ℕ = length c.fill.new.self in
    omega (arith, next_on (entries_of c.args.active.now n) n (c.loop-i.i + 1) _ (omega arith) c.next_marked-i-in-loop-i.ensures)

pub loop-i-preserved : goal.loop-i-preserved
loop-i-preserved c =
    let n : ℕ = length c.fill.new.self in
    let mask : List ℕ = entries_of c.args.active.now n in
    let l = c.loop-i in
    let m = c.next_marked-i-in-loop-i.ensures in
    record {
      all = l.invariant.all;
      before_long = length-set l.before l.i c.seen-f.result ∙ l.invariant.before_long;
      distances_long = c.seen-f.auto.distances ∙ l.invariant.distances_long;
      places_long = c.seen-f.auto.places ∙ l.invariant.places_long;
      active = next_active mask n (l.i + 1) _ (omega arith) m;
      figures = right_next _ _ _ _ _ _ mask n (set l.before l.i c.seen-f.result) (l.i + 1) _ (omega arith) m
          (right_written _ _ _ _ _ _ mask n l.before l.i c.seen-f.result (omega arith) (l.invariant.active (omega arith)) c.seen-f.ensures l.invariant.figures);
    }

pub returns : goal.returns
unfolding sun_before
returns c =
    let l = c.loop-i in
    right_whole _ _ _ _ _ _ _ _ l.before l.i l.invariant.before_long (omega arith) l.invariant.figures
    ∙ rw (l.invariant.all, c.length-ahead.ensures, c.normalise-l.ensures, c.edges-edges.ensures) refl
