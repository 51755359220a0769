-- Demand 3 of the public bake: of every input that some call accepts, each of the customer's sentences holds of the call's own definition,
-- refusals included, each answer handed on to the next call.
use Rattle.std.specs.Prelude.{◌≡◌, refl, Bool, true, false, cond, ◌↔◌, ℕ, zero, suc, ◌+◌, Float}
use Rattle.std.proofs.Common.{arith}
use Rattle.grid.specs.Grid.{AxesWithin}
use Rattle.grid.specs.GridLaws.{voxels_least}
use Rattle.lists.specs.Fold.{fold}
use Rattle.marks.specs.Marks.{is_marked, tally, marked_below}
use Rattle.marks.specs.MarksLaws.{count_apart}
use Rattle.spread.specs.declared.Progress.{Progress}
use Rattle.spread.specs.Spread.{Stage, actives}
use Rattle.spread.specs.Demand.{KnowsRays, Fair, Demand}
use Rattle.spread.proofs.Holds.{demand}
use Rattle.ends.specs.EndsLaws.{length_ambient}
use Rattle.gather.specs.GatherLaws.{length_gathered, cost_least, cost_most}
use Rattle.intake.specs.Intake.{BakeInput, active_entries, bake_refusal, GoodProgress}
use Rattle.intake.specs.IntakeLaws.{fits, none_refused}
use Rattle.demand.specs.Bake.{gather_input, bake_of}

-- ---- row 9 asks what progress has to know

-- the active voxels of a bake are the marks of its mask
pub actives_marked : (b : BakeInput) (k i : ℕ) → actives (bake_of b) k i ≡ fold (tally (active_entries b)) k i 0
unfolding actives fold
actives_marked b zero i = refl
actives_marked b (suc k) i = go (is_marked (active_entries b) i) (actives_marked b k (i + 1)) (count_apart (active_entries b) k (i + 1))
  where
    go : (x : Bool) → actives (bake_of b) k (i + 1) ≡ fold (tally (active_entries b)) k (i + 1) 0
        → ((n : ℕ) → fold (tally (active_entries b)) k (i + 1) n ≡ n + fold (tally (active_entries b)) k (i + 1) 0)
        → cond x (suc (actives (bake_of b) k (i + 1))) (actives (bake_of b) k (i + 1)) ≡ fold (tally (active_entries b)) k (i + 1) (0 + cond x 1 0)
    go true h apart = omega (arith, apart 1)
    go false h apart = h

pub good_knows : (b : BakeInput) (p : Progress) → GoodProgress b p ↔ KnowsRays (bake_of b) p
good_knows b p = (out, back)
  where
    e : actives (bake_of b) p.next 0 ≡ marked_below (active_entries b) p.next
    e = actives_marked b p.next 0

    out : GoodProgress b p → KnowsRays (bake_of b) p
    out g = record { within = g.within; least = rw e g.least; most = rw e g.most }

    back : KnowsRays (bake_of b) p → GoodProgress b p
    back k = record { within = k.within; least = rw e at k.least; most = rw e at k.most }

-- ---- demand 3

pub bake_fair : (b : BakeInput) → AxesWithin b.axes → Fair (bake_of b)
bake_fair b w =
    record {
      some = voxels_least b.axes w;
      sized = record { ambient = λ i. length_ambient b.ambient _; gathered = λ i. length_gathered (gather_input b) i };
      least = λ i. cost_least (gather_input b) i;
      most = λ i. cost_most (gather_input b) i;
      within = λ s a e. let f = fits b s a ((none_refused b s a).0 e) in ((good_knows b s.progress).0 f.progress, f.allowance);
    }

pub bake_demand : (b : BakeInput) (s : Stage Float) (a : ℕ) → bake_refusal b s a ≡ 0 → Demand (bake_of b)
bake_demand b s a e = demand (bake_of b) (bake_fair b (fits b s a ((none_refused b s a).0 e)).axes)
