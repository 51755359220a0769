-- Results of calls on one desk or another do what is demanded of restarts. Refused or not, a call leaves a record that row 9 passes; an accepted one carries on
-- what any desk's would.
use Rattle.std.specs.Prelude.{◌≡◌, refl, Bool, true, false, cond, take, Float}
use Rattle.std.proofs.Common.{sym, ap, ◌∙◌, ne_eqb}
use Rattle.std.proofs.lemmas.Bool.{false≢true}
use mathlib.Core.List.{List, [], ◌∷◌}
use Prim.Native.Nat.{ℕ, zero, suc, ◌+◌, ◌<◌}
use native.Mathlib.Omega.{arith}
use Rattle.names.specs.Refusals.{Row, first_of}
use Rattle.spread.specs.declared.Progress.{Progress}
use Rattle.spread.specs.Spread.{at_zero, Stage, stage, Called, filled, unblurred, unbroken, costs, stands, sum}
use Rattle.spread.proofs.Walks.{unbroken_progress, call_adds}
use Rattle.spread.specs.Demand.{Sized}
use Rattle.spread.specs.Carried.{Carried, short, over}
use Rattle.spread.proofs.Carried.{carried_from_zero, carried_on}
use Rattle.ends.specs.EndsLaws.{length_ambient}
use Rattle.gather.specs.GatherLaws.{length_gathered}
use Rattle.intake.specs.Intake.{BakeInput, voxel_count, bake_rows, bake_refusal, GoodProgress}
use Rattle.intake.specs.IntakeLaws.{progress_row, good_at_zero, zero_at_zero, fits, none_refused}
use Rattle.demand.specs.Bake.{gather_input, bake_of, bake_call}
use Rattle.demand.specs.Calls.{refused_call, answers_refusal}
use Rattle.demand.proofs.Demanded.{bake_fair}
use Rattle.demand.proofs.Lasting.{call_leaves}
use Rattle.bake.specs.Results.{Result, lending_for, refusals_of, reported_by}
use Rattle.bake.specs.Restarts.{CalledFrom, Restarted, record_after, volume_after, NoneIs, DemandOfRestarts}

-- ---- one call

abbrev PassedAt : ℕ → List Row → Type 0
PassedAt k [] = Unit
PassedAt k (r ∷ rows) = (r.number ≡ k → r.holds ≡ false) × PassedAt k rows

not_first : (k : ℕ) (rows : List Row) → 0 < k → PassedAt k rows → first_of rows ≡ k → ⊥
unfolding first_of
not_first k [] h p e = omega arith
not_first k (r ∷ rows) h p e = go r.number r.holds p.0 e (λ g. not_first k rows h p.1 g)
  where
    go : (n : ℕ) (b : Bool) → (n ≡ k → b ≡ false) → cond b n (first_of rows) ≡ k → (first_of rows ≡ k → ⊥) → ⊥
    go n true q g rest = false≢true (sym (q g))
    go n false q g rest = rest g

good_not_nine : (b : BakeInput) (s : Stage Float) (a : ℕ) → GoodProgress b s.progress → bake_refusal b s a ≡ 9 → ⊥
unfolding bake_refusal bake_rows
good_not_nine b s a g =
    not_first 9 (bake_rows b s a) (omega arith)
    ((λ z. absurd (omega arith)), ((λ z. absurd (omega arith)), ((λ z. absurd (omega arith)), ((λ z. absurd (omega arith)), ((λ z. absurd (omega arith)), ((λ z. absurd (omega arith)), ((λ z. absurd (omega arith)), ((λ z. absurd (omega arith)), ((λ z. absurd (omega arith)), ((λ z. (progress_row b s.progress).1 g), ((λ z. absurd (omega arith)), ((λ z. absurd (omega arith)), tt))))))))))))

-- refused or not, a call leaves a record that row 9 passes
leaves_good : (b : BakeInput) (s : Stage Float) (a : ℕ) → GoodProgress b s.progress → GoodProgress b (bake_call b s a).stage.progress
leaves_good b s a g = go (bake_refusal b s a) refl
  where
    go : (n : ℕ) → bake_refusal b s a ≡ n → GoodProgress b (bake_call b s a).stage.progress
    go zero e = call_leaves b s a e
    go (suc n) e = rw (ap (λ (c : Called Float). c.stage.progress) (refused_call b s a (λ z. omega (arith, e, z)))) g

-- and carries the bake on, or leaves it
leaves_carried : (b : BakeInput) (q : Progress) (v x : List Float) (a : ℕ) → Carried (bake_of b) q v
    → Carried (bake_of b) (bake_call b (stage q v x) a).stage.progress (bake_call b (stage q v x) a).stage.volume
leaves_carried b q v x a k = go (bake_refusal b (stage q v x) a) refl
  where
    go : (n : ℕ) → bake_refusal b (stage q v x) a ≡ n → Carried (bake_of b) (bake_call b (stage q v x) a).stage.progress (bake_call b (stage q v x) a).stage.volume
    go zero e = carried_on (bake_of b) (bake_fair b (fits b (stage q v x) a ((none_refused b (stage q v x) a).0 e)).axes) a x k
    go (suc n) e = rw (refused_call b (stage q v x) a (λ z. omega (arith, e, z))) k

-- ---- all of them

module _ (b : BakeInput) where
  -- neither the engine nor the hit lists are asked
  lent : (solid : Bool) (d : List Float) (p : List ℕ) {q : Progress} → GoodProgress b q → GoodProgress (lending_for solid b d p) q
  lent solid d p g = record { within = g.within; least = g.least; most = g.most }

  back : (solid : Bool) (d : List Float) (p : List ℕ) {q : Progress} → GoodProgress (lending_for solid b d p) q → GoodProgress b q
  back solid d p g = record { within = g.within; least = g.least; most = g.most }

  carried_lent : (solid : Bool) (d : List Float) (p : List ℕ) {q : Progress} {v : List Float} → Carried (bake_of b) q v → Carried (bake_of (lending_for solid b d p)) q v
  unfolding filled costs unblurred unbroken
  carried_lent solid d p (short h k e) = short h k e
  carried_lent solid d p (over e f) = over e f

  carried_back : (solid : Bool) (d : List Float) (p : List ℕ) {q : Progress} {v : List Float} → Carried (bake_of (lending_for solid b d p)) q v → Carried (bake_of b) q v
  unfolding filled costs unblurred unbroken
  carried_back solid d p (short h k e) = short h k e
  carried_back solid d p (over e f) = over e f

  module _ {q : Progress} {v : List Float} (c : Result) (h : CalledFrom b q v c) where
    abbrev desk : BakeInput
    desk = lending_for h.solid b h.distances h.places

    abbrev from : Stage Float
    from = stage q v h.scratch

    leaves : GoodProgress b q → GoodProgress b c.answer.progress
    leaves g = back h.solid h.distances h.places (rw h.baked.progress (leaves_good desk from c.allowance (lent h.solid h.distances h.places g)))

    carries : Carried (bake_of b) q v → Carried (bake_of b) c.answer.progress c.volume
    carries k =
        carried_back h.solid h.distances h.places
        (rw (h.baked.progress, h.baked.volume) (leaves_carried desk q v h.scratch c.allowance (carried_lent h.solid h.distances h.places k)))

    not_nine : GoodProgress b q → c.answer.refusal ≡ 9 → ⊥
    not_nine g z = good_not_nine desk from c.allowance (lent h.solid h.distances h.places g) (sym (answers_refusal desk from c.allowance) ∙ sym h.baked.refusal ∙ z)

    adds : c.answer.progress.rays ≡ q.rays + c.answer.rays
    adds =
        ap (λ (y : Progress). y.rays) h.baked.progress
        ∙ call_adds (bake_of desk) c.allowance from
        ∙ ap (λ (m : ℕ). q.rays + m) (sym h.baked.rays)

  none_nine : (q : Progress) (v : List Float) (results : List Result) → Restarted b q v results → GoodProgress b q → NoneIs 9 (refusals_of results)
  none_nine q v [] h g = tt
  none_nine q v (c ∷ rest) h g = (not_nine c h.0 g, none_nine c.answer.progress c.volume rest h.1 (leaves c h.0 g))

  good_after : (n : ℕ) (q : Progress) (v : List Float) (results : List Result) → Restarted b q v results → GoodProgress b q → GoodProgress b (record_after q (take n results))
  good_after zero q v results h g = g
  good_after (suc n) q v [] h g = g
  good_after (suc n) q v (c ∷ rest) h g = good_after n c.answer.progress c.volume rest h.1 (leaves c h.0 g)

  adds_after : (n : ℕ) (q : Progress) (v : List Float) (results : List Result) → Restarted b q v results
      → (record_after q (take n results)).rays ≡ q.rays + sum (reported_by (take n results))
  unfolding sum
  adds_after zero q v results h = omega arith
  adds_after (suc n) q v [] h = omega arith
  adds_after (suc n) q v (c ∷ rest) h = omega (arith, adds c h.0, adds_after n c.answer.progress c.volume rest h.1)

  carried_after : (q : Progress) (v : List Float) (results : List Result) → Restarted b q v results → Carried (bake_of b) q v
      → Carried (bake_of b) (record_after q results) (volume_after v results)
  carried_after q v [] h k = k
  carried_after q v (c ∷ rest) h k = carried_after c.answer.progress c.volume rest h.1 (carries c h.0 k)

  -- ---- what was carried is the unbroken bake, or what stands before it

  at_end_lem : {q : Progress} {v : List Float} → Carried (bake_of b) q v → q.next ≡ voxel_count b
      → (q ≡ (unbroken (bake_of b) []).progress) × (v ≡ (unbroken (bake_of b) []).volume)
  at_end_lem (short h k e) z = absurd (omega arith)
  at_end_lem (over e f) z = (e ∙ sym (unbroken_progress (bake_of b) []), f)

  stood : {q : Progress} {v : List Float} → Carried (bake_of b) q v → 0 < q.next → q.next < voxel_count b → v ≡ stands (bake_of b) q.next
  stood {q} (short h k e) p z = rw (ne_eqb q.next 0 (λ y. omega arith)) at e
  stood (over e f) p z = absurd (omega (arith, ap (λ (q : Progress). q.next) e))

  pub demand_of_restarts : (v : List Float) (results : List Result) → Restarted b at_zero v results → DemandOfRestarts b v results
  demand_of_restarts v results h =
      let g : GoodProgress b at_zero = good_at_zero b at_zero refl in
      let sized : Sized (bake_of b) = record { ambient = λ i. length_ambient b.ambient _; gathered = λ i. length_gathered (gather_input b) i } in
      let carried : 0 < voxel_count b → Carried (bake_of b) (record_after at_zero results) (volume_after v results)
      = λ some. carried_after at_zero v results h (carried_from_zero (bake_of b) sized some v) in
      record {
        never_nine = none_nine at_zero v results h g;
        sums = λ n. omega (arith, adds_after n at_zero v results h);
        between = λ n. good_after n at_zero v results h g;
        zero_at_zero = λ n e. ap (λ (y : Progress). y.rays) (zero_at_zero b _ (good_after n at_zero v results h g) e);
        end = λ some e. at_end_lem (carried some) e;
        before = λ p e. stood (carried (omega (arith, e))) p e;
      }
