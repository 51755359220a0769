-- Results of successive calls do what demand 3 asks. They are `run` of the bake, since the hit lists keep their lengths, so that every call has the first
-- one's input; and of `run` it is shown.
use Rattle.std.specs.Prelude.{◌≡◌, ℕ, ◌+◌, ◌-◌, ◌≤◌, ◌<◌, length, Float}
use Rattle.std.proofs.Math.Path.{refl, ap}
use Rattle.std.proofs.Common.{sym, ap₂, ◌∙◌, subst, inl, inr, ⊎_elim, arith, zero-add, eq-or-lt_of_le}
use mathlib.Core.List.{List, [], ◌∷◌, map}
use Rattle.std.proofs.lemmas.List.{length-map}
use Rattle.spread.specs.declared.Progress.{Progress}
use Rattle.spread.specs.Spread.{at_zero, Stage, stage, Called, Ran, then, actives, costs, stands, run, sum, EachAtLeast, NoneRefused}
use Rattle.spread.specs.Demand.{Demand}
use Rattle.spread.proofs.Walks.{call_adds, actives_split, costs_split, costs_least, costs_most}
use Rattle.gather.proofs.CostLaws.{cost_counted}
use Rattle.intake.specs.Intake.{BakeInput, input_for, solid_of, voxel_count, bake_cost, bake_refusal}
use Rattle.intake.specs.IntakeLaws.{zero_at_zero, fits, none_refused}
use Rattle.demand.specs.Bake.{gather_input, bake_of, bake_call}
use Rattle.demand.specs.Calls.{answers_refusal}
use Rattle.demand.proofs.Demanded.{bake_fair, bake_demand}
use Rattle.demand.proofs.Lasting.{call_leaves}
use Rattle.bake.specs.Baked.{Baked}
use Rattle.bake.specs.Results.{Result, handed_on, lending, Successive, SolidResult, SolidSuccessive, result_of, left_by, allowances_of, refusals_of, reported_by, OneCall, EachCall, EachKnows, DemandOfResults}
use Rattle.bake.specs.GoesOn.{never_refused}

-- ---- results are a run

abbrev called_of : Result → Called Float
called_of c = record { refusal = c.answer.refusal; rays = c.answer.rays; stage = handed_on c }

-- one result is the call
called : {b : BakeInput} {s : Stage Float} {c : Result} {d : List Float} {p : List ℕ}
    → Baked b s c.allowance c.answer c.volume c.scratch d c.distances p c.places → called_of c ≡ bake_call b s c.allowance
called {b} {s} {c} f =
    let q = bake_call b s c.allowance in
    ap (λ (n : ℕ). record { refusal = n; rays = c.answer.rays; stage = handed_on c }) f.refusal
    ∙ ap (λ (n : ℕ). record { refusal = q.refusal; rays = n; stage = handed_on c }) f.rays
    ∙ ap (λ (n : Progress). record { refusal = q.refusal; rays = q.rays; stage = stage n c.volume c.scratch }) f.progress
    ∙ ap (λ (u : List Float). record { refusal = q.refusal; rays = q.rays; stage = stage q.stage.progress u c.scratch }) f.volume
    ∙ ap (λ (u : List Float). record { refusal = q.refusal; rays = q.rays; stage = stage q.stage.progress q.stage.volume u }) f.scratch

-- lists of the same lengths make the same input
same_input : (b : BakeInput) (d d' : List Float) (p p' : List ℕ) → length d' ≡ length d → length p' ≡ length p → lending b d' p' ≡ lending b d p
same_input b d d' p p' e f =
    ap₂ (input_for b.solid b.axes b.corners b.scene b.light b.ambient b.sky b.lamps b.active b.lights) e f

abbrev ran_of : Stage Float → List Result → Ran Float
ran_of s results = record { refusals = refusals_of results; rays = reported_by results; stage = left_by s results }

module _ (b i : BakeInput) where
  -- i is the input of the first call, and so of all
  successive_run : (s : Stage Float) (d : List Float) (p : List ℕ) (results : List Result) → lending b d p ≡ i → Successive b s d p results
      → ran_of s results ≡ run (bake_of i) (allowances_of results) s
  unfolding run
  successive_run s d p [] e h = refl
  successive_run s d p (c ∷ rest) e h =
      let same = same_input b d c.distances p c.places h.0.distances_long_is h.0.places_long_lem ∙ e in
      ap (then (called_of c)) (successive_run (handed_on c) c.distances c.places rest same h.1)
      ∙ ap (λ (y : Called Float). then y (run (bake_of i) (allowances_of rest) y.stage)) (called h.0 ∙ ap (λ (x : BakeInput). bake_call x s c.allowance) e)

  module _ (demand : Demand (bake_of i)) where
    -- ---- one call

    module _ (s : Stage Float) (c : Result) (e : called_of c ≡ bake_call i s c.allowance) (z : c.answer.refusal ≡ 0) where
      accepted : (bake_call i s c.allowance).refusal ≡ 0
      accepted = sym (ap (λ (y : Called Float). y.refusal) e) ∙ z

      left : c.answer.progress ≡ (bake_call i s c.allowance).stage.progress
      left = ap (λ (y : Called Float). y.stage.progress) e

      reached : c.answer.progress.next ≡ (bake_call i s c.allowance).stage.progress.next
      reached = ap (λ (y : Called Float). y.stage.progress.next) e

      -- an accepted call goes on, or finds the bake finished
      forward : s.progress.next ≤ c.answer.progress.next
      forward =
          let r : bake_refusal i s c.allowance ≡ 0 = sym (answers_refusal i s c.allowance) ∙ accepted in
          ⊎_elim
          (λ h. omega (arith, reached, ap (λ (t : Stage Float). t.progress.next) (demand.rests c.allowance s h).1))
          (λ h. omega (arith, reached, demand.goes c.allowance s accepted h))
          (eq-or-lt_of_le (fits i s c.allowance ((none_refused i s c.allowance).0 r)).progress.within)

      one_call : OneCall i s.progress c
      one_call =
          let from = s.progress.next in
          let k = c.answer.progress.next - from in
          let there : from + k ≡ c.answer.progress.next = omega (arith, forward) in
          let taken : actives (bake_of i) c.answer.progress.next 0 ≡ actives (bake_of i) from 0 + actives (bake_of i) k from
          = rw (there, zero-add) at (actives_split (bake_of i) from k 0) in
          let fired : costs (bake_of i) c.answer.progress.next 0 ≡ costs (bake_of i) from 0 + costs (bake_of i) k from
          = rw (there, zero-add) at (costs_split (bake_of i) from k 0) in
          record {
            within = rw (ap (λ (y : Called Float). y.rays) e) (demand.within c.allowance s);
            finishes =
                ⊎_elim
                (λ h. inr (reached ∙ h))
                (λ h. inl (omega (arith, taken, rw (← reached) at h)))
                (demand.finishes c.allowance s accepted);
            reports = omega (arith, fired, ap (λ (y : Called Float). y.rays) e, rw (← reached) at (demand.reports c.allowance s accepted));
            adds = ap (λ (y : Called Float). y.stage.progress.rays) e ∙ call_adds (bake_of i) c.allowance s ∙ ap (λ (n : ℕ). s.progress.rays + n) (sym (ap (λ (y : Called Float). y.rays) e));
            good = rw left (call_leaves i s c.allowance (sym (answers_refusal i s c.allowance) ∙ accepted));
          }

    -- ---- each call

    each_call : (s : Stage Float) (d : List Float) (p : List ℕ) (results : List Result) → lending b d p ≡ i → Successive b s d p results
        → NoneRefused (refusals_of results) → EachCall i s.progress results × (s.progress.next ≤ (left_by s results).progress.next)
    each_call s d p [] e h n = (tt, omega arith)
    each_call s d p (c ∷ rest) e h n =
        let same = same_input b d c.distances p c.places h.0.distances_long_is h.0.places_long_lem ∙ e in
        let a = called h.0 ∙ ap (λ (x : BakeInput). bake_call x s c.allowance) e in
        let r = each_call (handed_on c) c.distances c.places rest same h.1 n.1 in
        ((one_call s c a n.0, r.0), omega (arith, forward s c a n.0, r.1))

-- ---- the rays so far

each_knows : (b : BakeInput) (p : Progress) (n : ℕ) (results : List Result) → p.rays ≡ n → EachCall b p results → EachKnows n results
each_knows b p n [] e h = tt
each_knows b p n (c ∷ rest) e h =
    let k = h.0.adds ∙ ap (λ (m : ℕ). m + c.answer.rays) e in
    (k, each_knows b c.answer.progress (n + c.answer.rays) rest k h.1)

-- ---- all of it

-- calls begun at next 0, whose allowances hold a voxel's cost and of which the first is accepted, so that it was handed no rays
pub demand_of_results : (b : BakeInput) (s : Stage Float) (d : List Float) (p : List ℕ) (first : Result) (rest : List Result)
    → Successive b s d p (first ∷ rest)
    → s.progress.next ≡ 0
    → EachAtLeast (bake_cost b) (allowances_of (first ∷ rest))
    → first.answer.refusal ≡ 0
    → DemandOfResults (lending b d p) s first rest
demand_of_results b s d p first rest h o m r =
    let i = lending b d p in
    let results = first ∷ rest in
    let l = allowances_of results in
    let ran = successive_run b i s d p results refl h in
    let left : left_by s results ≡ (run (bake_of i) l s).stage = ap (λ (t : Ran Float). t.stage) ran in
    let end : (left_by s results).progress.next ≡ (run (bake_of i) l s).stage.progress.next = ap (λ (t : Stage Float). t.progress.next) left in
    let begun : (bake_call i s first.allowance).refusal ≡ 0 = sym h.0.refusal ∙ r in
    let accepts : bake_refusal i s first.allowance ≡ 0 = sym (answers_refusal i s first.allowance) ∙ begun in
    let demand = bake_demand i s first.allowance accepts in
    let fitting = fits i s first.allowance ((none_refused i s first.allowance).0 accepts) in
    let fair = bake_fair i fitting.axes in
    let z : s.progress ≡ at_zero = zero_at_zero i s.progress fitting.progress o in
    let total : (left_by s results).progress.rays ≡ (run (bake_of i) l s).stage.progress.rays = ap (λ (t : Stage Float). t.progress.rays) left in
    let known : (left_by s results).progress.rays ≡ costs (bake_of i) (left_by s results).progress.next 0
    = total ∙ demand.rays_known l s z ∙ ap (λ (n : ℕ). costs (bake_of i) n 0) (sym end) in
    let unrefused = never_refused i s first.allowance accepts l m in
    let none : NoneRefused (refusals_of results) = subst NoneRefused (sym (ap (λ (t : Ran Float). t.refusals) ran)) unrefused in
    let every = (each_call b i demand s d p results refl h none).0 in
    let later = each_call b i demand (handed_on first) first.distances first.places rest (same_input b d first.distances p first.places h.0.distances_long_is h.0.places_long_lem) h.1 none.1 in
    record {
      none = none;
      end = λ q. left ∙ demand.whole l s z (sym end ∙ q);
      before = λ q.
          let start : s.progress.next < voxel_count i = omega (arith, ap (λ (p : Progress). p.next) z, q) in
          let under_way_lem : 0 < (left_by s results).progress.next = omega (arith, later.1, ap (λ (p : Progress). p.next) h.0.progress, demand.goes first.allowance s begun start) in
          let x = demand.before l s z (omega (arith, end, under_way_lem)) (omega (arith, end, q)) in (
            ap (λ (t : Stage Float). t.volume) left ∙ x.1 ∙ ap (stands (bake_of i)) (sym end),
            ap (λ (t : Stage Float). t.scratch) left ∙ x.2,
          );
      calls = every;
      knows = each_knows i s.progress 0 results (ap (λ (q : Progress). q.rays) z) every;
      sums = λ q. ap (λ (t : Ran Float). sum t.rays) ran ∙ demand.sums l s z (sym end ∙ q);
      sum_known = total ∙ demand.sum_known l s z ∙ sym (ap (λ (t : Ran Float). sum t.rays) ran);
      rays_known = known;
      between = rw known (costs_least (bake_of i) fair.most fair.least _ 0, costs_most (bake_of i) fair.most fair.least _ 0);
      fires = λ j. cost_counted (gather_input i) j;
      each = demand.each;
      enough = λ k g c n. end ∙ demand.calls k l s g c (omega arith) (omega (arith, n, length-map results (λ (x : Result). x.allowance))) z unrefused;
      one = λ q. ap (λ (p : Progress). p.next) h.0.progress ∙ demand.one first.allowance s q z begun;
    }

-- ---- the same of calls for solid walls

solid_successive : (b : BakeInput) (s : Stage Float) (results : List SolidResult) → SolidSuccessive b s results → Successive (solid_of b) s [] [] (map result_of results)
solid_successive b s [] h = tt
solid_successive b s (c ∷ rest) h = (h.0, solid_successive b (handed_on (result_of c)) rest h.1)

-- "demand 3" of them, by the theorem above; where both engines take the hall the unbroken bake at its end is the other engine's too (`unbroken_engines_agree`)
pub demand_of_solid_results : (b : BakeInput) (s : Stage Float) (first : SolidResult) (rest : List SolidResult)
    → SolidSuccessive b s (first ∷ rest)
    → s.progress.next ≡ 0
    → EachAtLeast (bake_cost b) (allowances_of (map result_of (first ∷ rest)))
    → first.answer.refusal ≡ 0
    → DemandOfResults (solid_of b) s (result_of first) (map result_of rest)
demand_of_solid_results b s first rest h o m r =
    demand_of_results (solid_of b) s [] [] (result_of first) (map result_of rest) (solid_successive b s (first ∷ rest) h) o m r
