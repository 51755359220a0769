-- How the parts of a call come together: the start, the walk and the end make an accepted call, and with the refusals the call itself.
use mathlib.Core.Path.{◌≡◌, refl, sym, ap, ap₂, subst, ◌∙◌}
use mathlib.Core.Bool.{Bool, true, false, cond}
use mathlib.Core.List.{List}
use Prim.Native.Nat.{ℕ, ◌+◌, ◌-◌, ◌*◌, ◌≤◌, ◌<◌}
use native.Mathlib.Omega.{arith}
use native.Mathlib.Nat.{mul-le-mul}
use native.Mathlib.Decide.{ℕ_discrete}
use lib.Dec.{eqb}
use lib.ListN.{length}
use lib.Ieee.{Float}
use borrow.Author.Tests.{eq-eqb, ne_eqb}
use Rattle.std.specs.Prelude.{Result, Ok, Err}
use Rattle.std.specs.Result.{IsErr, IsErrAnd}
use Rattle.names.specs.declared.refusal.Refusal.{Refusal}
use Rattle.names.specs.Answers.{number_of}
use Rattle.names.specs.AnswersLaws.{number_nonzero}
use Rattle.names.specs.Numbers.{voxel_limit}
use Rattle.grid.specs.GridLaws.{voxels_most}
use Rattle.words.specs.WordsLaws.{entries_length}
use Rattle.marks.specs.Marks.{marked_below}
use Rattle.marks.specs.MarksLaws.{count_within}
use Rattle.spread.specs.declared.Progress.{Progress}
use Rattle.spread.specs.Spread.{progress_of, Stage, stage, Called, Walked, filled, started, walk, any_active, ended, walk_of, reached_by, accepted}
use Rattle.spread.proofs.Walks.{ended_progress, call_adds}
use Rattle.spread.specs.Refusing.{accepted_refusing}
use Rattle.ends.specs.Ends.{filled_of, Finished}
use Rattle.intake.specs.Intake.{BakeInput, input_of, voxel_count, active_entries, bake_cost, bake_refusal}
use Rattle.intake.specs.IntakeLaws.{Fits, fits, none_refused}
use Rattle.walk.specs.declared.Reached.{Reached}
use Rattle.demand.specs.Bake.{bake_of, bake_call}
use Rattle.demand.specs.Calls.{refused_call, accepted_call, accepted_none}
use Rattle.demand.proofs.Lasting.{call_leaves}
use Rattle.walk.specs.Reports.{Reports, Accepts}
use Rattle.bake.specs.declared.Advance.{Advance}
use Rattle.bake.specs.Baked.{Baked, reached_answer, answer_of, Ends}

module _ {b : BakeInput} {p : Progress} {a : ℕ} {v x : List Float} (f : Fits b (stage p v x) a) where
  starts : {v₁ : List Float} → v₁ ≡ cond (eqb p.next 0) (filled_of b.ambient b.lights) v → v₁ ≡ started (bake_of b) p.next v
  unfolding filled filled_of
  starts e = e ∙ rw f.lights refl

  ends : (q : Progress) {v₂ v₃ x₃ : List Float} → Ends b.axes (active_entries b) q.next v₂ x v₃ x₃
      → (v₃ ≡ (ended (bake_of b) q v₂ x).volume) × (x₃ ≡ (ended (bake_of b) q v₂ x).scratch)
  ends q {v₂} {v₃} {x₃} k = go (ℕ_discrete q.next (length (active_entries b)))
    where
      all : length (active_entries b) ≡ voxel_count b
      all = entries_length b.active (voxel_count b)

      over : (t : Bool) → any_active (bake_of b).active (bake_of b).count ≡ t → q.next ≡ voxel_count b → Finished b.axes (active_entries b) v₂ x v₃ x₃
          → (v₃ ≡ (ended (bake_of b) q v₂ x).volume) × (x₃ ≡ (ended (bake_of b) q v₂ x).scratch)
      over true e h g = rw (eq-eqb q.next (voxel_count b) h, e) (rw (all, e) at g.volume, rw (all, e) at g.scratch)
      over false e h g = rw (eq-eqb q.next (voxel_count b) h, e) (rw (all, e) at g.volume, rw (all, e) at g.scratch)

      go : Dec (q.next ≡ length (active_entries b)) → (v₃ ≡ (ended (bake_of b) q v₂ x).volume) × (x₃ ≡ (ended (bake_of b) q v₂ x).scratch)
      go (yes h) = over (any_active (bake_of b).active (bake_of b).count) refl (h ∙ all) (k.over h)
      go (no n) = rw (ne_eqb q.next (voxel_count b) (λ z. n (z ∙ sym all))) (k.short n)

  pub goes : {v₁ v₂ v₃ x₃ d d' : List Float} {q q' : List ℕ} {r : Reached} → (p.next ≡ length b.lights → ⊥)
      → v₁ ≡ cond (eqb p.next 0) (filled_of b.ambient b.lights) v
      → Reports (walk (bake_of b) (voxel_count b - p.next) p.next a v₁) r v₂ d d' q q'
      → Ends b.axes (active_entries b) r.next v₂ x v₃ x₃
      → Accepts (accepted (bake_of b) a (stage p v x)) r v₃ x₃ d d' q q'
  goes {r = r} n e w k =
      let y = walk_of (bake_of b) a (stage p v x) in
      let s : walk (bake_of b) (voxel_count b - p.next) p.next a _ ≡ y = ap (walk (bake_of b) (voxel_count b - p.next) p.next a) (starts e) in
      let there : r.next ≡ y.next = w.next ∙ ap (λ (z : Walked Float). z.next) s in
      let g = ends (progress_of r.next (p.rays + y.rays)) k in
      let i : ended (bake_of b) (progress_of r.next (p.rays + y.rays)) _ x ≡ ended (bake_of b) (reached_by (bake_of b) a (stage p v x)) y.volume x
      = ap₂ (λ (m : ℕ) (u : List Float). ended (bake_of b) (progress_of m (p.rays + y.rays)) u x) there (w.volume ∙ ap (λ (z : Walked Float). z.volume) s) in
      rw (ne_eqb p.next (voxel_count b) (λ z. n (z ∙ sym f.lights)))
      (record {
        next = there ∙ sym (ap (λ (z : Progress). z.next) (ended_progress (bake_of b) (reached_by (bake_of b) a (stage p v x)) y.volume x));
        rays = w.rays ∙ ap (λ (z : Walked Float). z.rays) s;
        volume = g.0 ∙ ap (λ (z : Stage Float). z.volume) i;
        scratch = g.1 ∙ ap (λ (z : Stage Float). z.scratch) i;
        hits = w.hits;
      })

-- ---- the rays so far

module _ (b : BakeInput) (s : Stage Float) (a : ℕ) where
  -- the rays that the answer is to know: what was handed in, and what the call fired
  total : {r : Reached} {v x d d' : List Float} {q q' : List ℕ} → 0 ≡ bake_refusal b s a → Accepts (accepted (bake_of b) a s) r v x d d' q q'
      → s.progress.rays + r.rays ≡ (bake_call b s a).stage.progress.rays
  total e w =
      ap (λ (n : ℕ). s.progress.rays + n) (w.rays ∙ sym (ap (λ (y : Called Float). y.rays) (accepted_call b s a (sym e))))
      ∙ sym (call_adds (bake_of b) a s)

  -- they are no more than what the active voxels below next may cost
  pub total_fits : {r : Reached} {v x d d' : List Float} {q q' : List ℕ} → 0 ≡ bake_refusal b s a → Accepts (accepted (bake_of b) a s) r v x d d' q q'
      → s.progress.rays + r.rays < 18446744073709551616
  total_fits e w =
      let f = fits b s a ((none_refused b s a).0 (sym e)) in
      let k = call_leaves b s a (sym e) in
      let p = (bake_call b s a).stage.progress in
      let few : marked_below (active_entries b) p.next ≤ voxel_limit
      = omega (arith, count_within (active_entries b) p.next 0, k.within, voxels_most b.axes f.axes) in
      let cost : bake_cost b ≤ 896 = omega (arith, f.lamps) in
      let bound : marked_below (active_entries b) p.next * bake_cost b ≤ voxel_limit * 896 = mul-le-mul few cost in
      omega (arith, total e w, k.most)

-- ---- and with the refusals

module _ {b : BakeInput} {s : Stage Float} {a : ℕ} where
  pub refused : (answer : Result Advance Refusal) (r : Refusal) {d : List Float} {q : List ℕ} → IsErr answer × IsErrAnd answer (λ y. y ≡ r) → number_of r ≡ bake_refusal b s a
      → Baked b s a (answer_of answer s.progress) s.volume s.scratch d d q q
  refused (Ok _) r h e = absurd h.1
  refused (Err y) r h e =
      let n : number_of y ≡ bake_refusal b s a = ap number_of h.1 ∙ e in
      let c = sym (refused_call b s a (λ z. number_nonzero y (n ∙ z))) in
      record {
        refusal = n ∙ ap (λ (y : Called Float). y.refusal) c;
        progress = ap (λ (y : Called Float). y.stage.progress) c;
        rays = ap (λ (y : Called Float). y.rays) c;
        volume = ap (λ (y : Called Float). y.stage.volume) c;
        scratch = ap (λ (y : Called Float). y.stage.scratch) c;
        hits = record { distances = λ z. refl; places = λ z. refl };
        distances_long_is = refl;
        places_long_lem = refl;
      }

  pub accepts : 0 ≡ bake_refusal b s a → Fits b s a
  accepts e = fits b s a ((none_refused b s a).0 (sym e))

  pub answers : {r : Reached} {v x d d' : List Float} {q q' : List ℕ} → 0 ≡ bake_refusal b s a
      → Accepts (accepted (bake_of b) a s) r v x d d' q q'
      → length d' ≡ length d
      → length q' ≡ length q
      → Baked b s a (reached_answer s.progress r) v x d d' q q'
  answers e w m n =
      let c = sym (accepted_call b s a (sym e)) in
      record {
        refusal = sym (accepted_none b s a) ∙ ap (λ (y : Called Float). y.refusal) c;
        progress = ap₂ progress_of (w.next ∙ ap (λ (y : Called Float). y.stage.progress.next) c) (total b s a e w);
        rays = w.rays ∙ ap (λ (y : Called Float). y.rays) c;
        volume = w.volume ∙ ap (λ (y : Called Float). y.stage.volume) c;
        scratch = w.scratch ∙ ap (λ (y : Called Float). y.stage.scratch) c;
        hits = w.hits;
        distances_long_is = m;
        places_long_lem = n;
      }

-- ---- a call for solid walls goes on as one with hit scratch does

abbrev with_hits : BakeInput → BakeInput
with_hits b = input_of b.axes b.corners b.scene b.light b.ambient b.sky b.lamps b.active b.lights b.distances b.places

module _ (b : BakeInput) (s : Stage Float) (a : ℕ) where
  pub fits_with_hits : Fits b s a → Fits (with_hits b) s a
  fits_with_hits f =
      record {
        axes = f.axes;
        scene = f.scene;
        tree = f.tree;
        sky = f.sky;
        lamps = f.lamps;
        active = f.active;
        lights = f.lights;
        volume = f.volume;
        scratch = f.scratch;
        hits = f.hits;
        progress = record { within = f.progress.within; least = f.progress.least; most = f.progress.most };
        allowance = f.allowance;
      }

  pub accepts_without : {r : Reached} {v x d d' : List Float} {q q' : List ℕ} → Accepts (accepted (bake_of (with_hits b)) a s) r v x d d' q q'
      → Accepts (accepted (bake_of b) a s) r v x d d' q q'
  accepts_without {r} {v} {x} {d} {d'} {q} {q'} w =
      subst (λ (c : Called Float). Accepts c r v x d d' q q') (sym (accepted_refusing (bake_of (with_hits b)) (bake_refusal b) a s)) w
