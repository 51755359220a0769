-- The contract leaves one answer; which row refuses; a refusal and a finished bake fire no ray and leave all as it was; and what record an accepted call is
-- handed and answers.
use Rattle.std.specs.Prelude.{◌≡◌, refl, false, List, [], ℕ, zero, suc, ◌≤◌, length, Float}
use Rattle.std.proofs.Common.{sym, ap, ◌∙◌, arith, eq-eqb}
use Rattle.names.specs.Refusals.{RefusedBy, refused_by}
use Rattle.names.specs.Scene.{other_kind}
use Rattle.spread.specs.declared.Progress.{Progress}
use Rattle.spread.specs.Spread.{Stage, Called, run, unbroken}
use Rattle.spread.specs.Refusing.{call_refusing, run_refusing, unbroken_refusing}
use Rattle.intake.specs.Intake.{BakeInput, solid_of, voxel_count, triangle_count, bake_rows, bake_refusal, GoodProgress}
use Rattle.intake.specs.IntakeLaws.{fits, none_refused, bake_refusal_same}
use Rattle.demand.specs.Bake.{bake_of, bake_call}
use Rattle.demand.specs.Calls.{refused_call, accepted_call, answers_refusal}
use Rattle.demand.proofs.Lasting.{call_leaves}
use Rattle.bake.specs.declared.BakeAnswer.{BakeAnswer}
use Rattle.bake.specs.Baked.{Baked, SolidBaked}

-- two results that answer r and r' and leave the volumes v and v', the scratches x and x', and in hit scratch e and e', q and q': the answer and both
-- lists are equal, and where no ray is fired hit scratch too; its lengths are equal always
pub record SameBaked (r r' : BakeAnswer) (v v' x x' e e' : List Float) (q q' : List ℕ) : Type 0 where
  pub answer : r ≡ r'
  pub volumes : v ≡ v'
  pub scratches : x ≡ x'
  pub distances_same : r.rays ≡ 0 → e ≡ e'
  pub places_same : r.rays ≡ 0 → q ≡ q'
  pub distances_long_is : length e ≡ length e'
  pub places_long_lem : length q ≡ length q'

-- answers that agree in each number are one
answered : {r r' : BakeAnswer} → r.refusal ≡ r'.refusal → r.progress ≡ r'.progress → r.rays ≡ r'.rays → r ≡ r'
answered {r} {r'} h i j =
    ap (λ (n : ℕ). record { refusal = n; progress = r.progress; rays = r.rays }) h
    ∙ ap (λ (q : Progress). record { refusal = r'.refusal; progress = q; rays = r.rays }) i
    ∙ ap (λ (n : ℕ). record { refusal = r'.refusal; progress = r'.progress; rays = n }) j

-- whatever two results satisfy the contract are the same; what hit scratch holds after rays is open
pub baked_once : (b : BakeInput) (s : Stage Float) (a : ℕ) (d : List Float) (p : List ℕ) (r r' : BakeAnswer) (v v' x x' e e' : List Float) (q q' : List ℕ)
    → Baked b s a r v x d e p q
    → Baked b s a r' v' x' d e' p q'
    → SameBaked r r' v v' x x' e e' q q'
baked_once b s a d p r r' v v' x x' e e' q q' f g =
    let fired : r.rays ≡ r'.rays = f.rays ∙ sym g.rays in
    record {
      answer = answered (f.refusal ∙ sym g.refusal) (f.progress ∙ sym g.progress) fired;
      volumes = f.volume ∙ sym g.volume;
      scratches = f.scratch ∙ sym g.scratch;
      distances_same = λ z. f.hits.distances z ∙ sym (g.hits.distances (sym fired ∙ z));
      places_same = λ z. f.hits.places z ∙ sym (g.hits.places (sym fired ∙ z));
      distances_long_is = f.distances_long_is ∙ sym g.distances_long_is;
      places_long_lem = f.places_long_lem ∙ sym g.places_long_lem;
    }

-- for solid walls nothing is left open
pub record SameSolidBaked (r r' : BakeAnswer) (v v' x x' : List Float) : Type 0 where
  pub answer : r ≡ r'
  pub volumes : v ≡ v'
  pub scratches : x ≡ x'

pub solid_baked_once : (b : BakeInput) (s : Stage Float) (a : ℕ) (r r' : BakeAnswer) (v v' x x' : List Float) → SolidBaked b s a r v x → SolidBaked b s a r' v' x'
    → SameSolidBaked r r' v v' x x'
solid_baked_once b s a r r' v v' x x' f g =
    let same = baked_once b s a [] [] r r' v v' x x' [] [] [] [] f g in
    record { answer = same.answer; volumes = same.volumes; scratches = same.scratches }

-- "a bake through it equals the old one, counts included": where no other kind stands in the list and hit scratch is long enough, both calls, refusals too
pub bake_engines_agree : (b : BakeInput) (s : Stage Float) (a : ℕ) (d d' : List Float) (p p' : List ℕ) (r r' : BakeAnswer) (v v' x x' : List Float)
    → other_kind b.scene.kinds ≡ false → triangle_count b ≤ b.distances → triangle_count b ≤ b.places
    → SolidBaked (solid_of b) s a r v x
    → Baked b s a r' v' x' d d' p p'
    → SameSolidBaked r r' v v' x x'
bake_engines_agree b s a d d' p p' r r' v v' x x' o h k f g =
    let e : bake_call (solid_of b) s a ≡ bake_call b s a = call_refusing (bake_of b) (bake_refusal (solid_of b)) a s (bake_refusal_same b s a o h k) in
    record {
      answer = answered (f.refusal ∙ ap (λ (c : Called Float). c.refusal) e ∙ sym g.refusal) (f.progress ∙ ap (λ (c : Called Float). c.stage.progress) e ∙ sym g.progress)
          (f.rays ∙ ap (λ (c : Called Float). c.rays) e ∙ sym g.rays);
      volumes = f.volume ∙ ap (λ (c : Called Float). c.stage.volume) e ∙ sym g.volume;
      scratches = f.scratch ∙ ap (λ (c : Called Float). c.stage.scratch) e ∙ sym g.scratch;
    }

-- and of runs of calls: each call's refusal and rays, and what the last one leaves
pub runs_engines_agree : (b : BakeInput) → other_kind b.scene.kinds ≡ false → triangle_count b ≤ b.distances → triangle_count b ≤ b.places
    → (allowances : List ℕ) (s : Stage Float) → run (bake_of (solid_of b)) allowances s ≡ run (bake_of b) allowances s
runs_engines_agree b o h k allowances s =
    run_refusing (bake_of b) (bake_refusal (solid_of b)) (λ s a. bake_refusal_same b s a o h k) allowances s

-- and of whole bakes: both end as one unbroken bake, its progress with all rays, volume and scratch
pub unbroken_engines_agree : (b : BakeInput) (scratch : List Float) → unbroken (bake_of (solid_of b)) scratch ≡ unbroken (bake_of b) scratch
unbroken_engines_agree b scratch = unbroken_refusing (bake_of b) (bake_refusal (solid_of b)) scratch

-- k is answered exactly when row k holds and none before it, 0 exactly when none holds
pub bake_refused_by : (b : BakeInput) (s : Stage Float) (a : ℕ) (r : BakeAnswer) (v x d d' : List Float) (p p' : List ℕ)
    → Baked b s a r v x d d' p p' → RefusedBy (bake_rows b s a) r.refusal
unfolding bake_rows bake_refusal
bake_refused_by b s a r v x d d' p p' f = refused_by (bake_rows b s a) r.refusal (omega arith) (f.refusal ∙ answers_refusal b s a)

-- no ray is fired on a refusal, so that it leaves all four lists as they were
pub record Untouched (s : Stage Float) (r : BakeAnswer) (v x d d' : List Float) (p p' : List ℕ) : Type 0 where
  pub rays : r.rays ≡ 0
  pub progress : r.progress ≡ s.progress
  pub volume : v ≡ s.volume
  pub scratch : x ≡ s.scratch
  pub distances : d' ≡ d
  pub places : p' ≡ p

pub refused_untouched : (b : BakeInput) (s : Stage Float) (a : ℕ) (r : BakeAnswer) (v x d d' : List Float) (p p' : List ℕ)
    → Baked b s a r v x d d' p p' → (r.refusal ≡ 0 → ⊥) → Untouched s r v x d d' p p'
refused_untouched b s a r v x d d' p p' f n =
    let c = refused_call b s a (λ z. n (f.refusal ∙ answers_refusal b s a ∙ z)) in
    let none : r.rays ≡ 0 = f.rays ∙ ap (λ (y : Called Float). y.rays) c in
    record {
      rays = none;
      progress = f.progress ∙ ap (λ (y : Called Float). y.stage.progress) c;
      volume = f.volume ∙ ap (λ (y : Called Float). y.stage.volume) c;
      scratch = f.scratch ∙ ap (λ (y : Called Float). y.stage.scratch) c;
      distances = f.hits.distances none;
      places = f.hits.places none;
    }

-- an accepted call, at any stage, was handed a record that row 9 passes, and answers one: a wrong record is refused, not repaired
pub accepted_good : (b : BakeInput) (s : Stage Float) (a : ℕ) (r : BakeAnswer) (v x d d' : List Float) (p p' : List ℕ) → Baked b s a r v x d d' p p' → r.refusal ≡ 0
    → GoodProgress b s.progress × GoodProgress b r.progress
accepted_good b s a r v x d d' p p' f z =
    let e : bake_refusal b s a ≡ 0 = sym (answers_refusal b s a) ∙ sym f.refusal ∙ z in
    ((fits b s a ((none_refused b s a).0 e)).progress, rw f.progress (call_leaves b s a e))

-- a finished bake, refused or not, answers the record as handed in, fires nothing and writes nothing
pub finished_untouched : (b : BakeInput) (s : Stage Float) (a : ℕ) (r : BakeAnswer) (v x d d' : List Float) (p p' : List ℕ) → Baked b s a r v x d d' p p'
    → s.progress.next ≡ voxel_count b → Untouched s r v x d d' p p'
finished_untouched b s a r v x d d' p p' f h = go (bake_refusal b s a) refl
  where
    go : (n : ℕ) → bake_refusal b s a ≡ n → Untouched s r v x d d' p p'
    go (suc n) e = refused_untouched b s a r v x d d' p p' f (λ z. omega (arith, e, z, f.refusal, answers_refusal b s a))
    go zero e =
        let c : bake_call b s a ≡ record { refusal = 0; rays = 0; stage = s } = accepted_call b s a e ∙ rw (eq-eqb s.progress.next (voxel_count b) h) refl in
        let none : r.rays ≡ 0 = f.rays ∙ ap (λ (y : Called Float). y.rays) c in
        record {
          rays = none;
          progress = f.progress ∙ ap (λ (y : Called Float). y.stage.progress) c;
          volume = f.volume ∙ ap (λ (y : Called Float). y.stage.volume) c;
          scratch = f.scratch ∙ ap (λ (y : Called Float). y.stage.scratch) c;
          distances = f.hits.distances none;
          places = f.hits.places none;
        }
