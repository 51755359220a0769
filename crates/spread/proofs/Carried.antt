-- A bake restarted on another desk: the progress and the volume are handed on, and every call may be lent another scratch. What is carried on is the same
-- wherever the calls are made, so that the end is the unbroken bake's.
use Rattle.std.specs.Prelude.{◌≡◌, Bool, cond, List, [], ℕ, ◌<◌}
use Rattle.std.proofs.Math.Path.{refl}
use Rattle.std.proofs.Common.{ap, ◌∙◌, inl, inr}
use Rattle.std.proofs.Math.Bool.{true, false}
use Rattle.spread.specs.declared.Progress.{Progress}
use Rattle.spread.specs.Spread.{progress_of, at_zero, Stage, stage, Bake, started, any_active, call, unblurred, unbroken, costs, stands}
use Rattle.spread.specs.Demand.{Sized, Fair}
use Rattle.spread.specs.Carried.{Carried, short, over}
use Rattle.spread.proofs.Contents.{stands_filled}
use Rattle.spread.proofs.Walks.{unbroken_progress}
use Rattle.spread.proofs.Holds.{StandsWhere, along_call, rests_done}

module _ {A : Type 0} (b : Bake A) where
  same_volume : (x y : List A) → (unbroken b x).volume ≡ (unbroken b y).volume
  unfolding unbroken
  same_volume x y = go (any_active b.active b.count) (progress_of b.count (costs b b.count 0))
    where
      go : (t : Bool) (p : Progress)
          → (cond t (stage p (b.mean (unblurred b)) (unblurred b)) (stage p (unblurred b) x)).volume ≡ (cond t (stage p (b.mean (unblurred b)) (unblurred b)) (stage p (unblurred b) y)).volume
      go true p = refl
      go false p = refl

  pub carried_from_zero : Sized b → 0 < b.count → (v : List A) → Carried b at_zero v
  unfolding costs
  carried_from_zero sized some v = short some refl (stands_filled b sized)

  pub carried_on : Fair b → (a : ℕ) (x : List A) {p : Progress} {v : List A} → Carried b p v → Carried b (call b a (stage p v x)).stage.progress (call b a (stage p v x)).stage.volume
  carried_on fair a x {p} {v} (short h k e) = go (along_call b fair a x (stage p v x) (inl (record { before = h; known = k; volume = e; scratch = refl })))
    where
      go : {s : Stage A} → StandsWhere b fair x s → Carried b s.progress s.volume
      go (inl s) = short s.before s.known s.volume
      go (inr e) = over (ap (λ (s : Stage A). s.progress) e ∙ unbroken_progress b x) (ap (λ (s : Stage A). s.volume) e ∙ same_volume x [])
  carried_on fair a x {p} {v} (over e f) =
      let r = (rests_done b fair a (stage p v x) (ap (λ (q : Progress). q.next) e)).1 in
      over (ap (λ (s : Stage A). s.progress) r ∙ e) (ap (λ (s : Stage A). s.volume) r ∙ f)
