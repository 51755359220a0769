-- What a scan through boxes meets: a hit's distance is a number; nothing of an absent triangle; and where no hit's own padded box is passed over, what the scan
-- without boxes meets, so that every old answer stands. What its nearest hit is the laws of any scene say. Assumes nothing.
use Rattle.std.specs.Prelude.{Option, None, Some, ◌≡◌, Bool, length}
use Rattle.std.proofs.Math.Path.{refl, ap}
use Rattle.std.proofs.Common.{sym, ◌∙◌, arith, lt-ltb}
use Rattle.std.proofs.Math.Bool.{true, false, not}
use Rattle.std.proofs.lemmas.Bool.{false≢true}
use Prim.Native.Nat.{ℕ, zero, suc, ◌/◌, ◌<◌}
use Rattle.names.specs.Scene.{Scene}
use Rattle.vectors.specs.declared.Ray.{Ray}
use Rattle.triangle.specs.Meet.{absent_of}
use Rattle.triangle.specs.Laws.{absent_missed}
use Rattle.triangle.specs.Places.{triangle_at}
use Rattle.triangle.specs.declared.Hit.{Hit}
use Rattle.panels.specs.Panels.{own_passed, met_by, meet_at}
use Rattle.panels.specs.PanelLaws.{missed_at, by_missed, by_list}
use Rattle.hits.specs.Hits.{hits_of}
use Rattle.hits.specs.BeforeLaws.{hit_number}
use Rattle.scan.specs.Nearest.{nearest_to, nearest_of}
use Rattle.scan.specs.Transmittance.{transmittance_of}
use Rattle.tree.specs.Tree.{present_at}
use Rattle.tree_walk.specs.Boxed.{plain_of, boxed_meet_at, nearest_boxed_to, nearest_boxed, hits_boxed, pass_hits, transmittance_boxed}
use Rattle.tree_walk.specs.SwapLaws.{NumberMeet}

module _ (scene : Scene) (ray : Ray) where
  -- ---- one triangle

  pub boxed_over : (i : ℕ) → own_passed scene.points ray i ≡ true → boxed_meet_at scene ray i ≡ None
  unfolding met_by
  boxed_over i h = rw h refl

  pub boxed_met : (i : ℕ) → own_passed scene.points ray i ≡ false → boxed_meet_at scene ray i ≡ meet_at (plain_of scene) ray i
  unfolding met_by
  boxed_met i h = rw h refl

  pub boxed_number : (i : ℕ) → NumberMeet (boxed_meet_at scene ray i)
  boxed_number i = by (boxed_meet_at scene ray i) refl
    where
      by : (m : Option Hit) → boxed_meet_at scene ray i ≡ m → NumberMeet m
      by None e = tt
      by (Some h) e = hit_number true scene.points scene.uses scene.kinds ray i h e

  pub boxed_missed : (i : ℕ) → meet_at (plain_of scene) ray i ≡ None → boxed_meet_at scene ray i ≡ None
  boxed_missed i e = by_missed true scene.points scene.uses scene.kinds ray i (sym (by_list scene.points scene.uses scene.kinds ray i) ∙ e)

  -- an absent triangle is met nowhere
  pub boxed_absent : (i : ℕ) → i < length scene.points / 9 → present_at scene.points i ≡ false → boxed_meet_at scene ray i ≡ None
  unfolding present_at
  boxed_absent i h e =
      by_missed true scene.points scene.uses scene.kinds ray i (missed_at scene.points scene.uses scene.kinds ray i
      (absent_missed ray (triangle_at scene.points i) (by (absent_of (triangle_at scene.points i)) (rw (lt-ltb i (length scene.points / 9) h) at e))))
    where
      by : (b : Bool) → not b ≡ false → b ≡ true
      by true k = refl
      by false k = absurd (false≢true (sym k))

  -- ---- where no triangle that is met is left out

  -- a triangle that the full scan hits and whose own padded box is passed over: the request's differences
  abbrev pub LeftOut : ℕ → Type 0
  LeftOut i = (h : Hit) × (meet_at (plain_of scene) ray i ≡ Some h) × (own_passed scene.points ray i ≡ true)

  -- where it is none of those, a triangle is met as before
  pub boxed_same : (i : ℕ) → (LeftOut i → ⊥) → boxed_meet_at scene ray i ≡ meet_at (plain_of scene) ray i
  boxed_same i none = by (own_passed scene.points ray i) (meet_at (plain_of scene) ray i) refl refl
    where
      by : (b : Bool) (m : Option Hit) → own_passed scene.points ray i ≡ b → meet_at (plain_of scene) ray i ≡ m → boxed_meet_at scene ray i ≡ meet_at (plain_of scene) ray i
      by false m h e = boxed_met i h
      by true None h e = boxed_missed i e ∙ sym e
      by true (Some k) h e = absurd (none (k, e, h))

  nearest_same_to : (n : ℕ) → ((i : ℕ) → i < n → LeftOut i → ⊥) → nearest_boxed_to scene ray n ≡ nearest_to (plain_of scene) ray n
  unfolding nearest_to
  nearest_same_to zero h = refl
  nearest_same_to (suc n) h = rw (nearest_same_to n (λ i l. h i (omega arith)), boxed_same n (h n (omega arith)))

  pub hits_same : (n : ℕ) → ((i : ℕ) → i < n → LeftOut i → ⊥) → hits_boxed scene ray n ≡ hits_of (plain_of scene) ray n
  unfolding hits_of
  hits_same zero h = refl
  hits_same (suc n) h = rw (hits_same n (λ i l. h i (omega arith)), boxed_same n (h n (omega arith)))

  module _ (none : (i : ℕ) → i < length scene.uses → LeftOut i → ⊥) where
    pub nearest_same : nearest_boxed scene ray ≡ nearest_of (plain_of scene) ray
    unfolding nearest_of
    nearest_same = nearest_same_to (length scene.uses) none

    pub transmittance_same : transmittance_boxed scene ray ≡ transmittance_of (plain_of scene) ray
    unfolding transmittance_of
    transmittance_same = ap (pass_hits scene) (hits_same (length scene.uses) none)
