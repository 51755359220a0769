-- The next voxel and a call's rays depend on nothing but which voxels are active, what they cost and the most that a voxel may cost: two bakes that agree in
-- these, and whose calls are not refused, answer the same next voxel and report the same rays, whatever their volumes hold.
use Rattle.std.specs.Prelude.{◌≡◌, Bool, cond, leb, eqb}
use Rattle.std.proofs.Math.Path.{refl, ap, ap₂}
use Rattle.std.proofs.Common.{sym, ◌∙◌, arith}
use Rattle.std.proofs.Math.Bool.{true, false}
use mathlib.Core.List.{List, [], ◌∷◌}
use Prim.Native.Nat.{ℕ, zero, suc, ◌+◌, ◌-◌, ◌≤◌, ◌<◌}
use borrow.Author.Tests.{ne_eqb}
use Rattle.lists.specs.Laid.{replaced}
use Rattle.spread.specs.Spread.{Stage, Bake, Walked, walked, more, started, walk, reached_by, accepted, call, run, NoneRefused}
use Rattle.spread.proofs.Walks.{ended_progress, walks, walk_to}
use Rattle.spread.specs.Bare.{bare}

-- an accepted call
module _ {A : Type 0} (b : Bake A) where
  call_accepted : (a : ℕ) (s : Stage A) → (call b a s).refusal ≡ 0 → call b a s ≡ accepted b a s
  unfolding call
  call_accepted a s e = go (b.refusal s a) refl e
    where
      go : (r : ℕ) → b.refusal s a ≡ r → (call b a s).refusal ≡ 0 → call b a s ≡ accepted b a s
      go zero h f = rw h refl
      go (suc r) h f = absurd (omega (arith, rw (h, ne_eqb (suc r) 0 (λ z. omega arith)) at f))

module _ {A B : Type 0} (b : Bake A) (c : Bake B) where
  pub record Agree : Type 0 where
    pub count : b.count ≡ c.count
    pub most : b.most ≡ c.most
    pub active : (i : ℕ) → i < b.count → b.active i ≡ c.active i
    pub cost : (i : ℕ) → i < b.count → b.cost i ≡ c.cost i

  module _ (same : Agree) where
    -- how many voxels on, and how many rays
    abbrev Both : Walked A → Walked B → Type 0
    Both x y = (x.next ≡ y.next) × (x.rays ≡ y.rays)

    walk_same : (k i l : ℕ) (v : List A) (u : List B) → i + k ≤ b.count → Both (walk b k i l v) (walk c k i l u)
    unfolding walk
    walk_same zero i l v u h = (refl, refl)
    walk_same (suc k) i l v u h =
        rw (same.active i (omega arith), same.cost i (omega arith), same.most)
        (go (c.active i) (leb c.most l) _ _ _ _ (walk_same k (i + 1) l v u (omega arith))
        (walk_same k (i + 1) (l - c.cost i) (replaced b.size i (b.gathered i) v) (replaced c.size i (c.gathered i) u) (omega arith)))
      where
        go : (t f : Bool) (x y : Walked A) (z w : Walked B) → Both x z → Both y w
            → Both (cond t (cond f (more (c.cost i) y) (walked i 0 v)) x) (cond t (cond f (more (c.cost i) w) (walked i 0 u)) z)
        go false f x y z w p q = p
        go true true x y z w p q = (q.0, ap (λ (n : ℕ). c.cost i + n) q.1)
        go true false x y z w p q = (refl, refl)

    accepted_same : (a : ℕ) (s : Stage A) (t : Stage B) → s.progress.next ≡ t.progress.next → s.progress.next ≤ b.count
        → ((accepted b a s).stage.progress.next ≡ (accepted c a t).stage.progress.next) × ((accepted b a s).rays ≡ (accepted c a t).rays)
    accepted_same a s t e h = go (eqb s.progress.next b.count) refl
      where
        go : (x : Bool) → eqb s.progress.next b.count ≡ x
            → ((accepted b a s).stage.progress.next ≡ (accepted c a t).stage.progress.next) × ((accepted b a s).rays ≡ (accepted c a t).rays)
        go true p = rw (p, ap₂ eqb (sym e) (sym same.count) ∙ p) (e, refl)
        go false p =
            let u = started b s.progress.next s.volume in
            let v = started c t.progress.next t.volume in
            let w = walk_same (b.count - s.progress.next) s.progress.next a u v (omega arith) in
            let m : walk c (b.count - s.progress.next) s.progress.next a v ≡ walk c (c.count - t.progress.next) t.progress.next a v
            = ap₂ (λ (n q : ℕ). walk c (n - q) q a v) same.count e in
            rw (
              p,
              ap₂ eqb (sym e) (sym same.count) ∙ p,
              ended_progress b (reached_by b a s),
              ended_progress c (reached_by c a t),
            )
            (w.0 ∙ ap (λ (y : Walked B). y.next) m, w.1 ∙ ap (λ (y : Walked B). y.rays) m)

    accepted_within : (a : ℕ) (s : Stage A) → s.progress.next ≤ b.count → (accepted b a s).stage.progress.next ≤ b.count
    accepted_within a s h = go (eqb s.progress.next b.count) refl
      where
        go : (x : Bool) → eqb s.progress.next b.count ≡ x → (accepted b a s).stage.progress.next ≤ b.count
        go true p = rw p h
        go false p =
            rw (p, ended_progress b (reached_by b a s))
            (omega (arith, walk_to b (walks b (b.count - s.progress.next) s.progress.next a (started b s.progress.next s.volume))))

    -- a run of calls of which none is refused, by either bake
    pub run_same : (l : List ℕ) (s : Stage A) (t : Stage B) → s.progress.next ≡ t.progress.next → s.progress.next ≤ b.count
        → NoneRefused (run b l s).refusals
        → NoneRefused (run c l t).refusals
        → ((run b l s).stage.progress.next ≡ (run c l t).stage.progress.next) × ((run b l s).rays ≡ (run c l t).rays)
    unfolding run
    run_same [] s t e h p q = (e, refl)
    run_same (a ∷ l) s t e h p q =
        let x = call_accepted b a s p.0 in
        let y = call_accepted c a t q.0 in
        let g = accepted_same a s t e h in
        let r = run_same l (call b a s).stage (call c a t).stage (rw (x, y) g.0) (rw x (accepted_within a s h)) p.1 q.1 in
        (r.0, ap₂ (λ (n : ℕ) (m : List ℕ). n ∷ m) (rw (x, y) g.1) r.1)
