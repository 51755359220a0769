-- What an accepted call does hangs on no refusal: a bake with other rows walks the same way, calls that both accept, or refuse alike, are the same, and so are
-- runs of calls and the unbroken bake.
use Rattle.std.specs.Prelude.{◌≡◌, eqb}
use Rattle.std.proofs.Math.Path.{refl, ap₂}
use Rattle.std.proofs.Common.{ap, ◌∙◌}
use Rattle.std.proofs.Math.Bool.{cond}
use mathlib.Core.List.{List, [], ◌∷◌}
use Prim.Native.Nat.{ℕ, zero, suc, ◌+◌, ◌-◌}
use Rattle.lists.specs.Laid.{replaced}
use Rattle.spread.specs.Spread.{Stage, Bake, Called, filled, walk, accepted, call, costs, unblurred, unbroken, then, run}

-- the bake b with the rows f
module _ {A : Type 0} (b : Bake A) (f : Stage A → ℕ → ℕ) where
  abbrev pub refusing : Bake A
  refusing =
      record {
        count = b.count;
        size = b.size;
        active = b.active;
        cost = b.cost;
        most = b.most;
        ambient = b.ambient;
        gathered = b.gathered;
        mean = b.mean;
        refusal = f;
      }

  pub walk_refusing : (k i l : ℕ) (v : List A) → walk refusing k i l v ≡ walk b k i l v
  unfolding walk
  walk_refusing zero i l v = refl
  walk_refusing (suc k) i l v =
      rw (walk_refusing k (i + 1) l v, walk_refusing k (i + 1) (l - b.cost i) (replaced b.size i (b.gathered i) v)) refl

  pub accepted_refusing : (a : ℕ) (s : Stage A) → accepted refusing a s ≡ accepted b a s
  unfolding filled
  accepted_refusing a s =
      rw (walk_refusing (b.count - s.progress.next) s.progress.next a (cond (eqb s.progress.next 0) (filled b) s.volume)) refl

  pub call_refusing : (a : ℕ) (s : Stage A) → f s a ≡ b.refusal s a → call refusing a s ≡ call b a s
  unfolding call
  call_refusing a s e =
      ap₂ (λ (n : ℕ) (c : Called A). cond (eqb n 0) c (record { refusal = n; rays = 0; stage = s })) e (accepted_refusing a s)

  -- where all are refused alike, so are runs
  pub run_refusing : ((s : Stage A) (a : ℕ) → f s a ≡ b.refusal s a) → (allowances : List ℕ) (s : Stage A) → run refusing allowances s ≡ run b allowances s
  unfolding run
  run_refusing e [] s = refl
  run_refusing e (a ∷ rest) s =
      let same = call_refusing a s (e s a) in
      ap₂ then same (ap (λ (c : Called A). run refusing rest c.stage) same ∙ run_refusing e rest (call b a s).stage)

  -- the unbroken bake, and each voxel's rays, hang on none either
  pub costs_refusing : (k i : ℕ) → costs refusing k i ≡ costs b k i
  unfolding costs
  costs_refusing zero i = refl
  costs_refusing (suc k) i = rw (costs_refusing k (i + 1)) refl

  pub unbroken_refusing : (scratch : List A) → unbroken refusing scratch ≡ unbroken b scratch
  unfolding unbroken unblurred
  unbroken_refusing scratch = rw (costs_refusing b.count 0) refl
