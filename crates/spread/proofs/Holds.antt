-- Demand 3 holds of every fair bake. A call is refused, finds the bake finished, or walks; each sentence goes by these three cases.
use Rattle.std.specs.Prelude.{◌≡◌, true, cond, ◌⊎◌, eqb, length, replicate}
use Rattle.std.proofs.Math.Path.{refl, ap, ap₂}
use Rattle.std.proofs.Common.{sym, ◌∙◌, add-mul, le-div_iff_mul-le, mul-le-mul_right, eq-or-lt_of_le, eq-eqb, ne_eqb}
use Rattle.std.proofs.Math.Logic.{inl, inr, ⊎_elim}
use mathlib.Core.List.{List, [], ◌∷◌}
use Prim.Native.Nat.{ℕ, zero, suc, ◌+◌, ◌-◌, ◌*◌, ◌/◌, ◌≤◌, ◌<◌}
use native.Mathlib.Omega.{arith}
use Rattle.std.proofs.Math.Nat.{zero-add, sub-zero, suc-mul, zero-mul, lt-div-mul-add}
use Rattle.lists.specs.Laid.{voxel_part, part_of_laid}
use Rattle.spread.specs.declared.Progress.{Progress}
use Rattle.spread.specs.Spread.{progress_of, at_zero, Stage, Bake, Called, Walked, started, blurred, walk_of, reached_by, baked, accepted, call, unbroken, actives, costs, standing, stands, run, sum, EachAtLeast, NoneRefused}
use Rattle.spread.proofs.Walks.{Walks, ended_progress, unbroken_progress, walks, walk_from, walk_to, walk_goes, walk_costs, walk_fires, walk_stops, walk_takes, walk_rays, walk_passed, call_adds, actives_split, costs_split, costs_least, costs_most}
use Rattle.spread.proofs.Contents.{length_standing, walk_stands, stands_filled, stands_unblurred}
use Rattle.spread.specs.Demand.{KnowsRays, Fair, Lasts, rounded_up, all_active, finished, Demand}

module _ {A : Type 0} (b : Bake A) (fair : Fair b) where
  -- what a call comes to: it is refused, or finds the bake finished, or walks
  data Calls (a : ℕ) (s : Stage A) : Called A → Type 0 where
    refused : {r : ℕ} → b.refusal s a ≡ r → (r ≡ 0 → ⊥) → Calls a s (record { refusal = r; rays = 0; stage = s })
    idle : b.refusal s a ≡ 0 → s.progress.next ≡ b.count → Calls a s (record { refusal = 0; rays = 0; stage = s })
    walks_on : b.refusal s a ≡ 0 → s.progress.next < b.count → b.most ≤ a → Calls a s (baked b a s)

  calls : (a : ℕ) (s : Stage A) → Calls a s (call b a s)
  unfolding call
  calls a s = go (b.refusal s a) refl
    where
      go : (r : ℕ) → b.refusal s a ≡ r → Calls a s (cond (eqb r 0) (accepted b a s) (record { refusal = r; rays = 0; stage = s }))
      go (suc r) e = rw (ne_eqb (suc r) 0 (λ z. omega arith)) (refused e (λ z. omega arith))
      go zero e =
          ⊎_elim
          (λ h. rw (eq-eqb s.progress.next b.count h) (idle e h))
          (λ h. rw (ne_eqb s.progress.next b.count (λ z. omega arith)) (walks_on e h (fair.within s a e).1))
          (eq-or-lt_of_le (fair.within s a e).0.within)

  accepted_knows : (a : ℕ) (s : Stage A) → (call b a s).refusal ≡ 0 → KnowsRays b s.progress
  accepted_knows a s = go (call b a s) (calls a s)
    where
      go : (c : Called A) → Calls a s c → c.refusal ≡ 0 → KnowsRays b s.progress
      go c (refused e n) z = absurd (n z)
      go c (idle e h) z = (fair.within s a e).0
      go c (walks_on e h f) z = (fair.within s a e).0

  -- ---- sentence by sentence

  within_allowance : (a : ℕ) (s : Stage A) → (call b a s).rays ≤ a
  within_allowance a s = go (call b a s) (calls a s)
    where
      go : (c : Called A) → Calls a s c → c.rays ≤ a
      go c (refused e n) = omega arith
      go c (idle e h) = omega arith
      go c (walks_on e h f) = walk_rays b fair.most (walks b (b.count - s.progress.next) s.progress.next a (started b s.progress.next s.volume))

  most_some : 0 < b.most
  most_some = omega (arith, fair.least 0, fair.most 0)

  finishes_enough : (a : ℕ) (s : Stage A) → (call b a s).refusal ≡ 0
      → ((call b a s).stage.progress.next ≡ b.count) ⊎ (a / b.most ≤ finished b a s)
  finishes_enough a s = go (call b a s) (calls a s)
    where
      go : (c : Called A) → Calls a s c → c.refusal ≡ 0
          → (c.stage.progress.next ≡ b.count) ⊎ (a / b.most ≤ actives b (c.stage.progress.next - s.progress.next) s.progress.next)
      go c (refused e n) z = absurd (n z)
      go c (idle e h) z = inl h
      go c (walks_on e h f) z =
          let w = walk_of b a s in
          let q = walks b (b.count - s.progress.next) s.progress.next a (started b s.progress.next s.volume) in
          let from : s.progress.next ≤ w.next = walk_from b q in
          let to : w.next ≤ s.progress.next + (b.count - s.progress.next) = walk_to b q in
          let parts : b.count - s.progress.next ≡ (w.next - s.progress.next) + (b.count - w.next) = omega arith in
          let there : s.progress.next + (w.next - s.progress.next) ≡ w.next = omega arith in
          let split : actives b (b.count - s.progress.next) s.progress.next
          ≡ actives b (w.next - s.progress.next) s.progress.next + actives b (b.count - w.next) w.next
          = ap (λ (k : ℕ). actives b k s.progress.next) parts
          ∙ actives_split b (w.next - s.progress.next) (b.count - w.next) s.progress.next
          ∙ rw there refl in
          rw (ended_progress b (reached_by b a s) w.volume s.scratch)
          (⊎_elim inl (λ g. inr (omega (arith, g.1))) (walk_passed b fair.most q b.count (omega arith) most_some))

  call_costs : (a : ℕ) (s : Stage A)
      → (call b a s).rays + costs b (b.count - (call b a s).stage.progress.next) (call b a s).stage.progress.next ≡ costs b (b.count - s.progress.next) s.progress.next
  call_costs a s = go (call b a s) (calls a s)
    where
      go : (c : Called A) → Calls a s c
          → c.rays + costs b (b.count - c.stage.progress.next) c.stage.progress.next ≡ costs b (b.count - s.progress.next) s.progress.next
      go c (refused e n) = zero-add (costs b (b.count - s.progress.next) s.progress.next)
      go c (idle e h) = zero-add (costs b (b.count - s.progress.next) s.progress.next)
      go c (walks_on e h f) =
          let w = walk_of b a s in
          rw (ended_progress b (reached_by b a s) w.volume s.scratch)
          (walk_costs b (walks b (b.count - s.progress.next) s.progress.next a (started b s.progress.next s.volume)) b.count (omega arith))

  reports_costs : (a : ℕ) (s : Stage A) → (call b a s).refusal ≡ 0
      → (call b a s).rays ≡ costs b ((call b a s).stage.progress.next - s.progress.next) s.progress.next
  unfolding costs
  reports_costs a s = go (call b a s) (calls a s)
    where
      go : (c : Called A) → Calls a s c → c.refusal ≡ 0 → c.rays ≡ costs b (c.stage.progress.next - s.progress.next) s.progress.next
      go c (refused e n) z = absurd (n z)
      go c (idle e h) z = let m : s.progress.next - s.progress.next ≡ 0 = omega arith in rw m refl
      go c (walks_on e h f) z =
          let w = walk_of b a s in
          rw (ended_progress b (reached_by b a s) w.volume s.scratch)
          (walk_fires b (walks b (b.count - s.progress.next) s.progress.next a (started b s.progress.next s.volume)))

  takes_while : (a : ℕ) (s : Stage A) → (call b a s).refusal ≡ 0 → (i : ℕ) → s.progress.next ≤ i → i < (call b a s).stage.progress.next → b.active i ≡ true
      → b.most ≤ a - costs b (i - s.progress.next) s.progress.next
  takes_while a s = go (call b a s) (calls a s)
    where
      go : (c : Called A) → Calls a s c → c.refusal ≡ 0 → (i : ℕ) → s.progress.next ≤ i → i < c.stage.progress.next → b.active i ≡ true
          → b.most ≤ a - costs b (i - s.progress.next) s.progress.next
      go c (refused e n) z i p q t = absurd (n z)
      go c (idle e h) z i p q t = absurd (omega arith)
      go c (walks_on e h f) z i p q t =
          let w = walk_of b a s in
          walk_takes b (walks b (b.count - s.progress.next) s.progress.next a (started b s.progress.next s.volume)) i p
          (rw (ended_progress b (reached_by b a s) w.volume s.scratch) at q) t

  stops_short : (a : ℕ) (s : Stage A) → (call b a s).refusal ≡ 0 → (call b a s).stage.progress.next < b.count
      → (b.active (call b a s).stage.progress.next ≡ true) × (a - (call b a s).rays < b.most)
  stops_short a s = go (call b a s) (calls a s)
    where
      go : (c : Called A) → Calls a s c → c.refusal ≡ 0 → c.stage.progress.next < b.count
          → (b.active c.stage.progress.next ≡ true) × (a - c.rays < b.most)
      go c (refused e n) z q = absurd (n z)
      go c (idle e h) z q = absurd (omega arith)
      go c (walks_on e h f) z q =
          let w = walk_of b a s in
          let short : w.next < b.count = rw (ended_progress b (reached_by b a s) w.volume s.scratch) at q in
          rw (ended_progress b (reached_by b a s) w.volume s.scratch)
          (walk_stops b (walks b (b.count - s.progress.next) s.progress.next a (started b s.progress.next s.volume)) (omega arith))

  -- ---- the rays so far

  zero_known : (a : ℕ) (s : Stage A) → (call b a s).refusal ≡ 0 → s.progress.next ≡ 0 → s.progress ≡ at_zero
  unfolding actives
  zero_known a s z e =
      let k = accepted_knows a s z in
      let none : actives b s.progress.next 0 ≡ 0 = rw e refl in
      let r : s.progress.rays ≡ 0 = omega (arith, zero-mul b.most, rw none at k.most) in
      ap₂ progress_of e r

  call_knows : (a : ℕ) (s : Stage A) → (call b a s).refusal ≡ 0 → KnowsRays b s.progress × KnowsRays b (call b a s).stage.progress
  call_knows a s z = (accepted_knows a s z, go (call b a s) (calls a s) z)
    where
      go : (c : Called A) → Calls a s c → c.refusal ≡ 0 → KnowsRays b c.stage.progress
      go c (refused e n) z = absurd (n z)
      go c (idle e h) z = (fair.within s a e).0
      go c (walks_on e h f) z =
          let k = (fair.within s a e).0 in
          let w = walk_of b a s in
          let i = s.progress.next in
          let m = w.next - i in
          let q = walks b (b.count - i) i a (started b i s.volume) in
          let there : i + m ≡ w.next = omega (arith, walk_from b q) in
          let split : actives b w.next 0 ≡ actives b i 0 + actives b m i = rw (there, zero-add) at (actives_split b i m 0) in
          let fired : w.rays ≡ costs b m i = walk_fires b q in
          let apart : (actives b i 0 + actives b m i) * b.most ≡ actives b i 0 * b.most + actives b m i * b.most = add-mul (actives b i 0) (actives b m i) b.most in
          rw (ended_progress b (reached_by b a s) w.volume s.scratch)
          (record {
            within = omega (arith, walk_to b q);
            least = omega (arith, k.least, costs_least b fair.most fair.least m i);
            most = rw (split, apart) (omega (arith, k.most, costs_most b fair.most fair.least m i));
          })

  run_adds : (l : List ℕ) (s : Stage A) → (run b l s).stage.progress.rays ≡ s.progress.rays + sum (run b l s).rays
  unfolding run sum
  run_adds [] s = omega arith
  run_adds (a ∷ l) s = omega (arith, call_adds b a s, run_adds l (call b a s).stage)

  sum_known : (l : List ℕ) (s : Stage A) → s.progress ≡ at_zero → (run b l s).stage.progress.rays ≡ sum (run b l s).rays
  sum_known l s e = omega (arith, run_adds l s, ap (λ (p : Progress). p.rays) e)

  run_costs : (l : List ℕ) (s : Stage A)
      → sum (run b l s).rays + costs b (b.count - (run b l s).stage.progress.next) (run b l s).stage.progress.next ≡ costs b (b.count - s.progress.next) s.progress.next
  unfolding run sum
  run_costs [] s = zero-add (costs b (b.count - s.progress.next) s.progress.next)
  run_costs (a ∷ l) s = omega (arith, call_costs a s, run_costs l (call b a s).stage)

  sums_up : (l : List ℕ) (s : Stage A) → s.progress ≡ at_zero → (run b l s).stage.progress.next ≡ b.count → sum (run b l s).rays ≡ costs b b.count 0
  unfolding costs
  sums_up l s h e =
      let o : s.progress.next ≡ 0 = ap (λ (p : Progress). p.next) h in
      let z : costs b (b.count - (run b l s).stage.progress.next) (run b l s).stage.progress.next ≡ 0
      = nothing (b.count - (run b l s).stage.progress.next) (run b l s).stage.progress.next (omega arith) in
      let f : costs b (b.count - s.progress.next) s.progress.next ≡ costs b b.count 0
      = let g : b.count - s.progress.next ≡ b.count = omega arith in rw (g, o) refl in
      omega (arith, run_costs l s)
    where
      nothing : (k i : ℕ) → k ≡ 0 → costs b k i ≡ 0
      nothing zero i e = refl
      nothing (suc k) i e = absurd (omega arith)

  goes_on : (a : ℕ) (s : Stage A) → (call b a s).refusal ≡ 0 → s.progress.next < b.count → s.progress.next < (call b a s).stage.progress.next
  goes_on a s = go (call b a s) (calls a s)
    where
      go : (c : Called A) → Calls a s c → c.refusal ≡ 0 → s.progress.next < b.count → s.progress.next < c.stage.progress.next
      go c (refused e n) z h = absurd (n z)
      go c (idle e g) z h = absurd (omega arith)
      go c (walks_on e g f) z h =
          let w = walk_of b a s in
          let k = b.count - (s.progress.next + 1) in
          let m : b.count - s.progress.next ≡ suc k = omega arith in
          rw (ended_progress b (reached_by b a s) w.volume s.scratch, m)
          (walk_goes b (walks b (suc k) s.progress.next a (started b s.progress.next s.volume)) f)

  pub rests_done : (a : ℕ) (s : Stage A) → s.progress.next ≡ b.count → ((call b a s).rays ≡ 0) × ((call b a s).stage ≡ s)
  rests_done a s h = go (call b a s) (calls a s)
    where
      go : (c : Called A) → Calls a s c → (c.rays ≡ 0) × (c.stage ≡ s)
      go c (refused e n) = (refl, refl)
      go c (idle e g) = (refl, refl)
      go c (walks_on e g f) = absurd (omega arith)

  -- ---- what stands as a run goes: the unbroken bake, or short of the end what the progress says

  pub record Short (x : List A) (s : Stage A) : Type 0 where
    pub before : s.progress.next < b.count
    pub known : s.progress.rays ≡ costs b s.progress.next 0
    pub volume : started b s.progress.next s.volume ≡ stands b s.progress.next
    pub scratch : s.scratch ≡ x

  -- where the bake stands after a run that began at progress zero with the scratch x
  abbrev pub StandsWhere : List A → Stage A → Type 0
  StandsWhere x s = Short x s ⊎ (s ≡ unbroken b x)

  -- progress at the end
  abbrev pub at_end : Progress
  at_end = progress_of b.count (costs b b.count 0)

  standing_start : (p : ℕ) (v : List A) → v ≡ stands b p → started b p v ≡ stands b p
  standing_start zero v e = stands_filled b fair.sized
  standing_start (suc p) v e = rw (ne_eqb (suc p) 0 (λ z. omega arith)) e

  -- the rays fired below where a walk begins, and those of the walk
  walk_known : {k i l : ℕ} {v : List A} {w : Walked A} → Walks b k i l v w → costs b i 0 + w.rays ≡ costs b w.next 0
  walk_known {i = i} {w = w} q =
      let there : i + (w.next - i) ≡ w.next = omega (arith, walk_from b q) in
      let split : costs b w.next 0 ≡ costs b i 0 + costs b (w.next - i) i = rw (there, zero-add) at (costs_split b i (w.next - i) 0) in
      omega (arith, walk_fires b q)

  pub along_call : (a : ℕ) (x : List A) (s : Stage A) → StandsWhere x s → StandsWhere x (call b a s).stage
  unfolding unbroken
  along_call a x s (inr e) = inr ((rests_done a s (ap (λ (z : Stage A). z.progress.next) e ∙ ap (λ (p : Progress). p.next) (unbroken_progress b x))).1 ∙ e)
  along_call a x s (inl h) = go (call b a s) (calls a s)
    where
      go : (c : Called A) → Calls a s c → StandsWhere x c.stage
      go c (refused e n) = inl h
      go c (idle e g) = absurd (omega (arith, h.before))
      go c (walks_on e g f) =
          let w = walk_of b a s in
          let q = walks b (b.count - s.progress.next) s.progress.next a (started b s.progress.next s.volume) in
          let v : w.volume ≡ stands b w.next = walk_stands b fair.sized q (omega arith) h.volume in
          let fired : s.progress.rays + w.rays ≡ costs b w.next 0 = ap (λ (n : ℕ). n + w.rays) h.known ∙ walk_known q in
          ⊎_elim
          (λ z.
          inr
          (rw (eq-eqb w.next b.count z)
          (ap (λ (p : Progress). blurred b p w.volume s.scratch) (ap₂ progress_of z (fired ∙ ap (λ (n : ℕ). costs b n 0) z))
          ∙ ap₂ (blurred b at_end) (v ∙ ap (stands b) z ∙ stands_unblurred b fair.sized) h.scratch)))
          (λ l.
          inl
          (rw (ne_eqb w.next b.count (λ z. omega arith))
          (record {
            before = l;
            known = fired;
            volume = standing_start w.next w.volume v;
            scratch = h.scratch;
          })))
          (eq-or-lt_of_le (omega (arith, walk_to b q)))

  along_run : (l : List ℕ) (x : List A) (s : Stage A) → StandsWhere x s → StandsWhere x (run b l s).stage
  unfolding run
  along_run [] x s h = h
  along_run (a ∷ l) x s h = along_run l x (call b a s).stage (along_call a x s h)

  begins : (s : Stage A) → s.progress ≡ at_zero → StandsWhere s.scratch s
  unfolding costs
  begins s e =
      inl
      (record {
        before = rw e fair.some;
        known = rw e refl;
        volume = rw e (stands_filled b fair.sized);
        scratch = refl;
      })

  -- a begun bake knows the rays that the definition fires below its next voxel
  rays_known : (l : List ℕ) (s : Stage A) → s.progress ≡ at_zero → (run b l s).stage.progress.rays ≡ costs b (run b l s).stage.progress.next 0
  rays_known l s e =
      ⊎_elim (λ h. h.known)
      (λ h.
      let p : (run b l s).stage.progress ≡ at_end = ap (λ (z : Stage A). z.progress) h ∙ unbroken_progress b s.scratch in
      ap (λ (z : Progress). z.rays) p ∙ sym (ap (λ (z : Progress). costs b z.next 0) p))
      (along_run l s.scratch s (begins s e))

  whole_run : (l : List ℕ) (s : Stage A) → s.progress ≡ at_zero → (run b l s).stage.progress.next ≡ b.count → (run b l s).stage ≡ unbroken b s.scratch
  whole_run l s e f = ⊎_elim (λ h. absurd (omega (arith, h.before))) (λ h. h) (along_run l s.scratch s (begins s e))

  before_end : (l : List ℕ) (s : Stage A) → s.progress ≡ at_zero → 0 < (run b l s).stage.progress.next → (run b l s).stage.progress.next < b.count
      → ((i : ℕ) → i < b.count → voxel_part b.size i (run b l s).stage.volume ≡ standing b (run b l s).stage.progress.next i)
      × ((run b l s).stage.volume ≡ stands b (run b l s).stage.progress.next) × ((run b l s).stage.scratch ≡ s.scratch)
  before_end l s e p f =
      ⊎_elim
      (λ h.
      let t = (run b l s).stage in
      let v : t.volume ≡ stands b t.progress.next = rw (ne_eqb t.progress.next 0 (λ z. omega arith)) at h.volume in (
        (λ i k. rw v (part_of_laid b.size (standing b t.progress.next) (length_standing b fair.sized t.progress.next) i b.count k)),
        v,
        h.scratch,
      ))
      (λ h. absurd (omega (arith, ap (λ (z : Stage A). z.progress.next) h, ap (λ (z : Progress). z.next) (unbroken_progress b s.scratch))))
      (along_run l s.scratch s (begins s e))

  -- ---- how many calls

  run_done : (l : List ℕ) (s : Stage A) → s.progress.next ≡ b.count → (run b l s).stage ≡ s
  unfolding run
  run_done [] s e = refl
  run_done (a ∷ l) s e =
      let h : (call b a s).stage ≡ s = (rests_done a s e).1 in
      run_done l (call b a s).stage (ap (λ (z : Stage A). z.progress.next) h ∙ e) ∙ h

  abbrev left : Stage A → ℕ
  left s = actives b (b.count - s.progress.next) s.progress.next

  call_left : (a : ℕ) (s : Stage A) → (call b a s).refusal ≡ 0
      → ((call b a s).stage.progress.next ≡ b.count) ⊎ ((0 < left (call b a s).stage) × (left (call b a s).stage + a / b.most ≤ left s))
  call_left a s = go (call b a s) (calls a s)
    where
      go : (c : Called A) → Calls a s c → c.refusal ≡ 0
          → (c.stage.progress.next ≡ b.count) ⊎ ((0 < left c.stage) × (left c.stage + a / b.most ≤ left s))
      go c (refused e n) z = absurd (n z)
      go c (idle e h) z = inl h
      go c (walks_on e h f) z =
          let w = walk_of b a s in
          rw (ended_progress b (reached_by b a s) w.volume s.scratch)
          (walk_passed b fair.most (walks b (b.count - s.progress.next) s.progress.next a (started b s.progress.next s.volume)) b.count (omega arith)
          most_some)

  enough : (k a : ℕ) → k * b.most ≤ a → k ≤ a / b.most
  enough k a h = (le-div_iff_mul-le most_some).1 h

  ends : (k a : ℕ) (l : List ℕ) (s : Stage A) → EachAtLeast (k * b.most) (a ∷ l) → left s ≤ length (a ∷ l) * k
      → NoneRefused (run b (a ∷ l) s).refusals → (run b (a ∷ l) s).stage.progress.next ≡ b.count
  unfolding run
  ends k a [] s h f r = ⊎_elim (λ e. e) (λ g. absurd (omega (arith, enough k a h.0, rw (suc-mul, zero-mul) at f))) (call_left a s r.0)
  ends k a (c ∷ l) s h f r =
      ⊎_elim
      (λ e. ap (λ (z : Stage A). z.progress.next) (run_done (c ∷ l) (call b a s).stage e) ∙ e)
      (λ g. ends k c l (call b a s).stage h.1 (omega (arith, enough k a h.0, rw suc-mul at f)) r.1)
      (call_left a s r.0)

  at_most : (k : ℕ) (l : List ℕ) (s : Stage A) → 1 ≤ k → EachAtLeast (k * b.most) l → 0 < length l → rounded_up (all_active b) k ≤ length l
      → s.progress ≡ at_zero → NoneRefused (run b l s).refusals → (run b l s).stage.progress.next ≡ b.count
  at_most k [] s p h n f e r = absurd (omega arith)
  at_most k (a ∷ l) s p h n f e r =
      let z : left s ≡ all_active b = ap (λ (q : Progress). actives b (b.count - q.next) q.next) e ∙ rw sub-zero refl in
      ends k a l s h
      (omega (arith, lt-div-mul-add {a = all_active b + (k - 1)} {b = k} p, mul-le-mul_right k f))
      r

  one_call : (a : ℕ) (s : Stage A) → all_active b ≡ 0 → s.progress ≡ at_zero → (call b a s).refusal ≡ 0 → (call b a s).stage.progress.next ≡ b.count
  one_call a s n e r =
      let z : left s ≡ all_active b = ap (λ (q : Progress). actives b (b.count - q.next) q.next) e ∙ rw sub-zero refl in
      ⊎_elim (λ h. h) (λ h. absurd (omega arith)) (call_left a s r)

  pub demand : Demand b
  demand =
      record {
        whole = whole_run;
        before = before_end;
        within = within_allowance;
        finishes = finishes_enough;
        reports = reports_costs;
        takes = takes_while;
        stops = stops_short;
        sums = sums_up;
        each = λ i h t. (fair.least i, fair.most i);
        all = (costs_least b fair.most fair.least b.count 0, costs_most b fair.most fair.least b.count 0);
        calls = at_most;
        one = one_call;
        goes = goes_on;
        rests = rests_done;
        zero_at_zero = zero_known;
        knows = call_knows;
        adds = run_adds;
        sum_known = sum_known;
        rays_known = rays_known;
        between = λ l s e f.
            let t : (run b l s).stage.progress.rays ≡ costs b b.count 0 = rays_known l s e ∙ ap (λ (n : ℕ). costs b n 0) f in
            rw t (costs_least b fair.most fair.least b.count 0, costs_most b fair.most fair.least b.count 0);
      }

  -- "no call refused" holds of any run whose first call is accepted, where what a call leaves is what the next accepts
  pub no_call_refused : Lasts b → (l : List ℕ) (s : Stage A) → EachAtLeast b.most l → ((a : ℕ) → b.most ≤ a → b.refusal s a ≡ 0)
      → NoneRefused (run b l s).refusals
  unfolding run
  no_call_refused lasts [] s h e = tt
  no_call_refused lasts (a ∷ l) s h e =
      (answers_none (e a h.0), no_call_refused lasts l (call b a s).stage h.1 (λ c g. lasts s a c (e a h.0) g))
    where
      answers_none : b.refusal s a ≡ 0 → (call b a s).refusal ≡ 0
      answers_none z = go (call b a s) (calls a s)
        where
          go : (c : Called A) → Calls a s c → c.refusal ≡ 0
          go c (refused f n) = absurd (n (sym f ∙ z))
          go c (idle f g) = refl
          go c (walks_on f g k) = refl

  -- and then each answers 0
  pub refusals_zero : (l : List ℕ) (s : Stage A) → NoneRefused (run b l s).refusals → (run b l s).refusals ≡ replicate (length l) 0
  unfolding run
  refusals_zero [] s h = refl
  refusals_zero (a ∷ l) s h = ap₂ (λ (r : ℕ) (rs : List ℕ). r ∷ rs) h.0 (refusals_zero l (call b a s).stage h.1)
