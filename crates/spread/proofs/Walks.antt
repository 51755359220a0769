-- How a walk goes, voxel by voxel, as a relation of four cases; and what follows of any walk by these cases.
use Rattle.std.specs.Prelude.{◌≡◌, Bool, ◌⊎◌, List}
use Rattle.std.proofs.Math.Path.{refl, ap}
use Rattle.std.proofs.Common.{sym, ◌∙◌, zero-add, add_assoc, le-div_iff_mul-le, suc-mul, eq-or-lt_of_le}
use Rattle.std.proofs.Math.Bool.{true, false, cond}
use Rattle.std.proofs.lemmas.Bool.{false≢true}
use Rattle.std.proofs.Math.Logic.{inl, inr, ⊎_elim}
use Prim.Native.Nat.{ℕ, zero, suc, ◌+◌, ◌-◌, ◌*◌, ◌/◌, ◌≤◌, ◌<◌}
use native.Mathlib.Omega.{arith}
use Rattle.std.proofs.Math.Nat.{add-zero, sub-add-eq, div-eq_of_lt}
use Rattle.std.proofs.Math.Dec.{leb, eqb}
use borrow.Author.Tests.{leb-true, leb-false, le-leb, lt-leb}
use Rattle.names.specs.Numbers.{primary_rays}
use Rattle.lists.specs.Any.{any}
use Rattle.lists.specs.Fold.{ahead}
use Rattle.lists.specs.Laid.{replaced}
use Rattle.spread.specs.declared.Progress.{Progress}
use Rattle.spread.specs.Spread.{progress_of, Stage, stage, Bake, Walked, walked, more, walk, any_active, blurred, ended, walk_of, reached_by, call, actives, costs, unblurred, unbroken}

module _ {A : Type 0} (b : Bake A) where
  pub data Walks : ℕ → ℕ → ℕ → List A → Walked A → Type 0 where
    none : {i l : ℕ} {v : List A} → Walks 0 i l v (walked i 0 v)
    skip : {k i l : ℕ} {v : List A} {w : Walked A} → b.active i ≡ false → Walks k (i + 1) l v w → Walks (suc k) i l v w
    stop : {k i l : ℕ} {v : List A} → b.active i ≡ true → l < b.most → Walks (suc k) i l v (walked i 0 v)
    taken : {k i l : ℕ} {v : List A} {w : Walked A} → b.active i ≡ true → b.most ≤ l
        → Walks k (i + 1) (l - b.cost i) (replaced b.size i (b.gathered i) v) w → Walks (suc k) i l v (more (b.cost i) w)

  pub walks : (k i l : ℕ) (v : List A) → Walks k i l v (walk b k i l v)
  unfolding walk
  walks zero i l v = none
  walks (suc k) i l v =
      go (b.active i) refl (leb b.most l) refl (walks k (i + 1) l v)
      (walks k (i + 1) (l - b.cost i) (replaced b.size i (b.gathered i) v))
    where
      go : (x : Bool) → b.active i ≡ x → (y : Bool) → leb b.most l ≡ y → Walks k (i + 1) l v (walk b k (i + 1) l v)
          → Walks k (i + 1) (l - b.cost i) (replaced b.size i (b.gathered i) v)
          (walk b k (i + 1) (l - b.cost i) (replaced b.size i (b.gathered i) v))
          → Walks (suc k) i l v (walk b (suc k) i l v)
      go false e y f s t = rw e (skip e s)
      go true e true f s t = rw (e, f) (taken e (leb-true b.most l f) t)
      go true e false f s t = rw (e, f) (stop e (leb-false b.most l f))

  -- a walk goes forward, and to the end at most
  pub walk_from : {k i l : ℕ} {v : List A} {w : Walked A} → Walks k i l v w → i ≤ w.next
  walk_from none = omega arith
  walk_from (skip e s) = omega (arith, walk_from s)
  walk_from (stop e f) = omega arith
  walk_from (taken e f s) = omega (arith, walk_from s)

  pub walk_to : {k i l : ℕ} {v : List A} {w : Walked A} → Walks k i l v w → w.next ≤ i + k
  walk_to none = omega arith
  walk_to (skip e s) = omega (arith, walk_to s)
  walk_to (stop e f) = omega arith
  walk_to (taken e f s) = omega (arith, walk_to s)

  -- with as many rays as a voxel may cost it gets past its first voxel
  pub walk_goes : {k i l : ℕ} {v : List A} {w : Walked A} → Walks (suc k) i l v w → b.most ≤ l → i < w.next
  walk_goes (skip e s) h = omega (arith, walk_from s)
  walk_goes (stop e f) h = omega arith
  walk_goes (taken e f s) h = omega (arith, walk_from s)

  -- its rays are the costs of the active voxels that it passed: those of all ahead, less those of all that are left
  pub walk_costs : {k i l : ℕ} {v : List A} {w : Walked A} → Walks k i l v w → (n : ℕ) → n ≡ i + k
      → w.rays + costs b (n - w.next) w.next ≡ costs b k i
  unfolding costs
  walk_costs (none {i}) n h = let z : n - i ≡ 0 = omega arith in rw z refl
  walk_costs (skip e s) n h = rw e (walk_costs s n (omega arith))
  walk_costs (stop {k} {i} e f) n h =
      let z : n - i ≡ suc k = omega arith in rw (z, e) (zero-add (b.cost i + costs b k (i + 1)))
  walk_costs (taken {w = w} e f s) n h = rw e (omega (arith, walk_costs s n (omega arith)))

  -- the same of those that it passed alone
  pub walk_fires : {k i l : ℕ} {v : List A} {w : Walked A} → Walks k i l v w → w.rays ≡ costs b (w.next - i) i
  unfolding costs
  walk_fires (none {i}) = let z : i - i ≡ 0 = omega arith in rw z refl
  walk_fires (skip {i = i} {w = w} e s) =
      let z : w.next - i ≡ suc (w.next - (i + 1)) = omega (arith, walk_from s) in rw (z, e) (walk_fires s)
  walk_fires (stop {i = i} e f) = let z : i - i ≡ 0 = omega arith in rw z refl
  walk_fires (taken {i = i} {w = w} e f s) =
      let z : w.next - i ≡ suc (w.next - (i + 1)) = omega (arith, walk_from s) in
      rw (z, e) (ap (λ (n : ℕ). b.cost i + n) (walk_fires s))

  -- short of the end it stops at an active voxel, with fewer rays left than a voxel may cost
  pub walk_stops : {k i l : ℕ} {v : List A} {w : Walked A} → Walks k i l v w → w.next < i + k
      → (b.active w.next ≡ true) × (l - w.rays < b.most)
  walk_stops none h = absurd (omega arith)
  walk_stops (skip e s) h = walk_stops s (omega arith)
  walk_stops (stop e f) h = (e, omega arith)
  walk_stops (taken e f s) h = let g = walk_stops s (omega arith) in (g.0, omega (arith, g.1))

  -- and an active voxel that it passed was taken with as many rays left as a voxel may cost
  pub walk_takes : {k i l : ℕ} {v : List A} {w : Walked A} → Walks k i l v w → (j : ℕ) → i ≤ j → j < w.next → b.active j ≡ true
      → b.most ≤ l - costs b (j - i) i
  unfolding costs
  walk_takes none j h p t = absurd (omega arith)
  walk_takes (skip {i = i} e s) j h p t =
      ⊎_elim
      (λ z. absurd (false≢true (sym e ∙ ap b.active z ∙ t)))
      (λ (q : i < j).
      let z : j - i ≡ suc (j - (i + 1)) = omega arith in
      rw (z, e) (walk_takes s j (omega arith) p t))
      (eq-or-lt_of_le h)
  walk_takes (stop e f) j h p t = absurd (omega arith)
  walk_takes (taken {i = i} e f s) j h p t =
      ⊎_elim
      (λ (q : i ≡ j). let z : j - i ≡ 0 = omega arith in rw z (omega arith))
      (λ (q : i < j).
      let z : j - i ≡ suc (j - (i + 1)) = omega arith in
      rw (z, e) (omega (arith, walk_takes s j (omega arith) p t)))
      (eq-or-lt_of_le h)

  -- the active voxels of a stretch of j, and of the k after it
  pub actives_split : (j k i : ℕ) → actives b (j + k) i ≡ actives b j i + actives b k (i + j)
  unfolding actives
  actives_split zero k i = rw (zero-add k, add-zero i) (sym (zero-add (actives b k i)))
  actives_split (suc j) k i =
      let e : suc j + k ≡ suc (j + k) = omega arith in
      let f : i + suc j ≡ i + 1 + j = omega arith in
      rw (e, f) (go (b.active i) (actives_split j k (i + 1)))
    where
      go : (x : Bool) → actives b (j + k) (i + 1) ≡ actives b j (i + 1) + actives b k (i + 1 + j)
          → cond x (suc (actives b (j + k) (i + 1))) (actives b (j + k) (i + 1))
          ≡ cond x (suc (actives b j (i + 1))) (actives b j (i + 1)) + actives b k (i + 1 + j)
      go true h = omega arith
      go false h = h

  -- and the rays that the definition fires for them
  pub costs_split : (j k i : ℕ) → costs b (j + k) i ≡ costs b j i + costs b k (i + j)
  unfolding costs
  costs_split zero k i = rw (zero-add k, add-zero i) (sym (zero-add (costs b k i)))
  costs_split (suc j) k i =
      let e : suc j + k ≡ suc (j + k) = omega arith in
      let f : i + suc j ≡ i + 1 + j = omega arith in
      rw (e, f) (go (b.active i) (costs_split j k (i + 1)))
    where
      go : (x : Bool) → costs b (j + k) (i + 1) ≡ costs b j (i + 1) + costs b k (i + 1 + j)
          → cond x (b.cost i + costs b (j + k) (i + 1)) (costs b (j + k) (i + 1))
          ≡ cond x (b.cost i + costs b j (i + 1)) (costs b j (i + 1)) + costs b k (i + 1 + j)
      go true h = omega arith
      go false h = h

  -- where a walk ends and what it fired is the progress that its call answers
  blurred_progress : (p : Progress) (v s : List A) → (blurred b p v s).progress ≡ p
  blurred_progress p v s = go (any_active b.active b.count)
    where
      go : (u : Bool) → (cond u (stage p (b.mean v) v) (stage p v s)).progress ≡ p
      go true = refl
      go false = refl

  pub ended_progress : (p : Progress) (v s : List A) → (ended b p v s).progress ≡ p
  ended_progress p v s = go (eqb p.next b.count)
    where
      go : (t : Bool) → (cond t (blurred b p v s) (stage p v s)).progress ≡ p
      go true = blurred_progress p v s
      go false = refl

  -- the unbroken bake ends with the count, and the rays that the definition fires
  pub unbroken_progress : (x : List A) → (unbroken b x).progress ≡ progress_of b.count (costs b b.count 0)
  unfolding unbroken
  unbroken_progress x = blurred_progress (progress_of b.count (costs b b.count 0)) (unblurred b) x

  -- what a call reports is added to the rays so far
  pub call_adds : (a : ℕ) (s : Stage A) → (call b a s).stage.progress.rays ≡ s.progress.rays + (call b a s).rays
  unfolding call
  call_adds a s = go (eqb (b.refusal s a) 0) refl (eqb s.progress.next b.count) refl
    where
      go : (t : Bool) → eqb (b.refusal s a) 0 ≡ t → (u : Bool) → eqb s.progress.next b.count ≡ u
          → (call b a s).stage.progress.rays ≡ s.progress.rays + (call b a s).rays
      go false p u q = rw p (omega arith)
      go true p true q = rw (p, q) (omega arith)
      go true p false q = rw (p, q) (ap (λ (p : Progress). p.rays) (ended_progress (reached_by b a s) (walk_of b a s).volume s.scratch))

  module _ (high : (i : ℕ) → b.cost i ≤ b.most) where
    -- it fires no more than it may
    pub walk_rays : {k i l : ℕ} {v : List A} {w : Walked A} → Walks k i l v w → w.rays ≤ l
    walk_rays none = omega arith
    walk_rays (skip e s) = walk_rays s
    walk_rays (stop e f) = omega arith
    walk_rays (taken {i = i} e f s) = omega (arith, walk_rays s, high i)

    one_more_lem : (l c : ℕ) → 0 < b.most → c ≤ b.most → b.most ≤ l → l / b.most ≤ suc ((l - c) / b.most)
    one_more_lem l c p h f =
        go (l / b.most) refl
      where
        go : (q : ℕ) → l / b.most ≡ q → q ≤ suc ((l - c) / b.most)
        go zero e = omega arith
        go (suc q) e =
            let g : suc q * b.most ≤ l = (le-div_iff_mul-le p).0 (omega (arith, e)) in
            let k : q ≤ (l - c) / b.most = (le-div_iff_mul-le p).1 (omega (arith, rw suc-mul at g)) in
            omega arith

    -- it goes to the end, or stops at an active voxel past as many of them as l holds whole times what a voxel may cost
    pub walk_passed : {k i l : ℕ} {v : List A} {w : Walked A} → Walks k i l v w → (n : ℕ) → n ≡ i + k → 0 < b.most
        → (w.next ≡ n) ⊎ ((0 < actives b (n - w.next) w.next) × (actives b (n - w.next) w.next + l / b.most ≤ actives b k i))
    unfolding actives
    walk_passed none n h p = inl (omega arith)
    walk_passed (skip e s) n h p = rw e (walk_passed s n (omega arith) p)
    walk_passed (stop {k} {i} {l} e f) n h p =
        let z : n - i ≡ suc k = omega arith in
        let d : l / b.most ≡ 0 = div-eq_of_lt f in
        inr (rw (z, e, d) (omega arith, omega arith))
    walk_passed (taken {k} {i} {l} e f s) n h p =
        ⊎_elim (λ z. inl z) (λ g. inr (rw e (g.0, omega (arith, g.1, one_more_lem l (b.cost i) p (high i) f)))) (walk_passed s n (omega arith) p)

    module _ (low : (i : ℕ) → primary_rays ≤ b.cost i) where
      -- 64 at least for each active voxel, and what a voxel may cost at most
      pub costs_least : (k i : ℕ) → actives b k i * primary_rays ≤ costs b k i
      unfolding actives costs
      costs_least zero i = omega arith
      costs_least (suc k) i = go (b.active i) refl (costs_least k (i + 1))
        where
          go : (x : Bool) → b.active i ≡ x → actives b k (i + 1) * primary_rays ≤ costs b k (i + 1)
              → actives b (suc k) i * primary_rays ≤ costs b (suc k) i
          go true e h = rw e (omega (arith, low i))
          go false e h = rw e h

      pub costs_most : (k i : ℕ) → costs b k i ≤ actives b k i * b.most
      unfolding actives costs
      costs_most zero i = omega arith
      costs_most (suc k) i = go (b.active i) refl (costs_most k (i + 1))
        where
          go : (x : Bool) → b.active i ≡ x → costs b k (i + 1) ≤ actives b k (i + 1) * b.most
              → costs b (suc k) i ≤ actives b (suc k) i * b.most
          go true e h = rw (e, suc-mul) (omega (arith, high i))
          go false e h = rw e h

  -- some voxel is active exactly when there are active ones
  pub actives_some : (k i : ℕ) → any b.active k i ≡ true → 0 < actives b k i
  unfolding actives any
  actives_some zero i e = absurd (false≢true e)
  actives_some (suc k) i e = go (b.active i) refl (λ h. actives_some k (i + 1) h) e
    where
      go : (x : Bool) → b.active i ≡ x → (any b.active k (i + 1) ≡ true → 0 < actives b k (i + 1))
          → any b.active (suc k) i ≡ true → 0 < actives b (suc k) i
      go true f r g = rw f (omega arith)
      go false f r g = rw f (r (rw f at g))

  pub actives_none : (k i : ℕ) → any b.active k i ≡ false → actives b k i ≡ 0
  unfolding actives any
  actives_none zero i e = refl
  actives_none (suc k) i e = go (b.active i) refl (λ h. actives_none k (i + 1) h) e
    where
      go : (x : Bool) → b.active i ≡ x → (any b.active k (i + 1) ≡ false → actives b k (i + 1) ≡ 0)
          → any b.active (suc k) i ≡ false → actives b (suc k) i ≡ 0
      go true f r g = absurd (false≢true (sym (rw f at g)))
      go false f r g = rw f (r (rw f at g))

-- ---- the walk, a voxel at a time: w is a walk that has fired r rays of a and stands at voxel i of n with the volume v
module _ {A : Type 0} (b : Bake A) {w : Walked A} (i r a n : ℕ) (v : List A) (e : w ≡ more r (walk b (n - i) i (a - r) v)) where
  pub so_far_stop : i < n → b.active i ≡ true → a - r < b.most → w ≡ walked i r v
  unfolding walk
  so_far_stop h t f = e ∙ rw (ahead i n h, t, lt-leb b.most (a - r) f, add-zero r) refl

  pub so_far_end : n ≤ i → w ≡ walked i r v
  unfolding walk
  so_far_end h = let z : n - i ≡ 0 = omega arith in e ∙ rw (z, add-zero r) refl

  pub so_far_skip : i < n → b.active i ≡ false → w ≡ more r (walk b (n - (i + 1)) (i + 1) (a - r) v)
  unfolding walk
  so_far_skip h t = e ∙ rw (ahead i n h, t) refl

  pub so_far_take : i < n → b.active i ≡ true → b.most ≤ a - r
      → w ≡ more (r + b.cost i) (walk b (n - (i + 1)) (i + 1) (a - (r + b.cost i)) (replaced b.size i (b.gathered i) v))
  unfolding walk
  so_far_take h t f = e ∙ rw (ahead i n h, t, le-leb b.most (a - r) f, sub-add-eq a r (b.cost i), add_assoc) refl
