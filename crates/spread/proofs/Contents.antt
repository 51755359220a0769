-- What the volume holds as a walk goes: below the next voxel what was gathered, and ambient from there on.
use Rattle.std.specs.Prelude.{◌≡◌, refl, Bool, true, false, ◌&&◌, List, ℕ, ◌+◌, ◌<◌, ltb, length}
use Rattle.std.proofs.Common.{sym, ap, ◌∙◌, arith, ltb-true, ltb-false, lt-ltb, le-ltb}
use Rattle.std.proofs.Math.Bool.{cond}
use Rattle.std.proofs.Math.Decide.{ℕ_discrete}
use Rattle.lists.specs.Laid.{replaced, laid_same, replaced_laid}
use Rattle.spread.specs.Spread.{Bake, Walked, filled, unblurred, standing, stands}
use Rattle.spread.specs.Demand.{Sized}
use Rattle.spread.proofs.Walks.{Walks, none, skip, stop, taken}

module _ {A : Type 0} (b : Bake A) (sized : Sized b) where
  pub length_standing : (p i : ℕ) → length (standing b p i) ≡ b.size
  length_standing p i = go (ltb i p && b.active i)
    where
      go : (x : Bool) → length (cond x (b.gathered i) (b.ambient i)) ≡ b.size
      go true = sized.gathered i
      go false = sized.ambient i

  standing_other : (p j : ℕ) → (j ≡ p → ⊥) → standing b p j ≡ standing b (p + 1) j
  standing_other p j n = go (ltb j p) refl
    where
      go : (t : Bool) → ltb j p ≡ t → standing b p j ≡ standing b (p + 1) j
      go true e = rw (e, lt-ltb j (p + 1) (omega (arith, ltb-true j p e))) refl
      go false e = rw (e, le-ltb j (p + 1) (omega (arith, n, ltb-false j p e))) refl

  standing_before : (p : ℕ) → standing b p p ≡ b.ambient p
  standing_before p = rw (le-ltb p p (omega arith)) refl

  standing_after : (p : ℕ) (t : Bool) → b.active p ≡ t → standing b (p + 1) p ≡ cond t (b.gathered p) (b.ambient p)
  standing_after p t e = rw (lt-ltb p (p + 1) (omega arith), e) refl

  stands_skip : (p : ℕ) → b.active p ≡ false → stands b p ≡ stands b (p + 1)
  stands_skip p e = laid_same (standing b p) (standing b (p + 1)) b.count 0 (λ j l h. go j (ℕ_discrete j p))
    where
      go : (j : ℕ) → Dec (j ≡ p) → standing b p j ≡ standing b (p + 1) j
      go j (yes z) = rw z (standing_before p ∙ sym (standing_after p false e))
      go j (no n) = standing_other p j n

  stands_take : (p : ℕ) → p < b.count → b.active p ≡ true → replaced b.size p (b.gathered p) (stands b p) ≡ stands b (p + 1)
  stands_take p h e =
      ap (λ (x : List A). replaced b.size p x (stands b p)) (sym (standing_after p true e))
      ∙ replaced_laid b.size (standing b p) (standing b (p + 1)) (length_standing p) p b.count h (λ j n. standing_other p j n)

  -- a walk from a volume that stands at its start leaves one that stands at its end
  pub walk_stands : {k i l : ℕ} {v : List A} {w : Walked A} → Walks b k i l v w → i + k ≡ b.count → v ≡ stands b i → w.volume ≡ stands b w.next
  walk_stands none h e = e
  walk_stands (skip {i = i} a s) h e = walk_stands s (omega arith) (e ∙ stands_skip i a)
  walk_stands (stop a f) h e = e
  walk_stands (taken {i = i} a f s) h e =
      walk_stands s (omega arith) (ap (λ (x : List A). replaced b.size i (b.gathered i) x) e ∙ stands_take i (omega arith) a)

  -- at 0 it is what the fill leaves, and at the count what the unbroken bake has before the mean
  pub stands_filled : filled b ≡ stands b 0
  unfolding filled
  stands_filled = laid_same b.ambient (standing b 0) b.count 0 (λ j p q. rw (le-ltb j 0 (omega arith)) refl)

  pub stands_unblurred : stands b b.count ≡ unblurred b
  unfolding unblurred
  stands_unblurred =
      laid_same (standing b b.count) (λ i. cond (b.active i) (b.gathered i) (b.ambient i)) b.count 0
      (λ j p q. rw (lt-ltb j b.count (omega arith)) refl)
