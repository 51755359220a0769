-- The laws of voxels laid one after another (crate lists), where no more is known than that each of the first n has its numbers; and a list of n voxels
-- is its voxels laid.
use Rattle.std.specs.Prelude.{◌≡◌, Bool, true, false, cond, ltb}
use Rattle.std.proofs.Math.Path.{refl, sym, ap}
use Rattle.std.proofs.Common.{ap₂, ◌∙◌, suc-mul, one-mul, zero-mul, mul-le-mul_right, length-take, length-drop, drop_of_length-le, drop-drop, ltb-true, lt-ltb}
use mathlib.Core.List.{List, ◌++◌}
use Prim.Native.Nat.{ℕ, zero, suc, ◌+◌, ◌*◌, ◌≤◌, ◌<◌}
use native.Mathlib.Omega.{arith}
use Rattle.std.proofs.Math.Nat.{add-mul}
use Rattle.std.proofs.Math.ListN.{length, drop, take-append-drop}
use Rattle.lists.specs.Laid.{laid, replaced, voxel_part, laid_same, length_laid, part_of_laid, replaced_laid}

module _ {A : Type 0} (size n : ℕ) where
  -- past the first n any list stands in
  abbrev clamped : (ℕ → List A) → List A → ℕ → List A
  clamped f past j = cond (ltb j n) (f j) past

  clamped_below : (f : ℕ → List A) (past : List A) (j : ℕ) → j < n → clamped f past j ≡ f j
  clamped_below f past j h = rw (lt-ltb j n h) refl

  module _ (f : ℕ → List A) (long : (j : ℕ) → j < n → length (f j) ≡ size) where
    clamped_long : (past : List A) → length past ≡ size → (j : ℕ) → length (clamped f past j) ≡ size
    clamped_long past e j = go (ltb j n) refl
      where
        go : (t : Bool) → ltb j n ≡ t → length (cond t (f j) past) ≡ size
        go true p = long j (ltb-true j n p)
        go false p = e

    laid_clamped : (past : List A) → laid f n 0 ≡ laid (clamped f past) n 0
    laid_clamped past = laid_same f (clamped f past) n 0 (λ j p q. sym (clamped_below f past j (omega arith)))

    pub part_below : (i : ℕ) → i < n → voxel_part size i (laid f n 0) ≡ f i
    part_below i h =
        ap (voxel_part size i) (laid_clamped (f i))
        ∙ part_of_laid size (clamped f (f i)) (clamped_long (f i) (long i h)) i n h
        ∙ clamped_below f (f i) i h

    pub replaced_below : (g : ℕ → List A) (i : ℕ) → i < n → ((j : ℕ) → (j ≡ i → ⊥) → f j ≡ g j) → replaced size i (g i) (laid f n 0) ≡ laid g n 0
    replaced_below g i h same =
        ap₂ (λ (x y : List A). replaced size i x y) (sym (clamped_below g (f i) i h)) (laid_clamped (f i))
        ∙ replaced_laid size (clamped f (f i)) (clamped g (f i)) (clamped_long (f i) (long i h)) i n h
        (λ j ne. ap (λ (x : List A). cond (ltb j n) x (f i)) (same j ne))
        ∙ laid_same (clamped g (f i)) g n 0 (λ j p q. clamped_below g (f i) j (omega arith))

    pub length_below : length (laid f n 0) ≡ n * size
    unfolding laid
    length_below = go n refl
      where
        go : (k : ℕ) → n ≡ k → length (laid f k 0) ≡ k * size
        go zero e = omega arith
        go (suc k) e =
            let h : 0 < n = omega arith in
            ap (λ (k : ℕ). length (laid f k 0)) (sym e) ∙ ap length (laid_clamped (f 0))
            ∙ length_laid size (clamped f (f 0)) (clamped_long (f 0) (long 0 h)) n 0 ∙ ap (λ (k : ℕ). k * size) e

  module _ (l : List A) (e : length l ≡ n * size) where
    -- a list of n voxels has each of them
    pub voxel_long : (i : ℕ) → i < n → length (voxel_part size i l) ≡ size
    voxel_long i h = simp (length-take, length-drop) (omega (arith, suc-mul i size, mul-le-mul_right size h))

    parts_from : (k i : ℕ) → i + k ≡ n → laid (λ j. voxel_part size j l) k i ≡ drop (i * size) l
    unfolding laid
    parts_from zero i h =
        let s : length l ≤ i * size = let z : i ≡ n = omega arith in rw z (omega arith) in
        sym (drop_of_length-le l s)
    parts_from (suc k) i h =
        let s : (i + 1) * size ≡ i * size + size = add-mul i 1 size ∙ ap (λ (m : ℕ). i * size + m) (one-mul size) in
        ap (λ (m : List A). voxel_part size i l ++ m) (parts_from k (i + 1) (omega arith) ∙ ap (λ (m : ℕ). drop m l) s ∙ sym (drop-drop size (i * size) l))
        ∙ take-append-drop size (drop (i * size) l)

    -- and is those voxels laid
    pub laid_parts : laid (λ j. voxel_part size j l) n 0 ≡ l
    laid_parts = parts_from n 0 (omega arith) ∙ ap (λ (m : ℕ). drop m l) (zero-mul size)
