-- The numbers of voxels laid one after another in one list; one voxel's numbers read and replaced; and that both go by place.
use Rattle.std.specs.Prelude.{◌≡◌}
use Rattle.std.proofs.Math.Path.{refl, sym, ap, ap₂}
use Rattle.std.proofs.Common.{◌∙◌, zero-add, suc-mul, zero-mul, length-drop, take_at, drop_at}
use mathlib.Core.List.{List, [], ◌++◌, append_assoc, append-nil}
use Prim.Native.Nat.{ℕ, zero, suc, ◌+◌, ◌-◌, ◌*◌, ◌≤◌, ◌<◌}
use native.Mathlib.Omega.{arith}
use Rattle.std.proofs.Math.Nat.{add-zero}
use Rattle.std.proofs.Math.ListN.{length, take, drop, length-append, length-take}

module _ {A : Type 0} where
  -- the numbers of k voxels from i on, laid one after another
  unfoldable pub laid : (ℕ → List A) → ℕ → ℕ → List A
  laid f zero i = []
  laid f (suc k) i = f i ++ laid f k (i + 1)

  -- a volume with voxel i's numbers replaced, and voxel i's numbers: size of them from place i·size on
  unfoldable pub replaced : ℕ → ℕ → List A → List A → List A
  replaced size i numbers v = take (i * size) v ++ (numbers ++ drop (i * size + size) v)

  abbrev pub voxel_part : ℕ → ℕ → List A → List A
  voxel_part size i v = take size (drop (i * size) v)

  -- ---- laws

  pub laid_same : (f g : ℕ → List A) (k i : ℕ) → ((j : ℕ) → i ≤ j → j < i + k → f j ≡ g j) → laid f k i ≡ laid g k i
  unfolding laid
  laid_same f g zero i e = refl
  laid_same f g (suc k) i e =
      ap₂ (λ (x y : List A). x ++ y) (e i (omega arith) (omega arith)) (laid_same f g k (i + 1) (λ j p q. e j (omega arith) (omega arith)))

  pub laid_split : (f : ℕ → List A) (j k i : ℕ) → laid f (j + k) i ≡ laid f j i ++ laid f k (i + j)
  unfolding laid
  laid_split f zero k i = rw (zero-add k, add-zero i) refl
  laid_split f (suc j) k i =
      let e : suc j + k ≡ suc (j + k) = omega arith in
      let g : i + suc j ≡ i + 1 + j = omega arith in
      rw (e, g, append_assoc) (ap (λ (l : List A). f i ++ l) (laid_split f j k (i + 1)))

  -- one voxel more
  pub laid_next : (f : ℕ → List A) (i : ℕ) → laid f (i + 1) 0 ≡ laid f i 0 ++ f i
  unfolding laid
  laid_next f i =
      let z : 0 + i ≡ i = omega arith in
      laid_split f i 1 0 ∙ rw z (ap (λ (l : List A). laid f i 0 ++ l) (append-nil (f i)))

  module _ (size : ℕ) where
    pub length_laid : (f : ℕ → List A) → ((i : ℕ) → length (f i) ≡ size) → (k i : ℕ) → length (laid f k i) ≡ k * size
    unfolding laid
    length_laid f e zero i = sym (zero-mul size)
    length_laid f e (suc k) i = rw (length-append, suc-mul) (omega (arith, e i, length_laid f e k (i + 1)))

    -- voxel i of n, with those before it and those after it
    laid_at : (f : ℕ → List A) (i n : ℕ) → i < n → laid f n 0 ≡ laid f i 0 ++ (f i ++ laid f (n - (i + 1)) (i + 1))
    unfolding laid
    laid_at f i n h =
        let e : n ≡ i + suc (n - (i + 1)) = omega arith in
        let z : 0 + i ≡ i = omega arith in
        ap (λ (m : ℕ). laid f m 0) e ∙ laid_split f i (suc (n - (i + 1))) 0 ∙ rw z refl

    pub part_of_laid : (f : ℕ → List A) → ((i : ℕ) → length (f i) ≡ size) → (i n : ℕ) → i < n → voxel_part size i (laid f n 0) ≡ f i
    part_of_laid f e i n h =
        rw (laid_at f i n h, drop_at (laid f i 0) (f i ++ laid f (n - (i + 1)) (i + 1)) (i * size) (length_laid f e i 0))
        (take_at (f i) (laid f (n - (i + 1)) (i + 1)) size (e i))

    pub replaced_laid : (f g : ℕ → List A) → ((i : ℕ) → length (f i) ≡ size) → (i n : ℕ) → i < n
        → ((j : ℕ) → (j ≡ i → ⊥) → f j ≡ g j) → replaced size i (g i) (laid f n 0) ≡ laid g n 0
    unfolding replaced
    replaced_laid f g e i n h same =
        let rest = laid f (n - (i + 1)) (i + 1) in
        let front : length (laid f i 0) ≡ i * size = length_laid f e i 0 in
        let whole : length (laid f i 0 ++ f i) ≡ i * size + size = rw length-append (omega (arith, front, e i)) in
        let t : take (i * size) (laid f n 0) ≡ laid f i 0
        = rw (laid_at f i n h) (take_at (laid f i 0) (f i ++ rest) (i * size) front) in
        let d : drop (i * size + size) (laid f n 0) ≡ rest
        = rw (laid_at f i n h, ← append_assoc) (drop_at (laid f i 0 ++ f i) rest (i * size + size) whole) in
        rw (t, d)
        (ap₂ (λ (x y : List A). x ++ (g i ++ y))
        (laid_same f g i 0 (λ j p q. same j (λ z. omega arith)))
        (laid_same f g (n - (i + 1)) (i + 1) (λ j p q. same j (λ z. omega arith)))
        ∙ sym (laid_at g i n h))

    pub length_replaced : (i : ℕ) (x v : List A) → length x ≡ size → i * size + size ≤ length v → length (replaced size i x v) ≡ length v
    unfolding replaced
    length_replaced i x v e h = simp (length-append, length-take, length-drop) (omega arith)
