-- What active means, in both directions: an occupied voxel of the grid lies within 2 on every axis. And the mask has an entry, 0 or 1, for each voxel.
use Rattle.std.specs.Prelude.{◌≡◌, Bool, true, false, cond, ◌&&◌, ◌⊎◌, List, ℕ, ◌+◌, ◌≤◌, ◌<◌, eqb, get_or, length}
use Rattle.std.proofs.Math.Path.{refl}
use Rattle.std.proofs.Math.Bool.{and-eq-true_iff}
use Rattle.std.proofs.Common.{inl, inr, arith, leb-true, le-leb}
use Rattle.std.proofs.Math.Nat.{zero-add}
use Rattle.lists.specs.Fold.{length_tab, get_or_tab}
use Rattle.lists.specs.Any.{any_in, any_out}
use Rattle.grid.specs.declared.Axes.{Axes}
use Rattle.grid.specs.Grid.{voxels, index_of, x_of, y_of, z_of}
use Rattle.marks.specs.Marks.{is_marked}
use Rattle.dilate.specs.Active.{within_reach, active_in, active_entry, active_of}

-- An occupied voxel (i, j, k) of the grid that lies within 2 of (x, y, z) on every axis
pub record NearOccupied (axes : Axes) (occupied : List ℕ) (x y z : ℕ) : Type 0 where
  pub i : ℕ
  pub in_x : (i < axes.width) × (i ≤ x + 2) × (x ≤ i + 2)
  pub j : ℕ
  pub in_y : (j < axes.height) × (j ≤ y + 2) × (y ≤ j + 2)
  pub k : ℕ
  pub in_z : (k < axes.depth) × (k ≤ z + 2) × (z ≤ k + 2)
  pub occupied_there : is_marked occupied (index_of axes i j k) ≡ true

both : {a b : Bool} → a && b ≡ true → (a ≡ true) × (b ≡ true)
both {a} {b} e = (and-eq-true_iff a b).0 e

and_both : {a b : Bool} → a ≡ true → b ≡ true → a && b ≡ true
and_both {a} {b} p q = (and-eq-true_iff a b).1 (p, q)

within_out : (a b : ℕ) → within_reach a b ≡ true → (a ≤ b + 2) × (b ≤ a + 2)
within_out a b e = let p = both e in (leb-true _ _ p.0, leb-true _ _ p.1)

within_in : (a b : ℕ) → a ≤ b + 2 → b ≤ a + 2 → within_reach a b ≡ true
within_in a b p q = and_both (le-leb _ _ p) (le-leb _ _ q)

-- a test that also asks for the reach on one axis
pub near_out : {b : Bool} (i x : ℕ) → b && within_reach i x ≡ true → (b ≡ true) × (i ≤ x + 2) × (x ≤ i + 2)
near_out i x e = let p = both e in let w = within_out i x p.1 in (p.0, w.0, w.1)

pub near_in : {b : Bool} (i x : ℕ) → b ≡ true → i ≤ x + 2 → x ≤ i + 2 → b && within_reach i x ≡ true
near_in i x e p q = and_both e (within_in i x p q)

module _ (axes : Axes) (occupied : List ℕ) where
  -- a voxel that passes the definition's test
  found : (x y z i j k : ℕ) → i < axes.width → j < axes.height → k < axes.depth
      → is_marked occupied (index_of axes i j k) && (within_reach i x && (within_reach j y && within_reach k z)) ≡ true → NearOccupied axes occupied x y z
  found x y z i j k li lj lk e =
      let p : (is_marked occupied (index_of axes i j k) ≡ true) × (within_reach i x && (within_reach j y && within_reach k z) ≡ true) = both e in
      let q : (within_reach i x ≡ true) × (within_reach j y && within_reach k z ≡ true) = both p.1 in
      let r : (within_reach j y ≡ true) × (within_reach k z ≡ true) = both q.1 in
      record {
        i = i;
        in_x = omega (arith, within_out i x q.0);
        j = j;
        in_y = omega (arith, within_out j y r.0);
        k = k;
        in_z = omega (arith, within_out k z r.1);
        occupied_there = p.0;
      }

  pub active_near : (x y z : ℕ) → active_in axes occupied x y z ≡ true → NearOccupied axes occupied x y z
  unfolding active_in
  active_near x y z e =
      let c = any_out _ _ _ e in
      let b = any_out _ _ _ c.3 in
      let a = any_out _ _ _ b.3 in
      found x y z a.0 b.0 c.0 (omega (arith, a.2)) (omega (arith, b.2)) (omega (arith, c.2)) a.3

  pub near_active : (x y z : ℕ) → NearOccupied axes occupied x y z → active_in axes occupied x y z ≡ true
  unfolding active_in
  near_active x y z o =
      any_in _ _ _ o.k (omega arith) (omega (arith, o.in_z))
      (any_in _ _ _ o.j (omega arith) (omega (arith, o.in_y))
      (any_in _ _ _ o.i (omega arith) (omega (arith, o.in_x))
      (and_both o.occupied_there
      (and_both (within_in _ _ o.in_x.1 o.in_x.2)
      (and_both (within_in _ _ o.in_y.1 o.in_y.2) (within_in _ _ o.in_z.1 o.in_z.2))))))

  -- the mask: an entry for each voxel, 1 where it is active and else 0
  pub active_length_lem : length (active_of axes occupied) ≡ voxels axes
  unfolding active_of
  active_length_lem = length_tab _ (voxels axes) 0

  pub active_value : (i : ℕ) → i < voxels axes → get_or (active_of axes occupied) i 0 ≡ cond (active_in axes occupied (x_of axes i) (y_of axes i) (z_of axes i)) 1 0
  unfolding active_of active_entry
  active_value i h = rw (get_or_tab (active_entry axes occupied) (voxels axes) 0 i 0 h, zero-add i) refl

  pub active_at_lem : (i : ℕ) → i < voxels axes → is_marked (active_of axes occupied) i ≡ active_in axes occupied (x_of axes i) (y_of axes i) (z_of axes i)
  active_at_lem i h = rw (active_value i h) (bit (active_in axes occupied (x_of axes i) (y_of axes i) (z_of axes i)))
    where
      bit : (b : Bool) → eqb (cond {A = ℕ} b 1 0) 1 ≡ b
      bit true = refl
      bit false = refl

  pub active_entry_lem : (i : ℕ) → i < voxels axes → (get_or (active_of axes occupied) i 0 ≡ 0) ⊎ (get_or (active_of axes occupied) i 0 ≡ 1)
  active_entry_lem i h = rw (active_value i h) (bits (active_in axes occupied (x_of axes i) (y_of axes i) (z_of axes i)))
    where
      bits : (b : Bool) → (cond {A = ℕ} b 1 0 ≡ 0) ⊎ (cond {A = ℕ} b 1 0 ≡ 1)
      bits true = inr refl
      bits false = inl refl
