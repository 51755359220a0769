-- Dilating along x, then y, then z gives the active mask: the box round a voxel is the product of what lies within 2 on each axis.
use Rattle.std.specs.Prelude.{◌≡◌, Bool, true, false, cond, ◌&&◌, List, ℕ, ◌+◌, ◌*◌, ◌<◌, eqb, length, get_or}
use Rattle.std.proofs.Math.Path.{refl, ap}
use Rattle.std.proofs.Common.{sym, ◌∙◌, arith, mul_assoc, add-mul, mul-one, zero-add, zero-mul, ext_get_or}
use Rattle.lists.specs.Fold.{length_tab, get_or_tab, place}
use Rattle.lists.specs.Any.{any, any_same, any_in, any_out}
use Rattle.grid.specs.declared.Axes.{Axes}
use Rattle.grid.specs.Grid.{voxels, index_of, x_of, y_of, z_of}
use Rattle.grid.specs.GridLaws.{index_within_lem, x_of_index, y_of_index, z_of_index, index_of_coordinates, x_within, y_within, z_within}
use Rattle.marks.specs.Marks.{is_marked}
use Rattle.words.specs.BitLaws.{alike}
use Rattle.dilate.specs.Active.{within_reach, active_in, active_of}
use Rattle.dilate.specs.ActiveLaws.{NearOccupied, active_near, near_active, active_length_lem, active_value, near_out, near_in}
use Rattle.dilate.specs.ByAxes.{line_has, middle_entry, dilate_middle, middle_x, middle_z, dilate_by_axes}

-- ---- along a middle axis

module _ (view : Axes) where
  pub middle_length : (mask : List ℕ) → length (dilate_middle view mask) ≡ voxels view
  unfolding dilate_middle
  middle_length mask = length_tab (middle_entry view mask) (voxels view) 0

  pub middle_entry_lem : (mask : List ℕ) (r c o : ℕ) → r < view.width → c < view.height → o < view.depth
      → get_or (dilate_middle view mask) (index_of view r c o) 0 ≡ cond (line_has view mask r c o) 1 0
  unfolding dilate_middle
  middle_entry_lem mask r c o hr hc ho =
      get_or_tab (middle_entry view mask) (voxels view) 0 (index_of view r c o) 0 (index_within_lem view r c o hr hc ho)
      ∙ ap (middle_entry view mask) (zero-add (index_of view r c o))
      ∙ rw (x_of_index view r c o hr, y_of_index view r c o hr hc, z_of_index view r c o hr hc) refl

  -- along a line whose places are given in another way
  module _ (mask : List ℕ) (r o : ℕ) (at : ℕ → ℕ) (e : (j : ℕ) → index_of view r j o ≡ at j) (hr : r < view.width) (ho : o < view.depth) where
    pub dilated_on : (c : ℕ) → c < view.height → is_marked (dilate_middle view mask) (at c) ≡ any (λ j. is_marked mask (at j) && within_reach j c) view.height 0
    dilated_on c hc =
        rw (← e c, middle_entry_lem mask r c o hr hc ho) (bit (line_has view mask r c o) ∙ any_same _ _ view.height 0 (λ j p q. rw (e j) refl))
      where
        bit : (b : Bool) → eqb (cond {A = ℕ} b 1 0) 1 ≡ b
        bit true = refl
        bit false = refl

    -- an entry is 0 or 1
    pub dilated_bit : (c : ℕ) → c < view.height → get_or (dilate_middle view mask) (at c) 0 ≡ cond (is_marked (dilate_middle view mask) (at c)) 1 0
    dilated_bit c hc = rw (← e c, middle_entry_lem mask r c o hr hc ho) (bits (line_has view mask r c o))
      where
        bits : (b : Bool) → cond {A = ℕ} b 1 0 ≡ cond (eqb (cond {A = ℕ} b 1 0) 1) 1 0
        bits true = refl
        bits false = refl

-- ---- along x, then y, then z

-- the three grids have the same voxels
pub voxels_x : (axes : Axes) → voxels (middle_x axes) ≡ voxels axes
voxels_x axes = mul-one (axes.depth * axes.height * axes.width)

pub voxels_z : (axes : Axes) → voxels (middle_z axes) ≡ voxels axes
voxels_z axes = omega (arith, mul_assoc axes.depth axes.height axes.width)

module _ (axes : Axes) (occupied : List ℕ) (pw : 0 < axes.width) (ph : 0 < axes.height) where
  abbrev along_x : List ℕ
  along_x = dilate_middle (middle_x axes) occupied

  abbrev along_y : List ℕ
  along_y = dilate_middle axes along_x

  -- the index of a voxel in the three grids
  index_x : (x y z : ℕ) → index_of (middle_x axes) 0 x (z * axes.height + y) ≡ index_of axes x y z
  index_x x y z = omega (arith, mul-one ((z * axes.height + y) * axes.width + x))

  index_z : (x y z : ℕ) → index_of (middle_z axes) (y * axes.width + x) z 0 ≡ index_of axes x y z
  index_z x y z = omega (arith, mul_assoc z axes.height axes.width, add-mul (z * axes.height) y axes.width, zero-mul axes.depth)

  -- what a voxel's mark says after each of the three
  marked_x : (x y z : ℕ) → x < axes.width → y < axes.height → z < axes.depth
      → is_marked along_x (index_of axes x y z) ≡ any (λ i. is_marked occupied (index_of axes i y z) && within_reach i x) axes.width 0
  marked_x x y z hx hy hz =
      dilated_on (middle_x axes) occupied 0 (z * axes.height + y) (λ i. index_of axes i y z) (λ i. index_x i y z) (omega arith) (place hz hy) x hx

  marked_y : (x y z : ℕ) → x < axes.width → y < axes.height → z < axes.depth
      → is_marked along_y (index_of axes x y z) ≡ any (λ j. is_marked along_x (index_of axes x j z) && within_reach j y) axes.height 0
  marked_y x y z hx hy hz = dilated_on axes along_x x z (λ j. index_of axes x j z) (λ j. refl) hx hz y hy

  marked_z : (x y z : ℕ) → x < axes.width → y < axes.height → z < axes.depth
      → is_marked (dilate_by_axes axes occupied) (index_of axes x y z) ≡ any (λ k. is_marked along_y (index_of axes x y k) && within_reach k z) axes.depth 0
  unfolding dilate_by_axes
  marked_z x y z hx hy hz =
      dilated_on (middle_z axes) along_y (y * axes.width + x) 0 (λ k. index_of axes x y k) (λ k. index_z x y k) (place hy hx) (omega arith) z hz

  -- any over the box is any over z of any over y of any over x
  dilated_near : (x y z : ℕ) → x < axes.width → y < axes.height → z < axes.depth
      → is_marked (dilate_by_axes axes occupied) (index_of axes x y z) ≡ true → NearOccupied axes occupied x y z
  dilated_near x y z hx hy hz e =
      let c = any_out _ _ _ (sym (marked_z x y z hx hy hz) ∙ e) in
      let lk : c.0 < axes.depth = omega (arith, c.2) in
      let p = near_out c.0 z c.3 in
      let b = any_out _ _ _ (sym (marked_y x y c.0 hx hy lk) ∙ p.0) in
      let lj : b.0 < axes.height = omega (arith, b.2) in
      let q = near_out b.0 y b.3 in
      let a = any_out _ _ _ (sym (marked_x x b.0 c.0 hx lj lk) ∙ q.0) in
      let li : a.0 < axes.width = omega (arith, a.2) in
      let r = near_out a.0 x a.3 in
      record {
        i = a.0;
        in_x = (li, r.1, r.2);
        j = b.0;
        in_y = (lj, q.1, q.2);
        k = c.0;
        in_z = (lk, p.1, p.2);
        occupied_there = r.0;
      }

  near_dilated : (x y z : ℕ) → x < axes.width → y < axes.height → z < axes.depth
      → NearOccupied axes occupied x y z → is_marked (dilate_by_axes axes occupied) (index_of axes x y z) ≡ true
  near_dilated x y z hx hy hz o =
      let a =
      marked_x x o.j o.k hx o.in_y.0 o.in_z.0
      ∙ any_in _ _ _ o.i (omega arith) (omega (arith, o.in_x)) (near_in _ _ o.occupied_there o.in_x.1 o.in_x.2)
      in
      let b = marked_y x y o.k hx hy o.in_z.0 ∙ any_in _ _ _ o.j (omega arith) (omega (arith, o.in_y)) (near_in _ _ a o.in_y.1 o.in_y.2) in
      marked_z x y z hx hy hz ∙ any_in _ _ _ o.k (omega arith) (omega (arith, o.in_z)) (near_in _ _ b o.in_z.1 o.in_z.2)

  pub dilated_active : (x y z : ℕ) → x < axes.width → y < axes.height → z < axes.depth
      → is_marked (dilate_by_axes axes occupied) (index_of axes x y z) ≡ active_in axes occupied x y z
  dilated_active x y z hx hy hz =
      alike _ _ (λ e. near_active axes occupied x y z (dilated_near x y z hx hy hz e)) (λ e. near_dilated x y z hx hy hz (active_near axes occupied x y z e))

  entry_bit : (x y z : ℕ) → x < axes.width → y < axes.height → z < axes.depth
      → get_or (dilate_by_axes axes occupied) (index_of axes x y z) 0 ≡ cond (is_marked (dilate_by_axes axes occupied) (index_of axes x y z)) 1 0
  unfolding dilate_by_axes
  entry_bit x y z hx hy hz =
      dilated_bit (middle_z axes) along_y (y * axes.width + x) 0 (λ k. index_of axes x y k) (λ k. index_z x y k) (place hy hx) (omega arith) z hz

  dilated_length : length (dilate_by_axes axes occupied) ≡ voxels axes
  unfolding dilate_by_axes
  dilated_length = middle_length (middle_z axes) along_y ∙ voxels_z axes

  pub dilated_mask : dilate_by_axes axes occupied ≡ active_of axes occupied
  dilated_mask =
      ext_get_or 0 _ _ (dilated_length ∙ sym (active_length_lem axes occupied))
      (λ i h.
      let v : i < voxels axes = omega (arith, dilated_length) in
      let hx = x_within axes i pw in
      let hy = y_within axes i ph in
      let hz = z_within axes i pw ph v in
      ap (λ (j : ℕ). get_or (dilate_by_axes axes occupied) j 0) (sym (index_of_coordinates axes i))
      ∙ entry_bit (x_of axes i) (y_of axes i) (z_of axes i) hx hy hz
      ∙ ap (λ (b : Bool). cond {A = ℕ} b 1 0) (dilated_active (x_of axes i) (y_of axes i) (z_of axes i) hx hy hz)
      ∙ sym (active_value axes occupied i v))
