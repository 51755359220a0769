-- What the places mean: a clamped cell is the cell itself within the axis and the last past its end; a coordinate's cell is its floor; the cells read lie
-- in the grid.
use Rattle.std.specs.Prelude.{◌≡◌, ℕ, zero, suc, ◌+◌, ◌-◌, ◌*◌, ◌/◌, ◌^◌, ◌<◌, ◌≤◌, min, Bool, true, false, ◌&&◌, ◌||◌, ℤ, pos, ◌==◌, ◌≢◌, nat_lt, refl, Float}
use Rattle.std.proofs.Common.{sym, ap, ◌∙◌, not-le_of_lt, zero-mul, mul-one, mul_right_comm, mul-pos, le-div_iff_mul-le, div-lt_iff_lt-mul, le_of_mul-le-mul_right, lt_of_mul-lt-mul_right, lt_of_lt_of_le, arith, le→leb, pow_mono, lt-ltb, le-ltb, ltb-true, ltb-false, eqb-true}
use Rattle.std.proofs.Math.Bool.{or-false, and-eq-true_iff}
use Rattle.std.proofs.lemmas.Bool.{false≢true}
use Rattle.std.proofs.Math.Nat.{le-min}
use Rattle.std.specs.Float.Ieee as Ieee
use Rattle.std.specs.Float.{nan, inf, fin, binary32}
use Rattle.std.specs.Float.Ieee.{up, down, lt, le, eq, round, in_float, to_unsigned}
use Rattle.std.specs.Float.Ieee.Exact.{HasValue}
use Rattle.std.specs.Float.Ieee.Back.{round_whole, unsigned_back}
use Rattle.std.specs.Float.Ieee.Fits.{down_pos}
use Rattle.names.specs.Bits.{zero32}
use Rattle.names.specs.Numbers.{axis_limit}
use Rattle.floats.specs.Whole.{step, toward, floor_of}
use Rattle.floats.specs.WholeLaws.Steps.{step_whole}
use Rattle.vectors.specs.declared.Vec3.{Vec3}
use Rattle.grid.specs.declared.Axes.{Axes}
use Rattle.grid.specs.declared.Corners.{Corners}
use Rattle.grid.specs.Grid.{voxels, float_of, AxesWithin}
use Rattle.lists.specs.Fold.{place}
use Rattle.grid.specs.GridLaws.{index_within_lem}
use Rattle.lists.specs.Some.{some}
use Rattle.lookup.specs.declared.Between.{Between}
use Rattle.lookup.specs.declared.Cells.{Cells}
use Rattle.lookup.specs.Place.{clamped, clamped_cell, between_of, Along, Inside, cells_from, cells_of, cells_read, blended_of, Readable}

-- ---- along one axis

pub clamped_same : (n k : ℕ) → k < n → clamped n k ≡ k
unfolding clamped
clamped_same n k h = rw (lt-ltb k n h)

pub clamped_last : (n k : ℕ) → n ≤ k → clamped n k ≡ n - 1
unfolding clamped
clamped_last n k h = rw (le-ltb k n h)

pub clamped_within : (n k : ℕ) → 1 ≤ n → clamped n k < n
clamped_within n k h = go (nat_lt k n) refl
  where
    go : (b : Bool) → nat_lt k n ≡ b → clamped n k < n
    go true e = let p = ltb-true k n e in rw (clamped_same n k p) p
    go false e = rw (clamped_last n k (ltb-false k n e)) (omega arith)

pub clamped_least : (n k : ℕ) → 1 ≤ n → min k (n - 1) ≡ clamped n k
clamped_least n k h = go (nat_lt k n) refl
  where
    go : (b : Bool) → nat_lt k n ≡ b → min k (n - 1) ≡ clamped n k
    go true e = let p = ltb-true k n e in omega (arith, clamped_same n k p)
    go false e = let p = ltb-false k n e in omega (arith, clamped_last n k p)

-- a place lies within its axis
pub cell_within : (n : ℕ) (f : Float) → 1 ≤ n → (between_of n f).cell < n
unfolding between_of clamped_cell
cell_within n f h = clamped_within n (to_unsigned 64 (floor_of f)) h

pub next_within : (n : ℕ) (f : Float) → 1 ≤ n → (between_of n f).next < n
unfolding between_of
next_within n f h = clamped_within n (clamped_cell n (floor_of f) + 1) h

-- ---- the eight cells

pub cells_inside : (a : Axes) (x y z : Between) → Along a x y z → Inside (voxels a) (cells_from a x y z)
unfolding cells_from
cells_inside a x y z h =
    record {
      c000 = index_within_lem a x.cell y.cell z.cell h.x h.y h.z;
      c100 = index_within_lem a x.next y.cell z.cell h.x' h.y h.z;
      c010 = index_within_lem a x.cell y.next z.cell h.x h.y' h.z;
      c110 = index_within_lem a x.next y.next z.cell h.x' h.y' h.z;
      c001 = index_within_lem a x.cell y.cell z.next h.x h.y h.z';
      c101 = index_within_lem a x.next y.cell z.next h.x' h.y h.z';
      c011 = index_within_lem a x.cell y.next z.next h.x h.y' h.z';
      c111 = index_within_lem a x.next y.next z.next h.x' h.y' h.z';
    }

-- the cells read lie in the grid, whatever the position
pub cells_read_inside : (a : Axes) (c : Corners) (p : Vec3) → AxesWithin a → Inside (voxels a) (cells_of a c p)
unfolding cells_of
cells_read_inside a c p w =
    cells_inside a _ _ _
    (record {
      x = cell_within a.width _ w.width;
      x' = next_within a.width _ w.width;
      y = cell_within a.height _ w.height;
      y' = next_within a.height _ w.height;
      z = cell_within a.depth _ w.depth;
      z' = next_within a.depth _ w.depth;
    })

-- n cells of stride numbers each hold every number of the eight cells
pub readable : (n stride k len : ℕ) (c : Cells) → Inside n c → k < stride → n * stride ≤ len → Readable stride k len c
readable n stride k len c h p q =
    record {
      c000 = omega (arith, place h.c000 p);
      c100 = omega (arith, place h.c100 p);
      c010 = omega (arith, place h.c010 p);
      c110 = omega (arith, place h.c110 p);
      c001 = omega (arith, place h.c001 p);
      c101 = omega (arith, place h.c101 p);
      c011 = omega (arith, place h.c011 p);
      c111 = omega (arith, place h.c111 p);
    }

-- a test of some cell read is one of the eight tests
pub some_read : (f : ℕ → Bool) (c : Cells)
    → some f (cells_read c) ≡ f c.c000 || (f c.c100 || (f c.c010 || (f c.c110 || (f c.c001 || (f c.c101 || (f c.c011 || f c.c111))))))
unfolding some
some_read f c = rw (or-false (f c.c111))

-- ---- the blend

-- of what is the same everywhere, the same
pub blended_same : (c : Cells) (f g : ℕ → Float) → ((i : ℕ) → f i ≡ g i) → blended_of c f ≡ blended_of c g
unfolding blended_of
blended_same c f g e =
    rw (e c.c000, e c.c100, e c.c010, e c.c110, e c.c001, e c.c101, e c.c011, e c.c111)

-- ---- past the ends of an axis

-- a floor below 0 is cell 0
pub cell_below : (n : ℕ) (g : Float) → 1 ≤ n → lt g zero32 ≡ true → clamped_cell n g ≡ 0
unfolding clamped_cell to_unsigned lt Ieee.of_bits
cell_below n nan h e = absurd (false≢true e)
cell_below n (inf true) h e = clamped_same n 0 h
cell_below n (inf false) h e = absurd (false≢true e)
cell_below n (fin true m d) h e = clamped_same n 0 h
cell_below n (fin false m d) h e =
    let p : m * up d * down (pos 0) < 0 * up (pos 0) * down d = ltb-true _ _ e in absurd (omega (arith, p, zero-mul (down d)))

-- a number that is at least n holds at least n whole ones
at_most : (a b : ℕ) (c : Bool) → (nat_lt a b || a == b && c) ≡ true → a ≤ b
at_most a b c e = go (nat_lt a b) refl e
  where
    go : (t : Bool) → nat_lt a b ≡ t → (t || a == b && c) ≡ true → a ≤ b
    go true p q = let r = ltb-true a b p in omega arith
    go false p q = let r = eqb-true a b ((and-eq-true_iff (a == b) c).0 q).0 in omega arith

whole_most : (n : ℕ) → 1 ≤ n → n ≤ axis_limit → (x y : Float) → HasValue x false n 1 → le x y ≡ true → n ≤ to_unsigned 64 y
unfolding le lt eq to_unsigned
whole_most n h k nan y v q = absurd v
whole_most n h k (inf s) y v q = absurd v
whole_most n h k (fin true m e) y v q = absurd (false≢true (sym v.0))
whole_most n h k (fin false m e) nan v q = absurd (false≢true q)
whole_most n h k (fin false m e) (inf true) v q = absurd (false≢true q)
whole_most n h k (fin false m e) (inf false) v q = omega arith
whole_most n h k (fin false m e) (fin true l d) v q =
    let z : m * up e * down d ≡ 0 = eqb-true _ 0 ((and-eq-true_iff (m * up e * down d == l * up d * down e) _).0 q).1 in
    let s : m * up e ≡ n * down e = sym (mul-one (m * up e)) ∙ v.1 in
    let t : 0 < n * down e * down d = mul-pos (mul-pos h (down_pos e)) (down_pos d) in
    absurd (not-le_of_lt t (omega (arith, ap (λ (w : ℕ). w * down d) s, z)))
whole_most n h k (fin false m e) (fin false l d) v q =
    let r : m * up e * down d ≤ l * up d * down e = at_most _ _ _ q in
    let s : m * up e ≡ n * down e = sym (mul-one (m * up e)) ∙ v.1 in
    let t : n * down d * down e ≤ l * up d * down e = rw (mul_right_comm n (down d) (down e), ← s) r in
    le-min ((le-div_iff_mul-le (down_pos d)).1 (le_of_mul-le-mul_right t (down_pos e))) (omega arith)

-- a floor at the axis' end or past it is the last cell
pub cell_past : (n : ℕ) (g : Float) → 1 ≤ n → n ≤ axis_limit → le (float_of n) g ≡ true → clamped_cell n g ≡ n - 1
unfolding clamped_cell Ieee.of_int
cell_past n g h k e = clamped_last n _ (whole_most n h k (float_of n) g (round_whole binary32 false n (omega arith)) e)

-- ---- within an axis

-- the floor of a number from k up and below k + 1, m·up / down, is k
floor_is : (k m : ℕ) (e : ℤ) → k * down e ≤ m * up e → m * up e < (k + 1) * down e → floor_of (fin false m e) ≡ float_of k
unfolding toward step Ieee.of_int
floor_is k m e h l =
    let a : k ≤ m * up e / down e = (le-div_iff_mul-le (down_pos e)).1 h in
    let b : m * up e / down e < k + 1 = (div-lt_iff_lt-mul (down_pos e)).1 l in
    let q : m * up e / down e ≡ k = omega arith in
    ap (λ (c : ℕ). round binary32 false c 1) q

cell_of_whole : (n k : ℕ) → k < n → n ≤ axis_limit → clamped_cell n (float_of k) ≡ k
unfolding clamped_cell in_float
cell_of_whole n k h w =
    ap (clamped n) (unsigned_back binary32 64 k (le→leb k 16777216 (omega arith)) (lt_of_lt_of_le {m = 2 ^ 16} (omega arith) (pow_mono {i = 16} {j = 64} (omega arith)))).1
    ∙ clamped_same n k h

clamped_next : (n k : ℕ) → k < n → clamped n (k + 1) ≡ min (k + 1) (n - 1)
clamped_next n k h = go (nat_lt (k + 1) n) refl
  where
    go : (b : Bool) → nat_lt (k + 1) n ≡ b → clamped n (k + 1) ≡ min (k + 1) (n - 1)
    go true e = let p = ltb-true (k + 1) n e in clamped_same n (k + 1) p ∙ (omega arith)
    go false e = let p = ltb-false (k + 1) n e in clamped_last n (k + 1) p ∙ (omega arith)

-- k ≤ f < k + 1 ≤ n, where f is m·up / down: the cell is k, the next is the one above it or the last, and the fraction is f less k
pub floor_between : (n k m : ℕ) (e : ℤ) → k + 1 ≤ n → n ≤ axis_limit → k * down e ≤ m * up e → m * up e < (k + 1) * down e
    → between_of n (fin false m e) ≡ record { cell = k; next = min (k + 1) (n - 1); fraction = Ieee.sub binary32 (fin false m e) (float_of k) }
unfolding between_of
floor_between n k m e c w h l = rw (floor_is k m e h l, cell_of_whole n k (omega arith) w, clamped_next n k (omega arith))

-- the same by comparison of floats

least_whole : (k l : ℕ) (d : ℤ) (x : Float) → HasValue x false k 1 → le x (fin false l d) ≡ true → k * down d ≤ l * up d
unfolding le lt eq
least_whole k l d nan v q = absurd v
least_whole k l d (inf s) v q = absurd v
least_whole k l d (fin true m e) v q = absurd (false≢true (sym v.0))
least_whole k l d (fin false m e) v q =
    let r : m * up e * down d ≤ l * up d * down e = at_most _ _ _ q in
    let s : m * up e ≡ k * down e = sym (mul-one (m * up e)) ∙ v.1 in
    let t : k * down d * down e ≤ l * up d * down e = rw (mul_right_comm k (down d) (down e), ← s) r in
    le_of_mul-le-mul_right t (down_pos e)

most_whole : (k l : ℕ) (d : ℤ) (x : Float) → HasValue x false k 1 → lt (fin false l d) x ≡ true → l * up d < k * down d
unfolding lt
most_whole k l d nan v q = absurd v
most_whole k l d (inf s) v q = absurd v
most_whole k l d (fin true m e) v q = absurd (false≢true (sym v.0))
most_whole k l d (fin false m e) v q =
    let r : l * up d * down e < m * up e * down d = ltb-true _ _ q in
    let s : m * up e ≡ k * down e = sym (mul-one (m * up e)) ∙ v.1 in
    let t : l * up d * down e < k * down d * down e = rw (mul_right_comm k (down d) (down e), ← s) r in
    lt_of_mul-lt-mul_right (down e) t

-- a whole number that is at most one with a minus is 0, and so is that one
no_product : (a c : ℕ) → 0 < c → a * c ≡ 0 → a ≡ 0
no_product zero c h e = refl
no_product (suc a) c h e = absurd (not-le_of_lt (mul-pos {m = suc a} {n = c} (omega arith) h) (omega (arith, e)))

none_whole : (k l : ℕ) (d : ℤ) (x : Float) → HasValue x false k 1 → le x (fin true l d) ≡ true → (k ≡ 0) × (l * up d ≡ 0)
unfolding le lt eq
none_whole k l d nan v q = absurd v
none_whole k l d (inf s) v q = absurd v
none_whole k l d (fin true m e) v q = absurd (false≢true (sym v.0))
none_whole k l d (fin false m e) v q =
    let z : m * up e * down d ≡ 0 = eqb-true _ 0 ((and-eq-true_iff (m * up e * down d == l * up d * down e) _).0 q).1 in
    let y : m * up e * down d ≡ l * up d * down e = eqb-true _ _ ((and-eq-true_iff (m * up e * down d == l * up d * down e) _).0 q).0 in
    let s : m * up e ≡ k * down e = sym (mul-one (m * up e)) ∙ v.1 in
    (no_product k (down e) (down_pos e) (sym s ∙ no_product (m * up e) (down d) (down_pos d) z), no_product (l * up d) (down e) (down_pos e) (sym y ∙ z))

-- −0 lies in cell 0
minus_whole : (x : Float) (a : ℕ) → HasValue x true a 1 → to_unsigned 64 x ≡ 0
unfolding to_unsigned
minus_whole nan a v = absurd v
minus_whole (inf s) a v = absurd v
minus_whole (fin true m e) a v = refl
minus_whole (fin false m e) a v = absurd (false≢true v.0)

minus_zero_cell : (n m : ℕ) (e : ℤ) → 1 ≤ n → m * up e ≡ 0 → clamped_cell n (floor_of (fin true m e)) ≡ 0
unfolding clamped_cell toward
minus_zero_cell n m e h z =
    let s : step true (m * up e) (down e) ≡ 0 = ap (λ (a : ℕ). step true a (down e)) (z ∙ sym (zero-mul (down e))) ∙ step_whole true 0 (down e) (down_pos e) in
    ap (λ (a : ℕ). clamped n (to_unsigned 64 (round binary32 true a 1))) s
    ∙ ap (clamped n) (minus_whole (round binary32 true 0 1) 0 (round_whole binary32 true 0 (omega arith)))
    ∙ clamped_same n 0 h

-- neither NaN nor an infinity lies between two whole numbers
none_below : (y : Float) → lt nan y ≢ true
unfolding lt
none_below y l = false≢true l

least_of_all : (a : ℕ) (x : Float) → HasValue x false a 1 → le x (inf true) ≢ true
unfolding le lt eq
least_of_all a nan v h = v
least_of_all a (inf s) v h = v
least_of_all a (fin s m e) v h = false≢true h

most_of_all : (a : ℕ) (y : Float) → HasValue y false a 1 → lt (inf false) y ≢ true
unfolding lt
most_of_all a nan v h = v
most_of_all a (inf s) v h = v
most_of_all a (fin s m e) v h = false≢true h

whole_value : (a : ℕ) → a ≤ 16777216 → HasValue (float_of a) false a 1
unfolding Ieee.of_int
whole_value a h = round_whole binary32 false a h

coordinate_cell : (n k : ℕ) (f : Float) → k + 1 ≤ n → n ≤ axis_limit → le (float_of k) f ≡ true → lt f (float_of (k + 1)) ≡ true → clamped_cell n (floor_of f) ≡ k
coordinate_cell n k f c w h l =
    go f (float_of k) (float_of (k + 1)) (whole_value k (omega arith)) (whole_value (k + 1) (omega arith)) h l
  where
    go : (f x y : Float) → HasValue x false k 1 → HasValue y false (k + 1) 1 → le x f ≡ true → lt f y ≡ true → clamped_cell n (floor_of f) ≡ k
    go nan x y v u h l = absurd (none_below y l)
    go (inf true) x y v u h l = absurd (least_of_all k x v h)
    go (inf false) x y v u h l = absurd (most_of_all (k + 1) y u l)
    go (fin true m e) x y v u h l = let z = none_whole k m e x v h in minus_zero_cell n m e (omega arith) z.1 ∙ sym z.0
    go (fin false m e) x y v u h l =
        ap (clamped_cell n) (floor_is k m e (least_whole k m e x v h) (most_whole (k + 1) m e y u l)) ∙ cell_of_whole n k (omega arith) w

-- k ≤ f < k + 1 ≤ n, of floats, −0 too: the cell is k, and the next is the one above it or the last
pub coordinate_between : (n k : ℕ) (f : Float) → k + 1 ≤ n → n ≤ axis_limit → le (float_of k) f ≡ true → lt f (float_of (k + 1)) ≡ true
    → ((between_of n f).cell ≡ k) × ((between_of n f).next ≡ min (k + 1) (n - 1))
unfolding between_of
coordinate_between n k f c w h l =
    let e = coordinate_cell n k f c w h l in
    (e, ap (λ (j : ℕ). clamped n (j + 1)) e ∙ clamped_next n k (omega arith))

-- k < f < k + 1 ≤ n, of floats: the cell is k, the next is the one above it or the last, and the fraction is f less k

none_above_minus : (a m : ℕ) (e : ℤ) (x : Float) → HasValue x false a 1 → lt x (fin true m e) ≢ true
unfolding lt
none_above_minus a m e nan v h = v
none_above_minus a m e (inf s) v h = v
none_above_minus a m e (fin true l d) v h = false≢true (sym v.0)
none_above_minus a m e (fin false l d) v h = false≢true h

less_most : (x y : Float) → lt x y ≡ true → le x y ≡ true
unfolding le
less_most x y h = rw h refl

floor_inside : (k : ℕ) (f x y : Float) → HasValue x false k 1 → HasValue y false (k + 1) 1 → k < 16777216 → lt x f ≡ true → lt f y ≡ true → floor_of f ≡ float_of k
floor_inside k nan x y v u w h l = absurd (none_below y l)
floor_inside k (inf true) x y v u w h l = absurd (least_of_all k x v (less_most x (inf true) h))
floor_inside k (inf false) x y v u w h l = absurd (most_of_all (k + 1) y u l)
floor_inside k (fin true m e) x y v u w h l = absurd (none_above_minus k m e x v h)
floor_inside k (fin false m e) x y v u w h l = floor_is k m e (least_whole k m e x v (less_most x (fin false m e) h)) (most_whole (k + 1) m e y u l)

pub strictly_between : (n k : ℕ) (f : Float) → k < n → n ≤ axis_limit → lt (float_of k) f ≡ true → lt f (float_of (k + 1)) ≡ true
    → between_of n f ≡ record { cell = k; next = clamped n (k + 1); fraction = Ieee.sub binary32 f (float_of k) }
unfolding between_of
strictly_between n k f c w h l =
    rw (floor_inside k f (float_of k) (float_of (k + 1)) (whole_value k (omega arith)) (whole_value (k + 1) (omega arith)) (omega arith) h l, cell_of_whole n k c w)
