-- The smallest edge of a grid that row 2 accepts is one of its three edges, is above none of them, and is at least 1/1024: the Rust's
-- floor of 1e-6 never acts.
use Rattle.std.specs.Prelude.{◌≡◌, refl, Bool, true, false, cond, ◌⊎◌, Float}
use Rattle.std.proofs.Common.{ap, ◌∙◌, inl, inr, ⊎_elim}
use Rattle.std.specs.Float.Ieee.{is_nan, lt, le, of_bits}
use Rattle.names.specs.Numbers.{edge_limit}
use Rattle.floats.specs.Choice.{larger_of, smaller_of}
use Rattle.floats.specs.FiniteLaws.{larger_number, smaller_number, smaller_not_above}
use Rattle.floats.specs.OrderLaws.{le_numbers, not_lt_le, le_transitive, lt_le_transitive}
use Rattle.vectors.specs.declared.Vec3.{Vec3}
use Rattle.grid.specs.declared.Axes.{Axes}
use Rattle.grid.specs.declared.Corners.{Corners}
use Rattle.grid.specs.Grid.{edges_of, edge_floor, smallest_edge_of}
use Rattle.limits.specs.Limits.{bad_grid}
use Rattle.limits.specs.LimitsLaws.{grid_row}

-- s is the smallest of the three numbers of e
pub record SmallestOf (e : Vec3) (s : Float) : Type 0 where
  pub one_of : (s ≡ e.x) ⊎ ((s ≡ e.y) ⊎ (s ≡ e.z))
  pub below_x : le s e.x ≡ true
  pub below_y : le s e.y ≡ true
  pub below_z : le s e.z ≡ true
  pub least : le edge_limit s ≡ true

-- the smaller is one of the two
smaller_one : (x y : Float) → is_nan x ≡ false → is_nan y ≡ false → (smaller_of x y ≡ x) ⊎ (smaller_of x y ≡ y)
smaller_one x y h k = go (lt x y) (smaller_number x y h k)
  where
    go : (b : Bool) → smaller_of x y ≡ cond b x y → (smaller_of x y ≡ x) ⊎ (smaller_of x y ≡ y)
    go true e = inl e
    go false e = inr e

record Lesser (x y s : Float) : Type 0 where
  one : (s ≡ x) ⊎ (s ≡ y)
  left : le s x ≡ true
  right : le s y ≡ true

-- of two numbers, neither of them NaN
lesser : (x y : Float) → is_nan x ≡ false → is_nan y ≡ false → Lesser x y (smaller_of x y)
lesser x y h k =
    let o = smaller_one x y h k in
    let n = smaller_not_above x y h k in
    let i : is_nan (smaller_of x y) ≡ false = ⊎_elim (λ (e : smaller_of x y ≡ x). ap is_nan e ∙ h) (λ (e : smaller_of x y ≡ y). ap is_nan e ∙ k) o in
    record { one = o; left = not_lt_le _ x i h n.0; right = not_lt_le _ y i k n.1 }

-- a bound below both is below the smaller
under : (b x y s : Float) → (s ≡ x) ⊎ (s ≡ y) → le b x ≡ true → le b y ≡ true → le b s ≡ true
under b x y s o h k = ⊎_elim (λ (e : s ≡ x). ap (le b) e ∙ h) (λ (e : s ≡ y). ap (le b) e ∙ k) o

-- 1e-6 lies below 1/1024
floor_below : lt edge_floor edge_limit ≡ true
unfolding lt of_bits
floor_below = refl

floor_number : is_nan edge_floor ≡ false
unfolding is_nan of_bits
floor_number = refl

-- so the larger of it and a number from 1/1024 up is that number
floor_idle : (s : Float) → le edge_limit s ≡ true → larger_of s edge_floor ≡ s
floor_idle s h =
    let n = (le_numbers edge_limit s h).1 in
    larger_number s edge_floor n floor_number ∙ ap (λ (t : Bool). cond t s edge_floor) (lt_le_transitive edge_floor edge_limit s floor_below h)

smallest : (e : Vec3) → le edge_limit e.x ≡ true → le edge_limit e.y ≡ true → le edge_limit e.z ≡ true → SmallestOf e (smallest_edge_of e)
unfolding smallest_edge_of
smallest e hx hy hz =
    let nx = (le_numbers edge_limit e.x hx).1 in
    let ny = (le_numbers edge_limit e.y hy).1 in
    let nz = (le_numbers edge_limit e.z hz).1 in
    let m = smaller_of e.y e.z in
    let q = lesser e.y e.z ny nz in
    let hm = under edge_limit e.y e.z m q.one hy hz in
    let p = lesser e.x m nx (le_numbers edge_limit m hm).1 in
    let hs = under edge_limit e.x m (smaller_of e.x m) p.one hx hm in
    rw (floor_idle (smaller_of e.x m) hs)
    (record {
      one_of = ⊎_elim (λ (i : smaller_of e.x m ≡ e.x). inl i) (λ (i : smaller_of e.x m ≡ m). inr (⊎_elim (λ (j : m ≡ e.y). inl (i ∙ j)) (λ (j : m ≡ e.z). inr (i ∙ j)) q.one)) p.one;
      below_x = p.left;
      below_y = le_transitive _ m e.y p.right q.left;
      below_z = le_transitive _ m e.z p.right q.right;
      least = hs;
    })

pub smallest_edge : (c : Corners) (a : Axes) → bad_grid c a ≡ false → SmallestOf (edges_of c a) (smallest_edge_of (edges_of c a))
smallest_edge c a h = let r = (grid_row c a).0 h in smallest (edges_of c a) r.2 r.3 r.4
