-- A list that is good as a whole is good in every cell that is read; and a walk over the positions.
use mathlib.Core.Path.{◌≡◌, refl, sym, ap, subst, ◌∙◌}
use mathlib.Core.Bool.{Bool, false}
use mathlib.Core.List.{List}
use Prim.Native.Nat.{ℕ, ◌+◌, ◌-◌, ◌*◌, ◌/◌, ◌<◌, ◌≤◌, min}
use native.Mathlib.Omega.{arith}
use lib.ListN.{length, get_or, drop, length-take, length-drop}
use lib.Seq.{get_or-take, get_or-drop}
use lib.Ieee.{Float, nan}
use Rattle.std.specs.Prelude.{slice_index_or}
use Rattle.names.specs.Numbers.{light_limit, coefficient_limit}
use Rattle.vectors.specs.declared.Vec3.{Vec3}
use Rattle.grid.specs.declared.Axes.{Axes}
use Rattle.grid.specs.declared.Corners.{Corners}
use Rattle.lists.specs.Some.{some, none_out, none_in}
use Rattle.lists.specs.Laid.{voxel_part}
use Rattle.limits.specs.Limits.{outside, bad_lights, bad_coefficients}
use Rattle.limits.specs.LimitsLaws.{axes_row}
use Rattle.lookup.specs.declared.Cells.{Cells}
use Rattle.lookup.specs.Place.{Inside, cells_of, cells_read}
use Rattle.lookup.specs.PlaceLaws.{some_read, cells_read_inside}
use Rattle.lookup.specs.Lookup.{LookedLaws, GridGood}
use Rattle.lookup.specs.LookedLaws.{grid_cells}
use Rattle.frames.specs.declared.FirstRefusal.{FirstRefusal}
use Rattle.frames.specs.Frames.{refused_at, least_refused}
use Rattle.frames.specs.FramesLaws.{least_found, least_next, least_end}
use Rattle.frames.specs.Passes.{NoneBad}

-- ---- a list that is good as a whole

pub lights_clear : (l : List Float) → bad_lights l ≡ false → NoneBad 1 (λ light i. outside light_limit (slice_index_or light i nan)) l
unfolding bad_lights
lights_clear l e i h = none_out (outside light_limit) l nan e i (omega arith)

pub volume_clear : (l : List Float) → bad_coefficients l ≡ false → NoneBad 16 (λ volume i. bad_coefficients (voxel_part 16 i volume)) l
unfolding bad_coefficients
volume_clear l e i h =
    none_in (outside coefficient_limit) (voxel_part 16 i l) nan
    (λ j q.
    let b : j < min 16 (length l - i * 16) = simp (length-take, length-drop) at q in
    let m : j < 16 = omega arith in
    let g : get_or (voxel_part 16 i l) j nan ≡ get_or l (i * 16 + j) nan = rw (get_or-take 16 (drop (i * 16) l) j nan m, get_or-drop (i * 16) l j nan) refl in
    rw g (none_out (outside coefficient_limit) l nan e (i * 16 + j) (omega arith)))

-- a test that fails at every cell fails at those read
none_read : (n : ℕ) (f : ℕ → Bool) (c : Cells) → Inside n c → ((i : ℕ) → i < n → f i ≡ false) → some f (cells_read c) ≡ false
none_read n f c h e =
    some_read f c
    ∙ rw (e _ h.c000, e _ h.c100, e _ h.c010, e _ h.c110, e _ h.c001, e _ h.c101, e _ h.c011, e _ h.c111) refl

pub read_clear : {each : ℕ} {bad : List Float → ℕ → Bool} {refusal : Axes → Corners → List Float → Vec3 → ℕ} → LookedLaws each bad refusal
    → (a : Axes) (c : Corners) (l : List Float) (p : Vec3) → GridGood each a c l → NoneBad each bad l → some (bad l) (cells_read (cells_of a c p)) ≡ false
read_clear {each} {bad} laws a c l p g none =
    none_read (length l / each) (bad l) (cells_of a c p)
    (subst (λ (n : ℕ). Inside n (cells_of a c p)) (grid_cells laws a c l g) (cells_read_inside a c p ((axes_row a).0 g.axes)))
    none

-- ---- a walk from the left, k places of count done, of which none is refused

module _ (number : ℕ → ℕ) (count k r : ℕ) (whole : FirstRefusal) (rest : least_refused number (count - k) k ≡ whole) where
  pub walk_found : k < count → r ≡ number k → (r ≡ 0 → ⊥) → refused_at r k ≡ whole
  walk_found h e n = ap (λ (x : ℕ). refused_at x k) e ∙ sym (least_found number k count h (λ z. n (e ∙ z))) ∙ rest

  pub walk_next : k < count → r ≡ number k → r ≡ 0 → least_refused number (count - (k + 1)) (k + 1) ≡ whole
  walk_next h e z = sym (least_next number k count h (sym e ∙ z)) ∙ rest

  pub walk_end : count ≤ k → refused_at 0 0 ≡ whole
  walk_end h = sym (least_end number k count h) ∙ rest
