-- What the lookups' definitions mean: k is refused exactly when row k holds and none before it; what stands where nothing is refused;
-- a part is empty exactly when its companion's number is not zero.
use Rattle.std.specs.Prelude.{◌≡◌, ℕ, ◌+◌, ◌*◌, ◌^◌, ◌<◌, ◌≤◌, Bool, true, false, ◌||◌, ◌↔◌, List, [], ◌∷◌, length, get_or, ◌≢◌, slice_index_or, refl, Float}
use Rattle.std.proofs.Common.{sym, ap, ap₂, ◌∙◌, arith, eqb-true, leb-false, length-take, length-drop, get_or-take, get_or-drop}
use mathlib.Core.List.{Memᴰ}
use Rattle.std.proofs.lemmas.Bool.{not-false}
use Rattle.std.specs.Float.{nan}
use Rattle.names.specs.Numbers.{light_limit}
use Rattle.lists.specs.Fold.{tab_same}
use Rattle.lists.specs.Some.{some}
use Rattle.lists.specs.Laid.{voxel_part}
use Rattle.limits.specs.Limits.{outside, bad_coefficients}
use Rattle.lookup.specs.declared.Cells.{Cells}
use Rattle.lookup.specs.declared.LightAt.{LightAt}
use Rattle.lookup.specs.declared.CoefficientsAt.{CoefficientsAt}
use Rattle.lookup.specs.Place.{cells_of, cells_read, blended_of}
use Rattle.names.specs.Refusals.{Numbered, RefusedBy, refused_by, kept, given}
use Rattle.names.specs.Passed.{passed}
use Rattle.vectors.specs.declared.Vec3.{Vec3}
use Rattle.grid.specs.declared.Axes.{Axes}
use Rattle.grid.specs.declared.Corners.{Corners}
use Rattle.grid.specs.Grid.{voxels, AxesWithin}
use Rattle.grid.specs.GridLaws.{voxels_most}
use Rattle.limits.specs.LimitsLaws.{axes_row, either}
use Rattle.lookup.specs.Lookup.{bad_light_cells, light_rows, light_at_of, bad_volume_cells, coefficient_rows, number_blend, coefficient_blend, coefficients_at_of, part_rows, part_refusal, part_of, LightLookedUp, CoefficientsLookedUp, PartJudged}

-- ---- the refusals

pub light_refused_by : (a : Axes) (c : Corners) (light : List Float) (p : Vec3) (r : LightAt)
    → LightLookedUp a c light p r → RefusedBy (light_rows a c light p) r.refusal
unfolding light_at_of
light_refused_by a c light p r h =
    refused_by (light_rows a c light p) r.refusal (omega arith, (omega arith, (omega arith, (omega arith, (omega arith, tt))))) (ap (λ (x : LightAt). x.refusal) h.answer)

pub coefficients_refused_by : (a : Axes) (c : Corners) (volume : List Float) (p : Vec3) (r : CoefficientsAt)
    → CoefficientsLookedUp a c volume p r → RefusedBy (coefficient_rows a c volume p) r.refusal
unfolding coefficients_at_of
coefficients_refused_by a c volume p r h =
    refused_by (coefficient_rows a c volume p) r.refusal (omega arith, (omega arith, (omega arith, (omega arith, (omega arith, tt))))) (ap (λ (x : CoefficientsAt). x.refusal) h.answer)

numbered : (a : Axes) (volume scratch : List Float) (index : ℕ) (unblurred : Bool) → Numbered (part_rows a volume scratch index unblurred)
numbered a volume scratch index unblurred = (omega arith, (omega arith, (omega arith, tt)))

pub part_refused_by : (a : Axes) (volume scratch : List Float) (index : ℕ) (unblurred : Bool) (r : ℕ)
    → PartJudged a volume scratch index unblurred r → RefusedBy (part_rows a volume scratch index unblurred) r
part_refused_by a volume scratch index unblurred r h = refused_by (part_rows a volume scratch index unblurred) r (numbered a volume scratch index unblurred) h.answer

-- ---- no number but those of the eight cells changes an answer

-- what stands at place k of the sixteen
in_sixteen : (l m : List Float) (i k : ℕ) → k < 16 → voxel_part 16 i l ≡ voxel_part 16 i m → slice_index_or l (i * 16 + k) nan ≡ slice_index_or m (i * 16 + k) nan
in_sixteen l m i k h e = sym (at l) ∙ ap (λ (t : List Float). get_or t k nan) e ∙ at m
  where
    at : (t : List Float) → slice_index_or (voxel_part 16 i t) k nan ≡ slice_index_or t (i * 16 + k) nan
    at t = rw (get_or-take, get_or-drop)

some_same : (f g : ℕ → Bool) (l : List ℕ) → ((i : ℕ) → Memᴰ i l → f i ≡ g i) → some f l ≡ some g l
unfolding some
some_same f g [] e = refl
some_same f g (x ∷ l) e =
    ap₂ (λ (a b : Bool). a || b) (e x (mathlib.Core.List.Memᴰ.head refl)) (some_same f g l (λ i h. e i (mathlib.Core.List.Memᴰ.tail h)))

blend_same : (c : Cells) (f g : ℕ → Float) → ((i : ℕ) → Memᴰ i (cells_read c) → f i ≡ g i) → blended_of c f ≡ blended_of c g
unfolding blended_of
blend_same c f g e =
    let h0 : Memᴰ c.c000 (cells_read c) = mathlib.Core.List.Memᴰ.head refl in
    let h1 : Memᴰ c.c100 (cells_read c) = mathlib.Core.List.Memᴰ.tail (mathlib.Core.List.Memᴰ.head refl) in
    let h2 : Memᴰ c.c010 (cells_read c) = mathlib.Core.List.Memᴰ.tail (mathlib.Core.List.Memᴰ.tail (mathlib.Core.List.Memᴰ.head refl)) in
    let h3 : Memᴰ c.c110 (cells_read c) = mathlib.Core.List.Memᴰ.tail (mathlib.Core.List.Memᴰ.tail (mathlib.Core.List.Memᴰ.tail (mathlib.Core.List.Memᴰ.head refl))) in
    let h4 : Memᴰ c.c001 (cells_read c) = mathlib.Core.List.Memᴰ.tail (mathlib.Core.List.Memᴰ.tail (mathlib.Core.List.Memᴰ.tail (mathlib.Core.List.Memᴰ.tail (mathlib.Core.List.Memᴰ.head refl)))) in
    let h5 : Memᴰ c.c101 (cells_read c) = mathlib.Core.List.Memᴰ.tail (mathlib.Core.List.Memᴰ.tail (mathlib.Core.List.Memᴰ.tail (mathlib.Core.List.Memᴰ.tail (mathlib.Core.List.Memᴰ.tail (mathlib.Core.List.Memᴰ.head refl))))) in
    let h6 : Memᴰ c.c011 (cells_read c) = mathlib.Core.List.Memᴰ.tail (mathlib.Core.List.Memᴰ.tail (mathlib.Core.List.Memᴰ.tail (mathlib.Core.List.Memᴰ.tail (mathlib.Core.List.Memᴰ.tail (mathlib.Core.List.Memᴰ.tail (mathlib.Core.List.Memᴰ.head refl)))))) in
    let h7 : Memᴰ c.c111 (cells_read c) = mathlib.Core.List.Memᴰ.tail (mathlib.Core.List.Memᴰ.tail (mathlib.Core.List.Memᴰ.tail (mathlib.Core.List.Memᴰ.tail (mathlib.Core.List.Memᴰ.tail (mathlib.Core.List.Memᴰ.tail (mathlib.Core.List.Memᴰ.tail (mathlib.Core.List.Memᴰ.head refl))))))) in
    rw (e c.c000 h0, e c.c100 h1, e c.c010 h2, e c.c110 h3, e c.c001 h4, e c.c101 h5, e c.c011 h6, e c.c111 h7)

bad_same : (c : Cells) (l m : List Float) → ((i : ℕ) → Memᴰ i (cells_read c) → slice_index_or l i nan ≡ slice_index_or m i nan) → bad_light_cells l c ≡ bad_light_cells m c
unfolding bad_light_cells
bad_same c l m e = some_same _ _ (cells_read c) (λ i h. ap (outside light_limit) (e i h))

pub light_reads_only : (a : Axes) (c : Corners) (l m : List Float) (p : Vec3) → length l ≡ length m
    → ((i : ℕ) → Memᴰ i (cells_read (cells_of a c p)) → slice_index_or l i nan ≡ slice_index_or m i nan)
    → light_at_of a c l p ≡ light_at_of a c m p
unfolding light_at_of
light_reads_only a c l m p e r =
    rw (e, bad_same (cells_of a c p) l m r, blend_same (cells_of a c p) (λ (i : ℕ). get_or l i nan) (λ (i : ℕ). get_or m i nan) r)

bad_volume_same : (c : Cells) (l m : List Float) → ((i : ℕ) → Memᴰ i (cells_read c) → voxel_part 16 i l ≡ voxel_part 16 i m) → bad_volume_cells l c ≡ bad_volume_cells m c
unfolding bad_volume_cells
bad_volume_same c l m e = some_same _ _ (cells_read c) (λ i h. ap bad_coefficients (e i h))

numbers_same : (c : Cells) (l m : List Float) → ((i : ℕ) → Memᴰ i (cells_read c) → voxel_part 16 i l ≡ voxel_part 16 i m) → coefficient_blend l c ≡ coefficient_blend m c
unfolding coefficient_blend
numbers_same c l m e =
    tab_same (number_blend l c) (number_blend m c) 16 0
    (λ k p q. blend_same c (λ (i : ℕ). get_or l (i * 16 + k) nan) (λ (i : ℕ). get_or m (i * 16 + k) nan) (λ i h. in_sixteen l m i k (omega arith) (e i h)))

pub coefficients_read_only : (a : Axes) (c : Corners) (l m : List Float) (p : Vec3) → length l ≡ length m
    → ((i : ℕ) → Memᴰ i (cells_read (cells_of a c p)) → voxel_part 16 i l ≡ voxel_part 16 i m)
    → coefficients_at_of a c l p ≡ coefficients_at_of a c m p
unfolding coefficients_at_of
coefficients_read_only a c l m p e r =
    rw (e, bad_volume_same (cells_of a c p) l m r, numbers_same (cells_of a c p) l m r)

-- ---- one voxel's part

-- the choice of list changes no refusal
pub part_either : (a : Axes) (v s : List Float) (i : ℕ) (b d : Bool) → part_refusal a v s i b ≡ part_refusal a v s i d
part_either a v s i b d = refl

-- what holds where nothing is refused
pub record Granted (a : Axes) (v s : List Float) (i : ℕ) : Type 0 where
  pub axes : AxesWithin a
  pub volume : length v ≡ voxels a * 16
  pub scratch : length s ≡ voxels a * 16
  pub within : i < voxels a

pub granted : (a : Axes) (v s : List Float) (i : ℕ) (b : Bool) → part_refusal a v s i b ≡ 0 → Granted a v s i
granted a v s i b e =
    let p = passed (part_rows a v s i b) (numbered a v s i b) e in
    let q = (either _ _).0 p.1.0 in
    record {
      axes = (axes_row a).0 p.0;
      volume = eqb-true _ _ (not-false _ q.0);
      scratch = eqb-true _ _ (not-false _ q.1);
      within = leb-false _ _ p.1.1.0;
    }

-- sixteen numbers, all within either list
pub granted_end : (a : Axes) (v s : List Float) (i : ℕ) → Granted a v s i → (i * 16 + 16 ≤ length v) × (i * 16 + 16 ≤ length s) × (i * 16 + 16 < 2 ^ 63)
granted_end a v s i h = let k = voxels_most a h.axes in (omega arith, omega arith, omega arith)

long : (l : List Float) (i : ℕ) → i * 16 + 16 ≤ length l → length (voxel_part 16 i l) ≡ 16
long l i h = simp (length-take, length-drop) (omega arith)

pub part_long : (a : Axes) (v s : List Float) (i : ℕ) (b : Bool) → part_refusal a v s i b ≡ 0 → length (part_of a v s i b) ≡ 16
unfolding part_of
part_long a v s i true e =
    let g = granted_end a v s i (granted a v s i true e) in rw (← given (part_refusal a v s i true) (voxel_part 16 i s) [] e) (long s i g.1)
part_long a v s i false e =
    let g = granted_end a v s i (granted a v s i false e) in rw (← given (part_refusal a v s i false) (voxel_part 16 i v) [] e) (long v i g.0)

-- the part is empty exactly when the companion's number is not zero
pub part_empty : (a : Axes) (v s : List Float) (i : ℕ) (b : Bool) → (part_of a v s i b ≡ []) ↔ (part_refusal a v s i b ≢ 0)
unfolding part_of
part_empty a v s i b = (
  λ e z. let n = part_long a v s i b z in let m : length (part_of a v s i b) ≡ 0 = ap length e in omega arith,
  λ n. sym (kept (part_refusal a v s i b) _ [] n),
)
