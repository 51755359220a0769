-- A file of kinds 1 to 5 that is accepted is what the writer writes of what it holds: part by part the bytes are those that stand
-- there already.
use Rattle.std.specs.Prelude.{◌≡◌, refl, true, false, List, ◌∷◌, ◌++◌, ℕ, zero, suc, ◌+◌, ◌-◌, ◌*◌, ◌<◌, ◌≤◌, eqb, length, get_or, take, drop, Float}
use Rattle.std.proofs.Common.{sym, ap, ◌∙◌, zero-add, arith, eqb-true, take-add, drop-drop, take_all}
use Rattle.std.proofs.Math.Bool.{and-eq-true_iff}
use Rattle.std.specs.Float.Ieee as Ieee
use Rattle.std.specs.Float.Ieee.Scale.{finite}
use Rattle.std.specs.Float.{nan}
use Rattle.std.specs.Float.Ieee.{is_nan}
use Rattle.floats.specs.FiniteLaws.{finite_number}
use Rattle.names.specs.Numbers.{point_limit}
use Rattle.lists.specs.Fold.{tab, length_tab, get_or_tab}
use Rattle.bytes_le.specs.Bytes.{u16_at, u32_at, f32_at, floats_at, bytes_at, bytes2, bytes4, encode, NoneNan}
use Rattle.bytes_le.specs.BytesLaws.{half_bytes, word_bytes}
use Rattle.bytes_le.specs.RoundTrip.{AllBytes, one_cons, floats_kept}
use Rattle.limits.specs.Limits.{within}
use Rattle.limits.specs.LimitsLaws.{limit_finite, grid_row, vector_row}
use Rattle.contents.specs.Contents.{mark, marked, axes_at, entries_at, offset_at, contents_from, head_of, entry_of, bodies_from}
use Rattle.contents.specs.Laid.{Laid}
use Rattle.volume_file.specs.VolumeFile.{voxels_at, light_at, volume_at, active_at, occupied_at, corners_at}
use Rattle.volume_file.specs.VolumeFileLaws.{Accepted, accepted_laid}
use Rattle.volume_write.specs.FileBytes.{contents_of, corners_list, file_bytes}
use Rattle.volume.specs.VolumeLaws.{lights_numbers, coefficients_numbers}

-- ---- parts of a list, one after another

join : (s x y : List ℕ) (k a b j : ℕ) → x ≡ bytes_at s k a → y ≡ bytes_at s j b → k + a ≡ j → x ++ y ≡ bytes_at s k (a + b)
join s x y k a b j e f g =
    let d : drop a (drop k s) ≡ drop j s = drop-drop a k s ∙ ap (λ (i : ℕ). drop i s) g in
    rw (e, f, ← d) (sym (take-add a b (drop k s)))

two_at : (s : List ℕ) (k : ℕ) → AllBytes s → k + 2 ≤ length s → bytes2 (u16_at s k) ≡ bytes_at s k 2
two_at s k h l =
    half_bytes (get_or s k 0) (get_or s (k + 1) 0) (h k) (h (k + 1))
    ∙ sym (rw (one_cons s k (k + 1) (omega arith) (omega arith), one_cons s (k + 1) (k + 2) (omega arith) (omega arith)) refl)

four_at : (s : List ℕ) (k : ℕ) → AllBytes s → k + 4 ≤ length s → bytes4 (u32_at s k) ≡ bytes_at s k 4
four_at s k h l =
    word_bytes (get_or s k 0) (get_or s (k + 1) 0) (get_or s (k + 2) 0) (get_or s (k + 3) 0) (h k) (h (k + 1)) (h (k + 2)) (h (k + 3))
    ∙ sym (rw (one_cons s k (k + 1) (omega arith) (omega arith), one_cons s (k + 1) (k + 2) (omega arith) (omega arith), one_cons s (k + 2) (k + 3) (omega arith) (omega arith), one_cons s (k + 3) (k + 4) (omega arith) (omega arith)) refl)

-- ---- the head

mark_at : (s : List ℕ) → 4 ≤ length s → marked s ≡ true → mark ≡ bytes_at s 0 4
unfolding marked
mark_at s l e =
    let p = (and-eq-true_iff _ (eqb (get_or s 3 0) 68)).0 e in
    let q = (and-eq-true_iff _ (eqb (get_or s 2 0) 82)).0 p.0 in
    let r = (and-eq-true_iff (eqb (get_or s 0 0) 86) (eqb (get_or s 1 0) 71)).0 q.0 in
    let m₀ : get_or s 0 0 ≡ 86 = eqb-true (get_or s 0 0) 86 r.0 in
    let m₁ : get_or s 1 0 ≡ 71 = eqb-true (get_or s 1 0) 71 r.1 in
    let m₂ : get_or s 2 0 ≡ 82 = eqb-true (get_or s 2 0) 82 q.1 in
    let m₃ : get_or s 3 0 ≡ 68 = eqb-true (get_or s 3 0) 68 p.1 in
    let d : drop 0 s ≡ 86 ∷ 71 ∷ 82 ∷ 68 ∷ drop 4 s =
    one_cons s 0 1 (omega arith) refl
    ∙ rw (one_cons s 1 2 (omega arith) refl, one_cons s 2 3 (omega arith) refl, one_cons s 3 4 (omega arith) refl, m₀, m₁, m₂, m₃) refl in
    sym (ap (take 4) d)

head_at : (s : List ℕ) → AllBytes s → 12 ≤ length s → marked s ≡ true → entries_at s ≡ 5 → head_of (axes_at s) ≡ bytes_at s 0 12
head_at s h l m e =
    let f : bytes2 5 ≡ bytes_at s 10 2 = rw e at (two_at s 10 h (omega arith)) in
    join s mark _ 0 4 8 4 (mark_at s (omega arith) m)
    (join s (bytes2 (u16_at s 4)) _ 4 2 6 6 (two_at s 4 h (omega arith))
    (join s (bytes2 (u16_at s 6)) _ 6 2 4 8 (two_at s 6 h (omega arith))
    (join s (bytes2 (u16_at s 8)) (bytes2 5) 8 2 2 10 (two_at s 8 h (omega arith)) f refl)
    refl)
    refl)
    refl

-- ---- the contents

entry_at : (s : List ℕ) (at kind offset long : ℕ) → AllBytes s → at + 12 ≤ length s → u32_at s at ≡ kind → u32_at s (at + 4) ≡ offset → u32_at s (at + 8) ≡ long
    → entry_of kind offset long ≡ bytes_at s at 12
entry_at s at kind offset long h l e f g =
    let p : bytes4 kind ≡ bytes_at s at 4 = rw e at (four_at s at h (omega arith)) in
    let q : bytes4 offset ≡ bytes_at s (at + 4) 4 = rw f at (four_at s (at + 4) h (omega arith)) in
    let r : bytes4 long ≡ bytes_at s (at + 8) 4 = rw g at (four_at s (at + 8) h (omega arith)) in
    join s (bytes4 kind) _ at 4 8 (at + 4) p (join s (bytes4 offset) (bytes4 long) (at + 4) 4 4 (at + 8) q r (omega arith)) refl

contents_at : (s : List ℕ) (n : ℕ) → AllBytes s → 72 ≤ length s → entries_at s ≡ 5 → Laid s n → contents_of n ≡ bytes_at s 12 60
unfolding contents_of
contents_at s n h l e d =
    let b : bodies_from (entries_at s) ≡ 72 = rw e refl in
    let o₁ : offset_at s 1 ≡ 72 + n * 4 = d.volume ∙ ap (λ (x : ℕ). x + n * 4) b in
    let o₂ : offset_at s 2 ≡ 72 + n * 68 = d.active ∙ ap (λ (x : ℕ). x + n * 68) b in
    let o₃ : offset_at s 3 ≡ 72 + n * 69 = d.occupied ∙ ap (λ (x : ℕ). x + n * 69) b in
    let o₄ : offset_at s 4 ≡ 72 + n * 70 = d.corners ∙ ap (λ (x : ℕ). x + n * 70) b in
    let e₀ = entry_at s 12 1 72 (n * 4) h (omega arith) d.kind₀ (d.light ∙ b) d.long₀ in
    let e₁ = entry_at s 24 2 (72 + n * 4) (n * 64) h (omega arith) d.kind₁ o₁ d.long₁ in
    let e₂ = entry_at s 36 3 (72 + n * 68) n h (omega arith) d.kind₂ o₂ d.long₂ in
    let e₃ = entry_at s 48 4 (72 + n * 69) n h (omega arith) d.kind₃ o₃ d.long₃ in
    let e₄ = entry_at s 60 5 (72 + n * 70) 24 h (omega arith) d.kind₄ o₄ d.long₄ in
    join s _ (entry_of 5 (72 + n * 70) 24) 12 48 12 60
    (join s _ (entry_of 4 (72 + n * 69) n) 12 36 12 48
    (join s _ (entry_of 3 (72 + n * 68) n) 12 24 12 36
    (join s (entry_of 1 72 (n * 4)) (entry_of 2 (72 + n * 4) (n * 64)) 12 12 12 24 e₀ e₁ refl)
    e₂ refl)
    e₃ refl)
    e₄ refl

-- ---- the bodies

point_finite : finite point_limit ≡ true
unfolding Ieee.of_bits
point_finite = refl

-- a run without NaN
run_numbers : (s : List ℕ) (at n : ℕ) → NoneNan (floats_at s at n) → (i : ℕ) → i < n → is_nan (f32_at s (at + i * 4)) ≡ false
run_numbers s at n w i h =
    let l : i < length (floats_at s at n) = rw (length_tab (λ j. f32_at s (at + j * 4)) n 0) h in
    let e : get_or (floats_at s at n) i nan ≡ f32_at s (at + i * 4) =
    get_or_tab (λ j. f32_at s (at + j * 4)) n 0 i nan h ∙ ap (λ (j : ℕ). f32_at s (at + j * 4)) (zero-add i) in
    rw e at (w i l)

below_six : (P : ℕ → Type 0) → P 0 → P 1 → P 2 → P 3 → P 4 → P 5 → (i : ℕ) → i < 6 → P i
below_six P a b c d e f zero h = a
below_six P a b c d e f (suc zero) h = b
below_six P a b c d e f (suc (suc zero)) h = c
below_six P a b c d e f (suc (suc (suc zero))) h = d
below_six P a b c d e f (suc (suc (suc (suc zero)))) h = e
below_six P a b c d e f (suc (suc (suc (suc (suc zero))))) h = f
below_six P a b c d e f (suc (suc (suc (suc (suc (suc i)))))) h = absurd (omega arith)

point_number : (x : Float) → within point_limit x ≡ true → is_nan x ≡ false
point_number x w = finite_number x (limit_finite point_limit x point_finite w)

corners_list_lem : (s : List ℕ) → floats_at s (offset_at s 4) 6 ≡ corners_list (corners_at s)
unfolding corners_at tab
corners_list_lem s =
    let at : ℕ = offset_at s 4 in
    let y₀ : at + 0 * 4 ≡ at = omega arith in
    let y₄ : at + 12 + 4 ≡ at + 16 = omega arith in
    let y₅ : at + 12 + 8 ≡ at + 20 = omega arith in
    rw (y₀, y₄, y₅) refl

corners_at_lem : (s : List ℕ) → AllBytes s → Accepted s → offset_at s 4 + 24 ≤ length s → encode (corners_list (corners_at s)) ≡ bytes_at s (offset_at s 4) 24
unfolding corners_at
corners_at_lem s h a l =
    let at : ℕ = offset_at s 4 in
    let g = (grid_row (corners_at s) (axes_at s)).0 a.grid in
    let p = (vector_row point_limit (corners_at s).min).0 g.0 in
    let q = (vector_row point_limit (corners_at s).max).0 g.1 in
    let z : at + 0 * 4 ≡ at = omega arith in
    let y₄ : at + 12 + 4 ≡ at + 4 * 4 = omega arith in
    let y₅ : at + 12 + 8 ≡ at + 5 * 4 = omega arith in
    let n₀ : is_nan (f32_at s (at + 0 * 4)) ≡ false = rw z (point_number (f32_at s at) p.0) in
    let n₁ : is_nan (f32_at s (at + 4)) ≡ false = point_number (f32_at s (at + 4)) p.1 in
    let n₂ : is_nan (f32_at s (at + 8)) ≡ false = point_number (f32_at s (at + 8)) p.2 in
    let n₃ : is_nan (f32_at s (at + 12)) ≡ false = point_number (f32_at s (at + 12)) q.0 in
    let n₄ : is_nan (f32_at s (at + 4 * 4)) ≡ false = rw y₄ at (point_number (f32_at s (at + 12 + 4)) q.1) in
    let n₅ : is_nan (f32_at s (at + 5 * 4)) ≡ false = rw y₅ at (point_number (f32_at s (at + 12 + 8)) q.2) in
    rw (← corners_list_lem s) (floats_kept s h 6 at l (below_six (λ i. is_nan (f32_at s (at + i * 4)) ≡ false) n₀ n₁ n₂ n₃ n₄ n₅))

-- what is left after the five entries of a file of five: the file's end
pub file_ended : (s : List ℕ) (n : ℕ) → entries_at s ≡ 5 → Laid s n → length s ≡ 96 + n * 70
unfolding contents_from
file_ended s n e d =
    let z : entries_at s - 5 ≡ 0 = omega arith in
    let f : contents_from s n 0 5 5 (bodies_from (entries_at s) + n * 70 + 24) ≡ true = rw z at d.rest in
    let g : bodies_from (entries_at s) + n * 70 + 24 ≡ length s = eqb-true _ (length s) f in
    omega (arith, g, e)

pub kept_back : (s : List ℕ) → AllBytes s → Accepted s → entries_at s ≡ 5
    → file_bytes (axes_at s) (corners_at s) (light_at s) (volume_at s) (active_at s) (occupied_at s) ≡ s
unfolding file_bytes
kept_back s h a e =
    let n : ℕ = voxels_at s in
    let d : Laid s n = accepted_laid s a in
    let len : length s ≡ 96 + n * 70 = file_ended s n e d in
    let b : bodies_from (entries_at s) ≡ 72 = rw e refl in
    let o₀ : offset_at s 0 ≡ 72 = d.light ∙ b in
    let o₁ : offset_at s 1 ≡ 72 + n * 4 = d.volume ∙ ap (λ (x : ℕ). x + n * 4) b in
    let o₂ : offset_at s 2 ≡ 72 + n * 68 = d.active ∙ ap (λ (x : ℕ). x + n * 68) b in
    let o₃ : offset_at s 3 ≡ 72 + n * 69 = d.occupied ∙ ap (λ (x : ℕ). x + n * 69) b in
    let o₄ : offset_at s 4 ≡ 72 + n * 70 = d.corners ∙ ap (λ (x : ℕ). x + n * 70) b in
    let m : n * 16 * 4 ≡ n * 64 = omega arith in
    let light : encode (light_at s) ≡ bytes_at s 72 (n * 4) =
    floats_kept s h n (offset_at s 0) (omega (arith, o₀, len)) (run_numbers s (offset_at s 0) n (lights_numbers (light_at s) a.lights))
    ∙ ap (λ (x : ℕ). bytes_at s x (n * 4)) o₀ in
    let volume : encode (volume_at s) ≡ bytes_at s (72 + n * 4) (n * 64) =
    floats_kept s h (n * 16) (offset_at s 1) (omega (arith, o₁, len)) (run_numbers s (offset_at s 1) (n * 16) (coefficients_numbers (volume_at s) a.coefficients))
    ∙ rw (o₁, m) refl in
    let active : active_at s ≡ bytes_at s (72 + n * 68) n = rw o₂ refl in
    let occupied : occupied_at s ≡ bytes_at s (72 + n * 69) n = rw o₃ refl in
    let six : encode (corners_list (corners_at s)) ≡ bytes_at s (72 + n * 70) 24 = corners_at_lem s h a (omega (arith, o₄, len)) ∙ ap (λ (x : ℕ). bytes_at s x 24) o₄ in
    let j₂ = join s _ (contents_of n) 0 12 60 12 (head_at s h (omega (arith, len)) a.headed.mark e) (contents_at s n h (omega (arith, len)) e d) refl in
    let j₃ = join s _ (encode (light_at s)) 0 72 (n * 4) 72 j₂ light refl in
    let j₄ = join s _ (encode (volume_at s)) 0 (72 + n * 4) (n * 64) (72 + n * 4) j₃ volume (omega arith) in
    let j₅ = join s _ (active_at s) 0 (72 + n * 4 + n * 64) n (72 + n * 68) j₄ active (omega arith) in
    let j₆ = join s _ (occupied_at s) 0 (72 + n * 4 + n * 64 + n) n (72 + n * 69) j₅ occupied (omega arith) in
    let j₇ = join s _ (encode (corners_list (corners_at s))) 0 (72 + n * 4 + n * 64 + n + n) 24 (72 + n * 70) j₆ six (omega arith) in
    j₇ ∙ take_all (72 + n * 4 + n * 64 + n + n + 24) s (omega (arith, len))
