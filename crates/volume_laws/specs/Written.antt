-- What the bytes that the writer writes hold: head, contents and bodies as they were given. So they are accepted, and reading them
-- gives the lists, the axes and the corners back.
use Rattle.std.specs.Prelude.{◌≡◌, refl, true, false, List, [], ◌++◌, ℕ, ◌+◌, ◌-◌, ◌*◌, ◌<◌, ◌≤◌, length, get_or, Float}
use Rattle.std.proofs.Common.{sym, ap, ◌∙◌, append_assoc, append-nil, add-zero, arith, eq-eqb, length-append, take_at, drop_at}
use Rattle.std.specs.Float.{nan}
use Rattle.names.specs.Numbers.{voxel_limit}
use Rattle.lists.specs.Fold.{tab}
use Rattle.grid.specs.declared.Axes.{Axes}
use Rattle.grid.specs.declared.Corners.{Corners}
use Rattle.grid.specs.Grid.{voxels, AxesWithin}
use Rattle.grid.specs.GridLaws.{voxels_most}
use Rattle.bytes_le.specs.Bytes.{u16_at, f32_at, floats_at, bytes_at, encode}
use Rattle.bytes_le.specs.BytesLaws.{half_back, word_back, length_encode}
use Rattle.bytes_le.specs.RoundTrip.{AllFit, floats_back}
use Rattle.limits.specs.Limits.{bad_axes, bad_grid, bad_lights, bad_coefficients, bad_mask}
use Rattle.limits.specs.LimitsLaws.{axes_row}
use Rattle.contents.specs.Contents.{marked, axes_at, entries_at, entry_kind_at, offset_at, length_at, contents_from, contents_good, head_of}
use Rattle.contents.specs.ContentsLaws.{light, coefficients, active, occupied, corners}
use Rattle.contents.proofs.ContentsLaws.{entry_given}
use Rattle.volume_file.specs.VolumeFile.{voxels_at, light_at, volume_at, active_at, occupied_at, corners_at}
use Rattle.volume_file.specs.VolumeFileLaws.{Accepted}
use Rattle.volume_write.specs.FileBytes.{bytes_for, contents_of, corners_list, file_bytes}

-- ---- the first 72 bytes, whatever follows

start : Axes → List ℕ
start a = head_of a ++ contents_of (voxels a)

-- the head and the contents of a file that begins so
record Begun (a : Axes) (s : List ℕ) : Type 0 where
  mark : marked s ≡ true
  entries : entries_at s ≡ 5
  width : u16_at s 4 ≡ a.width
  height : u16_at s 6 ≡ a.height
  depth : u16_at s 8 ≡ a.depth
  kind₀ : entry_kind_at s 0 ≡ 1
  kind₁ : entry_kind_at s 1 ≡ 2
  kind₂ : entry_kind_at s 2 ≡ 3
  kind₃ : entry_kind_at s 3 ≡ 4
  kind₄ : entry_kind_at s 4 ≡ 5
  offset₀ : offset_at s 0 ≡ 72
  offset₁ : offset_at s 1 ≡ 72 + voxels a * 4
  offset₂ : offset_at s 2 ≡ 72 + voxels a * 68
  offset₃ : offset_at s 3 ≡ 72 + voxels a * 69
  offset₄ : offset_at s 4 ≡ 72 + voxels a * 70
  long₀ : length_at s 0 ≡ voxels a * 4
  long₁ : length_at s 1 ≡ voxels a * 64
  long₂ : length_at s 2 ≡ voxels a
  long₃ : length_at s 3 ≡ voxels a
  long₄ : length_at s 4 ≡ 24

begun : (a : Axes) (r : List ℕ) → AxesWithin a → Begun a (start a ++ r)
unfolding start contents_of marked
begun a r w =
    let n : ℕ = voxels a in
    let h : n ≤ voxel_limit = voxels_most a w in
    record {
      mark = refl;
      entries = refl;
      width = half_back a.width (omega (arith, w.widest));
      height = half_back a.height (omega (arith, w.highest));
      depth = half_back a.depth (omega (arith, w.deepest));
      kind₀ = refl;
      kind₁ = refl;
      kind₂ = refl;
      kind₃ = refl;
      kind₄ = refl;
      offset₀ = refl;
      offset₁ = word_back (72 + n * 4) (omega (arith, h));
      offset₂ = word_back (72 + n * 68) (omega (arith, h));
      offset₃ = word_back (72 + n * 69) (omega (arith, h));
      offset₄ = word_back (72 + n * 70) (omega (arith, h));
      long₀ = word_back (n * 4) (omega (arith, h));
      long₁ = word_back (n * 64) (omega (arith, h));
      long₂ = word_back n (omega (arith, h));
      long₃ = word_back n (omega (arith, h));
      long₄ = refl;
    }

start_length : (a : Axes) → length (start a) ≡ 72
unfolding start contents_of
start_length a = refl

begun_axes : (a : Axes) (s : List ℕ) → Begun a s → axes_at s ≡ a
begun_axes a s b = rw (b.width, b.height, b.depth) refl

-- the contents of such a file are good where the file is as long as it should be
begun_contents : (a : Axes) (s : List ℕ) → Begun a s → length s ≡ bytes_for (voxels a) → contents_good s 5 (voxels a) ≡ true
unfolding contents_from
begun_contents a s b l =
    let n : ℕ = voxels a in
    let s₁ : ℕ = 72 + length_at s 0 in
    let s₂ : ℕ = s₁ + length_at s 1 in
    let s₃ : ℕ = s₂ + length_at s 2 in
    let s₄ : ℕ = s₃ + length_at s 3 in
    let s₅ : ℕ = s₄ + length_at s 4 in
    let end : contents_from s n (5 - 5) 5 (entry_kind_at s 4) s₅ ≡ true =
    eq-eqb s₅ (length s) (omega (arith, b.long₀, b.long₁, b.long₂, b.long₃, b.long₄, l)) in
    let e₄ = entry_given s n 5 4 (entry_kind_at s 3) s₄ (omega arith)
    (record { above = omega (arith, b.kind₃, b.kind₄); offset = b.offset₄ ∙ omega (arith, b.long₀, b.long₁, b.long₂, b.long₃); fit = corners b.kind₄ refl b.long₄; rest = end }) in
    let e₃ = entry_given s n 5 3 (entry_kind_at s 2) s₃ (omega arith)
    (record { above = omega (arith, b.kind₂, b.kind₃); offset = b.offset₃ ∙ omega (arith, b.long₀, b.long₁, b.long₂); fit = occupied b.kind₃ refl b.long₃; rest = e₄ }) in
    let e₂ = entry_given s n 5 2 (entry_kind_at s 1) s₂ (omega arith)
    (record { above = omega (arith, b.kind₁, b.kind₂); offset = b.offset₂ ∙ omega (arith, b.long₀, b.long₁); fit = active b.kind₂ refl b.long₂; rest = e₃ }) in
    let e₁ = entry_given s n 5 1 (entry_kind_at s 0) s₁ (omega arith)
    (record { above = omega (arith, b.kind₀, b.kind₁); offset = b.offset₁ ∙ omega (arith, b.long₀); fit = coefficients b.kind₁ refl b.long₁; rest = e₂ }) in
    entry_given s n 5 0 0 72 (omega arith)
    (record { above = omega (arith, b.kind₀); offset = b.offset₀; fit = light b.kind₀ refl b.long₀; rest = e₁ })

-- ---- the whole file

-- what the writer is given: within the limits, of the right lengths, and f32 each
pub record Givens (a : Axes) (c : Corners) (l v : List Float) (m o : List ℕ) : Type 0 where
  pub axes : bad_axes a ≡ false
  pub grid : bad_grid c a ≡ false
  pub light : length l ≡ voxels a
  pub volume : length v ≡ voxels a * 16
  pub active : length m ≡ voxels a
  pub occupied : length o ≡ voxels a
  pub lights : bad_lights l ≡ false
  pub coefficients : bad_coefficients v ≡ false
  pub actives : bad_mask m ≡ false
  pub occupieds : bad_mask o ≡ false
  pub light_fits : AllFit l
  pub volume_fits : AllFit v
  pub corners_fit : AllFit (corners_list c)

-- what a file's bytes give back
pub record Gives (s : List ℕ) (a : Axes) (c : Corners) (l v : List Float) (m o : List ℕ) : Type 0 where
  pub axes : axes_at s ≡ a
  pub corners : corners_at s ≡ c
  pub light : light_at s ≡ l
  pub volume : volume_at s ≡ v
  pub active : active_at s ≡ m
  pub occupied : occupied_at s ≡ o

part_back : (p x q : List ℕ) (at n : ℕ) → length p ≡ at → length x ≡ n → bytes_at (p ++ (x ++ q)) at n ≡ x
part_back p x q at n e f = rw (drop_at p (x ++ q) at e) (take_at x q n f)

-- six numbers in a row are the corners
six : (s : List ℕ) (at : ℕ) (c : Corners) → offset_at s 4 ≡ at → floats_at s at 6 ≡ corners_list c → corners_at s ≡ c
unfolding corners_at tab
six s at c e f =
    let x₀ : f32_at s at ≡ c.min.x = rw (add-zero at) at (ap (λ (l : List Float). get_or l 0 nan) f) in
    let x₁ : f32_at s (at + 4) ≡ c.min.y = ap (λ (l : List Float). get_or l 1 nan) f in
    let x₂ : f32_at s (at + 8) ≡ c.min.z = ap (λ (l : List Float). get_or l 2 nan) f in
    let x₃ : f32_at s (at + 12) ≡ c.max.x = ap (λ (l : List Float). get_or l 3 nan) f in
    let x₄ : f32_at s (at + 16) ≡ c.max.y = ap (λ (l : List Float). get_or l 4 nan) f in
    let x₅ : f32_at s (at + 20) ≡ c.max.z = ap (λ (l : List Float). get_or l 5 nan) f in
    let y₄ : at + 12 + 4 ≡ at + 16 = omega arith in
    let y₅ : at + 12 + 8 ≡ at + 20 = omega arith in
    rw (e, y₄, y₅, x₀, x₁, x₂, x₃, x₄, x₅) refl

-- ---- bodies at their places

floats_there : (xs : List Float) → AllFit xs → (s p q : List ℕ) (off k at : ℕ) → s ≡ p ++ (encode xs ++ q) → length p ≡ at → off ≡ at → k ≡ length xs → floats_at s off k ≡ xs
floats_there xs h s p q off k at e d f g = rw (e, f, g) (floats_back xs h p q at d)

bytes_there : (x s p q : List ℕ) (off k at : ℕ) → s ≡ p ++ (x ++ q) → length p ≡ at → off ≡ at → k ≡ length x → bytes_at s off k ≡ x
bytes_there x s p q off k at e d f g = rw (e, f) (part_back p x q at k d (sym g))

regroup₁ : (x l v m o k : List ℕ) → x ++ l ++ v ++ m ++ o ++ k ≡ x ++ (l ++ (v ++ (m ++ (o ++ k))))
regroup₁ x l v m o k = simp append_assoc

regroup₂ : (x l v m o k : List ℕ) → x ++ l ++ v ++ m ++ o ++ k ≡ (x ++ l) ++ (v ++ (m ++ (o ++ k)))
regroup₂ x l v m o k = simp append_assoc

regroup₃ : (x l v m o k : List ℕ) → x ++ l ++ v ++ m ++ o ++ k ≡ (x ++ l ++ v) ++ (m ++ (o ++ k))
regroup₃ x l v m o k = simp append_assoc

regroup₄ : (x l v m o k : List ℕ) → x ++ l ++ v ++ m ++ o ++ k ≡ (x ++ l ++ v ++ m) ++ (o ++ k)
regroup₄ x l v m o k = simp append_assoc

regroup₅ : (x l v m o k : List ℕ) → x ++ l ++ v ++ m ++ o ++ k ≡ (x ++ l ++ v ++ m ++ o) ++ (k ++ [])
regroup₅ x l v m o k = rw (append-nil k) refl

after : (x y : List ℕ) (k m j : ℕ) → length x ≡ k → length y ≡ m → k + m ≡ j → length (x ++ y) ≡ j
after x y k m j e f g = length-append x y ∙ rw (e, f) g

-- the whole file as seven runs
whole : (a : Axes) (c : Corners) (l v : List Float) (m o : List ℕ) → file_bytes a c l v m o ≡ start a ++ encode l ++ encode v ++ m ++ o ++ encode (corners_list c)
unfolding file_bytes start
whole a c l v m o = refl

pub record Back (s : List ℕ) (a : Axes) (c : Corners) (l v : List Float) (m o : List ℕ) : Type 0 where
  pub accepted : Accepted s
  pub gives : Gives s a c l v m o

-- "u16 axes and u32 offsets still suffice": every offset and length in a file is below 2^32
pub file_fits : (a : Axes) → AxesWithin a → bytes_for (voxels a) < 4294967296
file_fits a w = omega (arith, voxels_most a w)

-- the bytes that the writer writes are accepted, and give back what it was given
pub written_back : (a : Axes) (c : Corners) (l v : List Float) (m o : List ℕ) → Givens a c l v m o → Back (file_bytes a c l v m o) a c l v m o
written_back a c l v m o g = go (file_bytes a c l v m o) (whole a c l v m o)
  where
    go : (s : List ℕ) → s ≡ start a ++ encode l ++ encode v ++ m ++ o ++ encode (corners_list c) → Back s a c l v m o
    go s e =
        let n : ℕ = voxels a in
        let x₁ : List ℕ = start a in
        let x₂ : List ℕ = x₁ ++ encode l in
        let x₃ : List ℕ = x₂ ++ encode v in
        let x₄ : List ℕ = x₃ ++ m in
        let x₅ : List ℕ = x₄ ++ o in
        let k : List ℕ = encode (corners_list c) in
        let d₁ : length x₁ ≡ 72 = start_length a in
        let d₂ : length x₂ ≡ 72 + n * 4 = after x₁ (encode l) 72 (n * 4) (72 + n * 4) d₁ (length_encode l ∙ ap (λ (x : ℕ). x * 4) g.light) refl in
        let d₃ : length x₃ ≡ 72 + n * 68 = after x₂ (encode v) (72 + n * 4) (n * 16 * 4) (72 + n * 68) d₂ (length_encode v ∙ ap (λ (x : ℕ). x * 4) g.volume) (omega arith) in
        let d₄ : length x₄ ≡ 72 + n * 69 = after x₃ m (72 + n * 68) n (72 + n * 69) d₃ g.active (omega arith) in
        let d₅ : length x₅ ≡ 72 + n * 70 = after x₄ o (72 + n * 69) n (72 + n * 70) d₄ g.occupied (omega arith) in
        let d₆ : length s ≡ 96 + n * 70 = ap length e ∙ after x₅ k (72 + n * 70) 24 (96 + n * 70) d₅ (length_encode (corners_list c)) (omega arith) in
        let r₁ : s ≡ x₁ ++ (encode l ++ (encode v ++ (m ++ (o ++ k)))) = e ∙ regroup₁ x₁ (encode l) (encode v) m o k in
        let b : Begun a s = rw r₁ (begun a (encode l ++ (encode v ++ (m ++ (o ++ k)))) ((axes_row a).0 g.axes)) in
        let ax : axes_at s ≡ a = begun_axes a s b in
        let nn : voxels_at s ≡ n = ap voxels ax in
        let light_is : light_at s ≡ l = floats_there l g.light_fits s x₁ (encode v ++ (m ++ (o ++ k))) _ _ 72 r₁ d₁ b.offset₀ (nn ∙ sym g.light) in
        let volume_is : volume_at s ≡ v =
        floats_there v g.volume_fits s x₂ (m ++ (o ++ k)) _ _ (72 + n * 4) (e ∙ regroup₂ x₁ (encode l) (encode v) m o k) d₂ b.offset₁ (ap (λ (x : ℕ). x * 16) nn ∙ sym g.volume) in
        let active_is : active_at s ≡ m = bytes_there m s x₃ (o ++ k) _ _ (72 + n * 68) (e ∙ regroup₃ x₁ (encode l) (encode v) m o k) d₃ b.offset₂ (nn ∙ sym g.active) in
        let occupied_is : occupied_at s ≡ o = bytes_there o s x₄ k _ _ (72 + n * 69) (e ∙ regroup₄ x₁ (encode l) (encode v) m o k) d₄ b.offset₃ (nn ∙ sym g.occupied) in
        let corners_are : corners_at s ≡ c =
        six s (72 + n * 70) c b.offset₄ (floats_there (corners_list c) g.corners_fit s x₅ [] _ _ (72 + n * 70) (e ∙ regroup₅ x₁ (encode l) (encode v) m o k) d₅ refl refl) in
        let entries : entries_at s ≡ 5 = b.entries in
        record {
          accepted = record {
            headed = record {
              long = omega (arith, d₆);
              mark = b.mark;
              least = omega (arith, entries);
              most = omega (arith, entries);
              contents = omega (arith, entries, d₆);
            };
            axes = rw ax g.axes;
            contents = rw (entries, nn) (begun_contents a s b d₆);
            grid = rw (corners_are, ax) g.grid;
            lights = rw light_is g.lights;
            coefficients = rw volume_is g.coefficients;
            active = rw active_is g.actives;
            occupied = rw occupied_is g.occupieds;
          };
          gives = record { axes = ax; corners = corners_are; light = light_is; volume = volume_is; active = active_is; occupied = occupied_is };
        }
