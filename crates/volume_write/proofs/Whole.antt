-- Seven runs of stores, each right after the one before, cover the whole list.
use Prim.Native.Nat.{ℕ, ◌+◌, ◌-◌, ◌*◌, ◌≤◌}
use mathlib.Core.Path.{◌≡◌, refl, sym, ap, ◌∙◌}
use mathlib.Core.List.{List, ◌++◌, append_assoc}
use native.Mathlib.Nat.{zero-add}
use native.Mathlib.Omega.{arith}
use lib.ListN.{length, take, drop, length-append}
use lib.Seq.{sets, sets-eq}
use lib.Ieee.{Float}
use borrow.Rule.Slice.PartMut.{mid_of, put_mid, mid_len, Post-is}
use Rattle.grid.specs.declared.Axes.{Axes}
use Rattle.grid.specs.declared.Corners.{Corners}
use Rattle.grid.specs.Grid.{voxels}
use Rattle.words.specs.Words.{entries_of}
use Rattle.words.specs.WordsLaws.{entries_length}
use Rattle.bytes_le.specs.Bytes.{encode}
use Rattle.bytes_le.specs.BytesLaws.{length_encode, sets_after, sets_whole}
use Rattle.contents.specs.Contents.{head_of}
use Rattle.volume_write.specs.FileBytes.{contents_of, corners_list, file_bytes, Lent}

start_length : (a : Axes) (n : ℕ) → length (head_of a ++ contents_of n) ≡ 72
unfolding contents_of
start_length a n = refl

after : (x y : List ℕ) (k m j : ℕ) → length x ≡ k → length y ≡ m → k + m ≡ j → length (x ++ y) ≡ j
after x y k m j e f g = length-append x y ∙ rw (e, f) g

-- a part that was lent and came back with a mask's entries: they were stored from its first place on
pub part_set : (at n : ℕ) (s part words : List ℕ) → at + n ≤ length s → part ≡ entries_of words (length (mid_of at (at + n - at) s))
    → put_mid at (at + n - at) s part ≡ sets s at (entries_of words n)
part_set at n s part words h e =
    let k : at + n - at ≡ n = omega arith in
    let long : length (mid_of at (at + n - at) s) ≡ n = mid_len at (at + n) s h ∙ k in
    let l : length (entries_of words n) ≡ n = entries_length words n in
    let filled : part ≡ entries_of words n = e ∙ ap (entries_of words) long in
    let stored : sets s at (entries_of words n) ≡ take at s ++ entries_of words n ++ drop (at + n) s =
    sets-eq (entries_of words n) s at (omega arith) ∙ ap (λ (x : ℕ). take at s ++ entries_of words n ++ drop (at + x) s) l in
    rw (Post-is at (at + n) s (omega arith), filled) (sym (stored ∙ append_assoc (take at s) (entries_of words n) (drop (at + n) s)))

pub written : (a : Axes) (c : Corners) (l v : List Float) (mw ow : List ℕ) (n : ℕ) (b b₁ b₂ b₃ b₄ b₅ b₆ b₇ : List ℕ)
    → Lent a n (length l) (length v) (length mw) (length ow) (length b)
    → b₁ ≡ sets b 0 (head_of a)
    → b₂ ≡ sets b₁ 12 (contents_of n)
    → b₃ ≡ sets b₂ 72 (encode l)
    → b₄ ≡ sets b₃ (72 + n * 4) (encode v)
    → b₅ ≡ sets b₄ (72 + n * 68) (entries_of mw n)
    → b₆ ≡ sets b₅ (72 + n * 69) (entries_of ow n)
    → b₇ ≡ sets b₆ (72 + n * 70) (encode (corners_list c))
    → b₇ ≡ file_bytes a c l v (entries_of mw (voxels a)) (entries_of ow (voxels a))
unfolding file_bytes
written a c l v mw ow n b b₁ b₂ b₃ b₄ b₅ b₆ b₇ h e₁ e₂ e₃ e₄ e₅ e₆ e₇ =
    let m : List ℕ = entries_of mw n in
    let o : List ℕ = entries_of ow n in
    let x₂ : List ℕ = head_of a ++ contents_of n in
    let x₃ : List ℕ = x₂ ++ encode l in
    let x₄ : List ℕ = x₃ ++ encode v in
    let x₅ : List ℕ = x₄ ++ m in
    let x₆ : List ℕ = x₅ ++ o in
    let x₇ : List ℕ = x₆ ++ encode (corners_list c) in
    let k₂ : length x₂ ≡ 72 = start_length a n in
    let k₃ : length x₃ ≡ 72 + n * 4 = after x₂ (encode l) 72 (n * 4) _ k₂ (length_encode l ∙ ap (λ (x : ℕ). x * 4) h.light) refl in
    let k₄ : length x₄ ≡ 72 + n * 68 = after x₃ (encode v) (72 + n * 4) (n * 16 * 4) _ k₃ (length_encode v ∙ ap (λ (x : ℕ). x * 4) h.volume) (omega arith) in
    let k₅ : length x₅ ≡ 72 + n * 69 = after x₄ m (72 + n * 68) n _ k₄ (entries_length mw n) (omega arith) in
    let k₆ : length x₆ ≡ 72 + n * 70 = after x₅ o (72 + n * 69) n _ k₅ (entries_length ow n) (omega arith) in
    let k₇ : length x₇ ≡ 96 + n * 70 = after x₆ (encode (corners_list c)) (72 + n * 70) 24 _ k₆ (length_encode (corners_list c)) (omega arith) in
    let f₂ : b₂ ≡ sets b 0 x₂ = sets_after b 0 12 (head_of a) (contents_of n) refl e₁ e₂ in
    let f₃ : b₃ ≡ sets b 0 x₃ = sets_after b 0 72 x₂ (encode l) (zero-add (length x₂) ∙ k₂) f₂ e₃ in
    let f₄ : b₄ ≡ sets b 0 x₄ = sets_after b 0 (72 + n * 4) x₃ (encode v) (zero-add (length x₃) ∙ k₃) f₃ e₄ in
    let f₅ : b₅ ≡ sets b 0 x₅ = sets_after b 0 (72 + n * 68) x₄ m (zero-add (length x₄) ∙ k₄) f₄ e₅ in
    let f₆ : b₆ ≡ sets b 0 x₆ = sets_after b 0 (72 + n * 69) x₅ o (zero-add (length x₅) ∙ k₅) f₅ e₆ in
    let f₇ : b₇ ≡ sets b 0 x₇ = sets_after b 0 (72 + n * 70) x₆ (encode (corners_list c)) (zero-add (length x₆) ∙ k₆) f₆ e₇ in
    f₇ ∙ sets_whole b x₇ (k₇ ∙ sym h.bytes) ∙ rw h.count refl
