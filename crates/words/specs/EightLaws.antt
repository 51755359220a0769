-- Eight entries at a time: the bits of a byte of a word, spread over eight bytes, are the next eight entries, and a list written in such runs is written whole.
use Rattle.std.specs.Prelude.{◌≡◌, refl, List, [], ◌∷◌, ◌++◌, ℕ, zero, suc, ◌+◌, ◌-◌, ◌/◌, ◌%◌, ◌^◌, ◌≤◌, ◌<◌, length, get_or, take, set}
use Rattle.std.proofs.Common.{sym, ap, ap₂, ◌∙◌, arith, add-zero, zero-add, add-one, length-set}
use Rattle.std.proofs.lemmas.List.Edits.{sets}
use Rattle.std.proofs.Math.Seq.{length-sets}
use Rattle.lists.specs.Fold.{tab, get_or_tab, tab_step}
use Rattle.words.specs.Words.{bit_of, bit_at}
use Rattle.words.specs.ByWords.{spread_of, eight_bytes}
use Rattle.words.specs.BitLaws.{low_bit, bit_shifted}

-- every byte, by computation
spread_all : tab (λ b. eight_bytes (spread_of b)) 256 0 ≡ tab (λ b. tab (bit_of b) 8 0) 256 0
unfolding tab spread_of
spread_all = refl

pub spread_bytes : (b : ℕ) → b < 256 → eight_bytes (spread_of b) ≡ tab (bit_of b) 8 0
spread_bytes b h =
    let spread : ℕ → List ℕ = (λ x. eight_bytes (spread_of x)) in
    let bits : ℕ → List ℕ = (λ x. tab (bit_of x) 8 0) in
    ap spread (sym (zero-add b)) ∙ sym (get_or_tab spread 256 0 b [] h) ∙ ap (λ (l : List (List ℕ)). get_or l b []) spread_all
    ∙ get_or_tab bits 256 0 b [] h ∙ ap bits (zero-add b)

-- the same values from another place on
tab_moved : (f g : ℕ → ℕ) (k i i' : ℕ) → ((j : ℕ) → j < k → f (i + j) ≡ g (i' + j)) → tab f k i ≡ tab g k i'
unfolding tab
tab_moved f g zero i i' e = refl
tab_moved f g (suc k) i i' e =
    let z : f i ≡ g i' = ap f (sym (add-zero i)) ∙ e 0 (omega arith) ∙ ap g (add-zero i') in
    let s : tab f k (i + 1) ≡ tab g k (i' + 1) = tab_moved f g k (i + 1) (i' + 1) (λ j p.
    let a : i + 1 + j ≡ i + suc j = omega arith in
    let b : i' + suc j ≡ i' + 1 + j = omega arith in
    ap f a ∙ e (suc j) (omega arith) ∙ ap g b) in
    ap₂ (λ (x : ℕ) (l : List ℕ). x ∷ l) z s

-- the next eight entries, where those before are whole eights
pub eight_entries : (words : List ℕ) (i : ℕ) → i % 8 ≡ 0 → eight_bytes (spread_of (get_or words (i / 64) 0 / 2 ^ (i % 64) % 256)) ≡ tab (bit_at words) 8 i
eight_entries words i z =
    let w : ℕ = get_or words (i / 64) 0 in
    let x : ℕ = w / 2 ^ (i % 64) in
    spread_bytes (x % 256) (omega arith) ∙ tab_moved (bit_of (x % 256)) (bit_at words) 8 0 i (λ j h.
    let k : (i + j) / 64 ≡ i / 64 = omega arith in
    let r : (i + j) % 64 ≡ i % 64 + j = omega arith in
    ap (bit_of (x % 256)) (zero-add j) ∙ low_bit x 8 j h ∙ bit_shifted w (i % 64) j
    ∙ sym (ap₂ (λ (a b : ℕ). bit_of (get_or words a 0) b) k r))

-- a list written from the left, m values at once
pub tab_run : (f : ℕ → ℕ) (m : ℕ) (l : List ℕ) (i : ℕ) → i + m ≤ length l
    → take (i + m) (sets l i (tab f m i)) ++ tab f (length l - (i + m)) (i + m) ≡ take i l ++ tab f (length l - i) i
unfolding tab
tab_run f zero l i h = rw (add-zero i) refl
tab_run f (suc m) l i h =
    let e : i + suc m ≡ i + 1 + m = omega arith in
    let n : length (set l i (f i)) ≡ length l = length-set l i (f i) in
    let rest : take (i + 1 + m) (sets (set l i (f i)) (i + 1) (tab f m (i + 1))) ++ tab f (length l - (i + 1 + m)) (i + 1 + m) ≡ take (i + 1) (set l i (f i)) ++ tab f (length l - (i + 1)) (i + 1) =
    rw n at (tab_run f m (set l i (f i)) (i + 1) (omega (arith, n))) in
    let next : sets l i (tab f (suc m) i) ≡ sets (set l i (f i)) (i + 1) (tab f m (i + 1)) = ap (λ (k : ℕ). sets (set l i (f i)) k (tab f m (i + 1))) (sym (add-one i)) in
    rw (e, next) (rest ∙ tab_step f l i (omega arith))

-- one turn: the next eight entries are written
pub eight_more : (words l l' : List ℕ) (i x : ℕ) (whole : List ℕ) → i % 8 ≡ 0 → i + 8 ≤ length l
    → x ≡ spread_of (get_or words (i / 64) 0 / 2 ^ (i % 64) % 256) → l' ≡ sets l i (eight_bytes x)
    → take i l ++ tab (bit_at words) (length l - i) i ≡ whole → take (i + 8) l' ++ tab (bit_at words) (length l' - (i + 8)) (i + 8) ≡ whole
eight_more words l l' i x whole z h q p w =
    let e : l' ≡ sets l i (tab (bit_at words) 8 i) = p ∙ ap (sets l i) (ap eight_bytes q ∙ eight_entries words i z) in
    let n : length l' ≡ length l = ap length e ∙ length-sets l i (tab (bit_at words) 8 i) in
    rw (n, e) (tab_run (bit_at words) 8 l i h ∙ w)

-- eight stores in a row
pub eight_stores : (l : List ℕ) (at a b c d e f g h : ℕ)
    → set (set (set (set (set (set (set (set l at a) (at + 1) b) (at + 2) c) (at + 3) d) (at + 4) e) (at + 5) f) (at + 6) g) (at + 7) h
    ≡ sets l at (a ∷ b ∷ c ∷ d ∷ e ∷ f ∷ g ∷ h ∷ [])
eight_stores l at a b c d e f g h =
    let e₂ : at + 2 ≡ suc (suc at) = omega arith in
    let e₃ : at + 3 ≡ suc (suc (suc at)) = omega arith in
    let e₄ : at + 4 ≡ suc (suc (suc (suc at))) = omega arith in
    let e₅ : at + 5 ≡ suc (suc (suc (suc (suc at)))) = omega arith in
    let e₆ : at + 6 ≡ suc (suc (suc (suc (suc (suc at))))) = omega arith in
    let e₇ : at + 7 ≡ suc (suc (suc (suc (suc (suc (suc at)))))) = omega arith in
    rw (add-one at, e₂, e₃, e₄, e₅, e₆, e₇) refl
