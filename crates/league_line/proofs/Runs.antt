-- One number more, and one byte.
use Rattle.std.proofs.Common.{◌≡◌, List, ◌∷◌, [], ◌++◌, ℕ, ◌+◌, ◌<◌, refl, sym, ◌∙◌, length, take, set, get_or, add-one, zero-add, take-suc, take-suc-set, ext_get_or, arith}
use Rattle.lists.specs.Fold.{tab, length_tab, get_or_tab}
use Rattle.league_line.specs.Text.{decimal_of, spaced}
use Rattle.league_line.specs.TextLaws.{spaced_append, spaced_one}

pub spaced_next : (ns : List ℕ) (i : ℕ) → i < length ns → spaced (take (i + 1) ns) ≡ spaced (take i ns) ++ (32 ∷ decimal_of (get_or ns i 0))
spaced_next ns i h = rw (add-one i, take-suc ns i 0 h, spaced_append (take i ns) (get_or ns i 0 ∷ []), spaced_one (get_or ns i 0)) refl

-- a byte stored right behind others
pub stored_behind : (l : List ℕ) (i x : ℕ) → i < length l → take (i + 1) (set l i x) ≡ take i l ++ (x ∷ [])
stored_behind l i x h = rw (add-one i) (take-suc-set l i x h)

-- the list of a list's numbers
pub tab_whole : (l : List ℕ) (n : ℕ) → length l ≡ n → tab (λ b. get_or l b 0) n 0 ≡ l
tab_whole l n e =
    let k = length_tab (λ b. get_or l b 0) n 0 in
    ext_get_or 0 (tab (λ b. get_or l b 0) n 0) l (k ∙ sym e) (λ i h. get_or_tab (λ b. get_or l b 0) n 0 i 0 (omega arith) ∙ rw (zero-add i))
