-- `words::inner::clear` fills the words with zeros. Assumes nothing.
use mathlib.Core.Path.{◌≡◌, refl, ap, ◌∙◌}
use mathlib.Core.List.{List, ◌∷◌}
use Prim.Native.Nat.{ℕ, zero, suc, ◌+◌}
use lib.ListN.{length, replicate}
use Rattle.lists.specs.Fold.{tab}
use Rattle.words.specs.ByWords.{no_bits}
use Rattle.words.proofs.inner.clear.Goals as goal

zeros : (n i : ℕ) → replicate {A = ℕ} n 0 ≡ tab (λ k. 0) n i
unfolding tab
zeros zero i = refl
zeros (suc n) i = ap (λ (l : List ℕ). 0 ∷ l) (zeros n (i + 1))

pub returns : goal.returns
unfolding no_bits
returns c = c.fill.ensures.after (λ y e. e) ∙ zeros (length c.args.words.now) 0
