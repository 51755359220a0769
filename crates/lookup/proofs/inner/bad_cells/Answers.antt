-- `lookup::inner::bad_cells` meets its contract: a test of some cell read is one of the eight tests.
use Rattle.std.proofs.Common.{◌≡◌, ℕ, zero, suc, ◌<◌, get_or, arith, Bool, List, [], ◌∷◌, ◌||◌, ap, refl, ◌∙◌}
use Rattle.std.specs.List.{list_any}
use Rattle.lists.specs.Some.{some}
use Rattle.lookup.specs.declared.Cells.{Cells}
use Rattle.lookup.specs.Place.{Inside, cells_read}
use Rattle.lookup.proofs.inner.bad_cells.Goals as goal

any_some : (f : ℕ → Bool) (l : List ℕ) → list_any f l ≡ some f l
unfolding some
any_some f [] = refl
any_some f (x ∷ l) = ap (λ (b : Bool). f x || b) (any_some f l)

within : (n : ℕ) (c : Cells) → Inside n c → (k d : ℕ) → k < 8 → get_or (cells_read c) k d < n
within n c h zero d q = h.c000
within n c h (suc zero) d q = h.c100
within n c h (suc (suc zero)) d q = h.c010
within n c h (suc (suc (suc zero))) d q = h.c110
within n c h (suc (suc (suc (suc zero)))) d q = h.c001
within n c h (suc (suc (suc (suc (suc zero))))) d q = h.c101
within n c h (suc (suc (suc (suc (suc (suc zero)))))) d q = h.c011
within n c h (suc (suc (suc (suc (suc (suc (suc zero))))))) d q = h.c111
within n c h (suc (suc (suc (suc (suc (suc (suc (suc k)))))))) d q = absurd (omega arith)

pub any_bad-requires : goal.any_bad-requires
any_bad-requires g c = within _ c.args.c c.requires

pub returns : goal.returns
returns g c = c.any_bad.ensures ∙ any_some _ (cells_read c.args.c)
