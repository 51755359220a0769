-- `limits::inner::bad_materials_for` meets its contract: a kind is not opaque exactly when it is above it, since opaque is 0, and what is above the last kind is
-- above that too.
use mathlib.Core.Path.{◌≡◌, refl, sym, ap, ◌∙◌}
use mathlib.Core.Bool.{Bool, true, false, cond, not, ◌||◌, or-true, or-false, false≢true}
use mathlib.Core.List.{List, [], ◌∷◌}
use Prim.Native.Nat.{ℕ, zero, suc}
use native.Mathlib.Omega.{arith}
use lib.Dec.{eqb, ltb}
use lib.ListN.{length}
use lib.Ieee.{Float}
use borrow.Author.Tests.{lt-ltb, ne_eqb}
use Rattle.names.specs.Numbers.{opaque_kind, last_kind}
use Rattle.names.specs.Scene.{other_kind}
use Rattle.lists.specs.Some.{some}
use Rattle.limits.specs.Limits.{bad_kinds, bad_numbers, bad_uses, bad_materials, bad_materials_for}
use Rattle.limits.proofs.inner.bad_materials_for.Goals as goal

above : (k : ℕ) → ltb opaque_kind k ≡ not (eqb k opaque_kind)
above zero = refl
above (suc k) = lt-ltb opaque_kind (suc k) (omega arith) ∙ sym (ap not (ne_eqb (suc k) opaque_kind (λ e. omega (arith, e))))

some_above : (kinds : List ℕ) → some (ltb opaque_kind) kinds ≡ other_kind kinds
unfolding some other_kind
some_above [] = refl
some_above (k ∷ kinds) = rw (above k, some_above kinds) refl

-- a list without another kind has none above the last
none_above : (kinds : List ℕ) → other_kind kinds ≡ false → bad_kinds kinds ≡ false
unfolding bad_kinds some other_kind
none_above [] e = refl
none_above (zero ∷ kinds) e = none_above kinds e
none_above (suc k ∷ kinds) e = absurd (false≢true (sym e ∙ rw (ne_eqb (suc k) opaque_kind (λ z. omega (arith, z))) refl))

tests_joined : (solid : Bool) (uses kinds : List ℕ) (numbers : List Float)
    → some (ltb (cond solid opaque_kind last_kind)) kinds || bad_numbers numbers || bad_uses uses (length kinds) ≡ bad_materials_for solid uses kinds numbers
unfolding bad_kinds bad_materials
tests_joined false uses kinds numbers = refl
tests_joined true uses kinds numbers = joined (other_kind kinds) refl
  where
    joined : (b : Bool) → other_kind kinds ≡ b
        → some (ltb opaque_kind) kinds || bad_numbers numbers || bad_uses uses (length kinds) ≡ bad_materials uses kinds numbers || other_kind kinds
    joined true e = rw (some_above kinds, e, or-true) refl
    joined false e = rw (some_above kinds, e, or-false, none_above kinds e) refl

pub returns : goal.returns
unfolding bad_uses
returns c =
    let n = c in
    let a = n in
    let s = a in
    rw (a.any_above.ensures, a.last_kind.ensures, n.bad_numbers.ensures, c.any_from.ensures)
    (tests_joined s.args.solid s.args.uses.now s.args.kinds.now s.args.numbers.now)
