-- The points put in the tree's order, number by number. Assumes nothing.
use mathlib.Core.Path.{◌≡◌, refl, ap, ◌∙◌}
use mathlib.Core.Bool.{Bool, true, false}
use mathlib.Core.List.{List}
use Prim.Native.Nat.{ℕ, ◌+◌, ◌*◌, ◌/◌, ◌%◌, ◌≤◌, ◌<◌}
use native.Mathlib.Omega.{arith}
use borrow.Author.Tests.{eqb-true, eqb-false, ltb-true, ltb-false}
use lib.Arith.{lt_of_le-ne}
use lib.Dec.{eqb, ltb}
use lib.ListN.{length, get_or, set}
use lib.Seq.{get_or-set_same, get_or-set_other}
use lib.Ieee.{Float, nan}
use Rattle.triangle.specs.Places.{triangle_at}
use Rattle.tree_walk.specs.Turned.{Turned, source, TurnedTo}

module _ (points : List Float) (order : List ℕ) where
  pub turned_more : (turned : List Float) (k p : ℕ) (x : Float) → k < length turned → p ≡ get_or order (k / 9) 0
      → (p < length points / 9 → x ≡ get_or points (p * 9 + k % 9) nan) → TurnedTo points order turned k → TurnedTo points order (set turned k x) (k + 1)
  turned_more turned k p x h q e t l b f = by (eqb l k) refl
    where
      by : (a : Bool) → eqb l k ≡ a → get_or (set turned k x) l nan ≡ get_or points (source order l) nan
      by true r = let s = eqb-true l k r in rw (s, get_or-set_same turned k x nan h, ← q) (e (rw (s, ← q) at f))
      by false r = get_or-set_other turned k l x nan (eqb-false l k r) ∙ t l (lt_of_le-ne (omega arith) (eqb-false l k r)) f

  pub turned_whole : (turned : List Float) → length order * 9 ≤ length turned → TurnedTo points order turned (length order * 9) → Turned points order turned
  unfolding triangle_at
  turned_whole turned long t = record { long = long; same = same }
    where
      same : (k : ℕ) → k < length order → get_or order k 0 < length points / 9 → triangle_at turned k ≡ triangle_at points (get_or order k 0)
      same k h w =
          let p = get_or order k 0 in
          rw (
            read (k * 9) (p * 9) (omega arith) (omega arith) (omega arith),
            read (k * 9 + 1) (p * 9 + 1) (omega arith) (omega arith) (omega arith),
            read (k * 9 + 2) (p * 9 + 2) (omega arith) (omega arith) (omega arith),
            read (k * 9 + 3) (p * 9 + 3) (omega arith) (omega arith) (omega arith),
            read (k * 9 + 3 + 1) (p * 9 + 3 + 1) (omega arith) (omega arith) (omega arith),
            read (k * 9 + 3 + 2) (p * 9 + 3 + 2) (omega arith) (omega arith) (omega arith),
            read (k * 9 + 6) (p * 9 + 6) (omega arith) (omega arith) (omega arith),
            read (k * 9 + 6 + 1) (p * 9 + 6 + 1) (omega arith) (omega arith) (omega arith),
            read (k * 9 + 6 + 2) (p * 9 + 6 + 2) (omega arith) (omega arith) (omega arith),
          ) refl
        where
          read : (j l : ℕ) → k * 9 ≤ j → j < k * 9 + 9 → j + get_or order k 0 * 9 ≡ l + k * 9 → get_or turned j nan ≡ get_or points l nan
          read j l a b e =
              let o : get_or order (j / 9) 0 ≡ get_or order k 0 = ap (λ (x : ℕ). get_or order x 0) (let d : j / 9 ≡ k = omega arith in d) in
              let s : source order j ≡ l = omega (arith, o) in
              t j (omega arith) (omega (arith, o)) ∙ ap (λ (x : ℕ). get_or points x nan) s

  -- of a triangle that the scene has not, nothing is asked
  pub turned_past : (turned : List Float) (k : ℕ) → length points / 9 ≤ get_or order k 0 → TurnedTo points order turned (k * 9) → TurnedTo points order turned (k * 9 + 9)
  turned_past turned k h t l b f = by (ltb l (k * 9)) refl
    where
      by : (a : Bool) → ltb l (k * 9) ≡ a → get_or turned l nan ≡ get_or points (source order l) nan
      by true r = t l (ltb-true l (k * 9) r) f
      by false r =
          let d : l / 9 ≡ k = omega (arith, ltb-false l (k * 9) r) in
          let o : get_or order (l / 9) 0 ≡ get_or order k 0 = ap (λ (x : ℕ). get_or order x 0) d in
          absurd (omega (arith, f, o))
