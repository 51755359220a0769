-- A list of figures while it is written: 1.0 everywhere at first, which is right of every voxel that is not active, and then one active voxel after the other.
use mathlib.Core.Path.{◌≡◌, refl, sym, ap, subst, ◌∙◌}
use mathlib.Core.Bool.{true, false}
use mathlib.Core.List.{List, ◌∷◌}
use mathlib.Core.Logic.{◌⊎◌, inl, inr}
use Prim.Native.Nat.{ℕ, zero, suc, ◌+◌, ◌-◌, ◌≤◌, ◌<◌}
use native.Mathlib.Nat.{zero-add}
use native.Mathlib.Omega.{arith}
use lib.ListN.{length, get_or, set, replicate}
use lib.Seq.{ext_get_or, get_or-set_same, get_or-set_other}
use lib.Ieee.{Float, nan}
use Rattle.names.specs.Bits.{one32}
use Rattle.names.specs.Scene.{Scene}
use Rattle.lists.specs.Fold.{tab, length_tab, get_or_tab}
use Rattle.vectors.specs.declared.Vec3.{Vec3}
use Rattle.grid.specs.Grid.{x_of, y_of, z_of, centre_from}
use Rattle.grid.specs.declared.Axes.{Axes}
use Rattle.marks.specs.Marks.{is_marked}
use Rattle.words.specs.ByWords.{next_from}
use Rattle.words.specs.BitLaws.{same_or_not}
use Rattle.words.specs.NextLaws.{next_carries, next_there}
use Rattle.scan.specs.Transmittance.{transmittance_of}
use Rattle.sun.specs.Sun.{sun_ray, figure_of}

-- ---- from voxel i on to the next active one

module _ (mask : List ℕ) (n i t : ℕ) (h : i ≤ n) (e : t ≡ next_from (is_marked mask) n (n - i) i) where
  pub next_on : i ≤ t
  next_on = subst (λ (k : ℕ). i ≤ k) (sym e) (next_carries (is_marked mask) n (λ k. i ≤ k) (λ j p u q. omega arith) (n - i) i (omega arith) (omega arith))

  pub next_active : t < n → is_marked mask t ≡ true
  next_active p = ap (is_marked mask) e ∙ next_there (is_marked mask) n (n - i) i (omega arith) (omega arith)

-- ---- the list

-- a list that is filled with 1.0
pub ones : (k i : ℕ) → replicate k one32 ≡ tab (λ (j : ℕ). one32) k i
unfolding tab
ones zero i = refl
ones (suc k) i = ap (λ (l : List Float). one32 ∷ l) (ones k (i + 1))

module _ (axes : Axes) (low edges l : Vec3) (ahead : Float) (scene : Scene) (mask : List ℕ) (n : ℕ) where
  abbrev figure : ℕ → Float
  figure = figure_of axes low edges l ahead scene mask

  -- every voxel has its figure, but the active ones from `at` on
  abbrev pub Right : List Float → ℕ → Type 0
  Right list at = (j : ℕ) → j < n → (at ≤ j → is_marked mask j ≡ false) → get_or list j nan ≡ figure j

  pub right_first : (list : List Float) (m : ℕ) → m ≡ n → list ≡ tab (λ (i : ℕ). one32) m 0 → Right list 0
  unfolding figure_of
  right_first list m s e j h u =
      ap (λ (x : List Float). get_or x j nan) e ∙ get_or_tab (λ (i : ℕ). one32) m 0 j nan (omega arith) ∙ rw (u (omega arith))

  -- a voxel that is not active has its figure already
  right_passed : (list : List Float) (i : ℕ) → is_marked mask i ≡ false → Right list i → Right list (i + 1)
  right_passed list i e r j h u = r j h (λ p. go (same_or_not j i) p)
    where
      go : (j ≡ i) ⊎ (j ≡ i → ⊥) → i ≤ j → is_marked mask j ≡ false
      go (inl s) p = ap (is_marked mask) s ∙ e
      go (inr d) p = u (omega arith)

  -- an active one gets it
  pub right_written : (list : List Float) (i : ℕ) (x : Float) → i < length list → is_marked mask i ≡ true
      → x ≡ transmittance_of scene (sun_ray l ahead (centre_from low edges (x_of axes i) (y_of axes i) (z_of axes i)))
      → Right list i → Right (set list i x) (i + 1)
  unfolding figure_of
  right_written list i x b m e r j h u = go (same_or_not j i)
    where
      here : figure i ≡ x
      here = rw (m, e)

      go : (j ≡ i) ⊎ (j ≡ i → ⊥) → get_or (set list i x) j nan ≡ figure j
      go (inl s) = ap (λ (k : ℕ). get_or (set list i x) k nan) s ∙ get_or-set_same list i x nan b ∙ sym here ∙ ap figure (sym s)
      go (inr d) = get_or-set_other list i j x nan d ∙ r j h (λ p. u (omega arith))

  pub right_next : (list : List Float) (i t : ℕ) → i ≤ n → t ≡ next_from (is_marked mask) n (n - i) i → Right list i → Right list t
  right_next list i t h e r =
      subst (Right list) (sym e) (next_carries (is_marked mask) n (Right list) (λ j p u q. right_passed list j u q) (n - i) i (omega arith) r)

  -- past the last voxel all have theirs
  pub right_whole : (list : List Float) (i : ℕ) → length list ≡ n → n ≤ i → Right list i → list ≡ tab figure n 0
  right_whole list i e p r =
      ext_get_or nan list (tab figure n 0) (e ∙ sym (length_tab figure n 0)) (λ j h.
      r j (omega arith) (λ q. absurd (omega arith)) ∙ sym (get_or_tab figure n 0 j nan (omega arith) ∙ ap figure (zero-add j)))
