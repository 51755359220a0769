-- One light more is a join with that light's figures; a run of one more light; and what the sizes say of sums.
use mathlib.Core.Path.{◌≡◌, refl, sym, ap, ◌∙◌}
use mathlib.Core.Bool.{Bool, true, false, cond}
use mathlib.Core.List.{List, [], ◌∷◌, ◌++◌}
use Prim.Native.Nat.{ℕ, zero, suc, ◌+◌, ◌-◌, ◌≤◌, ◌<◌, max}
use native.Mathlib.Nat.{add-zero, zero-add, max-zero}
use native.Mathlib.Omega.{arith}
use lib.Dec.{eqb}
use lib.ListN.{length, get_or, set, take, length-set}
use lib.Seq.{ext_get_or, get_or-set_same, get_or-set_other}
use borrow.Author.Tests.{eqb-true, eqb-false, eq-eqb}
use lib.Ieee.{Float, nan}
use Rattle.names.specs.Numbers.{band_number}
use Rattle.lists.specs.Fold.{tab, length_tab, get_or_tab, tab_step, tab_end}
use Rattle.lists.specs.Some.{some, none_out}
use Rattle.light_units.specs.Units.{units_of, light_outside}
use Rattle.light_units.specs.UnitsLaws.{units_most}
use Rattle.light_figures.specs.declared.LightFigures.{LightFigures}
use Rattle.light_figures.specs.LightFigures.{band_of, sum_of, lowest_from, lowest_of, highest_of, in_band, figures_of, units_each, lowest_of_both, joined_figures, most_voxels, FiguresSized, BandsFit}
use Rattle.light_figures.specs.FiguresLaws.{band_at, figures_joined, figures_sized}

-- ---- one light more

-- of a list of one
band_single : (u k : ℕ) → in_band k (u ∷ []) ≡ cond (eqb (band_of u) k) 1 0
unfolding in_band
band_single u k = add-zero (cond (eqb (band_of u) k) 1 0)

pub band_added : (bands : List ℕ) (u b : ℕ) → length bands ≡ band_number → b ≡ band_of u → b < band_number
    → set bands b (get_or bands b 0 + 1) ≡ tab (λ k. get_or bands k 0 + get_or (tab (λ j. in_band j (u ∷ [])) band_number 0) k 0) band_number 0
band_added bands u b l e h =
    let f : ℕ → ℕ = λ k. get_or bands k 0 + get_or (tab (λ j. in_band j (u ∷ [])) band_number 0) k 0 in
    ext_get_or 0 (set bands b (get_or bands b 0 + 1)) (tab f band_number 0)
    (length-set bands b (get_or bands b 0 + 1) ∙ l ∙ sym (length_tab f band_number 0))
    (λ i q. let q' : i < band_number = omega (arith, length-set bands b (get_or bands b 0 + 1)) in go i q' (eqb b i) refl ∙ sym (get_or_tab f band_number 0 i 0 q' ∙ ap f (zero-add i)))
  where
    go : (i : ℕ) → i < band_number → (t : Bool) → eqb b i ≡ t → get_or (set bands b (get_or bands b 0 + 1)) i 0 ≡ get_or bands i 0 + get_or (tab (λ j. in_band j (u ∷ [])) band_number 0) i 0
    go i q true p =
        let d : b ≡ i = eqb-true b i p in
        rw (← d, get_or-set_same bands b (get_or bands b 0 + 1) 0 (omega arith), band_at (u ∷ []) b h, band_single u b, eq-eqb (band_of u) b (sym e)) refl
    go i q false p =
        rw (get_or-set_other bands b i (get_or bands b 0 + 1) 0 (λ d. eqb-false b i p (sym d)), band_at (u ∷ []) i q, band_single u i, ← e, p) (sym (add-zero (get_or bands i 0)))

pub light_added : (f : LightFigures) (u b low high : ℕ) → FiguresSized f → b ≡ band_of u → b < band_number
    → low ≡ lowest_of_both f.voxels f.lowest 1 u → high ≡ max f.highest u
    → record { voxels = f.voxels + 1; sum = f.sum + u; lowest = low; highest = high; bands = set f.bands b (get_or f.bands b 0 + 1) } ≡ joined_figures f (figures_of (u ∷ []))
unfolding joined_figures figures_of sum_of lowest_of lowest_from highest_of
light_added f u b low high s e h p q = rw (p, q, band_added f.bands u b s.sixteen e h, add-zero u, max-zero u) refl

-- ---- a run of lights

pub tab_next : (g : ℕ → ℕ) (n i : ℕ) → tab g (n + 1) i ≡ tab g n i ++ (g (i + n) ∷ [])
unfolding tab
tab_next g zero i = rw (add-zero i) refl
tab_next g (suc n) i = let e : suc n + 1 ≡ suc (n + 1) = omega arith in let d : i + suc n ≡ i + 1 + n = omega arith in rw (e, d) (ap (λ (l : List ℕ). g i ∷ l) (tab_next g n (i + 1)))

pub run_next : (g : ℕ → ℕ) (n : ℕ) → figures_of (tab g (n + 1) 0) ≡ joined_figures (figures_of (tab g n 0)) (figures_of (g n ∷ []))
run_next g n = let z : 0 + n ≡ n = omega arith in rw (tab_next g n 0, z) (figures_joined (tab g n 0) (g n ∷ []))

pub each_tab : (f : ℕ → Float) (n i : ℕ) → units_each (tab f n i) ≡ tab (λ k. units_of (f k)) n i
unfolding units_each tab
each_tab f zero i = refl
each_tab f (suc n) i = ap (λ (l : List ℕ). units_of (f i) ∷ l) (each_tab f n (i + 1))

-- each light of a run that has none outside
pub inside_at : (f : ℕ → Float) (n i : ℕ) → some light_outside (tab f n 0) ≡ false → i < n → light_outside (f i) ≡ false
inside_at f n i e h =
    let o = none_out light_outside (tab f n 0) nan e i (rw (length_tab f n 0) h) in
    sym (ap light_outside (get_or_tab f n 0 i nan h ∙ ap f (zero-add i))) ∙ o

pub run_sized : (f : ℕ → Float) (n i : ℕ) → some light_outside (tab f n 0) ≡ false → i ≤ n → n ≤ most_voxels → FiguresSized (figures_of (tab (λ k. units_of (f k)) i 0))
run_sized f n i e h l =
    let g : ℕ → ℕ = λ k. units_of (f k) in
    figures_sized (tab g i 0)
    (λ k q. let q' : k < i = omega (arith, length_tab g i 0) in rw (get_or_tab g i 0 k 0 q', zero-add k) (units_most (f k) (inside_at f n k e (omega arith))))
    (rw (length_tab g i 0) (omega arith))

-- ---- sixteen sums, written from the left

module _ (f : ℕ → ℕ) (l : List ℕ) (i : ℕ) (e : length l ≡ band_number) where
  pub bands_step : i < band_number → take i l ++ tab f (band_number - i) i ≡ tab f band_number 0
      → take (i + 1) (set l i (f i)) ++ tab f (band_number - (i + 1)) (i + 1) ≡ tab f band_number 0
  bands_step h w = let s = tab_step f l i (omega arith) in (rw e at s) ∙ w

  pub bands_end : band_number ≤ i → take i l ++ tab f (band_number - i) i ≡ tab f band_number 0 → l ≡ tab f band_number 0
  bands_end h w = let s = tab_end f l i (omega arith) in sym (rw e at s) ∙ w

-- figures that are joined: of both, one by one
pub bands_fit : (f g : LightFigures) → FiguresSized f → FiguresSized g → f.voxels + g.voxels ≤ most_voxels → BandsFit f.bands g.bands
bands_fit f g p q h b = omega (arith, p.band b, q.band b)

pub both_joined : (f g : LightFigures) (low high : ℕ) (bands : List ℕ)
    → bands ≡ tab (λ b. get_or f.bands b 0 + get_or g.bands b 0) band_number 0
    → low ≡ lowest_of_both f.voxels f.lowest g.voxels g.lowest
    → high ≡ max f.highest g.highest
    → record { voxels = f.voxels + g.voxels; sum = f.sum + g.sum; lowest = low; highest = high; bands = bands } ≡ joined_figures f g
unfolding joined_figures
both_joined f g low high bands p q r = rw (p, q, r) refl
