-- What figures mean: joined, they are those of both lists put together; the bands add up to the voxels; the lowest is one of the units and none is below it,
-- and so of the highest; a band holds the units from its own 2^20 up, and 1 falls in the last; how large they get. Assumes nothing.
use Rattle.std.specs.Prelude.{◌≡◌, refl, Bool, true, false, cond, List, [], ◌∷◌, ◌++◌, ℕ, zero, suc, ◌+◌, ◌*◌, ◌/◌, ◌≤◌, ◌<◌, min, max, eqb, leb, length, get_or, Float}
use Rattle.std.proofs.Common.{sym, ap, ap₂, ◌∙◌, ⊎_elim, zero-add, add_assoc, suc-mul, le_trans, le_of_lt, eq-or-lt_of_le, arith, length-append, eqb-true, ne_eqb, leb-true, leb-false}
use Rattle.std.proofs.Math.Nat.{le-max_left, le-max_right, max-eq_left, max-eq_right}
use Rattle.std.proofs.Math.Dec.{eqb-suc-zero}
use Rattle.std.proofs.Math.ListN.{get_or-eq_default}
use Rattle.std.proofs.lemmas.Bool.{eqb-false}
use Rattle.names.specs.Numbers.{most_units, band_width, band_number}
use Rattle.names.specs.Bits.{one32}
use Rattle.lists.specs.Fold.{tab, length_tab, get_or_tab, tab_same}
use Rattle.light_units.specs.Units.{units_of}
use Rattle.light_units.specs.UnitsLaws.{one_units}
use Rattle.light_figures.specs.declared.LightFigures.{LightFigures}
use Rattle.light_figures.specs.LightFigures.{last_band, band_of, sum_of, lowest_from, lowest_of, highest_of, in_band, figures_of, units_each, light_figures, lowest_of_both, joined_figures, most_voxels, FiguresSized, AllUnits}

-- ---- figures joined are those of both lists put together

pub sum_append : (a b : List ℕ) → sum_of (a ++ b) ≡ sum_of a + sum_of b
unfolding sum_of
sum_append [] b = sym (zero-add (sum_of b))
sum_append (u ∷ a) b = rw (sum_append a b) (sym (add_assoc u (sum_of a) (sum_of b)))

min_assoc : (a b c : ℕ) → min (min a b) c ≡ min a (min b c)
min_assoc a b c = omega arith

max_assoc : (a b c : ℕ) → max (max a b) c ≡ max a (max b c)
max_assoc a b c = omega arith

lowest_min : (k u : ℕ) (us : List ℕ) → lowest_from (min k u) us ≡ min k (lowest_from u us)
unfolding lowest_from
lowest_min k u [] = refl
lowest_min k u (v ∷ us) = rw (min_assoc k u v) (lowest_min k (min u v) us)

lowest_on : (k : ℕ) (a b : List ℕ) → lowest_from k (a ++ b) ≡ lowest_from (lowest_from k a) b
unfolding lowest_from
lowest_on k [] b = refl
lowest_on k (u ∷ a) b = lowest_on (min k u) a b

pub lowest_append : (a b : List ℕ) → lowest_of (a ++ b) ≡ lowest_of_both (length a) (lowest_of a) (length b) (lowest_of b)
unfolding lowest_of lowest_of_both lowest_from
lowest_append [] b = refl
lowest_append (u ∷ a) [] = rw (eqb-suc-zero (length a)) (lowest_on u a [])
lowest_append (u ∷ a) (v ∷ b) = rw (eqb-suc-zero (length a), eqb-suc-zero (length b)) (lowest_on u a (v ∷ b) ∙ lowest_min (lowest_from u a) v b)

pub highest_append : (a b : List ℕ) → highest_of (a ++ b) ≡ max (highest_of a) (highest_of b)
unfolding highest_of
highest_append [] b = omega arith
highest_append (u ∷ a) b = rw (highest_append a b) (sym (max_assoc u (highest_of a) (highest_of b)))

pub band_append : (k : ℕ) (a b : List ℕ) → in_band k (a ++ b) ≡ in_band k a + in_band k b
unfolding in_band
band_append k [] b = sym (zero-add (in_band k b))
band_append k (u ∷ a) b = rw (band_append k a b) (sym (add_assoc (cond (eqb (band_of u) k) 1 0) (in_band k a) (in_band k b)))

-- band k of figures
pub band_at : (us : List ℕ) (k : ℕ) → k < band_number → get_or (tab (λ b. in_band b us) band_number 0) k 0 ≡ in_band k us
band_at us k h = get_or_tab (λ b. in_band b us) band_number 0 k 0 h ∙ ap (λ (j : ℕ). in_band j us) (zero-add k)

bands_append : (a b : List ℕ)
    → tab (λ k. in_band k (a ++ b)) band_number 0
    ≡ tab (λ k. get_or (tab (λ j. in_band j a) band_number 0) k 0 + get_or (tab (λ j. in_band j b) band_number 0) k 0) band_number 0
bands_append a b =
    tab_same (λ k. in_band k (a ++ b)) (λ k. get_or (tab (λ j. in_band j a) band_number 0) k 0 + get_or (tab (λ j. in_band j b) band_number 0) k 0) band_number 0
    (λ k p q. band_append k a b ∙ sym (ap₂ (λ (x y : ℕ). x + y) (band_at a k q) (band_at b k q)))

pub figures_joined : (a b : List ℕ) → figures_of (a ++ b) ≡ joined_figures (figures_of a) (figures_of b)
unfolding figures_of joined_figures
figures_joined a b = rw (length-append a b, sum_append a b, lowest_append a b, highest_append a b, bands_append a b) refl

-- the same of lights
pub each_append : (a b : List Float) → units_each (a ++ b) ≡ units_each a ++ units_each b
unfolding units_each
each_append [] b = refl
each_append (x ∷ a) b = ap (λ (us : List ℕ). units_of x ∷ us) (each_append a b)

pub lights_joined : (a b : List Float) → light_figures (a ++ b) ≡ joined_figures (light_figures a) (light_figures b)
lights_joined a b = rw (each_append a b) (figures_joined (units_each a) (units_each b))

-- ---- bands

other : (a b : ℕ) → a ≤ b → (a ≡ b → ⊥) → a < b
other a b p q = ⊎_elim (λ e. absurd (q e)) (λ l. l) (eq-or-lt_of_le p)

-- a light of exactly 1 falls in the last band
pub one_last : band_of (units_of one32) ≡ last_band
unfolding band_of
one_last = rw one_units refl

-- below that, band b holds the units from b·2^20 up to the next band's
pub band_holds : (u : ℕ) → u < most_units → (band_of u * band_width ≤ u) × (u < (band_of u + 1) * band_width)
unfolding band_of
band_holds u h = rw (ne_eqb u most_units (λ e. omega arith)) (omega arith, omega arith)

pub band_within : (u : ℕ) → u ≤ most_units → band_of u < band_number
unfolding band_of
band_within u h = go (eqb u most_units) refl
  where
    go : (b : Bool) → eqb u most_units ≡ b → cond b last_band (u / band_width) < band_number
    go true e = omega arith
    go false e = omega (arith, other u most_units h (eqb-false u most_units e))

-- no band from i on is k, where k is below them
marked_never : (k n i : ℕ) → k < i → sum_of (tab (λ b. cond (eqb k b) 1 0) n i) ≡ 0
unfolding sum_of tab
marked_never k zero i h = refl
marked_never k (suc n) i h = rw (ne_eqb k i (λ e. omega arith), marked_never k n (i + 1) (omega arith)) refl

-- one of n bands from i on is k
marked_once : (k n i : ℕ) → i ≤ k → k < i + n → sum_of (tab (λ b. cond (eqb k b) 1 0) n i) ≡ 1
unfolding sum_of tab
marked_once k zero i p q = absurd (omega arith)
marked_once k (suc n) i p q = go (eqb k i) refl (λ l. marked_once k n (i + 1) l (omega arith))
  where
    go : (b : Bool) → eqb k i ≡ b → (i + 1 ≤ k → sum_of (tab (λ j. cond (eqb k j) 1 0) n (i + 1)) ≡ 1) → cond b 1 0 + sum_of (tab (λ j. cond (eqb k j) 1 0) n (i + 1)) ≡ 1
    go true e rest = rw (marked_never k n (i + 1) (omega (arith, eqb-true k i e))) refl
    go false e rest = rw (rest (omega (arith, other i k p (λ g. eqb-false k i e (sym g))))) refl

sum_of_sums : (f g : ℕ → ℕ) (n i : ℕ) → sum_of (tab (λ b. f b + g b) n i) ≡ sum_of (tab f n i) + sum_of (tab g n i)
unfolding sum_of tab
sum_of_sums f g zero i = refl
sum_of_sums f g (suc n) i = rw (sum_of_sums f g n (i + 1)) (omega arith)

no_bands : (n i : ℕ) → sum_of (tab (λ b. in_band b []) n i) ≡ 0
unfolding sum_of tab in_band
no_bands zero i = refl
no_bands (suc n) i = rw (no_bands n (i + 1)) refl

rest_units_lem : (u : ℕ) (us : List ℕ) → AllUnits (u ∷ us) → AllUnits us
rest_units_lem u us h i l = h (suc i) (omega arith)

-- "the bands add up to the voxels"
pub bands_voxels : (us : List ℕ) → AllUnits us → sum_of (figures_of us).bands ≡ (figures_of us).voxels
unfolding figures_of in_band
bands_voxels us h = go us h
  where
    go : (us : List ℕ) → AllUnits us → sum_of (tab (λ b. in_band b us) band_number 0) ≡ length us
    go [] h = no_bands band_number 0
    go (u ∷ us) h =
        sum_of_sums (λ b. cond (eqb (band_of u) b) 1 0) (λ b. in_band b us) band_number 0
        ∙ rw (marked_once (band_of u) band_number 0 (omega arith) (band_within u (h 0 (omega arith))), go us (rest_units_lem u us h)) (omega arith)

-- ---- the lowest and the highest

from_below : (k : ℕ) (us : List ℕ) → lowest_from k us ≤ k
unfolding lowest_from
from_below k [] = omega arith
from_below k (u ∷ us) = omega (arith, from_below (min k u) us)

from_all : (k : ℕ) (us : List ℕ) (i : ℕ) → i < length us → lowest_from k us ≤ get_or us i 0
unfolding lowest_from
from_all k [] i h = absurd (omega arith)
from_all k (u ∷ us) zero h = omega (arith, from_below (min k u) us)
from_all k (u ∷ us) (suc i) h = from_all (min k u) us i (omega arith)

-- none is below the lowest
pub lowest_least : (us : List ℕ) (i : ℕ) → i < length us → lowest_of us ≤ get_or us i 0
unfolding lowest_of
lowest_least [] i h = absurd (omega arith)
lowest_least (u ∷ us) zero h = from_below u us
lowest_least (u ∷ us) (suc i) h = from_all u us i (omega arith)

-- and none above the highest
pub highest_most : (us : List ℕ) (i : ℕ) → i < length us → get_or us i 0 ≤ highest_of us
unfolding highest_of
highest_most [] i h = absurd (omega arith)
highest_most (u ∷ us) zero h = le-max_left u (highest_of us)
highest_most (u ∷ us) (suc i) h = le_trans (highest_most us i (omega arith)) (le-max_right u (highest_of us))

-- each is one of the units
pub lowest_one : (us : List ℕ) → 0 < length us → (i : ℕ) × (i < length us) × (get_or us i 0 ≡ lowest_of us)
unfolding lowest_of lowest_from
lowest_one [] h = absurd (omega arith)
lowest_one (u ∷ us) h = from u us
  where
    first : (u v : ℕ) (us : List ℕ) (k : ℕ) (b : Bool) → leb u v ≡ b → min u v ≡ k → (i : ℕ) × (i < length (u ∷ v ∷ us)) × (get_or (u ∷ v ∷ us) i 0 ≡ k)
    first u v us k true e f = (0, omega arith, omega (arith, leb-true u v e))
    first u v us k false e f = (1, omega arith, omega (arith, leb-false u v e))

    on : (u v : ℕ) (us : List ℕ) (k i : ℕ) → i < length (min u v ∷ us) → get_or (min u v ∷ us) i 0 ≡ k → (j : ℕ) × (j < length (u ∷ v ∷ us)) × (get_or (u ∷ v ∷ us) j 0 ≡ k)
    on u v us k zero h e = first u v us k (leb u v) refl e
    on u v us k (suc i) h e = (suc (suc i), omega arith, e)

    from : (u : ℕ) (us : List ℕ) → (i : ℕ) × (i < length (u ∷ us)) × (get_or (u ∷ us) i 0 ≡ lowest_from u us)
    from u [] = (0, omega arith, refl)
    from u (v ∷ us) = let r = from (min u v) us in on u v us (lowest_from (min u v) us) r.0 r.1 r.2

pub highest_one : (us : List ℕ) → 0 < length us → (i : ℕ) × (i < length us) × (get_or us i 0 ≡ highest_of us)
unfolding highest_of
highest_one [] h = absurd (omega arith)
highest_one (u ∷ []) h = (0, omega arith, omega arith)
highest_one (u ∷ v ∷ us) h = let r = highest_one (v ∷ us) (omega arith) in go r.0 r.1 r.2 (leb (highest_of (v ∷ us)) u) refl
  where
    go : (i : ℕ) → i < length (v ∷ us) → get_or (v ∷ us) i 0 ≡ highest_of (v ∷ us) → (b : Bool) → leb (highest_of (v ∷ us)) u ≡ b
        → (j : ℕ) × (j < length (u ∷ v ∷ us)) × (get_or (u ∷ v ∷ us) j 0 ≡ max u (highest_of (v ∷ us)))
    go i l e true f = (0, omega arith, sym (max-eq_left (leb-true _ _ f)))
    go i l e false f = (suc i, omega arith, e ∙ sym (max-eq_right (le_of_lt (leb-false _ _ f))))

-- ---- how large figures get

each_most : (us : List ℕ) → AllUnits us → sum_of us ≤ length us * most_units
unfolding sum_of
each_most [] h = omega arith
each_most (u ∷ us) h = rw (suc-mul (length us) most_units) (omega (arith, h 0 (omega arith), each_most us (rest_units_lem u us h)))

band_most : (k : ℕ) (us : List ℕ) → in_band k us ≤ length us
unfolding in_band
band_most k [] = omega arith
band_most k (u ∷ us) = go (eqb (band_of u) k) (band_most k us)
  where
    go : (b : Bool) → in_band k us ≤ length us → cond b 1 0 + in_band k us ≤ suc (length us)
    go true h = omega arith
    go false h = omega arith

-- up to 2^32 voxels, which 65,536 files of 65,536 bytes never have, the sum stays below 2^57
pub figures_sized : (us : List ℕ) → AllUnits us → length us ≤ most_voxels → FiguresSized (figures_of us)
unfolding figures_of
figures_sized us h l =
    record {
      voxels = l;
      sum = each_most us h;
      sixteen = length_tab (λ b. in_band b us) band_number 0;
      band = λ b. go b (leb band_number b) refl;
    }
  where
    go : (k : ℕ) (b : Bool) → leb band_number k ≡ b → get_or (tab (λ j. in_band j us) band_number 0) k 0 ≤ length us
    go k true e = rw (get_or-eq_default (tab (λ j. in_band j us) band_number 0) 0 {n = k} (rw (length_tab (λ j. in_band j us) band_number 0) (leb-true band_number k e))) (omega arith)
    go k false e = rw (band_at us k (leb-false band_number k e)) (band_most k us)

-- and joined, as long as both have no more than that together
pub joined_sized : (f g : LightFigures) → FiguresSized f → FiguresSized g → f.voxels + g.voxels ≤ most_voxels → FiguresSized (joined_figures f g)
unfolding joined_figures
joined_sized f g p q h =
    record {
      voxels = h;
      sum = omega (arith, p.sum, q.sum);
      sixteen = length_tab (λ b. get_or f.bands b 0 + get_or g.bands b 0) band_number 0;
      band = λ k. go k (leb band_number k) refl;
    }
  where
    both : ℕ → ℕ
    both b = get_or f.bands b 0 + get_or g.bands b 0

    go : (k : ℕ) (t : Bool) → leb band_number k ≡ t → get_or (tab both band_number 0) k 0 ≤ f.voxels + g.voxels
    go k true e = rw (get_or-eq_default (tab both band_number 0) 0 {n = k} (rw (length_tab both band_number 0) (leb-true band_number k e))) (omega arith)
    go k false e = rw (get_or_tab both band_number 0 k 0 (leb-false band_number k e), zero-add k) (omega (arith, p.band k, q.band k))
