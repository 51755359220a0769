-- The figures of a list of lights, each counted in units: "voxels, sum of units, lowest and highest in units, and sixteen band counts of width 2^20 units,
-- exactly 2^24 falling in the last". Of no light all are 0. Figures are joined without the lights: specs/FiguresLaws.antt has that this gives the figures
-- of both lists put together. Definitions only. Assumes nothing.
use Rattle.std.specs.Prelude.{◌≡◌, cond, List, [], ◌∷◌, ℕ, ◌+◌, ◌*◌, ◌/◌, ◌<◌, ◌≤◌, min, max, eqb, length, get_or, Float}
use Rattle.names.specs.Numbers.{most_units, band_width, band_number}
use Rattle.lists.specs.Fold.{tab}
use Rattle.light_units.specs.Units.{units_of}
use Rattle.light_figures.specs.declared.LightFigures.{LightFigures}

-- ---- of a list of units

abbrev pub last_band : ℕ
last_band = 15

unfoldable pub band_of : ℕ → ℕ
band_of u = cond (eqb u most_units) last_band (u / band_width)

unfoldable pub sum_of : List ℕ → ℕ
sum_of [] = 0
sum_of (u ∷ us) = u + sum_of us

-- the lowest of k and these
unfoldable pub lowest_from : ℕ → List ℕ → ℕ
lowest_from k [] = k
lowest_from k (u ∷ us) = lowest_from (min k u) us

-- begun at the first; "none gives .. zeros"
unfoldable pub lowest_of : List ℕ → ℕ
lowest_of [] = 0
lowest_of (u ∷ us) = lowest_from u us

unfoldable pub highest_of : List ℕ → ℕ
highest_of [] = 0
highest_of (u ∷ us) = max u (highest_of us)

-- how many fall in band b
unfoldable pub in_band : ℕ → List ℕ → ℕ
in_band b [] = 0
in_band b (u ∷ us) = cond (eqb (band_of u) b) 1 0 + in_band b us

unfoldable pub figures_of : List ℕ → LightFigures
figures_of us =
    record {
      voxels = length us;
      sum = sum_of us;
      lowest = lowest_of us;
      highest = highest_of us;
      bands = tab (λ b. in_band b us) band_number 0;
    }

-- ---- of a list of lights

unfoldable pub units_each : List Float → List ℕ
units_each [] = []
units_each (x ∷ lights) = units_of x ∷ units_each lights

abbrev pub light_figures : List Float → LightFigures
light_figures lights = figures_of (units_each lights)

-- ---- one light more, and two figures joined

-- the lowest of p and of q numbers, of which either may be none
unfoldable pub lowest_of_both : ℕ → ℕ → ℕ → ℕ → ℕ
lowest_of_both p a q b = cond (eqb p 0) b (cond (eqb q 0) a (min a b))

unfoldable pub joined_figures : LightFigures → LightFigures → LightFigures
joined_figures f g =
    record {
      voxels = f.voxels + g.voxels;
      sum = f.sum + g.sum;
      lowest = lowest_of_both f.voxels f.lowest g.voxels g.lowest;
      highest = max f.highest g.highest;
      bands = tab (λ b. get_or f.bands b 0 + get_or g.bands b 0) band_number 0;
    }

-- ---- how large figures get

-- room for 65,536 files of as many bytes: no counter reaches 2^57
abbrev pub most_voxels : ℕ
most_voxels = 4294967296

pub record FiguresSized (f : LightFigures) : Type 0 where
  pub voxels : f.voxels ≤ most_voxels
  pub sum : f.sum ≤ f.voxels * most_units
  pub sixteen : length f.bands ≡ band_number
  pub band : (b : ℕ) → get_or f.bands b 0 ≤ f.voxels

-- two lists of bands can be added
abbrev pub BandsFit : List ℕ → List ℕ → Type 0
BandsFit p q = (b : ℕ) → get_or p b 0 + get_or q b 0 ≤ most_voxels

-- none has more units than a light of 1
abbrev pub AllUnits : List ℕ → Type 0
AllUnits us = (i : ℕ) → i < length us → get_or us i 0 ≤ most_units
