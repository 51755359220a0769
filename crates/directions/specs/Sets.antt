-- Which set a voxel uses. "Voxel (x,y,z) uses set ((x%3)+3(y%3)+(z%3))%9."
use Rattle.std.specs.Prelude.{◌≡◌, refl, ℕ, ◌+◌, ◌*◌, ◌%◌, ◌<◌}
use Rattle.std.proofs.Common.{arith}

abbrev pub set_of : ℕ → ℕ → ℕ → ℕ
set_of x y z = (x % 3 + 3 * (y % 3) + z % 3) % 9

-- it is one of the nine
pub set_below : (x y z : ℕ) → set_of x y z < 9
set_below x y z = omega arith

-- "Set for voxel (2,2,2) is 1, as for (0,0,1)."
pub set_figures : (set_of 2 2 2 ≡ 1) × (set_of 0 0 1 ≡ 1)
set_figures = (refl, refl)
