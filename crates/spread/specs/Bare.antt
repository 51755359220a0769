-- What the laws of proofs/Bare.antt are said with. Definitions only.
use Rattle.std.specs.Prelude.{Bool}
use mathlib.Core.List.{[]}
use Prim.Native.Nat.{ℕ, ◌-◌}
use Rattle.spread.specs.Spread.{Bake}

-- a bake of nothing but voxels and their costs
abbrev pub bare : ℕ → ℕ → (ℕ → Bool) → (ℕ → ℕ) → Bake Unit
bare count most active cost =
    record {
      count = count;
      size = 0;
      active = active;
      cost = cost;
      most = most;
      ambient = λ i. [];
      gathered = λ i. [];
      mean = λ v. v;
      refusal = λ s a. 0;
    }
