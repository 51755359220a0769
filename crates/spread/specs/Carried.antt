-- What a begun bake hands on from call to call. proofs/Carried.antt says that it is the same wherever the calls are made.
use Rattle.std.specs.Prelude.{◌≡◌, List, [], ℕ, ◌<◌}
use Rattle.spread.specs.declared.Progress.{Progress}
use Rattle.spread.specs.Spread.{progress_of, Bake, started, unbroken, costs, stands}

module _ {A : Type 0} (b : Bake A) where
  -- what a begun bake carries on: short of the end the voxels below next as they stand, the others ambient, and the rays fired for them; then the unbroken
  -- bake's progress and volume, which hang on no scratch
  pub data Carried : Progress → List A → Type 0 where
    short : {p : Progress} {v : List A} → p.next < b.count → p.rays ≡ costs b p.next 0 → started b p.next v ≡ stands b p.next → Carried p v
    over : {p : Progress} {v : List A} → p ≡ progress_of b.count (costs b b.count 0) → v ≡ (unbroken b []).volume → Carried p v
