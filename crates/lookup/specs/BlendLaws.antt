-- What the laws of proofs/BlendLaws.antt are said with. Definitions only.
use Rattle.std.specs.Prelude.{◌≡◌, Bool, true, T, pos, Float}
use Rattle.std.specs.Float.Ieee.Scale.{finite}
use Rattle.std.specs.Float.{fin, binary32}
use Rattle.std.specs.Float.Ieee.{fits}

-- a finite f32
pub record Plain (x : Float) : Type 0 where
  pub fit : T (fits binary32 x)
  pub number : finite x ≡ true

-- the same number; or both are zeros
pub data Kept : Float → Float → Type 0 where
  same : {a : Float} → Kept a a
  zeros : (s t : Bool) → Kept (fin s 0 (pos 0)) (fin t 0 (pos 0))
