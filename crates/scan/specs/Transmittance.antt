-- How much light passes along a ray. "Transmittance: start 1.0; hits by t, then by place; opaque gives 0; multiply; a product at most 0.0001
-- gives 0." A panel that counts is opaque, whatever its transmission. A hit's material is the one that its triangle uses.
use Rattle.std.specs.Prelude.{cond, List, [], ◌∷◌, ℕ, ◌+◌, ◌*◌, length, get_or, Float}
use Rattle.std.specs.Float.Ieee as Ieee
use Rattle.std.specs.Float.{nan, binary32}
use Rattle.names.specs.Bits.{zero32, one32}
use Rattle.names.specs.Numbers.{faint_limit}
use Rattle.names.specs.Scene.{Scene}
use Rattle.vectors.specs.declared.Ray.{Ray}
use Rattle.panels.specs.Panels.{kind_at, stops_light}
use Rattle.hits.specs.Hits.{hits_of, places_of}

-- the transmission of the material that the triangle at place i uses, the last of its seven numbers
abbrev pub transmission_at : List ℕ → List Float → ℕ → Float
transmission_at uses numbers i = get_or numbers (get_or uses i 0 * 7 + 6) nan

-- what is left of w after the hits at these places, in order
unfoldable pub pass_of : List ℕ → List ℕ → List Float → Float → List ℕ → Float
pass_of uses kinds numbers w [] = w
pass_of uses kinds numbers w (i ∷ is) =
    let x = Ieee.mul binary32 w (transmission_at uses numbers i) in
    cond (stops_light (kind_at uses kinds i)) zero32 (cond (Ieee.le x faint_limit) zero32 (pass_of uses kinds numbers x is))

unfoldable pub transmittance_of : Scene → Ray → Float
transmittance_of scene ray =
    pass_of scene.uses scene.kinds scene.numbers one32
    (places_of (hits_of scene ray (length scene.uses)))
