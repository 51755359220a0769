-- Gather (document 01, module 6). A voxel looks along its set's 64 directions, from its centre moved by the primary bias. What it meets
-- sends back the light of sun, sky and lamps, where it meets nothing the sky does, and the radiance is projected onto four coefficients. One fold gives the sums, the
-- misses and the rays: a ray is counted where it is traced. gi.rs decides every order. Definitions only.
use Rattle.std.specs.Prelude.{Option, None, Some, ◌≡◌, List, [], ◌∷◌, ℕ, ◌+◌, ◌*◌, ◌<◌, ◌≤◌, length, get_or, set, Float}
use Rattle.std.specs.Float.Ieee as Ieee
use Rattle.std.specs.Float.{nan, binary32}
use Rattle.names.specs.Bits.{lit, zero32}
use Rattle.names.specs.Numbers.{primary_rays, lamp_limit, sky_numbers}
use Rattle.names.specs.Scene.{Scene, Sound, hit_room}
use Rattle.lists.specs.Fold.{fold}
use Rattle.vectors.specs.Vectors.{normal_v}
use Rattle.vectors.specs.declared.Vec3.{Vec3}
use Rattle.vectors.specs.declared.Ray.{Ray}
use Rattle.directions.specs.Table.{directions}
use Rattle.directions.specs.Sets.{set_of}
use Rattle.grid.specs.declared.Axes.{Axes}
use Rattle.grid.specs.declared.Corners.{Corners}
use Rattle.grid.specs.Grid.{AxesWithin, voxels, x_of, y_of, z_of, float_of, edges_of, centre_of, diagonal_of, smallest_edge_of}
use Rattle.limits.specs.declared.Light.{Light}
use Rattle.limits.specs.declared.Ambient.{Ambient}
use Rattle.limits.specs.Limits.{lamp_count}
use Rattle.vectors.specs.Places.{vec_at}
use Rattle.scan.specs.Nearest.{nearest_of}
use Rattle.scan.specs.declared.PlacedHit.{PlacedHit}
use Rattle.harmonics.specs.declared.Coefficients.{Coefficients}
use Rattle.harmonics.specs.Harmonics.{coefficients, zero_v, added_to, irradiance_of, raised_of, floored_of}
use Rattle.vectors.specs.Rays.{ray_from}
use Rattle.bounce.specs.Biases.{biases_of}
use Rattle.surface.specs.declared.Setting.{Setting}
use Rattle.surface.specs.declared.Traced.{Traced}
use Rattle.surface.specs.Surface.{surface_of, bounced_by}
use Rattle.gather.specs.declared.Incoming.{Incoming}
use Rattle.gather.specs.declared.Gathering.{Gathering}

-- ---- what is handed in

pub record GatherInput : Type 0 where
  pub axes : Axes
  pub corners : Corners
  pub scene : Scene
  pub light : Light
  pub ambient : Ambient
  -- a triple for each direction of the table
  pub sky : List Float
  -- six numbers a lamp: position, colour
  pub lamps : List Float
  -- one a voxel
  pub lights : List Float

abbrev pub gather_of : Axes → Corners → Scene → Light → Ambient → List Float → List Float → List Float → GatherInput
gather_of a c s l m k p n = record { axes = a; corners = c; scene = s; light = l; ambient = m; sky = k; lamps = p; lights = n }

-- what the rows of the public call have shown before voxel i is gathered into a part of o numbers, with hit scratch of d and p
pub record Gatherable (g : GatherInput) (i d p o : ℕ) : Type 0 where
  pub axes : AxesWithin g.axes
  pub scene : Sound g.scene
  pub sky : length g.sky ≡ sky_numbers
  pub lamps : lamp_count g.lamps ≤ lamp_limit
  pub lights : length g.lights ≡ voxels g.axes
  pub voxel : i < voxels g.axes
  pub distances : hit_room g.scene ≤ d
  pub places : hit_room g.scene ≤ p
  pub out : o ≡ 16

-- ---- one primary ray

abbrev pub incoming : Vec3 → ℕ → ℕ → Incoming
incoming v m n = record { radiance = v; misses = m; rays = n }

abbrev pub gathering : Coefficients → ℕ → ℕ → Gathering
gathering c m n = record { sums = c; misses = m; rays = n }

abbrev pub ambient_of : Ambient → Coefficients
ambient_of a = coefficients a.c0 a.c1 a.c2 a.c3

-- what the surfaces are lit by, and the biases, from a voxel's edges
unfoldable pub setting_of : Vec3 → Light → Ambient → Setting
setting_of edges light ambient =
    record { biases = biases_of (diagonal_of edges) (smallest_edge_of edges); toward = normal_v light.direction; colour = light.colour; ambient = ambient_of ambient }

-- direction k of the table
abbrev pub direction_at : ℕ → Vec3
direction_at k = vec_at directions (k * 3)

-- from the centre, moved along the direction by the primary bias
unfoldable pub primary_ray : Setting → Vec3 → Vec3 → Ray
primary_ray setting centre direction = ray_from centre direction setting.biases.primary setting.biases.shortest

-- what the surface at a place sends back along a ray that met it at a distance
abbrev pub sent_back : Scene → List Float → Setting → Ray → ℕ → Float → Traced
sent_back scene lamps setting ray place distance = bounced_by scene lamps setting (surface_of scene ray place distance setting.biases.hit)

-- what comes back along a ray: from the sky where nothing is met, else from the surface
unfoldable pub incoming_by : Scene → List Float → Setting → Ray → Vec3 → Option PlacedHit → Incoming
incoming_by scene lamps setting ray sky None = incoming sky 1 1
incoming_by scene lamps setting ray sky (Some met) =
    let sent = sent_back scene lamps setting ray met.place met.hit.t in
    incoming sent.light 0 (sent.rays + 1)

abbrev pub incoming_of : Scene → List Float → Setting → Ray → Vec3 → Incoming
incoming_of scene lamps setting ray sky = incoming_by scene lamps setting ray sky (nearest_of scene ray)

-- ---- a voxel

-- with what comes along direction k of the table; its sky is triple k
unfoldable pub gathered_along : Scene → List Float → Setting → Vec3 → List Float → ℕ → Gathering → Gathering
gathered_along scene lamps setting centre sky k s =
    let n = incoming_of scene lamps setting (primary_ray setting centre (direction_at k)) (vec_at sky (k * 3)) in
    gathering (added_to s.sums (direction_at k) n.radiance) (s.misses + n.misses) (s.rays + n.rays)

-- along the 64 directions that begin at `first`
abbrev pub along_from : Scene → List Float → Setting → Vec3 → List Float → ℕ → ℕ → Gathering → Gathering
along_from scene lamps setting centre sky first i s = gathered_along scene lamps setting centre sky (first + i) s

abbrev pub nothing_gathered : Gathering
nothing_gathered = gathering (coefficients zero_v zero_v zero_v zero_v) 0 0

unfoldable pub gathering_of : Scene → List Float → Setting → Vec3 → List Float → ℕ → Gathering
gathering_of scene lamps setting centre sky first = fold (along_from scene lamps setting centre sky first) primary_rays 0 nothing_gathered

-- the set and the centre of voxel i
abbrev pub set_at : Axes → ℕ → ℕ
set_at a i = set_of (x_of a i) (y_of a i) (z_of a i)

abbrev pub centre_at : Corners → Axes → ℕ → Vec3
centre_at c a i = centre_of c a (x_of a i) (y_of a i) (z_of a i)

-- the fold of voxel i
unfoldable pub voxel_of : GatherInput → ℕ → Gathering
voxel_of g i =
    gathering_of g.scene g.lamps (setting_of (edges_of g.corners g.axes) g.light g.ambient) (centre_at g.corners g.axes i) g.sky (set_at g.axes i * primary_rays)

-- the rays that it takes
unfoldable pub cost_of : GatherInput → ℕ → ℕ
cost_of g i = (voxel_of g i).rays

-- irradiance, raised to 0, and blended towards the brightness floor where it is darker
unfoldable pub finished_of : Coefficients → Coefficients → Coefficients
finished_of sums ambient = floored_of (raised_of (irradiance_of sums)) ambient

-- a list with a colour and a fourth number from a place on
unfoldable pub with_four : List Float → ℕ → Vec3 → Float → List Float
with_four l at v w = set (set (set (set l at v.x) (at + 1) v.y) (at + 2) v.z) (at + 3) w

-- coefficient after coefficient, x, y, z and a fourth place: light, the part of the sky that is seen, 0, 0
unfoldable pub sixteen_of : Coefficients → Float → Float → List Float
sixteen_of c light seen =
    c.c0.x ∷ c.c0.y ∷ c.c0.z ∷ light ∷ c.c1.x ∷ c.c1.y ∷ c.c1.z ∷ seen ∷ c.c2.x ∷ c.c2.y ∷ c.c2.z ∷ zero32 ∷ c.c3.x ∷ c.c3.y ∷ c.c3.z ∷ zero32 ∷ []

-- misses/64
abbrev pub sky_seen : ℕ → Float
sky_seen misses = Ieee.div binary32 (float_of misses) (lit 0x42800000)

-- the sixteen numbers of voxel i
unfoldable pub gathered_of : GatherInput → ℕ → List Float
gathered_of g i =
    sixteen_of (finished_of (voxel_of g i).sums (ambient_of g.ambient)) (get_or g.lights i nan) (sky_seen (voxel_of g i).misses)

-- what a call answers and writes
pub record Gathered (g : GatherInput) (i r : ℕ) (out : List Float) : Type 0 where
  pub rays : r ≡ cost_of g i
  pub numbers : out ≡ gathered_of g i
