-- The numbers that the customer chose, each with his sentence. The code has them in src/lib.rt, under the same names. Assumes nothing.
use Rattle.std.specs.Prelude.{ℕ, ◌+◌, ◌*◌, Float}
use Rattle.names.specs.Bits.{lit}

-- ---- how many

-- "Axes rise to 1..128."
abbrev pub axis_limit : ℕ
axis_limit = 128

-- the most voxels that three such axes have
abbrev pub voxel_limit : ℕ
voxel_limit = axis_limit * axis_limit * axis_limit

-- "Triangles 0..4,096, materials 0..256."
abbrev pub triangle_limit : ℕ
triangle_limit = 4096

abbrev pub material_limit : ℕ
material_limit = 256

-- "0 opaque or 1 translucent"; "Material kind 2 is opaque from the front and absent from the back": a panel
abbrev pub opaque_kind : ℕ
opaque_kind = 0

abbrev pub panel_kind : ℕ
panel_kind = 2

-- "6 now from kind 3 up"
abbrev pub last_kind : ℕ
last_kind = 2

-- "Up to eight point lamps per hall"
abbrev pub lamp_limit : ℕ
lamp_limit = 8

-- ---- rays of a voxel

-- "an active one is taken exactly while at least 384 rays remain"; "With L lamps a voxel may cost 384+64L rays"
abbrev pub voxel_cost : ℕ → ℕ
voxel_cost lamps = 384 + 64 * lamps

-- one set of 64 directions, a ray along each: the least that an active voxel costs
abbrev pub primary_rays : ℕ
primary_rays = 64

-- nine sets of 64 directions, three numbers each: the table, and the sky
abbrev pub sky_numbers : ℕ
sky_numbers = 1728

-- ---- how large a number may be

-- "Corners and triangle points finite, magnitude at most 4,096"
abbrev pub point_limit : Float
point_limit = lit 0x45800000

-- "each computed voxel edge at least 1/1024"
abbrev pub edge_limit : Float
edge_limit = lit 0x3a800000

-- "Colours, ambient and sky numbers finite, at most 65,536 in magnitude"
abbrev pub colour_limit : Float
colour_limit = lit 0x47800000

-- "Light direction: components up to 4,096"
abbrev pub light_direction_limit : Float
light_direction_limit = lit 0x45800000

-- "Public ray: origin within ±65,536"
abbrev pub origin_limit : Float
origin_limit = lit 0x47800000

-- "direction components within ±2"
abbrev pub direction_limit : Float
direction_limit = lit 0x40000000

-- "shortest distance 0..65,536"
abbrev pub shortest_limit : Float
shortest_limit = lit 0x47800000

-- "Lookup positions within ±4,096"; of a lamp "a position not finite or beyond ±4,096"
abbrev pub position_limit : Float
position_limit = lit 0x45800000

-- "light or coefficient not finite or beyond ±2^64", and since document 02 light alone
abbrev pub light_limit : Float
light_limit = lit 0x5f800000

-- "13 lets a coefficient reach ±2^96, light as before"
abbrev pub coefficient_limit : Float
coefficient_limit = lit 0x6f800000

-- ---- rays

-- "A triangle whose cross has squared length at most 1e-12 is absent everywhere"; a light's direction has a "computed squared length above 1e-12";
-- "A lamp with n·l not above zero, or with squared distance at most 1e-12, fires no ray and adds nothing"
abbrev pub thin_limit : Float
thin_limit = lit 0x2b8cbccc

-- "Miss if |det|≤1e-8"
abbrev pub flat_limit : Float
flat_limit = lit 0x322bcc77

-- "a product at most 0.0001 gives 0"
abbrev pub faint_limit : Float
faint_limit = lit 0x38d1b717

-- "distances 1e-4 to infinity"
abbrev pub sun_shortest : Float
sun_shortest = lit 0x38d1b717

-- "from centre + light·(3·voxel diagonal)"
abbrev pub sun_diagonals : Float
sun_diagonals = lit 0x40400000

-- ---- box trees

-- "each triangle's box padded by 1e-5 lies inside its leaf's"
abbrev pub box_padding : Float
box_padding = lit 0x3727c5ac

-- "depth is at most 24"
abbrev pub depth_limit : ℕ
depth_limit = 24

-- "a builder that halves a run of triangles until four or fewer remain"
abbrev pub leaf_limit : ℕ
leaf_limit = 4

-- ---- masks

-- samples "clamped to 1..4096"
abbrev pub most_samples : ℕ
most_samples = 4096

-- the same as a float
abbrev pub most_target : Float
most_target = lit 0x45800000

-- "Active exactly when some occupied voxel lies within 2 on every axis."
abbrev pub reach : ℕ
reach = 2

-- ---- the volume file

-- "u16 entry count (5..16)"
abbrev pub least_entries : ℕ
least_entries = 5

abbrev pub most_entries : ℕ
most_entries = 16

-- "128..255 are foreign bodies of any length, skipped"
abbrev pub first_foreign : ℕ
first_foreign = 128

abbrev pub last_foreign : ℕ
last_foreign = 255

-- "`volstat` input above 65,536 bytes"
abbrev pub figures_limit : ℕ
figures_limit = 65536

-- ---- the league report

-- "counts each light in units of 2^-24": a light of 1 has so many, and no accepted light more
abbrev pub most_units : ℕ
most_units = 16777216

-- "sixteen band counts of width 2^20 units"
abbrev pub band_width : ℕ
band_width = 1048576

abbrev pub band_number : ℕ
band_number = 16

-- "each after a u32 length of at most 65,536"
abbrev pub length_limit : ℕ
length_limit = 65536

-- "At most 65,536 files"
abbrev pub files_limit : ℕ
files_limit = 65536
