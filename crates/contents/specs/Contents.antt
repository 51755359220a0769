-- "`VGRD`, three u16 axes, u16 entry count (5..16); then the table of contents, entries of u32 kind, u32 offset (from the file's
-- first byte), u32 length; then bodies in that order, no gaps, nothing after. Kinds ascend strictly: 1 light, 2 SH4, 3 active,
-- 4 occupied, 5 six corner floats, all required; 128..255 are foreign bodies of any length, skipped; every other kind is refused."
-- Kinds that ascend and hold 1 to 5 begin with them, so entry i is judged by its place (`contents_in_words` of volume_laws shows both ways). Offsets and
-- lengths are whole numbers here: their sums cannot wrap. Assumes nothing.
use Rattle.std.specs.Prelude.{Bool, false, cond, ◌&&◌, List, [], ◌∷◌, ◌++◌, ℕ, zero, suc, ◌+◌, ◌*◌, leb, ltb, eqb, length, get_or}
use Rattle.names.specs.Numbers.{least_entries, most_entries, first_foreign, last_foreign}
use Rattle.bytes_le.specs.Bytes.{u16_at, u32_at, bytes2, bytes4}
use Rattle.grid.specs.declared.Axes.{Axes}
use Rattle.contents.specs.declared.Kind.{Kind}
use Rattle.contents.specs.declared.Kind.TheVariants.{Light, Coefficients, Active, Occupied, Corners, Foreign, Refused}

-- ---- the head: twelve bytes

-- VGRD
abbrev pub mark : List ℕ
mark = 86 ∷ 71 ∷ 82 ∷ 68 ∷ []

unfoldable pub marked : List ℕ → Bool
marked s = ((eqb (get_or s 0 0) 86 && eqb (get_or s 1 0) 71) && eqb (get_or s 2 0) 82) && eqb (get_or s 3 0) 68

abbrev pub axes_at : List ℕ → Axes
axes_at s = record { width = u16_at s 4; height = u16_at s 6; depth = u16_at s 8 }

abbrev pub entries_at : List ℕ → ℕ
entries_at s = u16_at s 10

-- where the bodies begin
abbrev pub bodies_from : ℕ → ℕ
bodies_from entries = 12 + entries * 12

-- head and contents are there
unfoldable pub headed : List ℕ → Bool
headed s =
    leb 12 (length s) && (marked s && (leb least_entries (entries_at s) && (leb (entries_at s) most_entries && leb (bodies_from (entries_at s)) (length s))))

-- ---- the contents: twelve bytes an entry

abbrev pub entry_kind_at : List ℕ → ℕ → ℕ
entry_kind_at s i = u32_at s (12 + i * 12)

abbrev pub offset_at : List ℕ → ℕ → ℕ
offset_at s i = u32_at s (12 + i * 12 + 4)

abbrev pub length_at : List ℕ → ℕ → ℕ
length_at s i = u32_at s (12 + i * 12 + 8)

unfoldable pub kind_of : ℕ → Kind
kind_of k =
    cond (eqb k 1) Light
    (cond (eqb k 2) Coefficients
    (cond (eqb k 3) Active
    (cond (eqb k 4) Occupied
    (cond (eqb k 5) Corners
    (cond (leb first_foreign k && leb k last_foreign) Foreign Refused)))))

-- entry i may be of this kind and so long, in a file of n voxels
unfoldable pub body_fits : Kind → ℕ → ℕ → ℕ → Bool
body_fits Light i long n = eqb i 0 && eqb long (n * 4)
body_fits Coefficients i long n = eqb i 1 && eqb long (n * 64)
body_fits Active i long n = eqb i 2 && eqb long n
body_fits Occupied i long n = eqb i 3 && eqb long n
body_fits Corners i long n = eqb i 4 && eqb long 24
body_fits Foreign i long n = leb 5 i
body_fits Refused i long n = false

-- entry i, after one of kind `previous` whose body ends where `start` is
unfoldable pub entry_good : ℕ → ℕ → ℕ → ℕ → ℕ → ℕ → ℕ → Bool
entry_good kind previous offset start long i n = ltb previous kind && (eqb offset start && body_fits (kind_of kind) i long n)

-- k entries from i on, and nothing after the last body
unfoldable pub contents_from : List ℕ → ℕ → ℕ → ℕ → ℕ → ℕ → Bool
contents_from s n zero i previous start = eqb start (length s)
contents_from s n (suc k) i previous start =
    entry_good (entry_kind_at s i) previous (offset_at s i) start (length_at s i) i n
    && contents_from s n k (i + 1) (entry_kind_at s i) (start + length_at s i)

abbrev pub contents_good : List ℕ → ℕ → ℕ → Bool
contents_good s entries n = contents_from s n entries 0 0 (bodies_from entries)

-- ---- what the writer writes: five entries

abbrev pub head_of : Axes → List ℕ
head_of a = mark ++ (bytes2 a.width ++ (bytes2 a.height ++ (bytes2 a.depth ++ bytes2 5)))

abbrev pub entry_of : ℕ → ℕ → ℕ → List ℕ
entry_of kind offset long = bytes4 kind ++ (bytes4 offset ++ bytes4 long)
