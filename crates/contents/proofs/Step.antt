-- One entry of the contents: what is left at i, by what is left at i + 1.
use Prim.Native.Nat.{ℕ, ◌+◌, ◌-◌, ◌<◌, ◌≤◌}
use mathlib.Core.Path.{◌≡◌, refl, sym, ◌∙◌}
use mathlib.Core.Bool.{Bool, true, false, not, false≢true}
use mathlib.Core.List.{List}
use native.Mathlib.Omega.{arith}
use lib.Dec.{eqb}
use lib.ListN.{length}
use Rattle.contents.proofs.ContentsLaws.{contents_step}
use Rattle.contents.specs.Contents.{entry_kind_at, offset_at, length_at, entry_good, contents_from}

-- ---- a test, as `if !..` leaves it

pub held : (r g : Bool) → r ≡ g → not r ≡ false → true ≡ g
held true g e h = e
held false g e h = absurd (false≢true (sym h))

pub failed : (r g : Bool) → r ≡ g → not r ≡ true → false ≡ g
failed true g e h = absurd (false≢true h)
failed false g e h = e

-- ----

pub more : (s : List ℕ) (n to i previous start kind offset long : ℕ) (whole : Bool) → i < to
    → kind ≡ entry_kind_at s i → offset ≡ offset_at s i → long ≡ length_at s i → true ≡ entry_good kind previous offset start long i n
    → contents_from s n (to - i) i previous start ≡ whole → contents_from s n (to - (i + 1)) (i + 1) kind (start + long) ≡ whole
more s n to i previous start kind offset long whole h k o l g w =
    let f : true ≡ entry_good (entry_kind_at s i) previous (offset_at s i) start (length_at s i) i n = rw (k, o, l) at g in
    rw (k, l) (sym (contents_step s n to i previous start h ∙ rw (← f) refl) ∙ w)

pub none : (s : List ℕ) (n to i previous start kind offset long : ℕ) (whole : Bool) → i < to
    → kind ≡ entry_kind_at s i → offset ≡ offset_at s i → long ≡ length_at s i → false ≡ entry_good kind previous offset start long i n
    → contents_from s n (to - i) i previous start ≡ whole → false ≡ whole
none s n to i previous start kind offset long whole h k o l g w =
    let f : false ≡ entry_good (entry_kind_at s i) previous (offset_at s i) start (length_at s i) i n = rw (k, o, l) at g in
    sym (contents_step s n to i previous start h ∙ rw (← f) refl) ∙ w

pub done : (s : List ℕ) (n to i previous start : ℕ) (whole : Bool) → to ≤ i → contents_from s n (to - i) i previous start ≡ whole → eqb start (length s) ≡ whole
unfolding contents_from
done s n to i previous start whole h w = let z : to - i ≡ 0 = omega arith in rw z at w
