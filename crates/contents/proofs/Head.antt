-- The tests of the head, in the definition's order.
use Prim.Native.Nat.{ℕ, ◌+◌, ◌*◌, ◌<◌, ◌≤◌}
use mathlib.Core.Path.{◌≡◌}
use mathlib.Core.Bool.{true, false}
use mathlib.Core.List.{List}
use lib.Dec.{leb}
use lib.ListN.{length}
use borrow.Author.Tests.{le-leb, lt-leb}
use Rattle.contents.specs.Contents.{marked, entries_at, headed}

pub unmarked : (s : List ℕ) → 12 ≤ length s → false ≡ marked s → false ≡ headed s
unfolding headed
unmarked s h m = rw (le-leb 12 (length s) h, ← m)

pub few : (s : List ℕ) → 12 ≤ length s → true ≡ marked s → entries_at s < 5 → false ≡ headed s
unfolding headed
few s h m n = rw (le-leb 12 (length s) h, ← m, lt-leb 5 (entries_at s) n)

pub many : (s : List ℕ) → 12 ≤ length s → true ≡ marked s → 5 ≤ entries_at s → 16 < entries_at s → false ≡ headed s
unfolding headed
many s h m l n = rw (le-leb 12 (length s) h, ← m, le-leb 5 (entries_at s) l, lt-leb (entries_at s) 16 n)

pub sized : (s : List ℕ) (n : ℕ) → 12 ≤ length s → true ≡ marked s → 5 ≤ entries_at s → entries_at s ≤ 16 → n ≡ entries_at s → leb (12 + n * 12) (length s) ≡ headed s
unfolding headed
sized s n h m l u e = rw (le-leb 12 (length s) h, ← m, le-leb 5 (entries_at s) l, le-leb (entries_at s) 16 u, e)
