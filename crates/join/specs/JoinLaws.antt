-- The contract of the join leaves one result, a call is refused by row k exactly when that row holds and none before it, an accepted call has a mask and
-- lists that fit its grid, it leaves what it should voxel by voxel and number by number, and a good call is accepted.
use Rattle.std.specs.Prelude.{◌≡◌, Bool, true, false, not, ◌&&◌, ℕ, ◌+◌, ◌-◌, ◌*◌, ◌≤◌, ◌<◌, length, get_or, drop, Float}
use Rattle.std.proofs.Math.Path.{refl, sym, ap}
use Rattle.std.proofs.Common.{◌∙◌, arith, get_or-take, get_or-drop, eq-eqb, eqb-true, ltb-true, ltb-false, lt-ltb, le-ltb}
use Rattle.std.proofs.Math.Bool.{cond, and-false}
use mathlib.Core.List.{List, [], ◌∷◌, ◌++◌}
use Rattle.std.proofs.Math.Decide.{ℕ_discrete}
use Rattle.std.proofs.Math.Dec.{ltb}
use Rattle.std.specs.Float.{nan}
use Rattle.std.specs.Float.Ieee.{of_bits, of_fields, odd, neg, le, lt, eq}
use Rattle.std.proofs.lemmas.Bool.{not-false}
use Rattle.names.specs.Bits.{zero32, one32}
use Rattle.names.specs.Refusals.{first_of, RefusedBy, refused_by, kept, given}
use Rattle.names.specs.Passed.{passed, passes}
use Rattle.lists.specs.Any.{any}
use Rattle.lists.specs.Fold.{tab}
use Rattle.lists.specs.Some.{some}
use Rattle.lists.specs.Laid.{laid, replaced, voxel_part, laid_same}
use Rattle.grid.specs.declared.Axes.{Axes}
use Rattle.grid.specs.Grid.{voxels, AxesWithin}
use Rattle.limits.specs.Limits.{within, bad_axes, wrong_length, bad_coefficients}
use Rattle.limits.specs.LimitsLaws.{axes_row, either, any_of_three}
use Rattle.marks.specs.Marks.{is_marked}
use Rattle.words.specs.Words.{word_count, entries_of, unused_set, Tidy}
use Rattle.words.specs.ByWords.{next_from}
use Rattle.words.specs.NextLaws.{next_carries, next_there}
use Rattle.shares.specs.LaidBelow.{voxel_long, laid_parts, replaced_below}
use Rattle.shares.specs.Shares.{joined_by}
use Rattle.shares.specs.SharesLaws.{joined_voxel, length_joined}
use Rattle.join.specs.Join.{wrong_join_lists, bad_share, join_rows, join_refusal, joined_of, Joined}

-- ---- one result

pub record SameJoin (r r' : ℕ) (joined joined' : List Float) : Type 0 where
  pub same_answer : r ≡ r'
  pub same_joined : joined ≡ joined'

pub joined_once : (axes : Axes) (share : List ℕ) (unblurred joined : List Float) (r₁ r₂ : ℕ) (j₁ j₂ : List Float)
    → Joined axes share unblurred joined r₁ j₁ → Joined axes share unblurred joined r₂ j₂ → SameJoin r₁ r₂ j₁ j₂
joined_once axes share unblurred joined r₁ r₂ j₁ j₂ a b =
    let e : r₁ ≡ r₂ = a.answer ∙ sym b.answer in
    record { same_answer = e; same_joined = a.joined_after ∙ rw e (sym b.joined_after) }

-- ---- k is refused exactly when row k holds and none before it, and a call is accepted exactly when none holds

pub join_refused_by : (axes : Axes) (share : List ℕ) (unblurred joined : List Float) (r : ℕ) (joined' : List Float)
    → Joined axes share unblurred joined r joined' → RefusedBy (join_rows axes share unblurred joined) r
unfolding join_refusal
join_refused_by axes share unblurred joined r joined' p =
    refused_by (join_rows axes share unblurred joined) r (omega arith, (omega arith, (omega arith, tt))) p.answer

-- ---- what an accepted call has

pub record FittingShare (axes : Axes) (share : List ℕ) (unblurred joined : List Float) : Type 0 where
  pub axes_within : AxesWithin axes
  pub share_tidy : Tidy share (voxels axes)
  pub unblurred_fits : length unblurred ≡ voxels axes * 16
  pub joined_fits : length joined ≡ voxels axes * 16
  pub unblurred_good : bad_coefficients unblurred ≡ false

-- row 3 passed: each list has its length
join_lengths : (n : ℕ) (share : List ℕ) (unblurred joined : List Float) → wrong_join_lists n share unblurred joined ≡ false
    → (length share ≡ word_count n) × (length unblurred ≡ n * 16) × (length joined ≡ n * 16)
unfolding wrong_join_lists
join_lengths n share unblurred joined e =
    let p = (any_of_three (wrong_length (length share) (word_count n)) (wrong_length (length unblurred) (n * 16)) (wrong_length (length joined) (n * 16))).0 e in
    (eqb-true _ _ (not-false _ p.0), eqb-true _ _ (not-false _ p.1), eqb-true _ _ (not-false _ p.2))

pub wrong_lists_long : (n : ℕ) (share : List ℕ) (unblurred joined : List Float) → wrong_join_lists n share unblurred joined ≡ false → length share ≡ word_count n
wrong_lists_long n share unblurred joined e = (join_lengths n share unblurred joined e).0

pub join_fitting : (axes : Axes) (share : List ℕ) (unblurred joined : List Float) → join_refusal axes share unblurred joined ≡ 0
    → FittingShare axes share unblurred joined
unfolding join_refusal bad_share
join_fitting axes share unblurred joined e =
    let p = passed (join_rows axes share unblurred joined) (omega arith, (omega arith, (omega arith, tt))) e in
    let l = join_lengths (voxels axes) share unblurred joined p.1.0 in
    let c = (either (unused_set share (voxels axes)) (bad_coefficients unblurred)).0 p.1.1.0 in
    record {
      axes_within = (axes_row axes).0 p.0;
      share_tidy = record { long = l.0; clean = c.0 };
      unblurred_fits = l.1;
      joined_fits = l.2;
      unblurred_good = c.1;
    }

-- and what has it is accepted
pub join_accepted : (axes : Axes) (share : List ℕ) (unblurred joined : List Float) → FittingShare axes share unblurred joined
    → join_refusal axes share unblurred joined ≡ 0
unfolding join_refusal wrong_join_lists bad_share
join_accepted axes share unblurred joined f =
    passes (join_rows axes share unblurred joined) (
      (axes_row axes).1 f.axes_within,
      (
        (any_of_three _ _ _).1 (ap not (eq-eqb _ _ f.share_tidy.long), ap not (eq-eqb _ _ f.unblurred_fits), ap not (eq-eqb _ _ f.joined_fits)),
        ((either _ _).1 (f.share_tidy.clean, f.unblurred_good), tt),
      ),
    )

-- ---- what an accepted call leaves

pub record JoinedVoxels (axes : Axes) (share : List ℕ) (unblurred joined joined' : List Float) : Type 0 where
  pub long : length joined' ≡ voxels axes * 16
  -- voxel i's numbers are the share's where its entry of the mask is 1, and else what they were
  pub voxel : (i : ℕ) → i < voxels axes
      → voxel_part 16 i joined' ≡ cond (is_marked (entries_of share (voxels axes)) i) (voxel_part 16 i unblurred) (voxel_part 16 i joined)
  -- and so each of the sixteen
  pub number : (i c : ℕ) → i < voxels axes → c < 16
      → get_or joined' (i * 16 + c) nan ≡ get_or (cond (is_marked (entries_of share (voxels axes)) i) unblurred joined) (i * 16 + c) nan

number_of : (i c : ℕ) (l : List Float) → c < 16 → get_or (voxel_part 16 i l) c nan ≡ get_or l (i * 16 + c) nan
number_of i c l h = get_or-take 16 (drop (i * 16) l) c nan h ∙ get_or-drop (i * 16) l c nan

module _ (axes : Axes) (share : List ℕ) (unblurred joined : List Float) where
  abbrev share_has : ℕ → Bool
  share_has = is_marked (entries_of share (voxels axes))

  chosen : (x : Bool) (i c : ℕ) → c < 16 → get_or (cond x (voxel_part 16 i unblurred) (voxel_part 16 i joined)) c nan ≡ get_or (cond x unblurred joined) (i * 16 + c) nan
  chosen true i c h = number_of i c unblurred h
  chosen false i c h = number_of i c joined h

  pub join_voxels : (r : ℕ) (joined' : List Float) → Joined axes share unblurred joined r joined' → r ≡ 0 → JoinedVoxels axes share unblurred joined joined'
  join_voxels r joined' p z =
      let f = join_fitting axes share unblurred joined (sym p.answer ∙ z) in
      let e : joined' ≡ joined_of axes share unblurred joined = p.joined_after ∙ sym (given r _ joined z) in
      let one : (i : ℕ) → i < voxels axes → voxel_part 16 i joined' ≡ cond (share_has i) (voxel_part 16 i unblurred) (voxel_part 16 i joined)
      = λ i h. ap (voxel_part 16 i) e ∙ joined_voxel 16 (voxels axes) share_has unblurred joined f.unblurred_fits f.joined_fits i h in
      record {
        long = ap length e ∙ length_joined 16 (voxels axes) share_has unblurred joined f.unblurred_fits f.joined_fits;
        voxel = one;
        number = λ i c h k. sym (number_of i c joined' k) ∙ ap (λ (l : List Float). get_or l c nan) (one i h) ∙ chosen (share_has i) i c k;
      }

-- ---- how a call meets its contract

pub join_refused : (axes : Axes) (share : List ℕ) (unblurred joined : List Float) (r : ℕ) → r ≡ join_refusal axes share unblurred joined → (r ≡ 0 → ⊥)
    → Joined axes share unblurred joined r joined
join_refused axes share unblurred joined r e n = record { answer = e; joined_after = kept r _ joined n }

pub join_done : (axes : Axes) (share : List ℕ) (unblurred joined joined' : List Float) → 0 ≡ join_refusal axes share unblurred joined
    → joined' ≡ joined_of axes share unblurred joined
    → Joined axes share unblurred joined 0 joined'
join_done axes share unblurred joined joined' e l = record { answer = e; joined_after = l ∙ given 0 _ joined refl }

-- ---- how the copy goes, from mark to mark: below i all is joined, and i is marked or the end

module _ (n : ℕ) (has : ℕ → Bool) (from to : List Float) where
  abbrev below : ℕ → ℕ → Bool
  below i j = ltb j i && has j

  abbrev joined_below : ℕ → List Float
  joined_below i = joined_by 16 n (below i) from to

  pub record Copied (now : List Float) (i : ℕ) : Type 0 where
    pub done : now ≡ joined_below i
    pub inside : i ≤ n
    pub marked : i < n → has i ≡ true

  module _ (e : length from ≡ n * 16) (f : length to ≡ n * 16) where
    chosen_long : (i j : ℕ) → j < n → length (cond (below i j) (voxel_part 16 j from) (voxel_part 16 j to)) ≡ 16
    chosen_long i j h = go (below i j)
      where
        go : (x : Bool) → length (cond x (voxel_part 16 j from) (voxel_part 16 j to)) ≡ 16
        go true = voxel_long 16 n from e j h
        go false = voxel_long 16 n to f j h

    -- whether j lies below i and whether it lies below i + 1 differ at i alone
    below_other : (i j : ℕ) → (j ≡ i → ⊥) → ltb j i ≡ ltb j (i + 1)
    below_other i j ne = go (ltb j i) refl
      where
        go : (x : Bool) → ltb j i ≡ x → ltb j i ≡ ltb j (i + 1)
        go true p = p ∙ sym (lt-ltb j (i + 1) (omega (arith, ltb-true j i p)))
        go false p = p ∙ sym (le-ltb j (i + 1) (omega (arith, ne, ltb-false j i p)))

    below_none : to ≡ joined_below 0
    unfolding joined_by
    below_none = sym (laid_parts 16 n to f) ∙ laid_same _ _ n 0 (λ j p q. rw (le-ltb j 0 (omega arith)) refl)

    below_all : joined_below n ≡ joined_by 16 n has from to
    unfolding joined_by
    below_all = laid_same _ _ n 0 (λ j p q. rw (lt-ltb j n (omega arith)) refl)

    -- an unmarked voxel changes nothing
    below_skip : (i : ℕ) → has i ≡ false → joined_below i ≡ joined_below (i + 1)
    unfolding joined_by
    below_skip i none = laid_same _ _ n 0 (λ j p q. ap (λ (x : Bool). cond x (voxel_part 16 j from) (voxel_part 16 j to)) (same j (ℕ_discrete j i)))
      where
        same : (j : ℕ) → Dec (j ≡ i) → ltb j i && has j ≡ ltb j (i + 1) && has j
        same j (yes z) = rw (z, none, and-false (ltb i i), and-false (ltb i (i + 1))) refl
        same j (no ne) = ap (λ (x : Bool). x && has j) (below_other i j ne)

    -- a marked voxel is copied
    below_copy : (i : ℕ) → i < n → has i ≡ true → replaced 16 i (voxel_part 16 i from) (joined_below i) ≡ joined_below (i + 1)
    unfolding joined_by
    below_copy i h t =
        ap (λ (x : List Float). replaced 16 i x (joined_below i)) (sym there)
        ∙ replaced_below 16 n (λ j. cond (below i j) (voxel_part 16 j from) (voxel_part 16 j to)) (chosen_long i)
        (λ j. cond (below (i + 1) j) (voxel_part 16 j from) (voxel_part 16 j to)) i h
        (λ j ne. ap (λ (x : Bool). cond (x && has j) (voxel_part 16 j from) (voxel_part 16 j to)) (below_other i j ne))
      where
        there : cond (below (i + 1) i) (voxel_part 16 i from) (voxel_part 16 i to) ≡ voxel_part 16 i from
        there = rw (lt-ltb i (i + 1) (omega arith), t) refl

    -- from what is joined below i to the next mark
    on_to : (now : List Float) (i : ℕ) → i ≤ n → now ≡ joined_below i → Copied now (next_from has n (n - i) i)
    on_to now i h d =
        let k : i + (n - i) ≡ n = omega arith in
        let r = next_carries has n (λ j. (now ≡ joined_below j) × (j ≤ n)) (λ j l e p. (p.0 ∙ below_skip j e, omega arith)) (n - i) i k (d, h) in
        record { done = r.0; inside = r.1; marked = next_there has n (n - i) i k }

    pub copied_none : Copied to (next_from has n (n - 0) 0)
    copied_none = on_to to 0 (omega arith) below_none

    pub copied_next : (now : List Float) (i : ℕ) → i < n → Copied now i
        → Copied (replaced 16 i (voxel_part 16 i from) now) (next_from has n (n - (i + 1)) (i + 1))
    copied_next now i h c =
        on_to _ (i + 1) (omega arith) (ap (replaced 16 i (voxel_part 16 i from)) c.done ∙ below_copy i h (c.marked h))

    pub copied_all : (now : List Float) (i : ℕ) → n ≤ i → Copied now i → now ≡ joined_by 16 n has from to
    copied_all now i h c = let z : i ≡ n = omega (arith, c.inside) in c.done ∙ ap joined_below z ∙ below_all

    pub copied_long : (now : List Float) (i : ℕ) → Copied now i → length now ≡ n * 16
    copied_long now i c = ap length c.done ∙ length_joined 16 n (below i) from to e f

-- ---- a good call: of two voxels the share has the second

abbrev pair : Axes
pair = record { width = 2; height = 1; depth = 1 }

abbrev numbers : Float → ℕ → List Float
numbers x n = tab (λ i. x) n 0

pub second_accepted : join_refusal pair (2 ∷ []) (numbers one32 32) (numbers zero32 32) ≡ 0
unfolding join_refusal first_of bad_axes wrong_join_lists bad_share unused_set any bad_coefficients some within tab of_bits of_fields odd neg le lt eq
second_accepted = refl

pub second_joined : joined_of pair (2 ∷ []) (numbers one32 32) (numbers zero32 32) ≡ numbers zero32 16 ++ numbers one32 16
unfolding joined_by laid entries_of tab
second_joined = refl
