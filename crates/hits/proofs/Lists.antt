-- How the scratch lists go by one: what is carried up on insertion, where a hit's rank is found, and that the pair of lists then holds the hits.
use mathlib.Core.Path.{◌≡◌, refl, sym, ap, ◌∙◌}
use mathlib.Core.Bool.{Bool, true, false, cond, false≢true}
use mathlib.Core.Logic.{⊎_elim}
use mathlib.Core.List.{List, [], ◌∷◌, ◌++◌, append-nil}
use Prim.Native.Nat.{ℕ, zero, suc, ◌+◌, ◌-◌, ◌≤◌, ◌<◌, zero-le, suc-le-suc}
use native.Mathlib.Nat.{le_of_suc-le-suc, not-suc-le-zero, eq-or-lt_of_le}
use native.Mathlib.Numerals.{add-one}
use native.Mathlib.Omega.{arith}
use lib.ListN.{length, get_or, set, take, drop, take-append-drop, length-drop, drop_of_length-le}
use borrow.Rule.Slice.PartMut.{same_len_mid}
use lib.Seq.{paste, length_front, drop-cons, length-take-le, get_or-take, append_snoc, take_all, take_at, drop_at}
use lib.Ieee.{Float, nan}
use Rattle.std.proofs.lemmas.List.{take-take}
use Rattle.std.proofs.lemmas.List.Edits.{length-insert}
use Rattle.std.proofs.lemmas.Slice.{between_is}
use Rattle.hits.specs.Hits.{Struck, struck, before, insert_of, insert_at, rank_of, paired}
use Rattle.hits.specs.PairedLaws.{paired_append, stored}
use Rattle.hits.specs.Merge.{sort_of, insert_all, merge_of, takes_second, Numbers}
use Rattle.hits.specs.MergeLaws.{insert_all_append, merge_first, merge_second, merge_sorts, numbers_first, numbers_second}

-- what stands at place j and above is carried up by one, and x is stored there
module _ {A : Type 0} where
  carried : (s z : List A) (j n : ℕ) (x : A) → j < length s → set (take (suc j) s ++ take n (drop j s) ++ z) j x ≡ (take j s ++ (x ∷ take n (drop j s))) ++ z
  carried [] z j n x h = absurd (not-suc-le-zero h)
  carried (y ∷ s) z zero n x h = refl
  carried (y ∷ s) z (suc j) n x h = ap (λ (r : List A). y ∷ r) (carried s z j n x (le_of_suc-le-suc h))

  module _ (s : List A) (j m : ℕ) (x : A) (h : j ≤ m) (w : m < length s) where
    put_whole : set (paste s (j + 1) (drop j s) (m - j)) j x ≡ insert_at j x (take m s) ++ drop (m + 1) s
    unfolding insert_at
    put_whole =
        let e : j + 1 + (m - j) ≡ m + 1 = omega arith in
        rw (e, add-one j, take-take j m s h, ← between_is s j m) (carried s (drop (m + 1) s) j (m - j) x (omega arith))

    put_length : length (insert_at j x (take m s)) ≡ m + 1
    unfolding insert_at
    put_length = length-insert (take m s) j x (rw (length-take-le m s (omega arith)) h) ∙ omega (arith, length-take-le m s (omega arith))

    pub put_taken : take (m + 1) (set (paste s (j + 1) (drop j s) (m - j)) j x) ≡ insert_at j x (take m s)
    put_taken = rw put_whole (take_at (insert_at j x (take m s)) _ (m + 1) put_length)

    pub put_dropped : drop (m + 1) (set (paste s (j + 1) (drop j s) (m - j)) j x) ≡ drop (m + 1) s
    put_dropped = rw put_whole (drop_at (insert_at j x (take m s)) _ (m + 1) put_length)

-- the search for a rank, one hit on
pub rank_step : (h : Struck) (ts : List Float) (is : List ℕ) (j : ℕ) → j < length ts → j < length is
    → rank_of h (paired (drop j ts) (drop j is))
    ≡ cond (before h (struck (get_or ts j nan) (get_or is j 0))) 0 (suc (rank_of h (paired (drop (j + 1) ts) (drop (j + 1) is))))
unfolding rank_of paired
rank_step h ts is j p q = rw (add-one, drop-cons ts j nan, drop-cons is j 0)

rank_most : (h : Struck) (ts : List Float) (is : List ℕ) → rank_of h (paired ts is) ≤ length ts
unfolding rank_of paired
rank_most h [] is = zero-le
rank_most h (t ∷ ts) [] = zero-le
rank_most h (t ∷ ts) (i ∷ is) = by (before h (struck t i)) (rank_most h ts is)
  where
    by : (b : Bool) → rank_of h (paired ts is) ≤ length ts → cond b zero (suc (rank_of h (paired ts is))) ≤ suc (length ts)
    by true g = zero-le
    by false g = suc-le-suc g

-- a rank among the first m is at most m
pub rank_within : (h : Struck) (ts : List Float) (is : List ℕ) (m : ℕ) → m ≤ length ts → rank_of h (paired (take m ts) (take m is)) ≤ m
rank_within h ts is m g = rw (length-take-le m ts g) at (rank_most h (take m ts) (take m is))

-- inserted at its rank into both lists, a hit stands where the definition inserts it
pub paired_put : (t : Float) (i : ℕ) (ts : List Float) (is : List ℕ) → length ts ≡ length is
    → paired (insert_at (rank_of (struck t i) (paired ts is)) t ts) (insert_at (rank_of (struck t i) (paired ts is)) i is)
    ≡ insert_of (struck t i) (paired ts is)
unfolding paired insert_at insert_of rank_of
paired_put t i [] [] e = refl
paired_put t i [] (j ∷ is) e = absurd (omega arith)
paired_put t i (s ∷ ts) [] e = absurd (omega arith)
paired_put t i (s ∷ ts) (j ∷ is) e = by (before (struck t i) (struck s j)) (paired_put t i ts is (omega arith))
  where
    by : (b : Bool)
        → paired (insert_at (rank_of (struck t i) (paired ts is)) t ts) (insert_at (rank_of (struck t i) (paired ts is)) i is)
        ≡ insert_of (struck t i) (paired ts is)
        → paired
        (insert_at (cond b zero (suc (rank_of (struck t i) (paired ts is)))) t (s ∷ ts))
        (insert_at (cond b zero (suc (rank_of (struck t i) (paired ts is)))) i (j ∷ is))
        ≡ cond b (struck t i ∷ struck s j ∷ paired ts is) (struck s j ∷ insert_of (struck t i) (paired ts is))
    by true r = refl
    by false r = ap (λ (l : List Struck). struck s j ∷ l) r

-- ---- hits one after the other

pub stored_then : (hs : List Struck) (ts : List Float) (is : List ℕ) (k : ℕ) (t : Float) (i : ℕ) → k < length ts → k < length is
    → paired (take (k + 1) (set ts k t)) (take (k + 1) (set is k i)) ++ hs ≡ paired (take k ts) (take k is) ++ struck t i ∷ hs
stored_then hs ts is k t i p q = rw (stored ts is k t i p q) (append_snoc (paired (take k ts) (take k is)) (struck t i) hs)

-- ---- what is left of two halves that are merged

pub rest_cons : (ts : List Float) (is : List ℕ) (j : ℕ) → j < length ts → j < length is
    → paired (drop j ts) (drop j is) ≡ struck (get_or ts j nan) (get_or is j 0) ∷ paired (drop (j + 1) ts) (drop (j + 1) is)
unfolding paired
rest_cons ts is j p q = rw (add-one, drop-cons ts j nan p, drop-cons is j 0 q)

pub rest_none : (ts : List Float) (is : List ℕ) (j : ℕ) → length ts ≤ j → paired (drop j ts) (drop j is) ≡ []
unfolding paired
rest_none ts is j p = rw (drop_of_length-le ts p)

module _ (ts : List Float) (is : List ℕ) (half : ℕ) (e : length ts ≡ length is) (w : half ≤ length ts) where
  abbrev pub first_from : ℕ → List Struck
  first_from i = paired (drop i (take half ts)) (drop i (take half is))

  abbrev pub second_from : ℕ → List Struck
  second_from j = paired (drop j ts) (drop j is)

  pub first_cons : (i : ℕ) → i < half → first_from i ≡ struck (get_or ts i nan) (get_or is i 0) ∷ first_from (i + 1)
  first_cons i p =
      rest_cons (take half ts) (take half is) i (rw (length-take-le half ts w) p) (rw (length-take-le half is (omega arith)) p)
      ∙ rw (get_or-take half ts i nan p, get_or-take half is i 0 p) refl

  pub first_none : first_from half ≡ []
  first_none = rest_none (take half ts) (take half is) half (omega (arith, length-take-le half ts w))

  -- the second's head is taken only where there is one
  pub second_within : (i j : ℕ) → j ≤ length ts → takes_second (first_from i) (second_from j) ≡ true → j < length ts
  unfolding takes_second
  second_within i j p h =
      ⊎_elim
      (λ (q : j ≡ length ts). absurd (false≢true (rw (rest_none ts is j (omega arith)) at h)))
      (λ (q : j < length ts). q)
      (eq-or-lt_of_le p)

  -- and the first's only where there is one, while something is left
  pub first_within : (i j : ℕ) → i ≤ half → i + j < half + length ts → takes_second (first_from i) (second_from j) ≡ false → i < half
  unfolding takes_second
  first_within i j p l h =
      ⊎_elim
      (λ (q : i ≡ half). absurd (false≢true (sym (rw (q, first_none, rest_cons ts is j (omega arith) (omega arith)) at h))))
      (λ (q : i < half). q)
      (eq-or-lt_of_le p)

  pub merge_takes_second : (i j : ℕ) → j < length ts → takes_second (first_from i) (second_from j) ≡ true
      → merge_of (first_from i) (second_from j) ≡ struck (get_or ts j nan) (get_or is j 0) ∷ merge_of (first_from i) (second_from (j + 1))
  merge_takes_second i j p h =
      let q = rest_cons ts is j p (omega arith) in
      rw q (merge_second (first_from i) _ _ (rw q at h))

  pub merge_takes_first : (i j : ℕ) → i < half → takes_second (first_from i) (second_from j) ≡ false
      → merge_of (first_from i) (second_from j) ≡ struck (get_or ts i nan) (get_or is i 0) ∷ merge_of (first_from (i + 1)) (second_from j)
  merge_takes_first i j p h =
      let q = first_cons i p in
      rw q (merge_first _ _ (second_from j) (rw q at h))

-- ---- two parts lent one after the other

-- a list when its first part is back and holds x, and when its second is back and holds y
abbrev pub first_back {ℓ} : {A : Type ℓ} → List A → ℕ → List A → List A
first_back l half x = x ++ drop half l

abbrev pub second_lent {ℓ} : {A : Type ℓ} → List A → ℕ → List A → List A
second_lent l half x = take (length (first_back l half x) - half) (drop half (first_back l half x))

abbrev pub second_back {ℓ} : {A : Type ℓ} → List A → ℕ → List A → List A → List A
second_back l half x y =
    take half (first_back l half x) ++ (y ++ drop (length (first_back l half x) - half) (drop half (first_back l half x)))

module _ {A : Type 0} (l x : List A) (half : ℕ) (w : half ≤ length l) (e : length x ≡ length (take half l)) where
  long : length x ≡ half
  long = e ∙ length-take-le half l w

  whole : length (first_back l half x) ≡ length l
  whole = length_front l x half e

  -- what is lent second is the second half
  pub second_lent_lem : second_lent l half x ≡ drop half l
  second_lent_lem =
      rw (drop_at x (drop half l) half long)
      (take_all (length (first_back l half x) - half) (drop half l) (omega (arith, length-drop half l, whole)))

  module _ (y : List A) where
    pub back_first : take half (second_back l half x y) ≡ x
    back_first = rw (take_at x (drop half l) half long) (take_at x _ half long)

    pub back_second : drop half (second_back l half x y) ≡ y
    back_second =
        rw (
          take_at x (drop half l) half long,
          drop_at x (drop half l) half long,
          drop_at x (y ++ drop (length (first_back l half x) - half) (drop half l)) half long,
          drop_of_length-le (drop half l) {i = length (first_back l half x) - half} (omega (arith, length-drop half l, whole)),
        ) (append-nil y)

    pub back_length : length y ≡ length (second_lent l half x) → length (second_back l half x y) ≡ length l
    back_length f = same_len_mid half (length (first_back l half x) - half) (first_back l half x) y f ∙ whole

pub paired_halves : (ts : List Float) (is : List ℕ) (half : ℕ) → length ts ≡ length is → half ≤ length ts
    → paired ts is ≡ paired (take half ts) (take half is) ++ paired (drop half ts) (drop half is)
paired_halves ts is half e h =
    sym (
    sym (paired_append (take half ts) (drop half ts) (take half is) (drop half is) (length-take-le half ts h ∙ sym (length-take-le half is (omega arith))))
    ∙ rw (take-append-drop half ts, take-append-drop half is)
    )

pub numbers_halves : (ts : List Float) (is : List ℕ) (half : ℕ) → length ts ≡ length is → half ≤ length ts → Numbers (paired ts is)
    → Numbers (paired (take half ts) (take half is)) × Numbers (paired (drop half ts) (drop half is))
numbers_halves ts is half e w n =
    let m = rw (paired_halves ts is half e w) at n in (numbers_first (paired (take half ts) (take half is)) _ m, numbers_second (paired (take half ts) (take half is)) _ m)

-- both halves put in order and merged are the whole in order
pub halves_in_order : (ts x y : List Float) (is p q : List ℕ) (half : ℕ) → length ts ≡ length is → half ≤ length ts → Numbers (paired ts is)
    → length x ≡ length (take half ts) → length p ≡ length (take half is)
    → paired x p ≡ sort_of (paired (take half ts) (take half is))
    → paired y q ≡ sort_of (paired (second_lent ts half x) (second_lent is half p))
    → merge_of (paired (take half (second_back ts half x y)) (take half (second_back is half p q)))
    (paired (drop half (second_back ts half x y)) (drop half (second_back is half p q)))
    ≡ sort_of (paired ts is)
halves_in_order ts x y is p q half e w n f g first second =
    let v : half ≤ length is = omega arith in
    rw (
      back_first ts x half w f y,
      back_first is p half v g q,
      back_second ts x half w f y,
      back_second is p half v g q,
      first,
      second,
      second_lent_lem ts x half w f,
      second_lent_lem is p half v g,
      merge_sorts (paired (take half ts) (take half is)) (paired (drop half ts) (drop half is)) (numbers_halves ts is half e w n).1,
      ← paired_halves ts is half e w,
    )

-- the first part put in order, and the rest inserted
pub then_inserted : (ts x : List Float) (is p : List ℕ) (k : ℕ) → length ts ≡ length is → k ≤ length ts
    → length x ≡ length (take k ts) → length p ≡ length (take k is) → paired x p ≡ sort_of (paired (take k ts) (take k is))
    → insert_all (paired (take k (first_back ts k x)) (take k (first_back is k p))) (paired (drop k (first_back ts k x)) (drop k (first_back is k p)))
    ≡ sort_of (paired ts is)
then_inserted ts x is p k e w f g h =
    let v : k ≤ length is = omega arith in
    let a = f ∙ length-take-le k ts w in
    let b = g ∙ length-take-le k is v in
    rw (
      take_at x (drop k ts) k a,
      take_at p (drop k is) k b,
      drop_at x (drop k ts) k a,
      drop_at p (drop k is) k b,
      h,
      ← insert_all_append [] (paired (take k ts) (take k is)) (paired (drop k ts) (drop k is)),
      ← paired_halves ts is k e w,
    )

-- ---- for the attributes of the code

pub ruleset heads = (rest_cons, rest_none, first_cons, first_none)

pub ruleset merging = (second_within, first_within, rest_none, first_none, stored_then, merge_takes_second, merge_takes_first)

pub ruleset halving = (second_lent_lem, back_length, numbers_halves, halves_in_order)
