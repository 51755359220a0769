-- Any two lists put in order and merged are the two put in order together: to merge with a list into which a hit is inserted is to insert it after merging
-- (`merge_insert`), whatever stands in the two lists, where all distances are numbers.
use Rattle.std.specs.Prelude.{◌≡◌, refl, Bool, true, false, cond, List, [], ◌∷◌, ◌++◌}
use Rattle.std.proofs.Common.{sym, ap, ◌∙◌}
use Rattle.std.proofs.lemmas.Bool.{false≢true}
use Rattle.std.specs.Float.Ieee.{is_nan}
use Rattle.hits.specs.Hits.{Struck, before, insert_of}
use Rattle.hits.specs.BeforeLaws.{before_trans, not_before_trans}
use Rattle.hits.specs.Merge.{insert_all, sort_of, merge_into, merge_of, takes_second, Numbers}

-- ---- one list after the other

pub insert_all_append : (gs hs ks : List Struck) → insert_all gs (hs ++ ks) ≡ insert_all (insert_all gs hs) ks
unfolding insert_all
insert_all_append gs [] ks = refl
insert_all_append gs (h ∷ hs) ks = insert_all_append (insert_of h gs) hs ks

pub numbers_first : (hs ks : List Struck) → Numbers (hs ++ ks) → Numbers hs
numbers_first [] ks n = tt
numbers_first (h ∷ hs) ks n = (n.0, numbers_first hs ks n.1)

pub numbers_second : (hs ks : List Struck) → Numbers (hs ++ ks) → Numbers ks
numbers_second [] ks n = n
numbers_second (h ∷ hs) ks n = numbers_second hs ks n.1

pub numbers_append : (hs ks : List Struck) → Numbers hs → Numbers ks → Numbers (hs ++ ks)
numbers_append [] ks n m = m
numbers_append (h ∷ hs) ks n m = (n.0, numbers_append hs ks n.1 m)

numbers_insert : (h : Struck) (gs : List Struck) → is_nan h.distance ≡ false → Numbers gs → Numbers (insert_of h gs)
unfolding insert_of
numbers_insert h [] e n = (e, tt)
numbers_insert h (g ∷ gs) e n = by (before h g) (numbers_insert h gs e n.1)
  where
    by : (b : Bool) → Numbers (insert_of h gs) → Numbers (cond b (h ∷ g ∷ gs) (g ∷ insert_of h gs))
    by true r = (e, n)
    by false r = (n.0, r)

numbers_all : (gs hs : List Struck) → Numbers gs → Numbers hs → Numbers (insert_all gs hs)
unfolding insert_all
numbers_all gs [] n m = n
numbers_all gs (h ∷ hs) n m = numbers_all (insert_of h gs) hs (numbers_insert h gs m.0 n) m.1

-- ---- merged with a list into which one is inserted

into : (y a : Struck) (rest : List Struck → List Struck)
    → ((gs : List Struck) → Numbers gs → rest (insert_of y gs) ≡ insert_of y (rest gs))
    → (gs : List Struck) → Numbers gs → merge_into a rest (insert_of y gs) ≡ insert_of y (merge_into a rest gs)
unfolding merge_into insert_of
into y a rest i [] n = by (before y a) (i [] tt)
  where
    by : (s : Bool) → rest (insert_of y []) ≡ insert_of y (rest [])
        → cond s (y ∷ a ∷ rest []) (a ∷ rest (insert_of y [])) ≡ cond s (y ∷ a ∷ rest []) (a ∷ insert_of y (rest []))
    by true r = refl
    by false r = rw r refl
into y a rest i (b ∷ gs) n = by (before y b) (before b a) (before y a) refl refl refl (i (b ∷ gs) n) (into y a rest i gs n.1)
  where
    by : (p q s : Bool) → before y b ≡ p → before b a ≡ q → before y a ≡ s
        → rest (cond p (y ∷ b ∷ gs) (b ∷ insert_of y gs)) ≡ insert_of y (rest (b ∷ gs))
        → merge_into a rest (insert_of y gs) ≡ insert_of y (merge_into a rest gs)
        → merge_into a rest (cond p (y ∷ b ∷ gs) (b ∷ insert_of y gs)) ≡ insert_of y (cond q (b ∷ merge_into a rest gs) (a ∷ rest (b ∷ gs)))
    by true true true e f g r o = rw (e, f, g) refl
    by true true false e f g r o = absurd (false≢true (sym g ∙ before_trans y b a e f))
    by true false true e f g r o = rw (g, f) refl
    by true false false e f g r o = rw (g, r) refl
    by false true s e f g r o = rw (f, e, o) refl
    by false false true e f g r o = absurd (false≢true (sym (not_before_trans y b a n.0 e f) ∙ g))
    by false false false e f g r o = rw (f, g, r) refl

pub merge_insert : (y : Struck) (hs gs : List Struck) → Numbers gs → merge_of hs (insert_of y gs) ≡ insert_of y (merge_of hs gs)
unfolding merge_of
merge_insert y [] gs n = refl
merge_insert y (a ∷ hs) gs n = into y a (merge_of hs) (λ ks m. merge_insert y hs ks m) gs n

merge_all : (hs gs ks : List Struck) → Numbers gs → Numbers ks → merge_of hs (insert_all gs ks) ≡ insert_all (merge_of hs gs) ks
unfolding insert_all
merge_all hs gs [] n m = refl
merge_all hs gs (k ∷ ks) n m = rw (← merge_insert k hs gs n) (merge_all hs (insert_of k gs) ks (numbers_insert k gs m.0 n) m.1)

merge_none : (hs : List Struck) → merge_of hs [] ≡ hs
unfolding merge_of merge_into
merge_none [] = refl
merge_none (h ∷ hs) = ap (λ (l : List Struck). h ∷ l) (merge_none hs)

-- two lists put in order and merged are the two put in order
pub merge_sorts : (hs ks : List Struck) → Numbers ks → merge_of (sort_of hs) (sort_of ks) ≡ sort_of (hs ++ ks)
merge_sorts hs ks n = merge_all (sort_of hs) [] ks tt n ∙ rw (merge_none (sort_of hs), insert_all_append [] hs ks)

-- ---- one step of a merge

pub merge_second : (hs : List Struck) (g : Struck) (gs : List Struck) → takes_second hs (g ∷ gs) ≡ true → merge_of hs (g ∷ gs) ≡ g ∷ merge_of hs gs
unfolding merge_of merge_into takes_second
merge_second [] g gs e = refl
merge_second (h ∷ hs) g gs e = rw e refl

pub merge_first : (h : Struck) (hs gs : List Struck) → takes_second (h ∷ hs) gs ≡ false → merge_of (h ∷ hs) gs ≡ h ∷ merge_of hs gs
unfolding merge_of merge_into takes_second
merge_first h hs [] e = refl
merge_first h hs (g ∷ gs) e = rw e refl
