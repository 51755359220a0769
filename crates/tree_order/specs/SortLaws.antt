-- A run put in order by a key: the same triangles, each as often as before; keys ascend; and those whose keys are equal keep the order they stood in. Where the
-- keys are numbers. Assumes nothing.
use Rattle.std.specs.Prelude.{◌≡◌, Bool, eqb, get_or, take, drop, Float}
use Rattle.std.proofs.Math.Path.{refl, sym, ap}
use Rattle.std.proofs.Common.{◌∙◌, take-append-drop}
use Rattle.std.proofs.Math.Bool.{true, false, cond}
use Rattle.std.proofs.lemmas.Bool.{false≢true}
use mathlib.Core.List.{List, [], ◌∷◌, ◌++◌, append-nil, append_assoc}
use Prim.Native.Nat.{ℕ, zero, suc, ◌+◌, ◌<◌}
use native.Mathlib.Omega.{arith}
use Rattle.std.proofs.Math.ListN.{length}
use Rattle.std.specs.Float.Ieee.{lt, eq, is_nan}
use Rattle.floats.specs.OrderLaws.{lt_asymmetric, lt_irreflexive, lt_negatively_transitive, eq_symmetric}
use Rattle.hits.specs.Order.{eq_lt, eq_transitive}
use Rattle.tree.specs.Tree.{one}
use Rattle.tree.specs.SumLaws.{one_self}
use Rattle.tree_order.specs.Order.{put_in, put_all, sorted, times_of}

-- ---- how often a place stands in a list

pub times_append : (p : ℕ) (l m : List ℕ) → times_of p (l ++ m) ≡ times_of p l + times_of p m
times_append p [] m = omega arith
times_append p (q ∷ l) m = let r = times_append p l m in omega arith

pub times_of_cut : (p n : ℕ) (l : List ℕ) → times_of p l ≡ times_of p (take n l) + times_of p (drop n l)
times_of_cut p n l = sym (ap (times_of p) (take-append-drop n l)) ∙ times_append p (take n l) (drop n l)

-- what stands in a list is counted
pub times_of_here : (l : List ℕ) (k : ℕ) → k < length l → 0 < times_of (get_or l k 0) l
times_of_here [] k h = absurd (omega arith)
times_of_here (q ∷ l) zero h = omega (arith, one_self q)
times_of_here (q ∷ l) (suc k) h = let r = times_of_here l k (omega arith) in omega arith

-- ---- the same triangles

module _ (key : ℕ → Float) where
  put_times : (p q : ℕ) (qs : List ℕ) → times_of q (put_in key p qs) ≡ one (eqb p q) + times_of q qs
  unfolding put_in
  put_times p q [] = refl
  put_times p q (r ∷ qs) = by (lt (key p) (key r)) (put_times p q qs)
    where
      by : (b : Bool) → times_of q (put_in key p qs) ≡ one (eqb p q) + times_of q qs
          → times_of q (cond b (p ∷ r ∷ qs) (r ∷ put_in key p qs)) ≡ one (eqb p q) + (one (eqb r q) + times_of q qs)
      by true i = refl
      by false i = omega arith

  all_times : (q : ℕ) (qs ps : List ℕ) → times_of q (put_all key qs ps) ≡ times_of q qs + times_of q ps
  unfolding put_all
  all_times q qs [] = omega arith
  all_times q qs (p ∷ ps) = let r = all_times q (put_in key p qs) ps in let s = put_times p q qs in omega arith

  pub sorted_times : (q : ℕ) (run : List ℕ) → times_of q (sorted key run) ≡ times_of q run
  sorted_times q run = omega (arith, all_times q [] run)

  put_length : (p : ℕ) (qs : List ℕ) → length (put_in key p qs) ≡ suc (length qs)
  unfolding put_in
  put_length p [] = refl
  put_length p (r ∷ qs) = by (lt (key p) (key r)) (put_length p qs)
    where
      by : (b : Bool) → length (put_in key p qs) ≡ suc (length qs) → length (cond b (p ∷ r ∷ qs) (r ∷ put_in key p qs)) ≡ suc (suc (length qs))
      by true i = refl
      by false i = ap suc i

  all_length : (qs ps : List ℕ) → length (put_all key qs ps) ≡ length qs + length ps
  unfolding put_all
  all_length qs [] = omega arith
  all_length qs (p ∷ ps) = let r = all_length (put_in key p qs) ps in let s = put_length p qs in omega arith

  pub sorted_length : (run : List ℕ) → length (sorted key run) ≡ length run
  sorted_length run = omega (arith, all_length [] run)

  -- ---- keys ascend

  -- every key is a number
  abbrev pub NumberKeys : List ℕ → Type 0
  NumberKeys [] = Unit {0}
  NumberKeys (p ∷ ps) = (is_nan (key p) ≡ false) × NumberKeys ps

  -- no key of a list is below x
  abbrev pub NoneBelow : Float → List ℕ → Type 0
  NoneBelow x [] = Unit {0}
  NoneBelow x (q ∷ qs) = (lt (key q) x ≡ false) × NoneBelow x qs

  -- no key is below one before it
  abbrev pub Ascending : List ℕ → Type 0
  Ascending [] = Unit {0}
  Ascending (p ∷ ps) = NoneBelow (key p) ps × Ascending ps

  put_numbers : (p : ℕ) (qs : List ℕ) → is_nan (key p) ≡ false → NumberKeys qs → NumberKeys (put_in key p qs)
  unfolding put_in
  put_numbers p [] e n = (e, tt)
  put_numbers p (q ∷ qs) e n = by (lt (key p) (key q)) (put_numbers p qs e n.1)
    where
      by : (b : Bool) → NumberKeys (put_in key p qs) → NumberKeys (cond b (p ∷ q ∷ qs) (q ∷ put_in key p qs))
      by true r = (e, n)
      by false r = (n.0, r)

  put_none_below : (x : Float) (p : ℕ) (qs : List ℕ) → lt (key p) x ≡ false → NoneBelow x qs → NoneBelow x (put_in key p qs)
  unfolding put_in
  put_none_below x p [] e n = (e, tt)
  put_none_below x p (q ∷ qs) e n = by (lt (key p) (key q)) (put_none_below x p qs e n.1)
    where
      by : (b : Bool) → NoneBelow x (put_in key p qs) → NoneBelow x (cond b (p ∷ q ∷ qs) (q ∷ put_in key p qs))
      by true r = (e, n)
      by false r = (n.0, r)

  -- none below a number that is above x is below x
  none_below_less : (x y : Float) (qs : List ℕ) → lt x y ≡ true → is_nan y ≡ false → NoneBelow y qs → NoneBelow x qs
  none_below_less x y [] l e n = tt
  none_below_less x y (q ∷ qs) l e n = (lt_negatively_transitive (key q) y x e n.0 (lt_asymmetric x y l), none_below_less x y qs l e n.1)

  put_ascends : (p : ℕ) (qs : List ℕ) → NumberKeys qs → Ascending qs → Ascending (put_in key p qs)
  unfolding put_in
  put_ascends p [] n a = (tt, tt)
  put_ascends p (q ∷ qs) n a = by (lt (key p) (key q)) refl (put_ascends p qs n.1 a.1)
    where
      by : (b : Bool) → lt (key p) (key q) ≡ b → Ascending (put_in key p qs) → Ascending (cond b (p ∷ q ∷ qs) (q ∷ put_in key p qs))
      by true e r = ((lt_asymmetric (key p) (key q) e, none_below_less (key p) (key q) qs e n.0 a.0), a)
      by false e r = (put_none_below (key q) p qs e a.0, r)

  all_ascends : (qs ps : List ℕ) → NumberKeys qs → NumberKeys ps → Ascending qs → Ascending (put_all key qs ps)
  unfolding put_all
  all_ascends qs [] n m a = a
  all_ascends qs (p ∷ ps) n m a = all_ascends (put_in key p qs) ps (put_numbers p qs m.0 n) m.1 (put_ascends p qs n a)

  pub sorted_ascends : (run : List ℕ) → NumberKeys run → Ascending (sorted key run)
  sorted_ascends run m = all_ascends [] run tt m tt

  -- ---- equal keys keep their order

  -- those of a list whose keys equal x
  abbrev pub equal_to : Float → List ℕ → List ℕ
  equal_to x [] = []
  equal_to x (q ∷ qs) = cond (eq (key q) x) (q ∷ equal_to x qs) (equal_to x qs)

  equal_append : (x : Float) (l m : List ℕ) → equal_to x (l ++ m) ≡ equal_to x l ++ equal_to x m
  equal_append x [] m = refl
  equal_append x (q ∷ l) m = by (eq (key q) x) (equal_append x l m)
    where
      by : (b : Bool) → equal_to x (l ++ m) ≡ equal_to x l ++ equal_to x m
          → cond b (q ∷ equal_to x (l ++ m)) (equal_to x (l ++ m)) ≡ cond b (q ∷ equal_to x l) (equal_to x l) ++ equal_to x m
      by true i = ap (λ (k : List ℕ). q ∷ k) i
      by false i = i

  -- where y equals x and z is above y, none that is not below z equals x
  none_equal : (x y z : Float) (qs : List ℕ) → eq y x ≡ true → lt y z ≡ true → NoneBelow z qs → equal_to x qs ≡ []
  none_equal x y z [] e l n = refl
  none_equal x y z (q ∷ qs) e l n = by (eq (key q) x) refl (none_equal x y z qs e l n.1)
    where
      by : (b : Bool) → eq (key q) x ≡ b → equal_to x qs ≡ [] → cond b (q ∷ equal_to x qs) (equal_to x qs) ≡ []
      by false f i = i
      by true f i = absurd (false≢true (sym n.0 ∙ eq_lt (key q) y z (eq_transitive (key q) x y f (eq_symmetric y x e)) l))

  put_keeps : (x : Float) (p : ℕ) (qs : List ℕ) → Ascending qs → equal_to x (put_in key p qs) ≡ equal_to x qs ++ equal_to x (p ∷ [])
  unfolding put_in
  put_keeps x p [] a = refl
  put_keeps x p (q ∷ qs) a = by (lt (key p) (key q)) refl (put_keeps x p qs a.1)
    where
      first : lt (key p) (key q) ≡ true → (d : Bool) → eq (key p) x ≡ d
          → cond d (p ∷ equal_to x (q ∷ qs)) (equal_to x (q ∷ qs)) ≡ equal_to x (q ∷ qs) ++ cond d (p ∷ []) []
      first e true f = rw (none_equal x (key p) (key q) (q ∷ qs) f e (lt_irreflexive (key q), a.0)) refl
      first e false f = sym (append-nil _)

      later : (c : Bool) → equal_to x (put_in key p qs) ≡ equal_to x qs ++ equal_to x (p ∷ [])
          → cond c (q ∷ equal_to x (put_in key p qs)) (equal_to x (put_in key p qs)) ≡ cond c (q ∷ equal_to x qs) (equal_to x qs) ++ equal_to x (p ∷ [])
      later true i = ap (λ (k : List ℕ). q ∷ k) i
      later false i = i

      by : (b : Bool) → lt (key p) (key q) ≡ b → equal_to x (put_in key p qs) ≡ equal_to x qs ++ equal_to x (p ∷ [])
          → equal_to x (cond b (p ∷ q ∷ qs) (q ∷ put_in key p qs)) ≡ equal_to x (q ∷ qs) ++ equal_to x (p ∷ [])
      by true e i = first e (eq (key p) x) refl
      by false e i = later (eq (key q) x) i

  all_keeps : (x : Float) (qs ps : List ℕ) → NumberKeys qs → NumberKeys ps → Ascending qs → equal_to x (put_all key qs ps) ≡ equal_to x qs ++ equal_to x ps
  unfolding put_all
  all_keeps x qs [] n m a = sym (append-nil _)
  all_keeps x qs (p ∷ ps) n m a =
      all_keeps x (put_in key p qs) ps (put_numbers p qs m.0 n) m.1 (put_ascends p qs n a)
      ∙ rw (put_keeps x p qs a) (append_assoc (equal_to x qs) (equal_to x (p ∷ [])) (equal_to x ps))
      ∙ ap (λ (k : List ℕ). equal_to x qs ++ k) (sym (equal_append x (p ∷ []) ps))

  -- those whose keys equal x stand one after the other as before
  pub sorted_keeps : (x : Float) (run : List ℕ) → NumberKeys run → equal_to x (sorted key run) ≡ equal_to x run
  sorted_keeps x run m = all_keeps x [] run tt m tt
