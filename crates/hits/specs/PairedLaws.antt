-- The two lists that hold hits, as hits: their places, and a hit stored past the others.
use Rattle.std.specs.Prelude.{◌≡◌, refl, List, [], ◌∷◌, ◌++◌, ℕ, ◌+◌, ◌<◌, length, set, take, Float}
use Rattle.std.proofs.Common.{sym, ap, ◌∙◌, add-one, arith, length-take-le, take-suc-set}
use Rattle.hits.specs.Hits.{Struck, struck, paired, places_of}

-- the places of the pair are the second list
pub paired_places : (ts : List Float) (is : List ℕ) → length ts ≡ length is → places_of (paired ts is) ≡ is
unfolding paired
paired_places [] [] e = refl
paired_places [] (j ∷ is) e = absurd (omega arith)
paired_places (s ∷ ts) [] e = absurd (omega arith)
paired_places (s ∷ ts) (j ∷ is) e = ap (λ (l : List ℕ). j ∷ l) (paired_places ts is (omega arith))

-- ---- hits one after the other

pub paired_append : (ts us : List Float) (is js : List ℕ) → length ts ≡ length is → paired (ts ++ us) (is ++ js) ≡ paired ts is ++ paired us js
unfolding paired
paired_append [] us [] js e = refl
paired_append [] us (i ∷ is) js e = absurd (omega arith)
paired_append (t ∷ ts) us [] js e = absurd (omega arith)
paired_append (t ∷ ts) us (i ∷ is) js e = ap (λ (l : List Struck). struck t i ∷ l) (paired_append ts us is js (omega arith))

-- a hit stored past the first k goes to them
pub stored : (ts : List Float) (is : List ℕ) (k : ℕ) (t : Float) (i : ℕ) → k < length ts → k < length is
    → paired (take (k + 1) (set ts k t)) (take (k + 1) (set is k i)) ≡ paired (take k ts) (take k is) ++ (struck t i ∷ [])
unfolding paired
stored ts is k t i p q =
    rw (
      add-one k,
      take-suc-set ts k t p,
      take-suc-set is k i q,
      paired_append (take k ts) (t ∷ []) (take k is) (i ∷ []) (length-take-le k ts (omega arith) ∙ sym (length-take-le k is (omega arith))),
    )
