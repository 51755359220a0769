-- A rule of a list of triples, at each of its entries by one test that is computed over the whole list.
use Rattle.std.specs.Prelude.{◌≡◌, refl, Bool, true, false, List, [], ◌∷◌, map, ℕ, zero, suc, ◌+◌, ◌*◌, ◌<◌, T, length, get_or}
use Rattle.std.proofs.Common.{sym, subst, add-zero, zero-add, le_of_suc-le-suc, not-suc-le-zero, arith}

-- both, where the second is looked at only if the first holds
abbrev pub both : Bool → Bool → Bool
both true b = b
both false b = false

pub both_left : (a b : Bool) → T (both a b) → T a
both_left true b t = tt
both_left false b t = t

pub both_right : (a b : Bool) → T (both a b) → T b
both_right true b t = t
both_right false b t = absurd t

-- the test passes at each triple and its place, counted from i
abbrev pub every3 : (ℕ → ℕ → ℕ → ℕ → Bool) → ℕ → List ℕ → Bool
every3 f i [] = true
every3 f i (x ∷ []) = true
every3 f i (x ∷ y ∷ []) = true
every3 f i (x ∷ y ∷ z ∷ xs) = both (f i x y z) (every3 f (suc i) xs)

moved : (P : ℕ → ℕ → ℕ → ℕ → Type 0) (m n a a' b b' c c' : ℕ) → m ≡ n → a ≡ a' → b ≡ b' → c ≡ c' → P m a b c → P n a' b' c'
moved P m n a a' b b' c c' p q r s t =
    subst (λ (w : ℕ). P n a' b' w) s (subst (λ (w : ℕ). P n a' w c) r (subst (λ (w : ℕ). P n w b c) q (subst (λ (w : ℕ). P w a b c) p t)))

from : (f : ℕ → ℕ → ℕ → ℕ → Bool) (xs : List ℕ) (i : ℕ) → T (every3 f i xs) → (k : ℕ) → k * 3 + 2 < length xs
    → T (f (i + k) (get_or xs (k * 3) 0) (get_or xs (k * 3 + 1) 0) (get_or xs (k * 3 + 2) 0))
from f [] i t k h = absurd (omega arith)
from f (x ∷ []) i t k h = absurd (omega arith)
from f (x ∷ y ∷ []) i t k h = absurd (omega arith)
from f (x ∷ y ∷ z ∷ xs) i t zero h = subst (λ (m : ℕ). T (f m x y z)) (sym (add-zero i)) (both_left (f i x y z) (every3 f (suc i) xs) t)
from f (x ∷ y ∷ z ∷ xs) i t (suc k) h =
    moved (λ (m a b c : ℕ). T (f m (get_or (x ∷ y ∷ z ∷ xs) a 0) (get_or (x ∷ y ∷ z ∷ xs) b 0) (get_or (x ∷ y ∷ z ∷ xs) c 0)))
    (suc i + k) (i + suc k) (suc (suc (suc (k * 3)))) (suc k * 3) (suc (suc (suc (k * 3 + 1)))) (suc k * 3 + 1) (suc (suc (suc (k * 3 + 2)))) (suc k * 3 + 2)
    (omega arith) (omega arith) (omega arith) (omega arith)
    (from f xs (suc i) (both_right (f i x y z) (every3 f (suc i) xs) t) k (omega arith))

-- what the computed test says of triple k
pub at : (f : ℕ → ℕ → ℕ → ℕ → Bool) (xs : List ℕ) → T (every3 f 0 xs) → (k : ℕ) → k * 3 + 2 < length xs
    → T (f k (get_or xs (k * 3) 0) (get_or xs (k * 3 + 1) 0) (get_or xs (k * 3 + 2) 0))
at f xs t k h = subst (λ (m : ℕ). T (f m (get_or xs (k * 3) 0) (get_or xs (k * 3 + 1) 0) (get_or xs (k * 3 + 2) 0))) (zero-add k) (from f xs 0 t k h)

pub get_d_map : {A B : Type 0} (f : A → B) (l : List A) (n : ℕ) (d : A) (e : B) → n < length l → get_or (map f l) n e ≡ f (get_or l n d)
get_d_map f [] n d e h = absurd (not-suc-le-zero h)
get_d_map f (x ∷ l) zero d e h = refl
get_d_map f (x ∷ l) (suc n) d e h = get_d_map f l n d e (le_of_suc-le-suc h)
