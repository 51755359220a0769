-- Refusals. A call tests rows in an order of its own. Its answer is the number of the first row that holds, and 0 where none does.
-- On a refusal each lent list keeps what it held.
use Rattle.std.specs.Prelude.{◌≡◌, refl, Bool, true, false, cond, ◌↔◌, List, [], ◌∷◌, ℕ, ◌<◌, eqb}
use Rattle.std.proofs.Common.{sym, ◌∙◌, arith, lt-ltb, le-ltb, le-leb, eq-eqb, ne_eqb}
use Rattle.std.proofs.lemmas.Bool.{false≢true, lt-leb}

-- a row of the table: its number, and whether it holds of the arguments
pub record Row : Type 0 where
  pub number : ℕ
  pub holds : Bool

abbrev pub row : ℕ → Bool → Row
row n b = record { number = n; holds = b }

unfoldable pub first_of : List Row → ℕ
first_of [] = 0
first_of (r ∷ rows) = cond r.holds r.number (first_of rows)

-- what a lent list holds after a call that answered this number
unfoldable pub unless_refused : {A : Type 0} → ℕ → A → A → A
unless_refused number new old = cond (eqb number 0) new old

-- ---- what the answer means

-- row k holds, and none before it does
pub data FirstIs : ℕ → List Row → Type 0 where
  here : {k : ℕ} {rows : List Row} → FirstIs k (row k true ∷ rows)
  later : {k n : ℕ} {rows : List Row} → FirstIs k rows → FirstIs k (row n false ∷ rows)

-- no row holds
pub data NoneHolds : List Row → Type 0 where
  none : NoneHolds []
  later : {n : ℕ} {rows : List Row} → NoneHolds rows → NoneHolds (row n false ∷ rows)

-- 0 is no row's number
abbrev pub Numbered : List Row → Type 0
Numbered [] = Unit
Numbered (r ∷ rows) = (0 < r.number) × Numbered rows

pub first_given : {k : ℕ} {rows : List Row} → FirstIs k rows → first_of rows ≡ k
unfolding first_of
first_given here = refl
first_given (later f) = first_given f

pub first_found : (k : ℕ) (rows : List Row) → 0 < k → first_of rows ≡ k → FirstIs k rows
unfolding first_of
first_found k [] h e = absurd (omega arith)
first_found k (r ∷ rows) h e = go r.number r.holds e (λ g. first_found k rows h g)
  where
    go : (n : ℕ) (b : Bool) → cond b n (first_of rows) ≡ k → (first_of rows ≡ k → FirstIs k rows) → FirstIs k (row n b ∷ rows)
    go n true g rest = rw g here
    go n false g rest = later (rest g)

pub none_given : {rows : List Row} → NoneHolds rows → first_of rows ≡ 0
unfolding first_of
none_given none = refl
none_given (later f) = none_given f

pub none_found : (rows : List Row) → Numbered rows → first_of rows ≡ 0 → NoneHolds rows
unfolding first_of
none_found [] h e = none
none_found (r ∷ rows) h e = go r.number r.holds h.0 e (λ g. none_found rows h.1 g)
  where
    go : (n : ℕ) (b : Bool) → 0 < n → cond b n (first_of rows) ≡ 0 → (first_of rows ≡ 0 → NoneHolds rows) → NoneHolds (row n b ∷ rows)
    go n true p g rest = absurd (omega arith)
    go n false p g rest = later (rest g)

-- an answer by these rows: k exactly when row k holds and none before it, 0 exactly when none holds
pub record RefusedBy (rows : List Row) (answer : ℕ) : Type 0 where
  pub refused : (k : ℕ) → 0 < k → (answer ≡ k) ↔ FirstIs k rows
  pub accepted : (answer ≡ 0) ↔ NoneHolds rows

pub refused_by : (rows : List Row) (answer : ℕ) → Numbered rows → answer ≡ first_of rows → RefusedBy rows answer
refused_by rows answer n e =
    record {
      refused = λ k h. (λ f. first_found k rows h (sym e ∙ f), λ f. e ∙ first_given f);
      accepted = (λ f. none_found rows n (sym e ∙ f), λ f. e ∙ none_given f);
    }

-- ---- how a chain of tests gives it: for `search refusals depth N` at each return

pub row_holds : (b : Bool) (n : ℕ) (rows : List Row) → b ≡ true → n ≡ first_of (row n b ∷ rows)
unfolding first_of
row_holds b n rows h = rw h

pub row_passed : (b : Bool) (r n : ℕ) (rows : List Row) → b ≡ false → r ≡ first_of rows → r ≡ first_of (row n b ∷ rows)
unfolding first_of
row_passed b r n rows h e = rw h e

pub rows_passed : 0 ≡ first_of []
unfolding first_of
rows_passed = refl

pub ruleset refusals = (row_holds, row_passed, rows_passed, lt-ltb, le-ltb, le-leb, lt-leb, eq-eqb, ne_eqb)

pub kept : {A : Type 0} (number : ℕ) (new old : A) → (number ≡ 0 → ⊥) → old ≡ unless_refused number new old
unfolding unless_refused
kept number new old n = simp (ne_eqb number 0 n)

pub given : {A : Type 0} (number : ℕ) (new old : A) → number ≡ 0 → new ≡ unless_refused number new old
unfolding unless_refused
given number new old e = simp (eq-eqb number 0 e)
