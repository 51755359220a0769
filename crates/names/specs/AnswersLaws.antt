-- What the numbers of refusals are: none is 0, and no two rows have one number.
use Rattle.std.specs.Prelude.{◌≡◌, refl, cond, ℕ, ◌<◌, eqb, Option, None, Some, Result, Ok, Err}
use Rattle.std.specs.Result.{IsErr, IsErrAnd}
use Rattle.std.proofs.Common.{sym, ◌∙◌, ap, lit<, arith}
use Rattle.names.specs.declared.refusal.Refusal.{Refusal}
use Rattle.names.specs.declared.refusal.Refusal.TheVariants.{Axes, Grid, Lengths, TooMany, Points, Materials, Lighting, Ray, Progress, Allowance, Position, File, Contents, LongFile, Tree, League, Lamps}
use Rattle.names.specs.Answers.{number_of, answer_number}

pub number_positive : (r : Refusal) → 0 < number_of r
number_positive Axes = lit< tt
number_positive Grid = lit< tt
number_positive Lengths = lit< tt
number_positive TooMany = lit< tt
number_positive Points = lit< tt
number_positive Materials = lit< tt
number_positive Lighting = lit< tt
number_positive Ray = lit< tt
number_positive Progress = lit< tt
number_positive Allowance = lit< tt
number_positive Position = lit< tt
number_positive File = lit< tt
number_positive Contents = lit< tt
number_positive LongFile = lit< tt
number_positive Tree = lit< tt
number_positive League = lit< tt
number_positive Lamps = lit< tt

pub number_nonzero : (r : Refusal) → number_of r ≡ 0 → ⊥
number_nonzero r e = let p = number_positive r in omega (arith, p, e)

-- the row of a number
abbrev row_of : ℕ → Option Refusal
row_of n =
    cond (eqb n 1) (Some Axes) (
    cond (eqb n 2) (Some Grid) (
    cond (eqb n 3) (Some Lengths) (
    cond (eqb n 4) (Some TooMany) (
    cond (eqb n 5) (Some Points) (
    cond (eqb n 6) (Some Materials) (
    cond (eqb n 7) (Some Lighting) (
    cond (eqb n 8) (Some Ray) (
    cond (eqb n 9) (Some Progress) (
    cond (eqb n 10) (Some Allowance) (
    cond (eqb n 11) (Some Position) (
    cond (eqb n 12) (Some File) (
    cond (eqb n 13) (Some Contents) (
    cond (eqb n 14) (Some LongFile) (
    cond (eqb n 16) (Some Tree) (
    cond (eqb n 18) (Some League) (
    cond (eqb n 19) (Some Lamps) (
    None)))))))))))))))))

row_of_number : (r : Refusal) → row_of (number_of r) ≡ Some r
row_of_number Axes = refl
row_of_number Grid = refl
row_of_number Lengths = refl
row_of_number TooMany = refl
row_of_number Points = refl
row_of_number Materials = refl
row_of_number Lighting = refl
row_of_number Ray = refl
row_of_number Progress = refl
row_of_number Allowance = refl
row_of_number Position = refl
row_of_number File = refl
row_of_number Contents = refl
row_of_number LongFile = refl
row_of_number Tree = refl
row_of_number League = refl
row_of_number Lamps = refl

pub numbers_differ : (r q : Refusal) → number_of r ≡ number_of q → r ≡ q
numbers_differ r q e =
    let s : Some r ≡ Some q = sym (row_of_number r) ∙ (ap row_of e ∙ row_of_number q) in
    cc

-- ---- an Err that `?` hands on

pub record ToldOn {A : Type 0} (answer : Result A Refusal) (k : ℕ) : Type 0 where
  pub number : answer_number answer ≡ k
  pub refused : answer_number answer ≡ 0 → ⊥

pub told_on : {A : Type 0} (answer : Result A Refusal) (r : Refusal) (k : ℕ) → IsErr answer × IsErrAnd answer (λ q. q ≡ r) → number_of r ≡ k
    → ToldOn answer k
told_on (Ok _) r k h e = absurd h.1
told_on (Err q) r k h e =
    let n : number_of q ≡ k = ap number_of h.1 ∙ e in
    record { number = n; refused = number_nonzero q }
