-- The contract of the table's call leaves one result, 3 is refused exactly when its row holds, and a list of 1,728 numbers is accepted and then holds
-- the table, whatever stood in it.
use Rattle.std.specs.Prelude.{◌≡◌, refl, List, ℕ, length, Float}
use Rattle.std.proofs.Common.{sym, ◌∙◌, arith, eq-eqb, ne_eqb}
use Rattle.names.specs.Numbers.{sky_numbers}
use Rattle.names.specs.Refusals.{first_of, RefusedBy, refused_by, kept, given}
use Rattle.directions.specs.Table.{directions}
use Rattle.directions.specs.Filled.{fill_rows, fill_refusal, DirectionsFilled}
use Rattle.directions.proofs.RuleLaws.{directions_length}
use Rattle.directions.specs.FilledLaws.{SameFill}

pub directions_filled_once : (out : List Float) (r s : ℕ) (out' out'' : List Float)
    → DirectionsFilled out r out' → DirectionsFilled out s out'' → SameFill r s out' out''
directions_filled_once out r s out' out'' a b =
    let e : r ≡ s = a.answer ∙ sym b.answer in
    record { same_answer = e; same_list = a.out_after ∙ rw e (sym b.out_after) }

-- ---- 3 is refused exactly when the length is wrong, and 0 given exactly when it is right

pub fill_refused_by : (out : List Float) (r : ℕ) (out' : List Float) → DirectionsFilled out r out' → RefusedBy (fill_rows out) r
unfolding fill_refusal
fill_refused_by out r out' p = refused_by (fill_rows out) r (omega arith, tt) p.answer

-- ---- how the call meets its contract

pub fill_refused : (out : List Float) → (length out ≡ sky_numbers → ⊥) → DirectionsFilled out 3 out
unfolding fill_refusal first_of
fill_refused out h = record { answer = rw (ne_eqb (length out) sky_numbers h); out_after = kept 3 directions out (λ e. omega arith) }

-- a list as long as the table is accepted
pub fill_accepted : (out : List Float) → length out ≡ sky_numbers → fill_refusal out ≡ 0
unfolding fill_refusal first_of
fill_accepted out h = rw (eq-eqb (length out) sky_numbers h)

-- there is such a list: the table's own
pub table_accepted : fill_refusal directions ≡ 0
table_accepted = fill_accepted directions directions_length

pub table_filled : (out out' : List Float) → length out ≡ sky_numbers → out' ≡ directions → DirectionsFilled out 0 out'
table_filled out out' h e = record { answer = sym (fill_accepted out h); out_after = e ∙ given 0 directions out refl }

-- ---- an accepted list holds the table

pub table_given : (out : List Float) (r : ℕ) (out' : List Float) → length out ≡ sky_numbers → DirectionsFilled out r out' → out' ≡ directions
table_given out r out' h p = p.out_after ∙ sym (given r directions out (p.answer ∙ fill_accepted out h))
