-- The steps of a report. Assumes nothing.
use Rattle.std.specs.Prelude.{ℕ, Option, None, Result, Ok, Err}
use Rattle.names.specs.declared.refusal.Refusal.{Refusal}

-- the length of the next file, where one is to come
abbrev pub announced : Result (Option ℕ) Refusal → Option ℕ
announced (Ok next) = next
announced (Err r) = None
