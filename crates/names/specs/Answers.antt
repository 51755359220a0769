-- A call's answer in Rattle, and the number that stands for it: 0, or the first row's that holds. Assumes nothing.
use Rattle.std.specs.Prelude.{ℕ, Result, Ok, Err}
use Rattle.names.specs.declared.refusal.Refusal.{Refusal}
use Rattle.names.specs.declared.refusal.Refusal.TheVariants.{Axes, Grid, Lengths, TooMany, Points, Materials, Lighting, Ray, Progress, Allowance, Position, File, Contents, LongFile, Tree, League, Lamps}

-- a row's number in the table
abbrev pub number_of : Refusal → ℕ
number_of Axes = 1
number_of Grid = 2
number_of Lengths = 3
number_of TooMany = 4
number_of Points = 5
number_of Materials = 6
number_of Lighting = 7
number_of Ray = 8
number_of Progress = 9
number_of Allowance = 10
number_of Position = 11
number_of File = 12
number_of Contents = 13
number_of LongFile = 14
number_of Tree = 16
number_of League = 18
number_of Lamps = 19

-- an answer's number: 0 where the call is not refused
abbrev pub answer_number : {A : Type 0} → Result A Refusal → ℕ
answer_number (Ok _) = 0
answer_number (Err r) = number_of r
