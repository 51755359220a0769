-- The digits still to write, and then those written, are the digits of n.
use mathlib.Core.Path.{◌≡◌}
use mathlib.Core.List.{◌++◌}
use lib.ListN.{drop}
use lib.Seq.{slice}
use Rattle.console.specs.Digits.{last_digits}
use Rattle.console.proofs.number.decimal.Given as goal

abbrev pub invariant-loop-i : goal.invariant-loop-i
invariant-loop-i l = record {
  digits : last_digits 10 l.i l.rest ++ slice l.i l.k l.out ≡ last_digits 10 l.k l.n;
  rest : drop l.k l.out ≡ drop l.k l.initial.out;
}
