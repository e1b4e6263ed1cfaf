-- The numbers of the code's answers: docs/SPECIFICATION.md, "Numbers". Assumes nothing.
use Rattle.std.specs.Prelude.{ℕ, Result, Ok, Err}
use Rattle.algebra.specs.declared.Fault.{Fault}
use Rattle.algebra.specs.declared.Fault.TheVariants.{Malformed, OverBound}

-- the number of a good text's distinct names, or why it is refused
abbrev pub Answer : Type 0
Answer = Result ℕ Fault

abbrev pub answer_number : Answer → ℕ
answer_number (Ok n) = 0
answer_number (Err Malformed) = 1
answer_number (Err OverBound) = 2
