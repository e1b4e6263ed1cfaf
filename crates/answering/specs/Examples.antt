-- Worked examples of what a program writes: docs/SPECIFICATION.md, "Programs". Assumes nothing.
use Rattle.std.specs.Prelude.{◌≡◌, refl, [], ◌∷◌, map}
use Rattle.text.specs.Word.{bytes}
use Rattle.answers.specs.Outcome.{refused, written}
use Rattle.answering.specs.Answering.{call_number, call_input}
use Rattle.answering.specs.Printed.{refusal_line, printed, left_line, printed_list}

lines : map refusal_line (1 ∷ 7 ∷ 10 ∷ 17 ∷ []) ≡ bytes "refused\t1\n" ∷ bytes "refused\t7\n" ∷ bytes "refused\t10\n" ∷ bytes "refused\t17\n" ∷ []
unfolding refusal_line
lines = refl

outcomes : map printed (refused 3 ∷ written (bytes "bgp\t0\n") ∷ written [] ∷ []) ≡ bytes "refused\t3\n" ∷ bytes "bgp\t0\n" ∷ [] ∷ []
unfolding printed
outcomes = refl

-- numbers of filters, none of them, and beside a refusal
lists : left_line (0 ∷ 10 ∷ 63 ∷ []) ∷ printed_list (written []) [] ∷ printed_list (refused 3) (0 ∷ []) ∷ [] ≡ bytes "left\t0\t10\t63\n" ∷ [] ∷ [] ∷ []
unfolding left_line printed_list
lists = refl

-- a call's number by its name, and of a name that no call has
numbers : map call_number (bytes "scope" ∷ bytes "merge" ∷ bytes "filters" ∷ bytes "without" ∷ bytes "namespaces" ∷ bytes "Merge" ∷ [] ∷ []) ≡ 0 ∷ 2 ∷ 7 ∷ 8 ∷ 9 ∷ 10 ∷ 10 ∷ []
unfolding call_number
numbers = refl

-- another number of texts than the call reads
texts-of-calls : call_input 1 (bytes "bgp\t0\n--\n--\n") ∷ call_input 8 [] ∷ call_input 9 [] ∷ call_input 10 [] ∷ [] ≡ refused 1 ∷ refused 1 ∷ refused 1 ∷ refused 1 ∷ []
unfolding call_input
texts-of-calls = refl
