-- The calls, and what a program makes of its input: docs/SPECIFICATION.md, "Programs". Assumes nothing.
use Rattle.std.specs.Prelude.{ℕ, ◌+◌, List, [], ◌∷◌, cond, length, get_or, leb, eqb}
use Prim.Native.String.{String}
use Rattle.text.specs.Text.{Bytes, same}
use Rattle.text.specs.Word.{bytes}
use Rattle.parted.specs.Parted.{texts}
use Rattle.answers.specs.Outcome.{Outcome, refused}
use Rattle.surveying.specs.Scope.{scope_outcome}
use Rattle.renaming.specs.Rename.{rename_outcome}
use Rattle.merging.specs.Merge.{merge_patterns_outcome, merge_queries_outcome}
use Rattle.merging.specs.Push.{push_constants_outcome}
use Rattle.merging.specs.Negate.{negate_outcome}
use Rattle.merging.specs.Without.{without_queries_outcome}
use Rattle.filtering.specs.Bindings.{bindings_outcome}
use Rattle.filtering.specs.Filters.{filters_outcome}
use Rattle.filtering.specs.NotPlaced.{filters_not_placed}
use Rattle.converting.specs.Namespaces.{namespaces_outcome}

-- a call: its name, how many texts it reads, its outcome of them, and the numbers that it lists
pub record Call : Type 0 where
  pub name : Bytes
  pub reads : ℕ
  pub outcome : List Bytes → Outcome
  pub list : List Bytes → List ℕ

-- a call that reads one text, two, three, or five
abbrev pub one : String → (Bytes → Outcome) → Call
one n f = record { name = bytes n; reads = 1; outcome = λ ts. f (get_or ts 0 []); list = λ ts. [] }

abbrev pub two : String → (Bytes → Bytes → Outcome) → Call
two n f = record { name = bytes n; reads = 2; outcome = λ ts. f (get_or ts 0 []) (get_or ts 1 []); list = λ ts. [] }

abbrev pub three : String → (Bytes → Bytes → Bytes → Outcome) → Call
three n f = record { name = bytes n; reads = 3; outcome = λ ts. f (get_or ts 0 []) (get_or ts 1 []) (get_or ts 2 []); list = λ ts. [] }

abbrev pub five : String → (Bytes → Bytes → Bytes → Bytes → Bytes → Outcome) → Call
five n f = record { name = bytes n; reads = 5; outcome = λ ts. f (get_or ts 0 []) (get_or ts 1 []) (get_or ts 2 []) (get_or ts 3 []) (get_or ts 4 []); list = λ ts. [] }

-- one that reads two texts and lists numbers
abbrev pub listing : String → (Bytes → Bytes → Outcome) → (Bytes → Bytes → List ℕ) → Call
listing n f l = record { name = bytes n; reads = 2; outcome = λ ts. f (get_or ts 0 []) (get_or ts 1 []); list = λ ts. l (get_or ts 0 []) (get_or ts 1 []) }

-- the calls by their numbers, from 0
abbrev pub calls : List Call
calls =
    one "scope" scope_outcome
    ∷ two "rename" rename_outcome
    ∷ five "merge" merge_patterns_outcome
    ∷ five "merge_queries" merge_queries_outcome
    ∷ two "push" push_constants_outcome
    ∷ one "negate" negate_outcome
    ∷ two "bindings" bindings_outcome
    ∷ listing "filters" filters_outcome filters_not_placed
    ∷ three "without" without_queries_outcome
    ∷ two "namespaces" namespaces_outcome
    ∷ []

-- behind the last one: it reads no text, so that every input has too many
abbrev pub no_call : Call
no_call = record { name = []; reads = 0; outcome = λ ts. refused 1; list = λ ts. [] }

-- the call of a number with some texts: another number of texts than it reads is 1, otherwise it decides
unfoldable pub called : ℕ → List Bytes → Outcome
called k ts = cond (eqb (length ts) (get_or calls k no_call).reads) ((get_or calls k no_call).outcome ts) (refused 1)

-- and its list: none where it doesn't decide
unfoldable pub called_list : ℕ → List Bytes → List ℕ
called_list k ts = cond (eqb (length ts) (get_or calls k no_call).reads) ((get_or calls k no_call).list ts) []

-- an input: first its length (2), then how many texts it has, one more than lines `--` (1), then the call
unfoldable pub call_input : ℕ → Bytes → Outcome
unfolding called texts
call_input k s = cond (leb (length s) 65536) (called k (texts s)) (refused 2)

unfoldable pub input_list : ℕ → Bytes → List ℕ
unfolding called_list texts
input_list k s = cond (leb (length s) 65536) (called_list k (texts s)) []

-- the number of the first call that is named so; a name that none has is the number behind the last
unfoldable pub number_in : List Call → Bytes → ℕ
unfolding same
number_in [] f = 0
number_in (c ∷ cs) f = cond (same f c.name) 0 (number_in cs f + 1)

unfoldable pub call_number : Bytes → ℕ
unfolding number_in
call_number f = number_in calls f
