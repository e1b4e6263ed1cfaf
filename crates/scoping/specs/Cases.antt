-- Worked cases: trees under the v-mapping. docs/SPECIFICATION.md, "Worked cases", and "Naming". Assumes nothing.
use Rattle.std.specs.Prelude.{List, [], ◌∷◌}
use Prim.Native.String.{String}
use Rattle.text.specs.Word.{bytes}
use Rattle.algebra.specs.Tree.{Pattern, bgp, minus, filter, project, service, bound}
use Rattle.scoping.specs.Label.{prefix_v}
use Rattle.scoping.specs.Numbering.{numbered}
use Rattle.scoping.specs.Standardize.{standardize_variables, renamed}
use Rattle.scoping.specs.Rename.{rename_in_graph_pattern}

-- push_constants_in_project_pattern without constants: standardize_variables("v", variables_in_pattern(pattern), []), and the tree renamed
unfoldable pub v_renamed : Pattern → Pattern
unfolding rename_in_graph_pattern renamed standardize_variables numbered
v_renamed p = rename_in_graph_pattern (λ w. renamed (standardize_variables prefix_v (numbered p) []) w) p

-- a tree, and what it becomes
pub record Case : Type 0 where
  pub before : Pattern
  pub after : Pattern

abbrev pub becomes : Pattern → Pattern → Case
becomes p q = record { before = p; after = q }

-- a bgp of one line
abbrev pub one : String → String → String → Pattern
one s p o = bgp (record { subj = bytes s; pred = bytes p; obj = bytes o } ∷ [])

-- a project of two columns, and of one
abbrev pub both : String → String → Pattern → Pattern
both a b p = project (bytes a ∷ bytes b ∷ []) p

abbrev pub only : String → Pattern → Pattern
only a p = project (bytes a ∷ []) p

abbrev pub cases : List Case
cases =
    -- `?xLabelLabel` then `?x`: `?v0Label`, `?v1`
    becomes (both "?xLabelLabel" "?x" (bgp [])) (both "?v0Label" "?v1" (bgp []))
    -- `?Label` alone: `?v0Label`
    ∷ becomes (only "?Label" (bgp [])) (only "?v0Label" (bgp []))
    -- `?xLabelLabel` behind `?x` keeps its name
    ∷ becomes (both "?x" "?xLabelLabel" (bgp [])) (both "?v0" "?xLabelLabel" (bgp []))
    -- a name in both sets uses two numbers up
    ∷ becomes (only "?a" (one "?a" "<p>" "?b")) (only "?v0" (one "?v0" "<p>" "?v2"))
    -- in scope first, then hidden, each by first place
    ∷ becomes (minus (one "?a" "<p>" "?b") (one "?c" "<p>" "?a")) (minus (one "?v0" "<p>" "?v1") (one "?v3" "<p>" "?v0"))
    -- a service's name stays
    ∷ becomes (service (bytes "?s") (bytes "0") (one "?s" "<p>" "?o")) (service (bytes "?s") (bytes "0") (one "?v0" "<p>" "?v1"))
    -- a name that only an expression has stays
    ∷ becomes (filter (one "?a" "<p>" "<q>") (bound (bytes "?b"))) (filter (one "?v0" "<p>" "<q>") (bound (bytes "?b")))
    -- and its place may come first, and gives it no number
    ∷ becomes (minus (filter (one "?a" "<p>" "<q>") (bound (bytes "?b"))) (one "?c" "<p>" "?b")) (minus (filter (one "?v0" "<p>" "<q>") (bound (bytes "?v1"))) (one "?v2" "<p>" "?v1"))
    ∷ []
