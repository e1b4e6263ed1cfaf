-- From a filter to an expression: nemo's functions.rs, and is_constant_true of tree.rs. Assumes nothing.
use Rattle.std.specs.Prelude.{Bool, true, false, cond, ◌&&◌, List}
use Rattle.std.proofs.Math.Option.{Option, none, some}
use Rattle.text.specs.Text.{Bytes, same}
use Rattle.text.specs.Word.{bytes}
use Rattle.algebra.specs.Tree.{EQ, NOT, Expression, term, apply, call, Expressions, eend, econs}
use Rattle.algebra.specs.Query.{Value, FilterWord, UN, BIN, TERN, NARY, Filter, leaf, ref, function, Filters, fend, fcons}
use Rattle.algebra.specs.Word.{spell_v}
use Rattle.merging.specs.Sides.{column_at}
use Rattle.merging.specs.Request.{position}
use Rattle.filtering.specs.Values.{expression_term}

-- try_expression_from_value
abbrev pub as_term : Option Bytes → Option Expression
as_term none = none
as_term (some x) = some (term x)

abbrev pub try_expression_from_value : Value → Option Expression
try_expression_from_value v = as_term (expression_term v.domain v.lexical v.extra)

-- try_expression_from_leaf, of a reference: variables[reference.0]
unfoldable pub referenced : List Bytes → Bytes → Bytes
unfolding position
referenced cs k = column_at cs (position k)

-- try_expression_from_unary: Datatype as `call DATATYPE 1`, LanguageTag as `call LANG 1`
unfoldable pub try_expression_from_unary : Bytes → Expressions → Option Expression
unfolding same
try_expression_from_unary n es = cond (same n (bytes "Datatype")) (some (call (bytes "DATATYPE") es)) (cond (same n (bytes "LanguageTag")) (some (call (bytes "LANG") es)) none)

-- try_expression_from_binary: Equals as `eq`, Unequals as `not` of it
unfoldable pub try_expression_from_binary : Bytes → Expressions → Option Expression
unfolding same
try_expression_from_binary n es = cond (same n (bytes "Equals")) (some (apply EQ es)) (cond (same n (bytes "Unequals")) (some (apply NOT (econs (apply EQ es) eend))) none)

-- a function of the expressed parts; try_expression_from_ternary and try_expression_from_nary give none
unfoldable pub try_expression_from_function : FilterWord → Bytes → Expressions → Option Expression
unfolding try_expression_from_unary try_expression_from_binary
try_expression_from_function UN n es = try_expression_from_unary n es
try_expression_from_function BIN n es = try_expression_from_binary n es
try_expression_from_function TERN n es = none
try_expression_from_function NARY n es = none

-- the Rust's `?`
abbrev pub if_some : {A B : Type 0} → Option A → (A → Option B) → Option B
if_some none k = none
if_some (some x) k = k x

-- try_expression_from_tree: none where a part has none
unfoldable mutual
  unfolding expression_term referenced try_expression_from_function

  pub try_expression_from_tree : List Bytes → Filter → Option Expression
  try_expression_from_tree cs (leaf v) = try_expression_from_value v
  try_expression_from_tree cs (ref k) = some (term (referenced cs k))
  try_expression_from_tree cs (function w n fs) = if_some (try_expressions_from_parts cs fs) (try_expression_from_function w n)

  pub try_expressions_from_parts : List Bytes → Filters → Option Expressions
  try_expressions_from_parts cs fend = some eend
  try_expressions_from_parts cs (fcons f fs) = if_some (try_expression_from_tree cs f) λ e. if_some (try_expressions_from_parts cs fs) λ es. some (econs e es)

-- is_constant_true: a leaf Boolean spelled `true`, whatever its datatype
unfoldable pub is_constant_true : Filter → Bool
unfolding same
is_constant_true (leaf v) = same (spell_v v.domain) (bytes "Boolean") && same v.lexical (bytes "true")
is_constant_true (ref k) = false
is_constant_true (function w n fs) = false
