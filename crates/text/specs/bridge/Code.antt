-- How the code writes numbers and kinds of fields. Assumes nothing.
use Rattle.std.specs.Prelude.{ℕ, List, [], ◌∷◌, get_or, Option as Maybe, Some, None}
use Rattle.std.proofs.Math.Option.{Option, none, some}
use Rattle.text.specs.Field.{Kind, variable, node, plain, name, constant, cell, integer, limit, flag, opaque, lexical, absent, tag, datatype, form}

-- what a field is as a number in the code
abbrev pub Number : Type 0
Number = Maybe ℕ

abbrev pub number_in : Number → Option ℕ
number_in (Some n) = some n
number_in None = none

-- the kinds by their numbers in the code
abbrev pub kinds : List Kind
kinds = variable ∷ node ∷ plain ∷ name ∷ constant ∷ cell ∷ integer ∷ limit ∷ flag ∷ opaque ∷ lexical ∷ absent ∷ tag ∷ datatype ∷ []

abbrev pub kind_at : ℕ → Kind
kind_at k = get_or kinds k form
