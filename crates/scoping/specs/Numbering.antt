-- The order of numbering: docs/SPECIFICATION.md, "Order of numbering". Assumes nothing.
use Rattle.std.specs.Prelude.{List, ◌++◌}
use Rattle.text.specs.Text.{Bytes}
use Rattle.algebra.specs.Tree.{Pattern}
use Rattle.algebra.specs.Valid.{mem}
use Rattle.algebra.specs.Tally.{tally, start}
use Rattle.scoping.specs.Sets.{keep}
use Rattle.scoping.specs.Variables.{variables_in_pattern}

-- the names of a text by first place, expressions and a service's name included
unfoldable pub by_place : Pattern → List Bytes
unfolding tally
by_place p = (tally p start).names

-- the set in scope, by first place
unfoldable pub in_scope_by_place : Pattern → List Bytes
unfolding keep mem variables_in_pattern by_place
in_scope_by_place p = keep (λ v. mem v (variables_in_pattern p).in_scope) (by_place p)

-- and the hidden set
unfoldable pub hidden_by_place : Pattern → List Bytes
unfolding keep mem variables_in_pattern by_place
hidden_by_place p = keep (λ v. mem v (variables_in_pattern p).hidden) (by_place p)

-- those in scope, then the hidden ones: the number of a name is its index; a name in both sets stands here twice, so that the number grows where it is skipped
unfoldable pub numbered : Pattern → List Bytes
unfolding in_scope_by_place hidden_by_place
numbered p = in_scope_by_place p ++ hidden_by_place p
