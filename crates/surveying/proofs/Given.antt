-- An empty file is scoped as the text of its two lines. Assumes nothing.
use mathlib.Core.Path.{◌≡◌, ap}
use mathlib.Core.List.{[]}
use lib.ListN.{length}
use Rattle.text.specs.Text.{Bytes, text_of, ended}
use Rattle.text.specs.Word.{bytes}
use Rattle.algebra.specs.Tally.{notes, noted, headed, tally_triples, tally}
use Rattle.algebra.proofs.Given.{tree_text, given-as-text, empty-reads}
use Rattle.answers.specs.Outcome.{Answer, written, Answered}
use Rattle.answers.proofs.Given.{answered-none, answered-some}
use Rattle.scoping.specs.Sets.{keep, triple_variables}
use Rattle.scoping.specs.Variables.{variables_in_pattern}
use Rattle.scoping.specs.Numbering.{by_place, in_scope_by_place, hidden_by_place}
use Rattle.surveying.specs.Scope.{scope_text, scope_read, scope_outcome}
use Rattle.surveying.specs.bridge.AsIs.{scope_as_is}

pub scope-given : (tree : Bytes) → scope_outcome tree ≡ scope_as_is (tree_text tree)
unfolding scope_outcome scope_as_is
scope-given tree = ap scope_read (given-as-text tree)

-- an empty file has no names
pub scope-empty : scope_outcome [] ≡ written (bytes "in\nhid\n")
unfolding scope_outcome scope_text text_of ended in_scope_by_place hidden_by_place by_place tally tally_triples headed noted notes keep variables_in_pattern triple_variables
scope-empty = ap scope_read empty-reads

-- a text of no bytes, and any other
module _ (s before after : Bytes) (r : Answer) where
  pub scope-none : length s ≡ 0 → Answered (scope_as_is (bytes "project\nbgp\t0\n")) before after r → Answered (scope_outcome s) before after r
  scope-none = answered-none scope_outcome scope_as_is scope-given s before after r

  pub scope-some : (length s ≡ 0 → ⊥) → Answered (scope_as_is s) before after r → Answered (scope_outcome s) before after r
  scope-some = answered-some scope_outcome scope_as_is scope-given s before after r
