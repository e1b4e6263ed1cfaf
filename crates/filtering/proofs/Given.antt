-- Bindings and filters take an empty file as the text of its two lines. Assumes nothing.
use mathlib.Core.Path.{◌≡◌, ap, sym, ◌∙◌}
use Prim.Native.Nat.{ℕ}
use mathlib.Core.List.{List, []}
use lib.ListN.{length}
use Rattle.text.specs.Text.{Bytes}
use Rattle.text.specs.Word.{bytes}
use Rattle.algebra.specs.Given.{empty_tree}
use Rattle.algebra.proofs.Given.{tree_text, text-none, text-some, given-as-text, empty-reads}
use Rattle.answers.specs.Outcome.{Answer, written, Answered}
use Rattle.answers.specs.Both.{AnsweredBoth}
use Rattle.answers.proofs.Given.{answered-none, answered-some}
use Rattle.answers.proofs.Both.{answered-both}
use Rattle.filtering.specs.Bindings.{bindings_read, bindings_outcome}
use Rattle.filtering.specs.bridge.AsIs.{bindings_as_is, filters_as_is, not_placed_as_is}
use Rattle.filtering.specs.Filters.{filters_read, filters_outcome}
use Rattle.filtering.specs.NotPlaced.{not_placed_read, filters_not_placed}
use Rattle.filtering.proofs.Theorem.{bindings-no-sets, filters-no-filters}

pub bindings-given : (tree sets : Bytes) → bindings_outcome tree sets ≡ bindings_as_is (tree_text tree) sets
unfolding bindings_outcome bindings_as_is
bindings-given tree sets = ap (λ r. bindings_read r sets) (given-as-text tree)

pub filters-given : (tree filters : Bytes) → filters_outcome tree filters ≡ filters_as_is (tree_text tree) filters
unfolding filters_outcome filters_as_is
filters-given tree filters = ap (λ r. filters_read r filters) (given-as-text tree)

pub not-placed-given : (tree filters : Bytes) → filters_not_placed tree filters ≡ not_placed_as_is (tree_text tree) filters
unfolding filters_not_placed not_placed_as_is
not-placed-given tree filters = ap (λ r. not_placed_read r filters) (given-as-text tree)

-- copied, an empty file is two lines
pub bindings-empty : bindings_outcome [] [] ≡ written (bytes "project\nbgp\t0\n")
bindings-empty = bindings-given [] [] ∙ bindings-no-sets (tree_text []) empty_tree (sym (given-as-text []) ∙ empty-reads)

pub filters-empty : filters_outcome [] [] ≡ written (bytes "project\nbgp\t0\n")
filters-empty = filters-given [] [] ∙ filters-no-filters (tree_text []) empty_tree (sym (given-as-text []) ∙ empty-reads)

-- a text of no bytes, and any other
module _ (s list before after : Bytes) (r : Answer) where
  pub bindings-none : length s ≡ 0 → Answered (bindings_as_is (bytes "project\nbgp\t0\n") list) before after r → Answered (bindings_outcome s list) before after r
  bindings-none = answered-none (λ t. bindings_outcome t list) (λ t. bindings_as_is t list) (λ t. bindings-given t list) s before after r

  pub bindings-some : (length s ≡ 0 → ⊥) → Answered (bindings_as_is s list) before after r → Answered (bindings_outcome s list) before after r
  bindings-some = answered-some (λ t. bindings_outcome t list) (λ t. bindings_as_is t list) (λ t. bindings-given t list) s before after r

module _ (s filters before after : Bytes) (lent left : List ℕ) (r : Answer) (m : ℕ) where
  -- with the list of those not placed
  as-text : (t : Bytes) → tree_text s ≡ t → AnsweredBoth (filters_as_is t filters) (not_placed_as_is t filters) before after lent left r m → AnsweredBoth (filters_outcome s filters) (filters_not_placed s filters) before after lent left r m
  as-text t e = answered-both _ _ _ _ before after lent left r m (filters-given s filters ∙ ap (λ (u : Bytes). filters_as_is u filters) e) (not-placed-given s filters ∙ ap (λ (u : Bytes). not_placed_as_is u filters) e)

  pub filters-none : length s ≡ 0 → AnsweredBoth (filters_as_is (bytes "project\nbgp\t0\n") filters) (not_placed_as_is (bytes "project\nbgp\t0\n") filters) before after lent left r m → AnsweredBoth (filters_outcome s filters) (filters_not_placed s filters) before after lent left r m
  filters-none e = as-text (bytes "project\nbgp\t0\n") (text-none s e)

  pub filters-some : (length s ≡ 0 → ⊥) → AnsweredBoth (filters_as_is s filters) (not_placed_as_is s filters) before after lent left r m → AnsweredBoth (filters_outcome s filters) (filters_not_placed s filters) before after lent left r m
  filters-some n = as-text s (text-some s n)
