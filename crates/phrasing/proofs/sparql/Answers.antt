-- `phrasing::sparql` meets its contract. Assumes nothing.
use Rattle.reading.specs.bridge.Variables.{query_names}
use Rattle.reading.proofs.Said as Said
use Rattle.phrasing.proofs.Call as K
use mathlib.Core.Logic.{inl, inr}
use Rattle.std.proofs.lemmas.Result.{err_from_is_err_and}
use Rattle.algebra.proofs.Faults.{which}
use Rattle.phrasing.proofs.sparql.Goals as goal

pub sparql_given-requires : goal.sparql_given-requires
sparql_given-requires c =
    let g = Said.said-good query_names _ _ _ _ _ _ _ c.check_query.ensures c.in_ok-check_query.was in ((g.value, g.read), c.all_words-words.ensures)

pub returns-in_err-check_query : goal.returns-in_err-check_query
returns-in_err-check_query c =
    let exit = err_from_is_err_and c.from_residual.result c.from_residual.ensures.1 in
    elim (which _ _ c.in_err-check_query.was) [
      | inl fault ↦ rw (exit.1, exit.2, fault.1) (K.edition-malformed _ _ _ (Said.said-malformed query_names _ _ _ _ _ _ c.check_query.ensures fault.0))
      | inr fault ↦ rw (exit.1, exit.2, fault.1) (K.edition-over _ _ _ (Said.said-over query_names _ _ _ _ _ _ c.check_query.ensures fault.0))
    ]
