-- `heads::is_select_or_ask` meets its contract. Assumes nothing.
use Rattle.heads.proofs.Heads as H
use Rattle.heads.proofs.is_select_or_ask.Goals as goal

pub returns-then-word-end : goal.returns-then-word-end
returns-then-word-end c = λ q e. H.kind-missing _ _ c.line_end-end.ensures q e _ c.field_end-word.ensures _ c.if-word-end.true

pub returns-then-equal : goal.returns-then-equal
returns-then-equal c =
    λ q e. H.is-select _ _ c.line_end-end.ensures q e _ c.field_end-word.ensures _ c.if-word-end.false c.field_end-to.ensures _ c.equal.ensures c.if-equal.true

pub returns : goal.returns
returns c =
    λ q e. H.is_ask _ _ c.line_end-end.ensures q e _ c.field_end-word.ensures _ c.if-word-end.false c.field_end-to.ensures _ c.equal.ensures _ c.if-equal.false c.equal-2.ensures
