-- `heads::is_mergeable` meets its contract. Assumes nothing.
use Rattle.heads.proofs.Heads as H
use Rattle.heads.proofs.is_mergeable.Goals as goal

pub returns-then-not-is_select_or_ask : goal.returns-then-not-is_select_or_ask
returns-then-not-is_select_or_ask c =
    λ a b l r. H.not-mergeable _ _ a b l r _ (c.is_select_or_ask.ensures a l) c.if-not-is_select_or_ask.true-raw

pub returns : goal.returns
returns c =
    λ a b l r. H.heads-decide _ _ a b l r _ _ (c.is_select_or_ask.ensures a l) c.if-not-is_select_or_ask.false-raw c.equal.ensures
