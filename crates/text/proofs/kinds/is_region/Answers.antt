-- `text::kinds/is_region` meets its contract. Assumes nothing.
use Rattle.text.proofs.Tests as T
use Rattle.text.proofs.FieldLaws as F
use mathlib.Core.Bool.{false}
use Rattle.text.proofs.kinds.is_region.Goals as goal

pub returns-then-f-at : goal.returns-then-f-at
returns-then-f-at c = search F.region-none

pub returns-then-f-at-ne3 : goal.returns-then-f-at-ne3
returns-then-f-at-ne3 c = search F.region-long

pub returns-then-f-at-ne45 : goal.returns-then-f-at-ne45
returns-then-f-at-ne45 c = F.region-is _ _ c.if-f-at.false false c.if-f-at-ne3.false (search T.equal-stop)

pub returns-then-not-small : goal.returns-then-not-small
returns-then-not-small c = F.region-is _ _ c.if-f-at.false false c.if-f-at-ne3.false (search (T.equal-go, T.and-stop!))

pub returns : goal.returns
returns c = F.region-is _ _ c.if-f-at.false _ c.if-f-at-ne3.false (search (T.equal-go, T.and-go!))
