-- `text::kinds/is_tag` meets its contract. Assumes nothing.
use Rattle.text.proofs.Tests as T
use Rattle.text.proofs.FieldLaws as F
use Rattle.text.proofs.kinds.is_tag.Goals as goal

pub returns-then-f-lt2 : goal.returns-then-f-lt2
returns-then-f-lt2 c = search F.tag-short

pub returns-then-not-small : goal.returns-then-not-small
returns-then-not-small c = search (F.tag_is, T.and-stop!)

pub returns-then-not-small-2 : goal.returns-then-not-small-2
returns-then-not-small-2 c = search (F.tag_is, T.and-go!, T.and-stop!)

pub returns-then-is_region : goal.returns-then-is_region
returns-then-is_region c = search (F.tag_is, T.and-go!, T.or_left)

pub returns-then-f-lt3 : goal.returns-then-f-lt3
returns-then-f-lt3 c = search (F.tag_is, T.and-go!, F.third-none)

pub returns-then-not-small-3 : goal.returns-then-not-small-3
returns-then-not-small-3 c = search (F.tag_is, T.and-go!, F.third-large)

pub returns : goal.returns
returns c = search (F.tag_is, T.and-go!, F.third-small)
