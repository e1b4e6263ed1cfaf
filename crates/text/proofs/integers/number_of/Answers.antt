-- `text::integers/number_of` meets its contract. Assumes nothing.
use Rattle.text.proofs.FieldLaws as F
use Rattle.text.proofs.integers.number_of.Goals as goal

pub returns-then-f-eq0 : goal.returns-then-f-eq0
returns-then-f-eq0 c = search F.number-empty

pub returns-then-f-eq1 : goal.returns-then-f-eq1
returns-then-f-eq1 c = search F.number-one

pub returns-then-f-eq48 : goal.returns-then-f-eq48
returns-then-f-eq48 c = search F.number-zero

pub returns : goal.returns
returns c = search F.number-many
