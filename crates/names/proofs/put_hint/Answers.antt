-- `names::put_hint` meets its contract. Assumes nothing.
use Rattle.names.proofs.put_hint.Goals as goal

pub returns-then-at-lt2048 : goal.returns-then-at-lt2048
returns-then-at-lt2048 c = λ from f e. f.here c.if-at-lt2048.true _ e

pub returns-else-at-lt2048 : goal.returns-else-at-lt2048
returns-else-at-lt2048 c = λ from f e. f.none c.if-at-lt2048.false _
