-- `walking::places/note` meets its contract. Assumes nothing.
use Rattle.walking.proofs.Laws as L
use Rattle.walking.proofs.places.note.Goals as goal

pub returns-then-mark-eq0 : goal.returns-then-mark-eq0
returns-then-mark-eq0 c = search L.flag-visible

pub returns-then-mark-eq1 : goal.returns-then-mark-eq1
returns-then-mark-eq1 c = search L.flag-covered

pub returns-else-mark-eq1 : goal.returns-else-mark-eq1
returns-else-mark-eq1 c = search L.flag-silent
