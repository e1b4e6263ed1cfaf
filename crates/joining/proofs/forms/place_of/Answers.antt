-- `joining::forms/place_of` meets its contract. Assumes nothing.
use Rattle.joining.proofs.Checked as F
use Rattle.joining.proofs.forms.place_of.Goals as goal

pub returns-then-from-text : goal.returns-then-from-text
returns-then-from-text c = F.place_here c.args.text.now _ c.if-from-text.true

pub returns : goal.returns
returns c = F.place-there c.args.text.now _ c.if-from-text.false
