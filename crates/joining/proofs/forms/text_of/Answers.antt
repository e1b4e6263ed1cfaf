-- `joining::forms/text_of` meets its contract. Assumes nothing.
use mathlib.Core.Path.{refl}
use Rattle.joining.proofs.Checked as F
use Rattle.joining.proofs.forms.text_of.Goals as goal

pub returns-then-from-text : goal.returns-then-from-text
returns-then-from-text c = F.stands_here c.args.text.now _ _ _ c.if-from-text.true refl

pub returns : goal.returns
returns c = F.stands-there c.args.text.now _ _ _ c.if-from-text.false refl
