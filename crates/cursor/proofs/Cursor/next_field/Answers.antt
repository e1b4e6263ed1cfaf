-- `cursor::Cursor/next_field` meets its contract. Assumes nothing.
use borrow.Author.Rules.{rules}
use mathlib.Core.Path.{refl}
use Rattle.cursor.specs.bridge.Cursor.{Reads}
use Rattle.cursor.proofs.Cursor.next_field.Goals as goal

pub returns-then-end-at : goal.returns-then-end-at
unfolding Reads
returns-then-end-at c = c.if-end-at.true

pub field_end-to-requires : goal.field_end-to-requires
unfolding Reads
field_end-to-requires c = search rules

pub overflow_add-result : goal.overflow_add-result
unfolding Reads
overflow_add-result c = search rules

pub returns : goal.returns
unfolding Reads
returns c = (c.field_end-to.ensures, refl, refl, refl)
