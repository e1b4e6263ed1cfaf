-- What the loops of `values.put_values` keep. Assumes nothing.
use Prim.Native.Nat.{ℕ, ◌-◌}
use lib.ListN.{length}
use Rattle.text.specs.Text.{lines_from}
use Rattle.text.proofs.Texts.{Ended}
use Rattle.cursor.specs.declared.Cursor.{Cursor}
use Rattle.emit.specs.bridge.Writer.{Left}
use Rattle.names.specs.bridge.Names.{names_in}
use Rattle.binding.proofs.Valued as Vd
use Rattle.binding.proofs.values.put_values.Given as goal

-- where a cursor is
abbrev pub at : Cursor → ℕ
at d = d.at

abbrev pub invariant-loop-c : goal.invariant-loop-c
invariant-loop-c l = Ended (lines_from l.sets l.c.at) × Left l.initial.w l.w (Vd.ValuesText (names_in l.tree l.columns l.n) (lines_from l.sets 0)) (Vd.ValuesText (names_in l.tree l.columns l.n) (lines_from l.sets l.c.at))

abbrev pub decreases-loop-c : goal.decreases-loop-c
decreases-loop-c l = length l.sets - l.c.at
