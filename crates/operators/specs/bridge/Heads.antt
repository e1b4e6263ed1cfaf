-- What the code says of one line of a filter. Assumes nothing.
use Rattle.std.specs.Prelude.{◌≡◌, Bool, List, []}
use Rattle.std.proofs.Math.Option.{Option, none, some}
use Rattle.text.specs.Text.{Line, text_of}
use Rattle.text.specs.Field.{given}
use Rattle.emit.specs.declared.Writer.{Writer}
use Rattle.emit.specs.bridge.Writer.{Wrote}

-- the lines that there are, if any
abbrev pub lines_or : Option (List Line) → List Line
lines_or none = []
lines_or (some ls) = ls

-- whether there are lines, and that a writer put them
pub record Heads (o : Option (List Line)) (w v : Writer) (expressed : Bool) : Type 0 where
  pub is : expressed ≡ given o
  pub lines : Wrote w v (text_of (lines_or o))
