-- A test of the outermost projection's columns, where there is one. Assumes nothing.
use Rattle.std.specs.Prelude.{Bool, true, List}
use Rattle.std.proofs.Math.Option.{Option, none, some}
use Rattle.text.specs.Text.{Bytes}
use Rattle.merging.specs.Request.{Projection}

-- nothing fails where there is none
abbrev pub if_found : Option Projection → (List Bytes → Bool) → Bool
if_found none f = true
if_found (some x) f = f x.columns
