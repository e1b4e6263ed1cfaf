-- What stands at a place of a file of records. Assumes nothing.
use Rattle.std.specs.Prelude.{ℕ, ◌<◌, ⊤}
use Rattle.records.specs.declared.Entry.{Entry}
use Rattle.records.specs.declared.Entry.TheVariants.{Record, Bad, End}

-- a record goes on behind its place
abbrev pub GoesOn : ℕ → Entry → Type 0
GoesOn at (Record r) = at < r.next
GoesOn at Bad = ⊤
GoesOn at End = ⊤
