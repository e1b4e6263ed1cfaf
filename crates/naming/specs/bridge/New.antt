-- What a name of the table becomes, by the two numbers of its entry. Assumes nothing.
use Rattle.std.specs.Prelude.{ℕ, ◌%◌, List, [], ◌∷◌, ◌++◌, cond, get_or, eqb, ltb}
use Rattle.text.specs.Text.{Bytes, piece}
use Rattle.scoping.specs.Label.{label, generated}
use Rattle.scoping.specs.Sets.{index_of}

-- a generated name: its number, and its letter with 256, or with 512 where Label stands behind it
unfoldable pub named : ℕ → ℕ → Bytes
unfolding generated
named n b = cond (ltb b 512) (generated (b % 256) n) (generated (b % 256) n ++ label)

-- a new name: its start and its size in a text of names; where there is no such text, it is generated
unfoldable pub spelled : Bytes → ℕ → ℕ → Bytes
unfolding named
spelled [] a b = named a b
spelled (x ∷ names) a b = piece a b (x ∷ names)

-- what a name becomes; where the second number is 0, it stays
unfoldable pub replacement : List Bytes → Bytes → List ℕ → List ℕ → Bytes → Bytes
unfolding spelled
replacement ns names firsts seconds f = cond (eqb (get_or seconds (index_of f ns) 0) 0) f (spelled names (get_or firsts (index_of f ns) 0) (get_or seconds (index_of f ns) 0))
