-- Which names are noted where the walk meets places of variables. Assumes nothing.
use Rattle.std.specs.Prelude.{ℕ, List, [], ◌∷◌, cond}
use Rattle.text.specs.Text.{Bytes}
use Rattle.algebra.specs.Valid.{mem}
use Rattle.scoping.specs.Sets.{index_of}
use Rattle.scoping.specs.bridge.Places.{Place}
use Rattle.walking.specs.bridge.Walk.{flagged}

-- every place's name that is in the table is noted with its mark, one after the other
unfoldable pub flag_all : List Bytes → List Place → List ℕ → List ℕ
unfolding mem index_of
flag_all ns [] flags = flags
flag_all ns (x ∷ xs) flags = flag_all ns xs (cond (mem x.name ns) (flagged x.mark (index_of x.name ns) flags) flags)
