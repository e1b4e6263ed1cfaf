-- A text written under new names, by the places of its variables: what stands between them is copied, and each is written anew. Assumes nothing.
use Rattle.std.specs.Prelude.{ℕ, ◌+◌, ◌≤◌, ◌≡◌, List, [], ◌∷◌, cond, length}
use Rattle.text.specs.Text.{Bytes, part}
use Rattle.algebra.specs.Valid.{mem}
use Rattle.emit.specs.bridge.Emit.{Em, puts}
use Rattle.scoping.specs.Sets.{index_of}
use Rattle.scoping.specs.bridge.Spots.{Spot}
use Rattle.walking.specs.bridge.Walk.{flagged}

-- the text from a place up to another
unfoldable pub rewritten : (Bytes → Bytes) → Bytes → List Spot → ℕ → ℕ → Em → Em
unfolding puts
rewritten new s [] from to e = puts (part from to s) e
rewritten new s (x ∷ xs) from to e = rewritten new s xs (x.at + length x.name) to (puts (new x.name) (puts (part from x.at s) e))

-- each variable that is in the table is noted with its mark
unfoldable pub flag_spots : List Bytes → List Spot → List ℕ → List ℕ
unfolding mem index_of
flag_spots ns [] flags = flags
flag_spots ns (x ∷ xs) flags = flag_spots ns xs (cond (mem x.name ns) (flagged x.mark (index_of x.name ns) flags) flags)

-- the variables stand in the text from a place up to another, one behind the other
unfoldable pub Stands : Bytes → ℕ → ℕ → List Spot → Type 0
Stands s from to [] = (from ≤ to) × (to ≤ length s)
Stands s from to (x ∷ xs) = (from ≤ x.at) × (part x.at (x.at + length x.name) s ≡ x.name) × Stands s (x.at + length x.name) to xs
