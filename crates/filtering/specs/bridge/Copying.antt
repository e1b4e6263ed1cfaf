-- A tree's own lines among those that follow it: a count of what is still to come, by the one table of words. Assumes nothing.
use Rattle.std.specs.Prelude.{ℕ, zero, suc, List, [], ◌∷◌, get_or}
use Rattle.std.proofs.Math.Option.{Option, none, some}
use Rattle.text.specs.Text.{Line}
use Rattle.text.specs.Field.{number_of}
use Rattle.algebra.specs.bridge.Table.{Below, Row, table, row_in}
use Rattle.algebra.specs.bridge.Machine.{amount_of}
use Rattle.scoping.specs.bridge.Walk.{number_in}
use Rattle.negating.specs.bridge.Lines.{word}

-- n and k
unfoldable pub plus : ℕ → ℕ → ℕ
plus zero k = k
plus (suc n) k = suc (plus n k)

-- all groups of a row
unfoldable pub amounts : List Below → List ℕ → ℕ
unfolding plus
amounts [] ns = 0
amounts (b ∷ []) ns = amount_of b.amount ns
amounts (b ∷ c ∷ bs) ns = plus (amount_of b.amount ns) (amounts (c ∷ bs) ns)

abbrev pub below : Option Row → List Below
below none = []
below (some r) = r.below

-- how many lines of any sort stand directly below a line
unfoldable pub to_come : Line → ℕ
unfolding amounts table row_in number_of
to_come l = amounts (below (row_in table (word l))) (number_in (get_or l 1 []) ∷ number_in (get_or l 2 []) ∷ [])

-- the lines of k trees, in front of others
unfoldable pub copying : List Line → ℕ → List Line → List Line
unfolding plus to_come
copying [] k u = u
copying (l ∷ ls) zero u = u
copying (l ∷ ls) (suc k) u = l ∷ copying ls (plus (to_come l) k) u
