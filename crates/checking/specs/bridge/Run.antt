-- What the descent says of the line machine's run. Assumes nothing.
use Rattle.std.specs.Prelude.{Result, ℕ, zero, suc, ◌≤◌, ◌<◌, ◌≡◌, List, ◌++◌, true, cond, eqb, length, Ok, Err}
use Rattle.text.specs.Text.{Bytes, lines_from}
use Rattle.algebra.specs.Tally.{Tally, bounds}
use Rattle.algebra.specs.Reader.{Refusal, malformed, over_bound}
use Rattle.algebra.specs.bridge.Machine.{Want, More, Check, good, bad, run}
use Rattle.algebra.specs.bridge.Answers.{Answer}
use Rattle.algebra.specs.bridge.Table.{opens}
use Rattle.words.specs.bridge.Code.{sort_at, sorts_in}
use Rattle.words.specs.bridge.Words.{Worded}
use Rattle.names.specs.bridge.Names.{Holds, starts_of, sizes_of}
use Rattle.checking.specs.declared.place.Place.{Place}
use Rattle.checking.specs.declared.place.Taken.{Taken}
use Rattle.lines.specs.bridge.Says.{Heads}
use Rattle.algebra.specs.declared.Fault.{Fault}
use Rattle.algebra.specs.declared.Fault.TheVariants.{Malformed, OverBound}

-- the place that a check reached, or the fault that ended it
abbrev pub Reached : Type 0
Reached = Result Place Fault

-- the machine's refusal for a fault
abbrev pub refusal : Fault → Refusal
refusal Malformed = malformed
refusal OverBound = over_bound

-- a place of a text that is not too long; a line has a byte at least
pub record Ready (s : Bytes) (p : Place) : Type 0 where
  pub short : length s ≤ 16384
  pub few : p.lines ≤ p.cursor.at

-- before the first line of a text
pub record Started (p : Place) : Type 0 where
  pub at : p.cursor.at ≡ 0
  pub lines : p.lines ≡ 0
  pub names : p.n ≡ 0
  pub spots : p.spots ≡ 0
  pub nodes : p.nodes ≡ 0

-- the machine has counted what the check has, and the table holds its names
pub record Stood (s : Bytes) (starts sizes hints : List ℕ) (p : Place) (m : Tally) : Type 0 where
  pub lines : m.lines ≡ p.lines
  pub wide : m.wide ≤ bounds.columns
  pub names : Holds s starts sizes hints p.n m.names

-- the run x goes on from the place with ws to come, or ends with the same fault
unfoldable pub Went : Bytes → List ℕ → List ℕ → List ℕ → More → List Want → Check → Reached → Type 0
Went s starts sizes hints ρ ws x (Ok p) = (m : Tally) × (x ≡ run bounds (lines_from s p.cursor.at) ρ ws m) × Stood s starts sizes hints p m
Went s starts sizes hints ρ ws x (Err f) = x ≡ bad (refusal f)

-- from p to r the code went as the machine runs over these wants, with as many asked for instead, whatever is wanted behind them
abbrev pub Runs : Bytes → List (List ℕ) → List ℕ → Place → List Want → List Want → List (List ℕ) → List ℕ → Reached → Type 0
Runs s t h p us vs t' h' r =
    (ρ : More) (ws : List Want) (m : Tally) → Stood s (starts_of t) (sizes_of t) h p m → Went s (starts_of t') (sizes_of t') h' ρ (vs ++ ws) (run bounds (lines_from s p.cursor.at) ρ (us ++ ws) m) r

-- a place of a text, from which a check goes on
pub record Begins (s : Bytes) (next : ℕ) (p : Place) (sort : ℕ) (words : List (List ℕ)) : Type 0 where
  pub at : next ≡ p.cursor.at
  pub known : sort ≤ 11
  pub ready : Ready s p
  pub worded : Worded words

-- the sort of a text's tree: a query's stands behind its head line
abbrev pub tree_sort : ℕ → ℕ
tree_sort sort = cond (eqb sort 7) 2 sort

-- a place behind p, where a line of a sort was taken: it has a level if it opens one
pub record Ahead (s : Bytes) (p : Place) (sort level : ℕ) (q : Place) : Type 0 where
  pub behind : p.cursor.at < q.cursor.at
  pub ready : Ready s q
  pub deep : opens (sort_at sort) ≡ true → level ≡ 0 → ⊥

-- what a good line from p on asks for is of known sorts, and its numbers are those of a field
pub record Sound (s : Bytes) (p : Place) (sort level : ℕ) (r : Taken) : Type 0 where
  pub inside : p.cursor.at < 16384
  pub ahead : Ahead s p sort level r.place
  pub sorts : sorts_in 11 3 r.row.below ≡ true
  pub trees : sort ≤ 7 → sorts_in 6 3 r.row.below ≡ true
  pub small : (r.first < 4294967296) × (r.second < 4294967296)
  pub head : sort ≡ 7 → Heads r.row r.first

-- an entry of a list has so many levels; one too many has none
abbrev pub level_for : ℕ → ℕ → ℕ
level_for zero d = 0
level_for (suc n) d = d

-- the answer of a whole check, and the names that it kept
unfoldable pub Tells : Bytes → List ℕ → List ℕ → List ℕ → Check → Answer → Type 0
Tells s a l h (good m) r = (n : ℕ) × (r ≡ Ok n) × Holds s a l h n m.names
Tells s a l h (bad malformed) r = r ≡ Err Malformed
Tells s a l h (bad over_bound) r = r ≡ Err OverBound
