-- Reading a query and the lists back: docs/SPECIFICATION.md, "Queries", and "Lists". Assumes nothing.
use Rattle.std.specs.Prelude.{ℕ, zero, suc, List, [], ◌∷◌}
use Rattle.text.specs.Text.{Bytes}
use Rattle.text.specs.Word.{bytes, spelled}
use Rattle.text.specs.Field.{integer, opaque, lexical, form}
use Rattle.algebra.specs.Query.{Query, PairList, Pair, first_kind, second_kind, unique, Value, extra_kind, BindingSet, Filter, leaf, ref, function, Filters, fend, fcons}
use Rattle.algebra.specs.Word.{PartWord, LEAF, REF, FUNCTION, spell_part, spell_v, part_words, domains, filter_arity}
use Rattle.algebra.specs.Tally.{Limits, Tally, noted, tally_pair}
use Rattle.algebra.specs.Reader.{over_bound, Reader, ◌>>=◌, ◌>>◌, return, refuse, one, field, fresh_field, number, keyword, times, end, close_at, several}
use Rattle.algebra.specs.Reading.{taken, listed, tree}

-- `domain lexical extra`
abbrev pub value : Reader Value
value = do
  d ← one (spelled spell_v domains)
  l ← field lexical
  x ← field (extra_kind d)
  return (record { domain = d; lexical = l; extra = x })

-- n parts of a filter, one after the other
unfoldable pub parts : ℕ → Reader Filter → Reader Filters
parts zero r = return fend
parts (suc n) r = do
  f ← r
  fs ← parts n r
  return (fcons f fs)

-- what follows the word of a filter part, where `close` ends its line and r reads the parts below it
unfoldable pub part_after : ((Tally → Tally) → Reader (Unit {0})) → Reader Filter → PartWord → Reader Filter
unfolding parts
part_after close r LEAF = do
  v ← value
  close (noted [])
  return (leaf v)
part_after close r REF = do
  k ← field integer
  close (noted [])
  return (ref k)
part_after close r (FUNCTION w) = do
  n ← field opaque
  k ← taken (filter_arity w)
  close (noted [])
  fs ← parts k r
  return (function w n fs)

module _ (β : Limits) where
  -- a line `row` of n values
  abbrev pub value_row : ℕ → Reader (List Value)
  value_row n = do
    keyword (bytes "row")
    vs ← times n value
    end β (noted [])
    return vs

  -- `query kind dataset base`, then a tree
  abbrev pub query : Reader Query
  query = do
    keyword (bytes "query")
    k ← field form
    d ← field opaque
    b ← field opaque
    end β (noted [])
    p ← tree β
    return (record { kind = k; dataset = d; base = b; tree = p })

  -- a line of two fields
  abbrev pub pair : PairList → ℕ → Reader Pair
  pair κ n = do
    a ← fresh_field (unique κ) (first_kind κ)
    b ← field (second_kind κ)
    close_at β n (tally_pair κ a)
    return (record { first = a; second = b })

  abbrev pub pairs : PairList → Reader (List Pair)
  pairs κ = several β.entries (pair κ 1) (pair κ 0)

  -- `set m k`, a line `at` and m positions, k lines `row` and m values
  abbrev pub binding_set : ℕ → Reader BindingSet
  binding_set n = do
    keyword (bytes "set")
    m ← number
    k ← number
    close_at β n (noted [])
    ps ← listed β (bytes "at") integer m
    rs ← times k (value_row m)
    return (record { positions = ps; rows = rs })

  abbrev pub binding_sets : Reader (List BindingSet)
  binding_sets = several β.entries (binding_set 1) (binding_set 0)

  -- d levels may still be opened
  unfoldable pub filter_in : ℕ → Reader Filter
  filter_in zero = do
    w ← one (spelled spell_part part_words)
    part_after (close_at β zero) (refuse over_bound) w
  filter_in (suc d) = do
    w ← one (spelled spell_part part_words)
    part_after (close_at β (suc d)) (filter_in d) w

  abbrev pub filters : Reader (List Filter)
  filters = several β.entries (filter_in β.depth) (filter_in 0)
