-- The one table of words: the fields of a line that begins with each, and the lines that come below it. docs/SPECIFICATION.md, "Lines of a tree". Assumes nothing.
use Rattle.std.specs.Prelude.{ℕ, List, [], ◌∷◌, ◌++◌, map, Bool, true, false, cond}
use Rattle.std.proofs.Math.Option.{Option, none, some}
use Rattle.text.specs.Text.{Bytes, same}
use Rattle.text.specs.Word.{bytes}
use Rattle.text.specs.Field.{Kind, variable, node, plain, name, cell, integer, limit, flag, opaque, form}
use Rattle.algebra.specs.Word.{PatternWord, BGP, PATH, JOIN, UNION, MINUS, LEFTJOIN, FILTER, GRAPH, EXTEND, VALUES, ORDERBY, PROJECT, DISTINCT, REDUCED, SLICE, GROUP, SERVICE, ExpressionWord, TERM, BOUND, EXISTS, CALL, OP, AggregateWord, AGG, AGGALL, PartWord, LEAF, REF, FUNCTION, spell_p, spell_e, spell_d, spell_a, spell_part, pattern_words, expression_words, directions, aggregate_words, part_words, Arity, exactly, counted, arity, filter_arity}

-- what stands in a field
pub data Slot : Type 0 where
  term text : Kind → Slot  -- a term, whose variable is counted; something else
  count choice : Slot  -- a number of lines to come; 0 or 1 of them

-- what stands behind those fields
pub data Tail : Type 0 where
  nothing : Tail
  columns : Tail  -- any number of variables, a project's columns
  variables : Tail  -- as many variables as the line above says
  texts : Kind → Tail  -- as many fields of that kind
  values : Tail  -- as many values of three fields
  value : Tail  -- one value of three fields

-- the sorts of lines
pub data Sort : Type 0 where
  triples columns patterns expressions rows orders aggregates heads sets positions value_rows parts : Sort

-- how many: so many; or the number in that field of the line, or so many more
pub data Amount : Type 0 where
  always : ℕ → Amount
  given : ℕ → Amount
  more : ℕ → ℕ → Amount

pub record Below : Type 0 where
  pub amount : Amount
  pub sort : Sort

abbrev pub ◌of◌ : Amount → Sort → Below
◌of◌ a s = record { amount = a; sort = s }

infix 90 ◌of◌
pub record Row : Type 0 where
  pub slots : List Slot
  pub tail : Tail
  pub below : List Below

abbrev pub row : List Slot → List Below → Row
row s b = record { slots = s; tail = nothing; below = b }

abbrev pub tailed : Tail → List Below → Row
tailed t b = record { slots = []; tail = t; below = b }

abbrev pub one : Amount
one = always 1

abbrev pub two : Amount
two = always 2

abbrev pub first : Amount
first = given 0

abbrev pub second : Amount
second = given 1

abbrev pub pattern_row : PatternWord → Row
pattern_row BGP = row (count ∷ []) (first of triples ∷ [])
pattern_row PATH = row (term node ∷ text opaque ∷ term node ∷ []) []
pattern_row JOIN = row [] (two of patterns ∷ [])
pattern_row UNION = row [] (two of patterns ∷ [])
pattern_row MINUS = row [] (two of patterns ∷ [])
pattern_row LEFTJOIN = row (choice ∷ []) (two of patterns ∷ first of expressions ∷ [])
pattern_row FILTER = row [] (one of patterns ∷ one of expressions ∷ [])
pattern_row GRAPH = row (term name ∷ []) (one of patterns ∷ [])
pattern_row EXTEND = row (term variable ∷ []) (one of patterns ∷ one of expressions ∷ [])
pattern_row VALUES = row (count ∷ count ∷ []) (one of columns ∷ second of rows ∷ [])
pattern_row ORDERBY = row (count ∷ []) (one of patterns ∷ first of orders ∷ [])
pattern_row PROJECT = tailed columns (one of patterns ∷ [])
pattern_row DISTINCT = row [] (one of patterns ∷ [])
pattern_row REDUCED = row [] (one of patterns ∷ [])
pattern_row SLICE = row (text integer ∷ text limit ∷ []) (one of patterns ∷ [])
pattern_row GROUP = row (count ∷ count ∷ []) (one of columns ∷ one of patterns ∷ second of aggregates ∷ [])
pattern_row SERVICE = row (term name ∷ text flag ∷ []) (one of patterns ∷ [])

abbrev pub arity_row : Arity → Row
arity_row (exactly n) = row [] (always n of expressions ∷ [])
arity_row (counted n) = row (count ∷ []) (more 0 n of expressions ∷ [])

abbrev pub expression_row : ExpressionWord → Row
expression_row TERM = row (term plain ∷ []) []
expression_row BOUND = row (term variable ∷ []) []
expression_row EXISTS = row [] (one of patterns ∷ [])
expression_row CALL = row (text opaque ∷ count ∷ []) (second of expressions ∷ [])
expression_row (OP o) = arity_row (arity o)

abbrev pub aggregate_row : AggregateWord → Row
aggregate_row AGG = row (term variable ∷ text opaque ∷ text flag ∷ []) (one of expressions ∷ [])
aggregate_row AGGALL = row (term variable ∷ text flag ∷ []) []

abbrev pub function_row : Arity → Row
function_row (exactly n) = row (text opaque ∷ []) (always n of parts ∷ [])
function_row (counted n) = row (text opaque ∷ count ∷ []) (more 1 n of parts ∷ [])

abbrev pub part_row : PartWord → Row
part_row LEAF = tailed value []
part_row REF = row (text integer ∷ []) []
part_row (FUNCTION w) = function_row (filter_arity w)

-- a word with its row
pub record Entry : Type 0 where
  pub word : Bytes
  pub row : Row

abbrev pub entry : Bytes → Row → Entry
entry w r = record { word = w; row = r }

-- the words that a line of each sort may begin with
abbrev pub rows_of : Sort → List Entry
rows_of triples = entry (bytes "t") (row (term node ∷ term name ∷ term node ∷ []) []) ∷ []
rows_of columns = entry (bytes "cols") (tailed variables []) ∷ []
rows_of patterns = map (λ w. entry (spell_p w) (pattern_row w)) pattern_words
rows_of expressions = map (λ w. entry (spell_e w) (expression_row w)) expression_words
rows_of rows = entry (bytes "row") (tailed (texts cell) []) ∷ []
rows_of orders = map (λ d. entry (spell_d d) (row [] (one of expressions ∷ []))) directions
rows_of aggregates = map (λ w. entry (spell_a w) (aggregate_row w)) aggregate_words
rows_of heads = entry (bytes "query") (row (text form ∷ text opaque ∷ text opaque ∷ []) (one of patterns ∷ [])) ∷ []
rows_of sets = entry (bytes "set") (row (count ∷ count ∷ []) (one of positions ∷ second of value_rows ∷ [])) ∷ []
rows_of positions = entry (bytes "at") (tailed (texts integer) []) ∷ []
rows_of value_rows = entry (bytes "row") (tailed values []) ∷ []
rows_of parts = map (λ w. entry (spell_part w) (part_row w)) part_words

abbrev pub sorts : List Sort
sorts = triples ∷ columns ∷ patterns ∷ expressions ∷ rows ∷ orders ∷ aggregates ∷ heads ∷ sets ∷ positions ∷ value_rows ∷ parts ∷ []

abbrev pub entries_of : List Sort → List Entry
entries_of [] = []
entries_of (s ∷ ss) = rows_of s ++ entries_of ss

-- all words, sort by sort
unfoldable pub table : List Entry
table = entries_of sorts

-- the first row whose word it is
unfoldable pub row_in : List Entry → Bytes → Option Row
unfolding same
row_in [] f = none
row_in (e ∷ es) f = cond (same f e.word) (some e.row) (row_in es f)

-- the row of a word at the head of a line of that sort
abbrev pub row_for : Sort → Bytes → Option Row
row_for s f = row_in (rows_of s) f

-- a line of this sort needs a level or an entry of its own
abbrev pub opens : Sort → Bool
opens triples = false
opens columns = false
opens patterns = true
opens expressions = true
opens rows = false
opens orders = false
opens aggregates = false
opens heads = false
opens sets = true
opens positions = false
opens value_rows = false
opens parts = true
