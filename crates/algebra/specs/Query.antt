-- Queries and the lists that come beside them: docs/SPECIFICATION.md, "Queries", and "Lists". Assumes nothing.
use Rattle.std.specs.Prelude.{List, [], ◌∷◌, Bool, true, false, ℕ, zero, suc}
use Rattle.text.specs.Text.{Bytes}
use Rattle.text.specs.Field.{Kind, variable, constant, integer, absent, tag, datatype}
use Rattle.algebra.specs.Tree.{Pattern}

-- `query kind dataset base`, then a tree
pub record Query : Type 0 where
  pub kind : Bytes
  pub dataset : Bytes
  pub base : Bytes
  pub tree : Pattern

-- ---- lists of pairs, one a line

pub data PairList : Type 0 where
  joins constants mapping : PairList

-- a join: left and right position; a constant: position and term; a mapping: from and to
pub record Pair : Type 0 where
  pub first : Bytes
  pub second : Bytes

abbrev pub first_kind : PairList → Kind
first_kind joins = integer
first_kind constants = integer
first_kind mapping = variable

abbrev pub second_kind : PairList → Kind
second_kind joins = integer
second_kind constants = constant
second_kind mapping = variable

-- whether the first field may stand in one line only
abbrev pub unique : PairList → Bool
unique joins = false
unique constants = true
unique mapping = true

-- ---- values

-- nemo's `ValueDomain`
pub data Domain : Type 0 where
  PlainString LanguageTaggedString Iri Float Double UnsignedLong NonNegativeLong UnsignedInt NonNegativeInt Long Int Boolean Null Tuple Map Other : Domain

-- `domain lexical extra`
pub record Value : Type 0 where
  pub domain : Domain
  pub lexical : Bytes
  pub extra : Bytes

-- what the extra of each domain is: docs/SPECIFICATION.md, "Values"
abbrev pub extra_kind : Domain → Kind
extra_kind PlainString = absent
extra_kind LanguageTaggedString = tag
extra_kind Iri = absent
extra_kind Float = datatype
extra_kind Double = datatype
extra_kind UnsignedLong = datatype
extra_kind NonNegativeLong = datatype
extra_kind UnsignedInt = datatype
extra_kind NonNegativeInt = datatype
extra_kind Long = datatype
extra_kind Int = datatype
extra_kind Boolean = datatype
extra_kind Null = absent
extra_kind Tuple = absent
extra_kind Map = absent
extra_kind Other = datatype

-- `set m k`, a line `at` and m positions, k lines `row` and m values
pub record BindingSet : Type 0 where
  pub positions : List Bytes
  pub rows : List (List Value)

-- ---- filters

pub data FilterWord : Type 0 where
  UN BIN TERN NARY : FilterWord

mutual
  pub data Filter : Type 0 where
    leaf : Value → Filter
    ref : Bytes → Filter  -- a column's position
    function : FilterWord → Bytes → Filters → Filter  -- the function's name, its parts

  pub data Filters : Type 0 where
    fend : Filters
    fcons : Filter → Filters → Filters

abbrev pub fcount : Filters → ℕ
fcount fend = 0
fcount (fcons f fs) = suc (fcount fs)
