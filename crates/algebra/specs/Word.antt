-- The words that lines begin with, and how many children of one sort stand under a word: docs/SPECIFICATION.md, "Patterns", "Expressions" and "Filters". Assumes nothing.
use Rattle.std.specs.Prelude.{ℕ, List, [], ◌∷◌}
use Rattle.text.specs.Text.{Bytes}
use Rattle.text.specs.Word.{bytes}
use Rattle.algebra.specs.Tree.{Op, OR, AND, EQ, SAME, GT, GE, LT, LE, ADD, SUB, MUL, DIV, IN, PLUS, NEG, NOT, IF, COALESCE, Direction, ASC, DESC}
use Rattle.algebra.specs.Query.{Domain, PlainString, LanguageTaggedString, Iri, Float, Double, UnsignedLong, NonNegativeLong, UnsignedInt, NonNegativeInt, Long, Int, Boolean, Null, Tuple, Map, Other, FilterWord, UN, BIN, TERN, NARY}

pub data PatternWord : Type 0 where
  BGP PATH JOIN UNION MINUS LEFTJOIN FILTER GRAPH EXTEND VALUES ORDERBY PROJECT DISTINCT REDUCED SLICE GROUP SERVICE : PatternWord

pub data ExpressionWord : Type 0 where
  TERM BOUND EXISTS CALL : ExpressionWord
  OP : Op → ExpressionWord

pub data AggregateWord : Type 0 where
  AGG AGGALL : AggregateWord

pub data PartWord : Type 0 where
  LEAF REF : PartWord
  FUNCTION : FilterWord → PartWord

-- ---- how each is spelled

abbrev pub spell_p : PatternWord → Bytes
spell_p BGP = bytes "bgp"
spell_p PATH = bytes "path"
spell_p JOIN = bytes "join"
spell_p UNION = bytes "union"
spell_p MINUS = bytes "minus"
spell_p LEFTJOIN = bytes "leftjoin"
spell_p FILTER = bytes "filter"
spell_p GRAPH = bytes "graph"
spell_p EXTEND = bytes "extend"
spell_p VALUES = bytes "values"
spell_p ORDERBY = bytes "orderby"
spell_p PROJECT = bytes "project"
spell_p DISTINCT = bytes "distinct"
spell_p REDUCED = bytes "reduced"
spell_p SLICE = bytes "slice"
spell_p GROUP = bytes "group"
spell_p SERVICE = bytes "service"

abbrev pub spell_o : Op → Bytes
spell_o OR = bytes "or"
spell_o AND = bytes "and"
spell_o EQ = bytes "eq"
spell_o SAME = bytes "same"
spell_o GT = bytes "gt"
spell_o GE = bytes "ge"
spell_o LT = bytes "lt"
spell_o LE = bytes "le"
spell_o ADD = bytes "add"
spell_o SUB = bytes "sub"
spell_o MUL = bytes "mul"
spell_o DIV = bytes "div"
spell_o IN = bytes "in"
spell_o PLUS = bytes "plus"
spell_o NEG = bytes "neg"
spell_o NOT = bytes "not"
spell_o IF = bytes "if"
spell_o COALESCE = bytes "coalesce"

abbrev pub spell_e : ExpressionWord → Bytes
spell_e TERM = bytes "term"
spell_e BOUND = bytes "bound"
spell_e EXISTS = bytes "exists"
spell_e CALL = bytes "call"
spell_e (OP o) = spell_o o

abbrev pub spell_d : Direction → Bytes
spell_d ASC = bytes "asc"
spell_d DESC = bytes "desc"

abbrev pub spell_a : AggregateWord → Bytes
spell_a AGG = bytes "agg"
spell_a AGGALL = bytes "aggall"

abbrev pub spell_f : FilterWord → Bytes
spell_f UN = bytes "un"
spell_f BIN = bytes "bin"
spell_f TERN = bytes "tern"
spell_f NARY = bytes "nary"

abbrev pub spell_part : PartWord → Bytes
spell_part LEAF = bytes "leaf"
spell_part REF = bytes "ref"
spell_part (FUNCTION w) = spell_f w

abbrev pub spell_v : Domain → Bytes
spell_v PlainString = bytes "PlainString"
spell_v LanguageTaggedString = bytes "LanguageTaggedString"
spell_v Iri = bytes "Iri"
spell_v Float = bytes "Float"
spell_v Double = bytes "Double"
spell_v UnsignedLong = bytes "UnsignedLong"
spell_v NonNegativeLong = bytes "NonNegativeLong"
spell_v UnsignedInt = bytes "UnsignedInt"
spell_v NonNegativeInt = bytes "NonNegativeInt"
spell_v Long = bytes "Long"
spell_v Int = bytes "Int"
spell_v Boolean = bytes "Boolean"
spell_v Null = bytes "Null"
spell_v Tuple = bytes "Tuple"
spell_v Map = bytes "Map"
spell_v Other = bytes "Other"

-- ---- the lists that a word is looked up in

abbrev pub pattern_words : List PatternWord
pattern_words = BGP ∷ PATH ∷ JOIN ∷ UNION ∷ MINUS ∷ LEFTJOIN ∷ FILTER ∷ GRAPH ∷ EXTEND ∷ VALUES ∷ ORDERBY ∷ PROJECT ∷ DISTINCT ∷ REDUCED ∷ SLICE ∷ GROUP ∷ SERVICE ∷ []

abbrev pub expression_words : List ExpressionWord
expression_words = TERM ∷ BOUND ∷ EXISTS ∷ CALL ∷ OP OR ∷ OP AND ∷ OP EQ ∷ OP SAME ∷ OP GT ∷ OP GE ∷ OP LT ∷ OP LE ∷ OP ADD ∷ OP SUB ∷ OP MUL ∷ OP DIV ∷ OP IN ∷ OP PLUS ∷ OP NEG ∷ OP NOT ∷ OP IF ∷ OP COALESCE ∷ []

abbrev pub directions : List Direction
directions = ASC ∷ DESC ∷ []

abbrev pub aggregate_words : List AggregateWord
aggregate_words = AGG ∷ AGGALL ∷ []

abbrev pub part_words : List PartWord
part_words = LEAF ∷ REF ∷ FUNCTION UN ∷ FUNCTION BIN ∷ FUNCTION TERN ∷ FUNCTION NARY ∷ []

abbrev pub domains : List Domain
domains = PlainString ∷ LanguageTaggedString ∷ Iri ∷ Float ∷ Double ∷ UnsignedLong ∷ NonNegativeLong ∷ UnsignedInt ∷ NonNegativeInt ∷ Long ∷ Int ∷ Boolean ∷ Null ∷ Tuple ∷ Map ∷ Other ∷ []

-- ---- how many children stand under a word: so many, or the number in its line and so many more

pub data Arity : Type 0 where
  exactly counted : ℕ → Arity

abbrev pub arity : Op → Arity
arity OR = exactly 2
arity AND = exactly 2
arity EQ = exactly 2
arity SAME = exactly 2
arity GT = exactly 2
arity GE = exactly 2
arity LT = exactly 2
arity LE = exactly 2
arity ADD = exactly 2
arity SUB = exactly 2
arity MUL = exactly 2
arity DIV = exactly 2
arity IN = counted 1
arity PLUS = exactly 1
arity NEG = exactly 1
arity NOT = exactly 1
arity IF = exactly 3
arity COALESCE = counted 0

abbrev pub filter_arity : FilterWord → Arity
filter_arity UN = exactly 1
filter_arity BIN = exactly 2
filter_arity TERN = exactly 3
filter_arity NARY = counted 0
