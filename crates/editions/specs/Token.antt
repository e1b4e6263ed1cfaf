-- Tokens of a SPARQL text, as far as a spelled query has them. Assumes nothing.
use Rattle.std.specs.Prelude.{List, [], ◌∷◌, ◌++◌, Bool, true, false}
use Rattle.text.specs.Text.{Bytes}
use Rattle.text.specs.Word.{bytes}
use Rattle.algebra.specs.Tree.{Direction, ASC, DESC}

pub data Edition : Type 0 where
  sparql10 sparql11 : Edition

abbrev pub is11 : Edition → Bool
is11 sparql10 = false
is11 sparql11 = true

-- the words and marks of the two grammars that are read here
pub data Keyword : Type 0 where
  SELECT DISTINCT REDUCED WHERE ORDER BY LIMIT OFFSET OPTIONAL FILTER UNION GRAPH MINUS BIND AS VALUES UNDEF BOUND SAMETERM EXISTS : Keyword
  OPEN CLOSE LEFT RIGHT DOT COMMA BANG EQUALS BOTH EITHER : Keyword  -- { } ( ) . , ! = && ||
  SORT : Direction → Keyword

abbrev pub spell_k : Keyword → Bytes
spell_k SELECT = bytes "SELECT"
spell_k DISTINCT = bytes "DISTINCT"
spell_k REDUCED = bytes "REDUCED"
spell_k WHERE = bytes "WHERE"
spell_k ORDER = bytes "ORDER"
spell_k BY = bytes "BY"
spell_k LIMIT = bytes "LIMIT"
spell_k OFFSET = bytes "OFFSET"
spell_k OPTIONAL = bytes "OPTIONAL"
spell_k FILTER = bytes "FILTER"
spell_k UNION = bytes "UNION"
spell_k GRAPH = bytes "GRAPH"
spell_k MINUS = bytes "MINUS"
spell_k BIND = bytes "BIND"
spell_k AS = bytes "AS"
spell_k VALUES = bytes "VALUES"
spell_k UNDEF = bytes "UNDEF"
spell_k BOUND = bytes "BOUND"
spell_k SAMETERM = bytes "sameTerm"
spell_k EXISTS = bytes "EXISTS"
spell_k OPEN = bytes "{"
spell_k CLOSE = bytes "}"
spell_k LEFT = bytes "("
spell_k RIGHT = bytes ")"
spell_k DOT = bytes "."
spell_k COMMA = bytes ","
spell_k BANG = bytes "!"
spell_k EQUALS = bytes "="
spell_k BOTH = bytes "&&"
spell_k EITHER = bytes "||"
spell_k (SORT ASC) = bytes "ASC"
spell_k (SORT DESC) = bytes "DESC"

abbrev pub keywords : List Keyword
keywords = SELECT ∷ DISTINCT ∷ REDUCED ∷ WHERE ∷ ORDER ∷ BY ∷ LIMIT ∷ OFFSET ∷ OPTIONAL ∷ FILTER ∷ UNION ∷ GRAPH ∷ MINUS ∷ BIND ∷ AS ∷ VALUES ∷ UNDEF ∷ BOUND ∷ SAMETERM ∷ EXISTS ∷ OPEN ∷ CLOSE ∷ LEFT ∷ RIGHT ∷ DOT ∷ COMMA ∷ BANG ∷ EQUALS ∷ BOTH ∷ EITHER ∷ SORT ASC ∷ SORT DESC ∷ []

-- a token and the bytes that it is written with
pub data Token : Type 0 where
  key : Keyword → Token
  var iri literal integer : Bytes → Token

abbrev pub written : Token → Bytes
written (key k) = spell_k k
written (var f) = f
written (iri f) = f
written (literal f) = f
written (integer f) = f

-- each token, and a space behind it
unfoldable pub text : List Token → Bytes
text [] = []
text (t ∷ ts) = written t ++ (32 ∷ text ts)
