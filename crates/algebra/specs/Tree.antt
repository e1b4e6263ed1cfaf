-- Pattern trees: the SPARQL algebra as docs/SPECIFICATION.md, "Lines of a tree", lists it. A field is kept as its bytes. Assumes nothing.
use Rattle.std.specs.Prelude.{List, [], ◌∷◌, ℕ, zero, suc}
use Rattle.text.specs.Text.{Bytes}

-- a line `t s p o`
pub record Triple : Type 0 where
  pub subj : Bytes
  pub pred : Bytes
  pub obj : Bytes

-- the words of expressions whose children are expressions only, save `call`
pub data Op : Type 0 where
  OR AND EQ SAME GT GE LT LE ADD SUB MUL DIV IN PLUS NEG NOT IF COALESCE : Op

pub data Direction : Type 0 where
  ASC DESC : Direction

mutual
  pub data Pattern : Type 0 where
    bgp : List Triple → Pattern
    path : Bytes → Bytes → Bytes → Pattern  -- subject, text, object
    join union minus : Pattern → Pattern → Pattern  -- left, right
    leftjoin : Pattern → Pattern → Condition → Pattern
    filter : Pattern → Expression → Pattern
    graph : Bytes → Pattern → Pattern  -- name
    extend : Bytes → Pattern → Expression → Pattern  -- variable
    values : List Bytes → List (List Bytes) → Pattern  -- columns, rows
    orderby : Pattern → Orders → Pattern
    project : List Bytes → Pattern → Pattern  -- columns
    distinct reduced : Pattern → Pattern
    slice : Bytes → Bytes → Pattern → Pattern  -- start, length
    group : List Bytes → Pattern → Aggregates → Pattern  -- keys
    service : Bytes → Bytes → Pattern → Pattern  -- name, silent

  pub data Expression : Type 0 where
    term : Bytes → Expression
    bound : Bytes → Expression
    exists : Pattern → Expression
    apply : Op → Expressions → Expression
    call : Bytes → Expressions → Expression  -- a function's name

  -- a left join's expression, if any
  pub data Condition : Type 0 where
    always : Condition
    provided : Expression → Condition

  pub data Expressions : Type 0 where
    eend : Expressions
    econs : Expression → Expressions → Expressions

  pub data Orders : Type 0 where
    oend : Orders
    ocons : Direction → Expression → Orders → Orders

  -- a variable, a function's name, distinct, its expression; or a variable, distinct
  pub data Aggregates : Type 0 where
    aend : Aggregates
    agg : Bytes → Bytes → Bytes → Expression → Aggregates → Aggregates
    aggall : Bytes → Bytes → Aggregates → Aggregates

abbrev pub ecount : Expressions → ℕ
ecount eend = 0
ecount (econs e es) = suc (ecount es)

abbrev pub ocount : Orders → ℕ
ocount oend = 0
ocount (ocons d e os) = suc (ocount os)

abbrev pub acount : Aggregates → ℕ
acount aend = 0
acount (agg v n f e rs) = suc (acount rs)
acount (aggall v f rs) = suc (acount rs)
