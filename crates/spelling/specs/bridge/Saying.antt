-- How code goes over a query's lines and writes them in the words of SPARQL: a line's first tokens, then its children, with tokens behind each. It knows lines and no tree; proofs/Said says that this is the query's spelling. Assumes nothing.
use Rattle.std.specs.Prelude.{ℕ, zero, suc, Bool, cond, ◌||◌, List, [], ◌∷◌, ◌++◌, get_or, drop}
use Rattle.std.proofs.Math.Option.{Option, none, some}
use Rattle.text.specs.Text.{Bytes, Line, same}
use Rattle.text.specs.Word.{bytes}
use Rattle.algebra.specs.Tree.{ASC, DESC}
use Rattle.negating.specs.bridge.Lines.{word}
use Rattle.filtering.specs.bridge.Copying.{to_come}
use Rattle.editions.specs.Token.{Keyword, SELECT, DISTINCT, REDUCED, WHERE, ORDER, BY, OPTIONAL, FILTER, UNION, GRAPH, MINUS, BIND, AS, VALUES, BOUND, SAMETERM, EXISTS, OPEN, CLOSE, LEFT, RIGHT, DOT, COMMA, BANG, EQUALS, BOTH, EITHER, SORT, Token, key, var}
use Rattle.editions.specs.Spelling.{term_of, spell_vars, spell_cells, spell_slice}

-- ---- one line

-- the line begins with that word
abbrev pub begins : Line → Bytes → Bool
begins l w = same (word l) w

abbrev pub field_of : Line → ℕ → Bytes
field_of l i = get_or l i []

-- what stands behind SELECT, by the word of the line above a project's: its manner
unfoldable pub manner_of : Bytes → Option Keyword
unfolding same
manner_of above = cond (same above (bytes "distinct")) (some DISTINCT) (cond (same above (bytes "reduced")) (some REDUCED) none)

abbrev pub marked : Option Keyword → List Token → List Token
marked none t = t
marked (some k) t = key k ∷ t

-- the words of a line that opens a group, which holds its first pattern
unfoldable pub grouping : Bytes → Bool
unfolding same
grouping w = same w (bytes "join") || (same w (bytes "union") || (same w (bytes "minus") || (same w (bytes "leftjoin") || (same w (bytes "filter") || same w (bytes "extend")))))

-- the words of a line that opens a bracket, which holds its first expression
unfoldable pub bracketing : Bytes → Bool
unfolding same
bracketing w = same w (bytes "or") || (same w (bytes "and") || same w (bytes "eq"))

-- a line's first tokens, where its word alone says them
unfoldable pub opening : Bytes → List Token
unfolding same grouping bracketing
opening w =
    cond (grouping w) (key OPEN ∷ [])
    (cond (bracketing w) (key LEFT ∷ [])
    (cond (same w (bytes "same")) (key SAMETERM ∷ key LEFT ∷ [])
    (cond (same w (bytes "not")) (key LEFT ∷ key BANG ∷ [])
    (cond (same w (bytes "exists")) (key EXISTS ∷ key OPEN ∷ [])
    (cond (same w (bytes "asc")) (key (SORT ASC) ∷ key LEFT ∷ [])
    (cond (same w (bytes "desc")) (key (SORT DESC) ∷ key LEFT ∷ [])
    (cond (same w (bytes "values")) (key VALUES ∷ [])
    [])))))))

-- a line's first tokens, before its children's; `manner` comes from the line that it stands under
unfoldable pub before : Option Keyword → Line → List Token
unfolding same opening term_of spell_vars spell_cells
before manner l =
    cond (begins l (bytes "t")) (term_of (field_of l 1) ∷ term_of (field_of l 2) ∷ term_of (field_of l 3) ∷ key DOT ∷ [])
    (cond (begins l (bytes "term")) (term_of (field_of l 1) ∷ [])
    (cond (begins l (bytes "bound")) (key BOUND ∷ key LEFT ∷ var (field_of l 1) ∷ key RIGHT ∷ [])
    (cond (begins l (bytes "graph")) (key GRAPH ∷ term_of (field_of l 1) ∷ key OPEN ∷ [])
    (cond (begins l (bytes "project")) (key SELECT ∷ marked manner (spell_vars (drop 1 l) (key WHERE ∷ key OPEN ∷ [])))
    (cond (begins l (bytes "cols")) (key LEFT ∷ spell_vars (drop 1 l) (key RIGHT ∷ key OPEN ∷ []))
    (cond (begins l (bytes "row")) (key LEFT ∷ spell_cells (drop 1 l) (key RIGHT ∷ []))
    (opening (word l))))))))

-- one thing where the number is 0, as behind the first child or the last; another where it isn't
abbrev pub first_or : {A : Type 0} → ℕ → A → A → A
first_or zero x y = x
first_or (suc i) x y = y

abbrev pub word_next : List Line → Bytes
word_next [] = []
word_next (l ∷ ls) = word l

-- the tokens behind a line's child number i, where k children are to come and the line's word alone says them
unfoldable pub closing : Bytes → ℕ → ℕ → List Token
unfolding same
closing w i k =
    cond (same w (bytes "join")) (first_or i (key CLOSE ∷ key OPEN ∷ []) (key CLOSE ∷ []))
    (cond (same w (bytes "union")) (first_or i (key CLOSE ∷ key UNION ∷ key OPEN ∷ []) (key CLOSE ∷ []))
    (cond (same w (bytes "minus")) (first_or i (key CLOSE ∷ key MINUS ∷ key OPEN ∷ []) (key CLOSE ∷ []))
    (cond (same w (bytes "leftjoin")) (elim i [ zero ↦ key CLOSE ∷ key OPTIONAL ∷ key OPEN ∷ key OPEN ∷ [] | suc j ↦ first_or j (first_or k (key CLOSE ∷ key CLOSE ∷ []) (key CLOSE ∷ key FILTER ∷ key LEFT ∷ [])) (key RIGHT ∷ key CLOSE ∷ []) ])
    (cond (same w (bytes "filter")) (first_or i (key CLOSE ∷ key FILTER ∷ key LEFT ∷ []) (key RIGHT ∷ []))
    (cond (same w (bytes "graph")) (key CLOSE ∷ [])
    (cond (same w (bytes "exists")) (key CLOSE ∷ [])
    (cond (same w (bytes "or")) (first_or i (key EITHER ∷ []) (key RIGHT ∷ []))
    (cond (same w (bytes "and")) (first_or i (key BOTH ∷ []) (key RIGHT ∷ []))
    (cond (same w (bytes "eq")) (first_or i (key EQUALS ∷ []) (key RIGHT ∷ []))
    (cond (same w (bytes "same")) (first_or i (key COMMA ∷ []) (key RIGHT ∷ []))
    (cond (same w (bytes "not")) (key RIGHT ∷ [])
    (cond (same w (bytes "asc")) (key RIGHT ∷ [])
    (cond (same w (bytes "desc")) (key RIGHT ∷ [])
    (cond (same w (bytes "values")) (first_or k (key CLOSE ∷ []) [])
    (cond (same w (bytes "orderby")) (first_or i (key CLOSE ∷ key ORDER ∷ key BY ∷ []) [])
    [])))))))))))))))

-- the tokens behind a line's child number i, where k children are to come; `next` are the lines behind the line
unfoldable pub after : Line → List Line → ℕ → ℕ → List Token
unfolding same closing spell_slice
after l next i k =
    cond (begins l (bytes "extend")) (first_or i (key CLOSE ∷ key BIND ∷ key LEFT ∷ []) (key AS ∷ var (field_of l 1) ∷ key RIGHT ∷ []))
    (cond (begins l (bytes "project")) (cond (same (word_next next) (bytes "orderby")) [] (key CLOSE ∷ []))
    (cond (begins l (bytes "slice")) (spell_slice (field_of l 1) (field_of l 2) [])
    (closing (word l) i k)))

-- ---- a line and what stands below it

-- what was said of lines, and the lines left
pub record Said : Type 0 where
  pub tokens : List Token
  pub left : List Line

abbrev pub said : List Token → List Line → Said
said ts ls = record { tokens = ts; left = ls }

-- tokens in front of what is said of the lines behind
abbrev pub in_front : List Token → Said → Said
in_front ts y = said (ts ++ y.tokens) y.left

-- what is said of a child, and then of what is behind it
abbrev pub and_then : Said → Said → Said
and_then x y = said (x.tokens ++ y.tokens) y.left

-- the children from number i on, of which k are to come
unfoldable pub said_children : (Option Keyword → List Line → Said) → Line → List Line → ℕ → ℕ → List Line → Said
unfolding after manner_of
said_children f l next i zero ls = said [] ls
said_children f l next i (suc k) ls = and_then (f (manner_of (word l)) ls) (in_front (after l next i k) (said_children f l next (suc i) k (f (manner_of (word l)) ls).left))

-- a line and its children, one of which f says
unfoldable pub said_line : (Option Keyword → List Line → Said) → Option Keyword → List Line → Said
unfolding before said_children to_come
said_line f manner [] = said [] []
said_line f manner (l ∷ ls) = in_front (before manner l) (said_children f l ls 0 (to_come l) ls)

-- the words of lines that are neither pattern nor expression, and add no depth
unfoldable pub shallow : Bytes → Bool
unfolding same
shallow w = same w (bytes "t") || (same w (bytes "cols") || (same w (bytes "row") || (same w (bytes "asc") || (same w (bytes "desc") || (same w (bytes "agg") || same w (bytes "aggall"))))))

-- a child, where f says a pattern or an expression
unfoldable pub said_child : (Option Keyword → List Line → Said) → Option Keyword → List Line → Said
unfolding shallow said_line
said_child f manner ls = cond (shallow (word_next ls)) (said_line f manner ls) (f manner ls)

-- a pattern or an expression, where d levels may still be opened
unfoldable pub said_tree : ℕ → Option Keyword → List Line → Said
unfolding said_line said_child
said_tree zero manner ls = said [] ls
said_tree (suc d) manner ls = said_line (said_child (said_tree d)) manner ls
