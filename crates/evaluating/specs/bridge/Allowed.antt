-- Which trees may be evaluated, from their lines, with no tree: kinds and expressions of the counting part, extends that set no column beneath them. Assumes nothing.
use Rattle.std.specs.Prelude.{ℕ, zero, suc, Bool, true, false, not, ◌&&◌, List, [], ◌∷◌, map, eqb, get_or, take, drop}
use Rattle.std.proofs.Math.Option.{Option, none, some}
use Rattle.text.specs.Text.{Bytes, Line, same}
use Rattle.text.specs.Word.{bytes, spelled}
use Rattle.algebra.specs.Word.{PatternWord, BGP, PATH, JOIN, UNION, MINUS, LEFTJOIN, FILTER, GRAPH, EXTEND, VALUES, ORDERBY, PROJECT, DISTINCT, REDUCED, SLICE, GROUP, SERVICE, ExpressionWord, TERM, BOUND, EXISTS, CALL, OP, spell_p, spell_e, pattern_words, expression_words}
use Rattle.scoping.specs.Sets.{all, any}
use Rattle.counting.specs.Bag.{once}
use Rattle.counting.specs.Condition.{Connective, same_term, conjunction, disjunction, negation, outside, connective}
use Rattle.counting.specs.Countable.{no_blank}
use Rattle.evaluating.specs.bridge.Numbers.{Numbers, numbers}
use Rattle.evaluating.specs.bridge.Tables.{line_columns}
use Rattle.evaluating.specs.bridge.Lines.{together, amount, triple_in, behind_word}

-- ---- expressions: a term, an expression of the part, the lines behind it

pub record Judged : Type 0 where
  pub term : Bool
  pub condition : Bool
  pub rest : List Line

abbrev pub judge : Bool → Bool → List Line → Judged
judge a b ls = record { term = a; condition = b; rest = ls }

abbrev pub both_judged : (Judged → Bool) → (List Line → Judged) → List Line → Judged
both_judged f below ls = judge false (f (below ls) && f (below (below ls).rest)) (below (below ls).rest).rest

abbrev pub judged_word : Connective → (List Line → Judged) → List Line → Judged
judged_word same_term below ls = both_judged (λ j. j.term) below ls
judged_word conjunction below ls = both_judged (λ j. j.condition) below ls
judged_word disjunction below ls = both_judged (λ j. j.condition) below ls
judged_word negation below ls = judge false (below ls).condition (below ls).rest
judged_word outside below ls = judge false false ls

abbrev pub judged_by : (List Line → Judged) → Option ExpressionWord → List Line → Judged
judged_by below none ls = judge false false ls
judged_by below (some TERM) ls = judge true false ls
judged_by below (some BOUND) ls = judge false true ls
judged_by below (some EXISTS) ls = judge false false ls
judged_by below (some CALL) ls = judge false false ls
judged_by below (some (OP o)) ls = judged_word (connective o) below ls

unfoldable pub judged : ℕ → List Line → Judged
unfolding spelled
judged zero ls = judge false false ls
judged (suc d) [] = judge false false []
judged (suc d) ([] ∷ ls) = judge false false ls
judged (suc d) ((w ∷ fs) ∷ ls) = judged_by (judged d) (spelled spell_e expression_words w) ls

-- ---- patterns: the columns, whether it is allowed, the lines behind it; of one that is not allowed the rest says nothing

pub record Allowed : Type 0 where
  pub columns : List ℕ
  pub ok : Bool
  pub rest : List Line

abbrev pub allow : List ℕ → Bool → List Line → Allowed
allow us b ls = record { columns = us; ok = b; rest = ls }

abbrev pub two_allowed : (Allowed → Allowed → Allowed) → (List Line → Allowed) → List Line → Allowed
two_allowed f below ls = f (below ls) (below (below ls).rest)

abbrev pub join_allowed : Allowed → Allowed → Allowed
join_allowed l r = allow (together l.columns r.columns) (l.ok && r.ok) r.rest

abbrev pub minus_allowed : Allowed → Allowed → Allowed
minus_allowed l r = allow l.columns (l.ok && r.ok) r.rest

abbrev pub left_allowed : Bool → (List Line → Judged) → Allowed → Allowed → Allowed
left_allowed true tell l r = allow (together l.columns r.columns) (l.ok && (r.ok && (tell r.rest).condition)) (tell r.rest).rest
left_allowed false tell l r = join_allowed l r

abbrev pub filter_allowed : (List Line → Judged) → Allowed → Allowed
filter_allowed tell p = allow p.columns (p.ok && (tell p.rest).condition) (tell p.rest).rest

abbrev pub extend_allowed : (List Line → Judged) → ℕ → Allowed → Allowed
extend_allowed tell v p = allow (together (v ∷ []) p.columns) (p.ok && ((tell p.rest).term && not (any (eqb v) p.columns))) (tell p.rest).rest

abbrev pub project_allowed : List ℕ → Allowed → Allowed
project_allowed us p = allow us p.ok p.rest

abbrev pub columns_allowed : Numbers → ℕ → List Line → Allowed
columns_allowed κ k [] = allow [] false []
columns_allowed κ k (l ∷ ls) = allow (once eqb (numbers κ (behind_word l))) true (drop k ls)

abbrev pub allowed_by : (List Line → Allowed) → (List Line → Judged) → Numbers → Option PatternWord → List Bytes → List Line → Allowed
allowed_by below tell κ none fs ls = allow [] false ls
allowed_by below tell κ (some BGP) fs ls = allow (line_columns κ (map triple_in (take (amount fs 0) ls))) (all no_blank (map triple_in (take (amount fs 0) ls))) (drop (amount fs 0) ls)
allowed_by below tell κ (some JOIN) fs ls = two_allowed join_allowed below ls
allowed_by below tell κ (some UNION) fs ls = two_allowed join_allowed below ls
allowed_by below tell κ (some MINUS) fs ls = two_allowed minus_allowed below ls
allowed_by below tell κ (some LEFTJOIN) fs ls = two_allowed (left_allowed (same (get_or fs 0 []) (bytes "1")) tell) below ls
allowed_by below tell κ (some FILTER) fs ls = filter_allowed tell (below ls)
allowed_by below tell κ (some EXTEND) fs ls = extend_allowed tell (κ.name (get_or fs 0 [])) (below ls)
allowed_by below tell κ (some VALUES) fs ls = columns_allowed κ (amount fs 1) ls
allowed_by below tell κ (some PROJECT) fs ls = project_allowed (once eqb (numbers κ fs)) (below ls)
allowed_by below tell κ (some DISTINCT) fs ls = below ls
allowed_by below tell κ (some PATH) fs ls = allow [] false ls
allowed_by below tell κ (some GRAPH) fs ls = allow [] false ls
allowed_by below tell κ (some ORDERBY) fs ls = allow [] false ls
allowed_by below tell κ (some REDUCED) fs ls = allow [] false ls
allowed_by below tell κ (some SLICE) fs ls = allow [] false ls
allowed_by below tell κ (some GROUP) fs ls = allow [] false ls
allowed_by below tell κ (some SERVICE) fs ls = allow [] false ls

unfoldable pub allowed : ℕ → Numbers → List Line → Allowed
unfolding judged spelled together once all any
allowed zero κ ls = allow [] false ls
allowed (suc d) κ [] = allow [] false []
allowed (suc d) κ ([] ∷ ls) = allow [] false ls
allowed (suc d) κ ((w ∷ fs) ∷ ls) = allowed_by (allowed d κ) (judged d) κ (spelled spell_p pattern_words w) fs ls
