-- What an edition can't say (12), and what its grammar forbids in a name, an IRI or a literal (13): docs/EDITIONS.md. Lines come in document order, and the first that is refused decides. Assumes nothing.
use Rattle.std.specs.Prelude.{ℕ, List, [], ◌∷◌, Bool, true, false, not, ◌&&◌}
use Rattle.std.proofs.Math.Option.{Option, none, some}
use Rattle.text.specs.Text.{Bytes, same}
use Rattle.text.specs.Word.{bytes}
use Rattle.text.specs.Field.{is_blank}
use Rattle.algebra.specs.Tree.{Triple, Op, OR, AND, EQ, SAME, GT, GE, LT, LE, ADD, SUB, MUL, DIV, IN, PLUS, NEG, NOT, IF, COALESCE, Pattern, bgp, path, join, union, minus, leftjoin, filter, graph, extend, values, orderby, project, distinct, reduced, slice, group, service, Expression, term, bound, exists, apply, call, Condition, always, provided, Expressions, eend, econs, Orders, oend, ocons, Aggregates, aend, agg, aggall}
use Rattle.algebra.specs.Query.{Query}
use Rattle.algebra.specs.Valid.{mem, different}
use Rattle.scoping.specs.InScope.{in_scope}
use Rattle.editions.specs.Token.{Edition, is11, Token, key, var, iri, literal, integer}
use Rattle.editions.specs.Lexical.{is_var1, is_iriref, is_rdf_literal}
use Rattle.editions.specs.Readers.{nonempty}
use Rattle.editions.specs.Spelling.{term_of, cell_of}

pub data Refusal : Type 0 where
  unsayable forbidden : Refusal

abbrev pub refusal_number : Refusal → ℕ
refusal_number unsayable = 12
refusal_number forbidden = 13

-- a line's verdict
abbrev pub Verdict : Type 0
Verdict = Option Refusal

-- it can be said, and its names, IRIs and literals are allowed: 12 before 13
abbrev pub line : Bool → Bool → Verdict
line false allowed = some unsayable
line true false = some forbidden
line true true = none

-- the lines above, then those below
unfoldable pub first : Verdict → Verdict → Verdict
first none below = below
first (some n) below = some n

unfoldable pub first_of : List Verdict → Verdict
first_of [] = none
first_of (v ∷ vs) = first v (first_of vs)

-- ---- fields

abbrev pub allowed_token : Token → Bool
allowed_token (key k) = true
allowed_token (var f) = is_var1 f
allowed_token (iri f) = is_iriref f
allowed_token (literal f) = is_rdf_literal f
allowed_token (integer f) = true

unfoldable pub allowed : Bytes → Bool
allowed x = allowed_token (term_of x)

unfoldable pub all_allowed : List Bytes → Bool
all_allowed [] = true
all_allowed (v ∷ vs) = is_var1 v && all_allowed vs

unfoldable pub all_cells : List Bytes → Bool
all_cells [] = true
all_cells (x ∷ xs) = allowed_token (cell_of x) && all_cells xs

-- ---- stacks: slice over distinct or reduced over project over orderby, all but the project optional

-- where a pattern stands: at the root, in a pattern, or under that word of a stack
pub data Place : Type 0 where
  root inner under_slice under_distinct under_project : Place

-- a pattern may stand there that is no part of a stack
abbrev pub free : Place → Bool
free root = false
free inner = true
free under_slice = false
free under_distinct = false
free under_project = true

-- a stack may begin there: at the root, and in 1.1 wherever a pattern stands
abbrev pub begins : Edition → Place → Bool
begins ed root = true
begins ed inner = is11 ed
begins ed under_slice = false
begins ed under_distinct = false
begins ed under_project = is11 ed

abbrev pub takes_distinct : Edition → Place → Bool
takes_distinct ed root = true
takes_distinct ed inner = is11 ed
takes_distinct ed under_slice = true
takes_distinct ed under_distinct = false
takes_distinct ed under_project = is11 ed

abbrev pub takes_project : Edition → Place → Bool
takes_project ed root = true
takes_project ed inner = is11 ed
takes_project ed under_slice = true
takes_project ed under_distinct = true
takes_project ed under_project = is11 ed

abbrev pub takes_order : Place → Bool
takes_order root = false
takes_order inner = false
takes_order under_slice = false
takes_order under_distinct = false
takes_order under_project = true

abbrev pub conditions : Orders → Bool
conditions oend = false
conditions (ocons d e os) = true

abbrev pub covered : Op → Bool
covered OR = true
covered AND = true
covered EQ = true
covered SAME = true
covered NOT = true
covered GT = false
covered GE = false
covered LT = false
covered LE = false
covered ADD = false
covered SUB = false
covered MUL = false
covered DIV = false
covered IN = false
covered PLUS = false
covered NEG = false
covered IF = false
covered COALESCE = false

-- ---- a verdict for each line, in front of the verdicts of the lines that follow

unfoldable pub judge_ts : List Triple → List Verdict → List Verdict
judge_ts [] t = t
judge_ts (x ∷ xs) t = line (not (is_blank x.subj) && not (is_blank x.obj)) (allowed x.subj && (allowed x.pred && allowed x.obj)) ∷ judge_ts xs t

unfoldable pub judge_rows : List (List Bytes) → List Verdict → List Verdict
judge_rows [] t = t
judge_rows (r ∷ rs) t = line true (all_cells r) ∷ judge_rows rs t

module _ (ed : Edition) where
  unfoldable mutual
    pub judge : Pattern → Place → List Verdict → List Verdict
    judge (bgp ts) w t = line (free w) true ∷ judge_ts ts t
    judge (join p q) w t = line (free w) true ∷ judge p inner (judge q inner t)
    judge (leftjoin p q c) w t = line (free w) true ∷ judge p inner (judge q inner (judge_c c t))
    judge (filter p e) w t = line (free w) true ∷ judge p inner (judge_e e t)
    judge (union p q) w t = line (free w) true ∷ judge p inner (judge q inner t)
    judge (graph n p) w t = line (free w) (allowed n) ∷ judge p inner t
    judge (minus p q) w t = line (free w && is11 ed) true ∷ judge p inner (judge q inner t)
    judge (extend v p e) w t = line (free w && (is11 ed && not (mem v (in_scope p)))) (is_var1 v) ∷ judge p inner (judge_e e t)
    judge (values cs rs) w t = line (free w && (is11 ed && different cs)) true ∷ line true (all_allowed cs) ∷ judge_rows rs t
    judge (slice a n p) w t = line (begins ed w) true ∷ judge p under_slice t
    judge (distinct p) w t = line (takes_distinct ed w) true ∷ judge p under_distinct t
    judge (reduced p) w t = line (takes_distinct ed w) true ∷ judge p under_distinct t
    judge (project cs p) w t = line (takes_project ed w && nonempty cs) (all_allowed cs) ∷ judge p under_project t
    judge (orderby p os) w t = line (takes_order w && conditions os) true ∷ judge p inner (judge_os os t)
    -- not covered; what stands beneath no longer matters
    judge (path s x o) w t = some unsayable ∷ t
    judge (group ks p rs) w t = some unsayable ∷ none ∷ judge p inner (judge_as rs t)
    judge (service n f p) w t = some unsayable ∷ judge p inner t

    pub judge_e : Expression → List Verdict → List Verdict
    judge_e (term x) t = line true (allowed x) ∷ t
    judge_e (bound v) t = line true (is_var1 v) ∷ t
    judge_e (exists p) t = line (is11 ed) true ∷ judge p inner t
    judge_e (apply o es) t = line (covered o) true ∷ judge_es es t
    judge_e (call n es) t = some unsayable ∷ judge_es es t

    pub judge_c : Condition → List Verdict → List Verdict
    judge_c always t = t
    judge_c (provided e) t = judge_e e t

    pub judge_es : Expressions → List Verdict → List Verdict
    judge_es eend t = t
    judge_es (econs e es) t = judge_e e (judge_es es t)

    -- a line `asc` or `desc` is always fine
    pub judge_os : Orders → List Verdict → List Verdict
    judge_os oend t = t
    judge_os (ocons d e os) t = none ∷ judge_e e (judge_os os t)

    pub judge_as : Aggregates → List Verdict → List Verdict
    judge_as aend t = t
    judge_as (agg v n f e rs) t = none ∷ judge_e e (judge_as rs t)
    judge_as (aggall v f rs) t = none ∷ judge_as rs t

  -- the head line, then the tree
  unfoldable pub judge_query : Query → List Verdict
  judge_query q = line (same q.kind (bytes "select") && (same q.dataset (bytes "-") && same q.base (bytes "-"))) true ∷ judge q.tree root []

  -- the first line that is refused decides
  unfoldable pub refusal : Query → Option Refusal
  refusal q = first_of (judge_query q)
