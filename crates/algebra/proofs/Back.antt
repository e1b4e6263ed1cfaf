-- What is written is read back: the tree of a tree's lines, where it is well formed and within the bounds. Assumes nothing.
use mathlib.Core.Path.{◌≡◌, refl, sym, ap, subst}
use mathlib.Core.Bool.{Bool, true, false}
use mathlib.Core.List.{List, [], ◌∷◌}
use mathlib.Core.Option.{some}
use Prim.Native.Nat.{ℕ, ◌+◌, ◌-◌, ◌≤◌}
use native.Mathlib.Omega.{arith}
use lib.ListN.{length}
use Rattle.text.specs.Text.{Bytes, Line, same}
use Rattle.text.specs.Word.{bytes, spelled}
use Rattle.text.specs.Field.{Kind, variable, cell, fits, all_fit}
use Rattle.text.proofs.Basics.{and_left, and_right, deeper, same_refl}
use Rattle.text.proofs.Numbers.{number-back}
use Rattle.algebra.specs.Tree.{Triple, Op, OR, AND, EQ, SAME, GT, GE, LT, LE, ADD, SUB, MUL, DIV, IN, PLUS, NEG, NOT, IF, COALESCE, Direction, ASC, DESC, Pattern, bgp, path, join, union, minus, leftjoin, filter, graph, extend, values, orderby, project, distinct, reduced, slice, group, service, Expression, term, bound, exists, apply, call, Condition, always, provided, Expressions, eend, econs, Orders, oend, ocons, Aggregates, aend, agg, aggall, ecount, ocount, acount}
use Rattle.algebra.specs.Word.{spell_o, spell_e, spell_d, OP, expression_words, directions, Arity, exactly, counted, arity}
use Rattle.algebra.specs.Layout.{put_triples, put_rows, put_arity, put, put_e, put_c, put_es, put_os, put_as, put_flag}
use Rattle.algebra.specs.Valid.{AllFit, Triples, Rows, Takes, Valid, ValidE, ValidC, ValidEs, ValidOs, ValidAs}
use Rattle.algebra.specs.Depth.{depth, depth_e, depth_c, depth_es, depth_os, depth_as}
use Rattle.algebra.specs.Tally.{Limits, Tally, noted, tally_triples, tally_rows, tally, tally_e, tally_c, tally_es, tally_os, tally_as}
use Rattle.algebra.specs.Reader.{got, one, end, kept, field, rest, times, zero_one}
use Rattle.algebra.specs.Reading.{taken, expressions, condition, triple, listed, orders, aggregates, pattern_after, expression_after, pattern_in, expression_in, inside}
use Rattle.algebra.proofs.Grow.{In, grow-noted, grow-triples, grow-rows, grow, grow_e, grow_c, grow_es, grow_os, grow_as}

pub fields_back : (k : Kind) (fs : List Bytes) (t : List Line) (m : Tally) → AllFit k fs → times (length fs) (field k) (fs ∷ t) m ≡ got fs ([] ∷ t) m
unfolding times one kept all_fit
fields_back k [] t m v = refl
fields_back k (f ∷ fs) t m v = rw (and_left (fits k f) (all_fit k fs) v, fields_back k fs t m (and_right (fits k f) (all_fit k fs) v))

op-back : (o : Op) → spelled spell_e expression_words (spell_o o) ≡ some (OP o)
unfolding spelled
op-back OR = refl
op-back AND = refl
op-back EQ = refl
op-back SAME = refl
op-back GT = refl
op-back GE = refl
op-back LT = refl
op-back LE = refl
op-back ADD = refl
op-back SUB = refl
op-back MUL = refl
op-back DIV = refl
op-back IN = refl
op-back PLUS = refl
op-back NEG = refl
op-back NOT = refl
op-back IF = refl
op-back COALESCE = refl

order-back : (d : Direction) → spelled spell_d directions (spell_d d) ≡ some d
unfolding spelled
order-back ASC = refl
order-back DESC = refl

pub taken_back : (a : Arity) (k : ℕ) (t : List Line) (m : Tally) → Takes a k → taken a (put_arity a k ∷ t) m ≡ got k ([] ∷ t) m
unfolding Takes put_arity one
taken_back (exactly n) k t m v = ap (λ x. got x ([] ∷ t) m) (sym v)
taken_back (counted n) k t m v = let e : k - n + n ≡ k = omega arith in rw (number-back (k - n) v.1, e)

abbrev conditional : Condition → Bool
conditional always = false
conditional (provided e) = true

flag-back : (c : Condition) → zero_one (put_flag c) ≡ some (conditional c)
unfolding same
flag-back always = refl
flag-back (provided e) = refl

module _ (β : Limits) where
  triples-back : (ts : List Triple) (t : List Line) (m : Tally) → Triples ts → In β (tally_triples ts m) → times (length ts) (triple β) (put_triples ts t) m ≡ got ts t (tally_triples ts m)
  unfolding times one kept end Triples put_triples same tally_triples
  triples-back [] t m v o = refl
  triples-back (x ∷ xs) t m v o = rw (v.0, v.1, v.2, grow-triples β xs _ o, triples-back xs t _ v.3 o)

  pub listed_back : (w : Bytes) (k : Kind) (n : ℕ) (fs : List Bytes) (t : List Line) (m : Tally) → length fs ≡ n → AllFit k fs → In β (noted [] m) → listed β w k n ((w ∷ fs) ∷ t) m ≡ got fs t (noted [] m)
  unfolding one kept end
  listed_back w k n fs t m e v o = subst (λ n. listed β w k n ((w ∷ fs) ∷ t) m ≡ got fs t (noted [] m)) e (rw (same_refl w, fields_back k fs t m v, o))

  rows_back : (n : ℕ) (rs : List (List Bytes)) (t : List Line) (m : Tally) → Rows n rs → In β (tally_rows rs m) → times (length rs) (listed β (bytes "row") cell n) (put_rows rs t) m ≡ got rs t (tally_rows rs m)
  unfolding times Rows put_rows tally_rows
  rows_back n [] t m v o = refl
  rows_back n (r ∷ rs) t m v o = rw (listed_back (bytes "row") cell n r (put_rows rs t) m v.0 v.1 (grow-rows β rs _ o), rows_back n rs t _ v.2 o)

  abbrev Reads : Pattern → List Line → Tally → ℕ → Type 0
  Reads p t m d = pattern_in β (inside β d) (put p t) m ≡ got p t (tally p m)

  abbrev ReadsE : Expression → List Line → Tally → ℕ → Type 0
  ReadsE e t m d = expression_in β (inside β d) (put_e e t) m ≡ got e t (tally_e e m)

  mutual
    unfolding put Valid depth tally one end kept spelled inside pattern_after expression_after rest expressions orders aggregates

    pub back : (p : Pattern) (t : List Line) (m : Tally) (d : ℕ) → Valid p → depth p ≤ d → In β (tally p m) → Reads p t m d
    back (bgp ts) t m d v h o = deeper _ d h (Reads (bgp ts) t m) λ k i. rw (number-back (length ts) v.0, grow-triples β ts _ o, triples-back ts t _ v.1 o)
    back (path s x y) t m d v h o = deeper _ d h (Reads (path s x y) t m) λ k i. rw (v.0, v.1, v.2, o)
    back (join p q) t m d v h o = deeper _ d h (Reads (join p q) t m) λ k i. let a = grow β q _ o in rw (grow β p _ a, back p (put q t) _ k v.0 (omega arith) a, back q t _ k v.1 (omega arith) o)
    back (union p q) t m d v h o = deeper _ d h (Reads (union p q) t m) λ k i. let a = grow β q _ o in rw (grow β p _ a, back p (put q t) _ k v.0 (omega arith) a, back q t _ k v.1 (omega arith) o)
    back (minus p q) t m d v h o = deeper _ d h (Reads (minus p q) t m) λ k i. let a = grow β q _ o in rw (grow β p _ a, back p (put q t) _ k v.0 (omega arith) a, back q t _ k v.1 (omega arith) o)
    back (leftjoin p q c) t m d v h o = deeper _ d h (Reads (leftjoin p q c) t m) λ k i. let b = grow_c β c _ o in let a = grow β q _ b in rw (flag-back c, grow β p _ a, back p (put q (put_c c t)) _ k v.0 (omega arith) a, back q (put_c c t) _ k v.1 (omega arith) b, back_c c t _ k v.2 (omega arith) o)
    back (filter p e) t m d v h o = deeper _ d h (Reads (filter p e) t m) λ k i. let a = grow_e β e _ o in rw (grow β p _ a, back p (put_e e t) _ k v.0 (omega arith) a, back_e e t _ k v.1 (omega arith) o)
    back (graph n p) t m d v h o = deeper _ d h (Reads (graph n p) t m) λ k i. rw (v.0, grow β p _ o, back p t _ k v.1 (omega arith) o)
    back (extend x p e) t m d v h o = deeper _ d h (Reads (extend x p e) t m) λ k i. let a = grow_e β e _ o in rw (v.0, grow β p _ a, back p (put_e e t) _ k v.1 (omega arith) a, back_e e t _ k v.2 (omega arith) o)
    back (values cs rs) t m d v h o = deeper _ d h (Reads (values cs rs) t m) λ k i. let a = grow-rows β rs _ o in rw (number-back (length cs) v.0, number-back (length rs) v.1, grow-noted β cs _ a, fields_back variable cs (put_rows rs t) _ v.2, a, rows_back (length cs) rs t _ v.3 o)
    back (orderby p os) t m d v h o = deeper _ d h (Reads (orderby p os) t m) λ k i. let a = grow_os β os _ o in rw (number-back (ocount os) v.0, grow β p _ a, back p (put_os os t) _ k v.1 (omega arith) a, back_os os t _ k v.2 (omega arith) o)
    back (project cs p) t m d v h o = deeper _ d h (Reads (project cs p) t m) λ k i. rw (v.0, grow β p _ o, back p t _ k v.1 (omega arith) o)
    back (distinct p) t m d v h o = deeper _ d h (Reads (distinct p) t m) λ k i. rw (grow β p _ o, back p t _ k v (omega arith) o)
    back (reduced p) t m d v h o = deeper _ d h (Reads (reduced p) t m) λ k i. rw (grow β p _ o, back p t _ k v (omega arith) o)
    back (slice a n p) t m d v h o = deeper _ d h (Reads (slice a n p) t m) λ k i. rw (v.0, v.1, grow β p _ o, back p t _ k v.2 (omega arith) o)
    back (group ks p rs) t m d v h o = deeper _ d h (Reads (group ks p rs) t m) λ k i. let a = grow_as β rs _ o in let b = grow β p _ a in rw (number-back (length ks) v.0, number-back (acount rs) v.1, grow-noted β ks _ b, fields_back variable ks (put p (put_as rs t)) _ v.2, b, back p (put_as rs t) _ k v.3 (omega arith) a, back_as rs t _ k v.4 (omega arith) o)
    back (service n f p) t m d v h o = deeper _ d h (Reads (service n f p) t m) λ k i. rw (v.0, v.1, grow β p _ o, back p t _ k v.2 (omega arith) o)

    pub back_e : (e : Expression) (t : List Line) (m : Tally) (d : ℕ) → ValidE e → depth_e e ≤ d → In β (tally_e e m) → ReadsE e t m d
    back_e (term x) t m d v h o = deeper _ d h (ReadsE (term x) t m) λ k i. rw (v, o)
    back_e (bound x) t m d v h o = deeper _ d h (ReadsE (bound x) t m) λ k i. rw (v, o)
    back_e (exists p) t m d v h o = deeper _ d h (ReadsE (exists p) t m) λ k i. rw (grow β p _ o, back p t _ k v (omega arith) o)
    back_e (apply f es) t m d v h o = deeper _ d h (ReadsE (apply f es) t m) λ k i. rw (op-back f, taken_back (arity f) (ecount es) (put_es es t) m v.0, grow_es β es _ o, back_es es t _ k v.1 (omega arith) o)
    back_e (call n es) t m d v h o = deeper _ d h (ReadsE (call n es) t m) λ k i. rw (v.0, number-back (ecount es) v.1, grow_es β es _ o, back_es es t _ k v.2 (omega arith) o)

    pub back_c : (c : Condition) (t : List Line) (m : Tally) (d : ℕ) → ValidC c → depth_c c ≤ d → In β (tally_c c m) → condition (conditional c) (expression_in β (inside β d)) (put_c c t) m ≡ got c t (tally_c c m)
    back_c always t m d v h o = refl
    back_c (provided e) t m d v h o = rw (back_e e t m d v h o)

    pub back_es : (es : Expressions) (t : List Line) (m : Tally) (d : ℕ) → ValidEs es → depth_es es ≤ d → In β (tally_es es m) → expressions (ecount es) (expression_in β (inside β d)) (put_es es t) m ≡ got es t (tally_es es m)
    back_es eend t m d v h o = refl
    back_es (econs e es) t m d v h o = rw (back_e e (put_es es t) m d v.0 (omega arith) (grow_es β es _ o), back_es es t _ d v.1 (omega arith) o)

    pub back_os : (os : Orders) (t : List Line) (m : Tally) (d : ℕ) → ValidOs os → depth_os os ≤ d → In β (tally_os os m) → orders β (ocount os) (expression_in β (inside β d)) (put_os os t) m ≡ got os t (tally_os os m)
    back_os oend t m d v h o = refl
    back_os (ocons a e os) t m d v h o = let b = grow_os β os _ o in rw (order-back a, grow_e β e _ b, back_e e (put_os os t) _ d v.0 (omega arith) b, back_os os t _ d v.1 (omega arith) o)

    pub back_as : (rs : Aggregates) (t : List Line) (m : Tally) (d : ℕ) → ValidAs rs → depth_as rs ≤ d → In β (tally_as rs m) → aggregates β (acount rs) (expression_in β (inside β d)) (put_as rs t) m ≡ got rs t (tally_as rs m)
    back_as aend t m d v h o = refl
    back_as (agg x n f e rs) t m d v h o = let b = grow_as β rs _ o in rw (v.0, v.1, v.2, grow_e β e _ b, back_e e (put_as rs t) _ d v.3 (omega arith) b, back_as rs t _ d v.4 (omega arith) o)
    back_as (aggall x f rs) t m d v h o = rw (v.0, v.1, grow_as β rs _ o, back_as rs t _ d v.2 (omega arith) o)
