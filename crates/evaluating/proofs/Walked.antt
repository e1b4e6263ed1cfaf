-- Tables made from a tree's lines are the tree's tables. Assumes nothing.
use mathlib.Core.Path.{◌≡◌, refl, sym, ◌∙◌, ap, ap₂, subst}
use mathlib.Core.Bool.{Bool, true, false, not, ◌&&◌, ◌||◌, false≢true}
use mathlib.Core.List.{List, [], ◌∷◌, ◌++◌, map}
use mathlib.Core.Option.{Option, some}
use Prim.Native.Nat.{ℕ, zero, suc, ◌≤◌}
use native.Mathlib.Omega.{arith}
use lib.Dec.{eqb}
use lib.ListN.{length, take, drop}
use Rattle.text.specs.Text.{Bytes, Line, same, lines_of}
use Rattle.text.specs.Word.{spelled}
use Rattle.text.proofs.Basics.{and_left, and_right}
use Rattle.text.proofs.Numbers.{number-back}
use Rattle.text.proofs.Texts.{lines-back}
use Rattle.algebra.specs.Tree.{Triple, Pattern, bgp, path, join, union, minus, leftjoin, filter, graph, extend, values, orderby, project, distinct, reduced, slice, group, service}
use Rattle.algebra.specs.Tree.{Op, OR, AND, EQ, SAME, GT, GE, LT, LE, ADD, SUB, MUL, DIV, IN, PLUS, NEG, NOT, IF, COALESCE, Expression, term, bound, exists, apply, call, always, provided, Expressions, eend, econs}
use Rattle.algebra.specs.Tree as Tree
use Rattle.algebra.specs.Layout.{put_triples, put_rows, put_arity, put, put_e, put_c, put_es, layout}
use Rattle.algebra.specs.Reader.{reads}
use Rattle.algebra.specs.Given.{read_given_tree}
use Rattle.algebra.proofs.Neat.{neat}
use Rattle.algebra.proofs.Theorem.{tree-exactly}
use Rattle.algebra.proofs.Given.{tree_text, given-as-text}
use Rattle.algebra.specs.Depth.{depth, depth_e, depth_c, depth_es}
use Rattle.algebra.specs.Valid.{mem, Valid}
use Rattle.algebra.specs.Word.{ExpressionWord, OP, arity, spell_e, spell_o, expression_words}
use Rattle.scoping.specs.Sets.{keep}
use Rattle.scoping.specs.Variables.{variables_in_pattern, scope_of}
use Rattle.scoping.specs.ScopedOrHidden.{condition_vars, names_with}
use Rattle.scoping.specs.bridge.Sets.{Sub}
use Rattle.scoping.proofs.Basics.{either, mem-here, mem-there, mem-cases, sub-left, sub-right, sub-rest}
use Rattle.counting.specs.Bag.{once}
use Rattle.counting.specs.Condition.{Truth, not3, and3, or3, Connective, same_term, conjunction, disjunction, negation, outside, connective, is_true}
use Rattle.counting.specs.Scope.{expression_vars, names}
use Rattle.counting.specs.Countable.{everywhere, is_term, all_terms, word_counts, is_condition, are_conditions, is_countable}
use Rattle.counting.proofs.Rename.{scope-in, both-in}
use Rattle.evaluating.specs.bridge.Numbers.{Numbers, numbers, NamesApart}
use Rattle.evaluating.specs.bridge.Cells.{same_in, term_in, terms_in, word_in, truth_in, truths_in, passes_in}
use Rattle.evaluating.specs.bridge.Table.{gather, is_small}
use Rattle.evaluating.specs.bridge.Tables.{columns_of, numbers_of, joined, spread, filtered, extended, left_joined, listed, table, tables_small}
use Rattle.evaluating.specs.bridge.Lines.{together, Told, said, of_two, by_connective, told_by, told, Made, two_sides, of_both, of_one, join_made, union_made, minus_made, option_made, filter_made, extend_made, project_made, distinct_made, triple_in, behind_word, values_made, bgp_made, made}
use Rattle.evaluating.proofs.Orders.{eqb-path}
use Rattle.merging.specs.Request.{or_zero}
use Rattle.evaluating.proofs.Coded.{mem-once}
use Rattle.evaluating.proofs.Rows.{name-same}
use Rattle.evaluating.proofs.Steps.{columns-together, keep-numbers}

-- ---- expressions

pub word-found : (o : Op) → spelled spell_e expression_words (spell_o o) ≡ some (OP o)
unfolding spelled same
word-found OR = refl
word-found AND = refl
word-found EQ = refl
word-found SAME = refl
word-found GT = refl
word-found GE = refl
word-found LT = refl
word-found LE = refl
word-found ADD = refl
word-found SUB = refl
word-found MUL = refl
word-found DIV = refl
word-found IN = refl
word-found PLUS = refl
word-found NEG = refl
word-found NOT = refl
word-found IF = refl
word-found COALESCE = refl

-- an expression of the counting part, or a term
abbrev pub Fine : Expression → Type 0
Fine e = (is_term e || is_condition e) ≡ true

module _ (κ : Numbers) (ρ : ℕ → ℕ) where
  abbrev pub Tells : ℕ → Type 0
  Tells d = (e : Expression) (t : List Line) → Fine e → depth_e e ≤ d → told d κ ρ (put_e e t) ≡ said (truth_in κ ρ e) (term_in κ ρ e) t

  or-first : (a b : Bool) → a ≡ true → (a || b) ≡ true
  or-first true b e = refl
  or-first false b e = absurd (false≢true e)

  or-last : (a b : Bool) → b ≡ true → (a || b) ≡ true
  or-last true b e = refl
  or-last false b e = e

  two-told : (d : ℕ) (f : Told → Told → Truth) (a b : Expression) (t : List Line) → Tells d → Fine a → Fine b → depth_e a ≤ d → depth_e b ≤ d → of_two f (told d κ ρ) (put_e a (put_e b t)) ≡ said (f (said (truth_in κ ρ a) (term_in κ ρ a) (put_e b t)) (said (truth_in κ ρ b) (term_in κ ρ b) t)) 0 t
  two-told d f a b t ih fa fb da db =
      ap (λ (x : Told). said (f x (told d κ ρ x.rest)) 0 (told d κ ρ x.rest).rest) (ih a (put_e b t) fa da)
      ∙ ap (λ (y : Told). said (f (said (truth_in κ ρ a) (term_in κ ρ a) (put_e b t)) y) 0 y.rest) (ih b t fb db)

  not-one : (n : ℕ) (b : Bool) {A : Type 0} → (eqb (suc (suc n)) 1 && b) ≡ true → A
  not-one n b h = absurd (let e = eqb-path (suc (suc n)) 1 (and_left (eqb (suc (suc n)) 1) b h) in omega arith)

  not-two : (n : ℕ) (b : Bool) {A : Type 0} → (eqb (suc (suc (suc n))) 2 && b) ≡ true → A
  not-two n b h = absurd (let e = eqb-path (suc (suc (suc n))) 2 (and_left (eqb (suc (suc (suc n))) 2) b h) in omega arith)

  word-told : (d : ℕ) (c : Connective) (es : Expressions) (t : List Line) → Tells d → word_counts c (Tree.ecount es) (all_terms es) (are_conditions es) ≡ true → depth_es es ≤ d → by_connective c (told d κ ρ) (put_es es t) ≡ said (word_in c (terms_in κ ρ es) (truths_in κ ρ es)) 0 t
  unfolding put_es terms_in truths_in are_conditions depth_es
  word-told d same_term eend t ih h k = absurd (false≢true h)
  word-told d same_term (econs a eend) t ih h k = absurd (false≢true h)
  word-told d same_term (econs a (econs b eend)) t ih h k = two-told d (λ x y. same_in x.cell y.cell) a b t ih (or-first (is_term a) (is_condition a) (and_left (is_term a) _ h)) (or-first (is_term b) (is_condition b) (and_left (is_term b) _ (and_right (is_term a) _ h))) (omega arith) (omega arith)
  word-told d same_term (econs a (econs b (econs e es))) t ih h k = not-two (Tree.ecount es) _ h
  word-told d conjunction eend t ih h k = absurd (false≢true h)
  word-told d conjunction (econs a eend) t ih h k = absurd (false≢true h)
  word-told d conjunction (econs a (econs b eend)) t ih h k = two-told d (λ x y. and3 x.truth y.truth) a b t ih (or-last (is_term a) (is_condition a) (and_left (is_condition a) _ h)) (or-last (is_term b) (is_condition b) (and_left (is_condition b) _ (and_right (is_condition a) _ h))) (omega arith) (omega arith)
  word-told d conjunction (econs a (econs b (econs e es))) t ih h k = not-two (Tree.ecount es) _ h
  word-told d disjunction eend t ih h k = absurd (false≢true h)
  word-told d disjunction (econs a eend) t ih h k = absurd (false≢true h)
  word-told d disjunction (econs a (econs b eend)) t ih h k = two-told d (λ x y. or3 x.truth y.truth) a b t ih (or-last (is_term a) (is_condition a) (and_left (is_condition a) _ h)) (or-last (is_term b) (is_condition b) (and_left (is_condition b) _ (and_right (is_condition a) _ h))) (omega arith) (omega arith)
  word-told d disjunction (econs a (econs b (econs e es))) t ih h k = not-two (Tree.ecount es) _ h
  word-told d negation eend t ih h k = absurd (false≢true h)
  word-told d negation (econs a eend) t ih h k = ap (λ (x : Told). said (not3 x.truth) 0 x.rest) (ih a t (or-last (is_term a) (is_condition a) (and_left (is_condition a) _ h)) (omega arith))
  word-told d negation (econs a (econs b es)) t ih h k = not-one (Tree.ecount es) _ h
  word-told d outside es t ih h k = absurd (false≢true h)

  pub told_is : (d : ℕ) → Tells d
  unfolding told put_e truth_in term_in is_condition depth_e
  told_is zero (term x) t f k = absurd (omega arith)
  told_is zero (bound v) t f k = absurd (omega arith)
  told_is zero (exists p) t f k = absurd (omega arith)
  told_is zero (apply o es) t f k = absurd (omega arith)
  told_is zero (call n es) t f k = absurd (omega arith)
  told_is (suc d) (term x) t f k = refl
  told_is (suc d) (bound v) t f k = refl
  told_is (suc d) (exists p) t f k = absurd (false≢true f)
  told_is (suc d) (apply o es) t f k = ap (λ (w : Option ExpressionWord). told_by (told d κ ρ) κ ρ w (put_arity (arity o) (Tree.ecount es)) (put_es es t)) (word-found o) ∙ word-told d (connective o) es t (told_is d) f (omega arith)
  told_is (suc d) (call n es) t f k = absurd (false≢true f)

-- ---- lines of a bgp and of values

pub triples-back : (ts : List Triple) (t : List Line) → (map triple_in (take (length ts) (put_triples ts t)) ≡ ts) × (drop (length ts) (put_triples ts t) ≡ t)
unfolding put_triples
triples-back [] t = (refl, refl)
triples-back (x ∷ xs) t = (ap (λ l. x ∷ l) (triples-back xs t).0, (triples-back xs t).1)

pub rows_back : (rs : List (List Bytes)) (t : List Line) → (map behind_word (take (length rs) (put_rows rs t)) ≡ rs) × (drop (length rs) (put_rows rs t) ≡ t)
unfolding put_rows
rows_back [] t = (refl, refl)
rows_back (r ∷ rs) t = (ap (λ l. r ∷ l) (rows_back rs t).0, (rows_back rs t).1)

-- ---- patterns

module _ (κ : Numbers) (N : List Bytes) (inj : NamesApart κ N) (g : List Triple) where
  pub numbers-once : (xs : List Bytes) → Sub xs N → once eqb (numbers κ xs) ≡ numbers κ (once same xs)
  unfolding once
  numbers-once [] s = refl
  numbers-once (x ∷ xs) s =
      ap (λ l. κ.name x ∷ l) (ap (keep (λ y. not (eqb (κ.name x) y))) (numbers-once xs (λ v m. s v (mem-there v x xs m)))
      ∙ keep-numbers κ (λ y. not (same x y)) (λ y. not (eqb (κ.name x) y)) (once same xs) (λ v m. ap not (name-same κ N inj x v (s x (mem-here x xs)) (s v (mem-there v x xs (sym (mem-once v xs) ∙ m))))))

  -- what is made of a pattern in front of the lines t
  abbrev pub result : Pattern → List Line → Made
  result p t = record { columns = numbers_of κ p; table = table κ g p; small = tables_small κ g p; rest = t }

  abbrev pub Makes : ℕ → Type 0
  Makes d = (p : Pattern) (t : List Line) → is_countable p ≡ true → Valid p → Sub (names p) N → depth p ≤ d → made d κ g (put p t) ≡ result p t

  two_made : (d : ℕ) (f : Made → Made → Made) (p q : Pattern) (t : List Line) → made d κ g (put p (put q t)) ≡ result p (put q t) → made d κ g (put q t) ≡ result q t → two_sides f (made d κ g) (put p (put q t)) ≡ f (result p (put q t)) (result q t)
  two_made d f p q t a b = ap (λ (l : Made). f l (made d κ g l.rest)) a ∙ ap (f (result p (put q t))) b

  told-truth : (d : ℕ) (e : Expression) (t : List Line) → is_condition e ≡ true → depth_e e ≤ d → (ρ : ℕ → ℕ) → is_true (told d κ ρ (put_e e t)).truth ≡ passes_in κ ρ (provided e)
  unfolding passes_in
  told-truth d e t c k ρ = ap (λ (x : Told). is_true x.truth) (told_is κ ρ d e t (or-last κ ρ (is_term e) (is_condition e) c) k)

  told-rest : (d : ℕ) (e : Expression) (t : List Line) → Fine e → depth_e e ≤ d → (told d κ (λ v. 0) (put_e e t)).rest ≡ t
  told-rest d e t f k = ap (λ (x : Told). x.rest) (told_is κ (λ v. 0) d e t f k)

  -- for every pattern of the counting part, in front of whatever lines, where d levels may be opened
  pub made-is : (d : ℕ) → Makes d
  unfolding made put put_c is_countable everywhere Valid names_with depth depth_c table tables_small columns_of variables_in_pattern passes_in
  made-is zero p t c v n k = absurd (no-depth p k)
    where
      no-depth : (p : Pattern) → depth p ≤ 0 → ⊥
      no-depth (bgp ts) k = omega arith
      no-depth (path x y z) k = omega arith
      no-depth (join p q) k = omega arith
      no-depth (union p q) k = omega arith
      no-depth (minus p q) k = omega arith
      no-depth (leftjoin p q c) k = omega arith
      no-depth (filter p e) k = omega arith
      no-depth (graph a p) k = omega arith
      no-depth (extend v p e) k = omega arith
      no-depth (values cs rs) k = omega arith
      no-depth (orderby p os) k = omega arith
      no-depth (project cs p) k = omega arith
      no-depth (distinct p) k = omega arith
      no-depth (reduced p) k = omega arith
      no-depth (slice a l p) k = omega arith
      no-depth (group ks p rs) k = omega arith
      no-depth (service a f p) k = omega arith
  made-is (suc d) (bgp ts) t c v n k =
      let b = triples-back ts t in
      ap (λ i. bgp_made κ g (map triple_in (take (or_zero i) (put_triples ts t))) (drop (or_zero i) (put_triples ts t))) (number-back (length ts) v.0)
      ∙ ap₂ (bgp_made κ g) b.0 b.1
  made-is (suc d) (join p q) t c v n k =
      two_made d join_made p q t (made-is d p (put q t) (and_left (is_countable p) (is_countable q) c) v.0 (sub-left (names p) (names q) N n) (omega arith)) (made-is d q t (and_right (is_countable p) (is_countable q) c) v.1 (sub-right (names p) (names q) N n) (omega arith))
      ∙ ap (λ ws. of_both (result p (put q t)) (result q t) ws (gather (joined (numbers_of κ p) (numbers_of κ q) ws (table κ g p) (table κ g q)) []) t) (sym (columns-together κ N inj (scope_of p) (scope_of q) (both-in N p q n)))
  made-is (suc d) (union p q) t c v n k =
      two_made d union_made p q t (made-is d p (put q t) (and_left (is_countable p) (is_countable q) c) v.0 (sub-left (names p) (names q) N n) (omega arith)) (made-is d q t (and_right (is_countable p) (is_countable q) c) v.1 (sub-right (names p) (names q) N n) (omega arith))
      ∙ ap (λ ws. of_both (result p (put q t)) (result q t) ws (gather (spread (numbers_of κ p) ws (table κ g p) ++ spread (numbers_of κ q) ws (table κ g q)) []) t) (sym (columns-together κ N inj (scope_of p) (scope_of q) (both-in N p q n)))
  made-is (suc d) (minus p q) t c v n k =
      two_made d minus_made p q t (made-is d p (put q t) (and_left (is_countable p) (is_countable q) c) v.0 (sub-left (names p) (names q) N n) (omega arith)) (made-is d q t (and_right (is_countable p) (is_countable q) c) v.1 (sub-right (names p) (names q) N n) (omega arith))
  made-is (suc d) (leftjoin p q always) t c v n k =
      let m : Sub (names p ++ names q) N = sub-left (names p ++ names q) (condition_vars expression_vars always) N n in
      two_made d (option_made false (told d κ)) p q t (made-is d p (put q t) (and_left (is_countable p) _ c) v.0 (sub-left (names p) (names q) N m) (omega arith)) (made-is d q t (and_left (is_countable q) _ (and_right (is_countable p) _ c)) v.1 (sub-right (names p) (names q) N m) (omega arith))
      ∙ ap (λ ws. of_both (result p (put q t)) (result q t) ws (gather (left_joined (λ ρ. true) (numbers_of κ p) (numbers_of κ q) ws (table κ g p) (table κ g q)) []) t) (sym (columns-together κ N inj (scope_of p) (scope_of q) (both-in N p q m)))
  made-is (suc d) (leftjoin p q (provided e)) t c v n k =
      let m : Sub (names p ++ names q) N = sub-left (names p ++ names q) (condition_vars expression_vars (provided e)) N n in
      let ce : is_condition e ≡ true = and_right (is_countable q) (is_condition e) (and_right (is_countable p) _ c) in
      two_made d (option_made true (told d κ)) p q (put_e e t) (made-is d p (put q (put_e e t)) (and_left (is_countable p) _ c) v.0 (sub-left (names p) (names q) N m) (omega arith)) (made-is d q (put_e e t) (and_left (is_countable q) _ (and_right (is_countable p) _ c)) v.1 (sub-right (names p) (names q) N m) (omega arith))
      ∙ (λ i. of_both (result p (put q t)) (result q t) (sym (columns-together κ N inj (scope_of p) (scope_of q) (both-in N p q m)) i) (gather (left_joined (λ ρ. told-truth d e t ce (omega arith) ρ i) (numbers_of κ p) (numbers_of κ q) (sym (columns-together κ N inj (scope_of p) (scope_of q) (both-in N p q m)) i) (table κ g p) (table κ g q)) []) (told-rest d e t (or-last κ (λ v. 0) (is_term e) (is_condition e) ce) (omega arith) i))
  made-is (suc d) (filter p e) t c v n k =
      let ce : is_condition e ≡ true = and_right (is_countable p) (is_condition e) c in
      ap (filter_made (told d κ)) (made-is d p (put_e e t) (and_left (is_countable p) _ c) v.0 (sub-left (names p) (expression_vars e) N n) (omega arith))
      ∙ (λ i. of_one (result p t) (numbers_of κ p) (filtered (λ ρ. told-truth d e t ce (omega arith) ρ i) (numbers_of κ p) (table κ g p)) (told-rest d e t (or-last κ (λ v. 0) (is_term e) (is_condition e) ce) (omega arith) i))
  made-is (suc d) (extend w p e) t c v n k =
      let m : Sub (names p ++ expression_vars e) N = sub-rest w (names p ++ expression_vars e) N n in
      let pn : Sub (names p) N = sub-left (names p) (expression_vars e) N m in
      let fe : Fine e = or-first κ (λ v. 0) (is_term e) (is_condition e) (and_right (is_countable p) (is_term e) c) in
      let ws : numbers κ (once same (w ∷ scope_of p)) ≡ together (κ.name w ∷ []) (numbers_of κ p) = columns-together κ N inj (w ∷ []) (scope_of p) (extend-in w p e n pn) in
      ap (extend_made (told d κ) (κ.name w)) (made-is d p (put_e e t) (and_left (is_countable p) _ c) v.1 pn (omega arith))
      ∙ (λ i. of_one (result p t) (sym ws i) (gather (extended (λ ρ. (told_is κ ρ d e t fe (omega arith) i).cell) (κ.name w) (numbers_of κ p) (sym ws i) (table κ g p)) []) (told-rest d e t fe (omega arith) i))
    where
      extend-in : (w : Bytes) (p : Pattern) (e : Expression) → Sub (w ∷ (names p ++ expression_vars e)) N → Sub (names p) N → Sub ((w ∷ []) ++ scope_of p) N
      extend-in w p e n pn u m = either (λ i. subst (λ x. mem x N ≡ true) (sym i) (n w (mem-here w (names p ++ expression_vars e)))) (λ i. scope-in N p pn u i) (mem-cases u w (scope_of p) m)
  made-is (suc d) (values cs rs) t c v n k =
      let b = rows_back rs t in
      ap (λ i. values_made κ (numbers κ cs) (map behind_word (take (or_zero i) (put_rows rs t))) (drop (or_zero i) (put_rows rs t))) (number-back (length rs) v.1)
      ∙ (ap₂ (values_made κ (numbers κ cs)) b.0 b.1
      ∙ ap (λ (ws : List ℕ). made-values κ cs ws rs t) (numbers-once cs n))
    where
      made-values : Numbers → List Bytes → List ℕ → List (List Bytes) → List Line → Made
      made-values κ cs ws rs t = record { columns = ws; table = gather (listed κ (numbers κ cs) ws rs) []; small = is_small (gather (listed κ (numbers κ cs) ws rs) []); rest = t }
  made-is (suc d) (project cs p) t c v n k =
      ap (project_made (once eqb (numbers κ cs))) (made-is d p t c v.1 (sub-right cs (names p) N n) (omega arith))
      ∙ ap (λ ws. project_made ws (result p t)) (numbers-once cs (sub-left cs (names p) N n))
  made-is (suc d) (distinct p) t c v n k = ap distinct_made (made-is d p t c v n (omega arith))
  made-is (suc d) (path x y z) t c v n k = absurd (false≢true c)
  made-is (suc d) (graph a p) t c v n k = absurd (false≢true c)
  made-is (suc d) (orderby p os) t c v n k = absurd (false≢true c)
  made-is (suc d) (reduced p) t c v n k = absurd (false≢true c)
  made-is (suc d) (slice a l p) t c v n k = absurd (false≢true c)
  made-is (suc d) (group ks p rs) t c v n k = absurd (false≢true c)
  made-is (suc d) (service a f p) t c v n k = absurd (false≢true c)

-- the lines of a text that is read
pub text-made : (κ : Numbers) (g : List Triple) (text : Bytes) (p : Pattern) → NamesApart κ (names p) → read_given_tree text ≡ reads p → is_countable p ≡ true
    → made 64 κ g (lines_of (tree_text text)) ≡ record { columns = numbers_of κ p; table = table κ g p; small = tables_small κ g p; rest = [] }
unfolding layout
text-made κ g text p inj e c =
    let x = (tree-exactly (tree_text text) p).0 (sym (given-as-text text) ∙ e) in
    ap (made 64 κ g) (ap lines_of (sym x.0) ∙ lines-back (put p []) (neat p [] x.1 tt)) ∙ made-is κ (names p) inj g 64 p [] c x.1 (λ v m. m) x.2.depth
