-- A placed filter names only columns of the outermost projection, and so do the Values. Assumes nothing.
use mathlib.Core.Path.{◌≡◌, refl, sym, ap, subst, ◌∙◌}
use mathlib.Core.Bool.{Bool, true, false, cond, ◌&&◌, ◌||◌, false≢true}
use mathlib.Core.List.{List, [], ◌∷◌, ◌++◌}
use mathlib.Core.Option.{Option, none, some}
use Prim.Native.Nat.{ℕ}
use native.Mathlib.Omega.{arith}
use lib.ListN.{length, get_or}
use lib.Dec.{ltb, ltb→lt, leb, eqb}
use borrow.Author.Tests.{ne_eqb, eqb-true}
use Rattle.text.specs.Text.{Bytes, same}
use Rattle.text.specs.Word.{bytes}
use Rattle.text.specs.Field.{clean, is_var, is_iri, is_literal, is_constant, is_kind, fits, constant}
use Rattle.text.proofs.Basics.{same-eq, so→T, and_left, and_right}
use Rattle.algebra.specs.Tree.{Expression, term, apply, Expressions, eend, econs, EQ}
use Rattle.algebra.specs.Query.{BindingSet, FilterWord, UN, BIN, TERN, NARY, Filter, leaf, ref, function, Filters, fend, fcons}
use Rattle.algebra.specs.Valid.{Fits, mem, ValidFilter, ValidParts, ValidFilters}
use Rattle.scoping.specs.Sets.{variables_of, keep, all, each}
use Rattle.scoping.specs.bridge.Places.{Mark, silent, Place, names_of, marked, places_e, places_es}
use Rattle.scoping.specs.Premises.{columns_at, inside}
use Rattle.scoping.proofs.Sets.{and_none, mem-append, mem-keep}
use Rattle.scoping.proofs.Index.{mem-at}
use Rattle.scoping.proofs.Positions.{inside-first}
use Rattle.scoping.proofs.Basics.{either, or_cases}
use Rattle.merging.specs.Request.{position}
use Rattle.filtering.specs.Values.{expression_term}
use Rattle.filtering.specs.Bindings.{positions_of, bound_variables, positions_inside}
use Rattle.filtering.specs.Functions.{referenced, try_expression_from_unary, try_expression_from_binary, try_expression_from_function, try_expression_from_tree, try_expressions_from_parts, is_constant_true}
use Rattle.filtering.specs.Filters.{placed_expression, and_those, both, expressions, conjunction, references_inside, parts_inside}
use Rattle.filtering.proofs.Terms.{term_fits}
use Rattle.filtering.proofs.Scope.{bound_columns}
use Rattle.filtering.proofs.Valid.{if-some-gives, as-term-gives, choice-gives}

columns-in : (cs : List Bytes) (is : List ℕ) → inside cs is ≡ true → (v : Bytes) → mem v (columns_at cs is) ≡ true → mem v cs ≡ true
unfolding columns_at inside all mem
columns-in cs [] h v m = absurd (false≢true m)
columns-in cs (i ∷ is) h v m = go (same v (get_or cs i [])) refl m (columns-in cs is (and_right (ltb i (length cs)) _ h) v)
  where
    go : (b : Bool) → same v (get_or cs i []) ≡ b → (b || mem v (columns_at cs is)) ≡ true → (mem v (columns_at cs is) ≡ true → mem v cs ≡ true) → mem v cs ≡ true
    go true e m r = ap (λ (w : Bytes). mem w cs) (same-eq v (get_or cs i []) e) ∙ mem-at cs i (inside-first cs i is h)
    go false e m r = r m

-- the Values bind columns of the projection only
pub bound-columns-in : (cs : List Bytes) (xs : List BindingSet) → positions_inside cs xs ≡ true → (v : Bytes) → mem v (bound_columns cs xs) ≡ true → mem v cs ≡ true
unfolding positions_inside all each bound_variables mem
bound-columns-in cs [] h v m = absurd (false≢true m)
bound-columns-in cs (x ∷ xs) h v m = go (mem v (bound_variables cs x)) refl (sym (mem-append v (bound_variables cs x) (bound_columns cs xs)) ∙ m) (bound-columns-in cs xs (and_right (inside cs (positions_of x)) _ h) v)
  where
    go : (b : Bool) → mem v (bound_variables cs x) ≡ b → (b || mem v (bound_columns cs xs)) ≡ true → (mem v (bound_columns cs xs) ≡ true → mem v cs ≡ true) → mem v cs ≡ true
    go true e m r = columns-in cs (positions_of x) (and_left (inside cs (positions_of x)) _ h) v e
    go false e m r = r m

-- a constant is no variable: it begins with another byte
starts_apart : (f : Bytes) (n : ℕ) → eqb (get_or f 0 0) n ≡ true → (n ≡ 63 → ⊥) → is_var f ≡ false
unfolding is_var
starts_apart f n h k =
    let e : eqb (get_or f 0 0) 63 ≡ false = ne_eqb (get_or f 0 0) 63 (λ i. k (sym (eqb-true (get_or f 0 0) n h) ∙ i)) in
    ap (λ (b : Bool). leb 2 (length f) && (leb (length f) 129 && b)) e ∙ ap (λ (b : Bool). leb 2 (length f) && b) (and_none (leb (length f) 129)) ∙ and_none (leb 2 (length f))

constant-not-variable : (f : Bytes) → Fits constant f → is_var f ≡ false
unfolding fits is_kind is_iri is_literal
constant-not-variable f h = either
    (λ i. starts_apart f 60 (and_left (eqb (get_or f 0 0) 60) _ (and_right (leb 2 (length f)) _ i)) (λ e. absurd (omega arith)))
    (λ l. starts_apart f 34 (and_right (leb 1 (length f)) _ l) (λ e. absurd (omega arith)))
    (or_cases (is_iri f) (is_literal f) (and_right (clean f) (is_constant f) h))

names_marked : (m : Mark) (vs : List Bytes) → names_of (marked m vs) ≡ vs
unfolding names_of marked
names_marked m [] = refl
names_marked m (v ∷ vs) = ap (λ (l : List Bytes). v ∷ l) (names_marked m vs)

names-append : (xs ys : List Place) → names_of (xs ++ ys) ≡ names_of xs ++ names_of ys
unfolding names_of
names-append [] ys = refl
names-append (x ∷ xs) ys = ap (λ (l : List Bytes). x.name ∷ l) (names-append xs ys)

-- the names at an expression's places are among these
abbrev pub Names : List Bytes → Expression → Type 0
Names cs e = (v : Bytes) → mem v (names_of (places_e e)) ≡ true → mem v cs ≡ true

abbrev NamesAll : List Bytes → Expressions → Type 0
NamesAll cs es = (v : Bytes) → mem v (names_of (places_es es)) ≡ true → mem v cs ≡ true

-- in a term's line: the term, if it is a variable
term-names : (x v : Bytes) → mem v (names_of (places_e (term x))) ≡ (is_var v && mem v (x ∷ []))
unfolding places_e variables_of
term-names x v = ap (mem v) (names_marked silent (keep is_var (x ∷ []))) ∙ mem-keep is_var v (x ∷ [])

constant-names : (cs : List Bytes) (x : Bytes) → Fits constant x → Names cs (term x)
unfolding mem
constant-names cs x h v m = go (same v x) refl (sym (term-names x v) ∙ m)
  where
    go : (b : Bool) → same v x ≡ b → (is_var v && (b || false)) ≡ true → mem v cs ≡ true
    go true e k = absurd (false≢true (sym (constant-not-variable x h) ∙ ap is_var (sym (same-eq v x e)) ∙ and_left (is_var v) true k))
    go false e k = absurd (false≢true (and_right (is_var v) false k))

column-names : (cs : List Bytes) (x : Bytes) → mem x cs ≡ true → Names cs (term x)
unfolding mem
column-names cs x h v m = go (same v x) refl (sym (term-names x v) ∙ m)
  where
    go : (b : Bool) → same v x ≡ b → (is_var v && (b || false)) ≡ true → mem v cs ≡ true
    go true e k = ap (λ (w : Bytes). mem w cs) (same-eq v x e) ∙ h
    go false e k = absurd (false≢true (and_right (is_var v) false k))

names-cons : (cs : List Bytes) (e : Expression) (es : Expressions) → Names cs e → NamesAll cs es → NamesAll cs (econs e es)
unfolding places_e
names-cons cs e es h k v m = go (mem v (names_of (places_e e))) refl (sym (mem-append v (names_of (places_e e)) (names_of (places_es es))) ∙ ap (mem v) (sym (names-append (places_e e) (places_es es))) ∙ m)
  where
    go : (b : Bool) → mem v (names_of (places_e e)) ≡ b → (b || mem v (names_of (places_es es))) ≡ true → mem v cs ≡ true
    go true i j = h v i
    go false i j = k v j

names-none : (cs : List Bytes) → NamesAll cs eend
unfolding places_e names_of mem
names-none cs v m = absurd (false≢true m)

function-names : (cs : List Bytes) (w : FilterWord) (n : Bytes) (es : Expressions) (e : Expression) → NamesAll cs es → try_expression_from_function w n es ≡ some e → Names cs e
unfolding try_expression_from_function try_expression_from_unary try_expression_from_binary places_e
function-names cs UN n es e k h = choice-gives (same n (bytes "Datatype")) (same n (bytes "LanguageTag")) _ _ e (Names cs) k k h
function-names cs BIN n es e k h = choice-gives (same n (bytes "Equals")) (same n (bytes "Unequals")) _ _ e (Names cs) k (names-cons cs (apply EQ es) eend k (names-none cs)) h
function-names cs TERN n es e k h = let z : ◌≡◌ {A = ℕ} 0 1 = cc in absurd (omega arith)
function-names cs NARY n es e k h = let z : ◌≡◌ {A = ℕ} 0 1 = cc in absurd (omega arith)

abbrev Each : (Expression → Type 0) → List Expression → Type 0
Each P [] = Unit {0}
Each P (e ∷ es) = P e × Each P es

module _ (cs : List Bytes) where
  mutual
    unfolding try_expression_from_tree references_inside referenced ValidFilter

    -- a filter's expression names only columns of the projection
    pub tree-names : (f : Filter) (e : Expression) → references_inside cs f ≡ true → ValidFilter f → try_expression_from_tree cs f ≡ some e → Names cs e
    tree-names (leaf v) e i w h =
        let x = as-term-gives (expression_term v.domain v.lexical v.extra) e h in
        subst (Names cs) (sym x.2) (constant-names cs x.0 (term_fits v w x.0 x.1))
    tree-names (ref k) e i w h =
        let x : term (referenced cs k) ≡ e = cc in
        subst (Names cs) x (column-names cs (referenced cs k) (mem-at cs (position k) (ltb→lt (position k) (length cs) (so→T (ltb (position k) (length cs)) i))))
    tree-names (function w n fs) e i q h =
        let x = if-some-gives (try_expressions_from_parts cs fs) (try_expression_from_function w n) e h in
        function-names cs w n x.0 e (parts-names fs x.0 i q.2 x.1) x.2

    parts-names : (fs : Filters) (es : Expressions) → parts_inside cs fs ≡ true → ValidParts fs → try_expressions_from_parts cs fs ≡ some es → NamesAll cs es
    parts-names fend es i w h = let x : eend ≡ es = cc in subst (NamesAll cs) x (names-none cs)
    parts-names (fcons f fs) es i w h =
        let x = if-some-gives (try_expression_from_tree cs f) _ es h in
        let y = if-some-gives (try_expressions_from_parts cs fs) (λ ds. some (econs x.0 ds)) es x.2 in
        let z : econs x.0 y.0 ≡ es = cc in
        subst (NamesAll cs) z (names-cons cs x.0 y.0 (tree-names f x.0 (and_left (references_inside cs f) (parts_inside cs fs) i) w.0 x.1)
        (parts-names fs y.0 (and_right (references_inside cs f) (parts_inside cs fs) i) w.1 y.1))

  conjunction-names : (e : Expression) (es : List Expression) → Names cs e → Each (Names cs) es → Names cs (conjunction e es)
  unfolding conjunction places_e
  conjunction-names e [] h k = h
  conjunction-names e (d ∷ ds) h k = conjunction-names (both e d) ds (names-cons cs e (econs d eend) h (names-cons cs d eend k.0 (names-none cs))) k.1

  expressions-names : (fs : List Filter) → all (references_inside cs) fs ≡ true → ValidFilters fs → Each (Names cs) (expressions cs fs)
  unfolding expressions placed_expression all ValidFilters
  expressions-names [] i w = tt
  expressions-names (f ∷ fs) i w =
      go (is_constant_true f) (try_expression_from_tree cs f) refl (expressions-names fs (and_right (references_inside cs f) (all (references_inside cs) fs) i) w.1)
    where
      go : (b : Bool) (o : Option Expression) → try_expression_from_tree cs f ≡ o → Each (Names cs) (expressions cs fs) → Each (Names cs) (and_those (cond b none o) (expressions cs fs))
      go true o h r = r
      go false none h r = r
      go false (some e) h r = (tree-names f e (and_left (references_inside cs f) (all (references_inside cs) fs) i) w.0 h, r)

  -- and so does the whole expression that is inserted
  pub filter-names : (fs : List Filter) (e : Expression) (es : List Expression) → all (references_inside cs) fs ≡ true → ValidFilters fs → expressions cs fs ≡ e ∷ es → Names cs (conjunction e es)
  filter-names fs e es i w h = let k = subst (Each (Names cs)) h (expressions-names fs i w) in conjunction-names e es k.0 k.1
