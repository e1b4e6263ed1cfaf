-- What bindings and filters put into a tree is well formed. Assumes nothing.
use mathlib.Core.Path.{◌≡◌, refl, sym, ap, subst, ◌∙◌}
use mathlib.Core.Bool.{Bool, true, false, cond, ◌||◌}
use mathlib.Core.List.{List, [], ◌∷◌, map}
use mathlib.Core.Option.{Option, none, some}
use Prim.Native.Nat.{ℕ, suc, ◌≤◌}
use native.Mathlib.Omega.{arith}
use lib.ListN.{length, get_or}
use lib.Dec.{ltb, ltb→lt}
use Rattle.text.specs.Text.{Bytes, same}
use Rattle.text.specs.Word.{bytes}
use Rattle.text.specs.Field.{most, clean, is_var, is_constant, given, is_kind, fits, all_fit, variable, plain, opaque}
use Rattle.text.proofs.Basics.{so→T, and_left, and_right, and_both}
use Rattle.algebra.specs.Tree.{Pattern, join, Expression, term, Expressions, eend, econs, ecount}
use Rattle.algebra.specs.Query.{Value, BindingSet, FilterWord, UN, BIN, TERN, NARY, Filter, leaf, ref, function, Filters, fend, fcons, fcount}
use Rattle.algebra.specs.Word.{filter_arity}
use Rattle.algebra.specs.Valid.{Fits, AllFit, Rows, Takes, Valid, ValidE, ValidEs, ValueRows, ValidSets, ValidFilter, ValidParts, ValidFilters}
use Rattle.scoping.specs.Premises.{columns_at, inside}
use Rattle.scoping.specs.Sets.{all}
use Rattle.scoping.proofs.Positions.{inside-first}
use Rattle.scoping.proofs.Basics.{or_inl}
use Rattle.merging.specs.Request.{position}
use Rattle.merging.proofs.Positions.{at_in}
use Rattle.merging.proofs.Lists.{map-length}
use Rattle.merging.proofs.Written.{fit_at}
use Rattle.filtering.specs.Values.{ground_term_from_datavalue, expression_term}
use Rattle.filtering.specs.Bindings.{cell_of, positions_of, bound_variables, values_of, joined_with_values, positions_inside, values_usable}
use Rattle.filtering.specs.Functions.{as_term, referenced, try_expression_from_unary, try_expression_from_binary, try_expression_from_function, if_some, try_expression_from_tree, try_expressions_from_parts, is_constant_true}
use Rattle.filtering.specs.Filters.{placed_expression, and_those, expressions, both, conjunction, filtered, references_inside, parts_inside}
use Rattle.filtering.proofs.Terms.{cells_fit, term_fits, term-plain}

-- ---- columns at positions

columns-length : (cs : List Bytes) (is : List ℕ) → length (columns_at cs is) ≡ length is
unfolding columns_at
columns-length cs [] = refl
columns-length cs (i ∷ is) = ap suc (columns-length cs is)

-- values have as many columns as positions
pub bound-length : (cs : List Bytes) (x : BindingSet) → length (bound_variables cs x) ≡ length x.positions
unfolding bound_variables
bound-length cs x = columns-length cs (positions_of x) ∙ map-length position x.positions

columns-fit : (cs : List Bytes) (is : List ℕ) → AllFit variable cs → inside cs is ≡ true → AllFit variable (columns_at cs is)
unfolding columns_at inside all all_fit
columns-fit cs [] a h = refl
columns-fit cs (i ∷ is) a h =
    and_both (fits variable (get_or cs i [])) (all_fit variable (columns_at cs is)) (fit_at variable cs a (get_or cs i []) (at_in cs i (inside-first cs i is h))) (columns-fit cs is a (and_right (ltb i (length cs)) _ h))

bound-fit : (cs : List Bytes) (x : BindingSet) → AllFit variable cs → inside cs (positions_of x) ≡ true → AllFit variable (bound_variables cs x)
unfolding bound_variables
bound-fit cs x a i = columns-fit cs (positions_of x) a i

-- ---- bindings

rows-valid : (n m : ℕ) (rs : List (List Value)) → n ≡ m → ValueRows m rs → all (all (λ v. given (ground_term_from_datavalue v))) rs ≡ true → Rows n (map (map cell_of) rs)
unfolding ValueRows Rows all
rows-valid n m [] e w u = tt
rows-valid n m (r ∷ rs) e w u =
    let b = all (λ v. given (ground_term_from_datavalue v)) r in
    (map-length cell_of r ∙ w.0 ∙ sym e, cells_fit r w.1 (and_left b _ u), rows-valid n m rs e w.2 (and_right b _ u))

values-valid : (cs : List Bytes) (x : BindingSet) → AllFit variable cs → inside cs (positions_of x) ≡ true → all (all (λ v. given (ground_term_from_datavalue v))) x.rows ≡ true
    → length x.positions ≤ most → length x.rows ≤ most → ValueRows (length x.positions) x.rows → Valid (values_of cs x)
unfolding values_of Valid
values-valid cs x a i u m k w =
    let n = bound-length cs x in
    let r = map-length (map cell_of) x.rows in
    (omega arith, omega arith, bound-fit cs x a i, rows-valid (length (bound_variables cs x)) (length x.positions) x.rows n w u)

pub joined-valid : (cs : List Bytes) (p : Pattern) (xs : List BindingSet) → AllFit variable cs → positions_inside cs xs ≡ true → values_usable xs ≡ true → ValidSets xs → Valid p → Valid (joined_with_values cs p xs)
unfolding joined_with_values positions_inside values_usable all ValidSets Valid
joined-valid cs p [] a i u w v = v
joined-valid cs p (x ∷ xs) a i u w v =
    let b = inside cs (positions_of x) in
    let c = all (all (λ v. given (ground_term_from_datavalue v))) x.rows in
    joined-valid cs (join p (values_of cs x)) xs a (and_right b _ i) (and_right c _ u) w.4
    (v, values-valid cs x a (and_left b _ i) (and_left c _ u) w.0 w.1 w.3)

-- ---- filters

pub if-some-gives : {A B : Type 0} (o : Option A) (k : A → Option B) (y : B) → if_some o k ≡ some y → (x : A) × (o ≡ some x) × (k x ≡ some y)
if-some-gives none k y e = let z : ◌≡◌ {A = ℕ} 0 1 = cc in absurd (omega arith)
if-some-gives (some x) k y e = (x, refl, e)

pub as-term-gives : (o : Option Bytes) (e : Expression) → as_term o ≡ some e → (b : Bytes) × (o ≡ some b) × (e ≡ term b)
as-term-gives none e h = let z : ◌≡◌ {A = ℕ} 0 1 = cc in absurd (omega arith)
as-term-gives (some b) e h = (b, refl, cc)

-- a choice between two names
pub choice-gives : (s t : Bool) (a b e : Expression) (P : Expression → Type 0) → P a → P b → cond s (some a) (cond t (some b) none) ≡ some e → P e
choice-gives true t a b e P p q h = let i : a ≡ e = cc in subst P i p
choice-gives false true a b e P p q h = let i : b ≡ e = cc in subst P i q
choice-gives false false a b e P p q h = let z : ◌≡◌ {A = ℕ} 0 1 = cc in absurd (omega arith)

DATATYPE-opaque : Fits opaque (bytes "DATATYPE")
unfolding fits is_kind clean
DATATYPE-opaque = refl

LANG-opaque : Fits opaque (bytes "LANG")
unfolding fits is_kind clean
LANG-opaque = refl

variable-plain : (f : Bytes) → Fits variable f → Fits plain f
unfolding fits is_kind
variable-plain f h = and_both (clean f) (is_var f || is_constant f) (and_left (clean f) (is_var f) h) (or_inl (is_var f) (is_constant f) (and_right (clean f) (is_var f) h))

function-valid : (w : FilterWord) (n : Bytes) (k : ℕ) (es : Expressions) (e : Expression) → Takes (filter_arity w) k → ecount es ≡ k → ValidEs es → try_expression_from_function w n es ≡ some e → ValidE e
unfolding try_expression_from_function try_expression_from_unary try_expression_from_binary Takes ValidE
function-valid UN n k es e t c v h = choice-gives (same n (bytes "Datatype")) (same n (bytes "LanguageTag")) _ _ e ValidE (DATATYPE-opaque, omega arith, v) (LANG-opaque, omega arith, v) h
function-valid BIN n k es e t c v h = choice-gives (same n (bytes "Equals")) (same n (bytes "Unequals")) _ _ e ValidE (c ∙ t, v) (refl, ((c ∙ t, v), tt)) h
function-valid TERN n k es e t c v h = let z : ◌≡◌ {A = ℕ} 0 1 = cc in absurd (omega arith)
function-valid NARY n k es e t c v h = let z : ◌≡◌ {A = ℕ} 0 1 = cc in absurd (omega arith)

module _ (cs : List Bytes) (a : AllFit variable cs) where
  mutual
    unfolding try_expression_from_tree references_inside referenced ValidFilter ValidE

    pub tree-valid : (f : Filter) (e : Expression) → references_inside cs f ≡ true → ValidFilter f → try_expression_from_tree cs f ≡ some e → ValidE e
    tree-valid (leaf v) e i w h =
        let x = as-term-gives (expression_term v.domain v.lexical v.extra) e h in
        subst ValidE (sym x.2) (term-plain x.0 (term_fits v w x.0 x.1))
    tree-valid (ref k) e i w h =
        let x : term (referenced cs k) ≡ e = cc in
        subst ValidE x (variable-plain (referenced cs k) (fit_at variable cs a (referenced cs k) (at_in cs (position k) (ltb→lt (position k) (length cs) (so→T (ltb (position k) (length cs)) i)))))
    tree-valid (function w n fs) e i q h =
        let x = if-some-gives (try_expressions_from_parts cs fs) (try_expression_from_function w n) e h in
        let y = parts-valid fs x.0 i q.2 x.1 in
        function-valid w n (fcount fs) x.0 e q.1 y.0 y.1 x.2

    pub parts-valid : (fs : Filters) (es : Expressions) → parts_inside cs fs ≡ true → ValidParts fs → try_expressions_from_parts cs fs ≡ some es → (ecount es ≡ fcount fs) × ValidEs es
    parts-valid fend es i w h = let x : eend ≡ es = cc in subst (λ (d : Expressions). (ecount d ≡ 0) × ValidEs d) x (refl, tt)
    parts-valid (fcons f fs) es i w h =
        let x = if-some-gives (try_expression_from_tree cs f) _ es h in
        let y = if-some-gives (try_expressions_from_parts cs fs) (λ ds. some (econs x.0 ds)) es x.2 in
        let z : econs x.0 y.0 ≡ es = cc in
        let r = parts-valid fs y.0 (and_right (references_inside cs f) (parts_inside cs fs) i) w.1 y.1 in
        subst (λ (d : Expressions). (ecount d ≡ suc (fcount fs)) × ValidEs d) z (ap suc r.0, (tree-valid f x.0 (and_left (references_inside cs f) (parts_inside cs fs) i) w.0 x.1, r.1))

  -- all of a list
  abbrev AllE : List Expression → Type 0
  AllE [] = Unit {0}
  AllE (e ∷ es) = ValidE e × AllE es

  expressions-valid : (fs : List Filter) → all (references_inside cs) fs ≡ true → ValidFilters fs → AllE (expressions cs fs)
  unfolding expressions placed_expression all ValidFilters
  expressions-valid [] i w = tt
  expressions-valid (f ∷ fs) i w =
      go (is_constant_true f) (try_expression_from_tree cs f) refl (expressions-valid fs (and_right (references_inside cs f) (all (references_inside cs) fs) i) w.1)
    where
      go : (b : Bool) (o : Option Expression) → try_expression_from_tree cs f ≡ o → AllE (expressions cs fs) → AllE (and_those (cond b none o) (expressions cs fs))
      go true o h r = r
      go false none h r = r
      go false (some e) h r = (tree-valid f e (and_left (references_inside cs f) (all (references_inside cs) fs) i) w.0 h, r)

  conjunction-valid : (e : Expression) (es : List Expression) → ValidE e → AllE es → ValidE (conjunction e es)
  unfolding conjunction ValidE Takes
  conjunction-valid e [] v w = v
  conjunction-valid e (d ∷ ds) v w = conjunction-valid (both e d) ds (refl, (v, (w.0, tt))) w.1

  filtered-with : (es : List Expression) (p : Pattern) → AllE es → Valid p → Valid (filtered es p)
  unfolding filtered Valid
  filtered-with [] p w v = v
  filtered-with (e ∷ es) p w v = (v, conjunction-valid e es w.0 w.1)

  pub filtered-valid : (fs : List Filter) (p : Pattern) → all (references_inside cs) fs ≡ true → ValidFilters fs → Valid p → Valid (filtered (expressions cs fs) p)
  filtered-valid fs p i w v = filtered-with (expressions cs fs) p (expressions-valid fs i w) v
