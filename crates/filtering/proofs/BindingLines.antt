-- The lines that bindings puts in: a `join` for each set in front of the inner pattern, the Values behind it, each line of them from one line of the sets' text. Assumes nothing.
use mathlib.Core.Path.{◌≡◌, refl, sym, ap, ap₂, ◌∙◌}
use mathlib.Core.Bool.{Bool, true, false, ◌&&◌, ◌||◌}
use mathlib.Core.List.{List, [], ◌∷◌, ◌++◌, map}
use Prim.Native.Nat.{ℕ, zero, suc}
use lib.ListN.{length}
use Rattle.text.specs.Text.{Bytes, Line, same}
use Rattle.text.specs.Word.{bytes}
use Rattle.text.specs.Field.{decimal, given}
use Rattle.algebra.specs.Tree.{Pattern, join, values}
use Rattle.algebra.specs.Query.{Domain, PlainString, LanguageTaggedString, Iri, Float, Double, UnsignedLong, NonNegativeLong, UnsignedInt, NonNegativeInt, Long, Int, Boolean, Null, Tuple, Map, Other, Value, BindingSet}
use Rattle.algebra.specs.Word.{spell_v}
use Rattle.algebra.specs.Layout.{put_rows, put, put_values, put_value_rows, put_sets}
use Rattle.scoping.specs.Premises.{columns_at, inside}
use Rattle.scoping.specs.Sets.{all}
use Rattle.merging.specs.Sides.{column_at}
use Rattle.merging.specs.Request.{position}
use Rattle.merging.proofs.Lists.{map-length}
use Rattle.filtering.specs.Values.{ground_term, ground_term_from_datavalue}
use Rattle.filtering.specs.Bindings.{or_none, cell_of, positions_of, bound_variables, values_of, joined_with_values, positions_inside, values_usable}
use Rattle.filtering.specs.bridge.Terms.{form_of, term_of}
use Rattle.filtering.specs.bridge.SetLines.{repeated, sets_in, is_usable, cell_from, cells_from, values_line, at_inside, all_usable, row_usable}
use Rattle.filtering.proofs.Valid.{bound-length}

-- ---- values and rows

cell-from : (d : Domain) (l x : Bytes) → cell_from (spell_v d) l x ≡ or_none (ground_term d l x)
unfolding form_of term_of ground_term same
cell-from PlainString l x = refl
cell-from LanguageTaggedString l x = refl
cell-from Iri l x = refl
cell-from Float l x = refl
cell-from Double l x = refl
cell-from UnsignedLong l x = refl
cell-from NonNegativeLong l x = refl
cell-from UnsignedInt l x = refl
cell-from NonNegativeInt l x = refl
cell-from Long l x = refl
cell-from Int l x = refl
cell-from Boolean l x = refl
cell-from Null l x = refl
cell-from Tuple l x = refl
cell-from Map l x = refl
cell-from Other l x = refl

usable-from : (d : Domain) (l x : Bytes) → is_usable (spell_v d) ≡ given (ground_term d l x)
unfolding form_of ground_term same
usable-from PlainString l x = refl
usable-from LanguageTaggedString l x = refl
usable-from Iri l x = refl
usable-from Float l x = refl
usable-from Double l x = refl
usable-from UnsignedLong l x = refl
usable-from NonNegativeLong l x = refl
usable-from UnsignedInt l x = refl
usable-from NonNegativeInt l x = refl
usable-from Long l x = refl
usable-from Int l x = refl
usable-from Boolean l x = refl
usable-from Null l x = refl
usable-from Tuple l x = refl
usable-from Map l x = refl
usable-from Other l x = refl

cells-from : (vs : List Value) → cells_from (put_values vs) ≡ map cell_of vs
unfolding cells_from put_values
cells-from [] = refl
cells-from (v ∷ vs) = ap₂ ◌∷◌ (cell-from v.domain v.lexical v.extra) (cells-from vs)

all-usable : (vs : List Value) → all_usable (put_values vs) ≡ all (λ v. given (ground_term_from_datavalue v)) vs
unfolding all_usable put_values all
all-usable [] = refl
all-usable (v ∷ vs) = ap₂ ◌&&◌ (usable-from v.domain v.lexical v.extra) (all-usable vs)

columns-map : (cs : List Bytes) (ks : List Bytes) → columns_at cs (map position ks) ≡ map (λ k. column_at cs (position k)) ks
unfolding columns_at
columns-map cs [] = refl
columns-map cs (k ∷ ks) = ap (λ (l : List Bytes). column_at cs (position k) ∷ l) (columns-map cs ks)

-- ---- one line from one line

row_line : (cs : List Bytes) (vs : List Value) → values_line cs (bytes "row" ∷ put_values vs) ≡ bytes "row" ∷ map cell_of vs
unfolding values_line same
row_line cs vs = ap (λ (l : List Bytes). bytes "row" ∷ l) (cells-from vs)

at-line : (cs : List Bytes) (x : BindingSet) → values_line cs (bytes "at" ∷ x.positions) ≡ bytes "cols" ∷ bound_variables cs x
unfolding values_line same bound_variables
at-line cs x = ap (λ (l : List Bytes). bytes "cols" ∷ l) (sym (columns-map cs x.positions))

set_line : (cs : List Bytes) (fs : List Bytes) → values_line cs (bytes "set" ∷ fs) ≡ bytes "values" ∷ fs
unfolding values_line same
set_line cs fs = refl

rows-lines : (cs : List Bytes) (rs : List (List Value)) (s t : List Line) → map (values_line cs) (put_value_rows rs s) ++ t ≡ put_rows (map (map cell_of) rs) (map (values_line cs) s ++ t)
unfolding put_value_rows put_rows
rows-lines cs [] s t = refl
rows-lines cs (r ∷ rs) s t = ap₂ ◌∷◌ (row_line cs r) (rows-lines cs rs s t)

-- the lines of the Values of all sets, in front of others
unfoldable pub put_all_values : List Bytes → List BindingSet → List Line → List Line
unfolding put
put_all_values cs [] t = t
put_all_values cs (x ∷ xs) t = put (values_of cs x) (put_all_values cs xs t)

-- they are the lines of the sets' text, each made over
pub values-lines : (cs : List Bytes) (xs : List BindingSet) (t : List Line) → put_all_values cs xs t ≡ map (values_line cs) (put_sets xs []) ++ t
unfolding put_all_values values_of put put_sets
values-lines cs [] t = refl
values-lines cs (x ∷ xs) t = sym
    (ap₂ ◌∷◌ (set_line cs (decimal (length x.positions) ∷ decimal (length x.rows) ∷ []) ∙ head)
    (ap₂ ◌∷◌ (at-line cs x) (rows-lines cs x.rows (put_sets xs []) t ∙ ap (put_rows (map (map cell_of) x.rows)) (sym (values-lines cs xs t)))))
  where
    head : bytes "values" ∷ decimal (length x.positions) ∷ decimal (length x.rows) ∷ [] ≡ bytes "values" ∷ decimal (length (bound_variables cs x)) ∷ decimal (length (map (map cell_of) x.rows)) ∷ []
    head = ap₂ (λ (m k : ℕ). bytes "values" ∷ decimal m ∷ decimal k ∷ []) (sym (bound-length cs x)) (sym (map-length (map cell_of) x.rows))

-- ---- the whole

pub repeated-in : (n : ℕ) (w : Bytes) (t : List Line) → repeated n w ((w ∷ []) ∷ t) ≡ (w ∷ []) ∷ repeated n w t
unfolding repeated
repeated-in zero w t = refl
repeated-in (suc n) w t = ap (λ (l : List Line). (w ∷ []) ∷ l) (repeated-in n w t)

-- as many `join` lines as sets, the inner pattern's own lines, the Values
pub joined-lines : (cs : List Bytes) (p : Pattern) (xs : List BindingSet) (t : List Line) → put (joined_with_values cs p xs) t ≡ repeated (length xs) (bytes "join") (put p (put_all_values cs xs t))
unfolding joined_with_values repeated put_all_values put
joined-lines cs p [] t = refl
joined-lines cs p (x ∷ xs) t = joined-lines cs (join p (values_of cs x)) xs t ∙ repeated-in (length xs) (bytes "join") (put p (put (values_of cs x) (put_all_values cs xs t)))

-- ---- 3 and 7, line by line

module _ (test : Line → Bool) where
  all-rows : (rs : List (List Value)) (t : List Line) → all test (put_value_rows rs t) ≡ (all (λ r. test (bytes "row" ∷ put_values r)) rs && all test t)
  unfolding put_value_rows all
  all-rows [] t = refl
  all-rows (r ∷ rs) t = ap (λ (b : Bool). test (bytes "row" ∷ put_values r) && b) (all-rows rs t) ∙ and-assoc' (test (bytes "row" ∷ put_values r)) (all (λ r. test (bytes "row" ∷ put_values r)) rs) (all test t)
    where
      and-assoc' : (a b c : Bool) → (a && (b && c)) ≡ ((a && b) && c)
      and-assoc' true b c = refl
      and-assoc' false b c = refl

all_true : {A : Type 0} (f : A → Bool) (xs : List A) → ((x : A) → f x ≡ true) → all f xs ≡ true
unfolding all
all_true f [] h = refl
all_true f (x ∷ xs) h = ap₂ ◌&&◌ (h x) (all_true f xs h)

all_same : {A : Type 0} (f g : A → Bool) (xs : List A) → ((x : A) → f x ≡ g x) → all f xs ≡ all g xs
unfolding all
all_same f g [] h = refl
all_same f g (x ∷ xs) h = ap₂ ◌&&◌ (h x) (all_same f g xs h)

-- 3: some `at` line has a position outside
pub positions-lines : (cs : List Bytes) (xs : List BindingSet) → all (at_inside cs) (put_sets xs []) ≡ positions_inside cs xs
unfolding put_sets positions_inside all at_inside same
positions-lines cs [] = refl
positions-lines cs (x ∷ xs) = ap (λ (b : Bool). inside cs (positions_of x) && b)
    (all-rows (at_inside cs) x.rows (put_sets xs []) ∙ ap₂ ◌&&◌ (all_true (λ r. at_inside cs (bytes "row" ∷ put_values r)) x.rows (λ r. refl)) (positions-lines cs xs))

-- 7: some `row` line has a Tuple or a Map
pub usable-lines : (xs : List BindingSet) → all row_usable (put_sets xs []) ≡ values_usable xs
unfolding put_sets values_usable all row_usable same
usable-lines [] = refl
usable-lines (x ∷ xs) =
    all-rows row_usable x.rows (put_sets xs [])
    ∙ ap₂ ◌&&◌ (all_same (λ r. row_usable (bytes "row" ∷ put_values r)) (all (λ v. given (ground_term_from_datavalue v))) x.rows all-usable) (usable-lines xs)

-- ---- how many sets

sets-in-rows : (rs : List (List Value)) (t : List Line) → sets_in (put_value_rows rs t) ≡ sets_in t
unfolding put_value_rows sets_in same
sets-in-rows [] t = refl
sets-in-rows (r ∷ rs) t = sets-in-rows rs t

pub sets-in : (xs : List BindingSet) → sets_in (put_sets xs []) ≡ length xs
unfolding put_sets sets_in same
sets-in [] = refl
sets-in (x ∷ xs) = ap suc (sets-in-rows x.rows (put_sets xs []) ∙ sets-in xs)
