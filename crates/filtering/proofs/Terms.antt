-- The terms that values become are IRIs or literals, or - in a cell, with no tab and no line end in them. Assumes nothing.
use mathlib.Core.Path.{◌≡◌, refl, sym, ap, ◌∙◌}
use mathlib.Core.Bool.{true, not, ◌&&◌, ◌||◌, false≢true}
use mathlib.Core.List.{List, [], ◌∷◌, ◌++◌, map}
use mathlib.Core.Option.{Option, none, some}
use Prim.Native.Nat.{ℕ, suc, ◌-◌}
use native.Mathlib.Omega.{arith}
use lib.ListN.{length, get_or, length-append}
use lib.Seq.{get_or-append_seam}
use lib.Dec.{leb, eqb}
use borrow.Author.Tests.{le-leb, eq-eqb}
use Rattle.text.specs.Text.{Bytes}
use Rattle.text.specs.Field.{clean, is_var, is_iri, is_literal, is_constant, is_dash, given, is_kind, fits, all_fit, Kind, constant, cell, plain, lexical}
use Rattle.text.proofs.Basics.{and_left, and_right, and_both}
use Rattle.algebra.specs.Query.{Domain, PlainString, LanguageTaggedString, Iri, Float, Double, UnsignedLong, NonNegativeLong, UnsignedInt, NonNegativeInt, Long, Int, Boolean, Null, Tuple, Map, Other, Value, extra_kind}
use Rattle.algebra.specs.Valid.{Fits, AllFit, ValidValue, ValidValues}
use Rattle.scoping.specs.Sets.{all}
use Rattle.scoping.proofs.Basics.{or_inl, or_inr}
use Rattle.filtering.specs.Values.{quoted, simple, tagged, typed, bracketed, ground_term, ground_term_from_datavalue, expression_term}
use Rattle.filtering.specs.Bindings.{or_none, cell_of}

clean-append : (a b : Bytes) → clean a ≡ true → clean b ≡ true → clean (a ++ b) ≡ true
unfolding clean
clean-append [] b h k = k
clean-append (x ∷ a) b h k =
    let r = and_right (not (eqb x 9)) (not (eqb x 10) && clean a) h in
    and_both (not (eqb x 9)) (not (eqb x 10) && clean (a ++ b)) (and_left (not (eqb x 9)) (not (eqb x 10) && clean a) h)
    (and_both (not (eqb x 10)) (clean (a ++ b)) (and_left (not (eqb x 10)) (clean a) r) (clean-append a b (and_right (not (eqb x 10)) (clean a) r) k))

-- ---- literals and IRIs

quoted-fits : (l after : Bytes) → clean l ≡ true → clean after ≡ true → Fits constant (quoted l after)
unfolding fits is_kind is_literal clean
quoted-fits l after h k =
    and_both (clean (quoted l after)) (is_constant (quoted l after)) (clean-append l (34 ∷ after) h k)
    (or_inr (is_iri (quoted l after)) (is_literal (quoted l after)) (and_both (leb 1 (length (quoted l after))) true (le-leb 1 (length (quoted l after)) (omega arith)) refl))

last_byte : (l : Bytes) → get_or (bracketed l) (length (bracketed l) - 1) 0 ≡ 62
last_byte l =
    let n : length (bracketed l) - 1 ≡ suc (length l) = omega (arith, length-append l (62 ∷ [])) in
    ap (λ (i : ℕ). get_or (bracketed l) i 0) n ∙ get_or-append_seam l 62 [] 0

named-fits : (l : Bytes) → clean l ≡ true → Fits constant (bracketed l)
unfolding fits is_kind is_iri clean
named-fits l h =
    and_both (clean (bracketed l)) (is_constant (bracketed l)) (clean-append l (62 ∷ []) h refl)
    (or_inl (is_iri (bracketed l)) (is_literal (bracketed l))
    (and_both (leb 2 (length (bracketed l))) (true && eqb (get_or (bracketed l) (length (bracketed l) - 1) 0) 62) (le-leb 2 (length (bracketed l)) (omega (arith, length-append l (62 ∷ [])))) (eq-eqb _ 62 (last_byte l))))

simple-fits : (l : Bytes) → clean l ≡ true → Fits constant (simple l)
unfolding clean
simple-fits l h = quoted-fits l [] h refl

tagged-fits : (l x : Bytes) → clean l ≡ true → clean x ≡ true → Fits constant (tagged l x)
unfolding clean
tagged-fits l x h k = quoted-fits l (64 ∷ x) h k

typed-fits : (l x : Bytes) → clean l ≡ true → clean x ≡ true → Fits constant (typed l x)
unfolding clean
typed-fits l x h k = quoted-fits l (94 ∷ 94 ∷ x) h k

-- ---- values

-- what there is fits
abbrev pub Any : Kind → Option Bytes → Type 0
Any k none = Unit {0}
Any k (some b) = Fits k b

constant_cell : (f : Bytes) → Fits constant f → Fits cell f
unfolding fits is_kind
constant_cell f h = and_both (clean f) (is_constant f || is_dash f) (and_left (clean f) (is_constant f) h) (or_inl (is_constant f) (is_dash f) (and_right (clean f) (is_constant f) h))

constant-plain : (f : Bytes) → Fits constant f → Fits plain f
unfolding fits is_kind
constant-plain f h = and_both (clean f) (is_var f || is_constant f) (and_left (clean f) (is_constant f) h) (or_inr (is_var f) (is_constant f) (and_right (clean f) (is_constant f) h))

dash-cell : Fits cell (45 ∷ [])
unfolding fits is_kind clean is_iri is_literal is_dash
dash-cell = refl

pub ground-fits : (d : Domain) (l x : Bytes) → clean l ≡ true → clean x ≡ true → Any cell (ground_term d l x)
unfolding ground_term
ground-fits PlainString l x h k = constant_cell (simple l) (simple-fits l h)
ground-fits LanguageTaggedString l x h k = constant_cell (tagged l x) (tagged-fits l x h k)
ground-fits Iri l x h k = constant_cell (bracketed l) (named-fits l h)
ground-fits Float l x h k = constant_cell (typed l x) (typed-fits l x h k)
ground-fits Double l x h k = constant_cell (typed l x) (typed-fits l x h k)
ground-fits UnsignedLong l x h k = constant_cell (typed l x) (typed-fits l x h k)
ground-fits NonNegativeLong l x h k = constant_cell (typed l x) (typed-fits l x h k)
ground-fits UnsignedInt l x h k = constant_cell (typed l x) (typed-fits l x h k)
ground-fits NonNegativeInt l x h k = constant_cell (typed l x) (typed-fits l x h k)
ground-fits Long l x h k = constant_cell (typed l x) (typed-fits l x h k)
ground-fits Int l x h k = constant_cell (typed l x) (typed-fits l x h k)
ground-fits Boolean l x h k = constant_cell (typed l x) (typed-fits l x h k)
ground-fits Other l x h k = constant_cell (typed l x) (typed-fits l x h k)
ground-fits Null l x h k = dash-cell
ground-fits Tuple l x h k = tt
ground-fits Map l x h k = tt

pub expression-fits : (d : Domain) (l x : Bytes) → clean l ≡ true → clean x ≡ true → Any constant (expression_term d l x)
unfolding expression_term
expression-fits PlainString l x h k = simple-fits l h
expression-fits LanguageTaggedString l x h k = tagged-fits l x h k
expression-fits Iri l x h k = named-fits l h
expression-fits Float l x h k = typed-fits l x h k
expression-fits Double l x h k = typed-fits l x h k
expression-fits UnsignedLong l x h k = typed-fits l x h k
expression-fits NonNegativeLong l x h k = typed-fits l x h k
expression-fits UnsignedInt l x h k = typed-fits l x h k
expression-fits NonNegativeInt l x h k = typed-fits l x h k
expression-fits Long l x h k = typed-fits l x h k
expression-fits Int l x h k = typed-fits l x h k
expression-fits Boolean l x h k = typed-fits l x h k
expression-fits Tuple l x h k = tt
expression-fits Map l x h k = tt
expression-fits Null l x h k = tt
expression-fits Other l x h k = tt

fits-clean : (k : Kind) (f : Bytes) → Fits k f → clean f ≡ true
unfolding fits
fits-clean k f h = and_left (clean f) (is_kind k f) h

pub lexical-clean : (v : Value) → ValidValue v → clean v.lexical ≡ true
unfolding ValidValue
lexical-clean v w = fits-clean lexical v.lexical w.0

pub extra-clean : (v : Value) → ValidValue v → clean v.extra ≡ true
unfolding ValidValue
extra-clean v w = fits-clean (extra_kind v.domain) v.extra w.1

-- a usable value's cell
cell-fits : (v : Value) → ValidValue v → given (ground_term_from_datavalue v) ≡ true → Fits cell (cell_of v)
cell-fits v w g = go (ground_term_from_datavalue v) (ground-fits v.domain v.lexical v.extra (lexical-clean v w) (extra-clean v w)) g
  where
    go : (o : Option Bytes) → Any cell o → given o ≡ true → Fits cell (or_none o)
    go none a h = absurd (false≢true h)
    go (some b) a h = a

pub cells_fit : (vs : List Value) → ValidValues vs → all (λ v. given (ground_term_from_datavalue v)) vs ≡ true → AllFit cell (map cell_of vs)
unfolding ValidValues all all_fit
cells_fit [] w g = refl
cells_fit (v ∷ vs) w g =
    and_both (fits cell (cell_of v)) (all_fit cell (map cell_of vs)) (cell-fits v w.0 (and_left (given (ground_term_from_datavalue v)) _ g)) (cells_fit vs w.1 (and_right (given (ground_term_from_datavalue v)) _ g))

-- an expression's term, where there is one
pub term_fits : (v : Value) → ValidValue v → (b : Bytes) → expression_term v.domain v.lexical v.extra ≡ some b → Fits constant b
term_fits v w b e = go (expression_term v.domain v.lexical v.extra) (expression-fits v.domain v.lexical v.extra (lexical-clean v w) (extra-clean v w)) e
  where
    go : (o : Option Bytes) → Any constant o → o ≡ some b → Fits constant b
    go none a h = let z : ◌≡◌ {A = ℕ} 0 1 = cc in absurd (omega arith)
    go (some c) a h = let i : c ≡ b = cc in ap (fits constant) (sym i) ∙ a

pub term-plain : (b : Bytes) → Fits constant b → Fits plain b
term-plain b h = constant-plain b h
