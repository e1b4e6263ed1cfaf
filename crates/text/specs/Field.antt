-- What one field can be: docs/SPECIFICATION.md, "Kinds of fields". Assumes nothing.
use Rattle.std.specs.Prelude.{ℕ, zero, suc, ◌+◌, ◌-◌, ◌*◌, ◌/◌, ◌%◌, List, [], ◌∷◌, ◌++◌, Bool, true, false, cond, not, ◌&&◌, ◌||◌, length, get_or, leb, ltb, eqb}
use Rattle.std.proofs.Math.Option.{Option, none, some}
use Rattle.text.specs.Text.{Bytes, same}
use Rattle.text.specs.Word.{bytes}

-- ---- integers: base ten, no leading zeros, at most 4294967295

abbrev pub most : ℕ
most = 4294967295

-- the number whose first digits made n
unfoldable pub digits_of : ℕ → Bytes → Option ℕ
digits_of n [] = some n
digits_of n (d ∷ ds) = cond (leb 48 d && (leb d 57 && leb (n * 10 + (d - 48)) most)) (digits_of (n * 10 + (d - 48)) ds) none

-- the number that a field is
unfoldable pub number_of : Bytes → Option ℕ
unfolding digits_of
number_of [] = none
number_of (d ∷ []) = digits_of 0 (d ∷ [])
number_of (d ∷ e ∷ ds) = cond (eqb d 48) none (digits_of 0 (d ∷ e ∷ ds))

-- the digits of n, if they are at most k
unfoldable pub digits : ℕ → ℕ → Bytes
digits zero n = []
digits (suc k) n = elim (ltb n 10) [ true ↦ (n + 48) ∷ [] | false ↦ digits k (n / 10) ++ ((n % 10 + 48) ∷ []) ]

-- a number as a field
unfoldable pub decimal : ℕ → Bytes
unfolding digits
decimal n = digits (suc n) n

abbrev pub given : {A : Type 0} → Option A → Bool
given none = false
given (some a) = true

-- ---- terms

-- no tab and no line end
unfoldable pub clean : Bytes → Bool
clean [] = true
clean (x ∷ xs) = not (eqb x 9) && (not (eqb x 10) && clean xs)

-- ? and a name of 1 to 128 bytes
unfoldable pub is_var : Bytes → Bool
is_var f = leb 2 (length f) && (leb (length f) 129 && eqb (get_or f 0 0) 63)

-- starts with < and ends with a later >
unfoldable pub is_iri : Bytes → Bool
is_iri f = leb 2 (length f) && (eqb (get_or f 0 0) 60 && eqb (get_or f (length f - 1) 0) 62)

-- starts with "
unfoldable pub is_literal : Bytes → Bool
is_literal f = leb 1 (length f) && eqb (get_or f 0 0) 34

-- starts with _:
unfoldable pub is_blank : Bytes → Bool
is_blank f = leb 2 (length f) && (eqb (get_or f 0 0) 95 && eqb (get_or f 1 0) 58)

-- an IRI or a literal
abbrev pub is_constant : Bytes → Bool
is_constant f = is_iri f || is_literal f

-- a term that is no blank node
abbrev pub is_plain : Bytes → Bool
is_plain f = is_var f || is_constant f

-- -, for what is absent or unbound
unfoldable pub is_dash : Bytes → Bool
is_dash f = eqb (length f) 1 && eqb (get_or f 0 0) 45

-- 0 or 1
unfoldable pub is_flag : Bytes → Bool
is_flag f = eqb (length f) 1 && (eqb (get_or f 0 0) 48 || eqb (get_or f 0 0) 49)

-- ---- language tags: two or three small letters, optionally - and two more

abbrev pub small : ℕ → Bool
small b = leb 97 b && leb b 122

-- nothing, or - and two small letters
unfoldable pub is_region : Bytes → Bool
is_region f = eqb (length f) 0 || (eqb (length f) 3 && (eqb (get_or f 0 0) 45 && (small (get_or f 1 0) && small (get_or f 2 0))))

abbrev pub third : Bytes → Bool
third [] = false
third (c ∷ r) = small c && is_region r

unfoldable pub is_tag : Bytes → Bool
unfolding is_region
is_tag [] = false
is_tag (a ∷ []) = false
is_tag (a ∷ b ∷ r) = small a && (small b && (is_region r || third r))

-- ---- the datatypes that a value may not name: its domain says them already

abbrev pub xsd_string : Bytes
xsd_string = bytes "<http://www.w3.org/2001/XMLSchema#string>"

abbrev pub rdf_lang_string : Bytes
rdf_lang_string = bytes "<http://www.w3.org/1999/02/22-rdf-syntax-ns#langString>"

-- an IRI that is neither
unfoldable pub is_datatype : Bytes → Bool
unfolding same
is_datatype f = is_iri f && (not (same f xsd_string) && not (same f rdf_lang_string))

-- the kinds of a query
unfoldable pub is_form : Bytes → Bool
unfolding same
is_form f = same f (bytes "select") || (same f (bytes "ask") || (same f (bytes "construct") || same f (bytes "describe")))

-- ---- the kinds of fields

pub data Kind : Type 0 where
  variable : Kind  -- ?name
  node : Kind  -- any term
  plain : Kind  -- a term that is no blank node
  name : Kind  -- an IRI or a variable
  constant : Kind  -- an IRI or a literal
  cell : Kind  -- an IRI, a literal, or - for unbound
  integer : Kind
  limit : Kind  -- an integer, or - for none
  flag : Kind  -- 0 or 1
  opaque : Kind  -- one byte or more
  lexical : Kind  -- a lexical form: any bytes, or none
  absent : Kind  -- -
  tag : Kind  -- a language tag
  datatype : Kind  -- a datatype IRI
  form : Kind  -- a query's kind

unfoldable pub is_kind : Kind → Bytes → Bool
unfolding is_var is_iri is_literal is_blank is_dash is_flag number_of is_tag is_datatype is_form
is_kind variable f = is_var f
is_kind node f = is_plain f || is_blank f
is_kind plain f = is_plain f
is_kind name f = is_iri f || is_var f
is_kind constant f = is_constant f
is_kind cell f = is_constant f || is_dash f
is_kind integer f = given (number_of f)
is_kind limit f = given (number_of f) || is_dash f
is_kind flag f = is_flag f
is_kind opaque f = leb 1 (length f)
is_kind lexical f = true
is_kind absent f = is_dash f
is_kind tag f = is_tag f
is_kind datatype f = is_datatype f
is_kind form f = is_form f

-- a field of that kind: no tab and no line end in it, and the kind's own marks
unfoldable pub fits : Kind → Bytes → Bool
unfolding is_kind clean
fits k f = clean f && is_kind k f

unfoldable pub all_fit : Kind → List Bytes → Bool
unfolding fits
all_fit k [] = true
all_fit k (f ∷ fs) = fits k f && all_fit k fs
