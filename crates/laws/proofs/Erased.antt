-- A field with what stands behind a first quote erased, if it may be changed: what its kinds are. Assumes nothing.
use mathlib.Core.Path.{◌≡◌, refl, sym, ap, ap₂, ◌∙◌}
use mathlib.Core.Bool.{Bool, true, false, cond, not, ◌&&◌, ◌||◌, and-false}
use mathlib.Core.List.{List, [], ◌∷◌, ◌++◌, map}
use mathlib.Core.Option.{none}
use Prim.Native.Nat.{ℕ, suc, ◌+◌}
use native.Mathlib.Omega.{arith}
use lib.ListN.{length}
use lib.Dec.{eqb, leb}
use borrow.Author.Tests.{eqb-true, le-leb, ne_eqb}
use Rattle.text.specs.Text.{Bytes, Line, same}
use Rattle.text.specs.Word.{bytes}
use Rattle.text.specs.Field.{digits_of, number_of, given, clean, is_var, is_iri, is_literal, is_blank, is_constant, is_plain, is_dash, is_flag, is_tag, is_datatype, is_form, is_kind, fits, all_fit, xsd_string, rdf_lang_string, Kind, variable, node, plain, name, constant, cell, integer, limit, flag, opaque, lexical, absent, tag, datatype, form}
use Rattle.text.proofs.Basics.{and_left, and_right}
use Rattle.algebra.specs.Valid.{Fits, AllFit, mem}
use Rattle.algebra.specs.Tally.{notes}
use Rattle.scoping.proofs.Basics.{clash}

-- ---- a field that starts with a quote

quoted-var : (ys : Bytes) → is_var (34 ∷ ys) ≡ false
unfolding is_var
quoted-var ys = ap (λ (b : Bool). leb 2 (length (34 ∷ ys)) && b) (and-false (leb (length (34 ∷ ys)) 129)) ∙ and-false (leb 2 (length (34 ∷ ys)))

quoted-iri : (ys : Bytes) → is_iri (34 ∷ ys) ≡ false
unfolding is_iri
quoted-iri ys = and-false (leb 2 (length (34 ∷ ys)))

quoted-blank : (ys : Bytes) → is_blank (34 ∷ ys) ≡ false
unfolding is_blank
quoted-blank ys = and-false (leb 2 (length (34 ∷ ys)))

quoted-dash : (ys : Bytes) → is_dash (34 ∷ ys) ≡ false
unfolding is_dash
quoted-dash ys = and-false (eqb (length (34 ∷ ys)) 1)

quoted-flag : (ys : Bytes) → is_flag (34 ∷ ys) ≡ false
unfolding is_flag
quoted-flag ys = and-false (eqb (length (34 ∷ ys)) 1)

quoted-number : (ys : Bytes) → number_of (34 ∷ ys) ≡ none
unfolding number_of digits_of
quoted-number [] = refl
quoted-number (y ∷ ys) = refl

quoted-tag : (ys : Bytes) → is_tag (34 ∷ ys) ≡ false
unfolding is_tag
quoted-tag [] = refl
quoted-tag (y ∷ ys) = refl

quoted-form : (ys : Bytes) → is_form (34 ∷ ys) ≡ false
unfolding is_form same
quoted-form ys = refl

quoted-datatype : (ys : Bytes) → is_datatype (34 ∷ ys) ≡ false
unfolding is_datatype
quoted-datatype ys = ap (λ (b : Bool). b && (not (same (34 ∷ ys) xsd_string) && not (same (34 ∷ ys) rdf_lang_string))) (quoted-iri ys)

quoted-long : (ys : Bytes) → leb 1 (length (34 ∷ ys)) ≡ true
quoted-long ys = le-leb 1 (length (34 ∷ ys)) (omega arith)

quoted-literal : (ys : Bytes) → is_literal (34 ∷ ys) ≡ true
unfolding is_literal
quoted-literal ys = ap (λ (b : Bool). b && true) (quoted-long ys)

quoted-constant : (ys : Bytes) → is_constant (34 ∷ ys) ≡ true
quoted-constant ys = ap₂ ◌||◌ (quoted-iri ys) (quoted-literal ys)

quoted-plain : (ys : Bytes) → is_plain (34 ∷ ys) ≡ true
quoted-plain ys = ap₂ ◌||◌ (quoted-var ys) (quoted-constant ys)

-- what a field is that starts with a quote, whatever stands behind it
quoted_kind : Kind → Bool
quoted_kind variable = false
quoted_kind node = true
quoted_kind plain = true
quoted_kind name = false
quoted_kind constant = true
quoted_kind cell = true
quoted_kind integer = false
quoted_kind limit = false
quoted_kind flag = false
quoted_kind opaque = true
quoted_kind lexical = true
quoted_kind absent = false
quoted_kind tag = false
quoted_kind datatype = false
quoted_kind form = false

quoted-kind : (k : Kind) (ys : Bytes) → is_kind k (34 ∷ ys) ≡ quoted_kind k
unfolding is_kind quoted_kind
quoted-kind variable ys = quoted-var ys
quoted-kind node ys = ap (λ (b : Bool). b || is_blank (34 ∷ ys)) (quoted-plain ys)
quoted-kind plain ys = quoted-plain ys
quoted-kind name ys = ap₂ ◌||◌ (quoted-iri ys) (quoted-var ys)
quoted-kind constant ys = quoted-constant ys
quoted-kind cell ys = ap (λ (b : Bool). b || is_dash (34 ∷ ys)) (quoted-constant ys)
quoted-kind integer ys = ap given (quoted-number ys)
quoted-kind limit ys = ap₂ ◌||◌ (ap given (quoted-number ys)) (quoted-dash ys)
quoted-kind flag ys = quoted-flag ys
quoted-kind opaque ys = quoted-long ys
quoted-kind lexical ys = refl
quoted-kind absent ys = quoted-dash ys
quoted-kind tag ys = quoted-tag ys
quoted-kind datatype ys = quoted-datatype ys
quoted-kind form ys = quoted-form ys

-- kinds that no literal has
pub data Bare : Kind → Type 0 where
  bare_variable : Bare variable
  bare_name : Bare name
  bare_integer : Bare integer
  bare_limit : Bare limit
  bare_flag : Bare flag

bare-not : (k : Kind) → Bare k → quoted_kind k ≡ false
unfolding quoted_kind
bare-not variable bare_variable = refl
bare-not name bare_name = refl
bare-not integer bare_integer = refl
bare-not limit bare_limit = refl
bare-not flag bare_flag = refl
bare-not node h = elim h [ ]
bare-not plain h = elim h [ ]
bare-not constant h = elim h [ ]
bare-not cell h = elim h [ ]
bare-not opaque h = elim h [ ]
bare-not lexical h = elim h [ ]
bare-not absent h = elim h [ ]
bare-not tag h = elim h [ ]
bare-not datatype h = elim h [ ]
bare-not form h = elim h [ ]

-- ---- erased

-- 11 and the length for what may be changed, 12 and the bytes for what may not
unfoldable pub marked : (Bytes → Bool) → Bytes → Bytes
unfolding clean
marked may ys = cond (clean ys && may (34 ∷ ys)) (11 ∷ (11 + length ys) ∷ []) (12 ∷ ys)

unfoldable pub erased : (Bytes → Bool) → Bytes → Bytes
unfolding marked
erased may [] = []
erased may (x ∷ xs) = cond (eqb x 34) (34 ∷ marked may xs) (x ∷ xs)

-- all fields but the first, save in a query's head line
unfoldable pub erased_line : (Bytes → Bool) → Line → Line
unfolding erased same
erased_line may [] = []
erased_line may (w ∷ fs) = cond (same w (bytes "query")) (w ∷ fs) (w ∷ map (erased may) fs)

-- either it starts with a quote, or it stays
pub data Look (may : Bytes → Bool) (f : Bytes) : Type 0 where
  quote : (ys : Bytes) → f ≡ 34 ∷ ys → erased may f ≡ 34 ∷ marked may ys → Look may f
  other : erased may f ≡ f → ((ys : Bytes) → f ≡ 34 ∷ ys → ⊥) → Look may f

module _ (may : Bytes → Bool) where
  not-quote : (x : ℕ) (xs ys : Bytes) → eqb x 34 ≡ false → x ∷ xs ≡ 34 ∷ ys → ⊥
  not-quote x xs ys e h = clash (ap (λ (b : ℕ). eqb b 34) (let t : x ≡ 34 = cc in t)) e

  pub look : (f : Bytes) → Look may f
  unfolding erased
  look [] = other refl (λ ys h. let z : ◌≡◌ {A = ℕ} 0 1 = cc in omega arith)
  look (x ∷ xs) = go (eqb x 34) refl
    where
      go : (t : Bool) → eqb x 34 ≡ t → Look may (x ∷ xs)
      go true e = quote xs (ap (λ (b : ℕ). b ∷ xs) (eqb-true x 34 e)) (ap (λ (b : Bool). cond b (34 ∷ marked may xs) (x ∷ xs)) e)
      go false e = other (ap (λ (b : Bool). cond b (34 ∷ marked may xs) (x ∷ xs)) e) (λ ys. not-quote x xs ys e)

  pub kind-erased : (k : Kind) (f : Bytes) → is_kind k (erased may f) ≡ is_kind k f
  kind-erased k f = go (look f)
    where
      go : Look may f → is_kind k (erased may f) ≡ is_kind k f
      go (quote ys e h) = ap (is_kind k) h ∙ quoted-kind k (marked may ys) ∙ sym (ap (is_kind k) e ∙ quoted-kind k ys)
      go (other e n) = ap (is_kind k) e

  -- a number above 10 is no tab and no line end
  length-clean : (n : ℕ) → clean (11 ∷ (11 + n) ∷ []) ≡ true
  unfolding clean
  length-clean n = ap₂ (λ (a b : Bool). not a && (not b && true)) (ne_eqb (11 + n) 9 (λ e. omega arith)) (ne_eqb (11 + n) 10 (λ e. omega arith))

  marked-clean : (ys : Bytes) → clean (marked may ys) ≡ clean ys
  unfolding marked clean
  marked-clean ys = go (clean ys) (may (34 ∷ ys)) refl
    where
      go : (c m : Bool) → clean ys ≡ c → clean (cond (c && m) (11 ∷ (11 + length ys) ∷ []) (12 ∷ ys)) ≡ c
      go true true e = length-clean (length ys)
      go true false e = e
      go false m e = e

  pub clean-erased : (f : Bytes) → clean (erased may f) ≡ clean f
  unfolding clean
  clean-erased f = go (look f)
    where
      go : Look may f → clean (erased may f) ≡ clean f
      go (quote ys e h) = ap clean h ∙ marked-clean ys ∙ sym (ap clean e)
      go (other e n) = ap clean e

  pub fits-erased : (k : Kind) (f : Bytes) → fits k (erased may f) ≡ fits k f
  unfolding fits
  fits-erased k f = ap₂ ◌&&◌ (clean-erased f) (kind-erased k f)

  pub all-fit-erased : (k : Kind) (fs : List Bytes) → all_fit k (map (erased may) fs) ≡ all_fit k fs
  unfolding all_fit
  all-fit-erased k [] = refl
  all-fit-erased k (f ∷ fs) = ap₂ ◌&&◌ (fits-erased k f) (all-fit-erased k fs)

  pub bare-stays : (k : Kind) → Bare k → (f : Bytes) → is_kind k f ≡ true → erased may f ≡ f
  bare-stays k b f h = go (look f)
    where
      go : Look may f → erased may f ≡ f
      go (quote ys e t) = clash (sym (ap (is_kind k) e) ∙ h) (quoted-kind k ys ∙ bare-not k b)
      go (other e n) = e

  pub fit_stays : (k : Kind) → Bare k → (f : Bytes) → Fits k f → erased may f ≡ f
  unfolding fits
  fit_stays k b f h = bare-stays k b f (and_right (clean f) (is_kind k f) h)

  pub all_stay : (k : Kind) → Bare k → (fs : List Bytes) → AllFit k fs → map (erased may) fs ≡ fs
  unfolding all_fit
  all_stay k b [] h = refl
  all_stay k b (f ∷ fs) h = ap₂ ◌∷◌ (fit_stays k b f (and_left (fits k f) (all_fit k fs) h)) (all_stay k b fs (and_right (fits k f) (all_fit k fs) h))

  pub var-erased : (f : Bytes) → is_var (erased may f) ≡ is_var f
  unfolding is_kind
  var-erased f = kind-erased variable f

  pub var-stays : (f : Bytes) → is_var f ≡ true → erased may f ≡ f
  unfolding is_kind
  var-stays f h = bare-stays variable bare_variable f h

  -- a number's field
  pub number-erased : (f : Bytes) → number_of (erased may f) ≡ number_of f
  number-erased f = go (look f)
    where
      go : Look may f → number_of (erased may f) ≡ number_of f
      go (quote ys e h) = ap number_of h ∙ quoted-number (marked may ys) ∙ sym (ap number_of e ∙ quoted-number ys)
      go (other e n) = ap number_of e

  -- a field that is some word without a quote
  pub same-erased : (w f : Bytes) → ((ys : Bytes) → same (34 ∷ ys) w ≡ false) → same (erased may f) w ≡ same f w
  same-erased w f n = go (look f)
    where
      go : Look may f → same (erased may f) w ≡ same f w
      go (quote ys e h) = ap (λ (g : Bytes). same g w) h ∙ n (marked may ys) ∙ sym (ap (λ (g : Bytes). same g w) e ∙ n ys)
      go (other e m) = ap (λ (g : Bytes). same g w) e

  -- the variables noted are the same
  note-erased : (f : Bytes) (ns : List Bytes) → cond (is_var (erased may f)) (cond (mem (erased may f) ns) ns (ns ++ (erased may f ∷ []))) ns ≡ cond (is_var f) (cond (mem f ns) ns (ns ++ (f ∷ []))) ns
  note-erased f ns = go (is_var f) refl
    where
      go : (t : Bool) → is_var f ≡ t → cond (is_var (erased may f)) (cond (mem (erased may f) ns) ns (ns ++ (erased may f ∷ []))) ns ≡ cond (is_var f) (cond (mem f ns) ns (ns ++ (f ∷ []))) ns
      go true e = ap₂ (λ (b : Bool) (g : Bytes). cond b (cond (mem g ns) ns (ns ++ (g ∷ []))) ns) (var-erased f) (var-stays f e)
      go false e = ap (λ (b : Bool). cond b (cond (mem (erased may f) ns) ns (ns ++ (erased may f ∷ []))) ns) (var-erased f ∙ e) ∙ sym (ap (λ (b : Bool). cond b (cond (mem f ns) ns (ns ++ (f ∷ []))) ns) e)

  pub notes-first : (f : Bytes) (fs ns : List Bytes) → notes (erased may f ∷ fs) ns ≡ notes (f ∷ fs) ns
  unfolding notes
  notes-first f fs ns = ap (notes fs) (note-erased f ns)

  pub notes-erased : (fs ns : List Bytes) → notes (map (erased may) fs) ns ≡ notes fs ns
  unfolding notes
  notes-erased [] ns = refl
  notes-erased (f ∷ fs) ns = notes-erased fs _ ∙ ap (notes fs) (note-erased f ns)
