-- The term that a value's three fields become, by the form of its domain's terms: how the code goes. Assumes nothing.
use Rattle.std.specs.Prelude.{ℕ, Bool, cond, not, ◌||◌, [], ◌∷◌, eqb}
use Rattle.text.specs.Text.{Bytes, same}
use Rattle.text.specs.Word.{bytes}
use Rattle.filtering.specs.Values.{simple, tagged, typed, bracketed}

-- 0 plain, 1 tagged, 2 an IRI, 3 unbound, 4 none, 5 typed but no expression, 6 typed
unfoldable pub form_of : Bytes → ℕ
unfolding same
form_of d =
    cond (same d (bytes "PlainString")) 0
    (cond (same d (bytes "LanguageTaggedString")) 1
    (cond (same d (bytes "Iri")) 2
    (cond (same d (bytes "Null")) 3
    (cond (same d (bytes "Tuple") || same d (bytes "Map")) 4
    (cond (same d (bytes "Other")) 5 6)))))

-- a value of this form is expressed in a filter
abbrev pub is_expressed : ℕ → Bool
is_expressed f = not (eqb f 3 || (eqb f 4 || eqb f 5))

-- the term, by its form
unfoldable pub term_of : ℕ → Bytes → Bytes → Bytes
term_of f l x =
    cond (eqb f 2) (bracketed l)
    (cond (eqb f 3) (45 ∷ [])
    (cond (eqb f 4) []
    (cond (eqb f 0) (simple l)
    (cond (eqb f 1) (tagged l x) (typed l x)))))
