-- From bytes to tokens: SPARQL 1.1, section 19.8, and SPARQL 1.0, appendix A.8; the numbers are of the productions, 1.1's first, written from knowledge of the standards, whose pages were not at hand. Assumes nothing.
--
-- Only texts in which a space stands behind every token are read; anything else is refused. Both grammars take the longest match
-- and skip white space. Of their terminals only strings, NIL and ANON hold a space, and a comment begins with #. No # is read outside
-- of an IRI or a string, and no [; so a token ends at its space. NIL, ( ), is read as its two marks, where the grammars have both forms.
-- Section 19.2 replaces \u and \U before the grammar reads: a text with these bytes is refused. Bytes over 127 stand in IRIs and strings only,
-- where they have to be UTF-8.
use Rattle.std.specs.Prelude.{ℕ, zero, suc, ◌-◌, List, [], ◌∷◌, Bool, true, false, cond, not, ◌&&◌, ◌||◌, leb, ltb, eqb}
use Rattle.std.proofs.Math.Option.{Option, none, some}
use Rattle.text.specs.Text.{Bytes, onto}
use Rattle.text.specs.Word.{spelled}
use Rattle.text.specs.Field.{number_of, given}
use Rattle.editions.specs.Token.{spell_k, keywords, Token, key, var, iri, literal, integer}

-- ---- bytes

abbrev pub between : ℕ → ℕ → ℕ → Bool
between a z b = leb a b && leb b z

abbrev pub letter : ℕ → Bool
letter b = between 65 90 b || between 97 122 b

abbrev pub digit : ℕ → Bool
digit b = between 48 57 b

abbrev pub nil : Bytes → Bool
nil [] = true
nil (b ∷ s) = false

-- UTF-8, Unicode's table 3-7: so many bytes are still to come, the next of them from low to high
pub record Follow : Type 0 where
  pub count : ℕ
  pub low : ℕ
  pub high : ℕ

abbrev follow : ℕ → ℕ → ℕ → Follow
follow n a z = record { count = n; low = a; high = z }

-- what follows a first byte; 1 from 1 to 0 is nothing
abbrev pub lead : ℕ → Follow
lead b = cond (ltb b 128) (follow 0 0 0) (cond (between 194 223 b) (follow 1 128 191) (cond (eqb b 224) (follow 2 160 191) (cond (eqb b 237) (follow 2 128 159) (cond (between 225 239 b) (follow 2 128 191) (cond (eqb b 240) (follow 3 144 191) (cond (between 241 243 b) (follow 3 128 191) (cond (eqb b 244) (follow 3 128 143) (follow 1 1 0))))))))

unfoldable pub utf8 : Follow → Bytes → Bool
utf8 f [] = eqb f.count 0
utf8 f (b ∷ s) = elim f.count [ zero ↦ utf8 (lead b) s | suc n ↦ between f.low f.high b && utf8 (follow n 128 191) s ]

abbrev pub is_utf8 : Bytes → Bool
is_utf8 s = utf8 (follow 0 0 0) s

-- ---- variables: VAR1 [143, 74] with VARNAME [166, 97] in ASCII

unfoldable pub all_name : Bytes → Bool
all_name [] = true
all_name (b ∷ s) = (letter b || (digit b || eqb b 95)) && all_name s

unfoldable pub is_var1 : Bytes → Bool
is_var1 [] = false
is_var1 (b ∷ s) = eqb b 63 && (not (nil s) && all_name s)

-- ---- IRIREF [139, 70]: '<' ([^<>"{}|^`\]-[#x00-#x20])* '>'

abbrev pub iri_byte : ℕ → Bool
iri_byte b = ltb 32 b && (not (eqb b 60) && (not (eqb b 34) && (not (eqb b 123) && (not (eqb b 125) && (not (eqb b 124) && (not (eqb b 94) && (not (eqb b 96) && not (eqb b 92))))))))

-- what stands behind <
unfoldable pub iri_rest : Bytes → Bool
iri_rest [] = false
iri_rest (b ∷ s) = cond (eqb b 62) (nil s) (iri_byte b && iri_rest s)

unfoldable pub is_iriref : Bytes → Bool
is_iriref [] = false
is_iriref (b ∷ s) = eqb b 60 && (iri_rest s && is_utf8 s)

-- ---- RDFLiteral [129, 60] as N-Triples writes it: STRING_LITERAL2 [157, 88], then nothing, LANGTAG [145, 76], or ^^ and IRIREF

-- what stands behind @: [a-zA-Z]+ ('-' [a-zA-Z0-9]+)*; some byte of this part was read, and it is the first part
unfoldable pub is_tag : Bool → Bool → Bytes → Bool
is_tag more first [] = more
is_tag more first (b ∷ s) = elim (eqb b 45) [ true ↦ more && is_tag false false s | false ↦ (letter b || (not first && digit b)) && is_tag true first s ]

abbrev pub is_caret : Bytes → Bool
is_caret [] = false
is_caret (b ∷ s) = eqb b 94 && is_iriref s

-- what stands behind the closing quote; a third quote would begin a long string, and is refused
unfoldable pub is_suffix : Bytes → Bool
is_suffix [] = true
is_suffix (b ∷ s) = cond (eqb b 64) (is_tag false true s) (eqb b 94 && is_caret s)

-- ECHAR [160, 91]: '\' [tbnrf\"']
abbrev pub is_echar : ℕ → Bool
is_echar b = eqb b 116 || (eqb b 98 || (eqb b 110 || (eqb b 114 || (eqb b 102 || (eqb b 92 || (eqb b 34 || eqb b 39))))))

-- what stands behind the opening quote: ( [^#x22#x5C#xA#xD] | ECHAR )* '"'; true behind a backslash
unfoldable pub is_string : Bool → Bytes → Bool
is_string escaped [] = false
is_string true (b ∷ s) = is_echar b && is_string false s
is_string false (b ∷ s) = elim (eqb b 34) [ true ↦ is_suffix s | false ↦ elim (eqb b 92) [ true ↦ is_string true s | false ↦ not (eqb b 10) && (not (eqb b 13) && is_string false s) ] ]

abbrev pub starts_u : Bytes → Bool
starts_u [] = false
starts_u (b ∷ s) = eqb b 117 || eqb b 85

-- no \u and no \U
unfoldable pub unescaped : Bytes → Bool
unescaped [] = true
unescaped (b ∷ s) = not (eqb b 92 && starts_u s) && unescaped s

unfoldable pub is_rdf_literal : Bytes → Bool
is_rdf_literal [] = false
is_rdf_literal (b ∷ s) = eqb b 34 && (is_string false s && (unescaped s && is_utf8 s))

-- ---- tokens

-- small letters as capitals: keywords are read in either
unfoldable pub capitals : Bytes → Bytes
capitals [] = []
capitals (b ∷ s) = cond (between 97 122 b) (b - 32) b ∷ capitals s

-- a keyword in small or capital letters; INTEGER [146, 77] without leading zeros, at most 4294967295
unfoldable pub token : Bytes → Option Token
unfolding capitals
token f = cond (is_var1 f) (some (var f)) (cond (is_iriref f) (some (iri f)) (cond (is_rdf_literal f) (some (literal f)) (cond (given (number_of f)) (some (integer f)) (elim (spelled (λ k. capitals (spell_k k)) keywords (capitals f)) [ none ↦ none | some k ↦ some (key k) ]))))

-- outside of a string, in one, behind a backslash in one
pub data Mode : Type 0 where
  outside quoted escaped : Mode

abbrev pub after : Mode → ℕ → Mode
after outside b = cond (eqb b 34) quoted outside
after quoted b = cond (eqb b 34) outside (cond (eqb b 92) escaped quoted)
after escaped b = quoted

abbrev pub parts : Mode → ℕ → Bool
parts outside b = eqb b 32
parts quoted b = false
parts escaped b = false

-- the parts between the spaces that stand outside of strings: one more than there are such spaces
unfoldable pub pieces : Mode → Bytes → List Bytes
pieces m [] = [] ∷ []
pieces m (b ∷ s) = elim (parts m b) [ true ↦ [] ∷ pieces m s | false ↦ onto b (pieces (after m b) s) ]

abbrev consed : Option Token → Option (List Token) → Option (List Token)
consed none r = none
consed (some t) none = none
consed (some t) (some ts) = some (t ∷ ts)

-- each part is a token, and nothing follows the last space
unfoldable pub tokens : List Bytes → Option (List Token)
tokens [] = none
tokens (f ∷ []) = cond (nil f) (some []) none
tokens (f ∷ g ∷ fs) = consed (token f) (tokens (g ∷ fs))

unfoldable pub lex : Bytes → Option (List Token)
lex s = tokens (pieces outside s)
