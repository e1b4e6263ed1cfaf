-- The tokens of a text are the tokens that were written, where each is one of its grammar. Assumes nothing.
use mathlib.Core.Path.{◌≡◌, refl, ◌∙◌, ap}
use mathlib.Core.Bool.{Bool, true, false, cond, not, ◌&&◌, ◌||◌, false≢true}
use mathlib.Core.List.{List, [], ◌∷◌, ◌++◌}
use mathlib.Core.Option.{Option, none, some}
use Prim.Native.Nat.{ℕ, ◌+◌, ◌*◌, ◌-◌}
use native.Mathlib.Omega.{arith}
use lib.Dec.{eqb, leb}
use Rattle.text.specs.Text.{Bytes, same, onto}
use Rattle.text.specs.Word.{spelled}
use Rattle.text.specs.Field.{number_of, digits_of, given, most}
use Rattle.text.proofs.Basics.{and_left, and_right, and_both}
use Rattle.algebra.specs.Tree.{ASC, DESC}
use Rattle.editions.specs.Token.{Keyword, SELECT, DISTINCT, REDUCED, WHERE, ORDER, BY, LIMIT, OFFSET, OPTIONAL, FILTER, UNION, GRAPH, MINUS, BIND, AS, VALUES, UNDEF, BOUND, SAMETERM, EXISTS, OPEN, CLOSE, LEFT, RIGHT, DOT, COMMA, BANG, EQUALS, BOTH, EITHER, SORT, spell_k, Token, key, var, iri, literal, integer, written, text}
use Rattle.editions.specs.Lexical.{letter, digit, nil, all_name, is_var1, iri_byte, iri_rest, is_iriref, is_tag, is_suffix, is_caret, is_echar, is_string, is_rdf_literal, token, Mode, outside, quoted, escaped, after, parts, pieces, tokens, lex}
use Rattle.editions.proofs.Basics.{other_byte, not-true}

-- ---- a part that is no token's beginning ends at its space

abbrev is_outside : Mode → Bool
is_outside outside = true
is_outside quoted = false
is_outside escaped = false

-- from that mode the bytes have no space that parts, and end outside of a string
unfoldable pub ends : Mode → Bytes → Bool
ends m [] = is_outside m
ends m (b ∷ s) = not (parts m b) && ends (after m b) s

piece_back : (m : Mode) (w r : Bytes) → ends m w ≡ true → pieces m (w ++ (32 ∷ r)) ≡ w ∷ pieces outside r
unfolding pieces ends onto
piece_back outside [] r h = refl
piece_back quoted [] r h = absurd (false≢true h)
piece_back escaped [] r h = absurd (false≢true h)
piece_back m (b ∷ s) r h = rw (not-true (parts m b) (and_left (not (parts m b)) (ends (after m b) s) h), pieces, piece_back (after m b) s r (and_right (not (parts m b)) (ends (after m b) s) h))

outside-step : (b : ℕ) (s : Bytes) → eqb b 32 ≡ false → eqb b 34 ≡ false → ends outside s ≡ true → ends outside (b ∷ s) ≡ true
unfolding ends
outside-step b s a q h = rw (a, q, h)

-- a byte of that sort, in a sort that has neither a space nor a quote
sorted-step : (P : ℕ → Bool) → P 32 ≡ false → P 34 ≡ false → (b : ℕ) (s : Bytes) → P b ≡ true → ends outside s ≡ true → ends outside (b ∷ s) ≡ true
sorted-step P x y b s p h = outside-step b s (other_byte P 32 b p x) (other_byte P 34 b p y) h

name-ends : (s : Bytes) → all_name s ≡ true → ends outside s ≡ true
unfolding ends all_name
name-ends [] h = refl
name-ends (b ∷ s) h = sorted-step (λ b. letter b || (digit b || eqb b 95)) refl refl b s (and_left _ (all_name s) h) (name-ends s (and_right (letter b || (digit b || eqb b 95)) (all_name s) h))

nil-ends : (s : Bytes) → nil s ≡ true → ends outside s ≡ true
unfolding ends
nil-ends [] h = refl
nil-ends (b ∷ s) h = absurd (false≢true h)

iri-ends : (s : Bytes) → iri_rest s ≡ true → ends outside s ≡ true
unfolding iri_rest
iri-ends [] h = absurd (false≢true h)
iri-ends (b ∷ s) h = go (eqb b 62) refl h (iri-ends s)
  where
    go : (c : Bool) → eqb b 62 ≡ c → cond c (nil s) (iri_byte b && iri_rest s) ≡ true → (iri_rest s ≡ true → ends outside s ≡ true) → ends outside (b ∷ s) ≡ true
    go true e h more = sorted-step (λ b. eqb b 62) refl refl b s e (nil-ends s h)
    go false e h more = sorted-step iri_byte refl refl b s (and_left (iri_byte b) (iri_rest s) h) (more (and_right (iri_byte b) (iri_rest s) h))

iriref-ends : (s : Bytes) → is_iriref s ≡ true → ends outside s ≡ true
unfolding is_iriref
iriref-ends [] h = absurd (false≢true h)
iriref-ends (b ∷ s) h = sorted-step (λ b. eqb b 60) refl refl b s (and_left (eqb b 60) _ h) (iri-ends s (and_left (iri_rest s) _ (and_right (eqb b 60) _ h)))

tag-ends : (more first : Bool) (s : Bytes) → is_tag more first s ≡ true → ends outside s ≡ true
unfolding is_tag ends
tag-ends more first [] h = refl
tag-ends more first (b ∷ s) h = go first (eqb b 45) refl h (tag-ends false false s) (tag-ends true first s)
  where
    go : (first c : Bool) → eqb b 45 ≡ c → elim c [ true ↦ more && is_tag false false s | false ↦ (letter b || (not first && digit b)) && is_tag true first s ] ≡ true → (is_tag false false s ≡ true → ends outside s ≡ true) → (is_tag true first s ≡ true → ends outside s ≡ true) → ends outside (b ∷ s) ≡ true
    go first true e h x y = sorted-step (λ b. eqb b 45) refl refl b s e (x (and_right more _ h))
    go true false e h x y = sorted-step (λ b. letter b || (false && digit b)) refl refl b s (and_left _ (is_tag true true s) h) (y (and_right (letter b || (false && digit b)) _ h))
    go false false e h x y = sorted-step (λ b. letter b || (true && digit b)) refl refl b s (and_left _ (is_tag true false s) h) (y (and_right (letter b || (true && digit b)) _ h))

caret-ends : (s : Bytes) → is_caret s ≡ true → ends outside s ≡ true
caret-ends [] h = absurd (false≢true h)
caret-ends (b ∷ s) h = sorted-step (λ b. eqb b 94) refl refl b s (and_left (eqb b 94) (is_iriref s) h) (iriref-ends s (and_right (eqb b 94) (is_iriref s) h))

suffix-ends : (s : Bytes) → is_suffix s ≡ true → ends outside s ≡ true
unfolding is_suffix ends
suffix-ends [] h = refl
suffix-ends (b ∷ s) h = go (eqb b 64) refl h
  where
    go : (c : Bool) → eqb b 64 ≡ c → cond c (is_tag false true s) (eqb b 94 && is_caret s) ≡ true → ends outside (b ∷ s) ≡ true
    go true e h = sorted-step (λ b. eqb b 64) refl refl b s e (tag-ends false true s h)
    go false e h = sorted-step (λ b. eqb b 94) refl refl b s (and_left (eqb b 94) (is_caret s) h) (caret-ends s (and_right (eqb b 94) (is_caret s) h))

mode : Bool → Mode
mode true = escaped
mode false = quoted

string-ends : (e : Bool) (s : Bytes) → is_string e s ≡ true → ends (mode e) s ≡ true
unfolding is_string ends mode
string-ends true [] h = absurd (false≢true h)
string-ends false [] h = absurd (false≢true h)
string-ends true (b ∷ s) h = string-ends false s (and_right (is_echar b) (is_string false s) h)
string-ends false (b ∷ s) h = go (eqb b 34) (eqb b 92) h (string-ends true s) (string-ends false s)
  where
    go : (c d : Bool) → elim c [ true ↦ is_suffix s | false ↦ elim d [ true ↦ is_string true s | false ↦ not (eqb b 10) && (not (eqb b 13) && is_string false s) ] ] ≡ true → (is_string true s ≡ true → ends escaped s ≡ true) → (is_string false s ≡ true → ends quoted s ≡ true) → ends (cond c outside (cond d escaped quoted)) s ≡ true
    go true d h x y = suffix-ends s h
    go false true h x y = x h
    go false false h x y = y (and_right (not (eqb b 13)) _ (and_right (not (eqb b 10)) _ h))

literal-ends : (s : Bytes) → is_rdf_literal s ≡ true → ends outside s ≡ true
unfolding is_rdf_literal ends mode
literal-ends [] h = absurd (false≢true h)
literal-ends (b ∷ s) h = let e = and_left (eqb b 34) _ h in rw (other_byte (λ b. eqb b 34) 32 b e refl, e) (string-ends false s (and_left (is_string false s) _ (and_right (eqb b 34) _ h)))

-- ---- integers

given-cond : (c : Bool) (x : Option ℕ) → given (cond c x none) ≡ true → (c ≡ true) × (given x ≡ true)
given-cond true x h = (refl, h)
given-cond false x h = absurd (false≢true h)

digit-first : (n d : ℕ) (ds : Bytes) → given (digits_of n (d ∷ ds)) ≡ true → (digit d ≡ true) × (given (digits_of (n * 10 + (d - 48)) ds) ≡ true)
unfolding digits_of
digit-first n d ds h =
    let x = given-cond (leb 48 d && (leb d 57 && leb (n * 10 + (d - 48)) most)) _ h in
    (and_both (leb 48 d) (leb d 57) (and_left (leb 48 d) _ x.0) (and_left (leb d 57) _ (and_right (leb 48 d) _ x.0)), x.1)

digits-ends : (n : ℕ) (ds : Bytes) → given (digits_of n ds) ≡ true → ends outside ds ≡ true
unfolding ends
digits-ends n [] h = refl
digits-ends n (d ∷ ds) h = let x = digit-first n d ds h in sorted-step digit refl refl d ds x.0 (digits-ends (n * 10 + (d - 48)) ds x.1)

number_digits : (f : Bytes) → given (number_of f) ≡ true → given (digits_of 0 f) ≡ true
unfolding number_of
number_digits [] h = absurd (false≢true h)
number_digits (d ∷ []) h = h
number_digits (d ∷ e ∷ ds) h = go (eqb d 48) h
  where
    go : (c : Bool) → given (cond c none (digits_of 0 (d ∷ e ∷ ds))) ≡ true → given (digits_of 0 (d ∷ e ∷ ds)) ≡ true
    go true h = absurd (false≢true h)
    go false h = h

-- ---- one token

abbrev pub good : Token → Bool
good (key k) = true
good (var f) = is_var1 f
good (iri f) = is_iriref f
good (literal f) = is_rdf_literal f
good (integer f) = given (number_of f)

var-ends : (f : Bytes) → is_var1 f ≡ true → ends outside f ≡ true
unfolding is_var1
var-ends [] h = absurd (false≢true h)
var-ends (b ∷ s) h = sorted-step (λ b. eqb b 63) refl refl b s (and_left (eqb b 63) _ h) (name-ends s (and_right (not (nil s)) _ (and_right (eqb b 63) _ h)))

key-ends : (k : Keyword) → ends outside (spell_k k) ≡ true
unfolding ends
key-ends SELECT = refl
key-ends DISTINCT = refl
key-ends REDUCED = refl
key-ends WHERE = refl
key-ends ORDER = refl
key-ends BY = refl
key-ends LIMIT = refl
key-ends OFFSET = refl
key-ends OPTIONAL = refl
key-ends FILTER = refl
key-ends UNION = refl
key-ends GRAPH = refl
key-ends MINUS = refl
key-ends BIND = refl
key-ends AS = refl
key-ends VALUES = refl
key-ends UNDEF = refl
key-ends BOUND = refl
key-ends SAMETERM = refl
key-ends EXISTS = refl
key-ends OPEN = refl
key-ends CLOSE = refl
key-ends LEFT = refl
key-ends RIGHT = refl
key-ends DOT = refl
key-ends COMMA = refl
key-ends BANG = refl
key-ends EQUALS = refl
key-ends BOTH = refl
key-ends EITHER = refl
key-ends (SORT ASC) = refl
key-ends (SORT DESC) = refl

token-ends : (t : Token) → good t ≡ true → ends outside (written t) ≡ true
token-ends (key k) h = key-ends k
token-ends (var f) h = var-ends f h
token-ends (iri f) h = iriref-ends f h
token-ends (literal f) h = literal-ends f h
token-ends (integer f) h = digits-ends 0 f (number_digits f h)

-- a first byte decides between variables, IRIs and literals
no-var : (P : ℕ → Bool) → P 63 ≡ false → (b : ℕ) (s : Bytes) → P b ≡ true → is_var1 (b ∷ s) ≡ false
unfolding is_var1
no-var P e b s h = rw (other_byte P 63 b h e)

no-iri : (P : ℕ → Bool) → P 60 ≡ false → (b : ℕ) (s : Bytes) → P b ≡ true → is_iriref (b ∷ s) ≡ false
unfolding is_iriref
no-iri P e b s h = rw (other_byte P 60 b h e)

no-literal : (P : ℕ → Bool) → P 34 ≡ false → (b : ℕ) (s : Bytes) → P b ≡ true → is_rdf_literal (b ∷ s) ≡ false
unfolding is_rdf_literal
no-literal P e b s h = rw (other_byte P 34 b h e)

key-token : (k : Keyword) → token (spell_k k) ≡ some (key k)
unfolding token is_var1 is_iriref is_rdf_literal number_of digits_of spelled same
key-token SELECT = refl
key-token DISTINCT = refl
key-token REDUCED = refl
key-token WHERE = refl
key-token ORDER = refl
key-token BY = refl
key-token LIMIT = refl
key-token OFFSET = refl
key-token OPTIONAL = refl
key-token FILTER = refl
key-token UNION = refl
key-token GRAPH = refl
key-token MINUS = refl
key-token BIND = refl
key-token AS = refl
key-token VALUES = refl
key-token UNDEF = refl
key-token BOUND = refl
key-token SAMETERM = refl
key-token EXISTS = refl
key-token OPEN = refl
key-token CLOSE = refl
key-token LEFT = refl
key-token RIGHT = refl
key-token DOT = refl
key-token COMMA = refl
key-token BANG = refl
key-token EQUALS = refl
key-token BOTH = refl
key-token EITHER = refl
key-token (SORT ASC) = refl
key-token (SORT DESC) = refl

iri-token : (f : Bytes) → is_iriref f ≡ true → token f ≡ some (iri f)
unfolding token is_iriref
iri-token [] h = absurd (false≢true h)
iri-token (b ∷ s) h = rw (no-var (λ b. eqb b 60) refl b s (and_left (eqb b 60) _ h), h)

literal-token : (f : Bytes) → is_rdf_literal f ≡ true → token f ≡ some (literal f)
unfolding token is_rdf_literal
literal-token [] h = absurd (false≢true h)
literal-token (b ∷ s) h = let e = and_left (eqb b 34) _ h in rw (no-var (λ b. eqb b 34) refl b s e, no-iri (λ b. eqb b 34) refl b s e, h)

integer-token : (f : Bytes) → given (number_of f) ≡ true → token f ≡ some (integer f)
unfolding token number_of
integer-token [] h = absurd (false≢true h)
integer-token (b ∷ s) h = let e = (digit-first 0 b s (number_digits (b ∷ s) h)).0 in rw (no-var digit refl b s e, no-iri digit refl b s e, no-literal digit refl b s e, h)

token_back : (t : Token) → good t ≡ true → token (written t) ≡ some t
unfolding token
token_back (key k) h = key-token k
token_back (var f) h = rw h
token_back (iri f) h = iri-token f h
token_back (literal f) h = literal-token f h
token_back (integer f) h = integer-token f h

-- ---- a text

unfoldable pub all_good : List Token → Bool
all_good [] = true
all_good (t ∷ ts) = good t && all_good ts

more-tokens : (f : Bytes) (fs : List Bytes) (t : Token) (ts : List Token) → token f ≡ some t → tokens fs ≡ some ts → tokens (f ∷ fs) ≡ some (t ∷ ts)
unfolding tokens
more-tokens f [] t ts a b = let z : ◌≡◌ {A = ℕ} 0 1 = cc in absurd (omega arith)
more-tokens f (g ∷ fs) t ts a b = rw (a, b)

pub lex-back : (ts : List Token) → all_good ts ≡ true → lex (text ts) ≡ some ts
unfolding lex text all_good pieces tokens
lex-back [] h = refl
lex-back (t ∷ ts) h =
    ap tokens (piece_back outside (written t) (text ts) (token-ends t (and_left (good t) (all_good ts) h))) ∙ more-tokens (written t) (pieces outside (text ts)) t ts (token_back t (and_left (good t) (all_good ts) h)) (lex-back ts (and_right (good t) (all_good ts) h))
