-- Readers over tokens, put together one behind the other, and the readers of one token. Assumes nothing.
use Rattle.std.specs.Prelude.{ℕ, List, [], ◌∷◌, Bool, true, false, cond, ◌&&◌, eqb, length}
use Rattle.std.proofs.Math.Option.{Option, none, some}
use Rattle.text.specs.Text.{Bytes, same}
use Rattle.text.specs.Word.{bytes}
use Rattle.editions.specs.Token.{Edition, sparql10, sparql11, Keyword, UNDEF, spell_k, Token, key, var, iri, literal, integer}

infixl 20 ◌>>=◌
infixl 20 ◌>>◌
-- ---- readers

-- what was read, and the tokens behind it; or nothing
pub data Got (A : Type 0) : Type 0 where
  got : A → List Token → Got A
  refused : Got A

abbrev pub Reader : Type 0 → Type 0
Reader A = List Token → Got A

abbrev pub next : {A B : Type 0} → Got A → (A → Reader B) → Got B
next (got a ts) k = k a ts
next refused k = refused

abbrev pub ◌>>=◌ : {A B : Type 0} → Reader A → (A → Reader B) → Reader B
◌>>=◌ r k ts = next (r ts) k

abbrev pub ◌>>◌ : {A B : Type 0} → Reader A → Reader B → Reader B
◌>>◌ r k ts = next (r ts) (λ a. k)

abbrev pub return : {A : Type 0} → A → Reader A
return a ts = got a ts

abbrev pub refuse : {A : Type 0} → Reader A
refuse ts = refused

abbrev pub or_refuse : {A : Type 0} → Option A → Reader A
or_refuse none ts = refused
or_refuse (some a) ts = got a ts

abbrev pub check : Bool → Reader (Unit {0})
check true ts = got tt ts
check false ts = refused

-- only in SPARQL 1.1
abbrev pub since11 : {A : Type 0} → Edition → Reader A → Reader A
since11 sparql10 r ts = refused
since11 sparql11 r ts = r ts

-- ---- one token

abbrev pub is_key : Keyword → Token → Bool
is_key k (key j) = same (spell_k k) (spell_k j)
is_key k (var f) = false
is_key k (iri f) = false
is_key k (literal f) = false
is_key k (integer f) = false

abbrev choose : {A : Type 0} → Bool → Reader A → Reader A → Token → Reader A
choose true a b t ts = a ts
choose false a b t ts = b (t ∷ ts)

-- if the next token is that keyword, it is passed and the first goes on; if not, the second
unfoldable pub at : {A : Type 0} → Keyword → Reader A → Reader A → Reader A
at k a b [] = b []
at k a b (t ∷ ts) = choose (is_key k t) a b t ts

abbrev pub expect : Keyword → Reader (Unit {0})
expect k = at k (return tt) refuse

-- Var [108, 44]
abbrev pub var_of : Token → Option Bytes
var_of (key k) = none
var_of (var f) = some f
var_of (iri f) = none
var_of (literal f) = none
var_of (integer f) = none

-- VarOrIri [107, 43]; a verb is one [78, 37]: a path [88] that is one IRI is that IRI, section 18.2.2.4
abbrev pub name_of : Token → Option Bytes
name_of (key k) = none
name_of (var f) = some f
name_of (iri f) = some f
name_of (literal f) = none
name_of (integer f) = none

-- VarOrTerm [106, 42] without numbers, truth values, blank nodes and NIL
abbrev pub node_of : Token → Option Bytes
node_of (key k) = none
node_of (var f) = some f
node_of (iri f) = some f
node_of (literal f) = some f
node_of (integer f) = none

-- DataBlockValue [65] without numbers and truth values; UNDEF is written -
abbrev pub cell_of : Token → Option Bytes
cell_of (key k) = cond (is_key UNDEF (key k)) (some (bytes "-")) none
cell_of (var f) = none
cell_of (iri f) = some f
cell_of (literal f) = some f
cell_of (integer f) = none

abbrev pub integer_of : Token → Option Bytes
integer_of (key k) = none
integer_of (var f) = none
integer_of (iri f) = none
integer_of (literal f) = none
integer_of (integer f) = some f

abbrev pick : {A : Type 0} → Option Bytes → (Bytes → Reader A) → Reader A → Token → Reader A
pick none a b t ts = b (t ∷ ts)
pick (some f) a b t ts = a f ts

-- if the next token is of that sort, it is passed and the first goes on; if not, the second
unfoldable pub sort : {A : Type 0} → (Token → Option Bytes) → (Bytes → Reader A) → Reader A → Reader A
sort g a b [] = b []
sort g a b (t ∷ ts) = pick (g t) a b t ts

abbrev pub one : (Token → Option Bytes) → Reader Bytes
one g = sort g return refuse

abbrev onto : Bytes → Got (List Bytes) → Got (List Bytes)
onto f (got fs ts) = got (f ∷ fs) ts
onto f refused = refused

abbrev grab : Option Bytes → Got (List Bytes) → Token → List Token → Got (List Bytes)
grab none g t ts = got [] (t ∷ ts)
grab (some f) g t ts = onto f g

-- as many of that sort as there are
unfoldable pub all : (Token → Option Bytes) → Reader (List Bytes)
all g [] = got [] []
all g (t ∷ ts) = grab (g t) (all g ts) t ts

-- ---- tests

abbrev pub nonempty : List Bytes → Bool
nonempty [] = false
nonempty (f ∷ fs) = true

-- each row has so many cells
unfoldable pub wide : ℕ → List (List Bytes) → Bool
wide n [] = true
wide n (r ∷ rs) = eqb (length r) n && wide n rs
