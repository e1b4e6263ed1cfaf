-- The term that a value becomes takes no more bytes than the value's three fields. Assumes nothing.
use Prim.Native.Nat.{ℕ, suc, ◌+◌, ◌≤◌}
use mathlib.Core.Path.{◌≡◌}
use mathlib.Core.List.{[], ◌∷◌, ◌++◌}
use native.Mathlib.Omega.{arith}
use lib.ListN.{length, length-append}
use Rattle.text.specs.Text.{Bytes}
use Rattle.algebra.specs.Query.{Domain, PlainString, LanguageTaggedString, Iri, Float, Double, UnsignedLong, NonNegativeLong, UnsignedInt, NonNegativeInt, Long, Int, Boolean, Null, Tuple, Map, Other}
use Rattle.algebra.specs.Word.{spell_v}
use Rattle.filtering.specs.Values.{typed, ground_term, expression_term}
use Rattle.filtering.specs.Bindings.{or_none}
use Rattle.walking.proofs.Sizes.{width}

quoted-length : (l after : Bytes) → length (34 ∷ (l ++ (34 ∷ after))) ≡ length l + length after + 2
quoted-length l after = omega (arith, length-append l (34 ∷ after))

-- a literal with a datatype, behind a domain of three letters or more
typed-short : (l x : Bytes) (d : ℕ) → 3 ≤ d → suc (length (typed l x)) ≤ suc d + (suc (length l) + (suc (length x) + 0))
typed-short l x d h = omega (arith, quoted-length l (94 ∷ 94 ∷ x))

pub cell-short : (d : Domain) (l x : Bytes) → suc (length (or_none (ground_term d l x))) ≤ width (spell_v d ∷ l ∷ x ∷ [])
unfolding ground_term width
cell-short PlainString l x = omega (arith, quoted-length l [])
cell-short LanguageTaggedString l x = omega (arith, quoted-length l (64 ∷ x))
cell-short Iri l x = omega (arith, length-append l (62 ∷ []))
cell-short Float l x = typed-short l x 5 (omega arith)
cell-short Double l x = typed-short l x 6 (omega arith)
cell-short UnsignedLong l x = typed-short l x 12 (omega arith)
cell-short NonNegativeLong l x = typed-short l x 15 (omega arith)
cell-short UnsignedInt l x = typed-short l x 11 (omega arith)
cell-short NonNegativeInt l x = typed-short l x 14 (omega arith)
cell-short Long l x = typed-short l x 4 (omega arith)
cell-short Int l x = typed-short l x 3 (omega arith)
cell-short Boolean l x = typed-short l x 7 (omega arith)
cell-short Null l x = omega arith
cell-short Tuple l x = omega arith
cell-short Map l x = omega arith
cell-short Other l x = typed-short l x 5 (omega arith)

-- the same of the term of an expression
pub term-short : (d : Domain) (l x : Bytes) → suc (length (or_none (expression_term d l x))) ≤ width (spell_v d ∷ l ∷ x ∷ [])
unfolding expression_term width
term-short PlainString l x = omega (arith, quoted-length l [])
term-short LanguageTaggedString l x = omega (arith, quoted-length l (64 ∷ x))
term-short Iri l x = omega (arith, length-append l (62 ∷ []))
term-short Float l x = typed-short l x 5 (omega arith)
term-short Double l x = typed-short l x 6 (omega arith)
term-short UnsignedLong l x = typed-short l x 12 (omega arith)
term-short NonNegativeLong l x = typed-short l x 15 (omega arith)
term-short UnsignedInt l x = typed-short l x 11 (omega arith)
term-short NonNegativeInt l x = typed-short l x 14 (omega arith)
term-short Long l x = typed-short l x 4 (omega arith)
term-short Int l x = typed-short l x 3 (omega arith)
term-short Boolean l x = typed-short l x 7 (omega arith)
term-short Null l x = omega arith
term-short Tuple l x = omega arith
term-short Map l x = omega arith
term-short Other l x = omega arith
