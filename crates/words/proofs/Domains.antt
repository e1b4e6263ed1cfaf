-- The constants of the code for the domains of values are those of the specification: each side is a closed list, and antt computes both. Assumes nothing.
use mathlib.Core.Path.{◌≡◌, refl, ◌∙◌, sym, ap}
use mathlib.Core.Bool.{Bool, true, false}
use mathlib.Core.List.{List, [], ◌∷◌, map}
use mathlib.Core.Option.{Option, none, some}
use Prim.Native.Nat.{ℕ, zero, suc, ◌+◌, ◌≤◌, ◌<◌, zero-le}
use native.Mathlib.Numerals.{add-one}
use native.Mathlib.Omega.{arith}
use lib.ListN.{length, get_or, drop, drop_of_length-le, get_or-map}
use lib.Seq.{drop-cons}
use Rattle.text.specs.Text.{Bytes, same}
use Rattle.text.specs.Word.{spelled}
use Rattle.text.specs.Field.{Kind}
use Rattle.algebra.specs.Query.{PlainString, extra_kind}
use Rattle.algebra.specs.Word.{spell_v, domains}
use Rattle.words.specs.bridge.Code.{mapped, extra_found, extras, domain_at}
use Rattle.words.proofs.ByKey.{Past, past}

-- within a list it does not matter what stands past its end
any-default : {A : Type 0} (l : List A) (i : ℕ) (d d' : A) → i < length l → get_or l i d ≡ get_or l i d'
any-default [] i d d' h = absurd (omega arith)
any-default (x ∷ l) zero d d' h = refl
any-default (x ∷ l) (suc i) d d' h = any-default l i d d' (omega arith)

-- the arms of the code, by number
pub at-domain : (f : Bytes) (i k : ℕ) (r : Bool) → i ≡ k → r ≡ same f (domain_at k) → r ≡ same f (domain_at i)
at-domain f i k r e p = p ∙ ap (λ (j : ℕ). same f (domain_at j)) (sym e)

pub at-extra : (i k : ℕ) → i ≡ k → get_or extras k 0 ≡ get_or extras i 0
at-extra i k e = ap (λ (j : ℕ). get_or extras j 0) (sym e)

pub last-domain : (i : ℕ) (B : Type 0) → i < 16 → Past i 0 15 B → i ≡ 15
last-domain i B h r = let l : 0 + 15 ≤ i = past i 0 15 B zero-le r in omega arith

-- ---- the search for a domain

abbrev pub later : ℕ → Bytes → Option Kind
later i f = mapped extra_kind (spelled spell_v (drop i domains) f)

module _ (f : Bytes) (i : ℕ) (b : Bool) (h : i < 16) (p : b ≡ same f (domain_at i)) where
  spells : same f (spell_v (get_or domains i PlainString)) ≡ b
  spells = ap (same f) (sym (get_or-map spell_v domains i PlainString) ∙ any-default (map spell_v domains) i (spell_v PlainString) [] h) ∙ sym p

  -- the extras of the code are those of the domains
  extra-right : extra_found (get_or extras i 0) ≡ some (extra_kind (get_or domains i PlainString))
  extra-right = sym (get_or-map extra_found extras i 0) ∙ (any-default (map extra_found extras) i none (some (extra_kind PlainString)) h ∙ get_or-map (λ d. some (extra_kind d)) domains i PlainString)

  pub extra-hit : (r : ℕ) → b ≡ true → r ≡ get_or extras i 0 → extra_found r ≡ later i f
  unfolding spelled
  extra-hit r t q = ap extra_found q ∙ (extra-right ∙ rw (drop-cons domains i PlainString h, spells ∙ t))

  pub extra-miss : b ≡ false → later i f ≡ later (i + 1) f
  unfolding spelled
  extra-miss t = rw (add-one, drop-cons domains i PlainString h, spells ∙ t)

pub extra-none : (f : Bytes) (i : ℕ) → 16 ≤ i → later i f ≡ none
unfolding spelled
extra-none f i h = rw (drop_of_length-le domains h)
