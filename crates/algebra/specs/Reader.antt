-- Reading lines top to bottom, or the first refusal: 1 before 2 on a line, and the first bad line decides. docs/SPECIFICATION.md, "Numbers". Assumes nothing.
use Rattle.std.specs.Prelude.{ℕ, zero, suc, ◌+◌, List, [], ◌∷◌, ◌++◌, Bool, true, false, cond, not, ◌&&◌, ltb, length}
use Rattle.std.proofs.Math.Option.{Option, none, some}
use Rattle.text.specs.Text.{Bytes, Line, same, lines_of}
use Rattle.text.specs.Word.{bytes}
use Rattle.text.specs.Field.{number_of, Kind, fits, all_fit}
use Rattle.algebra.specs.Valid.{mem}
use Rattle.algebra.specs.Tally.{Limits, Tally, start, within}

infixl 20 ◌>>=◌
infixl 20 ◌>>◌
-- malformed is number 1, over a bound number 2
pub data Refusal : Type 0 where
  malformed over_bound : Refusal

abbrev pub refusal_number : Refusal → ℕ
refusal_number malformed = 1
refusal_number over_bound = 2

-- a value, the lines that follow it and what is counted so far; or a refusal
pub data Got (A : Type 0) : Type 0 where
  got : A → List Line → Tally → Got A
  refused : Refusal → Got A

-- The first of the lines is the one being read: of it, the fields not yet read.
abbrev pub Reader : Type 0 → Type 0
Reader A = List Line → Tally → Got A

abbrev pub next : {A B : Type 0} → Got A → (A → Reader B) → Got B
next (got a s m) k = k a s m
next (refused n) k = refused n

abbrev pub ◌>>=◌ : {A B : Type 0} → Reader A → (A → Reader B) → Reader B
◌>>=◌ r k s m = next (r s m) k

abbrev pub ◌>>◌ : {A B : Type 0} → Reader A → Reader B → Reader B
◌>>◌ r k s m = next (r s m) (λ a. k)

abbrev pub return : {A : Type 0} → A → Reader A
return a s m = got a s m

abbrev pub refuse : {A : Type 0} → Refusal → Reader A
refuse n s m = refused n

-- ---- fields of one line

abbrev pub or_refuse : {A : Type 0} → Option A → Reader A
or_refuse none s m = refused malformed
or_refuse (some a) s m = got a s m

-- the next field, which the test has to take
unfoldable pub one : {A : Type 0} → (Bytes → Option A) → Reader A
one g [] m = refused malformed
one g ([] ∷ ls) m = refused malformed
one g ((f ∷ fs) ∷ ls) m = or_refuse (g f) (fs ∷ ls) m

unfoldable pub kept : {A : Type 0} → Bool → A → Option A
kept true a = some a
kept false a = none

-- a field of that kind
abbrev pub field : Kind → Reader Bytes
field k = one (λ f. kept (fits k f) f)

-- a field of that kind; where `apart`, one that is not among the names kept so far
abbrev pub fresh_field : Bool → Kind → Reader Bytes
fresh_field apart k s m = one (λ f. kept (fits k f && not (cond apart (mem f m.names) false)) f) s m

abbrev pub number : Reader ℕ
number = one number_of

abbrev pub keyword : Bytes → Reader (Unit {0})
keyword w = one (λ f. kept (same f w) tt)

-- 0 or 1
abbrev pub zero_one : Bytes → Option Bool
zero_one f = cond (same f (bytes "0")) (some false) (cond (same f (bytes "1")) (some true) none)

-- all fields that are left
unfoldable pub rest : Kind → Reader (List Bytes)
rest k [] m = refused malformed
rest k (fs ∷ ls) m = or_refuse (kept (all_fit k fs) fs) ([] ∷ ls) m

-- so many
unfoldable pub times : {A : Type 0} → ℕ → Reader A → Reader (List A)
times zero r = return []
times (suc n) r = do
  x ← r
  xs ← times n r
  return (x ∷ xs)

-- ---- the end of a line

-- no field of the line is left: it is counted, and on to the next, unless a bound is passed
unfoldable pub end : Limits → (Tally → Tally) → Reader (Unit {0})
end β c [] m = refused malformed
end β c ([] ∷ ls) m = cond (within β (c m)) (got tt ls (c m)) (refused over_bound)
end β c ((f ∷ fs) ∷ ls) m = refused malformed

-- no field is left, and there may be no such line: too deep, or an entry too many
unfoldable pub too_many : (Tally → Tally) → Reader (Unit {0})
too_many c [] m = refused malformed
too_many c ([] ∷ ls) m = refused over_bound
too_many c ((f ∷ fs) ∷ ls) m = refused malformed

-- where n levels or entries may still be opened
abbrev pub close_at : Limits → ℕ → (Tally → Tally) → Reader (Unit {0})
close_at β zero = too_many
close_at β (suc n) = end β

-- ---- lists

-- no line is left, or on by r
abbrev pub or_end : {A : Type 0} → Reader (List A) → Reader (List A)
or_end r [] m = got [] [] m
or_end r (l ∷ ls) m = r (l ∷ ls) m

-- an entry is read by f; one past the n that may come by g, which refuses it at its first line's end
unfoldable pub several : {A : Type 0} → ℕ → Reader A → Reader A → Reader (List A)
several zero f g = or_end (g >>= λ x. refuse over_bound)
several (suc n) f g =
    or_end (do
      x ← f
      xs ← several n f g
      return (x ∷ xs))

-- ---- texts

-- what a text says, or a refusal
pub data Outcome (A : Type 0) : Type 0 where
  reads : A → Outcome A
  refuses : Refusal → Outcome A

abbrev pub number-of : {A : Type 0} → Outcome A → ℕ
number-of (reads a) = 0
number-of (refuses n) = refusal_number n

-- nothing may be left over
abbrev pub outcome : {A : Type 0} → Got A → Outcome A
outcome (got a [] m) = reads a
outcome (got a (l ∷ ls) m) = refuses malformed
outcome (refused n) = refuses n

-- the whole length, then line by line, then lines that are missing or left over
unfoldable pub read_text : {A : Type 0} → Limits → Reader A → Bytes → Outcome A
unfolding lines_of
read_text β r s = cond (ltb β.bytes (length s)) (refuses over_bound) (outcome (r (lines_of s) start))
