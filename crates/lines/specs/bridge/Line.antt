-- What one line says, field by field, as the code takes it: the line machine's reading of a line without the rest of the text. Assumes nothing.
use Rattle.std.specs.Prelude.{ℕ, zero, suc, List, [], ◌∷◌, ◌++◌, cond, ◌&&◌, length}
use Rattle.std.proofs.Math.Option.{Option, none, some}
use Rattle.text.specs.Text.{Bytes}
use Rattle.text.specs.Field.{variable, lexical, number_of, fits, all_fit}
use Rattle.algebra.specs.Reader.{kept, zero_one}
use Rattle.algebra.specs.bridge.Table.{Slot, term, text, count, choice, Tail, nothing, columns, variables, texts, values, value, Row}
use Rattle.words.specs.bridge.Code.{mapped, extra_of}

-- what comes after, if something was taken
abbrev pub and_then : {A B : Type 0} → Option A → (A → Option B) → Option B
and_then none k = none
and_then (some a) k = k a

-- what a slot takes: the fields behind it, its term if it is counted, and its number
pub record Took : Type 0 where
  pub rest : List Bytes
  pub terms : List Bytes
  pub number : ℕ

abbrev pub took : List Bytes → List Bytes → ℕ → Took
took r t n = record { rest = r; terms = t; number = n }

abbrev pub take_field : Slot → List Bytes → Option Took
take_field σ [] = none
take_field (term κ) (f ∷ fs) = kept (fits κ f) (took fs (f ∷ []) 0)
take_field (text κ) (f ∷ fs) = kept (fits κ f) (took fs [] 0)
take_field count (f ∷ fs) = mapped (λ n. took fs [] n) (number_of f)
take_field choice (f ∷ fs) = mapped (λ b. took fs [] (cond b 1 0)) (zero_one f)

-- what several take: the fields behind them, the terms, and a number for each slot
pub record Fields : Type 0 where
  pub rest : List Bytes
  pub terms : List Bytes
  pub numbers : List ℕ

abbrev pub fields : List Bytes → List Bytes → List ℕ → Fields
fields r t n = record { rest = r; terms = t; numbers = n }

unfoldable pub take_slots : List Slot → List Bytes → Option Fields
take_slots [] l = some (fields l [] [])
take_slots (σ ∷ ss) l = and_then (take_field σ l) (λ t. mapped (λ u. fields u.rest (t.terms ++ u.terms) (t.number ∷ u.numbers)) (take_slots ss t.rest))

-- n fields of one slot
unfoldable pub take_times : ℕ → Slot → List Bytes → Option Fields
take_times zero σ l = some (fields l [] [])
take_times (suc n) σ l = and_then (take_field σ l) (λ t. mapped (λ u. fields u.rest (t.terms ++ u.terms) []) (take_times n σ t.rest))

-- a value's three fields
abbrev pub take_value : List Bytes → Option (List Bytes)
take_value [] = none
take_value (d ∷ []) = none
take_value (d ∷ l ∷ []) = none
take_value (d ∷ l ∷ x ∷ fs) = and_then (extra_of d) (λ k. kept (fits lexical l && fits k x) fs)

unfoldable pub take_values : ℕ → List Bytes → Option Fields
take_values zero l = some (fields l [] [])
take_values (suc n) l = and_then (take_value l) (take_values n)

-- what stands behind the slots
unfoldable pub take_tail : Tail → ℕ → List Bytes → Option Fields
unfolding take_times take_values
take_tail nothing n l = some (fields l [] [])
take_tail columns n l = kept (all_fit variable l) (fields [] l [])
take_tail variables n l = take_times n (term variable) l
take_tail (texts κ) n l = take_times n (text κ) l
take_tail values n l = take_values n l
take_tail value n l = take_values 1 l

-- nothing may be left
abbrev pub whole : Fields → Option Fields
whole u = go u.rest
  where
    go : List Bytes → Option Fields
    go [] = some u
    go (f ∷ fs) = none

-- the fields of a line behind its word, by the word's row and the width that the line above gives
unfoldable pub take_line : Row → ℕ → List Bytes → Option Fields
unfolding take_slots take_tail
take_line r n l =
    and_then (take_slots r.slots l) (λ t.
    and_then (take_tail r.tail n t.rest) (λ u.
    whole (fields u.rest (t.terms ++ u.terms) t.numbers)))

-- the columns of a project's line
abbrev pub columns_of : Tail → List Bytes → ℕ
columns_of nothing l = 0
columns_of columns l = length l
columns_of variables l = 0
columns_of (texts κ) l = 0
columns_of values l = 0
columns_of value l = 0
