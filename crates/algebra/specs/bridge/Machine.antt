-- The check of a text line by line: what lines are still to come, and what each line asks for in turn. It is how the code goes, proved equal to the reader on every text. Assumes nothing.
use Rattle.std.specs.Prelude.{ℕ, zero, suc, ◌+◌, pred, List, [], ◌∷◌, ◌++◌, Bool, true, false, length, replicate, get_or, ltb}
use Rattle.std.proofs.Math.Bool.{cond}
use Rattle.std.proofs.Math.Option.{Option, none, some}
use Rattle.text.specs.Text.{Bytes, Line, lines_of}
use Rattle.text.specs.Field.{Kind, variable}
use Rattle.algebra.specs.Tally.{Limits, Tally, start, noted, headed}
use Rattle.algebra.specs.Reader.{Refusal, malformed, over_bound, refusal_number, Got, got, refused, Reader, next, ◌>>=◌, ◌>>◌, return, one, field, number, zero_one, rest, times, end, close_at}
use Rattle.algebra.specs.ListReading as L
use Rattle.algebra.specs.bridge.Table.{Slot, term, text, count, choice, Tail, nothing, columns, variables, texts, values, value, Sort, Amount, always, given, more, Below, Row, row_for, opens}

-- a line that is to come: its sort, how many levels may still be opened there, and what the line above says of its width
pub record Want : Type 0 where
  pub sort : Sort
  pub level : ℕ
  pub width : ℕ

abbrev pub want : Sort → ℕ → ℕ → Want
want s d n = record { sort = s; level = d; width = n }

-- ---- what a line asks for, by its row of the table, where cs are the numbers in its fields, 0 for a field that counts nothing

abbrev pub amount_of : Amount → List ℕ → ℕ
amount_of (always n) cs = n
amount_of (given i) cs = get_or cs i 0
amount_of (more i n) cs = get_or cs i 0 + n

abbrev pub wants : ℕ → List ℕ → List Below → List Want
wants d cs [] = []
wants d cs (b ∷ []) = replicate (amount_of b.amount cs) (want b.sort d (get_or cs 0 0))
wants d cs (b ∷ c ∷ bs) = replicate (amount_of b.amount cs) (want b.sort d (get_or cs 0 0)) ++ wants d cs (c ∷ bs)

-- ---- reading a line by its row: fs are the terms read, cs the numbers

abbrev pub slots_then : {A : Type 0} → List Slot → List Bytes → List ℕ → (List Bytes → List ℕ → Reader A) → Reader A
slots_then [] fs cs k = k fs cs
slots_then (term κ ∷ ss) fs cs k = do
  f ← field κ
  slots_then ss (fs ++ (f ∷ [])) (cs ++ (0 ∷ [])) k
slots_then (text κ ∷ ss) fs cs k = do
  f ← field κ
  slots_then ss fs (cs ++ (0 ∷ [])) k
slots_then (count ∷ ss) fs cs k = do
  n ← number
  slots_then ss fs (cs ++ (n ∷ [])) k
slots_then (choice ∷ ss) fs cs k = do
  b ← one zero_one
  slots_then ss fs (cs ++ (cond b 1 0 ∷ [])) k

abbrev pub tail_then : {A : Type 0} → Tail → ℕ → List Bytes → ((Tally → Tally) → Reader A) → Reader A
tail_then nothing n fs k = k (noted fs)
tail_then columns n fs k = do
  vs ← rest variable
  k (headed (fs ++ vs))
tail_then variables n fs k = do
  vs ← times n (field variable)
  k (noted (fs ++ vs))
tail_then (texts κ) n fs k = do
  vs ← times n (field κ)
  k (noted fs)
tail_then values n fs k = do
  vs ← times n L.value
  k (noted fs)
tail_then value n fs k = do
  v ← L.value
  k (noted fs)

-- close ends the line, and d levels may be opened under it
abbrev pub line_by : ((Tally → Tally) → Reader (Unit {0})) → ℕ → ℕ → Row → Reader (List Want)
line_by close d n r =
    slots_then r.slots [] [] λ fs cs. tail_then r.tail n fs λ c. do
      close c
      return (wants d cs r.below)

module _ (β : Limits) where
  -- the end of a line of a sort at a level
  abbrev pub closing : Bool → ℕ → (Tally → Tally) → Reader (Unit {0})
  closing true d = close_at β d
  closing false d = end β

  unfoldable pub line_of : Want → Reader (List Want)
  line_of w = do
    r ← one (row_for w.sort)
    line_by (closing (opens w.sort) w.level) (cond (opens w.sort) (pred w.level) w.level) w.width r

-- ---- a text

pub data Check : Type 0 where
  good : Tally → Check
  bad : Refusal → Check

abbrev pub check_number : Check → ℕ
check_number (good m) = 0
check_number (bad n) = refusal_number n

abbrev pub resume : {A : Type 0} → Got A → (A → List Line → Tally → Check) → Check
resume (got a t m) k = k a t m
resume (refused n) k = bad n

-- what may follow where no line is to come: nothing; or n entries of that sort, each with so many levels
pub data More : Type 0 where
  done : More
  entries : ℕ → Sort → ℕ → More

-- the next line that is to come, and what is to come behind it
pub record Demand : Type 0 where
  pub this : Want
  pub behind : List Want
  pub again : More

abbrev pub demand : More → List Want → Option Demand
demand ρ (w ∷ ws) = some (record { this = w; behind = ws; again = ρ })
demand done [] = none
demand (entries zero s d) [] = some (record { this = want s 0 0; behind = []; again = entries zero s d })
demand (entries (suc n) s d) [] = some (record { this = want s d 0; behind = []; again = entries n s d })

abbrev pub finish : List Want → Tally → Check
finish [] m = good m
finish (w ∷ ws) m = bad malformed

module _ (β : Limits) where
  abbrev pub turn : Option Demand → (More → List Want → Tally → Check) → Line → Tally → Check
  turn none k l m = bad malformed
  turn (some d) k l m = resume (line_of β d.this (l ∷ []) m) (λ below t m'. k d.again (below ++ d.behind) m')

  -- line by line, each alone, what it asks for put in front; then missing or left-over lines
  unfoldable pub run : List Line → More → List Want → Tally → Check
  run [] ρ ws m = finish ws m
  run (l ∷ ls) ρ ws m = turn (demand ρ ws) (run ls) l m

  unfoldable pub check_text : More → List Want → Bytes → Check
  unfolding lines_of
  check_text ρ ws s = cond (ltb β.bytes (length s)) (bad over_bound) (run (lines_of s) ρ ws start)
