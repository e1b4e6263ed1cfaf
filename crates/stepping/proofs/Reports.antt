-- The ways of a report's input: by how many texts it has, then by what their checks say. Assumes nothing.
use Prim.Native.Nat.{ℕ, zero, suc, ◌+◌, ◌-◌, ◌*◌, ◌%◌, ◌≤◌, ◌<◌}
use mathlib.Core.Path.{◌≡◌, refl, sym, ap, ap₂, subst, ◌∙◌}
use mathlib.Core.Bool.{Bool, true, false, not}
use mathlib.Core.List.{List, [], ◌∷◌}
use native.Mathlib.Omega.{arith}
use lib.ListN.{length, get_or}
use lib.Dec.{leb}
use borrow.Author.Tests.{le-leb, lt-leb}
use Rattle.text.specs.Text.{Bytes}
use Rattle.parted.specs.Parted.{texts}
use Rattle.parted.specs.bridge.Code.{Parted}
use Rattle.parted.proofs.Parts.{parted-same}
use Rattle.algebra.specs.Reader.{reads}
use Rattle.algebra.proofs.Given.{query-given}
use Rattle.answers.specs.Outcome.{Answer, Outcome, refused, refused_unless, Reported, Answered}
use Rattle.answers.proofs.Answers.{answered}
use Rattle.merging.specs.Push.{push_constants_outcome}
use Rattle.reporting.specs.Steps.{StepsRead}
use Rattle.reporting.specs.Report.{StepTexts, merge_steps, line_count, step_by_step, report_texts, report_outcome}
use Rattle.reporting.specs.bridge.Turns.{step_at, steps_from, merged_in_turn}
use Rattle.reporting.proofs.Steps.{steps-in, not_in, steps-good}
use Rattle.reporting.proofs.Calls.{steps-in-turn}
use Rattle.stepping.specs.bridge.Checks.{Kept, Told, TextsChecked}
use Rattle.stepping.proofs.Checks.{first_of}
use Rattle.std.specs.Prelude.{Ok, Err}
use Rattle.algebra.specs.declared.Fault.TheVariants.{Malformed, OverBound}
use Rattle.answers.specs.declared.Refusal.TheVariants.{Malformed, ManyLines, OverBound}

-- the ends of all texts are kept
pub all-kept : (s : Bytes) (ends : List ℕ) (m n : ℕ) → length ends ≡ m → n < m → Parted s ends m n → Kept s ends n
all-kept s ends m n l h p = record { few = omega arith; parted = parted-same s ends m (length ends) n (sym l) p }

-- ---- how many texts

one-text : (ts : List Bytes) → length ts ≡ 1 → report_texts ts ≡ refused 1
unfolding report_texts
one-text [] h = absurd (omega arith)
one-text (t ∷ []) h = refl
one-text (t ∷ u ∷ ts) h = absurd (omega arith)

two-texts : (ts : List Bytes) → length ts ≡ 2 → report_texts ts ≡ push_constants_outcome (get_or ts 0 []) (get_or ts 1 [])
unfolding report_texts
two-texts [] h = absurd (omega arith)
two-texts (t ∷ []) h = absurd (omega arith)
two-texts (t ∷ u ∷ []) h = refl
two-texts (t ∷ u ∷ v ∷ ts) h = absurd (omega arith)

many-texts : (ts : List Bytes) → 29 < length ts → report_texts ts ≡ refused 2
unfolding report_texts
many-texts [] h = absurd (omega arith)
many-texts (t ∷ []) h = absurd (omega arith)
many-texts (t ∷ u ∷ []) h = absurd (omega arith)
many-texts (t ∷ u ∷ v ∷ ts) h = rw (lt-leb (length (t ∷ u ∷ v ∷ ts)) 29 h)

uneven-texts : (ts : List Bytes) (n : ℕ) → length ts ≡ n + 1 → 1 < n → n ≤ 28 → (n % 4 ≡ 0 → ⊥) → report_texts ts ≡ refused 1
unfolding report_texts
uneven-texts [] n h a b z = absurd (omega arith)
uneven-texts (t ∷ []) n h a b z = absurd (omega arith)
uneven-texts (t ∷ u ∷ []) n h a b z = absurd (omega arith)
uneven-texts (t ∷ u ∷ v ∷ ts) n h a b z =
    let q : length (u ∷ v ∷ ts) ≡ n = omega arith in
    rw (le-leb (length (t ∷ u ∷ v ∷ ts)) 29 (omega arith), not_in (u ∷ v ∷ ts) (λ e. z (ap (λ (x : ℕ). x % 4) (sym q) ∙ e)))

even-texts : (ts : List Bytes) (n m : ℕ) → length ts ≡ n + 1 → n ≤ 28 → n ≡ 4 * m → 1 ≤ m → report_texts ts ≡ step_by_step (line_count ts) (get_or ts 0 []) (steps_from ts 1 m)
unfolding report_texts
even-texts [] n m h a e z = absurd (omega arith)
even-texts (t ∷ []) n m h a e z = absurd (omega arith)
even-texts (t ∷ u ∷ []) n m h a e z = absurd (omega arith)
even-texts (t ∷ u ∷ v ∷ ts) n m h a e z =
    rw (le-leb (length (t ∷ u ∷ v ∷ ts)) 29 (omega arith), steps-in (t ∷ u ∷ v ∷ ts) m 1 (omega arith))

module _ (s out : Bytes) (n : ℕ) (many : length (texts s) ≡ n + 1) where
  pub report-one : n ≡ 0 → Answered (report_outcome s) out out (Err Malformed)
  unfolding report_outcome Reported
  report-one z = rw (one-text (texts s) (omega arith)) (refl, refl, refl)

  pub report-two : (a b after : Bytes) (r : Answer) → n ≡ 1 → a ≡ get_or (texts s) 0 [] → b ≡ get_or (texts s) 1 [] → Answered (push_constants_outcome a b) out after r → Answered (report_outcome s) out after r
  unfolding report_outcome
  report-two a b after r z e f h = answered (push_constants_outcome a b) (report_texts (texts s)) out after r (two-texts (texts s) (omega arith) ∙ ap₂ push_constants_outcome (sym e) (sym f)) h

  pub report-many : 28 < n → Answered (report_outcome s) out out (Err OverBound)
  unfolding report_outcome Reported
  report-many z = rw (many-texts (texts s) (omega arith)) (refl, refl, refl)

  pub report-uneven : (n ≡ 0 → ⊥) → (n ≡ 1 → ⊥) → n ≤ 28 → (n % 4 ≡ 0 → ⊥) → Answered (report_outcome s) out out (Err Malformed)
  unfolding report_outcome Reported
  report-uneven a b c z = rw (uneven-texts (texts s) n many (more n a b) c z) (refl, refl, refl)
    where
      more : (k : ℕ) → (k ≡ 0 → ⊥) → (k ≡ 1 → ⊥) → 1 < k
      more zero a b = absurd (a refl)
      more (suc zero) a b = absurd (b refl)
      more (suc (suc k)) a b = omega arith

  pub report-even : (m : ℕ) (after : Bytes) (r : Answer) → n ≤ 28 → n ≡ 4 * m → 1 ≤ m → Answered (step_by_step (line_count (texts s)) (get_or (texts s) 0 []) (steps_from (texts s) 1 m)) out after r → Answered (report_outcome s) out after r
  unfolding report_outcome
  report-even m after r a e z h = answered (step_by_step (line_count (texts s)) (get_or (texts s) 0 []) (steps_from (texts s) 1 m)) (report_texts (texts s)) out after r (even-texts (texts s) n m many a e z) h

-- ---- their checks

module _ (first : Bytes) (ts : List StepTexts) (r : Told) (c : TextsChecked first ts r) (count : ℕ) (out : Bytes) where
  pub checked-malformed : r ≡ (Err Malformed) → Answered (step_by_step count first ts) out out (Err Malformed)
  unfolding TextsChecked Reported
  checked-malformed e = rw (subst (TextsChecked first ts) e c count) (refl, refl, refl)

  pub checked-over : r ≡ (Err OverBound) → Answered (step_by_step count first ts) out out (Err OverBound)
  unfolding TextsChecked Reported
  checked-over e = rw (subst (TextsChecked first ts) e c count) (refl, refl, refl)

module _ (ts : List Bytes) (m : ℕ) (n : Unit {0}) (r : Told) (c : TextsChecked (get_or ts 0 []) (steps_from ts 1 m) r) (good : r ≡ Ok n) where
  -- the first query's text is short enough for a buffer
  pub first_short : length (get_or ts 0 []) ≤ 16384
  unfolding TextsChecked
  first_short = let x = (subst (TextsChecked (get_or ts 0 []) (steps_from ts 1 m)) good c).0 in (query-given (get_or ts 0 []) x.0 x.1).bytes

  pub checked-good : (count : ℕ) (out after : Bytes) (a : Answer) → 1 ≤ m → Answered (refused_unless 8 (leb count 8192) (merged_in_turn (get_or ts 0 []) (steps_from ts 1 m))) out after a → Answered (step_by_step count (get_or ts 0 []) (steps_from ts 1 m)) out after a
  unfolding TextsChecked step_by_step
  checked-good count out after a some h =
      let x = subst (TextsChecked (get_or ts 0 []) (steps_from ts 1 m)) good c in
      let f = x.0.1 in
      let ss = x.1.0 in
      let t = first_of ts 1 m (omega arith) in
      let turn : merge_steps (reads x.0.0) ss ≡ merged_in_turn (get_or ts 0 []) (steps_from ts 1 m) =
      ap (λ o. merge_steps o ss) (sym f) ∙ steps-in-turn (get_or ts 0 []) (step_at ts 1) (steps_from ts (1 + 4) (m - 1)) ss (subst (λ (xs : List StepTexts). StepsRead xs ss) t x.1.1) ∙ ap (merged_in_turn (get_or ts 0 [])) (sym t) in
      answered _ (step_by_step count (get_or ts 0 []) (steps_from ts 1 m)) out after a (rw f (steps-good (steps_from ts 1 m) ss x.1.1 (λ steps. refused_unless 8 (leb count 8192) (merge_steps (reads x.0.0) steps)) ∙ ap (refused_unless 8 (leb count 8192)) turn)) h

-- ---- their lines

module _ (ts : List Bytes) (m : ℕ) (many : Bool) (is : not many ≡ leb (line_count ts) 8192) (out : Bytes) where
  abbrev turn : Outcome
  turn = merged_in_turn (get_or ts 0 []) (steps_from ts 1 m)

  pub counted-many : many ≡ true → Answered (refused_unless 8 (leb (line_count ts) 8192) turn) out out (Err ManyLines)
  unfolding Reported
  counted-many e = rw (sym is, e) (refl, refl, refl)

  pub counted-few : many ≡ false → (after : Bytes) (a : Answer) → Answered turn out after a → Answered (refused_unless 8 (leb (line_count ts) 8192) turn) out after a
  counted-few e after a h = rw (sym is, e) h
