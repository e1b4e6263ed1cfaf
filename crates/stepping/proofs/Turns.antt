-- The steps of a report in turn: one before another, and the last. Assumes nothing.
use Prim.Native.Nat.{ℕ, ◌+◌, ◌-◌, ◌≤◌, ◌<◌}
use mathlib.Core.Path.{◌≡◌, refl, sym, ap, ap₂, subst, ◌∙◌}
use mathlib.Core.List.{List, [], ◌∷◌}
use native.Mathlib.Omega.{arith}
use native.Mathlib.Decide.{dec_le, ℕ_discrete}
use lib.ListN.{length, get_or, take}
use lib.Seq.{length-take-le}
use Rattle.text.specs.Text.{Bytes}
use Rattle.emit.specs.bridge.Emit.{Em, em, puts}
use Rattle.emit.proofs.Laws.{puts-at}
use Rattle.answers.specs.Outcome.{Answer, Outcome, refused, written, number, size, Reported, Answered}
use Rattle.answers.proofs.Answers.{answered, spared}
use Rattle.answers.proofs.Numbered.{returned}
use Rattle.answers.proofs.Both.{refusal-numbered}
use Rattle.merging.specs.Merge.{merge_queries_outcome}
use Rattle.merging.proofs.Numbered.{merge-queries-numbered}
use Rattle.room.specs.Room.{merge_room}
use Rattle.room.proofs.Enough.{Enough}
use Rattle.room.proofs.Merge.{merge-queries-enough}
use Rattle.reporting.specs.Report.{StepTexts}
use Rattle.reporting.specs.bridge.Turns.{step_at, steps_from, onward, merged_step, merged_in_turn}
use Rattle.reporting.proofs.Calls.{long-between}
use Rattle.stepping.specs.bridge.Checks.{Between}
use Rattle.stepping.proofs.Checks.{first_of, none_of}
use Rattle.std.specs.Prelude.{Ok, Err}
use Rattle.std.specs.Result.{MatchResult, IsErrAnd}
use Rattle.std.proofs.lemmas.Result.{err_from_is_err_and}
use Rattle.answers.specs.declared.Refusal.{Refusal}
use Rattle.answers.specs.declared.Refusal.TheVariants.{OverBound, TooShort}
use Rattle.answers.specs.declared.Refusal.TheVariants as R

-- ---- one step

-- a merge of the texts that stand there
pub step-answered : (left q js ks ls : Bytes) (ts : List Bytes) (k : ℕ) (before after : Bytes) (r : Answer) → q ≡ get_or ts k [] → js ≡ get_or ts (k + 1) [] → ks ≡ get_or ts (k + 2) [] → ls ≡ get_or ts (k + 3) []
    → Answered (merge_queries_outcome left q js ks ls) before after r → Answered (merged_step left (step_at ts k)) before after r
unfolding merged_step
step-answered left q js ks ls ts k before after r a b c d h = subst (λ (o : Outcome). Answered o before after r) (λ i. merge_queries_outcome left (a i) (b i) (c i) (d i)) h

-- ---- one before another

made-zero : (left : Bytes) (t : StepTexts) (before after : Bytes) (a : Answer) → Answered (merged_step left t) before after a → number a ≡ 0 → length after ≡ length before → (size a ≤ length after) × (merged_step left t ≡ written (take (size a) after))
unfolding merged_step
made-zero left t before after a h z l =
    let w = returned (merged_step left t) before after (number a) (size a) (merge-queries-numbered left t.query t.joins t.left_constants t.right_constants) h z in
    let r = w.room in
    (omega arith, w.is ∙ ap written (sym w.front))

-- only that of a short buffer is 6
six_short : (f : Refusal) → number (Err f) ≡ 6 → f ≡ TooShort
six_short R.Malformed e = absurd (omega arith)
six_short R.OverBound e = absurd (omega arith)
six_short R.Outside e = absurd (omega arith)
six_short R.NotProject e = absurd (omega arith)
six_short R.NotMergeable e = absurd (omega arith)
six_short R.TooShort e = refl
six_short R.NotUsable e = absurd (omega arith)
six_short R.ManyLines e = absurd (omega arith)
six_short R.ListTooShort e = absurd (omega arith)
six_short R.Repeated e = absurd (omega arith)
six_short R.NoPairs e = absurd (omega arith)
six_short R.Unsayable e = absurd (omega arith)
six_short R.Forbidden e = absurd (omega arith)
six_short R.NotInOrder e = absurd (omega arith)
six_short R.NotCovered e = absurd (omega arith)

-- no merge refuses with 6
never-six : (left : Bytes) (t : StepTexts) → merged_step left t ≡ refused 6 → ⊥
unfolding merged_step Enough
never-six left t e = subst (Enough (merge_room (length left) (length t.query) (length t.left_constants) (length t.right_constants))) e (merge-queries-enough left t.query t.joins t.left_constants t.right_constants) refl

-- a refusal of the step stops all; so does what is too long for a text
stops : (o : Outcome) (before after : Bytes) (n s : ℕ) (k : Bytes → Outcome) → Reported o before after n s → (n ≡ 0 → ⊥) → (n ≡ 6 → ⊥) → (s ≡ 0) × (onward o k ≡ refused n)
unfolding Reported
stops (refused m) before after n s k h z x = (h.1, ap refused (sym h.0))
stops (written b) before after n s k h z x = go (dec_le (length b) (length before))
  where
    go : Dec (length b ≤ length before) → (s ≡ 0) × (k b ≡ refused n)
    go (yes l) = absurd (z (h.0 l).0)
    go (no l) = absurd (x (h.1 (omega arith)).0)

long : (o : Outcome) (before after : Bytes) (n s : ℕ) (k : Bytes → Outcome) → Reported o before after n s → n ≡ 6 → (o ≡ refused 6 → ⊥) → ((b : Bytes) → length before < length b → k b ≡ refused 2) → onward o k ≡ refused 2
unfolding Reported
long (refused m) before after n s k h x z f = absurd (z (ap refused (sym h.0 ∙ x)))
long (written b) before after n s k h x z f = go (dec_le (length b) (length before))
  where
    go : Dec (length b ≤ length before) → k b ≡ refused 2
    go (yes l) = let y = (h.0 l).0 in absurd (omega arith)
    go (no l) = f b (omega arith)

-- the refusal of a buffer too short is told as that of a text too long
abbrev pub Told : Answer → Refusal → Type 0
Told r e = IsErrAnd r (λ f. (e ≡ TooShort → f ≡ OverBound) × ((e ≡ TooShort → ⊥) → f ≡ e))

module _ (left : Bytes) (t : StepTexts) (before after : Bytes) (a : Answer) (h : Answered (merged_step left t) before after a) (room : length before ≡ 16384) (kept : length after ≡ length before) where
  between-long : a ≡ Err TooShort → Between left t after (Err OverBound)
  unfolding merged_in_turn
  between-long x = record {
    made = λ z. absurd (omega arith);
    stopped = λ z. (refl, λ u us. long (merged_step left t) before after (number a) (size a) (λ b. merged_in_turn b (u ∷ us)) h (ap number x) (never-six left t) (λ b l. long-between b u us (omega arith)));
  }

  between-else : (number a ≡ 6 → ⊥) → Between left t after a
  unfolding merged_in_turn
  between-else x = record {
    made = λ z. made-zero left t before after a h z kept;
    stopped = λ z. let w = stops (merged_step left t) before after (number a) (size a) in ((w (λ b. refused 0) h z x).0, λ u us. (w (λ b. merged_in_turn b (u ∷ us)) h z x).1);
  }

  pub between : (r : Answer) → MatchResult a (λ s. r ≡ Ok s) (Told r) → Between left t after r
  between r m = go a refl m
    where
      go : (b : Answer) → a ≡ b → MatchResult b (λ s. r ≡ Ok s) (Told r) → Between left t after r
      go (Ok s) e m = subst (Between left t after) (e ∙ sym m) (between-else (λ x. let y = ap number e in absurd (omega arith)))
      go (Err f) e m = by_case (ℕ_discrete (number (Err f)) 6) (err_from_is_err_and r m)
        where
          by_case : Dec (number (Err f) ≡ 6) → (g : Refusal) × (r ≡ Err g) × ((f ≡ TooShort → g ≡ OverBound) × ((f ≡ TooShort → ⊥) → g ≡ f)) → Between left t after r
          by_case (yes x) (g, i, (over, other)) = let y = six_short f x in subst (Between left t after) (ap Err (sym (over y)) ∙ sym i) (between-long (e ∙ ap Err y))
          by_case (no x) (g, i, (over, other)) = subst (Between left t after) (e ∙ ap Err (sym (other (λ y. x (ap (λ (f : Refusal). number (Err f)) y)))) ∙ sym i) (between-else (λ y. x (sym (ap number e) ∙ y)))

-- what was made is copied
pub between-copied : (left : Bytes) (t : StepTexts) (after : Bytes) (a : Answer) → Between left t after a → (s : ℕ) → a ≡ Ok s → (old new : Bytes) (m : ℕ) → length old ≡ 16384 → length new ≡ length old → length after ≡ 16384 → em m new ≡ puts (take s after) (em 0 old) → Between left t new (Ok s)
between-copied left t after a b s is old new m l k j e =
    let w = (subst (Between left t after) is b).made refl in
    let i = w.0 in
    let q : length (take s after) ≡ s = length-take-le s after (omega arith) in
    let f = ap (λ (x : Em). x.at) e ∙ puts-at (take s after) (em 0 old) (omega arith) in
    let n : m ≡ s = omega arith in
    let front : take m new ≡ take s after = spared (take s after) old new m e (omega arith) (omega arith) in
    record {
      made = λ y. (omega arith, w.1 ∙ ap written (sym (ap (λ (x : ℕ). take x new) (sym n) ∙ front)));
      stopped = λ y. absurd (y refl);
    }

pub between_made : (left : Bytes) (t : StepTexts) (after : Bytes) (a : Answer) → Between left t after a → (s : ℕ) → a ≡ Ok s → s ≤ length after
between_made left t after a b s is = ((subst (Between left t after) is b).made refl).0

pub between-kept : (left : Bytes) (t : StepTexts) (after new : Bytes) (a : Answer) → Between left t after a → (r : Refusal) → a ≡ Err r → Between left t new (Err r)
between-kept left t after new a b r is = record { made = λ y. absurd (refusal-numbered r y); stopped = λ y. (subst (Between left t after) is b).stopped y }

-- ---- the steps in turn

two-of : (ts : List Bytes) (k m : ℕ) → 1 < m → steps_from ts k m ≡ step_at ts k ∷ step_at ts (k + 4) ∷ steps_from ts (k + 4 + 4) (m - 1 - 1)
two-of ts k m h = first_of ts k m (omega arith) ∙ ap (λ (xs : List StepTexts). step_at ts k ∷ xs) (first_of ts (k + 4) (m - 1) (omega arith))

-- what is left does what the whole does
module _ (ts : List Bytes) (k m : ℕ) (left : Bytes) (whole : Outcome) (inv : merged_in_turn left (steps_from ts k m) ≡ whole) where
  module _ (more : 1 < m) (after : Bytes) (a : Answer) (b : Between left (step_at ts k) after a) where
    pub turn-stops : (out : Bytes) (r : Refusal) → a ≡ Err r → Answered whole out out (Err r)
    unfolding Reported
    turn-stops out r is =
        let w = (subst (Between left (step_at ts k) after) is b).stopped (refusal-numbered r) in
        let e : whole ≡ refused (number (Err r)) = sym inv ∙ ap (merged_in_turn left) (two-of ts k m more) ∙ w.1 (step_at ts (k + 4)) (steps_from ts (k + 4 + 4) (m - 1 - 1)) in
        subst (λ (o : Outcome). Answered o out out (Err r)) (sym e) (refl, refl, refl)

    pub turn-next : (s : ℕ) → a ≡ Ok s → (j l : ℕ) → j ≡ k + 4 → l ≡ m - 1 → (s ≤ length after) × (merged_in_turn (take s after) (steps_from ts j l) ≡ whole)
    unfolding merged_in_turn
    turn-next s is j l p q =
        let w = (subst (Between left (step_at ts k) after) is b).made refl in (
          w.0,
          ap (merged_in_turn (take s after)) (ap₂ (steps_from ts) p q ∙ first_of ts (k + 4) (m - 1) (omega arith))
              ∙ sym (ap (merged_in_turn left) (two-of ts k m more) ∙ ap (λ (o : Outcome). onward o (λ c. merged_in_turn c (step_at ts (k + 4) ∷ steps_from ts (k + 4 + 4) (m - 1 - 1)))) w.1)
              ∙ inv,
        )

  pub turn_last : m ≤ 1 → 1 ≤ m → (before after : Bytes) (a : Answer) → Answered (merged_step left (step_at ts k)) before after a → Answered whole before after a
  unfolding merged_in_turn
  turn_last h i before after a x = answered (merged_step left (step_at ts k)) whole before after a (sym inv ∙ ap (merged_in_turn left) (one m h i)) x
    where
      one : (j : ℕ) → j ≤ 1 → 1 ≤ j → steps_from ts k j ≡ step_at ts k ∷ []
      one j h i = first_of ts k j (omega arith) ∙ ap (λ (xs : List StepTexts). step_at ts k ∷ xs) (none_of ts (k + 4) (j - 1) (omega arith))

-- ---- the first query in the buffer

pub placed : (b spare spare' : Bytes) (need : ℕ) → em need spare' ≡ puts b (em 0 spare) → length b ≤ 16384 → length spare ≡ 16384 → (need ≤ 16384) × (take need spare' ≡ b)
placed b spare spare' need e h l =
    let f = ap (λ (x : Em). x.at) e ∙ puts-at b (em 0 spare) (omega arith) in
    let n : need ≡ length b = omega arith in
    (omega arith, spared b spare spare' need e (omega arith) (omega arith))

pub from_first : (ts : List Bytes) (m : ℕ) (b left : Bytes) (n : ℕ) (before after : Bytes) (a : Answer) → b ≡ get_or ts 0 [] → take n left ≡ b → Answered (merged_in_turn (take n left) (steps_from ts 1 m)) before after a → Answered (merged_in_turn (get_or ts 0 []) (steps_from ts 1 m)) before after a
from_first ts m b left n before after a e f h = answered (merged_in_turn (take n left) (steps_from ts 1 m)) (merged_in_turn (get_or ts 0 []) (steps_from ts 1 m)) before after a (ap (λ (x : Bytes). merged_in_turn x (steps_from ts 1 m)) (sym (f ∙ e))) h
