-- The checks of a report's texts by their numbers, and its lines counted. Assumes nothing.
use Prim.Native.Nat.{ℕ, zero, suc, ◌+◌, ◌-◌, ◌≤◌, ◌<◌}
use mathlib.Core.Path.{◌≡◌, refl, sym, ap, ap₂, subst, ◌∙◌}
use mathlib.Core.Bool.{true, false, not}
use mathlib.Core.List.{List, [], ◌∷◌}
use native.Mathlib.Omega.{arith}
use native.Mathlib.Decide.{dec_lt}
use lib.ListN.{length, get_or, drop, length-drop}
use lib.Seq.{drop-cons}
use lib.Dec.{leb}
use borrow.Author.Tests.{le-leb, lt-leb}
use Rattle.text.specs.Text.{Bytes, First, lines_of, lines_from}
use Rattle.text.proofs.Places.{lines_start, lines_end, lines-open, lines_next}
use Rattle.algebra.specs.Query.{Query}
use Rattle.algebra.specs.Reader.{malformed, over_bound, Outcome as Reading, reads, refuses}
use Rattle.algebra.specs.Given.{read_given_query}
use Rattle.algebra.specs.bridge.Answers.{Answer as Check}
use Rattle.names.specs.bridge.Checked.{Checked}
use Rattle.merging.specs.Request.{join_positions, by_position, constants_in}
use Rattle.projects.specs.bridge.Joining.{ListsChecked}
use Rattle.reporting.specs.Report.{StepTexts, step_texts, step, read_steps, step_by_step, line_count}
use Rattle.reporting.specs.Steps.{StepsRead}
use Rattle.reporting.specs.bridge.Turns.{step_at, steps_from}
use Rattle.stepping.specs.bridge.Checks.{Told, QueryChecked, StepChecked, StepsChecked, TextsChecked}
use Rattle.std.specs.Prelude.{Ok, Err}
use Rattle.algebra.specs.declared.Fault.{Fault}
use Rattle.algebra.specs.declared.Fault.TheVariants.{Malformed, OverBound}

-- a check's answer without its number
abbrev pub told : Check → Told
told (Ok n) = Ok tt
told (Err f) = Err f

-- ---- a query's text

said : (names : Query → List Bytes) (s : Bytes) (a l h : List ℕ) (r : Check) (o : Reading Query) → read_given_query s ≡ o → Checked names s a l h o r → QueryChecked s (told r)
unfolding Checked QueryChecked
said names s a l h r (reads q) e x = subst (λ (c : Check). QueryChecked s (told c)) (sym x.1) (q, e)
said names s a l h r (refuses malformed) e x = subst (λ (c : Check). QueryChecked s (told c)) (sym x) e
said names s a l h r (refuses over_bound) e x = subst (λ (c : Check). QueryChecked s (told c)) (sym x) e

pub query-said : (names : Query → List Bytes) (s : Bytes) (a l h : List ℕ) (r : Check) → Checked names s a l h (read_given_query s) r → (t : Check) → r ≡ t → QueryChecked s (told t)
query-said names s a l h r c t e = subst (λ (x : Check). QueryChecked s (told x)) e (said names s a l h r (read_given_query s) refl c)

-- ---- a step's texts

lists-decide : (q js ks ls : Bytes) (r : Check) → (a : Query) × (read_given_query q ≡ reads a) → ListsChecked js ks ls r → StepChecked (step_texts q js ks ls) (told r)
unfolding StepChecked ListsChecked read_steps
lists-decide q js ks ls (Ok n) a c = (step a.0 (join_positions c.js) (by_position (constants_in c.left.list)) (by_position (constants_in c.right.list)), record { query = a.1; joins = c.joins_read; left_constants = c.left.read; right_constants = c.right.read })
lists-decide q js ks ls (Err Malformed) a c = λ ts k. rw a.1 (c _)
lists-decide q js ks ls (Err OverBound) a c = λ ts k. rw a.1 (c _)

module _ (ts : List Bytes) (k : ℕ) (q : Bytes) (a : Told) (c : QueryChecked q a) (e : q ≡ get_or ts k []) where
  given : (o : Reading Query) → read_given_query q ≡ o → read_given_query (get_or ts k []) ≡ o
  given o h = ap read_given_query (sym e) ∙ h

  step-malformed : a ≡ Err Malformed → StepChecked (step_at ts k) (Err Malformed)
  unfolding QueryChecked StepChecked read_steps
  step-malformed m us j = rw (given (refuses malformed) (subst (QueryChecked q) m c))

  step-over : a ≡ Err OverBound → StepChecked (step_at ts k) (Err OverBound)
  unfolding QueryChecked StepChecked read_steps
  step-over m us j = rw (given (refuses over_bound) (subst (QueryChecked q) m c))

  pub step-refused : (f : Fault) → a ≡ Err f → StepChecked (step_at ts k) (Err f)
  step-refused Malformed m = step-malformed m
  step-refused OverBound m = step-over m

  -- where the query is read its lists decide
  pub step-listed : (n : Unit {0}) → a ≡ Ok n → (js ks ls : Bytes) (r : Check) → js ≡ get_or ts (k + 1) [] → ks ≡ get_or ts (k + 2) [] → ls ≡ get_or ts (k + 3) [] → ListsChecked js ks ls r → (m : Check) → r ≡ m → StepChecked (step_at ts k) (told m)
  unfolding QueryChecked
  step-listed n g js ks ls r x y z l m i =
      let w = subst (QueryChecked q) g c in
      subst (λ (t : StepTexts). StepChecked t (told m)) (λ i. step_texts (e i) (x i) (y i) (z i)) (subst (λ (c : Check). StepChecked (step_texts q js ks ls) (told c)) i (lists-decide q js ks ls r w l))

-- ---- all steps

-- a step that is refused refuses them
pub steps-refused : (t : StepTexts) (ts : List StepTexts) (f : Fault) → StepChecked t (Err f) → StepsChecked (t ∷ ts) (Err f)
unfolding StepChecked StepsChecked
steps-refused t ts Malformed c = c ts
steps-refused t ts OverBound c = c ts

-- behind a step that is read the others decide
pub steps_next : (t : StepTexts) (ts : List StepTexts) (r : Told) (n : Unit {0}) → StepChecked t (Ok n) → StepsChecked ts r → StepsChecked (t ∷ ts) r
unfolding StepChecked StepsChecked StepsRead read_steps
steps_next t ts (Ok m) n a c = (a.0 ∷ c.0, (a.1, c.1))
steps_next t ts (Err Malformed) n a c = λ k. rw (a.1.query, a.1.joins, a.1.left_constants, a.1.right_constants) (c _)
steps_next t ts (Err OverBound) n a c = λ k. rw (a.1.query, a.1.joins, a.1.left_constants, a.1.right_constants) (c _)

pub steps-none : (ts : List Bytes) (k m : ℕ) (n : Unit {0}) → m ≡ 0 → StepsChecked (steps_from ts k m) (Ok n)
unfolding StepsChecked StepsRead steps_from
steps-none ts k zero n e = ([], tt)
steps-none ts k (suc m) n e = absurd (omega arith)

-- the first of so many
pub first_of : (ts : List Bytes) (k m : ℕ) → 0 < m → steps_from ts k m ≡ step_at ts k ∷ steps_from ts (k + 4) (m - 1)
unfolding steps_from
first_of ts k zero h = absurd (omega arith)
first_of ts k (suc m) h = ap (λ (n : ℕ). step_at ts k ∷ steps_from ts (k + 4) n) (let q : m ≡ suc m - 1 = omega arith in q)

pub none_of : (ts : List Bytes) (k m : ℕ) → m ≡ 0 → steps_from ts k m ≡ []
unfolding steps_from
none_of ts k zero h = refl
none_of ts k (suc m) h = absurd (omega arith)

-- what the check of the steps from one on says is what the check of all says
abbrev pub Goes : List Bytes → ℕ → ℕ → List StepTexts → Type 0
Goes ts k m all = (r : Told) → StepsChecked (steps_from ts k m) r → StepsChecked all r

module _ (ts : List Bytes) (k m : ℕ) (all : List StepTexts) (inv : Goes ts k m all) (some : 0 < m) (a : Told) (c : StepChecked (step_at ts k) a) where
  pub goes-refused : (f : Fault) → a ≡ Err f → StepsChecked all (Err f)
  goes-refused f e =
      let s = steps-refused (step_at ts k) (steps_from ts (k + 4) (m - 1)) f (subst (StepChecked (step_at ts k)) e c) in
      inv (Err f) (subst (λ (xs : List StepTexts). StepsChecked xs (Err f)) (sym (first_of ts k m some)) s)

  pub goes-next : (n : Unit {0}) → a ≡ Ok n → (j l : ℕ) → j ≡ k + 4 → l ≡ m - 1 → Goes ts j l all
  goes-next n e j l p q r x =
      let y = subst (λ (xs : List StepTexts). StepsChecked xs r) (ap₂ (steps_from ts) p q) x in
      let s = steps_next (step_at ts k) (steps_from ts (k + 4) (m - 1)) r n (subst (StepChecked (step_at ts k)) e c) y in
      inv r (subst (λ (xs : List StepTexts). StepsChecked xs r) (sym (first_of ts k m some)) s)

-- ---- all texts

first-refused : (first : Bytes) (ts : List StepTexts) (f : Fault) → QueryChecked first (Err f) → TextsChecked first ts (Err f)
unfolding QueryChecked TextsChecked step_by_step
first-refused first ts Malformed c = λ k. rw c
first-refused first ts OverBound c = λ k. rw c

first_good : (first : Bytes) (ts : List StepTexts) (r : Told) (n : Unit {0}) → QueryChecked first (Ok n) → StepsChecked ts r → TextsChecked first ts r
unfolding QueryChecked StepsChecked TextsChecked step_by_step
first_good first ts (Ok m) n a c = (a, c)
first_good first ts (Err Malformed) n a c = λ k. rw a.1 (c _)
first_good first ts (Err OverBound) n a c = λ k. rw a.1 (c _)

module _ (s first : Bytes) (is : s ≡ first) (ts : List StepTexts) (a : Told) (c : QueryChecked s a) where
  pub texts-refused : (f : Fault) → a ≡ Err f → TextsChecked first ts (Err f)
  texts-refused f e = first-refused first ts f (subst (QueryChecked first) e (subst (λ (t : Bytes). QueryChecked t a) is c))

  pub texts-next : (n : Unit {0}) → a ≡ Ok n → (r : Told) → StepsChecked ts r → TextsChecked first ts r
  texts-next n e r x = first_good first ts r n (subst (QueryChecked first) e (subst (λ (t : Bytes). QueryChecked t a) is c)) x

-- ---- lines

-- so many lines, and those from a place on
abbrev pub Counts : Bytes → ℕ → ℕ → Type 0
Counts s n at = (n ≤ at) × (at ≤ length s + 1) × (n + length (lines_from s at) ≡ length (lines_of s))

pub counts_start : (s : Bytes) → Counts s 0 0
counts_start s = let e = ap length (lines_start s) in (omega arith, omega arith, omega arith)

one_line : (s : Bytes) (at e : ℕ) → at < length s → First 10 s at (length s) e → length (lines_from s at) ≡ 1 + length (lines_from s (e + 1))
one_line s at e h f = go (dec_lt e (length s))
  where
    go : Dec (e < length s) → length (lines_from s at) ≡ 1 + length (lines_from s (e + 1))
    go (yes l) = let q = ap length (lines_next s at e f l) in omega arith
    go (no l) = let i = f.high in let q = ap length (lines-open s at e h f (omega arith)) in let z = ap length (lines_end s (e + 1) (omega arith)) in omega arith

pub counts-next : (s : Bytes) (n at e : ℕ) → Counts s n at → at < length s → First 10 s at (length s) e → Counts s (n + 1) (e + 1)
counts-next s n at e inv h f = let q = one_line s at e h f in let l = f.low in let i = f.high in let c = inv.2 in let a = inv.0 in (omega arith, omega arith, omega arith)

pub counts-done : (s : Bytes) (n at : ℕ) → Counts s n at → length s ≤ at → n ≡ length (lines_of s)
counts-done s n at inv h = let z = ap length (lines_end s at h) in let c = inv.2 in omega arith

-- the lines of the texts from a number on, and so many before them
abbrev pub Sums : List Bytes → ℕ → ℕ → Type 0
Sums ts total k = (total ≤ 8192) × (total + line_count (drop k ts) ≡ line_count ts)

pub sums-start : (ts : List Bytes) → Sums ts 0 0
sums-start ts = (omega arith, omega arith)

from-text : (ts : List Bytes) (k : ℕ) → k < length ts → line_count (drop k ts) ≡ length (lines_of (get_or ts k [])) + line_count (drop (k + 1) ts)
unfolding line_count
from-text ts k h = ap line_count (drop-cons ts k [] h) ∙ ap (λ (n : ℕ). length (lines_of (get_or ts k [])) + line_count (drop n ts)) (let q : suc k ≡ k + 1 = omega arith in q)

module _ (ts : List Bytes) (total k lines : ℕ) (inv : Sums ts total k) (here : k < length ts) (text : Bytes) (is : text ≡ get_or ts k []) (counted : lines ≡ length (lines_of text)) where
  this : line_count (drop k ts) ≡ lines + line_count (drop (k + 1) ts)
  this = from-text ts k here ∙ ap (λ (n : ℕ). n + line_count (drop (k + 1) ts)) (sym (counted ∙ ap (λ (t : Bytes). length (lines_of t)) is))

  pub sums-many : 8192 - total < lines → not true ≡ leb (line_count ts) 8192
  sums-many h = let t = this in let a = inv.0 in let b = inv.1 in sym (lt-leb (line_count ts) 8192 (omega arith))

  pub sums_next : lines ≤ 8192 - total → Sums ts (total + lines) (k + 1)
  sums_next h = let t = this in let a = inv.0 in let b = inv.1 in (omega arith, omega arith)

none-counted : (us : List Bytes) → length us ≡ 0 → line_count us ≡ 0
unfolding line_count
none-counted [] h = refl
none-counted (u ∷ us) h = absurd (omega arith)

pub sums-done : (ts : List Bytes) (total k : ℕ) → Sums ts total k → length ts ≤ k → not false ≡ leb (line_count ts) 8192
sums-done ts total k inv h =
    let z = none-counted (drop k ts) (simp length-drop (omega arith)) in
    let a = inv.0 in
    let b = inv.1 in
    sym (le-leb (line_count ts) 8192 (omega arith))
