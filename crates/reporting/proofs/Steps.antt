-- The texts of a report's steps: four a step, and what they are read as. Assumes nothing.
use mathlib.Core.Path.{◌≡◌, refl, ap, ◌∙◌}
use mathlib.Core.List.{List, [], ◌∷◌}
use mathlib.Core.Option.{Option, none, some}
use Prim.Native.Nat.{ℕ, zero, suc, ◌+◌, ◌*◌, ◌%◌, ◌<◌}
use native.Mathlib.Omega.{arith}
use lib.ListN.{length, get_or, drop, length-drop}
use lib.Seq.{drop-cons}
use Rattle.text.specs.Text.{Bytes}
use Rattle.algebra.specs.Given.{read_given_query}
use Rattle.answers.specs.Outcome.{Outcome, written}
use Rattle.merging.proofs.Given.{then-written, lists-read}
use Rattle.reporting.specs.Report.{StepTexts, step_texts, before, Step, step, steps_in, read_steps}
use Rattle.reporting.specs.Steps.{StepsRead}
use Rattle.reporting.specs.bridge.Turns.{step_at, steps_from}

-- ---- four a step

four-more : (ts : List Bytes) (k : ℕ) → k + 3 < length ts → drop k ts ≡ get_or ts k [] ∷ get_or ts (k + 1) [] ∷ get_or ts (k + 2) [] ∷ get_or ts (k + 3) [] ∷ drop (k + 4) ts
four-more ts k h =
    let one : suc k ≡ k + 1 = omega arith in
    let two : suc (k + 1) ≡ k + 2 = omega arith in
    let three : suc (k + 2) ≡ k + 3 = omega arith in
    let four : suc (k + 3) ≡ k + 4 = omega arith in
    drop-cons ts k [] (omega arith)
    ∙ ap (λ (us : List Bytes). get_or ts k [] ∷ us)
    (ap (λ (n : ℕ). drop n ts) one ∙ drop-cons ts (k + 1) [] (omega arith)
    ∙ ap (λ (us : List Bytes). get_or ts (k + 1) [] ∷ us)
    (ap (λ (n : ℕ). drop n ts) two ∙ drop-cons ts (k + 2) [] (omega arith)
    ∙ ap (λ (us : List Bytes). get_or ts (k + 2) [] ∷ us)
    (ap (λ (n : ℕ). drop n ts) three ∙ drop-cons ts (k + 3) [] (omega arith)
    ∙ ap (λ (n : ℕ). get_or ts (k + 3) [] ∷ drop n ts) four)))

none_left : (us : List Bytes) → length us ≡ 0 → steps_in us ≡ some []
unfolding steps_in
none_left [] h = refl
none_left (u ∷ us) h = absurd (omega arith)

pub steps-in : (ts : List Bytes) (m k : ℕ) → length ts ≡ k + 4 * m → steps_in (drop k ts) ≡ some (steps_from ts k m)
unfolding steps_from steps_in
steps-in ts zero k h = none_left (drop k ts) (simp length-drop (omega arith))
steps-in ts (suc m) k h = ap steps_in (four-more ts k (omega arith)) ∙ ap (before (step_at ts k)) (steps-in ts m (k + 4) (omega arith))

-- another number of texts
pub not_in : (us : List Bytes) → (length us % 4 ≡ 0 → ⊥) → steps_in us ≡ none
unfolding steps_in
not_in [] h = absurd (h refl)
not_in (q ∷ []) h = refl
not_in (q ∷ js ∷ []) h = refl
not_in (q ∷ js ∷ ks ∷ []) h = refl
not_in (q ∷ js ∷ ks ∷ ls ∷ ts) h = ap (before (step_texts q js ks ls)) (not_in ts (λ e. h (omega arith)))

-- some texts are some steps
pub some-step : (q t : Bytes) (ts : List Bytes) (ss : List StepTexts) → steps_in (q ∷ t ∷ ts) ≡ some ss → (s : StepTexts) × (rest : List StepTexts) × (ss ≡ s ∷ rest)
unfolding steps_in
some-step q t [] ss e = let z : ◌≡◌ {A = ℕ} 0 1 = cc in absurd (omega arith)
some-step q t (a ∷ []) ss e = let z : ◌≡◌ {A = ℕ} 0 1 = cc in absurd (omega arith)
some-step q t (a ∷ c ∷ ts) ss e = go (steps_in ts) e
  where
    go : (o : Option (List StepTexts)) → before (step_texts q t a c) o ≡ some ss → (s : StepTexts) × (rest : List StepTexts) × (ss ≡ s ∷ rest)
    go none h = let z : ◌≡◌ {A = ℕ} 0 1 = cc in absurd (omega arith)
    go (some rs) h = (step_texts q t a c, rs, cc)

-- ---- what they are read as

-- of a report that is written all were read
pub steps-read : (ts : List StepTexts) (k : List Step → Outcome) (b : Bytes) → read_steps ts k ≡ written b → (ss : List Step) × StepsRead ts ss × (k ss ≡ written b)
unfolding read_steps StepsRead
steps-read [] k b e = ([], tt, e)
steps-read (t ∷ ts) k b e =
    let x = then-written (read_given_query t.query) _ b e in
    let y = lists-read t.joins t.left_constants t.right_constants _ b x.2 in
    let z = steps-read ts _ b y.gives in
    let l = y.says (record { columns = []; inner = x.0.tree }) (record { columns = []; inner = x.0.tree }) in
    (step x.0 y.joins y.left_constants y.right_constants ∷ z.0, (record { query = x.1; joins = l.joins; left_constants = l.left_constants; right_constants = l.right_constants }, z.1), z.2)

-- texts that are all read
pub steps-good : (ts : List StepTexts) (ss : List Step) → StepsRead ts ss → (k : List Step → Outcome) → read_steps ts k ≡ k ss
unfolding read_steps StepsRead
steps-good [] [] r k = refl
steps-good [] (s ∷ ss) r k = absurd r
steps-good (t ∷ ts) [] r k = absurd r
steps-good (t ∷ ts) (s ∷ ss) r k = rw (r.0.query, r.0.joins, r.0.left_constants, r.0.right_constants) (steps-good ts ss r.1 (λ rest. k (s ∷ rest)))
