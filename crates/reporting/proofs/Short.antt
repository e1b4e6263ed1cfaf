-- A report that is written has at most 29 texts of at most 16,384 bytes: so its input has at most 475,220, and the program's bound loses none. Assumes nothing.
use mathlib.Core.Path.{◌≡◌, refl, ap, subst, ◌∙◌}
use mathlib.Core.Bool.{Bool, true, false, cond}
use mathlib.Core.List.{List, [], ◌∷◌, ◌++◌}
use mathlib.Core.Option.{Option, none, some}
use Prim.Native.Nat.{ℕ, ◌+◌, ◌*◌, ◌≤◌}
use native.Mathlib.Omega.{arith}
use lib.Dec.{eqb}
use lib.ListN.{length, length-append}
use Rattle.text.specs.Text.{Bytes, same, onto, split}
use Rattle.text.proofs.Basics.{same-eq}
use Rattle.algebra.specs.Query.{joins, constants}
use Rattle.algebra.specs.Reader.{reads}
use Rattle.algebra.specs.Texts.{read_pairs}
use Rattle.algebra.specs.Given.{read_given_query}
use Rattle.algebra.proofs.Theorem.{pairs-exactly}
use Rattle.algebra.proofs.Given.{query-given}
use Rattle.answers.specs.Outcome.{written}
use Rattle.merging.specs.Sides.{Pair, Constant}
use Rattle.merging.specs.Request.{join_positions, constants_in, by_position, read_joins, read_constants}
use Rattle.merging.specs.Push.{push_constants, push_constants_outcome}
use Rattle.merging.proofs.Given.{then-written, made_reads}
use Rattle.parted.specs.Parted.{bar, before, texts_in, texts}
use Rattle.reporting.specs.Report.{StepTexts, step_texts, Step, steps_in, report_texts, report_outcome}
use Rattle.reporting.specs.Report as Report
use Rattle.reporting.specs.Steps.{StepsRead}
use Rattle.reporting.proofs.Read.{report-read}

-- ---- the bytes of an input are those of its texts and of the lines between them

-- each part and its line end
ended : List Bytes → ℕ
ended [] = 0
ended (p ∷ ps) = length p + 1 + ended ps

-- each text and a line `--`
barred : List Bytes → ℕ
barred [] = 0
barred (t ∷ ts) = length t + 3 + barred ts

onto-ended : (x : ℕ) (p : Bytes) (ps : List Bytes) → ended (onto x (p ∷ ps)) ≡ 1 + ended (p ∷ ps)
unfolding ended onto
onto-ended x p ps = omega arith

split-ended : (s : Bytes) → (p : Bytes) × (ps : List Bytes) × (split 10 s ≡ p ∷ ps) × (ended (split 10 s) ≡ length s + 1)
unfolding split ended
split-ended [] = ([], [], refl, omega arith)
split-ended (x ∷ xs) = go (eqb x 10) (split-ended xs)
  where
    go : (t : Bool) → ((p : Bytes) × (ps : List Bytes) × (split 10 xs ≡ p ∷ ps) × (ended (split 10 xs) ≡ length xs + 1))
        → (p : Bytes) × (ps : List Bytes) × (cond t ([] ∷ split 10 xs) (onto x (split 10 xs)) ≡ p ∷ ps) × (ended (cond t ([] ∷ split 10 xs) (onto x (split 10 xs))) ≡ length (x ∷ xs) + 1)
    go true r = ([], split 10 xs, refl, omega (arith, r.3))
    go false r = (x ∷ r.0, r.1, ap (onto x) r.2, ap (λ (l : List Bytes). ended (onto x l)) r.2 ∙ onto-ended x r.0 r.1 ∙ omega (arith, ap ended r.2, r.3))

before-barred : (b : Bytes) (ts : List Bytes) → (t : Bytes) × (us : List Bytes) × (ts ≡ t ∷ us) → barred (before b ts) ≡ length b + barred ts
unfolding barred before
before-barred b [] r = let z : ◌≡◌ {A = ℕ} 0 1 = absurd (nothing_is r.0 r.1 r.2) in omega arith
  where
    nothing_is : (t : Bytes) (us : List Bytes) → [] ≡ t ∷ us → ⊥
    nothing_is t us e = let z : ◌≡◌ {A = ℕ} 0 1 = cc in omega arith
before-barred b (t ∷ us) r = omega (arith, length-append b t)

texts-barred : (p : Bytes) (ps : List Bytes) → ((t : Bytes) × (us : List Bytes) × (texts_in (p ∷ ps) ≡ t ∷ us)) × (barred (texts_in (p ∷ ps)) ≡ ended (p ∷ ps) + 2)
unfolding texts_in before barred ended
texts-barred p [] = ((p, [], refl), omega arith)
texts-barred l (m ∷ ls) = go (same l bar) refl (texts-barred m ls)
  where
    more : (b : Bytes) (ts : List Bytes) → (t : Bytes) × (us : List Bytes) × (before b ts ≡ t ∷ us)
    more b [] = (b, [], refl)
    more b (t ∷ us) = (b ++ t, us, refl)

    go : (t : Bool) → same l bar ≡ t → ((u : Bytes) × (us : List Bytes) × (texts_in (m ∷ ls) ≡ u ∷ us)) × (barred (texts_in (m ∷ ls)) ≡ ended (m ∷ ls) + 2)
        → ((u : Bytes) × (us : List Bytes) × (cond t ([] ∷ texts_in (m ∷ ls)) (before (l ++ (10 ∷ [])) (texts_in (m ∷ ls))) ≡ u ∷ us))
        × (barred (cond t ([] ∷ texts_in (m ∷ ls)) (before (l ++ (10 ∷ [])) (texts_in (m ∷ ls)))) ≡ ended (l ∷ m ∷ ls) + 2)
    go true e r = (([], texts_in (m ∷ ls), refl), omega (arith, r.1, ap length (same-eq l bar e)))
    go false e r = (more (l ++ (10 ∷ [])) (texts_in (m ∷ ls)), omega (arith, before-barred (l ++ (10 ∷ [])) (texts_in (m ∷ ls)) r.0, r.1, length-append l (10 ∷ [])))

input-barred : (s : Bytes) → barred (texts s) ≡ length s + 3
unfolding texts
input-barred s = let x = split-ended s in ap (λ (l : List Bytes). barred (texts_in l)) x.2 ∙ (texts-barred x.0 x.1).1 ∙ omega (arith, ap ended x.2, x.3)

-- ---- texts that are read are short

joins-short : (s : Bytes) (js : List Pair) → read_joins s ≡ reads js → length s ≤ 16384
unfolding read_joins
joins-short s js e =
    let x = made_reads join_positions (read_pairs joins s) js e in
    let y = (pairs-exactly joins s x.0).0 x.1 in
    omega (arith, y.2.bytes, ap length y.0)

pub constants-short : (s : Bytes) (ks : List Constant) → read_constants s ≡ reads ks → length s ≤ 16384
unfolding read_constants
constants-short s ks e =
    let x = made_reads (λ xs. by_position (constants_in xs)) (read_pairs constants s) ks e in
    let y = (pairs-exactly constants s x.0).0 x.1 in
    omega (arith, y.2.bytes, ap length y.0)

steps-short : (ts : List Bytes) (ss : List StepTexts) (steps : List Step) → steps_in ts ≡ some ss → StepsRead ss steps → barred ts ≤ 16387 * length ts
unfolding barred steps_in StepsRead
steps-short [] ss steps e r = omega arith
steps-short (q ∷ []) ss steps e r = let z : ◌≡◌ {A = ℕ} 0 1 = cc in absurd (omega arith)
steps-short (q ∷ js ∷ []) ss steps e r = let z : ◌≡◌ {A = ℕ} 0 1 = cc in absurd (omega arith)
steps-short (q ∷ js ∷ ks ∷ []) ss steps e r = let z : ◌≡◌ {A = ℕ} 0 1 = cc in absurd (omega arith)
steps-short (q ∷ js ∷ ks ∷ ls ∷ ts) ss steps e r = go (steps_in ts) e ss steps r (steps-short ts)
  where
    read : (rs : List StepTexts) (steps : List Step) → StepsRead (step_texts q js ks ls ∷ rs) steps → ((us : List StepTexts) (vs : List Step) → some rs ≡ some us → StepsRead us vs → barred ts ≤ 16387 * length ts) → barred (q ∷ js ∷ ks ∷ ls ∷ ts) ≤ 16387 * length (q ∷ js ∷ ks ∷ ls ∷ ts)
    read rs [] r h = absurd r
    read rs (s ∷ steps) r h =
        omega (arith, (query-given q s.query r.0.query).bytes, joins-short js s.joins r.0.joins, constants-short ks s.left_constants r.0.left_constants, constants-short ls s.right_constants r.0.right_constants, h rs steps refl r.1)

    go : (o : Option (List StepTexts)) → Report.before (step_texts q js ks ls) o ≡ some ss → (xs : List StepTexts) (steps : List Step) → StepsRead ss steps → ((us : List StepTexts) (vs : List Step) → o ≡ some us → StepsRead us vs → barred ts ≤ 16387 * length ts)
        → barred (q ∷ js ∷ ks ∷ ls ∷ ts) ≤ 16387 * length (q ∷ js ∷ ks ∷ ls ∷ ts)
    go none h xs steps r k = let z : ◌≡◌ {A = ℕ} 0 1 = cc in absurd (omega arith)
    go (some rs) h xs steps r k = let i : ss ≡ step_texts q js ks ls ∷ rs = cc in read rs steps (subst (λ (l : List StepTexts). StepsRead l steps) i r) k

texts-short : (ts : List Bytes) (b : Bytes) → report_texts ts ≡ written b → barred ts ≤ 475223
unfolding report_texts barred push_constants_outcome
texts-short [] b e = omega arith
texts-short (q ∷ []) b e = let z : ◌≡◌ {A = ℕ} 0 1 = cc in absurd (omega arith)
texts-short (q ∷ ks ∷ []) b e =
    let x = then-written (read_given_query q) _ b e in
    let y = then-written (read_constants ks) (push_constants x.0) b x.2 in
    omega (arith, (query-given q x.0 x.1).bytes, constants-short ks y.0 y.1)
texts-short (first ∷ q ∷ t ∷ ts) b e =
    let r = report-read first q t ts b e in
    omega (arith, (query-given first r.query r.first_read).bytes, steps-short (q ∷ t ∷ ts) r.step_texts r.steps r.four_a_step r.steps_are_read, r.few)

pub report-short : (input b : Bytes) → report_outcome input ≡ written b → length input ≤ 475220
unfolding report_outcome
report-short input b e = omega (arith, input-barred input, texts-short (texts input) b e)
