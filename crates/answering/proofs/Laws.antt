-- The ways of an input: too long, a call with its texts, another number of texts than any call reads; and a call's row. Assumes nothing.
use Prim.Native.Nat.{ℕ, zero, suc, ◌+◌, ◌≤◌, ◌<◌}
use mathlib.Core.Path.{◌≡◌, refl, sym, ◌∙◌, ap, ap₂}
use mathlib.Core.List.{List, [], ◌∷◌}
use mathlib.Core.Bool.{Bool, true, false, cond}
use native.Mathlib.Omega.{arith}
use lib.ListN.{length, get_or}
use lib.Dec.{eqb}
use borrow.Author.Tests.{le-leb, lt-leb, ne_eqb}
use Rattle.text.specs.Text.{Bytes, same}
use Rattle.parted.specs.Parted.{texts}
use Rattle.parted.specs.bridge.Code.{Parted}
use Rattle.parted.proofs.Parts.{parted-same}
use Rattle.answers.specs.Outcome.{Answer, Outcome, refused, Reported, Answered}
use Rattle.answers.specs.Both.{ReportedBoth, AnsweredBoth}
use Rattle.answers.proofs.Both.{both-none}
use Rattle.surveying.specs.Scope.{scope_outcome}
use Rattle.renaming.specs.Rename.{rename_outcome}
use Rattle.merging.specs.Merge.{merge_patterns_outcome, merge_queries_outcome}
use Rattle.merging.specs.Push.{push_constants_outcome}
use Rattle.merging.specs.Negate.{negate_outcome}
use Rattle.merging.specs.Without.{without_queries_outcome}
use Rattle.filtering.specs.Bindings.{bindings_outcome}
use Rattle.filtering.specs.Filters.{filters_outcome}
use Rattle.filtering.specs.NotPlaced.{filters_not_placed}
use Rattle.converting.specs.Namespaces.{namespaces_outcome}
use Rattle.answering.specs.Answering.{Call, calls, called, called_list, call_input, input_list, number_in, call_number}
use Rattle.std.specs.Prelude.{Err}
use Rattle.answers.specs.declared.Refusal.TheVariants.{Malformed, OverBound}

-- what holds of each of the ten and behind them holds of every number
module _ (P : ℕ → Type 0) (p0 : P 0) (p1 : P 1) (p2 : P 2) (p3 : P 3) (p4 : P 4) (p5 : P 5) (p6 : P 6) (p7 : P 7) (p8 : P 8) (p9 : P 9) where
  pub by_number : ((k : ℕ) → P (suc (suc (suc (suc (suc (suc (suc (suc (suc (suc k))))))))))) → (k : ℕ) → P k
  by_number more zero = p0
  by_number more (suc zero) = p1
  by_number more (suc (suc zero)) = p2
  by_number more (suc (suc (suc zero))) = p3
  by_number more (suc (suc (suc (suc zero)))) = p4
  by_number more (suc (suc (suc (suc (suc zero))))) = p5
  by_number more (suc (suc (suc (suc (suc (suc zero)))))) = p6
  by_number more (suc (suc (suc (suc (suc (suc (suc zero))))))) = p7
  by_number more (suc (suc (suc (suc (suc (suc (suc (suc zero)))))))) = p8
  by_number more (suc (suc (suc (suc (suc (suc (suc (suc (suc zero))))))))) = p9
  by_number more (suc (suc (suc (suc (suc (suc (suc (suc (suc (suc k)))))))))) = more k

-- ---- a call's row

-- the call of this number
pub answer-row : (n k : ℕ) (ts : List Bytes) (o : Outcome) (out after : Bytes) (r : Answer) → called n ts ≡ o → k ≡ n → Answered o out after r → Answered (called k ts) out after r
answer-row n k ts o out after r e h a = rw (h, e) a

pub row-scope : (a : Bytes) → called 0 (a ∷ []) ≡ scope_outcome a
unfolding called
row-scope a = refl

pub row-rename : (a b : Bytes) → called 1 (a ∷ b ∷ []) ≡ rename_outcome a b
unfolding called
row-rename a b = refl

pub row-merge : (a b c d e : Bytes) → called 2 (a ∷ b ∷ c ∷ d ∷ e ∷ []) ≡ merge_patterns_outcome a b c d e
unfolding called
row-merge a b c d e = refl

pub row-merge-queries : (a b c d e : Bytes) → called 3 (a ∷ b ∷ c ∷ d ∷ e ∷ []) ≡ merge_queries_outcome a b c d e
unfolding called
row-merge-queries a b c d e = refl

pub row-push : (a b : Bytes) → called 4 (a ∷ b ∷ []) ≡ push_constants_outcome a b
unfolding called
row-push a b = refl

pub row-negate : (a : Bytes) → called 5 (a ∷ []) ≡ negate_outcome a
unfolding called
row-negate a = refl

pub row-bindings : (a b : Bytes) → called 6 (a ∷ b ∷ []) ≡ bindings_outcome a b
unfolding called
row-bindings a b = refl

pub row-filters : (a b : Bytes) → called 7 (a ∷ b ∷ []) ≡ filters_outcome a b
unfolding called
row-filters a b = refl

pub row-without : (a b c : Bytes) → called 8 (a ∷ b ∷ c ∷ []) ≡ without_queries_outcome a b c
unfolding called
row-without a b c = refl

pub row-namespaces : (a b : Bytes) → called 9 (a ∷ b ∷ []) ≡ namespaces_outcome a b
unfolding called
row-namespaces a b = refl

-- no call that reads one text, two, three, or five
pub none-of-one : (k : ℕ) (a out : Bytes) → (k ≡ 0 → ⊥) → (k ≡ 5 → ⊥) → Answered (called k (a ∷ [])) out out (Err Malformed)
unfolding called Reported
none-of-one k a out = by_number (λ k. (k ≡ 0 → ⊥) → (k ≡ 5 → ⊥) → Answered (called k (a ∷ [])) out out (Err Malformed)) (λ h i. absurd (h refl)) here here here here (λ h i. absurd (i refl)) here here here here (λ k. here) k
  where
    here : {n : ℕ} → (n ≡ 0 → ⊥) → (n ≡ 5 → ⊥) → Answered (refused 1) out out (Err Malformed)
    here h i = (refl, refl, refl)

pub none_of_two : (k : ℕ) (a b out : Bytes) → (k ≡ 1 → ⊥) → (k ≡ 4 → ⊥) → (k ≡ 6 → ⊥) → (k ≡ 9 → ⊥) → (k ≡ 7 → ⊥) → Answered (called k (a ∷ b ∷ [])) out out (Err Malformed)
unfolding called Reported
none_of_two k a b out = by_number (λ k. (k ≡ 1 → ⊥) → (k ≡ 4 → ⊥) → (k ≡ 6 → ⊥) → (k ≡ 9 → ⊥) → (k ≡ 7 → ⊥) → Answered (called k (a ∷ b ∷ [])) out out (Err Malformed)) here (λ h i j l m. absurd (h refl)) here here (λ h i j l m. absurd (i refl)) here (λ h i j l m. absurd (j refl)) (λ h i j l m. absurd (m refl)) here (λ h i j l m. absurd (l refl)) (λ k. here) k
  where
    here : {n : ℕ} → (n ≡ 1 → ⊥) → (n ≡ 4 → ⊥) → (n ≡ 6 → ⊥) → (n ≡ 9 → ⊥) → (n ≡ 7 → ⊥) → Answered (refused 1) out out (Err Malformed)
    here h i j l m = (refl, refl, refl)

pub none-of-three : (k : ℕ) (a b c out : Bytes) → (k ≡ 8 → ⊥) → Answered (called k (a ∷ b ∷ c ∷ [])) out out (Err Malformed)
unfolding called Reported
none-of-three k a b c out = by_number (λ k. (k ≡ 8 → ⊥) → Answered (called k (a ∷ b ∷ c ∷ [])) out out (Err Malformed)) here here here here here here here here (λ h. absurd (h refl)) here (λ k. here) k
  where
    here : {n : ℕ} → (n ≡ 8 → ⊥) → Answered (refused 1) out out (Err Malformed)
    here h = (refl, refl, refl)

pub none-of-five : (k : ℕ) (a b c d e out : Bytes) → (k ≡ 2 → ⊥) → (k ≡ 3 → ⊥) → Answered (called k (a ∷ b ∷ c ∷ d ∷ e ∷ [])) out out (Err Malformed)
unfolding called Reported
none-of-five k a b c d e out = by_number (λ k. (k ≡ 2 → ⊥) → (k ≡ 3 → ⊥) → Answered (called k (a ∷ b ∷ c ∷ d ∷ e ∷ [])) out out (Err Malformed)) here here (λ h i. absurd (h refl)) (λ h i. absurd (i refl)) here here here here here here (λ k. here) k
  where
    here : {n : ℕ} → (n ≡ 2 → ⊥) → (n ≡ 3 → ⊥) → Answered (refused 1) out out (Err Malformed)
    here h i = (refl, refl, refl)

-- ---- a call's list

pub row_list : (a b : Bytes) → called_list 7 (a ∷ b ∷ []) ≡ filters_not_placed a b
unfolding called_list
row_list a b = refl

-- the call of this number, and its list
pub listed-row : (n k : ℕ) (ts : List Bytes) (o : Outcome) (xs : List ℕ) (out after : Bytes) (lent left : List ℕ) (r : Answer) (m : ℕ) → called n ts ≡ o → called_list n ts ≡ xs → k ≡ n → AnsweredBoth o xs out after lent left r m → AnsweredBoth (called k ts) (called_list k ts) out after lent left r m
listed-row n k ts o xs out after lent left r m e f h a = rw (h, e, f) a

-- of another number of texts than two there is none
none-listed : (k : ℕ) (ts : List Bytes) → (length ts ≡ 2 → ⊥) → called_list k ts ≡ []
unfolding called_list
none-listed k ts h = by_number (λ k. called_list k ts ≡ []) (of 1) (of 2) (of 5) (of 5) (of 2) (of 1) (of 2) (rw (ne_eqb (length ts) 2 h)) (of 3) (of 2) (λ k. of 0) k
  where
    none : (b : Bool) → cond {A = List ℕ} b [] [] ≡ []
    none true = refl
    none false = refl

    of : (n : ℕ) → cond {A = List ℕ} (eqb (length ts) n) [] [] ≡ []
    of n = none (eqb (length ts) n)

module _ (k : ℕ) (ts : List Bytes) (out after : Bytes) (lent : List ℕ) (r : Answer) (a : Answered (called k ts) out after r) where
  pub not_listed : (length ts ≡ 2 → ⊥) → AnsweredBoth (called k ts) (called_list k ts) out after lent lent r 0
  not_listed h = rw (none-listed k ts h) (both-none (called k ts) out after lent r a)

-- nor of another call
pub other-listed : (k : ℕ) (a b out after : Bytes) (lent : List ℕ) (r : Answer) → (k ≡ 7 → ⊥) → Answered (called k (a ∷ b ∷ [])) out after r → AnsweredBoth (called k (a ∷ b ∷ [])) (called_list k (a ∷ b ∷ [])) out after lent lent r 0
unfolding called_list
other-listed k a b out after lent r h x = rw (none k h) (both-none (called k (a ∷ b ∷ [])) out after lent r x)
  where
    none : (n : ℕ) → (n ≡ 7 → ⊥) → called_list n (a ∷ b ∷ []) ≡ []
    none n = by_number (λ n. (n ≡ 7 → ⊥) → called_list n (a ∷ b ∷ []) ≡ []) (λ i. refl) (λ i. refl) (λ i. refl) (λ i. refl) (λ i. refl) (λ i. refl) (λ i. refl) (λ i. absurd (i refl)) (λ i. refl) (λ i. refl) (λ k i. refl) n

-- another number of texts than any call reads
pub none-of-others : (k : ℕ) (ts : List Bytes) (out : Bytes) → (length ts ≡ 0 → ⊥) → (length ts ≡ 1 → ⊥) → (length ts ≡ 2 → ⊥) → (length ts ≡ 3 → ⊥) → (length ts ≡ 5 → ⊥) → Answered (called k ts) out out (Err Malformed)
unfolding called Reported
none-of-others k ts out h0 h1 h2 h3 h5 = by_number (λ k. Answered (called k ts) out out (Err Malformed)) (not 1 _ h1) (not 2 _ h2) (not 5 _ h5) (not 5 _ h5) (not 2 _ h2) (not 1 _ h1) (not 2 _ h2) (not 2 _ h2) (not 3 _ h3) (not 2 _ h2) (λ k. not 0 _ h0) k
  where
    not : (n : ℕ) (o : Outcome) → (length ts ≡ n → ⊥) → Answered (cond (eqb (length ts) n) o (refused 1)) out out (Err Malformed)
    not n o h = rw (ne_eqb (length ts) n h) (refl, refl, refl)

-- ---- a call's number

module _ (c : Call) (cs : List Call) (f : Bytes) where
  pub number-here : same f c.name ≡ true → number_in (c ∷ cs) f ≡ 0
  unfolding number_in
  number-here h = rw h

  pub number-next : (n : ℕ) → same f c.name ≡ false → number_in cs f ≡ n → number_in (c ∷ cs) f ≡ n + 1
  unfolding number_in
  number-next n h e = rw (h, e)

pub number-none : (f : Bytes) → number_in [] f ≡ 0
unfolding number_in
number-none f = refl

pub number-all : (f : Bytes) (n : ℕ) → number_in calls f ≡ n → n ≡ call_number f
unfolding call_number
number-all f n e = sym e

-- ---- an input's texts

-- a text that is asked for
pub ready : (s : Bytes) (ends : List ℕ) (m n k : ℕ) → length ends ≡ m → k < m → k ≤ n → Parted s ends m n → (k < length ends) × (k ≤ n) × Parted s ends (length ends) n
ready s ends m n k l h i p = (omega arith, i, parted-same s ends m (length ends) n (sym l) p)

pub texts-one : (ts : List Bytes) (a : Bytes) → length ts ≡ 1 → a ≡ get_or ts 0 [] → ts ≡ a ∷ []
texts-one [] a h e = absurd (omega arith)
texts-one (t ∷ []) a h e = ap (λ (x : Bytes). x ∷ []) (sym e)
texts-one (t ∷ u ∷ ts) a h e = absurd (omega arith)

-- one text in front of the others
texts-more : (n : ℕ) (ts us : List Bytes) (a : Bytes) → length ts ≡ suc n → a ≡ get_or ts 0 [] → ((vs : List Bytes) → length vs ≡ n → ((i : ℕ) → get_or ts (suc i) [] ≡ get_or vs i []) → vs ≡ us) → ts ≡ a ∷ us
texts-more n [] us a h e more = absurd (omega arith)
texts-more n (t ∷ vs) us a h e more = ap₂ ◌∷◌ (sym e) (more vs (omega arith) (λ i. refl))

pub texts-two : (ts : List Bytes) (a b : Bytes) → length ts ≡ 2 → a ≡ get_or ts 0 [] → b ≡ get_or ts 1 [] → ts ≡ a ∷ b ∷ []
texts-two ts a b h e f = texts-more 1 ts _ a h e λ vs n g. texts-one vs b n (f ∙ g 0)

pub texts-three : (ts : List Bytes) (a b c : Bytes) → length ts ≡ 3 → a ≡ get_or ts 0 [] → b ≡ get_or ts 1 [] → c ≡ get_or ts 2 [] → ts ≡ a ∷ b ∷ c ∷ []
texts-three ts a b c h ea eb ec = texts-more 2 ts _ a h ea λ us n f. texts-two us b c n (eb ∙ f 0) (ec ∙ f 1)

pub texts-five : (ts : List Bytes) (a b c d e : Bytes) → length ts ≡ 5 → a ≡ get_or ts 0 [] → b ≡ get_or ts 1 [] → c ≡ get_or ts 2 [] → d ≡ get_or ts 3 [] → e ≡ get_or ts 4 [] → ts ≡ a ∷ b ∷ c ∷ d ∷ e ∷ []
texts-five ts a b c d e h ea eb ec ed ee =
    texts-more 4 ts _ a h ea λ us n f. texts-more 3 us _ b n (eb ∙ f 0) λ vs m g. texts-three vs c d e m (ec ∙ f 1 ∙ g 0) (ed ∙ f 2 ∙ g 1) (ee ∙ f 3 ∙ g 2)

-- ---- an input

module _ (k : ℕ) (s : Bytes) where
  pub answer-long : (out : Bytes) (lent : List ℕ) → 65536 < length s → AnsweredBoth (call_input k s) (input_list k s) out out lent lent (Err OverBound) 0
  unfolding call_input input_list ReportedBoth
  answer-long out lent h = rw (lt-leb (length s) 65536 h) (refl, refl, refl, refl, refl)

  pub answer-texts : (ts : List Bytes) (out after : Bytes) (lent left : List ℕ) (r : Answer) (m : ℕ) → length s ≤ 65536 → texts s ≡ ts → AnsweredBoth (called k ts) (called_list k ts) out after lent left r m → AnsweredBoth (call_input k s) (input_list k s) out after lent left r m
  unfolding call_input input_list
  answer-texts ts out after lent left r m h e a = rw (le-leb (length s) 65536 h, e) a

  -- a call of another number of texts than two lists nothing
  pub answer-plain : (ts : List Bytes) (out after : Bytes) (lent : List ℕ) (r : Answer) → length s ≤ 65536 → texts s ≡ ts → (length ts ≡ 2 → ⊥) → Answered (called k ts) out after r → AnsweredBoth (call_input k s) (input_list k s) out after lent lent r 0
  answer-plain ts out after lent r h e n a = answer-texts ts out after lent lent r 0 h e (not_listed k ts out after lent r a n)

  -- a call with these texts
  pub called-texts : (ts : List Bytes) (out after : Bytes) (r : Answer) → texts s ≡ ts → Answered (called k ts) out after r → Answered (called k (texts s)) out after r
  called-texts ts out after r e a = rw e a

  -- one more text than these, and no call reads so many
  pub called-none : (out : Bytes) (b : ℕ) → (b ≡ 2 → ⊥) → (b ≡ 4 → ⊥) → length (texts s) ≡ b + 1 → (b ≡ 0 → ⊥) → (b ≡ 1 → ⊥) → Answered (called k (texts s)) out out (Err Malformed)
  called-none out b h2 h4 e h0 h1 =
      let i0 : length (texts s) ≡ 0 → ⊥ = omega arith in
      let i1 : length (texts s) ≡ 1 → ⊥ = λ q. h0 (omega arith) in
      let i2 : length (texts s) ≡ 2 → ⊥ = λ q. h1 (omega arith) in
      let i3 : length (texts s) ≡ 3 → ⊥ = λ q. h2 (omega arith) in
      let i5 : length (texts s) ≡ 5 → ⊥ = λ q. h4 (omega arith) in
      none-of-others k (texts s) out i0 i1 i2 i3 i5
