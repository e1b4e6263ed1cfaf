-- Laws of answers in two slices: what is known of the one with the bytes, and what the list adds. Assumes nothing.
use Prim.Native.Nat.{ℕ, ◌≤◌, ◌<◌}
use mathlib.Core.Path.{◌≡◌, refl, sym, subst}
use mathlib.Core.List.{List, [], ◌++◌}
use native.Mathlib.Omega.{arith}
use lib.ListN.{length, drop}
use Rattle.text.specs.Text.{Bytes}
use Rattle.answers.specs.Outcome.{Answer, Outcome, refused, written, number, size, Reported, Answered}
use Rattle.answers.specs.Both.{Neither, ReportedBoth, AnsweredBoth, ListedAnswer, answer_of, many_of, ListedBoth}
use Rattle.std.specs.Prelude.{Err}
use Rattle.answers.specs.declared.Refusal.{Refusal}
use Rattle.answers.specs.declared.Refusal.TheVariants.{Forbidden, ListTooShort, Malformed, ManyLines, NoPairs, NotCovered, NotInOrder, NotMergeable, NotProject, NotUsable, Outside, OverBound, Repeated, TooShort, Unsayable}

-- no refusal has the number 0
pub refusal-numbered : (f : Refusal) → number (Err f) ≡ 0 → ⊥
refusal-numbered Malformed e = omega arith
refusal-numbered OverBound e = omega arith
refusal-numbered Outside e = omega arith
refusal-numbered NotProject e = omega arith
refusal-numbered NotMergeable e = omega arith
refusal-numbered TooShort e = omega arith
refusal-numbered NotUsable e = omega arith
refusal-numbered ManyLines e = omega arith
refusal-numbered ListTooShort e = omega arith
refusal-numbered Repeated e = omega arith
refusal-numbered NoPairs e = omega arith
refusal-numbered Unsayable e = omega arith
refusal-numbered Forbidden e = omega arith
refusal-numbered NotInOrder e = omega arith
refusal-numbered NotCovered e = omega arith

-- bytes that have room are not refused
pub not-refused : (b before after : Bytes) (f : Refusal) → Answered (written b) before after (Err f) → length b ≤ length before → ⊥
unfolding Reported
not-refused b before after f a i = refusal-numbered f (a.0 i).0

-- the bytes are as of the call without a list, where the list has room
pub both-as-before : (o : Outcome) (xs : List ℕ) (before after : Bytes) (lent left : List ℕ) (n s m : ℕ) → length xs ≤ length lent → ReportedBoth o xs before after lent left n s m → Reported o before after n s
unfolding ReportedBoth Reported
both-as-before (refused k) xs before after lent left n s m h r = (r.0, r.1, r.3)
both-as-before (written b) xs before after lent left n s m h r =
    (λ i. let y = r.2 i h in (y.0, y.1, y.3), λ i. let y = r.0 i in (y.0, y.1, y.3))

module _ (o : Outcome) (xs before : List ℕ) (lent : List ℕ) where
  -- what the texts or a short buffer refuse is refused
  pub both-refused : (r : Answer) → (number r ≡ 0 → ⊥) → Answered o before before r → AnsweredBoth o xs before before lent lent r 0
  unfolding ReportedBoth Reported
  both-refused r h a = go o a
    where
      go : (q : Outcome) → Reported q before before (number r) (size r) → ReportedBoth q xs before before lent lent (number r) (size r) 0
      go (refused k) a = (a.0, a.1, refl, refl, refl)
      go (written b) a =
          (λ i. let y = a.1 i in (y.0, y.1, refl, refl, refl), λ i j. absurd (h (a.0 i).0), λ i j. absurd (h (a.0 i).0))

  module _ (b : Bytes) (e : o ≡ written b) where
    -- the bytes have no room
    pub both-short : length before < length b → AnsweredBoth o xs before before lent lent (Err TooShort) 0
    unfolding ReportedBoth
    both-short i = subst (λ (q : Outcome). ReportedBoth q xs before before lent lent 6 0 0) (sym e) (λ k. (refl, refl, refl, refl, refl), λ k l. absurd (omega arith), λ k l. absurd (omega arith))

    -- the bytes have room and the list hasn't
    pub both-list-short : length b ≤ length before → length lent < length xs → AnsweredBoth o xs before before lent lent (Err ListTooShort) 0
    unfolding ReportedBoth
    both-list-short i j = subst (λ (q : Outcome). ReportedBoth q xs before before lent lent 9 0 0) (sym e) (λ k. absurd (omega arith), λ k l. (refl, refl, refl, refl, refl), λ k l. absurd (omega arith))

    -- both are written
    pub both-written : (after : Bytes) (left : List ℕ) (r : Answer) → length b ≤ length before → length xs ≤ length lent → Answered o before after r → left ≡ xs ++ drop (length xs) lent → AnsweredBoth o xs before after lent left r (length xs)
    unfolding ReportedBoth Reported
    both-written after left r i j a l =
        let y = (subst (λ (q : Outcome). Reported q before after (number r) (size r)) e a).0 i in
        subst (λ (q : Outcome). ReportedBoth q xs before after lent left (number r) (size r) (length xs)) (sym e)
        (λ k. absurd (omega arith), λ k t. absurd (omega arith), λ k t. (y.0, y.1, refl, y.2, l))

-- a call without a list
pub both-none : (o : Outcome) (before after : Bytes) (lent : List ℕ) (r : Answer) → Answered o before after r → AnsweredBoth o [] before after lent lent r 0
unfolding ReportedBoth Reported
both-none (refused k) before after lent r a = (a.0, a.1, refl, a.2, refl)
both-none (written b) before after lent r a =
    (λ i. let y = a.1 i in (y.0, y.1, refl, y.2, refl), λ i j. absurd (omega arith), λ i j. let y = a.0 i in (y.0, y.1, refl, y.2, refl))

-- what the texts say decides
pub answered-both : (o q : Outcome) (xs ys : List ℕ) (before after : Bytes) (lent left : List ℕ) (r : Answer) (m : ℕ) → q ≡ o → ys ≡ xs → AnsweredBoth o xs before after lent left r m → AnsweredBoth q ys before after lent left r m
answered-both o q xs ys before after lent left r m e f h = subst (λ (x : Outcome). AnsweredBoth x ys before after lent left r m) (sym e) (subst (λ (zs : List ℕ). AnsweredBoth o zs before after lent left r m) (sym f) h)

-- what is reported of an answer's number and size
pub reported-both : (o : Outcome) (xs : List ℕ) (before after : Bytes) (lent left : List ℕ) (r : Answer) (k m n s : ℕ) → AnsweredBoth o xs before after lent left r k → n ≡ number r → s ≡ size r → m ≡ k → ReportedBoth o xs before after lent left n s m
reported-both o xs before after lent left r k m n s h p q e = rw (p, q, e) h

-- an answer without numbers, told as one that could have them
pub unlisted : (o : Outcome) (xs : List ℕ) (before after : Bytes) (lent left : List ℕ) (r : ListedAnswer) (a : Answer) → (answer_of r ≡ a) × (many_of r ≡ 0) → AnsweredBoth o xs before after lent left a 0 → ListedBoth o xs before after lent left r
unlisted o xs before after lent left r a e h = rw (e.0, e.1) h
