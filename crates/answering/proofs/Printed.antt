-- What is printed of an answer is what its outcome says, and beside it the line `left`. Assumes nothing.
use Prim.Native.Nat.{ℕ, suc, ◌+◌, ◌*◌, ◌≤◌, ◌<◌, min}
use mathlib.Core.Path.{◌≡◌, refl, sym, ap, ap₂, ◌∙◌}
use mathlib.Core.Bool.{Bool, true, false, cond}
use mathlib.Core.List.{List, [], ◌∷◌, ◌++◌, map, append_assoc}
use native.Mathlib.Numerals.{add-one}
use native.Mathlib.Omega.{arith}
use native.Mathlib.Decide.{dec_le}
use lib.ListN.{length, take, drop, get_or, length-append, drop_of_length-le}
use lib.Seq.{drop-cons, take-append_seam}
use lib.Dec.{leb, ltb}
use borrow.Author.Tests.{le-leb, lt-leb, ltb-true}
use Rattle.text.proofs.Basics.{and_left, and_right}
use Rattle.algebra.specs.Tally.{bounds}
use Rattle.scoping.specs.Sets.{all}
use Rattle.text.specs.Text.{Bytes, ended}
use Rattle.text.specs.Word.{bytes}
use Rattle.text.specs.Field.{decimal}
use Rattle.emit.specs.bridge.Emit.{Em, em, last, puts}
use Rattle.emit.proofs.Laws.{puts-at}
use Rattle.naming.proofs.Decimals.{digits-five}
use Rattle.answers.specs.Outcome.{Answer, Outcome, refused, written, number, size, Reported}
use Rattle.answers.specs.Both.{ReportedBoth}
use Rattle.answers.proofs.Answers.{spared}
use Rattle.answers.proofs.Numbered.{returned, from-not-zero}
use Rattle.answering.specs.Printed.{refusal_line, printed, left_line, printed_list, Prints}
use Rattle.answering.specs.bridge.Fields.{fields_of}

-- ---- the line of a refusal

-- the word and a tab, the number, a line end
pub line-is : (n : ℕ) → bytes "refused\t" ++ decimal n ++ (10 ∷ []) ≡ refusal_line n
unfolding refusal_line ended
line-is n = append_assoc (bytes "refused\t") (decimal n) (10 ∷ [])

line-length : (n : ℕ) → n < 256 → length (refusal_line n) ≤ 14
unfolding refusal_line ended
line-length n h = omega (arith, digits-five n (omega arith), length-append (decimal n) (10 ∷ []))

-- where the buffer has room for what is put, it stands in front
pub front : (b : Bytes) (r : ℕ) (out now : Bytes) → em r now ≡ puts b (em 0 out) → length out < last → length b ≤ length out → take r now ≡ b
front b r out now e k l =
    let at : r ≡ min (0 + length b) last = ap (λ (m : Em). m.at) e ∙ puts-at b (em 0 out) (omega arith) in
    spared b out now r e (omega arith) k

-- ---- what the outcome says

printed-fits : (b : Bytes) → length b ≤ 65536 → printed (written b) ≡ b
unfolding printed
printed-fits b h = rw (le-leb (length b) 65536 h)

printed-long : (b : Bytes) → 65536 < length b → printed (written b) ≡ refusal_line 6
unfolding printed
printed-long b h = rw (lt-leb (length b) 65536 h)

-- an answer
answer-printed : (o : Outcome) (before answered : Bytes) (n s : ℕ) → (o ≡ refused 0 → ⊥) → length before ≡ 65536 → Reported o before answered n s → n ≡ 0 → take s answered ≡ printed o
answer-printed o before answered n s h k r e =
    let w = returned o before answered n s (from-not-zero o h) r e in
    let l = w.long in
    let i = w.room in
    w.front ∙ sym (ap printed w.is ∙ printed-fits w.text (omega arith))

-- a refusal: the buffer is as it was
refusal-printed : (o : Outcome) (before answered : Bytes) (n s : ℕ) → length before ≡ 65536 → Reported o before answered n s → (n ≡ 0 → ⊥) → (answered ≡ before) × (refusal_line n ≡ printed o)
unfolding Reported printed
refusal-printed (refused k) before answered n s l r h = (r.2, ap refusal_line r.0)
refusal-printed (written b) before answered n s l r h = fits (dec_le (length b) (length before))
  where
    fits : Dec (length b ≤ length before) → (answered ≡ before) × (refusal_line n ≡ printed (written b))
    fits (yes i) = absurd (h (r.0 i).0)
    fits (no i) = let w = r.1 (omega arith) in (w.2, ap refusal_line w.0 ∙ sym (printed-long b (omega arith)))

-- ---- the two ways of the code

pub answer-prints : (a : Answer) (answered : Bytes) (n s : ℕ) → n ≡ number a → n ≡ 0 → s ≡ size a → Prints a answered answered s
answer-prints a answered n s p z q o before h k r = ap (λ (m : ℕ). take m answered) q ∙ answer-printed o before answered (number a) (size a) h k r (sym p ∙ z)

pub refusal-prints : (a : Answer) (answered now : Bytes) (n r : ℕ) → n ≡ number a → (n ≡ 0 → ⊥) → n < 256 → (length (refusal_line n) ≤ length answered → take r now ≡ refusal_line n) → Prints a answered now r
refusal-prints a answered now n r p z i e o before h k x =
    let w = refusal-printed o before answered (number a) (size a) k x (λ q. z (p ∙ q)) in
    let l = line-length n i in
    let same = ap length w.0 in
    e (omega arith) ∙ ap refusal_line p ∙ w.1

-- ---- the line `left`

-- at most as many numbers as a list has entries, each below that
unfoldable pub Few : List ℕ → Type 0
unfolding all
Few xs = (length xs ≤ bounds.entries) × (all (λ k. ltb k bounds.entries) xs ≡ true)

fields-puts : (w : Bytes) (xs : List ℕ) → ended (w ∷ map decimal xs) [] ≡ w ++ (fields_of xs ++ (10 ∷ []))
unfolding ended fields_of
fields-puts w [] = refl
fields-puts w (x ∷ xs) = ap (λ (b : Bytes). w ++ (9 ∷ b)) (fields-puts (decimal x) xs ∙ sym (append_assoc (decimal x) (fields_of xs) (10 ∷ [])))

-- one field after the other
pub fields-next : (list : List ℕ) (j n : ℕ) → j < length list → n ≡ get_or list j 0 → fields_of (drop j list) ≡ (9 ∷ []) ++ decimal n ++ fields_of (drop (j + 1) list)
unfolding fields_of
fields-next list j n h is =
    ap fields_of (drop-cons list j 0 h) ∙ ap₂ (λ (x k : ℕ). 9 ∷ (decimal x ++ fields_of (drop k list))) (sym is) (sym (add-one j))

pub fields-done : (list : List ℕ) (j : ℕ) → length list ≤ j → fields_of (drop j list) ≡ []
unfolding fields_of
fields-done list j h = ap fields_of (drop_of_length-le list h)

pub no-left : (list : List ℕ) (out : Bytes) → length list ≡ 0 → take 0 out ≡ left_line list
unfolding left_line
no-left [] out h = refl
no-left (x ∷ xs) out h = absurd (omega arith)

-- the word, the fields, a line end
pub left-is : (list : List ℕ) → (length list ≡ 0 → ⊥) → bytes "left" ++ fields_of list ++ (10 ∷ []) ≡ left_line list
unfolding left_line
left-is [] h = absurd (h refl)
left-is (x ∷ xs) h = append_assoc (bytes "left") (fields_of (x ∷ xs)) (10 ∷ []) ∙ sym (fields-puts (bytes "left") (x ∷ xs))

fields-length : (xs : List ℕ) → all (λ k. ltb k bounds.entries) xs ≡ true → length (fields_of xs) ≤ 6 * length xs
unfolding fields_of all
fields-length [] h = omega arith
fields-length (x ∷ xs) h =
    let r = fields-length xs (and_right (ltb x bounds.entries) (all (λ k. ltb k bounds.entries) xs) h) in
    let d = digits-five x (let i = ltb-true x bounds.entries (and_left (ltb x bounds.entries) (all (λ k. ltb k bounds.entries) xs) h) in omega arith) in
    let l = length-append (decimal x) (fields_of xs) in
    omega arith

-- a program's buffer has room for the line
left-length : (xs : List ℕ) → Few xs → length (left_line xs) ≤ 65536
unfolding left_line Few
left-length [] f = omega arith
left-length (x ∷ xs) f =
    let a = f.0 in
    let n = fields-length (x ∷ xs) f.1 in
    let e = ap length (fields-puts (bytes "left") (x ∷ xs)) in
    let l = length-append (fields_of (x ∷ xs)) (10 ∷ []) in
    omega arith

pub list_length : (o : Outcome) (xs : List ℕ) → Few xs → length (printed_list o xs) ≤ 65536
unfolding printed_list left_line
list_length (refused k) xs f = omega arith
list_length (written b) xs f = go (leb (length b) 65536)
  where
    go : (t : Bool) → length (cond t (left_line xs) []) ≤ 65536
    go true = left-length xs f
    go false = omega arith

-- the numbers in front of the list are those beside the outcome
pub left-printed : (o : Outcome) (xs : List ℕ) (before answered : Bytes) (lent left : List ℕ) (n s m : ℕ) → length before ≡ 65536 → length xs ≤ length lent → ReportedBoth o xs before answered lent left n s m → left_line (take m left) ≡ printed_list o xs
unfolding ReportedBoth printed_list left_line
left-printed (refused k) xs before answered lent left n s m l h r = ap (λ (j : ℕ). left_line (take j left)) r.2
left-printed (written b) xs before answered lent left n s m l h r = fits (dec_le (length b) (length before))
  where
    fits : Dec (length b ≤ length before) → left_line (take m left) ≡ cond (leb (length b) 65536) (left_line xs) []
    fits (yes i) =
        let y = r.2 i h in
        ap₂ (λ (j : ℕ) (ys : List ℕ). left_line (take j ys)) y.2 y.4 ∙ ap left_line (take-append_seam xs (drop (length xs) lent)) ∙ sym (rw (le-leb (length b) 65536 (omega arith)))
    fits (no i) = ap (λ (j : ℕ). left_line (take j left)) (r.0 (omega arith)).2 ∙ sym (rw (lt-leb (length b) 65536 (omega arith)))
