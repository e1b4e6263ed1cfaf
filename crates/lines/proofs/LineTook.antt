-- The machine reads a line as its fields say, and then its end. Assumes nothing.
use Prim.Native.Nat.{ℕ, zero, suc}
use mathlib.Core.Path.{◌≡◌, refl, sym, ◌∙◌, ap}
use mathlib.Core.List.{List, [], ◌∷◌, ◌++◌, append-nil, append_assoc}
use mathlib.Core.Bool.{Bool, true, false, cond}
use mathlib.Core.Option.{Option, none, some}
use Rattle.text.specs.Text.{Bytes, Line}
use Rattle.text.specs.Word.{spelled}
use Rattle.text.specs.Field.{Kind, variable, lexical, number_of, fits, all_fit}
use Rattle.algebra.specs.Query.{Domain, extra_kind}
use Rattle.algebra.specs.Word.{spell_v, domains}
use Rattle.algebra.specs.Tally.{Tally, noted, headed}
use Rattle.algebra.specs.Reader.{malformed, Got, got, refused, Reader, next, or_refuse, one, kept, field, zero_one, rest, times}
use Rattle.algebra.specs.ListReading as L
use Rattle.algebra.specs.bridge.Table.{Slot, term, text, count, choice, Tail, nothing, columns, variables, texts, values, value, Row}
use Rattle.algebra.specs.bridge.Machine.{Want, wants, slots_then, tail_then, line_by}
use Rattle.words.specs.bridge.Code.{mapped}
use Rattle.lines.specs.bridge.Line.{and_then, Took, took, take_field, Fields, fields, take_slots, take_times, take_value, take_values, take_tail, whole, take_line}

-- what is taken, and then k; or malformed
abbrev on_taken : {A B : Type 0} → Option A → (A → Got B) → Got B
on_taken none k = refused malformed
on_taken (some a) k = k a

next-next : {A B C : Type 0} (g : Got A) (h : A → Reader B) (k : B → Reader C) → next (next g h) k ≡ next g (λ a s m. next (h a s m) k)
next-next (got a s m) h k = refl
next-next (refused n) h k = refl

-- ---- the slots

module _ {A : Type 0} (ss : List Slot) (fs : List Bytes) (cs : List ℕ) (k : List Bytes → List ℕ → Reader A) (m : Tally) where
  slot-took : (σ : Slot) (l : List Bytes) → slots_then (σ ∷ ss) fs cs k (l ∷ []) m ≡ on_taken (take_field σ l) (λ t. slots_then ss (fs ++ t.terms) (cs ++ (t.number ∷ [])) k (t.rest ∷ []) m)
  unfolding one kept
  slot-took (term κ) [] = refl
  slot-took (text κ) [] = refl
  slot-took count [] = refl
  slot-took choice [] = refl
  slot-took (term κ) (f ∷ l) = go (fits κ f)
    where
      go : (b : Bool) → next (or_refuse (kept b f) (l ∷ []) m) (λ f. slots_then ss (fs ++ (f ∷ [])) (cs ++ (0 ∷ [])) k) ≡ on_taken (kept b (took l (f ∷ []) 0)) (λ t. slots_then ss (fs ++ t.terms) (cs ++ (t.number ∷ [])) k (t.rest ∷ []) m)
      go true = refl
      go false = refl
  slot-took (text κ) (f ∷ l) = go (fits κ f)
    where
      go : (b : Bool) → next (or_refuse (kept b f) (l ∷ []) m) (λ f. slots_then ss fs (cs ++ (0 ∷ [])) k) ≡ on_taken (kept b (took l [] 0)) (λ t. slots_then ss (fs ++ t.terms) (cs ++ (t.number ∷ [])) k (t.rest ∷ []) m)
      go true = rw append-nil
      go false = refl
  slot-took count (f ∷ l) = go (number_of f)
    where
      go : (x : Option ℕ) → next (or_refuse x (l ∷ []) m) (λ n. slots_then ss fs (cs ++ (n ∷ [])) k) ≡ on_taken (mapped (λ n. took l [] n) x) (λ t. slots_then ss (fs ++ t.terms) (cs ++ (t.number ∷ [])) k (t.rest ∷ []) m)
      go none = refl
      go (some n) = rw append-nil
  slot-took choice (f ∷ l) = go (zero_one f)
    where
      go : (x : Option Bool) → next (or_refuse x (l ∷ []) m) (λ b. slots_then ss fs (cs ++ (cond b 1 0 ∷ [])) k) ≡ on_taken (mapped (λ b. took l [] (cond b 1 0)) x) (λ t. slots_then ss (fs ++ t.terms) (cs ++ (t.number ∷ [])) k (t.rest ∷ []) m)
      go none = refl
      go (some b) = rw append-nil

slots-took : {A : Type 0} (ss : List Slot) (fs : List Bytes) (cs : List ℕ) (k : List Bytes → List ℕ → Reader A) (l : List Bytes) (m : Tally) → slots_then ss fs cs k (l ∷ []) m ≡ on_taken (take_slots ss l) (λ u. k (fs ++ u.terms) (cs ++ u.numbers) (u.rest ∷ []) m)
unfolding take_slots
slots-took [] fs cs k l m = rw (append-nil fs, append-nil cs)
slots-took (σ ∷ ss) fs cs k l m = slot-took ss fs cs k m σ l ∙ go (take_field σ l) (λ t. slots-took ss (fs ++ t.terms) (cs ++ (t.number ∷ [])) k t.rest m)
  where
    more : (t : Took) (x : Option Fields) → on_taken x (λ u. k (fs ++ t.terms ++ u.terms) (cs ++ (t.number ∷ []) ++ u.numbers) (u.rest ∷ []) m) ≡ on_taken (mapped (λ u. fields u.rest (t.terms ++ u.terms) (t.number ∷ u.numbers)) x) (λ u. k (fs ++ u.terms) (cs ++ u.numbers) (u.rest ∷ []) m)
    more t none = refl
    more t (some u) = rw (append_assoc fs t.terms u.terms, append_assoc cs (t.number ∷ []) u.numbers)

    go : (x : Option Took) → ((t : Took) → slots_then ss (fs ++ t.terms) (cs ++ (t.number ∷ [])) k (t.rest ∷ []) m ≡ on_taken (take_slots ss t.rest) (λ u. k (fs ++ t.terms ++ u.terms) (cs ++ (t.number ∷ []) ++ u.numbers) (u.rest ∷ []) m)) → on_taken x (λ t. slots_then ss (fs ++ t.terms) (cs ++ (t.number ∷ [])) k (t.rest ∷ []) m) ≡ on_taken (and_then x (λ t. mapped (λ u. fields u.rest (t.terms ++ u.terms) (t.number ∷ u.numbers)) (take_slots ss t.rest))) (λ u. k (fs ++ u.terms) (cs ++ u.numbers) (u.rest ∷ []) m)
    go none h = refl
    go (some t) h = h t ∙ more t (take_slots ss t.rest)

-- ---- what stands behind them

-- n fields of one kind, where t says what of a field is counted and `of` what of them all
module _ {B : Type 0} (κ : Kind) (σ : Slot) (t : Bytes → List Bytes) (of : List Bytes → List Bytes) (takes : (f : Bytes) (l : List Bytes) → take_field σ (f ∷ l) ≡ kept (fits κ f) (took l (t f) 0)) (first : of [] ≡ []) (step : (f : Bytes) (vs : List Bytes) → of (f ∷ vs) ≡ t f ++ of vs) (m : Tally) where
  times-took : (n : ℕ) (l : List Bytes) (h : List Bytes → Reader B) → next (times n (field κ) (l ∷ []) m) (λ vs. h (of vs)) ≡ on_taken (take_times n σ l) (λ u. h u.terms (u.rest ∷ []) m)
  unfolding times take_times one kept
  times-took zero l h = rw first
  times-took (suc n) [] h = refl
  times-took (suc n) (f ∷ l) h = rw (takes f l) (go (fits κ f) (times-took n l (λ x. h (t f ++ x))))
    where
      more : (x : Option Fields) → on_taken x (λ u. h (t f ++ u.terms) (u.rest ∷ []) m) ≡ on_taken (mapped (λ u. fields u.rest (t f ++ u.terms) []) x) (λ u. h u.terms (u.rest ∷ []) m)
      more none = refl
      more (some u) = refl

      go : (b : Bool) → next (times n (field κ) (l ∷ []) m) (λ vs. h (t f ++ of vs)) ≡ on_taken (take_times n σ l) (λ u. h (t f ++ u.terms) (u.rest ∷ []) m)
          → next (next (or_refuse (kept b f) (l ∷ []) m) (λ x s m. next (times n (field κ) s m) (λ xs s m. got (x ∷ xs) s m))) (λ vs. h (of vs)) ≡ on_taken (and_then (kept b (took l (t f) 0)) (λ t. mapped (λ u. fields u.rest (t.terms ++ u.terms) []) (take_times n σ t.rest))) (λ u. h u.terms (u.rest ∷ []) m)
      go true q = next-next (times n (field κ) (l ∷ []) m) _ _ ∙ (ap (next (times n (field κ) (l ∷ []) m)) (λ i vs. h (step f vs i)) ∙ (q ∙ more (take_times n σ l)))
      go false q = refl

value-took : {B : Type 0} (m : Tally) (l : List Bytes) (h : Reader B) → next (L.value (l ∷ []) m) (λ v. h) ≡ on_taken (take_value l) (λ r. h (r ∷ []) m)
unfolding one kept
value-took m [] h = refl
value-took m (d ∷ l) h = go l (spelled spell_v domains d) refl
  where
    short : (y : Bytes) (k : Domain) → spelled spell_v domains d ≡ some k → (a : Bool) → fits lexical y ≡ a → next (L.value ((d ∷ y ∷ []) ∷ []) m) (λ v. h) ≡ refused malformed
    short y k q true p = rw (q, p)
    short y k q false p = rw (q, p)

    three : (y x : Bytes) (l : List Bytes) (k : Domain) → spelled spell_v domains d ≡ some k → (a b : Bool) → fits lexical y ≡ a → fits (extra_kind k) x ≡ b → next (L.value ((d ∷ y ∷ x ∷ l) ∷ []) m) (λ v. h) ≡ on_taken (take_value (d ∷ y ∷ x ∷ l)) (λ r. h (r ∷ []) m)
    three y x l k q true true p r = rw (q, p, r)
    three y x l k q true false p r = rw (q, p, r)
    three y x l k q false b p r = rw (q, p)

    go : (l : List Bytes) (x : Option Domain) → spelled spell_v domains d ≡ x → next (L.value ((d ∷ l) ∷ []) m) (λ v. h) ≡ on_taken (take_value (d ∷ l)) (λ r. h (r ∷ []) m)
    go [] none q = rw q
    go [] (some k) q = rw q
    go (y ∷ []) none q = rw q
    go (y ∷ []) (some k) q = short y k q (fits lexical y) refl
    go (y ∷ x ∷ l) none q = rw q
    go (y ∷ x ∷ l) (some k) q = three y x l k q (fits lexical y) (fits (extra_kind k) x) refl refl

values-took : {B : Type 0} (m : Tally) (n : ℕ) (l : List Bytes) (h : List Bytes → Reader B) → next (times n L.value (l ∷ []) m) (λ vs. h []) ≡ on_taken (take_values n l) (λ u. h u.terms (u.rest ∷ []) m)
unfolding times take_values
values-took m zero l h = refl
values-took m (suc n) l h =
    next-next (L.value (l ∷ []) m) _ (λ vs. h [])
    ∙ (ap (next (L.value (l ∷ []) m)) (λ i x s m. next-next (times n L.value s m) (λ xs s m. got (x ∷ xs) s m) (λ vs. h []) i)
    ∙ (value-took m l (λ s m. next (times n L.value s m) (λ vs. h [])) ∙ go (take_value l) (λ r. values-took m n r h)))
  where
    go : (x : Option (List Bytes)) → ((r : List Bytes) → next (times n L.value (r ∷ []) m) (λ vs. h []) ≡ on_taken (take_values n r) (λ u. h u.terms (u.rest ∷ []) m)) → on_taken x (λ r. next (times n L.value (r ∷ []) m) (λ vs. h [])) ≡ on_taken (and_then x (take_values n)) (λ u. h u.terms (u.rest ∷ []) m)
    go none f = refl
    go (some r) f = f r

-- how a line with these terms is counted, by what stands behind its slots
unfoldable pub counted : Tail → List Bytes → Tally → Tally
counted nothing ts = noted ts
counted columns ts = headed ts
counted variables ts = noted ts
counted (texts κ) ts = noted ts
counted values ts = noted ts
counted value ts = noted ts

tail-took : {A : Type 0} (t : Tail) (n : ℕ) (fs : List Bytes) (k : (Tally → Tally) → Reader A) (l : List Bytes) (m : Tally) → tail_then t n fs k (l ∷ []) m ≡ on_taken (take_tail t n l) (λ u. k (counted t (fs ++ u.terms)) (u.rest ∷ []) m)
unfolding counted take_tail rest kept take_values
tail-took nothing n fs k l m = rw append-nil
tail-took columns n fs k l m = go (all_fit variable l)
  where
    go : (b : Bool) → next (or_refuse (kept b l) ([] ∷ []) m) (λ vs. k (headed (fs ++ vs))) ≡ on_taken (kept b (fields [] l [])) (λ u. k (headed (fs ++ u.terms)) (u.rest ∷ []) m)
    go true = refl
    go false = refl
tail-took variables n fs k l m = times-took variable (term variable) (λ f. f ∷ []) (λ vs. vs) (λ f l. refl) refl (λ f vs. refl) m n l (λ vs. k (noted (fs ++ vs)))
tail-took (texts κ) n fs k l m = ap (λ (x : List Bytes). next (times n (field κ) (l ∷ []) m) (λ vs. k (noted x))) (sym (append-nil fs)) ∙ times-took κ (text κ) (λ f. []) (λ vs. []) (λ f l. refl) refl (λ f vs. refl) m n l (λ vs. k (noted (fs ++ vs)))
tail-took values n fs k l m = ap (λ (x : List Bytes). next (times n L.value (l ∷ []) m) (λ vs. k (noted x))) (sym (append-nil fs)) ∙ values-took m n l (λ vs. k (noted (fs ++ vs)))
tail-took value n fs k l m = value-took m l (k (noted fs)) ∙ go (take_value l)
  where
    go : (x : Option (List Bytes)) → on_taken x (λ r. k (noted fs) (r ∷ []) m) ≡ on_taken (and_then x (take_values 0)) (λ u. k (noted (fs ++ u.terms)) (u.rest ∷ []) m)
    go none = refl
    go (some r) = rw append-nil

-- ---- the whole line

-- an end of a line that refuses what is left over
pub record Refuses (close : (Tally → Tally) → Reader (Unit {0})) : Type 0 where
  pub over : (c : Tally → Tally) (f : Bytes) (fs : List Bytes) (ls : List Line) (m : Tally) → close c ((f ∷ fs) ∷ ls) m ≡ refused malformed

-- a line whose fields say that, read up to its end
abbrev pub line_got : ((Tally → Tally) → Reader (Unit {0})) → ℕ → Row → Tally → Option Fields → Got (List Want)
line_got close d r m none = refused malformed
line_got close d r m (some u) = next (close (counted r.tail u.terms) ([] ∷ []) m) (λ x s m. got (wants d u.numbers r.below) s m)

pub line-took : (close : (Tally → Tally) → Reader (Unit {0})) → Refuses close → (d n : ℕ) (r : Row) (l : List Bytes) (m : Tally) → line_by close d n r (l ∷ []) m ≡ line_got close d r m (take_line r n l)
unfolding take_line
line-took close w d n r l m = slots-took r.slots [] [] _ l m ∙ go (take_slots r.slots l)
  where
    ended : (x ts : List Bytes) (ns : List ℕ) → next (close (counted r.tail ts) (x ∷ []) m) (λ x s m. got (wants d ns r.below) s m) ≡ line_got close d r m (whole (fields x ts ns))
    ended [] ts ns = refl
    ended (f ∷ x) ts ns = rw (w.over (counted r.tail ts) f x [] m)

    tailed : (t : Fields) (x : Option Fields) → on_taken x (λ u. next (close (counted r.tail (t.terms ++ u.terms)) (u.rest ∷ []) m) (λ x s m. got (wants d t.numbers r.below) s m)) ≡ line_got close d r m (and_then x (λ u. whole (fields u.rest (t.terms ++ u.terms) t.numbers)))
    tailed t none = refl
    tailed t (some u) = ended u.rest (t.terms ++ u.terms) t.numbers

    go : (x : Option Fields) → on_taken x (λ t. tail_then r.tail n t.terms (λ c s m. next (close c s m) (λ x s m. got (wants d t.numbers r.below) s m)) (t.rest ∷ []) m) ≡ line_got close d r m (and_then x (λ t. and_then (take_tail r.tail n t.rest) (λ u. whole (fields u.rest (t.terms ++ u.terms) t.numbers))))
    go none = refl
    go (some t) = tail-took r.tail n t.terms _ t.rest m ∙ tailed t (take_tail r.tail n t.rest)
