-- The check of a text line by line is the same of a text with literals erased. Assumes nothing.
use mathlib.Core.Path.{◌≡◌, refl, sym, ap, ap₂, subst, fun_ext, ◌∙◌}
use mathlib.Core.Bool.{Bool, true, false, cond}
use mathlib.Core.List.{List, [], ◌∷◌, ◌++◌, map}
use mathlib.Core.Option.{Option, none, some}
use Prim.Native.Nat.{ℕ, zero, suc, max, pred}
use Rattle.text.specs.Text.{Bytes, Line, same}
use Rattle.text.specs.Word.{bytes, spelled}
use Rattle.text.specs.Field.{number_of, Kind, variable, lexical, fits, all_fit}
use Rattle.algebra.specs.Query.{Domain, PlainString, LanguageTaggedString, Iri, Float, Double, UnsignedLong, NonNegativeLong, UnsignedInt, NonNegativeInt, Long, Int, Boolean, Null, Tuple, Map, Other, Value, extra_kind}
use Rattle.algebra.specs.Word.{spell_v, domains}
use Rattle.algebra.specs.Tally.{Limits, Tally, noted, headed}
use Rattle.algebra.specs.Reader.{Refusal, malformed, Got, got, refused, Reader, next, or_refuse, one, kept, field, number, zero_one, rest, times, end, too_many}
use Rattle.algebra.specs.bridge.Table.{Slot, term, text, count, choice, Tail, nothing, columns, variables, texts, values, value, Row, row_for, opens}
use Rattle.algebra.specs.bridge.Machine.{Want, wants, slots_then, tail_then, line_by, closing, line_of, Check, resume, More, Demand, demand, turn, run}
use Rattle.scoping.proofs.Basics.{map-append}
use Rattle.merging.proofs.Lists.{map-length}
use Rattle.laws.proofs.Erased.{erased, erased_line, fits-erased, all-fit-erased, number-erased, same-erased, notes-erased}
use Rattle.algebra.specs.ListReading as L

-- readers of one line, on it and on it erased
pub data Both (may : Bytes → Bool) {A : Type 0} (f : A → A) : Got A → Got A → Type 0 where
  both-refused : (n : Refusal) → Both may f (refused n) (refused n)
  both_got : (a : A) (fs : List Bytes) (m : Tally) → Both may f (got a (fs ∷ []) m) (got (f a) (map (erased may) fs ∷ []) m)

module _ (may : Bytes → Bool) where
  next-same : {A B : Type 0} (f : A → A) (g h : Got A) (k l : A → Reader B) → Both may f g h → ((a : A) (fs : List Bytes) (m : Tally) → k a (fs ∷ []) m ≡ l (f a) (map (erased may) fs ∷ []) m) → next g k ≡ next h l
  next-same f g h k l (both-refused n) e = refl
  next-same f g h k l (both_got a fs m) e = e a fs m

  next_both : {A B : Type 0} (f : A → A) (t : B → B) (g h : Got A) (k l : A → Reader B) → Both may f g h → ((a : A) (fs : List Bytes) (m : Tally) → Both may t (k a (fs ∷ []) m) (l (f a) (map (erased may) fs ∷ []) m)) → Both may t (next g k) (next h l)
  next_both f t g h k l (both-refused n) e = both-refused n
  next_both f t g h k l (both_got a fs m) e = e a fs m

  abbrev ReadsErased : {A : Type 0} → (A → A) → Reader A → Type 0
  ReadsErased f r = (fs : List Bytes) (m : Tally) → Both may f (r (fs ∷ []) m) (r (map (erased may) fs ∷ []) m)

  pub field-erased : (k : Kind) → ReadsErased (erased may) (field k)
  unfolding one kept
  field-erased k [] m = both-refused malformed
  field-erased k (f ∷ fs) m = subst (λ (b : Bool). Both may (erased may) (or_refuse (kept (fits k f) f) (fs ∷ []) m) (or_refuse (kept b (erased may f)) (map (erased may) fs ∷ []) m)) (sym (fits-erased may k f)) (base (fits k f))
    where
      base : (t : Bool) → Both may (erased may) (or_refuse (kept t f) (fs ∷ []) m) (or_refuse (kept t (erased may f)) (map (erased may) fs ∷ []) m)
      base true = both_got f fs m
      base false = both-refused malformed

  option-erased : {A : Type 0} (o : Option A) (fs : List Bytes) (m : Tally) → Both may (λ a. a) (or_refuse o (fs ∷ []) m) (or_refuse o (map (erased may) fs ∷ []) m)
  option-erased none fs m = both-refused malformed
  option-erased (some a) fs m = both_got a fs m

  one-erased : {A : Type 0} (g : Bytes → Option A) → ((f : Bytes) → g (erased may f) ≡ g f) → ReadsErased (λ a. a) (one g)
  unfolding one
  one-erased g e [] m = both-refused malformed
  one-erased g e (f ∷ fs) m = subst (λ o. Both may (λ a. a) (or_refuse (g f) (fs ∷ []) m) (or_refuse o (map (erased may) fs ∷ []) m)) (sym (e f)) (option-erased (g f) fs m)

  rest-erased : (k : Kind) → ReadsErased (map (erased may)) (rest k)
  unfolding rest kept
  rest-erased k fs m = subst (λ (b : Bool). Both may (map (erased may)) (or_refuse (kept (all_fit k fs) fs) ([] ∷ []) m) (or_refuse (kept b (map (erased may) fs)) ([] ∷ []) m)) (sym (all-fit-erased may k fs)) (base (all_fit k fs))
    where
      base : (t : Bool) → Both may (map (erased may)) (or_refuse (kept t fs) ([] ∷ []) m) (or_refuse (kept t (map (erased may) fs)) ([] ∷ []) m)
      base true = both_got fs [] m
      base false = both-refused malformed

  times-erased : {A : Type 0} (f : A → A) (r : Reader A) → ReadsErased f r → (n : ℕ) → ReadsErased (map f) (times n r)
  unfolding times
  times-erased f r b zero fs m = both_got [] fs m
  times-erased f r b (suc n) fs m =
      next_both f (map f) (r (fs ∷ []) m) (r (map (erased may) fs ∷ []) m) _ _ (b fs m) (λ x fs m.
      next_both (map f) (map f) (times n r (fs ∷ []) m) (times n r (map (erased may) fs ∷ []) m) _ _ (times-erased f r b n fs m) (λ xs fs m. both_got (x ∷ xs) fs m))

  -- ---- words and numbers

  zero-one-erased : (f : Bytes) → zero_one (erased may f) ≡ zero_one f
  unfolding same
  zero-one-erased f = ap₂ (λ (a b : Bool). cond a (some false) (cond b (some true) none)) (same-erased may (bytes "0") f (λ ys. refl)) (same-erased may (bytes "1") f (λ ys. refl))

  spelled-erased : {A : Type 0} (sp : A → Bytes) → ((a : A) (ys : Bytes) → same (34 ∷ ys) (sp a) ≡ false) → (xs : List A) (f : Bytes) → spelled sp xs (erased may f) ≡ spelled sp xs f
  unfolding spelled
  spelled-erased sp n [] f = refl
  spelled-erased sp n (x ∷ xs) f = ap₂ (λ (b : Bool) (o : Option _). cond b (some x) o) (same-erased may (sp x) f (n x)) (spelled-erased sp n xs f)

  no-domain : (d : Domain) (ys : Bytes) → same (34 ∷ ys) (spell_v d) ≡ false
  unfolding same
  no-domain PlainString ys = refl
  no-domain LanguageTaggedString ys = refl
  no-domain Iri ys = refl
  no-domain Float ys = refl
  no-domain Double ys = refl
  no-domain UnsignedLong ys = refl
  no-domain NonNegativeLong ys = refl
  no-domain UnsignedInt ys = refl
  no-domain NonNegativeInt ys = refl
  no-domain Long ys = refl
  no-domain Int ys = refl
  no-domain Boolean ys = refl
  no-domain Null ys = refl
  no-domain Tuple ys = refl
  no-domain Map ys = refl
  no-domain Other ys = refl

  abbrev erased_value : Value → Value
  erased_value v = record { domain = v.domain; lexical = erased may v.lexical; extra = erased may v.extra }

  value-erased : ReadsErased erased_value L.value
  value-erased fs m =
      next_both (λ d. d) erased_value (one (spelled spell_v domains) (fs ∷ []) m) (one (spelled spell_v domains) (map (erased may) fs ∷ []) m) _ _ (one-erased (spelled spell_v domains) (spelled-erased spell_v no-domain domains) fs m) (λ d fs m.
      next_both (erased may) erased_value (field lexical (fs ∷ []) m) (field lexical (map (erased may) fs ∷ []) m) _ _ (field-erased lexical fs m) (λ l fs m.
      next_both (erased may) erased_value (field (extra_kind d) (fs ∷ []) m) (field (extra_kind d) (map (erased may) fs ∷ []) m) _ _ (field-erased (extra_kind d) fs m) (λ x fs m. both_got (record { domain = d; lexical = l; extra = x }) fs m)))

  -- ---- what is counted on a line

  pub noted-same : (fs : List Bytes) → noted (map (erased may) fs) ≡ noted fs
  unfolding noted
  noted-same fs = fun_ext (λ m. λ i. record { lines = suc m.lines; wide = m.wide; names = notes-erased may fs m.names i })

  headed-same : (fs : List Bytes) → headed (map (erased may) fs) ≡ headed fs
  unfolding headed
  headed-same fs = fun_ext (λ m. λ i. record { lines = suc m.lines; wide = max m.wide (map-length (erased may) fs i); names = notes-erased may fs m.names i })

  -- ---- a line by its row

  module _ (k : List Bytes → List ℕ → Reader (List Want)) (e : (ts : List Bytes) (cs : List ℕ) (fs : List Bytes) (m : Tally) → k ts cs (fs ∷ []) m ≡ k (map (erased may) ts) cs (map (erased may) fs ∷ []) m) where
    slots-erased : (ss : List Slot) (ts : List Bytes) (cs : List ℕ) (fs : List Bytes) (m : Tally) → slots_then ss ts cs k (fs ∷ []) m ≡ slots_then ss (map (erased may) ts) cs k (map (erased may) fs ∷ []) m
    slots-erased [] ts cs fs m = e ts cs fs m
    slots-erased (term κ ∷ ss) ts cs fs m =
        next-same (erased may) (field κ (fs ∷ []) m) (field κ (map (erased may) fs ∷ []) m) _ _ (field-erased κ fs m)
        (λ f fs m. slots-erased ss (ts ++ (f ∷ [])) (cs ++ (0 ∷ [])) fs m ∙ ap (λ (l : List Bytes). slots_then ss l (cs ++ (0 ∷ [])) k (map (erased may) fs ∷ []) m) (map-append (erased may) ts (f ∷ [])))
    slots-erased (text κ ∷ ss) ts cs fs m =
        next-same (erased may) (field κ (fs ∷ []) m) (field κ (map (erased may) fs ∷ []) m) _ _ (field-erased κ fs m) (λ f fs m. slots-erased ss ts (cs ++ (0 ∷ [])) fs m)
    slots-erased (count ∷ ss) ts cs fs m =
        next-same (λ n. n) (number (fs ∷ []) m) (number (map (erased may) fs ∷ []) m) _ _ (one-erased number_of (number-erased may) fs m) (λ n fs m. slots-erased ss ts (cs ++ (n ∷ [])) fs m)
    slots-erased (choice ∷ ss) ts cs fs m =
        next-same (λ b. b) (one zero_one (fs ∷ []) m) (one zero_one (map (erased may) fs ∷ []) m) _ _ (one-erased zero_one zero-one-erased fs m) (λ b fs m. slots-erased ss ts (cs ++ (cond b 1 0 ∷ [])) fs m)

  module _ (k : (Tally → Tally) → Reader (List Want)) (e : (c : Tally → Tally) (fs : List Bytes) (m : Tally) → k c (fs ∷ []) m ≡ k c (map (erased may) fs ∷ []) m) where
    noted-end : (ts fs : List Bytes) (m : Tally) → k (noted ts) (fs ∷ []) m ≡ k (noted (map (erased may) ts)) (map (erased may) fs ∷ []) m
    noted-end ts fs m = e (noted ts) fs m ∙ ap (λ (c : Tally → Tally). k c (map (erased may) fs ∷ []) m) (sym (noted-same ts))

    tail-erased : (t : Tail) (n : ℕ) (ts fs : List Bytes) (m : Tally) → tail_then t n ts k (fs ∷ []) m ≡ tail_then t n (map (erased may) ts) k (map (erased may) fs ∷ []) m
    tail-erased nothing n ts fs m = noted-end ts fs m
    tail-erased columns n ts fs m =
        next-same (map (erased may)) (rest variable (fs ∷ []) m) (rest variable (map (erased may) fs ∷ []) m) _ _ (rest-erased variable fs m)
        (λ vs fs m. e (headed (ts ++ vs)) fs m ∙ ap (λ (c : Tally → Tally). k c (map (erased may) fs ∷ []) m) (sym (headed-same (ts ++ vs)) ∙ ap headed (map-append (erased may) ts vs)))
    tail-erased variables n ts fs m =
        next-same (map (erased may)) (times n (field variable) (fs ∷ []) m) (times n (field variable) (map (erased may) fs ∷ []) m) _ _ (times-erased (erased may) (field variable) (field-erased variable) n fs m)
        (λ vs fs m. e (noted (ts ++ vs)) fs m ∙ ap (λ (c : Tally → Tally). k c (map (erased may) fs ∷ []) m) (sym (noted-same (ts ++ vs)) ∙ ap noted (map-append (erased may) ts vs)))
    tail-erased (texts κ) n ts fs m =
        next-same (map (erased may)) (times n (field κ) (fs ∷ []) m) (times n (field κ) (map (erased may) fs ∷ []) m) _ _ (times-erased (erased may) (field κ) (field-erased κ) n fs m) (λ vs fs m. noted-end ts fs m)
    tail-erased values n ts fs m =
        next-same (map erased_value) (times n L.value (fs ∷ []) m) (times n L.value (map (erased may) fs ∷ []) m) _ _ (times-erased erased_value L.value value-erased n fs m) (λ vs fs m. noted-end ts fs m)
    tail-erased value n ts fs m =
        next-same erased_value (L.value (fs ∷ []) m) (L.value (map (erased may) fs ∷ []) m) _ _ (value-erased fs m) (λ v fs m. noted-end ts fs m)

  module _ (β : Limits) where
    end-erased : (c : Tally → Tally) (fs : List Bytes) (m : Tally) → end β c (fs ∷ []) m ≡ end β c (map (erased may) fs ∷ []) m
    unfolding end
    end-erased c [] m = refl
    end-erased c (f ∷ fs) m = refl

    many-erased : (c : Tally → Tally) (fs : List Bytes) (m : Tally) → too_many c (fs ∷ []) m ≡ too_many c (map (erased may) fs ∷ []) m
    unfolding too_many
    many-erased c [] m = refl
    many-erased c (f ∷ fs) m = refl

    closing-erased : (o : Bool) (d : ℕ) (c : Tally → Tally) (fs : List Bytes) (m : Tally) → closing β o d c (fs ∷ []) m ≡ closing β o d c (map (erased may) fs ∷ []) m
    closing-erased true zero c fs m = many-erased c fs m
    closing-erased true (suc d) c fs m = end-erased c fs m
    closing-erased false d c fs m = end-erased c fs m

    row-erased : (o : Bool) (d e n : ℕ) (r : Row) (fs : List Bytes) (m : Tally) → line_by (closing β o d) e n r (fs ∷ []) m ≡ line_by (closing β o d) e n r (map (erased may) fs ∷ []) m
    row-erased o d e n r fs m = slots-erased _
        (λ ts cs fs m. tail-erased _ (λ c fs m. ap (λ (g : Got (Unit {0})). next g (λ a. λ s m. got (wants e cs r.below) s m)) (closing-erased o d c fs m)) r.tail n ts fs m)
        r.slots [] [] fs m

    pub line-erased : (w : Want) (l : Line) (m : Tally) → line_of β w (l ∷ []) m ≡ line_of β w (erased_line may l ∷ []) m
    unfolding line_of one erased_line
    line-erased w [] m = refl
    line-erased w (x ∷ fs) m = go (same x (bytes "query"))
      where
        inner : (o : Option Row) → next (or_refuse o (fs ∷ []) m) (λ r. line_by (closing β (opens w.sort) w.level) (cond (opens w.sort) (pred w.level) w.level) w.width r)
            ≡ next (or_refuse o (map (erased may) fs ∷ []) m) (λ r. line_by (closing β (opens w.sort) w.level) (cond (opens w.sort) (pred w.level) w.level) w.width r)
        inner none = refl
        inner (some r) = row-erased (opens w.sort) w.level (cond (opens w.sort) (pred w.level) w.level) w.width r fs m

        go : (t : Bool) → line_of β w ((x ∷ fs) ∷ []) m ≡ line_of β w (cond t (x ∷ fs) (x ∷ map (erased may) fs) ∷ []) m
        go true = refl
        go false = inner (row_for w.sort x)

    -- all lines
    pub run-erased : (ls : List Line) (ρ : More) (ws : List Want) (m : Tally) → run β (map (erased_line may) ls) ρ ws m ≡ run β ls ρ ws m
    unfolding run
    run-erased [] ρ ws m = refl
    run-erased (l ∷ ls) ρ ws m = go (demand ρ ws) (fun_ext (λ ρ. fun_ext (λ ws. fun_ext (λ m. run-erased ls ρ ws m))))
      where
        go : (d : Option Demand) → run β (map (erased_line may) ls) ≡ run β ls → turn β d (run β (map (erased_line may) ls)) (erased_line may l) m ≡ turn β d (run β ls) l m
        go none r = refl
        go (some d) r = ap₂ (λ (g : Got (List Want)) (k : More → List Want → Tally → Check). resume g (λ below t m'. k d.again (below ++ d.behind) m')) (sym (line-erased d.this l m)) r
