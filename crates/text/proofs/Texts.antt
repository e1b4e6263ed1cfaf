-- Lines as text, and back: neat lines are told from their text, and a text whose lines are all ended is theirs. Assumes nothing.
use mathlib.Core.Path.{◌≡◌, refl, sym, ◌∙◌, ap, ap₂, subst}
use mathlib.Core.Bool.{Bool, true, false, cond, not, ◌&&◌}
use mathlib.Core.List.{List, [], ◌∷◌, ◌++◌, append_assoc}
use Prim.Native.Nat.{ℕ, zero, suc, ◌+◌, ◌≤◌, ◌/◌, ◌%◌}
use native.Mathlib.Omega.{arith}
use lib.Dec.{eqb, ltb}
use lib.ListN.{length, length-append}
use borrow.Author.Tests.{eqb-true, eq-eqb, ne_eqb, not-true, ltb-true, ltb-false}
use Rattle.text.specs.Field.{clean, digits, decimal, Kind, is_kind, fits, all_fit}
use Rattle.text.specs.Text.{Bytes, Line, ended, text_of, onto, split, lines_in, lines_of}
use Rattle.text.proofs.Basics.{and_left, and_right}
use Rattle.text.proofs.Numbers.{digits-small, digits-big}

-- ---- parts, glued by a byte

abbrev pub glue : ℕ → List Bytes → Bytes
glue b [] = []
glue b (p ∷ []) = p
glue b (p ∷ q ∷ ps) = p ++ (b ∷ glue b (q ∷ ps))

glue-onto : (b x : ℕ) (ps : List Bytes) → glue b (onto x ps) ≡ x ∷ glue b ps
unfolding onto
glue-onto b x [] = refl
glue-onto b x (p ∷ []) = refl
glue-onto b x (p ∷ q ∷ ps) = refl

pub record Parts (ps : List Bytes) : Type 0 where
  pub first : Bytes
  pub others : List Bytes
  pub are : ps ≡ first ∷ others

split_parts : (b : ℕ) (s : Bytes) → Parts (split b s)
unfolding split onto
split_parts b [] = record { first = []; others = []; are = refl }
split_parts b (x ∷ xs) = go (eqb x b) (split b xs)
  where
    go : (t : Bool) (ps : List Bytes) → Parts (cond t ([] ∷ ps) (onto x ps))
    go true ps = record { first = []; others = ps; are = refl }
    go false [] = record { first = x ∷ []; others = []; are = refl }
    go false (p ∷ ps) = record { first = x ∷ p; others = ps; are = refl }

pub glue-split : (b : ℕ) (s : Bytes) → glue b (split b s) ≡ s
unfolding split
glue-split b [] = refl
glue-split b (x ∷ xs) = go (eqb x b) refl (glue-split b xs) (split_parts b xs)
  where
    go : (t : Bool) → eqb x b ≡ t → glue b (split b xs) ≡ xs → Parts (split b xs) → glue b (cond (eqb x b) ([] ∷ split b xs) (onto x (split b xs))) ≡ x ∷ xs
    go true q e w = rw (q, w.are) (ap₂ ◌∷◌ (sym (eqb-true x b q)) (sym (ap (glue b) w.are) ∙ e))
    go false q e w = rw q (glue-onto b x (split b xs) ∙ ap (λ l. x ∷ l) e)

-- a run of bytes without b
unfoldable pub lacks : ℕ → Bytes → Bool
lacks b [] = true
lacks b (x ∷ xs) = not (eqb x b) && lacks b xs

split-lacks : (b : ℕ) (f : Bytes) → lacks b f ≡ true → split b f ≡ f ∷ []
unfolding lacks split onto
split-lacks b [] h = refl
split-lacks b (x ∷ xs) h = rw (not-true (eqb x b) (and_left (not (eqb x b)) (lacks b xs) h), split-lacks b xs (and_right (not (eqb x b)) (lacks b xs) h))

split-run : (b : ℕ) (f r : Bytes) → lacks b f ≡ true → split b (f ++ (b ∷ r)) ≡ f ∷ split b r
unfolding lacks split onto
split-run b [] r h = rw (eq-eqb b b refl)
split-run b (x ∷ xs) r h = rw (not-true (eqb x b) (and_left (not (eqb x b)) (lacks b xs) h), split-run b xs r (and_right (not (eqb x b)) (lacks b xs) h))

clean-lacks : (f : Bytes) → clean f ≡ true → (lacks 9 f ≡ true) × (lacks 10 f ≡ true)
unfolding clean lacks
clean-lacks [] h = (refl, refl)
clean-lacks (x ∷ xs) h =
    let a = and_left (not (eqb x 9)) (not (eqb x 10) && clean xs) h in
    let r = and_right (not (eqb x 9)) (not (eqb x 10) && clean xs) h in
    let i = clean-lacks xs (and_right (not (eqb x 10)) (clean xs) r) in
    (rw (a, i.0), rw (and_left (not (eqb x 10)) (clean xs) r, i.1))

lacks-append : (b : ℕ) (f g : Bytes) → lacks b f ≡ true → lacks b g ≡ true → lacks b (f ++ g) ≡ true
unfolding lacks
lacks-append b [] g h i = i
lacks-append b (x ∷ xs) g h i = rw (and_left (not (eqb x b)) (lacks b xs) h, lacks-append b xs g (and_right (not (eqb x b)) (lacks b xs) h) i)

-- ---- lines

abbrev pub AllClean : List Bytes → Type 0
AllClean [] = Unit {0}
AllClean (f ∷ fs) = (clean f ≡ true) × AllClean fs

-- lines that can be told from their text
abbrev pub Neat : List Line → Type 0
Neat [] = Unit {0}
Neat ([] ∷ ls) = ⊥
Neat ((f ∷ fs) ∷ ls) = AllClean (f ∷ fs) × Neat ls

pub ended-glue : (l : Line) (r : Bytes) → ended l r ≡ glue 9 l ++ (10 ∷ r)
unfolding ended
ended-glue [] r = refl
ended-glue (f ∷ []) r = refl
ended-glue (f ∷ g ∷ fs) r = rw (ended-glue (g ∷ fs) r) (sym (append_assoc f (9 ∷ glue 9 (g ∷ fs)) (10 ∷ r)))

glue-lacks : (l : Line) → AllClean l → lacks 10 (glue 9 l) ≡ true
unfolding lacks
glue-lacks [] c = refl
glue-lacks (f ∷ []) c = (clean-lacks f c.0).1
glue-lacks (f ∷ g ∷ fs) c = lacks-append 10 f (9 ∷ glue 9 (g ∷ fs)) (clean-lacks f c.0).1 (glue-lacks (g ∷ fs) c.1)

pub fields_back : (f : Bytes) (fs : List Bytes) → AllClean (f ∷ fs) → split 9 (glue 9 (f ∷ fs)) ≡ f ∷ fs
fields_back f [] c = split-lacks 9 f (clean-lacks f c.0).0
fields_back f (g ∷ fs) c = split-run 9 f (glue 9 (g ∷ fs)) (clean-lacks f c.0).0 ∙ ap (λ l. f ∷ l) (fields_back g fs c.1)

lines_more : (l : Bytes) (ps : List Bytes) → Parts ps → lines_in (l ∷ ps) ≡ split 9 l ∷ lines_in ps
unfolding lines_in
lines_more l ps w = rw w.are

pub lines-back : (ls : List Line) → Neat ls → lines_of (text_of ls) ≡ ls
unfolding lines_of text_of lines_in split
lines-back [] n = refl
lines-back ([] ∷ ls) n = absurd n
lines-back ((f ∷ fs) ∷ ls) n =
    ap (λ s. lines_in (split 10 s)) (ended-glue (f ∷ fs) (text_of ls))
    ∙ (ap lines_in (split-run 10 (glue 9 (f ∷ fs)) (text_of ls) (glue-lacks (f ∷ fs) n.0))
    ∙ (lines_more (glue 9 (f ∷ fs)) (split 10 (text_of ls)) (split_parts 10 (text_of ls))
    ∙ ap₂ ◌∷◌ (fields_back f fs n.0) (lines-back ls n.1)))

-- no line without fields
abbrev pub Ended : List Line → Type 0
Ended [] = Unit {0}
Ended ([] ∷ ls) = ⊥
Ended ((f ∷ fs) ∷ ls) = Ended ls

pub neat-ended : (ls : List Line) → Neat ls → Ended ls
neat-ended [] n = tt
neat-ended ([] ∷ ls) n = n
neat-ended ((f ∷ fs) ∷ ls) n = neat-ended ls n.1

ended-tail : (l : Line) (ls : List Line) → Ended (l ∷ ls) → Ended ls
ended-tail [] ls e = absurd e
ended-tail (f ∷ fs) ls e = e

parts-text : (ps : List Bytes) → Ended (lines_in ps) → text_of (lines_in ps) ≡ glue 10 ps
unfolding lines_in text_of
parts-text [] e = refl
parts-text ([] ∷ []) e = refl
parts-text ((x ∷ xs) ∷ []) e = absurd e
parts-text (l ∷ m ∷ ls) e =
    ended-glue (split 9 l) (text_of (lines_in (m ∷ ls)))
    ∙ ap₂ (λ a b. a ++ (10 ∷ b)) (glue-split 9 l) (parts-text (m ∷ ls) (ended-tail (split 9 l) (lines_in (m ∷ ls)) e))

pub text-back : (s : Bytes) → Ended (lines_of s) → text_of (lines_of s) ≡ s
unfolding lines_of
text-back s e = parts-text (split 10 s) e ∙ glue-split 10 s

-- each line has a byte of its own at least, and each field
abbrev pub fields_in : List Line → ℕ
fields_in [] = 0
fields_in (l ∷ ls) = length l + fields_in ls

ended-length : (l : Line) (r : Bytes) → (suc (length r) ≤ length (ended l r)) × (length l + length r ≤ length (ended l r))
unfolding ended
ended-length [] r = (omega arith, omega arith)
ended-length (f ∷ []) r = (simp length-append (omega arith), simp length-append (omega arith))
ended-length (f ∷ g ∷ fs) r = let a = ended-length (g ∷ fs) r in (simp length-append (omega arith), simp length-append (omega arith))

pub text-length : (ls : List Line) → (length ls ≤ length (text_of ls)) × (fields_in ls ≤ length (text_of ls))
unfolding text_of
text-length [] = (omega arith, omega arith)
text-length (l ∷ ls) =
    let a = ended-length l (text_of ls) in
    let b = text-length ls in
    (omega arith, omega arith)

-- ---- fields without tabs and line ends

pub fits-clean : (k : Kind) (f : Bytes) → fits k f ≡ true → clean f ≡ true
unfolding fits
fits-clean k f h = and_left (clean f) (is_kind k f) h

pub all-clean : (k : Kind) (fs : List Bytes) → all_fit k fs ≡ true → AllClean fs
unfolding all_fit
all-clean k [] h = tt
all-clean k (f ∷ fs) h = (fits-clean k f (and_left (fits k f) (all_fit k fs) h), all-clean k fs (and_right (fits k f) (all_fit k fs) h))

digit-clean : (c : ℕ) (f : Bytes) → clean f ≡ true → clean (f ++ ((c + 48) ∷ [])) ≡ true
unfolding clean
digit-clean c [] h =
    let a : c + 48 ≡ 9 → ⊥ = omega arith in
    let b : c + 48 ≡ 10 → ⊥ = omega arith in
    rw (ne_eqb (c + 48) 9 a, ne_eqb (c + 48) 10 b)
digit-clean c (x ∷ xs) h =
    let r = and_right (not (eqb x 9)) (not (eqb x 10) && clean xs) h in
    rw (and_left (not (eqb x 9)) (not (eqb x 10) && clean xs) h, and_left (not (eqb x 10)) (clean xs) r, digit-clean c xs (and_right (not (eqb x 10)) (clean xs) r))

digits-clean : (k n : ℕ) → clean (digits k n) ≡ true
unfolding digits clean
digits-clean zero n = refl
digits-clean (suc k) n = go (ltb n 10) refl (digits-clean k (n / 10))
  where
    go : (t : Bool) → ltb n 10 ≡ t → clean (digits k (n / 10)) ≡ true → clean (digits (suc k) n) ≡ true
    go true e h = ap clean (digits-small k n (ltb-true n 10 e)) ∙ digit-clean n [] refl
    go false e h = ap clean (digits-big k n (ltb-false n 10 e)) ∙ digit-clean (n % 10) (digits k (n / 10)) h

pub decimal-clean : (n : ℕ) → clean (decimal n) ≡ true
unfolding decimal
decimal-clean n = digits-clean (suc n) n
