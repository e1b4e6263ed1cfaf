-- A reader of fields looks at its own line alone, so a line read by itself goes as it does in front of the lines that follow. Assumes nothing.
use mathlib.Core.Path.{◌≡◌, refl}
use mathlib.Core.Bool.{Bool, true, false, cond}
use mathlib.Core.List.{List, [], ◌∷◌, map}
use mathlib.Core.Option.{Option, none, some}
use Prim.Native.Nat.{ℕ, zero, suc, ◌+◌, ◌≤◌}
use native.Mathlib.Omega.{arith}
use Rattle.text.specs.Text.{Bytes, Line, same}
use Rattle.text.specs.Word.{spelled}
use Rattle.text.specs.Field.{number_of, Kind, all_fit}
use Rattle.algebra.specs.Word.{counted}
use Rattle.algebra.specs.Tally.{Limits, Tally, within}
use Rattle.algebra.specs.Reader.{Refusal, malformed, over_bound, got, refused, Reader, next, or_refuse, one, kept, number, keyword, rest, times, end, too_many, close_at}
use Rattle.algebra.specs.Reading.{taken, inside}
use Rattle.algebra.specs.ListReading.{value}
use Rattle.algebra.specs.bridge.Table.{Row, entry, row_in}
use Rattle.algebra.specs.bridge.Machine.{Check, resume}

pub data Local {A : Type 0} (r : Reader A) (l : Line) (m : Tally) : Type 0 where
  stops : (n : Refusal) → ((ls : List Line) → r (l ∷ ls) m ≡ refused n) → Local r l m
  goes : (a : A) (x : Line) → ((ls : List Line) → r (l ∷ ls) m ≡ got a (x ∷ ls) m) → Local r l m

-- what a line alone gives, F, and what it gives in front of others, G, are the same if they are so for what is left of it
pub local : {A B C : Type 0} {r : Reader A} {l : Line} {m : Tally} (k : A → Reader B) (h : A → Reader C) (F : B → List Line → Tally → Check) (G : C → List Line → Tally → Check) (ls : List Line) → Local r l m → ((a : A) (x : Line) → resume (k a (x ∷ []) m) F ≡ resume (h a (x ∷ ls) m) G) → resume (next (r (l ∷ []) m) k) F ≡ resume (next (r (l ∷ ls) m) h) G
local k h F G ls (stops n e) f = rw (e [], e ls)
local k h F G ls (goes a x e) f = rw (e [], e ls) (f a x)

-- two such readers, one after the other
then : {A B : Type 0} {r : Reader A} {l : Line} {m : Tally} (k : A → Reader B) → Local r l m → ((a : A) (x : Line) → Local (k a) x m) → Local (λ s n. next (r s n) k) l m
then k (stops n e) f = stops n (λ ls. rw (e ls))
then {B = B} {r = r} {l = l} {m = m} k (goes a x e) f = more (f a x)
  where
    more : Local (k a) x m → Local (λ s n. next (r s n) k) l m
    more (stops n h) = stops n (λ ls. rw (e ls, h ls))
    more (goes b y h) = goes b y (λ ls. rw (e ls, h ls))

return-local : {A : Type 0} (a : A) (l : Line) (m : Tally) → Local (λ s n. got a s n) l m
return-local a l m = goes a l (λ ls. refl)

pub one_local : {A : Type 0} (g : Bytes → Option A) (l : Line) (m : Tally) → Local (one g) l m
unfolding one
one_local g [] m = stops malformed (λ ls. refl)
one_local g (f ∷ fs) m = go (g f) refl
  where
    go : (x : Option _) → g f ≡ x → Local (one g) (f ∷ fs) m
    go none q = stops malformed (λ ls. rw q)
    go (some a) q = goes a fs (λ ls. rw q)

pub one-nil : {A : Type 0} (g : Bytes → Option A) (m : Tally) → one g [] m ≡ refused malformed
unfolding one
one-nil g m = refl

pub rest-local : (k : Kind) (l : Line) (m : Tally) → Local (rest k) l m
unfolding rest kept
rest-local k l m = go (all_fit k l) refl
  where
    go : (b : Bool) → all_fit k l ≡ b → Local (rest k) l m
    go true q = goes l [] (λ ls. rw q)
    go false q = stops malformed (λ ls. rw q)

pub times-local : {A : Type 0} (r : Reader A) → ((l : Line) (m : Tally) → Local r l m) → (n : ℕ) (l : Line) (m : Tally) → Local (times n r) l m
unfolding times
times-local r w zero l m = return-local [] l m
times-local r w (suc n) l m = then _ (w l m) λ a x. then _ (times-local r w n x m) λ bs y. return-local (a ∷ bs) y m

-- the number that a counted word has in its line
pub counted-line : {B C : Type 0} (j : ℕ) (k : ℕ → Reader B) (h : ℕ → Reader C) (F : B → List Line → Tally → Check) (G : C → List Line → Tally → Check) (l : Line) (ls : List Line) (m : Tally) → ((n : ℕ) (x : Line) → resume (k n (x ∷ []) m) F ≡ resume (h (n + j) (x ∷ ls) m) G) → resume (next (number (l ∷ []) m) k) F ≡ resume (next (taken (counted j) (l ∷ ls) m) h) G
counted-line j k h F G l ls m f = go (one_local number_of l m)
  where
    go : Local number l m → resume (next (number (l ∷ []) m) k) F ≡ resume (next (taken (counted j) (l ∷ ls) m) h) G
    go (stops n e) = rw (e [], e ls)
    go (goes n x e) = rw (e [], e ls) (f n x)

pub value-local : (l : Line) (m : Tally) → Local value l m
value-local l m = then _ (one_local _ l m) λ d x. then _ (one_local _ x m) λ f y. then _ (one_local _ y m) λ g z. return-local _ z m

-- ---- the word of a line: the table's row is that of the word that is read

abbrev rowed : {W : Type 0} → (W → Row) → Option W → Option Row
rowed rows none = none
rowed rows (some w) = some (rows w)

pub row_word : {W : Type 0} (sp : W → Bytes) (rows : W → Row) (ws : List W) (f : Bytes) → row_in (map (λ w. entry (sp w) (rows w)) ws) f ≡ rowed rows (spelled sp ws f)
unfolding row_in spelled
row_word sp rows [] f = refl
row_word sp rows (w ∷ ws) f = go (same f (sp w)) (row_word sp rows ws f)
  where
    go : (b : Bool) → row_in (map (λ w. entry (sp w) (rows w)) ws) f ≡ rowed rows (spelled sp ws f) → cond b (some (rows w)) (row_in (map (λ w. entry (sp w) (rows w)) ws) f) ≡ rowed rows (cond b (some w) (spelled sp ws f))
    go true q = refl
    go false q = q

pub word_line : {W B C : Type 0} (sp : W → Bytes) (rows : W → Row) (ws : List W) (k : Row → Reader B) (h : W → Reader C) (F : B → List Line → Tally → Check) (G : C → List Line → Tally → Check) (l : Line) (ls : List Line) (m : Tally) → ((w : W) (x : Line) → resume (k (rows w) (x ∷ []) m) F ≡ resume (h w (x ∷ ls) m) G) → resume (next (one (row_in (map (λ w. entry (sp w) (rows w)) ws)) (l ∷ []) m) k) F ≡ resume (next (one (spelled sp ws) (l ∷ ls) m) h) G
unfolding one
word_line sp rows ws k h F G [] ls m q = refl
word_line {W = W} sp rows ws k h F G (f ∷ fs) ls m q = rw (row_word sp rows ws f) (go (spelled sp ws f))
  where
    go : (x : Option W) → resume (next (or_refuse (rowed rows x) (fs ∷ []) m) k) F ≡ resume (next (or_refuse x (fs ∷ ls) m) h) G
    go none = refl
    go (some w) = q w fs

-- a sort with one word
pub key-line : {B C : Type 0} (w : Bytes) (r : Row) (k : Row → Reader B) (h : Unit {0} → Reader C) (F : B → List Line → Tally → Check) (G : C → List Line → Tally → Check) (l : Line) (ls : List Line) (m : Tally) → ((x : Line) → resume (k r (x ∷ []) m) F ≡ resume (h tt (x ∷ ls) m) G) → resume (next (one (row_in (entry w r ∷ [])) (l ∷ []) m) k) F ≡ resume (next (keyword w (l ∷ ls) m) h) G
unfolding one row_in kept
key-line w r k h F G [] ls m q = refl
key-line w r k h F G (f ∷ fs) ls m q = go (same f w)
  where
    go : (b : Bool) → resume (next (or_refuse (cond b (some r) none) (fs ∷ []) m) k) F ≡ resume (next (or_refuse (kept b tt) (fs ∷ ls) m) h) G
    go true = q fs
    go false = refl

-- ---- the end of a line

module _ (β : Limits) where
  pub ends : {B C : Type 0} (c : Tally → Tally) (k : Unit {0} → Reader B) (h : Unit {0} → Reader C) (F : B → List Line → Tally → Check) (G : C → List Line → Tally → Check) (l : Line) (ls : List Line) (m : Tally) → ((t : Tally) → resume (k tt [] t) F ≡ resume (h tt ls t) G) → resume (next (end β c (l ∷ []) m) k) F ≡ resume (next (end β c (l ∷ ls) m) h) G
  unfolding end
  ends c k h F G [] ls m f = go (within β (c m))
    where
      go : (b : Bool) → resume (next (cond b (got tt [] (c m)) (refused over_bound)) k) F ≡ resume (next (cond b (got tt ls (c m)) (refused over_bound)) h) G
      go true = f (c m)
      go false = refl
  ends c k h F G (x ∷ xs) ls m f = refl

  pub closes_at : {B C : Type 0} (d : ℕ) (c : Tally → Tally) (k : Unit {0} → Reader B) (h : Unit {0} → Reader C) (F : B → List Line → Tally → Check) (G : C → List Line → Tally → Check) (l : Line) (ls : List Line) (m : Tally) → (1 ≤ d → (t : Tally) → resume (k tt [] t) F ≡ resume (h tt ls t) G) → resume (next (close_at β d c (l ∷ []) m) k) F ≡ resume (next (close_at β d c (l ∷ ls) m) h) G
  unfolding too_many
  closes_at zero c k h F G [] ls m f = refl
  closes_at zero c k h F G (x ∷ xs) ls m f = refl
  closes_at (suc d) c k h F G l ls m f = ends c k h F G l ls m (f (omega arith))

  pub closes : {B C : Type 0} (d : ℕ) (c : Tally → Tally) (k : Unit {0} → Reader B) (h : Unit {0} → Reader C) (F : B → List Line → Tally → Check) (G : C → List Line → Tally → Check) (l : Line) (ls : List Line) (m : Tally) → (1 ≤ d → (t : Tally) → resume (k tt [] t) F ≡ resume (h tt ls t) G) → resume (next (close_at β d c (l ∷ []) m) k) F ≡ resume (next ((inside β d).close c (l ∷ ls) m) h) G
  unfolding inside
  closes zero c k h F G l ls m f = closes_at zero c k h F G l ls m f
  closes (suc d) c k h F G l ls m f = closes_at (suc d) c k h F G l ls m f
