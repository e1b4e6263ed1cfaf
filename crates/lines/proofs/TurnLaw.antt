-- The slots of a row in turn. Assumes nothing.
use Prim.Native.Nat.{ℕ, zero, suc, ◌+◌, ◌/◌, ◌%◌, ◌≤◌, ◌<◌}
use mathlib.Core.Path.{◌≡◌, refl, sym, ◌∙◌, ap, subst}
use mathlib.Core.List.{List, [], ◌∷◌, ◌++◌, append-nil, append_assoc}
use mathlib.Core.Bool.{Bool, true, false, cond}
use native.Mathlib.Omega.{arith}
use lib.Dec.{eqb}
use lib.ListN.{length, get_or}
use borrow.Author.Tests.{eqb-true, eqb-false, eq-eqb, ne_eqb}
use Rattle.text.specs.Text.{Bytes}
use Rattle.text.specs.bridge.Code.{kind_at}
use Rattle.algebra.specs.Tally.{notes}
use Rattle.algebra.specs.bridge.Table.{Slot}
use Rattle.cursor.specs.declared.Cursor.{Cursor}
use Rattle.names.specs.bridge.Names.{Holds}
use Rattle.scoping.specs.bridge.Places.{Mark}
use Rattle.words.specs.bridge.Code.{one_slot, slots_in, fits_in}
use Rattle.lines.specs.bridge.Line.{take_field, take_slots}
use Rattle.lines.specs.bridge.Steps.{InLine, left_at, Follows, rest_of, terms_of, terms_in, number_taken, TookSlots}
use Rattle.lines.specs.bridge.Stored.{store, Adds, found}
use Rattle.lines.proofs.LineLaw.{notes-more}
use Rattle.lines.proofs.RepeatLaw.{follows-line}
use Rattle.lines.proofs.SlotLaw.{Steps, stop, steps-along, steps-more, steps-took, steps-terms, slots-none, slots-more}
use Rattle.lines.proofs.SpotsLaw.{came_from}
use Rattle.lines.proofs.StoreLaw.{adds_then}
use Rattle.lines.proofs.AddLaw.{stay-adds}

-- a number more
number_more : (xs : List ℕ) (x p : ℕ) → get_or (xs ++ (x ∷ [])) p 0 ≡ cond (eqb (length xs) p) x (get_or xs p 0)
number_more [] x zero = refl
number_more [] x (suc p) = rw (ne_eqb 0 (suc p) (λ e. omega arith)) refl
number_more (y ∷ ys) x zero = rw (ne_eqb (suc (length ys)) 0 (λ e. omega arith)) refl
number_more (y ∷ ys) x (suc p) = number_more ys x p ∙ ap (λ (b : Bool). cond b x (get_or ys p 0)) (same-suc (length ys) p)
  where
    same-suc : (a b : ℕ) → eqb a b ≡ eqb (suc a) (suc b)
    same-suc a b = go (eqb a b) refl
      where
        go : (t : Bool) → eqb a b ≡ t → t ≡ eqb (suc a) (suc b)
        go true e = sym (eq-eqb (suc a) (suc b) (ap suc (eqb-true a b e)))
        go false e = sym (ne_eqb (suc a) (suc b) (λ q. eqb-false a b e (omega arith)))

longer : (xs : List ℕ) (x : ℕ) → length (xs ++ (x ∷ [])) ≡ length xs + 1
longer [] x = refl
longer (y ∷ ys) x = let e : length (ys ++ (x ∷ [])) ≡ length ys + 1 = longer ys x in omega arith

-- of the slots of a number, those of another are left: the cursor stands behind what the others took, with the numbers of the first two
pub record Turn (s : Bytes) (c : Cursor) (all : ℕ) (m : Mark) (a l h : List ℕ) (n : ℕ) (w : List (List ℕ)) (k : ℕ) (a' l' h' : List ℕ) (n' : ℕ) (w' : List (List ℕ)) (k' : ℕ) (d : Cursor) (code i first second : ℕ) : Type 0 where
  pub left : ℕ
  pub turns : i + left ≡ 3
  pub fits : fits_in left code ≡ true
  pub done : List Slot
  pub terms : List Bytes
  pub numbers : List ℕ
  pub slots : done ++ slots_in left code ≡ slots_in 3 all
  pub steps : Steps s c done terms numbers d
  pub many : length numbers ≡ i
  pub one : (get_or numbers 0 0 ≡ first) × (first < 4294967296)
  pub two : (get_or numbers 1 0 ≡ second) × (second < 4294967296)
  pub line : InLine s d
  pub keeps : (want : List Bytes) → Holds s a l h n want → Holds s a' l' h' n' (notes terms want)
  pub adds : d.at ≤ c.end + 1 → Adds s (store a l n w k) c.at (store a' l' n' w' k') d.at (found m (slots_in 3 all) s c) (found m (slots_in left code) s d)

module _ (s : Bytes) (c : Cursor) (all : ℕ) (m : Mark) (a l h : List ℕ) (n : ℕ) (w : List (List ℕ)) (k : ℕ) where
  pub turn-begin : InLine s c → c.at ≤ c.end + 1 → fits_in 3 all ≡ true → Turn s c all m a l h n w k a l h n w k c all 0 0 0
  unfolding notes
  turn-begin line low f = record {
    left = 3;
    turns = refl;
    fits = f;
    done = [];
    terms = [];
    numbers = [];
    slots = refl;
    steps = stop;
    many = refl;
    one = (refl, omega arith);
    two = (refl, omega arith);
    line = line;
    keeps = λ want q. q;
    adds = λ z. stay-adds s c (store a l n w k) m (slots_in 3 all) line low;
  }

  module _ (a' l' h' : List ℕ) (n' : ℕ) (w' : List (List ℕ)) (k' : ℕ) (d : Cursor) (code i first second : ℕ) (t : Turn s c all m a l h n w k a' l' h' n' w' k' d code i first second) where
    module _ (z : code ≡ 0 → ⊥) (a'' l'' h'' : List ℕ) (n'' : ℕ) (w'' : List (List ℕ)) (k'' : ℕ) (r : Cursor) (x : ℕ)
        (f : Follows s d (rest_of (take_field (one_slot (code % 16) (kind_at (code / 16 % 16))) (left_at s d))) r) (e : number_taken (take_field (one_slot (code % 16) (kind_at (code / 16 % 16))) (left_at s d)) ≡ x) (low : x < 4294967296)
        (g : (want : List Bytes) → Holds s a' l' h' n' want → Holds s a'' l'' h'' n'' (notes (terms_of (take_field (one_slot (code % 16) (kind_at (code / 16 % 16))) (left_at s d))) want))
        (u : r.at ≤ d.end + 1 → (ss : List Slot) → Adds s (store a' l' n' w' k') d.at (store a'' l'' n'' w'' k'') r.at (found m (one_slot (code % 16) (kind_at (code / 16 % 16)) ∷ ss) s d) (found m ss s r))
        (first' second' : ℕ) (e1 : first' ≡ cond (eqb i 0) x first) (e2 : second' ≡ cond (eqb i 1) x second) where
      abbrev σ : Slot
      σ = one_slot (code % 16) (kind_at (code / 16 % 16))

      picked : (b : Bool) (y : ℕ) → y < 4294967296 → cond b x y < 4294967296
      picked true y q = low
      picked false y q = q

      next : (q : ℕ) → i + q ≡ 3 → fits_in q code ≡ true → t.done ++ slots_in q code ≡ slots_in 3 all
          → (d.at ≤ c.end + 1 → Adds s (store a l n w k) c.at (store a' l' n' w' k') d.at (found m (slots_in 3 all) s c) (found m (slots_in q code) s d))
          → Turn s c all m a l h n w k a'' l'' h'' n'' w'' k'' r (code / 256) (i + 1) first' second'
      unfolding fits_in
      next zero o v y b = absurd (z (eqb-true code 0 v))
      next (suc q) o v y b = record {
        left = q;
        turns = omega (arith, o);
        fits = v;
        done = t.done ++ (σ ∷ []);
        terms = t.terms ++ terms_of (take_field σ (left_at s d));
        numbers = t.numbers ++ (x ∷ []);
        slots = append_assoc t.done (σ ∷ []) (slots_in q (code / 256)) ∙ ap (λ (ss : List Slot). t.done ++ ss) (sym (slots-more q code z)) ∙ y;
        steps = steps-more s σ x t.steps f e;
        many = longer t.numbers x ∙ ap (λ (j : ℕ). j + 1) t.many;
        one = (number_more t.numbers x 0 ∙ ap (λ (j : ℕ). cond (eqb j 0) x (get_or t.numbers 0 0)) t.many ∙ ap (cond (eqb i 0) x) t.one.0 ∙ sym e1, subst (λ (j : ℕ). j < 4294967296) (sym e1) (picked (eqb i 0) first t.one.1));
        two = (number_more t.numbers x 1 ∙ ap (λ (j : ℕ). cond (eqb j 1) x (get_or t.numbers 1 0)) t.many ∙ ap (cond (eqb i 1) x) t.two.0 ∙ sym e2, subst (λ (j : ℕ). j < 4294967296) (sym e2) (picked (eqb i 1) second t.two.1));
        line = follows-line s d r _ t.line f;
        keeps = λ want o. rw (notes-more t.terms (terms_of (take_field σ (left_at s d))) want) (g _ (t.keeps want o));
        adds = λ on.
            let j = (steps-along s t.steps).0 in
            let p : r.at ≤ d.end + 1 = omega arith in
            let here = came_from s d r σ f p in
            adds_then s (store a l n w k) c.at (store a' l' n' w' k') d.at (store a'' l'' n'' w'' k'') r.at _ _ _ (subst (λ (ss : List Slot). Adds s (store a l n w k) c.at (store a' l' n' w' k') d.at (found m (slots_in 3 all) s c) (found m ss s d)) (slots-more q code z) (b (omega arith))) (u p (slots_in q (code / 256)));
      }

      pub turn-next : Turn s c all m a l h n w k a'' l'' h'' n'' w'' k'' r (code / 256) (i + 1) first' second'
      turn-next = next t.left t.turns t.fits t.slots t.adds

    -- none is left
    module _ (z : code ≡ 0) (ss : List Slot) (is : slots_in 3 all ≡ ss) where
      left-none : slots_in t.left code ≡ []
      left-none = ap (slots_in t.left) z ∙ slots-none t.left

      all_done : t.done ≡ ss
      all_done = sym (append-nil t.done) ∙ ap (λ (v : List Slot). t.done ++ v) (sym left-none) ∙ t.slots ∙ is

      stepped : Steps s c ss t.terms t.numbers d
      stepped = subst (λ (v : List Slot). Steps s c v t.terms t.numbers d) all_done t.steps

      pub turn-took : c.at ≤ c.end + 1 → TookSlots s c (take_slots ss (left_at s c)) d first second
      turn-took low = steps-took s c d ss t.terms t.numbers first second stepped low t.one.0 t.two.0 t.one.1 t.two.1

      pub turn-keeps : d.at ≤ c.end + 1 → (want : List Bytes) → Holds s a l h n want → Holds s a' l' h' n' (notes (terms_in (take_slots ss (left_at s c))) want)
      turn-keeps o want q = rw (steps-terms s c d ss t.terms t.numbers stepped o) (t.keeps want q)

      pub turn-adds : d.at ≤ c.end + 1 → Adds s (store a l n w k) c.at (store a' l' n' w' k') d.at (found m ss s c) (found m [] s d)
      turn-adds o = subst (λ (v : List Slot). Adds s (store a l n w k) c.at (store a' l' n' w' k') d.at (found m ss s c) (found m v s d)) left-none (subst (λ (v : List Slot). Adds s (store a l n w k) c.at (store a' l' n' w' k') d.at (found m v s c) (found m (slots_in t.left code) s d)) is (t.adds o))
