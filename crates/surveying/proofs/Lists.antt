-- Laws of the two lines that scope writes. Assumes nothing.
use Prim.Native.Nat.{ℕ, suc, ◌+◌, ◌≤◌, ◌<◌}
use mathlib.Core.Path.{◌≡◌, refl, sym, ap, ap₂, ◌∙◌}
use mathlib.Core.List.{List, [], ◌∷◌, ◌++◌, append_assoc, append-nil}
use mathlib.Core.Bool.{Bool, true, false, cond}
use native.Mathlib.Numerals.{add-one}
use native.Mathlib.Omega.{arith}
use lib.ListN.{length, get_or, drop, drop_of_length-le}
use lib.Seq.{drop-cons}
use lib.Dec.{eqb}
use borrow.Author.Tests.{ne_eqb}
use Rattle.text.specs.Text.{Bytes, piece, ended, text_of}
use Rattle.text.specs.Word.{bytes}
use Rattle.names.specs.bridge.Names.{name_at, listing}
use Rattle.names.proofs.Laws.{listing-long}
use Rattle.emit.specs.declared.Writer.{Writer}
use Rattle.emit.specs.bridge.Writer.{Wrote}
use Rattle.emit.proofs.Writing.{wrote-then, wrote-as, wrote-none}
use Rattle.names.proofs.Laws.{listing-at}
use Rattle.scoping.specs.bridge.Flagged.{chosen}
use Rattle.surveying.specs.bridge.Code.{chosen_text}
use Rattle.walking.specs.bridge.Walk.{tabbed}
use Rattle.walking.proofs.Stretches.{ended_is}
use Rattle.walking.proofs.Tabbed.{tabbed-append, put-tabbed}

-- ---- one name

pub name-none : {u : Writer} (flag : ℕ) (f : Bytes) → flag ≡ 0 → Wrote u u (tabbed (cond (eqb flag 0) [] (f ∷ [])))
unfolding tabbed
name-none flag f h = rw h wrote-none

pub name-put : {u v w : Writer} (flag : ℕ) (f g : Bytes) → (flag ≡ 0 → ⊥) → Wrote u v (9 ∷ []) → Wrote v w g → g ≡ f → Wrote u w (tabbed (cond (eqb flag 0) [] (f ∷ [])))
unfolding tabbed
name-put flag f g h p q r = rw (ne_eqb flag 0 h) (put-tabbed p (wrote-as r q))

pub name-at : (s : Bytes) (a l : List ℕ) (k x y : ℕ) (g : Bytes) → x ≡ get_or a k 0 → y ≡ get_or l k 0 → g ≡ piece x y s → g ≡ name_at s a l k
name-at s a l k x y g p q r = r ∙ ap₂ (λ (m n : ℕ). piece m n s) p q

-- ---- the names of a set

chosen-cons : (k : ℕ) (flags : List ℕ) (f : Bytes) (fs : List Bytes) → chosen k flags (f ∷ fs) ≡ cond (eqb (get_or flags k 0) 0) [] (f ∷ []) ++ chosen (suc k) flags fs
unfolding chosen
chosen-cons k flags f fs = go (eqb (get_or flags k 0) 0)
  where
    go : (b : Bool) → cond b (chosen (suc k) flags fs) (f ∷ chosen (suc k) flags fs) ≡ cond b [] (f ∷ []) ++ chosen (suc k) flags fs
    go true = refl
    go false = refl

module _ (s : Bytes) (a l flags : List ℕ) (base n : ℕ) where
  -- what is left before a turn and after it
  pub names-next : (k : ℕ) → k < n → tabbed (chosen (base + k) flags (drop k (listing s a l n))) ≡ tabbed (cond (eqb (get_or flags (base + k) 0) 0) [] (name_at s a l k ∷ [])) ++ tabbed (chosen (base + (k + 1)) flags (drop (k + 1) (listing s a l n)))
  names-next k h =
      let long = listing-long s a l n in
      let one : chosen (base + k) flags (drop k (listing s a l n)) ≡ cond (eqb (get_or flags (base + k) 0) 0) [] (name_at s a l k ∷ []) ++ chosen (suc (base + k)) flags (drop (suc k) (listing s a l n)) =
      ap (chosen (base + k) flags) (drop-cons (listing s a l n) k [] (omega arith))
      ∙ chosen-cons (base + k) flags (get_or (listing s a l n) k []) (drop (suc k) (listing s a l n))
      ∙ ap (λ (f : Bytes). cond (eqb (get_or flags (base + k) 0) 0) [] (f ∷ []) ++ chosen (suc (base + k)) flags (drop (suc k) (listing s a l n))) (listing-at s a l k n h) in
      let step : base + (k + 1) ≡ suc (base + k) = omega arith in
      rw (step, add-one k) (ap tabbed one ∙ tabbed-append _ _)

  pub names-done : (k : ℕ) → n ≤ k → tabbed (chosen (base + k) flags (drop k (listing s a l n))) ≡ []
  unfolding tabbed chosen
  names-done k h =
      let long = listing-long s a l n in
      let less : length (listing s a l n) ≤ k = omega arith in
      ap (λ (ns : List Bytes). tabbed (chosen (base + k) flags ns)) (drop_of_length-le (listing s a l n) less)

-- ---- the two lines

pub two-lines : (flags : List ℕ) (ns : List Bytes) → bytes "in" ++ tabbed (chosen 0 flags ns) ++ (10 ∷ []) ++ bytes "hid" ++ tabbed (chosen 1024 flags ns) ++ (10 ∷ []) ≡ chosen_text flags ns
unfolding chosen_text text_of
two-lines flags ns =
    let x = tabbed (chosen 0 flags ns) in
    let y = tabbed (chosen 1024 flags ns) in
    sym (ended_is (bytes "in") (chosen 0 flags ns) (ended (bytes "hid" ∷ chosen 1024 flags ns) [])
    ∙ ap (λ (l : Bytes). bytes "in" ++ (x ++ (10 ∷ l))) (ended_is (bytes "hid") (chosen 1024 flags ns) [])
    ∙ sym (append_assoc (bytes "in") x _)
    ∙ sym (append_assoc (bytes "in" ++ x) (10 ∷ []) _)
    ∙ sym (append_assoc (bytes "in" ++ x ++ (10 ∷ [])) (bytes "hid") _)
    ∙ sym (append_assoc (bytes "in" ++ x ++ (10 ∷ []) ++ bytes "hid") y (10 ∷ [])))
