-- A projection's columns as a listing. Assumes nothing.
use Prim.Native.Nat.{ℕ, ◌+◌, ◌-◌, ◌≤◌, ◌<◌}
use mathlib.Core.Path.{◌≡◌, refl, sym, ap, ap₂, ◌∙◌}
use mathlib.Core.List.{List, [], ◌∷◌, ◌++◌, append_assoc, append-nil}
use mathlib.Core.Logic.{⊎_elim}
use native.Mathlib.Numerals.{add-one}
use native.Mathlib.Omega.{arith}
use lib.ListN.{length, get_or, set, drop, get_or-eq_default}
use lib.Seq.{get_or-set_same}
use Rattle.text.specs.Text.{Bytes, Line, part, piece, lines_from, First}
use Rattle.text.proofs.Places.{lines_next, lines_end}
use Rattle.algebra.specs.Tally.{bounds}
use Rattle.names.specs.bridge.Names.{listing, names_in, starts_of, sizes_of}
use Rattle.names.proofs.Columns.{column-length, column-set, column-is}
use Rattle.names.proofs.Laws.{listing-below, listing-long, listing-at}
use Rattle.cursor.specs.bridge.Cursor.{left}
use Rattle.cursor.specs.declared.Cursor.{Cursor}
use Rattle.cursor.proofs.Laws.{left-none, left-next, Next}
use Rattle.reader.specs.bridge.Lines.{LineEnd}
use Rattle.reader.proofs.Laws.{nothing-here}
use Rattle.walking.proofs.Laws.{line-split}
use Rattle.placing.specs.bridge.Fields.{columns_on}

pub columns-start : (s : Bytes) (a l : List ℕ) (cs : List Bytes) → listing s a l 0 ++ cs ≡ cs
unfolding listing
columns-start s a l cs = refl

-- one column more: the field from a cursor on
module _ (s : Bytes) (c : Cursor) (to : ℕ) (d : Cursor) (g : Next s c to d) (inside : c.end < length s) where
  column-here : left s c.at c.end ≡ part c.at to s ∷ left s d.at d.end
  column-here =
      let low = g.first.low in
      let high = g.first.high in
      left-next s c.at c.end to (omega arith) (omega arith) g.first ∙ ap₂ (λ (i j : ℕ). part c.at to s ∷ left s i j) (sym g.at) (sym g.end)

  module _ (n k : ℕ) (h : n + length (left s c.at c.end) ≡ k) where
    -- there is room for it, and its place is small
    pub columns-fit : k ≤ bounds.columns → length s ≤ 16384 → (n < bounds.columns) × (c.at ≤ to) × (to ≤ 16384)
    columns-fit r m = let e = ap length column-here in let low = g.first.low in let high = g.first.high in (omega arith, low, omega arith)

    pub columns-less : n + 1 + length (left s d.at d.end) ≡ k
    columns-less = let e = ap length column-here in omega arith

  pub columns-next : (n : ℕ) (t : List (List ℕ)) (cs : List Bytes) → n < length t → names_in s t n ++ left s c.at c.end ≡ cs
      → names_in s (set t n (c.at ∷ (to - c.at) ∷ [])) (n + 1) ++ left s d.at d.end ≡ cs
  unfolding listing
  columns-next n t cs i h =
      let e = c.at ∷ (to - c.at) ∷ [] in
      rw (column-set 0 t n e, column-set 1 t n e, add-one, listing-below s (starts_of t) (sizes_of t) n c.at (to - c.at) n (omega arith), get_or-set_same (starts_of t) n c.at 0 (rw (column-length 0 t) i), get_or-set_same (sizes_of t) n (to - c.at) 0 (rw (column-length 1 t) i))
      (append_assoc (names_in s t n) (part c.at to s ∷ []) (left s d.at d.end) ∙ ap (λ (r : List Bytes). names_in s t n ++ r) (sym column-here) ∙ h)

module _ (s : Bytes) (n next end : ℕ) where
  pub columns-done : (t : List (List ℕ)) (cs : List Bytes) → end < next → names_in s t n ++ left s next end ≡ cs → names_in s t n ≡ cs
  columns-done t cs h e = sym (append-nil (names_in s t n)) ∙ ap (λ (r : List Bytes). names_in s t n ++ r) (sym (left-none s next end h)) ∙ e

  pub columns-few : (c : ℕ) → end < next → n + length (left s next end) ≡ c → n ≡ c
  columns-few c h e = let z = ap length (left-none s next end h) in omega arith

-- no column at a position past the last
pub column-none : (s : Bytes) (a l : List ℕ) (n k : ℕ) → n ≤ k → [] ≡ get_or (listing s a l n) k []
column-none s a l n k h = sym (get_or-eq_default (listing s a l n) [] (let z = listing-long s a l n in omega arith))

pub column-at-is : (s : Bytes) (t : List (List ℕ)) (n k x y : ℕ) → k < n → x ≡ get_or (get_or t k []) 0 0 → y ≡ get_or (get_or t k []) 1 0 → (r : Bytes) → r ≡ piece x y s → r ≡ get_or (names_in s t n) k []
column-at-is s t n k x y h p q r e = e ∙ ap₂ (λ (i j : ℕ). piece i j s) (column-is 0 t k x p) (column-is 1 t k y q) ∙ sym (listing-at s (starts_of t) (sizes_of t) k n h)

-- no line starts here
pub none-there : (s : Bytes) (line : ℕ) (a b : List ℕ) → length s ≤ line → listing s a b 0 ≡ columns_on s line
unfolding listing
none-there s line a b h = rw (lines_end s line h)

-- the columns stand behind the word of the projection's line
module _ (s : Bytes) (line end : ℕ) (l : LineEnd s line end) where
  pub no-columns : (a b : List ℕ) → end ≡ length s → listing s a b 0 ≡ columns_on s line
  unfolding listing
  no-columns a b e = ⊎_elim (λ (z : lines_from s line ≡ []). rw z) (λ (z : lines_from s line ≡ [] ∷ []). rw z) (nothing-here s line end l e)

  module _ (more : end ≡ length s → ⊥) where
    ends : end < length s
    ends = let h = l.high in omega arith

    pub line_low : line ≤ end
    line_low = (l.ends ends).low

    pub columns-on : (w : ℕ) → First 9 s line end w → left s (w + 1) end ≡ columns_on s line
    columns-on w f = sym (ap (λ (ls : List Line). drop 1 (get_or ls 0 [])) (lines_next s line end (l.ends ends) ends ∙ ap (λ (x : Line). x ∷ lines_from s (end + 1)) (line-split s line end w ends line_low f)))
