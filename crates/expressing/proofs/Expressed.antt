-- A filter and its parts: the lines left fall from a filter to each of its parts. Assumes nothing.
use Prim.Native.Nat.{ℕ, suc, ◌+◌, ◌-◌, ◌≤◌, ◌<◌}
use mathlib.Core.Path.{◌≡◌, refl, sym, ap, ap₂, subst, ◌∙◌}
use mathlib.Core.Bool.{Bool, true, false, ◌&&◌}
use mathlib.Core.List.{List, [], ◌∷◌}
use mathlib.Core.Logic.{⊎_elim}
use mathlib.Core.Option.{Option, none, some}
use native.Mathlib.Omega.{arith}
use lib.ListN.{length}
use Rattle.text.specs.Text.{Bytes, Line, same, text_of, split, part, lines_from, First}
use Rattle.text.proofs.Places.{lines_next, lines_end}
use Rattle.cursor.specs.bridge.Cursor.{left as fieldsFrom}
use Rattle.walking.proofs.Laws.{line-split}
use Rattle.emit.specs.declared.Writer.{Writer}
use Rattle.emit.specs.bridge.Emit.{Em, puts}
use Rattle.emit.specs.bridge.Writer.{state}
use Rattle.emit.proofs.Laws.{puts-append, puts-nil}
use Rattle.reader.specs.bridge.Lines.{LineEnd}
use Rattle.reader.proofs.Laws.{nothing-here}
use Rattle.heads.proofs.Cut.{text-append}
use Rattle.filtering.specs.bridge.FilterLines.{parts_below, expression_lines, Walked, in_front, and_then, several_parts, tree_to_expression}
use Rattle.placing.proofs.Repeated.{with-true, and-next}
use Rattle.expressing.specs.declared.express.Walked.{Walked as Said}
use Rattle.operators.specs.bridge.Heads.{Heads}
use Rattle.expressing.specs.bridge.Walks.{Walks}

no_text : (e : Em) → e ≡ puts (text_of []) e
unfolding text_of
no_text e = sym (puts-nil e)

-- ---- nothing is read

module _ (cs : List Bytes) (s : Bytes) (from left : ℕ) (e : Em) (r : Said) (no : r.expressed ≡ false) where
  pub none_left : left ≡ 0 → r.from ≡ from → Walks s (tree_to_expression cs left (lines_from s from)) e e r
  unfolding tree_to_expression
  none_left h q = rw h (record { expressed = no; lines = no_text e; left = ap (lines_from s) q })

  pub no_line : (left ≡ 0 → ⊥) → (end : ℕ) → LineEnd s from end → end ≡ length s → r.from ≡ end → Walks s (tree_to_expression cs left (lines_from s from)) e e r
  unfolding tree_to_expression expression_lines parts_below several_parts same
  no_line h end l q p =
      let j : left ≡ suc (left - 1) = omega arith in
      ⊎_elim
      (λ (z : lines_from s from ≡ []). rw (z, j) (record { expressed = no; lines = no_text e; left = ap (lines_from s) p ∙ lines_end s end (omega arith) }))
      (λ (z : lines_from s from ≡ [] ∷ []). rw (z, j) (record { expressed = no; lines = no_text e; left = ap (lines_from s) p ∙ lines_end s end (omega arith) }))
      (nothing-here s from end l q)

-- no line starts here, and the text's end is where one would end
pub no_start : (s : Bytes) (from end : ℕ) → length s ≤ from → end ≡ length s → LineEnd s from end
no_start s from end h e = record { high = omega arith; ends = λ l. absurd (omega arith); none = λ q n. absurd (n h) }

-- ---- part by part

-- so many parts are left, and what is made of them in front of what was made is the whole
pub record Going (f : List Line → Walked) (parts : ℕ) (ls : List Line) (b : Bool) (e : Em) (whole : Walked) (ok : Bool) (start : Em) : Type 0 where
  pub expressed : (b && (several_parts f parts ls).expressed) ≡ (ok && whole.expressed)
  pub left : (several_parts f parts ls).left ≡ whole.left
  pub lines : puts (text_of (several_parts f parts ls).lines) e ≡ puts (text_of whole.lines) start

pub going_start : (f : List Line → Walked) (parts : ℕ) (ls : List Line) (b : Bool) (e : Em) → Going f parts ls b e (several_parts f parts ls) b e
going_start f parts ls b e = record { expressed = refl; left = refl; lines = refl }

module _ (f : List Line → Walked) (s : Bytes) (parts next : ℕ) (b : Bool) (e : Em) (whole : Walked) (ok : Bool) (start : Em) (g : Going f parts (lines_from s next) b e whole ok start) where
  open-parts : 0 < parts → several_parts f parts (lines_from s next) ≡ and_then (f (lines_from s next)) (several_parts f (parts - 1) (f (lines_from s next)).left)
  unfolding several_parts
  open-parts h = let j : parts ≡ suc (parts - 1) = omega arith in ap (λ (k : ℕ). several_parts f k (lines_from s next)) j

  pub going_next : 0 < parts → (e' : Em) (r : Said) → Walks s (f (lines_from s next)) e e' r → (c : Bool) → c ≡ (b && r.expressed) → Going f (parts - 1) (lines_from s r.from) c e' whole ok start
  going_next h e' r w c q =
      let o = open-parts h in
      let rest = several_parts f (parts - 1) (f (lines_from s next)).left in
      let at = ap (several_parts f (parts - 1)) w.left in
      record {
        expressed = ap (λ (x : Walked). c && x.expressed) at ∙ and-next b c (f (lines_from s next)).expressed rest.expressed _ (q ∙ ap (λ (x : Bool). b && x) w.expressed) (ap (λ (x : Walked). b && x.expressed) (sym o) ∙ g.expressed);
        left = ap (λ (x : Walked). x.left) at ∙ ap (λ (x : Walked). x.left) (sym o) ∙ g.left;
        lines =
            ap₂ (λ (x : Walked) (y : Em). puts (text_of x.lines) y) at w.lines
            ∙ sym (puts-append (text_of (f (lines_from s next)).lines) (text_of rest.lines) e)
            ∙ ap (λ (t : Bytes). puts t e) (sym (text-append (f (lines_from s next)).lines rest.lines))
            ∙ ap (λ (x : Walked). puts (text_of x.lines) e) (sym o)
            ∙ g.lines;
      }

  -- no part is left
  module _ (h : parts ≤ 0) where
    over : several_parts f parts (lines_from s next) ≡ record { expressed = true; lines = []; left = lines_from s next }
    unfolding several_parts
    over = let z : parts ≡ 0 = omega arith in rw z

    pub all-expressed : b ≡ (ok && whole.expressed)
    all-expressed = sym (with-true b) ∙ ap (λ (x : Walked). b && x.expressed) (sym over) ∙ g.expressed

    pub all_left : lines_from s next ≡ whole.left
    all_left = ap (λ (x : Walked). x.left) (sym over) ∙ g.left

    pub all_lines : e ≡ puts (text_of whole.lines) start
    all_lines = no_text e ∙ ap (λ (x : Walked). puts (text_of x.lines) e) (sym over) ∙ g.lines

-- ---- the line in front of its parts

module _ (cs : List Bytes) (s : Bytes) (from left end : ℕ) (some_left : left ≡ 0 → ⊥) (l : LineEnd s from end) (more : end ≡ length s → ⊥) where
  ends : end < length s
  ends = let h = l.high in omega arith

  pub line_low : from ≤ end
  line_low = (l.ends ends).low

  abbrev pub Line-at : Line
  Line-at = split 9 (part from end s)

  abbrev pub Parts : Walked
  Parts = several_parts (tree_to_expression cs (left - 1)) (parts_below Line-at) (lines_from s (end + 1))

  opened : tree_to_expression cs left (lines_from s from) ≡ in_front (expression_lines cs Line-at) Parts
  unfolding tree_to_expression
  opened = let j : left ≡ suc (left - 1) = omega arith in ap₂ (tree_to_expression cs) j (lines_next s from end (l.ends ends) ends)

  -- by its word and the fields behind it
  module _ (w : ℕ) (f : First 9 s from end w) where
    abbrev Said-so : Line
    Said-so = part from w s ∷ fieldsFrom s (w + 1) end

    here : Said-so ≡ Line-at
    here = sym (line-split s from end w ends line_low f)

    pub headed : (e x : Writer) (b : Bool) → Heads (expression_lines cs Said-so) e x b → Heads (expression_lines cs Line-at) e x b
    headed e x b h = subst (λ (m : Line). Heads (expression_lines cs m) e x b) here h

    pub parts-here : (k : ℕ) → k ≡ parts_below Said-so → k ≡ parts_below Line-at
    parts-here k e = e ∙ ap parts_below here

  pub walked : (e start : Writer) (after : Em) (ok : Bool) → Heads (expression_lines cs Line-at) e start ok → (r : Said) → r.expressed ≡ (ok && Parts.expressed) → lines_from s r.from ≡ Parts.left → after ≡ puts (text_of Parts.lines) (state start)
      → Walks s (tree_to_expression cs left (lines_from s from)) (state e) after r
  walked e start after ok h r x y z = subst (λ (w : Walked). Walks s w (state e) after r) (sym opened) (go (expression_lines cs Line-at) h)
    where
      go : (o : Option (List Line)) → Heads o e start ok → Walks s (in_front o Parts) (state e) after r
      go none k = record {
        expressed = x ∙ ap (λ (b : Bool). b && Parts.expressed) k.is;
        lines = z ∙ ap (puts (text_of Parts.lines)) (k.lines.puts ∙ sym (no_text (state e)));
        left = y;
      }
      go (some ws) k = record {
        expressed = x ∙ ap (λ (b : Bool). b && Parts.expressed) k.is;
        lines = z ∙ ap (puts (text_of Parts.lines)) k.lines.puts ∙ sym (puts-append (text_of ws) (text_of Parts.lines) (state e)) ∙ ap (λ (t : Bytes). puts t (state e)) (sym (text-append ws Parts.lines));
        left = y;
      }
