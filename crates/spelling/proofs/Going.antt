-- Laws for the code that walks: the line in front, its children one after the other, and no line at all; for what is written, what is sought and what is judged. Assumes nothing.
use Prim.Native.Nat.{ℕ, zero, suc, ◌+◌, ◌-◌, ◌≤◌, ◌<◌}
use mathlib.Core.Path.{◌≡◌, refl, sym, ap, ap₂, subst, ◌∙◌}
use mathlib.Core.Bool.{Bool, true, false, cond, ◌&&◌, ◌||◌, or_assoc, or-false, false≢true}
use mathlib.Core.List.{List, [], ◌∷◌, ◌++◌}
use mathlib.Core.Logic.{⊎_elim}
use mathlib.Core.Option.{Option, none}
use native.Mathlib.Omega.{arith}
use lib.ListN.{length}
use lib.Dec.{eqb}
use Rattle.text.specs.Text.{Bytes, Line, same, split, part, lines_from, First}
use Rattle.text.specs.Word.{bytes}
use Rattle.text.proofs.Basics.{same-eq}
use Rattle.text.proofs.Places.{lines_next, lines_end}
use Rattle.cursor.specs.bridge.Cursor.{left as fieldsFrom}
use Rattle.walking.proofs.Laws.{line-split}
use Rattle.words.specs.bridge.Key.{key_of, Keyed}
use Rattle.words.proofs.ByKey.{small, tells, is_word, other_key, told as told-word}
use Rattle.emit.specs.bridge.Emit.{Em, puts}
use Rattle.emit.proofs.Laws.{puts-nil}
use Rattle.reader.specs.bridge.Lines.{LineEnd}
use Rattle.reader.proofs.Laws.{nothing-here}
use Rattle.algebra.specs.Valid.{mem}
use Rattle.algebra.specs.bridge.Table.{table, row_in}
use Rattle.filtering.specs.bridge.Copying.{amounts, to_come}
use Rattle.negating.specs.bridge.Lines.{word}
use Rattle.editions.specs.Token.{Edition, Keyword, Token, text}
use Rattle.editions.specs.Refusals.{Place, first}
use Rattle.spelling.specs.bridge.Saying.{manner_of, opening, before, after, word_next, shallow, Said, in_front, and_then, said_children, said_line, said_child, said_tree}
use Rattle.spelling.specs.bridge.Seeking.{names_on, shows, Sought, or_in, sought_children, sought_line, sought_child, sought_tree}
use Rattle.spelling.specs.bridge.Judging.{place_under, verdict_of, judged_lines}
use Rattle.spelling.specs.declared.say.Sort.{Sort}
use Rattle.spelling.specs.declared.say.Sort.TheVariants.{Expression, Flat, Pattern}
use Rattle.spelling.specs.bridge.Walks.{Sorted, Writes, Seeks}
use Rattle.spelling.proofs.ByLines.{text-puts}

no_text : (e : Em) → e ≡ puts (text []) e
unfolding text
no_text e = sym (puts-nil e)

and-false : (b : Bool) → (b && false) ≡ false
and-false true = refl
and-false false = refl

-- ---- a line that is there

module _ (s : Bytes) (from end : ℕ) (l : LineEnd s from end) (more : end ≡ length s → ⊥) where
  abbrev pub Line-at : Line
  Line-at = split 9 (part from end s)

  line-ends : end < length s
  line-ends = let h = l.high in omega arith

  pub line_low : from ≤ end
  line_low = (l.ends line-ends).low

  line-here : lines_from s from ≡ Line-at ∷ lines_from s (end + 1)
  line-here = let h = l.high in let i : end < length s = omega arith in lines_next s from end (l.ends i) i

  -- by its word and the fields behind it
  module _ (w : ℕ) (f : First 9 s from end w) where
    abbrev Told : Line
    Told = part from w s ∷ fieldsFrom s (w + 1) end

    told : Told ≡ Line-at
    told = sym (line-split s from end w line-ends line_low f)

    pub come-here : (n : ℕ) → n ≡ to_come Told → n ≡ to_come Line-at
    come-here n p = p ∙ ap to_come told

    pub before_here : (m : Option Keyword) (e x : Em) → x ≡ puts (text (before m Told)) e → x ≡ puts (text (before m Line-at)) e
    before_here m e x p = p ∙ ap (λ (o : Line). puts (text (before m o)) e) told

    pub after-here : (next : List Line) (i n : ℕ) (e x : Em) → x ≡ puts (text (after Told next i n)) e → x ≡ puts (text (after Line-at next i n)) e
    after-here next i n e x p = p ∙ ap (λ (o : Line). puts (text (after o next i n)) e) told

    pub under-here : (u : Option Keyword) → u ≡ manner_of (part from w s) → u ≡ manner_of (word Line-at)
    under-here u p = p ∙ ap (λ (o : Line). manner_of (word o)) told

    pub names-here : (v : Bytes) (b : Bool) → b ≡ mem v (names_on Told) → b ≡ mem v (names_on Line-at)
    names-here v b p = p ∙ ap (λ (o : Line). mem v (names_on o)) told

    pub shows-here : (i : ℕ) (b : Bool) → b ≡ shows Told i → b ≡ shows Line-at i
    shows-here i b p = p ∙ ap (λ (o : Line). shows o i) told

    -- the next line is an orderby's, by its key
    pub order-key : (k : ℕ) → Keyed (part from w s) k → eqb k (key_of 0 (bytes "orderby")) ≡ same (word_next (lines_from s from)) (bytes "orderby")
    unfolding small tells
    order-key k h = sym (h (bytes "orderby") (told-word (bytes "orderby") refl)) ∙ ap (λ (o : Line). same (word o) (bytes "orderby")) told ∙ ap (λ (ls : List Line). same (word_next ls) (bytes "orderby")) (sym line-here)

-- no line is there
pub order-none : (s : Bytes) (from end : ℕ) → LineEnd s from end → end ≡ length s → false ≡ same (word_next (lines_from s from)) (bytes "orderby")
unfolding same
order-none s from end l q =
    ⊎_elim
    (λ (z : lines_from s from ≡ []). rw z)
    (λ (z : lines_from s from ≡ [] ∷ []). rw z)
    (nothing-here s from end l q)

-- ---- what is written

tree-line : (d : ℕ) (m : Option Keyword) (ls : List Line) → said_tree (suc d) m ls ≡ said_line (said_child (said_tree d)) m ls
unfolding said_tree
tree-line d m ls = refl

module _ (s : Bytes) (m : Option Keyword) (from left : ℕ) (e : Em) where
  pub none_left : left ≡ 0 → Writes s (said_tree left m (lines_from s from)) e e from
  unfolding said_tree
  none_left h = rw h (record { tokens = no_text e; left = refl })

-- no line
module _ (f : Option Keyword → List Line → Said) (s : Bytes) (m : Option Keyword) (from : ℕ) (e : Em) where
  pub no_line : (end : ℕ) → LineEnd s from end → end ≡ length s → Writes s (said_line f m (lines_from s from)) e e end
  unfolding said_line said_children before opening to_come amounts table row_in same
  no_line end l q =
      ⊎_elim
      (λ (z : lines_from s from ≡ []). rw z (record { tokens = no_text e; left = lines_end s end (omega arith) }))
      (λ (z : lines_from s from ≡ [] ∷ []). rw z (record { tokens = no_text e; left = lines_end s end (omega arith) }))
      (nothing-here s from end l q)

-- k children are left from number i on, and what is said of them behind what was written is the whole
pub record Going (f : Option Keyword → List Line → Said) (l : Line) (next : List Line) (i k : ℕ) (ls : List Line) (e : Em) (whole : Said) (start : Em) : Type 0 where
  pub left : (said_children f l next i k ls).left ≡ whole.left
  pub tokens : puts (text (said_children f l next i k ls).tokens) e ≡ puts (text whole.tokens) start

pub going_start : (f : Option Keyword → List Line → Said) (l : Line) (next : List Line) (k n : ℕ) (ls : List Line) (e : Em) → k ≡ n → Going f l next 0 k ls e (said_children f l next 0 n ls) e
going_start f l next k n ls e h = rw h (record { left = refl; tokens = refl })

module _ (f : Option Keyword → List Line → Said) (s : Bytes) (l : Line) (next : List Line) (i k at : ℕ) (e : Em) (whole : Said) (start : Em) (g : Going f l next i k (lines_from s at) e whole start) where
  opened : 0 < k → said_children f l next i k (lines_from s at) ≡ and_then (f (manner_of (word l)) (lines_from s at)) (in_front (after l next i (k - 1)) (said_children f l next (suc i) (k - 1) (f (manner_of (word l)) (lines_from s at)).left))
  unfolding said_children
  opened h = let j : k ≡ suc (k - 1) = omega arith in ap (λ (n : ℕ). said_children f l next i n (lines_from s at)) j

  -- a child, then the tokens behind it
  going_next : 0 < k → (e' e'' : Em) (from : ℕ) → Writes s (f (manner_of (word l)) (lines_from s at)) e e' from → e'' ≡ puts (text (after l next i (k - 1))) e' → Going f l next (i + 1) (k - 1) (lines_from s from) e'' whole start
  going_next h e' e'' from w b =
      let child = f (manner_of (word l)) (lines_from s at) in
      let rest = said_children f l next (suc i) (k - 1) child.left in
      let at_next : said_children f l next (i + 1) (k - 1) (lines_from s from) ≡ rest = ap₂ (λ (j : ℕ) (o : List Line). said_children f l next j (k - 1) o) (omega arith) w.left in
      record {
        left = ap (λ (x : Said). x.left) at_next ∙ ap (λ (x : Said). x.left) (sym (opened h)) ∙ g.left;
        tokens =
            ap₂ (λ (x : Said) (y : Em). puts (text x.tokens) y) at_next (b ∙ ap (puts (text (after l next i (k - 1)))) w.tokens)
            ∙ sym (text-puts (after l next i (k - 1)) rest.tokens _)
            ∙ sym (text-puts child.tokens (after l next i (k - 1) ++ rest.tokens) e)
            ∙ ap (λ (x : Said). puts (text x.tokens) e) (sym (opened h))
            ∙ g.tokens;
      }

  -- of which n are to come behind it
  pub going-child : (m : Option Keyword) → m ≡ manner_of (word l) → 0 < k → (n j : ℕ) → n ≡ k - 1 → j ≡ k - 1 → (e' e'' : Em) (from : ℕ) → Writes s (f m (lines_from s at)) e e' from → e'' ≡ puts (text (after l next i n)) e' → Going f l next (i + 1) j (lines_from s from) e'' whole start
  going-child m q h n j p r e' e'' from w b =
      let y = going_next h e' e'' from (subst (λ (o : Option Keyword). Writes s (f o (lines_from s at)) e e' from) q w) (b ∙ ap (λ (x : ℕ). puts (text (after l next i x)) e') p) in
      subst (λ (x : ℕ). Going f l next (i + 1) x (lines_from s from) e'' whole start) (sym r) y

  module _ (h : k ≤ 0) where
    over : said_children f l next i k (lines_from s at) ≡ record { tokens = []; left = lines_from s at }
    unfolding said_children
    over = let z : k ≡ 0 = omega arith in rw z

    pub all_left : lines_from s at ≡ whole.left
    all_left = ap (λ (x : Said). x.left) (sym over) ∙ g.left

    pub all-tokens : e ≡ puts (text whole.tokens) start
    all-tokens = no_text e ∙ ap (λ (x : Said). puts (text x.tokens) e) (sym over) ∙ g.tokens

-- the line in front of its children, one of which f says
module _ (f : Option Keyword → List Line → Said) (s : Bytes) (m : Option Keyword) (from end : ℕ) (l : LineEnd s from end) (more : end ≡ length s → ⊥) where
  abbrev pub Children : Said
  Children = said_children f (Line-at s from end l more) (lines_from s (end + 1)) 0 (to_come (Line-at s from end l more)) (lines_from s (end + 1))

  headed : said_line f m (lines_from s from) ≡ in_front (before m (Line-at s from end l more)) Children
  unfolding said_line
  headed = ap (said_line f m) (line-here s from end l more)

  pub writes : (e start final : Em) (to : ℕ) → start ≡ puts (text (before m (Line-at s from end l more))) e → final ≡ puts (text Children.tokens) start → lines_from s to ≡ Children.left → Writes s (said_line f m (lines_from s from)) e final to
  writes e start final to a b c = subst (λ (w : Said). Writes s w e final to) (sym headed) (record { tokens = b ∙ ap (puts (text Children.tokens)) a ∙ sym (text-puts (before m (Line-at s from end l more)) Children.tokens e); left = c })

-- a level that may still be opened
pub opens : (s : Bytes) (m : Option Keyword) (from left : ℕ) (e x : Em) (to : ℕ) → (left ≡ 0 → ⊥) → Writes s (said_line (said_child (said_tree (left - 1))) m (lines_from s from)) e x to → Writes s (said_tree left m (lines_from s from)) e x to
opens s m from left e x to h w = let j : left ≡ suc (left - 1) = omega arith in subst (λ (o : Said). Writes s o e x to) (sym (ap (λ (n : ℕ). said_tree n m (lines_from s from)) j ∙ tree-line (left - 1) m (lines_from s from))) w

-- ---- a line's sort

module _ (f : Bytes) (k : ℕ) (keyed : Keyed f k) where
  pub sort-flat : (w : Bytes) → tells w ≡ true → shallow w ≡ true → k ≡ key_of 0 w → Sorted f Flat
  sort-flat w t h e = let j = is_word f k keyed w t e in record { flat = λ i. ap shallow j ∙ h; deep = λ i. absurd (i refl); plain = λ i. cc }

  pub sort-plain : (w : Bytes) → tells w ≡ true → shallow w ≡ false → same w (bytes "project") ≡ false → k ≡ key_of 0 w → Sorted f Expression
  sort-plain w t h p e = let j = is_word f k keyed w t e in record { flat = λ i. cc; deep = λ i. ap shallow j ∙ h; plain = λ i. ap (λ (g : Bytes). same g (bytes "project")) j ∙ p }

  pub sort-other : (k ≡ key_of 0 (bytes "t") → ⊥) → (k ≡ key_of 0 (bytes "cols") → ⊥) → (k ≡ key_of 0 (bytes "row") → ⊥) → (k ≡ key_of 0 (bytes "asc") → ⊥) → (k ≡ key_of 0 (bytes "desc") → ⊥) → (k ≡ key_of 0 (bytes "agg") → ⊥) → (k ≡ key_of 0 (bytes "aggall") → ⊥) → Sorted f Pattern
  unfolding shallow small tells
  sort-other a b c d e g h = record {
    flat = λ i. cc;
    deep = λ i. rw (other_key f k keyed (bytes "t") refl a, other_key f k keyed (bytes "cols") refl b, other_key f k keyed (bytes "row") refl c, other_key f k keyed (bytes "asc") refl d, other_key f k keyed (bytes "desc") refl e, other_key f k keyed (bytes "agg") refl g, other_key f k keyed (bytes "aggall") refl h);
    plain = λ i. cc;
  }

-- no line is there
pub sort-none : (s : Bytes) (from end : ℕ) → LineEnd s from end → end ≡ length s → Sorted (word_next (lines_from s from)) Pattern
unfolding same shallow
sort-none s from end l q =
    ⊎_elim
    (λ (z : lines_from s from ≡ []). rw z (record { flat = λ i. cc; deep = λ i. refl; plain = λ i. cc }))
    (λ (z : lines_from s from ≡ [] ∷ []). rw z (record { flat = λ i. cc; deep = λ i. refl; plain = λ i. cc }))
    (nothing-here s from end l q)

pub sort-here : (s : Bytes) (from end : ℕ) (l : LineEnd s from end) (more : end ≡ length s → ⊥) (w : ℕ) → First 9 s from end w → (n : Sort) → Sorted (part from w s) n → Sorted (word_next (lines_from s from)) n
sort-here s from end l more w f n h = subst (λ (g : Bytes). Sorted g n) (ap word (told s from end l more w f) ∙ ap word_next (sym (line-here s from end l more))) h

-- a manner matters to a project alone
before-plain : (m : Option Keyword) (l : Line) → same (word l) (bytes "project") ≡ false → before m l ≡ before none l
unfolding before
before-plain m l h = rw h

tree_plain : (d : ℕ) (m : Option Keyword) (ls : List Line) → same (word_next ls) (bytes "project") ≡ false → said_tree d m ls ≡ said_tree d none ls
unfolding said_tree said_line
tree_plain zero m ls h = refl
tree_plain (suc d) m [] h = refl
tree_plain (suc d) m (l ∷ ls) h = ap (λ (ts : List Token). in_front ts (said_children (said_child (said_tree d)) l ls 0 (to_come l) ls)) (before-plain m l h)

-- none is given by a line that adds no depth
flat-manner : (w : Bytes) → shallow w ≡ true → manner_of w ≡ none
unfolding shallow manner_of
flat-manner w h = go w (same w (bytes "distinct")) (same w (bytes "reduced")) refl refl h
  where
    go : (w : Bytes) (a b : Bool) → same w (bytes "distinct") ≡ a → same w (bytes "reduced") ≡ b → shallow w ≡ true → manner_of w ≡ none
    go w true b e f h = absurd (false≢true (sym (ap shallow (same-eq w (bytes "distinct") e)) ∙ h))
    go w false true e f h = absurd (false≢true (sym (ap shallow (same-eq w (bytes "reduced") f)) ∙ h))
    go w false false e f h = rw (e, f)

module _ (s : Bytes) (m : Option Keyword) (from d : ℕ) (n : Sort) (h : Sorted (word_next (lines_from s from)) n) (e x : Em) (to : ℕ) where
  pub child-flat : n ≡ Flat → Writes s (said_line (said_tree d) m (lines_from s from)) e x to → Writes s (said_child (said_tree d) m (lines_from s from)) e x to
  unfolding said_child
  child-flat i w = subst (λ (b : Bool). Writes s (cond b (said_line (said_tree d) m (lines_from s from)) (said_tree d m (lines_from s from))) e x to) (sym (h.flat i)) w

  pub child-deep : (n ≡ Flat → ⊥) → Writes s (said_tree d m (lines_from s from)) e x to → Writes s (said_child (said_tree d) m (lines_from s from)) e x to
  unfolding said_child
  child-deep i w = subst (λ (b : Bool). Writes s (cond b (said_line (said_tree d) m (lines_from s from)) (said_tree d m (lines_from s from))) e x to) (sym (h.deep i)) w

  pub child-plain : n ≡ Expression → Writes s (said_tree d none (lines_from s from)) e x to → Writes s (said_child (said_tree d) m (lines_from s from)) e x to
  child-plain i w = child-deep (λ j. cc) (subst (λ (o : Said). Writes s o e x to) (sym (tree_plain d m (lines_from s from) (h.plain i))) w)

-- what a line that adds no depth gives the expressions below it
pub flat-under : (s : Bytes) (from end : ℕ) (l : LineEnd s from end) (more : end ≡ length s → ⊥) → shallow (word_next (lines_from s from)) ≡ true → none ≡ manner_of (word (Line-at s from end l more))
flat-under s from end l more h = sym (flat-manner (word (Line-at s from end l more)) (ap (λ (ls : List Line). shallow (word_next ls)) (sym (line-here s from end l more)) ∙ h))

-- ---- what is sought

seek-line : (d : ℕ) (v : Bytes) (shown : Bool) (ls : List Line) → sought_tree (suc d) v shown ls ≡ sought_line (sought_child (sought_tree d v) v) v shown ls
unfolding sought_tree
seek-line d v shown ls = refl

module _ (s : Bytes) (v : Bytes) (shown : Bool) (from left : ℕ) where
  pub sought-none : left ≡ 0 → Seeks s (sought_tree left v shown (lines_from s from)) false from
  unfolding sought_tree
  sought-none h = rw h (record { found = refl; left = refl })

  -- a level that may still be opened
  pub seek-opens : (b : Bool) (to : ℕ) → (left ≡ 0 → ⊥) → Seeks s (sought_line (sought_child (sought_tree (left - 1) v) v) v shown (lines_from s from)) b to → Seeks s (sought_tree left v shown (lines_from s from)) b to
  seek-opens b to h w = let j : left ≡ suc (left - 1) = omega arith in subst (λ (o : Sought). Seeks s o b to) (sym (ap (λ (n : ℕ). sought_tree n v shown (lines_from s from)) j ∙ seek-line (left - 1) v shown (lines_from s from))) w

module _ (f : Bool → List Line → Sought) (s : Bytes) (v : Bytes) (shown : Bool) (from : ℕ) where
  pub sought-nothing : (end : ℕ) → LineEnd s from end → end ≡ length s → Seeks s (sought_line f v shown (lines_from s from)) false end
  unfolding sought_line sought_children names_on mem to_come amounts table row_in same
  sought-nothing end l q =
      ⊎_elim
      (λ (z : lines_from s from ≡ []). rw z (record { found = refl; left = lines_end s end (omega arith) }))
      (λ (z : lines_from s from ≡ [] ∷ []). rw z (record { found = sym (or-false (shown && false) ∙ and-false shown); left = lines_end s end (omega arith) }))
      (nothing-here s from end l q)

module _ (s : Bytes) (v : Bytes) (shown : Bool) (from d : ℕ) (n : Sort) (h : Sorted (word_next (lines_from s from)) n) (b : Bool) (to : ℕ) where
  pub seek-flat : n ≡ Flat → Seeks s (sought_line (sought_tree d v) v shown (lines_from s from)) b to → Seeks s (sought_child (sought_tree d v) v shown (lines_from s from)) b to
  unfolding sought_child
  seek-flat i w = subst (λ (c : Bool). Seeks s (cond c (sought_line (sought_tree d v) v shown (lines_from s from)) (sought_tree d v shown (lines_from s from))) b to) (sym (h.flat i)) w

  pub seek-deep : (n ≡ Flat → ⊥) → Seeks s (sought_tree d v shown (lines_from s from)) b to → Seeks s (sought_child (sought_tree d v) v shown (lines_from s from)) b to
  unfolding sought_child
  seek-deep i w = subst (λ (c : Bool). Seeks s (cond c (sought_line (sought_tree d v) v shown (lines_from s from)) (sought_tree d v shown (lines_from s from))) b to) (sym (h.deep i)) w

-- k children are left from number i on; it was found in those before, or is in these, exactly if it is in the whole
pub record Searching (f : Bool → List Line → Sought) (shown : Bool) (l : Line) (i k : ℕ) (ls : List Line) (b : Bool) (whole : Sought) (start : Bool) : Type 0 where
  pub left : (sought_children f shown l i k ls).left ≡ whole.left
  pub found : (b || (sought_children f shown l i k ls).found) ≡ (start || whole.found)

pub searching-start : (f : Bool → List Line → Sought) (shown : Bool) (l : Line) (k n : ℕ) (ls : List Line) (b : Bool) → k ≡ n → Searching f shown l 0 k ls b (sought_children f shown l 0 n ls) b
searching-start f shown l k n ls b h = rw h (record { left = refl; found = refl })

module _ (f : Bool → List Line → Sought) (s : Bytes) (shown : Bool) (l : Line) (i k at : ℕ) (b : Bool) (whole : Sought) (start : Bool) (g : Searching f shown l i k (lines_from s at) b whole start) where
  searched : 0 < k → sought_children f shown l i k (lines_from s at) ≡ or_in (f (shown && shows l i) (lines_from s at)).found (sought_children f shown l (suc i) (k - 1) (f (shown && shows l i) (lines_from s at)).left)
  unfolding sought_children
  searched h = let j : k ≡ suc (k - 1) = omega arith in ap (λ (n : ℕ). sought_children f shown l i n (lines_from s at)) j

  searching-next : 0 < k → (c : Bool) (from : ℕ) → Seeks s (f (shown && shows l i) (lines_from s at)) c from → (d : Bool) → d ≡ (b || c) → Searching f shown l (i + 1) (k - 1) (lines_from s from) d whole start
  searching-next h c from w d q =
      let child = f (shown && shows l i) (lines_from s at) in
      let rest = sought_children f shown l (suc i) (k - 1) child.left in
      let at_next : sought_children f shown l (i + 1) (k - 1) (lines_from s from) ≡ rest = ap₂ (λ (j : ℕ) (o : List Line). sought_children f shown l j (k - 1) o) (omega arith) w.left in
      record {
        left = ap (λ (x : Sought). x.left) at_next ∙ ap (λ (x : Sought). x.left) (sym (searched h)) ∙ g.left;
        found =
            ap₂ (λ (y : Bool) (x : Sought). y || x.found) (q ∙ ap (λ (y : Bool). b || y) w.found) at_next
            ∙ or_assoc b child.found rest.found
            ∙ ap (λ (x : Sought). b || x.found) (sym (searched h))
            ∙ g.found;
      }

  pub searching-child : (sh : Bool) → sh ≡ (shown && shows l i) → 0 < k → (j : ℕ) → j ≡ k - 1 → (c : Bool) (from : ℕ) → Seeks s (f sh (lines_from s at)) c from → (d : Bool) → d ≡ (b || c) → Searching f shown l (i + 1) j (lines_from s from) d whole start
  searching-child sh q h j r c from w d e =
      subst (λ (x : ℕ). Searching f shown l (i + 1) x (lines_from s from) d whole start) (sym r) (searching-next h c from (subst (λ (x : Bool). Seeks s (f x (lines_from s at)) c from) q w) d e)

  module _ (h : k ≤ 0) where
    finished : sought_children f shown l i k (lines_from s at) ≡ record { found = false; left = lines_from s at }
    unfolding sought_children
    finished = let z : k ≡ 0 = omega arith in rw z

    pub sought-left : lines_from s at ≡ whole.left
    sought-left = ap (λ (x : Sought). x.left) (sym finished) ∙ g.left

    pub sought-found : b ≡ (start || whole.found)
    sought-found = sym (or-false b) ∙ ap (λ (x : Sought). b || x.found) (sym finished) ∙ g.found

module _ (f : Bool → List Line → Sought) (s : Bytes) (v : Bytes) (shown : Bool) (from end : ℕ) (l : LineEnd s from end) (more : end ≡ length s → ⊥) where
  abbrev pub Below : Sought
  Below = sought_children f shown (Line-at s from end l more) 0 (to_come (Line-at s from end l more)) (lines_from s (end + 1))

  fronted : sought_line f v shown (lines_from s from) ≡ or_in (shown && mem v (names_on (Line-at s from end l more))) Below
  unfolding sought_line
  fronted = ap (sought_line f v shown) (line-here s from end l more)

  pub seeks : (start b : Bool) (to : ℕ) → start ≡ (shown && mem v (names_on (Line-at s from end l more))) → b ≡ (start || Below.found) → lines_from s to ≡ Below.left → Seeks s (sought_line f v shown (lines_from s from)) b to
  seeks start b to a c d = subst (λ (w : Sought). Seeks s w b to) (sym fronted) (record { found = c ∙ ap (λ (y : Bool). y || Below.found) a; left = d })

-- ---- what is judged

module _ (ed : Edition) (s : Bytes) (n : ℕ) (w : Place) (from : ℕ) where
  pub judged-next : (end : ℕ) (l : LineEnd s from end) (more : end ≡ length s → ⊥)
      → judged_lines ed n w (lines_from s from) ≡ first (verdict_of ed n w (Line-at s from end l more) (lines_from s (end + 1))) (judged_lines ed n (place_under (word (Line-at s from end l more))) (lines_from s (end + 1)))
  unfolding judged_lines
  judged-next end l more = ap (judged_lines ed n w) (line-here s from end l more)

  pub judged-end : length s ≤ from → judged_lines ed n w (lines_from s from) ≡ none
  unfolding judged_lines
  judged-end h = ap (judged_lines ed n w) (lines_end s from h)
