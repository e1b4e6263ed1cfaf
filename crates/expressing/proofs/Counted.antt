-- The filters one after the other: their references, and the notes of which are placed. Assumes nothing.
use Prim.Native.Nat.{ℕ, zero, suc, ◌+◌, ◌-◌, ◌≤◌, ◌<◌}
use mathlib.Core.Path.{◌≡◌, refl, sym, ap, ap₂, subst, ◌∙◌}
use mathlib.Core.Bool.{Bool, true, false, cond, not, ◌&&◌}
use mathlib.Core.List.{List, [], ◌∷◌, ◌++◌, append-nil, append_assoc}
use mathlib.Core.Logic.{⊎_elim}
use native.Mathlib.Decide.{dec_lt}
use native.Mathlib.Nat.{zero-add}
use native.Mathlib.Numerals.{add-one}
use native.Mathlib.Omega.{arith}
use lib.ListN.{length, take, drop, set, get_or, length-set, drop_of_length-le}
use lib.Dec.{ltb}
use lib.Seq.{sets, sets-eq, take-set-le, take-suc-set, drop-cons, length-take-le}
use borrow.Author.Tests.{not-true, not-false}
use Rattle.text.specs.Text.{Bytes, Line, same, text_of, split, part, lines_from, First}
use Rattle.text.specs.Word.{bytes}
use Rattle.text.proofs.Places.{lines_next, lines-open, lines_end}
use Rattle.algebra.specs.Tally.{bounds}
use Rattle.words.specs.bridge.Key.{key_of, Keyed}
use Rattle.words.proofs.ByKey.{small, tells, same_key, other_key}
use Rattle.cursor.specs.bridge.Cursor.{left}
use Rattle.emit.specs.bridge.Emit.{Em, em, puts}
use Rattle.emit.proofs.Laws.{puts-append, puts-nil, puts-out}
use Rattle.scoping.specs.Sets.{all}
use Rattle.reader.specs.bridge.Lines.{LineEnd}
use Rattle.reader.proofs.Laws.{nothing-here}
use Rattle.walking.proofs.Laws.{line-split}
use Rattle.merging.specs.Request.{position}
use Rattle.heads.proofs.Cut.{text-append}
use Rattle.filtering.specs.bridge.FilterLines.{is_true_line, Walked, tree_to_expression, Placed, no_filters, one_more, placed_filters}
use Rattle.placing.specs.declared.field.Field.{Field}
use Rattle.placing.specs.bridge.Fields.{FieldIs}
use Rattle.expressing.specs.declared.express.Walked.{Walked as Went}
use Rattle.expressing.specs.declared.place.Noted.{Noted}
use Rattle.expressing.specs.bridge.Walks.{Walks, is_true_first, lines_at, filters_from, Notes}
use Rattle.expressing.specs.bridge.Filtered.{ref_below}

-- ---- references

module _ (s : Bytes) (from end w : ℕ) (h : from ≤ end) (i : end < length s) (f : First 9 s from end w) (k : ℕ) (keyed : Keyed (part from w s) k) (width : ℕ) where
  fields : split 9 (part from end s) ≡ part from w s ∷ left s (w + 1) end
  fields = line-split s from end w i h f

  pub ref-other : (k ≡ key_of 0 (bytes "ref") → ⊥) → true ≡ ref_below width (split 9 (part from end s))
  unfolding ref_below small tells
  ref-other n = rw (fields, other_key (part from w s) k keyed (bytes "ref") refl n)

  pub ref-is : k ≡ key_of 0 (bytes "ref") → (n : Field) → FieldIs s (w + 1) end n → (m : ℕ) → m ≡ position (part (w + 1) n.to s) → ltb m width ≡ ref_below width (split 9 (part from end s))
  unfolding ref_below small tells
  ref-is e n j m p = rw (fields, same_key (part from w s) k keyed (bytes "ref") refl e, sym j.is) (ap (λ (x : ℕ). ltb x width) p)

module _ (t : Line → Bool) (s : Bytes) (from : ℕ) where
  pub refs-done : length s ≤ from → true ≡ all t (lines_from s from)
  unfolding all
  refs-done h = rw (lines_end s from h)

  module _ (end : ℕ) (l : LineEnd s from end) where
    pub refs-stop : t [] ≡ true → end ≡ length s → true ≡ all t (lines_from s from)
    unfolding all
    refs-stop n q = ⊎_elim (λ (z : lines_from s from ≡ []). rw z) (λ (z : lines_from s from ≡ [] ∷ []). rw (z, n)) (nothing-here s from end l q)

    module _ (more : end ≡ length s → ⊥) where
      ends : end < length s
      ends = let h = l.high in omega arith

      pub refs-low : from ≤ end
      refs-low = (l.ends ends).low

      module _ (b : Bool) (is : b ≡ t (split 9 (part from end s))) where
        pub refs_out : not b ≡ true → false ≡ all t (lines_from s from)
        unfolding all
        refs_out h = rw (lines_next s from end (l.ends ends) ends, sym is ∙ not-true b h)

        pub refs-next : not b ≡ false → all t (lines_from s (end + 1)) ≡ all t (lines_from s from)
        unfolding all
        refs-next h = rw (lines_next s from end (l.ends ends) ends, sym is ∙ not-false b h)

pub no_ref : (width : ℕ) → ref_below width [] ≡ true
unfolding ref_below same
no_ref width = refl

-- ---- one filter

pub more-is : (b : Bool) (n : ℕ) → b ≡ true → n + 1 ≡ cond b (n + 1) n
more-is b n h = rw h

pub same-is : (b : Bool) (n : ℕ) → b ≡ false → n ≡ cond b (n + 1) n
same-is b n h = rw h

module _ (s : Bytes) (from end : ℕ) (l : LineEnd s from end) where
  -- a line that isn't ended, or none
  pub not-true-first : end ≡ length s → false ≡ is_true_first (lines_from s from)
  unfolding is_true_first is_true_line same
  not-true-first q = ⊎_elim (λ (z : lines_from s from ≡ []). rw z) (λ (z : lines_from s from ≡ [] ∷ []). rw z) (nothing-here s from end l q)

  pub first-low : (end ≡ length s → ⊥) → from ≤ end
  first-low n = let h = l.high in (l.ends (omega arith)).low

  pub true-first : (end ≡ length s → ⊥) → (r : Bool) → r ≡ is_true_line (split 9 (part from end s)) → r ≡ is_true_first (lines_from s from)
  unfolding is_true_first
  true-first n r e = let i : end < length s = (let h = l.high in omega arith) in e ∙ ap is_true_first (sym (lines_next s from end (l.ends i) i))

  -- a line starts here
  pub some-line : (P : Type 0) → from < length s → ((m : Line) (ms : List Line) → lines_from s from ≡ m ∷ ms → P) → P
  some-line P h k = go (dec_lt end (length s))
    where
      go : Dec (end < length s) → P
      go (yes i) = k _ _ (lines_next s from end (l.ends i) i)
      go (no i) =
          let t = l.high in
          let q : end ≡ length s = omega arith in
          k _ _ (lines-open s from end h (l.none q (let x : length s ≤ from → ⊥ = omega arith in x)) q)

-- ---- nothing written

nothing-set : (p : Bytes) (a : ℕ) → sets {A = ℕ} [] a p ≡ []
nothing-set [] a = refl
nothing-set (x ∷ p) a = nothing-set p (suc a)

-- an empty buffer stays empty
pub tried-is : (s : Bytes) (w : Walked) (a k : ℕ) (o : Bytes) (r : Went) (start : Em) → start ≡ em a [] → Walks s w start (em k o) r → Walks s w (em a []) (em k []) r
tried-is s w a k o r start i t =
    let x = subst (λ (y : Em). Walks s w y (em k o) r) i t in
    let e : o ≡ [] = ap (λ (y : Em). y.out) x.lines ∙ puts-out (text_of w.lines) (em a []) (omega arith) ∙ nothing-set (text_of w.lines) a in
    subst (λ (b : Bytes). Walks s w (em a []) (em k b) r) e x

-- ---- the lines at places

module _ (cs : List Bytes) (s : Bytes) where
  -- what is made of the filter that starts here
  abbrev Tried : ℕ → Walked
  Tried a = tree_to_expression cs bounds.lines (lines_from s a)

  pub one-more-place : (xs : List ℕ) (a : ℕ) → lines_at cs s (xs ++ (a ∷ [])) ≡ lines_at cs s xs ++ (Tried a).lines
  unfolding lines_at
  one-more-place [] a = append-nil (Tried a).lines
  one-more-place (x ∷ xs) a = ap (λ (ls : List Line). (Tried x).lines ++ ls) (one-more-place xs a) ∙ sym (append_assoc (Tried x).lines (lines_at cs s xs) (Tried a).lines)

  text-both : (a b : List Line) (e : Em) → puts (text_of b) (puts (text_of a) e) ≡ puts (text_of (a ++ b)) e
  text-both a b e = sym (puts-append (text_of a) (text_of b) e) ∙ ap (λ (z : Bytes). puts z e) (sym (text-append a b))

  -- one place after the other
  module _ (starts : List ℕ) (j : ℕ) (e whole : Em) (inv : puts (text_of (lines_at cs s (drop j starts))) e ≡ whole) where
    pub places-next : j < length starts → (f : Em) (r : Went) → Walks s (Tried (get_or starts j 0)) e f r → puts (text_of (lines_at cs s (drop (j + 1) starts))) f ≡ whole
    unfolding lines_at
    places-next h f r w =
        let a = get_or starts j 0 in
        let bs = drop (suc j) starts in
        ap₂ (λ (k : ℕ) (x : Em). puts (text_of (lines_at cs s (drop k starts))) x) (add-one j) w.lines
        ∙ text-both (Tried a).lines (lines_at cs s bs) e
        ∙ ap (λ (xs : List ℕ). puts (text_of (lines_at cs s xs)) e) (sym (drop-cons starts j 0 h))
        ∙ inv

    pub places-done : length starts ≤ j → e ≡ whole
    unfolding lines_at text_of
    places-done h = sym (puts-nil e) ∙ ap (λ (xs : List ℕ). puts (text_of (lines_at cs s xs)) e) (sym (drop_of_length-le starts h)) ∙ inv

-- ---- filter by filter

module _ (found : Bool) (cs : List Bytes) (s : Bytes) where
  abbrev Whole : Placed
  Whole = filters_from found cs s 0 bounds.entries 0

  abbrev Rest : ℕ → ℕ → Placed
  Rest i from = filters_from found cs s i (bounds.entries - i) from

  -- i filters are behind, of which many are placed: with what is left they are the whole
  pub record Going (i from many long : ℕ) (starts numbers : List ℕ) : Type 0 where
    pub low : many ≤ i
    pub high : i ≤ bounds.entries
    pub starts-long : length starts ≡ bounds.entries
    pub numbers_long : length numbers ≡ bounds.entries
    pub count : many + (Rest i from).many ≡ Whole.many
    pub lines : lines_at cs s (take many starts) ++ (Rest i from).lines ≡ Whole.lines
    pub others : take (i - many) numbers ++ (Rest i from).others ≡ Whole.others
    pub size : em long [] ≡ puts (text_of (lines_at cs s (take many starts))) (em 0 [])

  pub going_start : (starts numbers : List ℕ) → length starts ≡ bounds.entries → length numbers ≡ bounds.entries → Going 0 0 0 0 starts numbers
  unfolding lines_at text_of
  going_start starts numbers p q = record { low = omega arith; high = omega arith; starts-long = p; numbers_long = q; count = omega arith; lines = refl; others = refl; size = sym (puts-nil (em 0 [])) }

  no_lines : (i k : ℕ) → placed_filters found cs bounds.lines i k [] ≡ no_filters
  unfolding placed_filters
  no_lines i zero = refl
  no_lines i (suc k) = refl

  open_at : (i k : ℕ) (l : Line) (ls ms : List Line) → ms ≡ l ∷ ls
      → placed_filters found cs bounds.lines i (suc k) ms
      ≡ one_more (found && (not (is_true_first ms) && (tree_to_expression cs bounds.lines ms).expressed)) i (tree_to_expression cs bounds.lines ms).lines (placed_filters found cs bounds.lines (suc i) k (tree_to_expression cs bounds.lines ms).left)
  unfolding placed_filters is_true_first
  open_at i k l ls ms e =
      subst (λ (m : List Line). placed_filters found cs bounds.lines i (suc k) m
      ≡ one_more (found && (not (is_true_first m) && (tree_to_expression cs bounds.lines m).expressed)) i (tree_to_expression cs bounds.lines m).lines (placed_filters found cs bounds.lines (suc i) k (tree_to_expression cs bounds.lines m).left)) (sym e) refl

  module _ (i from many long : ℕ) (starts numbers : List ℕ) (g : Going i from many long starts numbers) where
    -- none is left
    nothing : Rest i from ≡ no_filters → Notes found cs s starts numbers (record { many = many; size = long; others = i - many })
    nothing z =
        let ls : lines_at cs s (take many starts) ≡ Whole.lines = sym (append-nil (lines_at cs s (take many starts))) ∙ ap (λ (x : Placed). lines_at cs s (take many starts) ++ x.lines) (sym z) ∙ g.lines in
        record {
          many = (let a = g.count in let b = ap (λ (x : Placed). x.many) z in omega arith);
          size = g.size ∙ ap (λ (m : List Line). puts (text_of m) (em 0 [])) ls;
          lines = ls;
          others = sym (append-nil (take (i - many) numbers)) ∙ ap (λ (x : Placed). take (i - many) numbers ++ x.others) (sym z) ∙ g.others;
          few = (let a = g.low in let b = g.high in omega arith);
          rest = (let b = g.high in omega arith);
          starts-long = g.starts-long;
          numbers_long = g.numbers_long;
        }

    pub going_end : length s ≤ from → Notes found cs s starts numbers (record { many = many; size = long; others = i - many })
    going_end h = nothing (ap (placed_filters found cs bounds.lines i (bounds.entries - i)) (lines_end s from h) ∙ no_lines i (bounds.entries - i))

    pub going_done : bounds.entries ≤ i → Notes found cs s starts numbers (record { many = many; size = long; others = bounds.entries - many })
    unfolding placed_filters
    going_done h =
        let z : bounds.entries - i ≡ 0 = omega arith in
        let e : i ≡ bounds.entries = (let a = g.high in omega arith) in
        subst (λ (k : ℕ). Notes found cs s starts numbers (record { many = many; size = long; others = k - many })) e (nothing (ap (λ (k : ℕ). filters_from found cs s i k from) z))

    module _ (more : i < bounds.entries) (here : from < length s) (end : ℕ) (l : LineEnd s from end) where
      abbrev T : Walked
      T = Tried cs s from

      abbrev Behind : Placed
      Behind = placed_filters found cs bounds.lines (suc i) (bounds.entries - (i + 1)) T.left

      opened : Rest i from ≡ one_more (found && (not (is_true_first (lines_from s from)) && T.expressed)) i T.lines Behind
      opened = some-line s from end l _ here λ m ms e.
          let j : bounds.entries - i ≡ suc (bounds.entries - (i + 1)) = omega arith in
          ap (λ (k : ℕ). filters_from found cs s i k from) j ∙ open_at i (bounds.entries - (i + 1)) m ms (lines_from s from) e

      module _ (r : Went) (long' : ℕ) (w : Walks s T (em long []) (em long' []) r) where
        behind : Rest (i + 1) r.from ≡ Behind
        behind = ap₂ (λ (n : ℕ) (ls : List Line). placed_filters found cs bounds.lines n (bounds.entries - (i + 1)) ls) (add-one i) w.left

        -- it is placed
        taken : Rest i from ≡ one_more true i T.lines Behind → Going (i + 1) r.from (many + 1) long' (set starts many from) (set numbers (i - many) i)
        taken o =
            let low = g.low in
            let a = g.starts-long in
            let at : take (many + 1) (set starts many from) ≡ take many starts ++ (from ∷ []) = ap (λ (k : ℕ). take k (set starts many from)) (add-one many) ∙ take-suc-set starts many from (omega arith) in
            let A = lines_at cs s (take many starts) in
            let ls : lines_at cs s (take (many + 1) (set starts many from)) ≡ A ++ T.lines = ap (lines_at cs s) at ∙ one-more-place cs s (take many starts) from in
            record {
              low = omega arith;
              high = omega arith;
              starts-long = length-set starts many from ∙ g.starts-long;
              numbers_long = length-set numbers (i - many) i ∙ g.numbers_long;
              count = (let c = g.count in let x = ap (λ (z : Placed). z.many) o in let y = ap (λ (z : Placed). z.many) behind in omega arith);
              lines = ap₂ (λ (m : List Line) (z : Placed). m ++ z.lines) ls behind ∙ append_assoc A T.lines Behind.lines ∙ ap (λ (z : Placed). A ++ z.lines) (sym o) ∙ g.lines;
              others =
                  ap₂ (λ (k : ℕ) (z : Placed). take k (set numbers (i - many) i) ++ z.others) (let q : i + 1 - (many + 1) ≡ i - many = omega arith in q) behind
                  ∙ ap (λ (ns : List ℕ). ns ++ Behind.others) (take-set-le (i - many) numbers (i - many) i (omega arith))
                  ∙ ap (λ (z : Placed). take (i - many) numbers ++ z.others) (sym o)
                  ∙ g.others;
              size = w.lines ∙ ap (puts (text_of T.lines)) g.size ∙ text-both cs s A T.lines (em 0 []) ∙ ap (λ (m : List Line). puts (text_of m) (em 0 [])) (sym ls);
            }

        -- it isn't
        listed : Rest i from ≡ one_more false i T.lines Behind → Going (i + 1) r.from many long (set starts many from) (set numbers (i - many) i)
        listed o =
            let low = g.low in
            let a = g.numbers_long in
            let at : take many (set starts many from) ≡ take many starts = take-set-le many starts many from (omega arith) in
            let N = take (i - many) numbers in
            record {
              low = omega arith;
              high = omega arith;
              starts-long = length-set starts many from ∙ g.starts-long;
              numbers_long = length-set numbers (i - many) i ∙ g.numbers_long;
              count = (let c = g.count in let x = ap (λ (z : Placed). z.many) o in let y = ap (λ (z : Placed). z.many) behind in omega arith);
              lines = ap₂ (λ (ks : List ℕ) (z : Placed). lines_at cs s ks ++ z.lines) at (behind) ∙ ap (λ (z : Placed). lines_at cs s (take many starts) ++ z.lines) (sym o) ∙ g.lines;
              others =
                  ap₂ (λ (k : ℕ) (z : Placed). take k (set numbers (i - many) i) ++ z.others) (let q : i + 1 - many ≡ suc (i - many) = omega arith in q) behind
                  ∙ ap (λ (ns : List ℕ). ns ++ Behind.others) (take-suc-set numbers (i - many) i (omega arith))
                  ∙ append_assoc N (i ∷ []) Behind.others
                  ∙ ap (λ (z : Placed). N ++ z.others) (sym o)
                  ∙ g.others;
              size = g.size ∙ ap (λ (ks : List ℕ). puts (text_of (lines_at cs s ks)) (em 0 [])) (sym at);
            }

        pub going_next : (t b c : Bool) → t ≡ is_true_first (lines_from s from) → b ≡ (not t && r.expressed) → c ≡ (found && b) → (size many' : ℕ) → size ≡ cond c long' long → many' ≡ cond c (many + 1) many
            → Going (i + 1) r.from many' size (set starts many from) (set numbers (i - many) i)
        going_next t b c p q u size many' x y = go c refl
          where
            is : c ≡ (found && (not (is_true_first (lines_from s from)) && T.expressed))
            is = u ∙ ap (λ (d : Bool). found && d) (q ∙ ap₂ (λ (d e : Bool). not d && e) p w.expressed)

            go : (d : Bool) → c ≡ d → Going (i + 1) r.from many' size (set starts many from) (set numbers (i - many) i)
            go true z =
                subst (λ (k : ℕ). Going (i + 1) r.from k size (set starts many from) (set numbers (i - many) i)) (sym (y ∙ ap (λ (d : Bool). cond d (many + 1) many) z))
                (subst (λ (k : ℕ). Going (i + 1) r.from (many + 1) k (set starts many from) (set numbers (i - many) i)) (sym (x ∙ ap (λ (d : Bool). cond d long' long) z))
                (taken (opened ∙ ap (λ (d : Bool). one_more d i T.lines Behind) (sym is ∙ z))))
            go false z =
                subst (λ (k : ℕ). Going (i + 1) r.from k size (set starts many from) (set numbers (i - many) i)) (sym (y ∙ ap (λ (d : Bool). cond d (many + 1) many) z))
                (subst (λ (k : ℕ). Going (i + 1) r.from many k (set starts many from) (set numbers (i - many) i)) (sym (x ∙ ap (λ (d : Bool). cond d long' long) z))
                (listed (opened ∙ ap (λ (d : Bool). one_more d i T.lines Behind) (sym is ∙ z))))

-- ---- the list

-- those behind j over the rest of a list
module _ (numbers list : List ℕ) (j : ℕ) where
  pub numbers-next : j < length numbers → sets (set list j (get_or numbers j 0)) (j + 1) (drop (j + 1) numbers) ≡ sets list j (drop j numbers)
  numbers-next h = ap (λ (k : ℕ). sets (set list j (get_or numbers j 0)) k (drop k numbers)) (add-one j) ∙ ap (sets list j) (sym (drop-cons numbers j 0 h))

  pub numbers-done : length numbers ≤ j → sets list j (drop j numbers) ≡ list
  numbers-done h = ap (sets list j) (drop_of_length-le numbers h)

pub numbers-put : (numbers list : List ℕ) → length numbers ≤ length list → sets list 0 numbers ≡ numbers ++ drop (length numbers) list
numbers-put numbers list h = sets-eq numbers list 0 (omega arith) ∙ ap (λ (k : ℕ). numbers ++ drop k list) (zero-add (length numbers))

-- as many places and numbers as were noted
module _ (found : Bool) (cs : List Bytes) (s : Bytes) (starts numbers : List ℕ) (j : Noted) (k : Notes found cs s starts numbers j) where
  pub starts-many : length (take j.many starts) ≡ j.many
  starts-many = let a = k.few in let b = k.starts-long in length-take-le j.many starts (omega arith)

  pub numbers-many : length (take j.others numbers) ≡ j.others
  numbers-many = let a = k.rest in let b = k.numbers_long in length-take-le j.others numbers (omega arith)
