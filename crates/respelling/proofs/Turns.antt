-- What is left to write does what the whole does: field by field of a line, and line by line. Assumes nothing.
use Prim.Native.Nat.{ℕ, suc, ◌+◌, ◌≤◌, ◌<◌}
use mathlib.Core.Path.{◌≡◌, refl, sym, ap, subst, ◌∙◌}
use mathlib.Core.Bool.{Bool, true, false, cond, not, ◌&&◌}
use mathlib.Core.List.{List, [], ◌∷◌, ◌++◌, map, append_assoc}
use native.Mathlib.Numerals.{add-one}
use native.Mathlib.Omega.{arith}
use native.Mathlib.Decide.{dec_lt}
use lib.ListN.{length, get_or}
use borrow.Author.Tests.{not-true, not-false}
use Rattle.text.specs.Text.{Bytes, Line, part, First, ended, text_of, lines_from}
use Rattle.text.proofs.Texts.{Ended}
use Rattle.text.proofs.Places.{lines_next, lines-open, lines_end}
use Rattle.words.specs.bridge.Key.{Keyed}
use Rattle.cursor.specs.bridge.Cursor.{left}
use Rattle.cursor.proofs.Laws.{left-none, left-next}
use Rattle.walking.specs.bridge.Walk.{tabbed}
use Rattle.walking.proofs.Laws.{line-split}
use Rattle.emit.specs.bridge.Emit.{puts}
use Rattle.emit.specs.bridge.Writer.{Wrote, state}
use Rattle.emit.specs.declared.Writer.{Writer}
use Rattle.emit.proofs.Laws.{puts-nil}
use Rattle.converting.specs.Starts.{Start}
use Rattle.converting.specs.Namespaces.{converted_iri}
use Rattle.converting.specs.bridge.Lines.{is_iri_at, in_fields, in_line, iris_of_fields, iris_in}
use Rattle.respelling.specs.declared.Put.{Put}
use Rattle.respelling.specs.bridge.Written.{are_covered, copied_to, Converted}
use Rattle.respelling.proofs.Pieces.{one_byte, converted_nothing, converted-copy, converted_then, converted_as}

-- ---- a field

module _ (ss : List Start) (tree : Bytes) (from to : ℕ) (word : Bytes) (i : ℕ) (b : Bool) (is : b ≡ is_iri_at word i (part from to tree)) (p : Put) (w : Writer) where
  abbrev field : Bytes
  field = part from to tree

  abbrev pub Field : Put → Writer → Type 0
  Field q v = Converted ss tree from to (cond (is_iri_at word i field) (converted_iri ss field) field) (cond (is_iri_at word i field) (field ∷ []) []) p w q v

  pub field-stays : p.done ≤ from → from ≤ to → not b ≡ true → Field p w
  field-stays h k n = rw (sym is ∙ not-true b n) (converted-copy ss tree from to p w h k)

  pub field-iri : (q : Put) (v : Writer) → not b ≡ false → Converted ss tree from to (converted_iri ss field) (field ∷ []) p w q v → Field q v
  field-iri q v n u = rw (sym is ∙ not-false b n) u

-- ---- the fields of a line

-- from a word or field's end on, the fields from number i on
abbrev pub Fields : List Start → Bytes → ℕ → ℕ → Bytes → ℕ → Put → Writer → Put → Writer → Type 0
Fields ss tree at end word i p w q v = Converted ss tree at end (tabbed (in_fields (converted_iri ss) word i (left tree (at + 1) end))) (iris_of_fields word i (left tree (at + 1) end)) p w q v

pub record Going (ss : List Start) (tree : Bytes) (from end key : ℕ) (p₀ : Put) (w₀ : Writer) (p : Put) (w : Writer) (at i : ℕ) : Type 0 where
  pub low : p.done ≤ at
  pub here : at ≤ end
  pub few : i ≤ at
  pub tab : at < end → get_or tree at 0 ≡ 9
  pub so : (word : Bytes) → Keyed word key → (q : Put) (v : Writer) → Fields ss tree at end word i p w q v → Fields ss tree from end word 0 p₀ w₀ q v

pub going_start : (ss : List Start) (tree : Bytes) (from end key : ℕ) (p : Put) (w : Writer) → p.done ≤ from → from ≤ end → (from < end → get_or tree from 0 ≡ 9) → Going ss tree from end key p w p w from 0
going_start ss tree from end key p w h k t = record { low = h; here = k; few = omega arith; tab = t; so = λ word keyed q v u. u }

module _ (ss : List Start) (tree : Bytes) (from end key : ℕ) (p₀ : Put) (w₀ : Writer) (p : Put) (w : Writer) (at i : ℕ) (g : Going ss tree from end key p₀ w₀ p w at i) (high : end < length tree) where
  pub going_end : end ≤ at → (p.done ≤ end) × ((word : Bytes) → Keyed word key → Fields ss tree from end word 0 p₀ w₀ p w)
  unfolding tabbed in_fields iris_of_fields
  going_end h =
      let low = g.low in
      let here = g.here in
      let e : at ≡ end = omega arith in
      (omega arith, λ word keyed. g.so word keyed p w (subst (λ (k : ℕ). Fields ss tree k end word i p w p w) (sym e) (rw (left-none tree (end + 1) end (omega arith)) (converted_nothing ss tree end p w))))

  module _ (less : at < end) (to : ℕ) (f : First 9 tree (at + 1) end to) (q : Put) (v : Writer) (done : q.done ≤ to)
      (put : (word : Bytes) → Keyed word key → Converted ss tree (at + 1) to (cond (is_iri_at word i (part (at + 1) to tree)) (converted_iri ss (part (at + 1) to tree)) (part (at + 1) to tree)) (cond (is_iri_at word i (part (at + 1) to tree)) (part (at + 1) to tree ∷ []) []) p w q v) where
    abbrev this : Bytes
    this = part (at + 1) to tree

    -- a tab and the field, then those that follow
    next : (word : Bytes) → Keyed word key → (r : Put) (x : Writer) → Fields ss tree to end word (i + 1) q v r x → Fields ss tree at end word i p w r x
    unfolding tabbed in_fields iris_of_fields
    next word keyed r x u =
        let low = g.low in
        let tab : part at (at + 1) tree ≡ 9 ∷ [] = one_byte tree at (omega arith) ∙ ap (λ (x : ℕ). x ∷ []) (g.tab less) in
        let fs = left tree (to + 1) end in
        let b = cond (is_iri_at word i this) (converted_iri ss this) this in
        let one = converted_as ss tree at (at + 1) _ _ _ _ p p w w tab refl (converted-copy ss tree at (at + 1) p w low (omega arith)) in
        let xs : List Bytes = cond (is_iri_at word i this) (this ∷ []) [] in
        let two = converted_then ss tree at (at + 1) to (9 ∷ []) b [] xs p p q w w v one (put word keyed) in
        let all = converted_then ss tree at to end (9 ∷ b) (tabbed (in_fields (converted_iri ss) word (i + 1) fs)) xs (iris_of_fields word (i + 1) fs) p q r w v x two u in
        rw (left-next tree (at + 1) end to (omega arith) (omega arith) f)
        (converted_as ss tree at end (9 ∷ (b ++ tabbed (in_fields (converted_iri ss) word (i + 1) fs))) (9 ∷ (b ++ tabbed (in_fields (converted_iri ss) word (suc i) fs)))
        (xs ++ iris_of_fields word (i + 1) fs) (cond (is_iri_at word i this) (this ∷ iris_of_fields word (suc i) fs) (iris_of_fields word (suc i) fs)) p r w x
        (ap (λ (n : ℕ). 9 ∷ (b ++ tabbed (in_fields (converted_iri ss) word n fs))) (add-one i))
        (ap (λ (n : ℕ). xs ++ iris_of_fields word n fs) (add-one i) ∙ iris-cond (is_iri_at word i this) this (iris_of_fields word (suc i) fs))
        all)
      where
        iris-cond : (b : Bool) (y : Bytes) (ys : List Bytes) → cond b (y ∷ []) [] ++ ys ≡ cond b (y ∷ ys) ys
        iris-cond true y ys = refl
        iris-cond false y ys = refl

    pub going_next : Going ss tree from end key p₀ w₀ q v to (i + 1)
    going_next =
        let l = f.low in
        let few = g.few in
        record {
          low = done;
          here = f.high;
          few = omega arith;
          tab = f.here;
          so = λ word keyed r x u. g.so word keyed r x (next word keyed r x u);
        }

-- ---- the lines

abbrev pub Lines : List Start → Bytes → ℕ → Put → Writer → Put → Writer → Type 0
Lines ss tree at p w q v = Converted ss tree at (length tree) (text_of (map (in_line (converted_iri ss)) (lines_from tree at))) (iris_in (lines_from tree at)) p w q v

pub record Below (ss : List Start) (tree : Bytes) (p₀ : Put) (w₀ : Writer) (p : Put) (w : Writer) (at : ℕ) : Type 0 where
  pub low : p.done ≤ at
  pub here : at ≤ length tree
  pub good : Ended (lines_from tree at)
  pub so : (q : Put) (v : Writer) → Lines ss tree at p w q v → Lines ss tree 0 p₀ w₀ q v

pub below-start : (ss : List Start) (tree : Bytes) (p : Put) (w : Writer) → p.done ≡ 0 → Ended (lines_from tree 0) → Below ss tree p w p w 0
below-start ss tree p w z e = record { low = omega arith; here = omega arith; good = e; so = λ q v u. u }

ended-tail : (l : Line) (ls : List Line) → Ended (l ∷ ls) → Ended ls
ended-tail [] ls e = absurd e
ended-tail (f ∷ fs) ls e = e

tabbed-line : (w : Bytes) (fs : List Bytes) (rest : Bytes) → ended (w ∷ fs) rest ≡ w ++ (tabbed fs ++ (10 ∷ rest))
unfolding ended tabbed
tabbed-line w [] rest = refl
tabbed-line w (f ∷ fs) rest = ap (λ (b : Bytes). w ++ (9 ∷ b)) (tabbed-line f fs rest ∙ sym (append_assoc f (tabbed fs) (10 ∷ rest)))

module _ (ss : List Start) (tree : Bytes) (p₀ : Put) (w₀ : Writer) (p : Put) (w : Writer) (at : ℕ) (g : Below ss tree p₀ w₀ p w at) where
  -- each line is ended
  pub line-ends : at < length tree → (end : ℕ) → First 10 tree at (length tree) end → end < length tree
  line-ends h end f = go (dec_lt end (length tree))
    where
      go : Dec (end < length tree) → end < length tree
      go (yes k) = k
      go (no k) = let l = f.high in absurd (subst Ended (lines-open tree at end h f (omega arith)) g.good)

  module _ (less : at < length tree) (end : ℕ) (f : First 10 tree at (length tree) end) (a key : ℕ) (word : First 9 tree at end a) (keyed : Keyed (part at a tree) key)
      (q : Put) (v : Writer) (done : q.done ≤ end) (put : (x : Bytes) → Keyed x key → Fields ss tree a end x 0 p w q v) where
    this-line : lines_from tree at ≡ (part at a tree ∷ left tree (a + 1) end) ∷ lines_from tree (end + 1)
    this-line =
        let e = line-ends less end f in
        let k = f.low in
        lines_next tree at end f e ∙ ap (λ (x : Line). x ∷ lines_from tree (end + 1)) (line-split tree at end a e k word)

    next-line : (r : Put) (z : Writer) → Lines ss tree (end + 1) q v r z → Lines ss tree at p w r z
    unfolding in_line iris_in text_of
    next-line r z u =
        let e = line-ends less end f in
        let low = g.low in
        let la = word.low in
        let lb = word.high in
        let fs = left tree (a + 1) end in
        let x = part at a tree in
        let ls = lines_from tree (end + 1) in
        let xs = in_fields (converted_iri ss) x 0 fs in
        let t = text_of (map (in_line (converted_iri ss)) ls) in
        let nl : part end (end + 1) tree ≡ 10 ∷ [] = one_byte tree end e ∙ ap (λ (y : ℕ). y ∷ []) (f.here e) in
        let one = converted-copy ss tree at a p w low la in
        let two = put x keyed in
        let three = converted_as ss tree end (end + 1) _ _ _ _ q q v v nl refl (converted-copy ss tree end (end + 1) q v done (omega arith)) in
        let four = converted_then ss tree end (end + 1) (length tree) (10 ∷ []) t [] (iris_in ls) q q r v v z three u in
        let five = converted_then ss tree a end (length tree) (tabbed xs) (10 ∷ t) _ (iris_in ls) p q r w v z two four in
        let six = converted_then ss tree at a (length tree) x (tabbed xs ++ (10 ∷ t)) [] _ p p r w w z one five in
        rw this-line (converted_as ss tree at (length tree) _ _ _ _ p r w z (sym (tabbed-line x xs t)) refl six)

    pub below_next : Below ss tree p₀ w₀ q v (end + 1)
    below_next =
        let e = line-ends less end f in
        record {
          low = omega arith;
          here = omega arith;
          good = ended-tail (part at a tree ∷ left tree (a + 1) end) (lines_from tree (end + 1)) (subst Ended this-line g.good);
          so = λ r z u. g.so r z (next-line r z u);
        }

  -- no line is left: what waits is copied
  pub below_end : length tree ≤ at → p₀.done ≡ 0 → p₀.covered ≡ true → (v : Writer) → Wrote w v (part p.done (length tree) tree)
      → Wrote w₀ v (text_of (map (in_line (converted_iri ss)) (lines_from tree 0))) × (p.covered ≡ are_covered ss (iris_in (lines_from tree 0)))
  unfolding text_of iris_in copied_to
  below_end h zd zc v e =
      let here = g.here in
      let z : at ≡ length tree = omega arith in
      let all = text_of (map (in_line (converted_iri ss)) (lines_from tree 0)) in
      let u = g.so p w (subst (λ (k : ℕ). Converted ss tree k (length tree) (text_of (map (in_line (converted_iri ss)) (lines_from tree at))) (iris_in (lines_from tree at)) p w p w) (sym z) (rw (lines_end tree at h) (converted_nothing ss tree (length tree) p w))) in (
        record {
          same = e.same ∙ u.same;
          puts = e.puts ∙ u.text ∙ ap (puts all) (ap (λ (i : ℕ). puts (part i 0 tree) (state w₀)) zd ∙ puts-nil (state w₀));
        },
        u.gaps ∙ ap (λ (b : Bool). b && are_covered ss (iris_in (lines_from tree 0))) zc,
      )
