-- An empty file: which texts are read as they stand, and what is known of a tree or query that is read in either way. Assumes nothing.
use mathlib.Core.Path.{◌≡◌, refl, sym, ap, subst, ◌∙◌}
use mathlib.Core.Bool.{Bool, true, false, cond}
use mathlib.Core.List.{List, [], ◌∷◌, ◌++◌, append_assoc}
use Prim.Native.Nat.{ℕ, ◌+◌, ◌≤◌}
use native.Mathlib.Omega.{arith}
use lib.Dec.{ltb, eqb}
use borrow.Author.Tests.{ltb-false, le-ltb}
use lib.ListN.{length, length-append}
use Rattle.text.specs.Text.{Bytes, Line, same, ended, text_of, onto, split, lines_in, lines_of}
use Rattle.text.specs.Word.{bytes, spelled}
use Rattle.text.specs.Field.{digits_of, number_of, digits, decimal, all_fit, form, opaque}
use Rattle.text.proofs.Texts.{Ended, neat-ended, text-back}
use Rattle.algebra.specs.Tree.{Pattern}
use Rattle.algebra.specs.Query.{Query}
use Rattle.algebra.specs.Layout.{put_triples, put, layout, put_query}
use Rattle.algebra.specs.Valid.{Fits, Triples, Valid, ValidQuery}
use Rattle.algebra.specs.Depth.{depth}
use Rattle.algebra.specs.Tally.{notes, noted, headed, within, bounds, start, tally_triples, tally, tally_query}
use Rattle.algebra.specs.Reader.{over_bound, reads, refuses, outcome, one, kept, rest, times, end, read_text}
use Rattle.algebra.specs.Reading.{pattern_after, inside, tree}
use Rattle.algebra.specs.ListReading.{query}
use Rattle.algebra.specs.Texts.{read_tree, read_query}
use Rattle.algebra.specs.Bounded.{layout_query}
use Rattle.algebra.specs.Given.{empty_tree, empty_lines, empty_text, tree_lines, query_lines, read_given_tree, read_given_query}
use Rattle.algebra.proofs.Grow.{counts}
use Rattle.algebra.proofs.Exactly.{all_read, short}
use Rattle.algebra.proofs.Theorem.{tree-matches, query-matches}

-- ---- texts that are read as they stand

-- a text of some bytes has a line
some-parts : (s : Bytes) → (p : Bytes) × (ps : List Bytes) × (split 10 s ≡ p ∷ ps)
unfolding split onto
some-parts [] = ([], [], refl)
some-parts (b ∷ s) = go (eqb b 10) (some-parts s)
  where
    go : (t : Bool) → ((p : Bytes) × (ps : List Bytes) × (split 10 s ≡ p ∷ ps)) → (p : Bytes) × (ps : List Bytes) × (cond t ([] ∷ split 10 s) (onto b (split 10 s)) ≡ p ∷ ps)
    go true x = ([], split 10 s, refl)
    go false x = (b ∷ x.0, x.1, ap (onto b) x.2)

pub some-line : (b : ℕ) (s : Bytes) → (l : Line) × (ls : List Line) × (lines_of (b ∷ s) ≡ l ∷ ls)
unfolding lines_of lines_in split onto
some-line b s = go (eqb b 10) (some-parts s)
  where
    more : (p : Bytes) (ps : List Bytes) → (l : Line) × (ls : List Line) × (lines_in ((b ∷ p) ∷ ps) ≡ l ∷ ls)
    more p [] = ([], [], refl)
    more p (q ∷ ps) = (split 9 (b ∷ p), lines_in (q ∷ ps), refl)

    go : (t : Bool) → ((p : Bytes) × (ps : List Bytes) × (split 10 s ≡ p ∷ ps)) → (l : Line) × (ls : List Line) × (lines_in (cond t ([] ∷ split 10 s) (onto b (split 10 s))) ≡ l ∷ ls)
    go true x = (split 9 [], lines_in (x.0 ∷ x.1), ap (λ (ps : List Bytes). lines_in ([] ∷ ps)) x.2)
    go false x = let y = more x.0 x.1 in (y.0, y.1, ap (λ (ps : List Bytes). lines_in (onto b ps)) x.2 ∙ y.2)

-- a tree's text of some bytes
pub tree-as-it-is : (b : ℕ) (s : Bytes) → read_given_tree (b ∷ s) ≡ read_tree (b ∷ s)
unfolding read_given_tree read_tree read_text
tree-as-it-is b s =
    let x = some-line b s in
    let e : tree_lines (lines_of (b ∷ s)) ≡ lines_of (b ∷ s) = ap tree_lines x.2 ∙ sym x.2 in
    ap (λ (ls : List Line). cond (ltb 16384 (length (b ∷ s))) (refuses over_bound) (outcome (tree bounds ls start))) e

-- a text of no bytes
pub empty-reads : read_given_tree [] ≡ reads empty_tree
unfolding read_given_tree lines_in split within noted headed notes inside one end kept rest times pattern_after spelled same number_of digits_of all_fit
empty-reads = refl

-- so a tree's text is read as this one as it stands
abbrev pub tree_text : Bytes → Bytes
tree_text [] = empty_text
tree_text (b ∷ s) = b ∷ s

pub text-none : (s : Bytes) → length s ≡ 0 → tree_text s ≡ empty_text
text-none [] e = refl
text-none (b ∷ s) e = absurd (omega arith)

pub text-some : (s : Bytes) → (length s ≡ 0 → ⊥) → tree_text s ≡ s
text-some [] n = absurd (n refl)
text-some (b ∷ s) n = refl

pub text-longer : (s : Bytes) → length (tree_text s) ≤ length s + 14
text-longer [] = omega arith
text-longer (b ∷ s) = omega arith

pub given-as-text : (s : Bytes) → read_given_tree s ≡ read_tree (tree_text s)
unfolding read_given_tree read_tree read_text lines_in split onto within noted headed notes inside one end kept rest times pattern_after spelled same number_of digits_of all_fit
given-as-text [] = refl
given-as-text (b ∷ s) = tree-as-it-is b s

-- a query's text that isn't one line alone
pub query-as-it-is : (s : Bytes) → ((l : Line) → lines_of s ≡ l ∷ [] → ⊥) → read_given_query s ≡ read_query s
unfolding read_given_query read_query read_text
query-as-it-is s other = ap (λ (ls : List Line). cond (ltb 16384 (length s)) (refuses over_bound) (outcome (query bounds ls start))) (go (lines_of s) refl)
  where
    go : (ls : List Line) → lines_of s ≡ ls → query_lines ls ≡ ls
    go [] e = refl
    go (l ∷ []) e = absurd (other l e)
    go (l ∷ m ∷ ls) e = refl

-- ---- what is known of a tree or a query that is read

-- well formed and within the bounds; its lines are those that are read, and its text is at most the two lines longer than the text that was given
pub record TreeGiven (s : Bytes) (p : Pattern) : Type 0 where
  pub valid : Valid p
  pub names : length (tally p start).names ≤ 1024
  pub rows : (tally p start).lines ≤ 2048
  pub columns : (tally p start).wide ≤ bounds.columns
  pub deep : depth p ≤ 64
  pub bytes : length s ≤ 16384
  pub lines : put p [] ≡ tree_lines (lines_of s)
  pub size : length (layout p) ≤ length s + 14

pub record QueryGiven (s : Bytes) (q : Query) : Type 0 where
  pub valid : ValidQuery q
  pub names : length (tally_query q start).names ≤ 1024
  pub rows : (tally_query q start).lines ≤ 2048
  pub columns : (tally_query q start).wide ≤ bounds.columns
  pub deep : depth q.tree ≤ 64
  pub bytes : length s ≤ 16384
  pub lines : put_query q [] ≡ query_lines (lines_of s)
  pub size : length (layout_query q) ≤ length s + 14

ended-behind : (l : Line) (x y : Bytes) → ended l (x ++ y) ≡ ended l x ++ y
unfolding ended
ended-behind [] x y = refl
ended-behind (f ∷ []) x y = sym (append_assoc f (10 ∷ x) y)
ended-behind (f ∷ g ∷ fs) x y = ap (λ (t : Bytes). f ++ (9 ∷ t)) (ended-behind (g ∷ fs) x y) ∙ sym (append_assoc f (9 ∷ ended (g ∷ fs) x) y)

-- the text of lines as they are read
tree-size : (s : Bytes) (ls : List Line) → lines_of s ≡ ls → Ended (tree_lines ls) → length (text_of (tree_lines ls)) ≤ length s + 14
unfolding text_of ended
tree-size s [] e n = omega arith
tree-size s (l ∷ ls) e n = omega (arith, ap length (ap text_of (sym e) ∙ text-back s (subst Ended (sym e) n)))

-- the text of one line, and the two lines behind it
behind-line : (s : Bytes) (l : Line) → lines_of s ≡ l ∷ [] → Ended (l ∷ []) → text_of (l ∷ empty_lines) ≡ s ++ text_of empty_lines
unfolding text_of
behind-line s l e n = ended-behind l [] (text_of empty_lines) ∙ ap (λ (t : Bytes). t ++ text_of empty_lines) (ap text_of (sym e) ∙ text-back s (subst Ended (sym e) n))

empty-ended : (l : Line) (ls : List Line) → Ended (l ∷ ls) → Ended (l ∷ [])
empty-ended [] ls n = n
empty-ended (f ∷ fs) ls n = tt

query-size : (s : Bytes) (ls : List Line) → lines_of s ≡ ls → Ended (query_lines ls) → length (text_of (query_lines ls)) ≤ length s + 14
unfolding text_of ended
query-size s [] e n = omega arith
query-size s (l ∷ []) e n = omega (arith, ap length (behind-line s l e (empty-ended l empty_lines n)), length-append s (text_of empty_lines))
query-size s (l ∷ m ∷ ls) e n = omega (arith, ap length (ap text_of (sym e) ∙ text-back s (subst Ended (sym e) n)))

pub tree-given : (s : Bytes) (p : Pattern) → read_given_tree s ≡ reads p → TreeGiven s p
unfolding read_given_tree layout
tree-given s p e =
    let w = tree-matches bounds in
    let c = short (ltb 16384 (length s)) (outcome (tree bounds (tree_lines (lines_of s)) start)) p e in
    let g = all_read (tree bounds (tree_lines (lines_of s)) start) p c.1 in
    let x = w.sound (tree_lines (lines_of s)) g.0 p g.1 in
    let b = counts bounds (tally p start) x.1 in
    let n : Ended (tree_lines (lines_of s)) = subst Ended (sym x.2.0) (neat-ended (put p []) (w.neat p x.2.1)) in
    record {
      valid = x.2.1;
      names = b.names;
      rows = b.lines;
      columns = b.wide;
      deep = x.2.2;
      bytes = ltb-false 16384 (length s) c.0;
      lines = sym x.2.0;
      size = subst (λ (ls : List Line). length (text_of ls) ≤ length s + 14) x.2.0 (tree-size s (lines_of s) refl n);
    }

pub query-given : (s : Bytes) (q : Query) → read_given_query s ≡ reads q → QueryGiven s q
unfolding read_given_query layout_query
query-given s q e =
    let w = query-matches bounds in
    let c = short (ltb 16384 (length s)) (outcome (query bounds (query_lines (lines_of s)) start)) q e in
    let g = all_read (query bounds (query_lines (lines_of s)) start) q c.1 in
    let x = w.sound (query_lines (lines_of s)) g.0 q g.1 in
    let b = counts bounds (tally_query q start) x.1 in
    let n : Ended (query_lines (lines_of s)) = subst Ended (sym x.2.0) (neat-ended (put_query q []) (w.neat q x.2.1)) in
    record {
      valid = x.2.1;
      names = b.names;
      rows = b.lines;
      columns = b.wide;
      deep = x.2.2;
      bytes = ltb-false 16384 (length s) c.0;
      lines = sym x.2.0;
      size = subst (λ (ls : List Line). length (text_of ls) ≤ length s + 14) x.2.0 (query-size s (lines_of s) refl n);
    }

-- a head line alone of up to 16,384 bytes is read: the two lines are not counted
pub head-reads : (s kind dataset base : Bytes) → lines_of s ≡ (bytes "query" ∷ kind ∷ dataset ∷ base ∷ []) ∷ [] → Fits form kind → Fits opaque dataset → Fits opaque base → length s ≤ 16384
    → read_given_query s ≡ reads (record { kind = kind; dataset = dataset; base = base; tree = empty_tree })
unfolding read_given_query put_query put put_triples decimal digits tally_query tally tally_triples headed noted notes within Valid ValidQuery Triples all_fit depth
head-reads s kind dataset base e k d b h =
    let q : Query = record { kind = kind; dataset = dataset; base = base; tree = empty_tree } in
    let r = (query-matches bounds).back q (k, d, b, (refl, (omega arith, tt))) (omega arith) (omega arith) refl in
    rw (le-ltb 16384 (length s) h, e, r)
