-- What namespaces needs: 33 times its tree, since an IRI that a line covers has 4 bytes with its tab and grows by 127 at most; and two lines for an empty file. Assumes nothing.
use Prim.Native.Nat.{ℕ, suc, ◌+◌, ◌-◌, ◌*◌, ◌≤◌}
use mathlib.Core.Path.{◌≡◌, refl, sym, ap, ◌∙◌}
use mathlib.Core.Bool.{Bool, true, false, cond, not, ◌&&◌}
use mathlib.Core.List.{List, [], ◌∷◌, ◌++◌, map}
use mathlib.Core.Option.{some}
use native.Mathlib.Omega.{arith}
use lib.ListN.{length, drop, length-append, length-drop}
use lib.Dec.{leb, eqb}
use borrow.Author.Tests.{leb-true}
use Rattle.text.specs.Text.{Bytes, Line, ended, text_of, lines_from}
use Rattle.text.specs.Field.{digits, decimal, clean, is_iri}
use Rattle.text.proofs.Basics.{and_left, and_right}
use Rattle.algebra.specs.Tree.{Pattern}
use Rattle.algebra.specs.Layout.{put_triples, put, layout}
use Rattle.algebra.specs.Reader.{reads}
use Rattle.algebra.specs.Texts.{read_tree}
use Rattle.algebra.specs.Given.{empty_tree}
use Rattle.algebra.proofs.Theorem.{tree-exactly}
use Rattle.algebra.proofs.Given.{empty-reads, tree-as-it-is}
use Rattle.answers.specs.Outcome.{written, refused_unless}
use Rattle.scoping.specs.Sets.{all, keep}
use Rattle.converting.specs.Starts.{Start, is_start, read_starts, old_starts, in_order}
use Rattle.converting.specs.Tables.{ValidStarts}
use Rattle.converting.specs.Terms.{terms_of, iris_of, with_iris}
use Rattle.converting.specs.Namespaces.{covers, covering_line, start_replaced, converted_iri, is_covered, converted, namespaces_read, namespaces_outcome}
use Rattle.converting.specs.bridge.AsIs.{namespaces_as_is}
use Rattle.converting.specs.bridge.Lines.{is_iri_at, in_fields, in_line, iris_of_fields, iris_in}
use Rattle.converting.proofs.Reading.{starts-exactly}
use Rattle.converting.proofs.Converted.{covered-long}
use Rattle.converting.proofs.ByLine.{lines_are, iris-lines, converted-lines}
use Rattle.room.specs.Room.{namespaces_room}
use Rattle.room.proofs.Enough.{Enough, then-enough, test-enough, enough-more}

-- ---- one IRI

start-long : (f : Bytes) → is_start f ≡ true → 1 ≤ length f
unfolding is_start
start-long f h = leb-true 1 (length f) (and_left (leb 1 (length f)) (leb (length f) 128 && (clean f && all (λ b. not (eqb b 62)) f)) h)

start-short : (f : Bytes) → is_start f ≡ true → length f ≤ 128
unfolding is_start
start-short f h = leb-true (length f) 128 (and_left (leb (length f) 128) (clean f && all (λ b. not (eqb b 62)) f) (and_right (leb 1 (length f)) (leb (length f) 128 && (clean f && all (λ b. not (eqb b 62)) f)) h))

abbrev Grows : (Bytes → Bytes) → Type 0
Grows f = (x : Bytes) → is_iri x ≡ true → length (f x) + 1 ≤ 33 * (length x + 1)

iri-grows : (ss : List Start) → ValidStarts ss → Grows (converted_iri ss)
unfolding converted_iri covering_line ValidStarts
iri-grows [] v x i = omega arith
iri-grows (s ∷ ss) v x i = go (covers x s) refl (iri-grows ss v.2 x i)
  where
    go : (b : Bool) → covers x s ≡ b → length (start_replaced (covering_line ss x) x) + 1 ≤ 33 * (length x + 1) → length (start_replaced (cond b (some s) (covering_line ss x)) x) + 1 ≤ 33 * (length x + 1)
    go true e r =
        let a = start-long s.old v.0 in
        let b = start-short s.new v.1 in
        let c = covered-long s x v.0 e i in
        omega (arith, length-append s.new (drop (suc (length s.old)) x), length-drop (suc (length s.old)) x)
    go false e r = r

-- ---- lines

fields_size : List Bytes → ℕ
fields_size [] = 0
fields_size (f ∷ fs) = length f + 1 + fields_size fs

ended-size : (f : Bytes) (fs : List Bytes) (rest : Bytes) → length (ended (f ∷ fs) rest) ≡ fields_size (f ∷ fs) + length rest
unfolding ended fields_size
ended-size f [] rest = omega (arith, length-append f (10 ∷ rest))
ended-size f (g ∷ gs) rest = omega (arith, length-append f (9 ∷ ended (g ∷ gs) rest), ended-size g gs rest)

all_append : {A : Type 0} (t : A → Bool) (a b : List A) → all t (a ++ b) ≡ true → (all t a ≡ true) × (all t b ≡ true)
unfolding all
all_append t [] b h = (refl, h)
all_append t (x ∷ xs) b h =
    let r = all_append t xs b (and_right (t x) (all t (xs ++ b)) h) in
    (ap (λ (c : Bool). c && all t xs) (and_left (t x) (all t (xs ++ b)) h) ∙ r.0, r.1)

all-kept : (xs : List Bytes) → all is_iri (keep is_iri xs) ≡ true
unfolding all keep
all-kept [] = refl
all-kept (x ∷ xs) = go (is_iri x) refl (all-kept xs)
  where
    go : (b : Bool) → is_iri x ≡ b → all is_iri (keep is_iri xs) ≡ true → all is_iri (cond b (x ∷ keep is_iri xs) (keep is_iri xs)) ≡ true
    go true e h = ap (λ (c : Bool). c && all is_iri (keep is_iri xs)) e ∙ h
    go false e h = h

module _ (f : Bytes → Bytes) (grows : Grows f) where
  fields-grow : (w : Bytes) (i : ℕ) (fs : List Bytes) → all is_iri (iris_of_fields w i fs) ≡ true → fields_size (in_fields f w i fs) ≤ 33 * fields_size fs
  unfolding in_fields iris_of_fields fields_size all
  fields-grow w i [] h = omega arith
  fields-grow w i (x ∷ xs) h = go (is_iri_at w i x) h (fields-grow w (suc i) xs)
    where
      go : (b : Bool) → all is_iri (cond b (x ∷ iris_of_fields w (suc i) xs) (iris_of_fields w (suc i) xs)) ≡ true → (all is_iri (iris_of_fields w (suc i) xs) ≡ true → fields_size (in_fields f w (suc i) xs) ≤ 33 * fields_size xs)
          → length (cond b (f x) x) + 1 + fields_size (in_fields f w (suc i) xs) ≤ 33 * (length x + 1 + fields_size xs)
      go true h r = omega (arith, grows x (and_left (is_iri x) (all is_iri (iris_of_fields w (suc i) xs)) h), r (and_right (is_iri x) (all is_iri (iris_of_fields w (suc i) xs)) h))
      go false h r = omega (arith, r h)

  lines-grow : (ls : List Line) → all is_iri (iris_in ls) ≡ true → length (text_of (map (in_line f) ls)) ≤ 33 * length (text_of ls)
  unfolding text_of ended in_line iris_in fields_size
  lines-grow [] h = omega arith
  lines-grow ([] ∷ ls) h = omega (arith, lines-grow ls h)
  lines-grow ((w ∷ fs) ∷ ls) h =
      let a = all_append is_iri (iris_of_fields w 0 fs) (iris_in ls) h in
      omega (arith, ended-size w (in_fields f w 0 fs) (text_of (map (in_line f) ls)), ended-size w fs (text_of ls), fields-grow w 0 fs a.0, lines-grow ls a.1)

-- ---- the call

-- of a tree's text as it stands
converted-long : (tree table : Bytes) (p : Pattern) (ss : List Start) → read_tree tree ≡ reads p → read_starts table ≡ reads ss → length (layout (converted ss p)) ≤ 33 * length tree
unfolding iris_of layout
converted-long tree table p ss r y =
    let v = ((starts-exactly table ss).0 y).1 in
    let i : all is_iri (iris_in (lines_from tree 0)) ≡ true = ap (all is_iri) (sym (iris-lines tree p r)) ∙ all-kept (terms_of p) in
    let t : text_of (lines_from tree 0) ≡ tree = ap text_of (lines_are tree p r) ∙ ((tree-exactly tree p).0 r).0 in
    omega (arith, ap length (converted-lines tree p r ss), lines-grow (converted_iri ss) (iri-grows ss v) (lines_from tree 0) i, ap length t)

-- enough for what a tree and a table are converted to is enough for the call
behind-tree : (room : ℕ) (p : Pattern) (table : Bytes) → ((ss : List Start) → read_starts table ≡ reads ss → length (layout (converted ss p)) ≤ room) → Enough room (namespaces_read (reads p) table)
unfolding Enough
behind-tree room p table h =
    then-enough room (read_starts table) (λ ss. refused_unless 14 (in_order (old_starts ss)) (refused_unless 15 (is_covered ss p) (written (layout (converted ss p))))) λ ss i.
    test-enough room 14 (in_order (old_starts ss)) (refused_unless 15 (is_covered ss p) (written (layout (converted ss p)))) (λ e. omega arith) λ a.
    test-enough room 15 (is_covered ss p) (written (layout (converted ss p))) (λ e. omega arith) λ c.
    h ss i

as-it-stands : (tree table : Bytes) → Enough (33 * length tree) (namespaces_as_is tree table)
unfolding namespaces_as_is
as-it-stands tree table = then-enough (33 * length tree) (read_tree tree) (λ p. namespaces_read (reads p) table) λ p e.
    behind-tree (33 * length tree) p table λ ss i. converted-long tree table p ss e i

-- an empty file has no IRI
pub namespaces-enough : (tree table : Bytes) → Enough (namespaces_room (length tree)) (namespaces_outcome tree table)
unfolding namespaces_outcome namespaces_as_is namespaces_room converted with_iris layout put put_triples text_of ended decimal digits
namespaces-enough [] table = rw empty-reads (behind-tree (33 * 0 + 14) empty_tree table λ ss i. omega arith)
namespaces-enough (b ∷ s) table = rw (tree-as-it-is b s) (enough-more (33 * length (b ∷ s)) (33 * length (b ∷ s) + 14) (namespaces_as_is (b ∷ s) table) (omega arith) (as-it-stands (b ∷ s) table))
