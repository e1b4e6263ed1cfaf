-- The call rename, from the bytes that are put to the renamed tree's layout. Assumes nothing.
use Prim.Native.Nat.{ℕ, ◌/◌, ◌≤◌, ◌<◌, min}
use mathlib.Core.Path.{◌≡◌, refl, sym, ap, ◌∙◌}
use mathlib.Core.List.{List, []}
use mathlib.Core.Bool.{Bool, true, false, false≢true}
use native.Mathlib.Nat.{zero-add, le_refl}
use native.Mathlib.Omega.{arith}
use lib.ListN.{length, drop}
use lib.Dec.{leb}
use borrow.Author.Tests.{leb-true, leb-false}
use Rattle.text.specs.Text.{Bytes, text_of}
use Rattle.algebra.specs.Tree.{Pattern}
use Rattle.algebra.specs.Query.{mapping}
use Rattle.algebra.specs.Valid.{mem}
use Rattle.algebra.specs.Layout.{layout}
use Rattle.algebra.specs.Reader.{refuses, malformed, over_bound}
use Rattle.algebra.specs.Texts.{read_tree, read_pairs}
use Rattle.emit.specs.bridge.Emit.{Em, em, last, puts}
use Rattle.emit.proofs.Laws.{puts-nil, puts-at}
use Rattle.names.specs.bridge.Names.{listing}
use Rattle.names.proofs.Laws.{listing-long}
use Rattle.scoping.specs.bridge.Places.{visible, places, names_of}
use Rattle.scoping.specs.Rename.{rename_in_graph_pattern}
use Rattle.scoping.proofs.Index.{index-none}
use Rattle.scoping.proofs.Named.{named}
use Rattle.scoping.proofs.FirstPlaces.{by-place-mem}
use Rattle.scoping.specs.bridge.Spots.{Spot}
use Rattle.lines.specs.bridge.Spotted.{spots_of}
use Rattle.naming.specs.bridge.New.{replacement}
use Rattle.walking.specs.bridge.Code.{renames}
use Rattle.walking.specs.bridge.Rewritten.{rewritten}
use Rattle.walking.proofs.Noted.{rewritten-tree}
use Rattle.walking.proofs.Remarked.{renamed-rewritten}
use Rattle.answers.specs.Outcome.{written, Reported, Answered}
use Rattle.renaming.specs.Rename.{becomes}
use Rattle.renaming.specs.bridge.AsIs.{rename_as_is}
use Rattle.heads.specs.bridge.Known.{Known}
use Rattle.surveying.specs.bridge.Code.{Surveyed}
use Rattle.renaming.specs.bridge.Code.{Renaming, Targets, renamed_size}
use Rattle.renaming.proofs.Long.{renamed-long}
use Rattle.surveying.proofs.Tables.{known-valid, known-depth, known-names, known-lines}
use Rattle.scoping.proofs.Alike.{rename-alike}
use Rattle.answers.proofs.Answers.{too_short, all-written, answered}
use Rattle.std.specs.Prelude.{Ok, Err}
use Rattle.answers.specs.declared.Refusal.TheVariants.{Malformed, OverBound, TooShort}

-- ---- the names

module _ (s : Bytes) (a l : List ℕ) (n : ℕ) (spots : List (List ℕ)) (k : ℕ) (pairs : Bytes) (targets spans : List ℕ) (y : Renaming s a l n spots k spans) (t : Targets (listing s a l n) n pairs targets spans) where
  abbrev x : Surveyed s a l n y.before k
  x = y.surveyed

  abbrev new : Bytes → Bytes
  new = renames s a l n pairs targets spans

  abbrev pattern : Pattern
  pattern = x.known.pattern

  keeps : (f : Bytes) → mem f (listing s a l n) ≡ false → new f ≡ f
  unfolding replacement
  keeps f e = rw (index-none f (listing s a l n) e, listing-long s a l n, t.behind n (le_refl n))

  agrees : (v : Bytes) → mem v (names_of (places pattern visible)) ≡ true → new v ≡ becomes t.list v
  agrees v i =
      let is-var = (named pattern visible (known-valid s a l x.hints n x.known)).at v i in
      t.found v (ap (mem v) (known-names s a l x.hints n x.known) ∙ by-place-mem pattern v is-var ∙ i)

  -- the code's new names make the tree that the mapping's make
  alike : rename_in_graph_pattern new pattern ≡ rename_in_graph_pattern (becomes t.list) pattern
  alike = rename-alike new (becomes t.list) pattern visible agrees

  outcome-is : rename_as_is s pairs ≡ written (layout (rename_in_graph_pattern new pattern))
  unfolding rename_as_is
  outcome-is = rw (x.known.read, t.read) (ap (λ (q : Pattern). written (layout q)) (sym alike))

  -- what is put, the tree's variables under their new names
  renamed-puts : (at : ℕ) (out out' : Bytes) → em at out' ≡ rewritten new s (drop 0 (spots_of (listing s a l n) spots k)) 0 (length s) (em 0 out) → em at out' ≡ puts (layout (rename_in_graph_pattern new pattern)) (em 0 out)
  unfolding layout text_of
  renamed-puts at out out' e =
      e
      ∙ renamed-rewritten y.renamed k (le_refl k) (listing s a l n) s 0 0 (length s) new (em 0 out)
      ∙ ap (λ (zs : List Spot). rewritten new s zs 0 (length s) (em 0 out)) x.noted.kept.are
      ∙ sym (puts-nil _)
      ∙ rewritten-tree s 0 (listing s a l n) y.before k x.noted pattern (known-lines s a l x.hints n x.known) (known-valid s a l x.hints n x.known) (known-depth s a l x.hints n x.known) new keeps [] (em 0 out)

  -- where that ends
  ends : (at : ℕ) (out out' : Bytes) → em at out' ≡ rewritten new s (drop 0 (spots_of (listing s a l n) spots k)) 0 (length s) (em 0 out) → at ≡ min (length (layout (rename_in_graph_pattern new pattern))) last
  ends at out out' e = ap (λ (z : Em). z.at) (renamed-puts at out out' e) ∙ puts-at (layout (rename_in_graph_pattern new pattern)) (em 0 out) (omega arith) ∙ ap (λ (m : ℕ). min m last) (zero-add (length (layout (rename_in_graph_pattern new pattern))))

  -- the bytes that the answer needs
  abbrev need : ℕ
  need = renamed_size s a l n spots k pairs targets spans

  -- what is put over no buffer
  abbrev counted : Em
  counted = rewritten new s (drop 0 (spots_of (listing s a l n) spots k)) 0 (length s) (em 0 [])

  -- they are the renamed tree's, up to the last number
  need-ends : need ≡ min (length (layout (rename_in_graph_pattern new pattern))) last
  unfolding renamed_size
  need-ends = ends counted.at [] counted.out refl

  -- there is room for it: in a buffer of 44 times the tree, and by what was measured
  abbrev Roomy : ℕ → Bool → Type 0
  Roomy room r = (r ≡ true → need ≤ room) × (r ≡ false → room < need)

  pub rename-roomy : (room : ℕ) → length s ≤ room / 44 → Roomy room true
  rename-roomy room h =
      let r = renamed-long s pairs pattern t.list x.known.read t.read in
      (λ z. omega (arith, h, need-ends, r, ap (λ (q : Pattern). length (layout q)) alike), λ z. absurd (false≢true (sym z)))

  pub rename-measured : (room at : ℕ) (out out' : Bytes) → em at out' ≡ rewritten new s (drop 0 (spots_of (listing s a l n) spots k)) 0 (length s) (em 0 out) → Roomy room (leb at room)
  rename-measured room at out out' e =
      let m : at ≡ need = ends at out out' e ∙ sym need-ends in
      (λ z. let i = leb-true at room z in omega arith, λ z. let i = leb-false at room z in omega arith)

  -- so it is a measure, whether any code took it or not
  measure : em need counted.out ≡ puts (layout (rename_in_graph_pattern new pattern)) (em 0 [])
  unfolding renamed_size
  measure = renamed-puts counted.at [] counted.out refl

  pub rename-short : (out : Bytes) → length out < need → Answered (rename_as_is s pairs) out out (Err TooShort)
  rename-short out i = answered _ _ out out (Err TooShort) outcome-is (too_short _ out need [] counted.out measure i)

  pub rename-written : (out : Bytes) (size : ℕ) (out' : Bytes) → need ≤ length out → length out < last
      → em size out' ≡ rewritten new s (drop 0 (spots_of (listing s a l n) spots k)) 0 (length s) (em 0 out) → Answered (rename_as_is s pairs) out out' (Ok size)
  rename-written out size out' i j w = answered _ _ out out' (Ok size) outcome-is (all-written _ out need [] counted.out measure size out' i j (renamed-puts size out out' w))

-- ---- a text that is refused

pub tree-malformed : (s pairs out : Bytes) → read_tree s ≡ refuses malformed → Answered (rename_as_is s pairs) out out (Err Malformed)
unfolding rename_as_is Reported
tree-malformed s pairs out e = rw e (refl, refl, refl)

pub tree_over : (s pairs out : Bytes) → read_tree s ≡ refuses over_bound → Answered (rename_as_is s pairs) out out (Err OverBound)
unfolding rename_as_is Reported
tree_over s pairs out e = rw e (refl, refl, refl)

module _ (s : Bytes) (a l h : List ℕ) (n : ℕ) (k : Known s a l h n) (pairs out : Bytes) where
  pub mapping-malformed : read_pairs mapping pairs ≡ refuses malformed → Answered (rename_as_is s pairs) out out (Err Malformed)
  unfolding rename_as_is Reported
  mapping-malformed e = rw (k.read, e) (refl, refl, refl)

  pub mapping-over : read_pairs mapping pairs ≡ refuses over_bound → Answered (rename_as_is s pairs) out out (Err OverBound)
  unfolding rename_as_is Reported
  mapping-over e = rw (k.read, e) (refl, refl, refl)
