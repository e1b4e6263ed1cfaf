-- The call namespaces on a tree's text as it stands, from what was measured and written to its answer. Assumes nothing.
use Prim.Native.Nat.{ℕ, ◌≤◌, ◌<◌}
use mathlib.Core.Path.{◌≡◌, refl, sym, ap, subst, ◌∙◌}
use mathlib.Core.Bool.{Bool, true, false, not}
use mathlib.Core.List.{List, [], map}
use lib.ListN.{length}
use borrow.Author.Tests.{not-true, not-false}
use Rattle.text.specs.Text.{Bytes, text_of, lines_from}
use Rattle.text.specs.Field.{given}
use Rattle.text.proofs.Texts.{Ended, neat-ended}
use Rattle.algebra.specs.Tree.{Pattern}
use Rattle.algebra.specs.Layout.{put}
use Rattle.algebra.specs.Reader.{reads, refuses, malformed, over_bound}
use Rattle.algebra.specs.Texts.{read_tree}
use Rattle.algebra.proofs.Neat.{neat}
use Rattle.algebra.proofs.Theorem.{tree-exactly}
use Rattle.scoping.specs.Sets.{all}
use Rattle.emit.specs.bridge.Emit.{em, last, puts}
use Rattle.answers.specs.Outcome.{written, Reported, Answered}
use Rattle.answers.proofs.Answers.{too_short, all-written, answered}
use Rattle.converting.specs.Starts.{Start, read_starts, old_starts, in_order}
use Rattle.converting.specs.Namespaces.{covering_line, converted_iri, is_covered}
use Rattle.converting.specs.bridge.AsIs.{namespaces_as_is}
use Rattle.converting.specs.bridge.Lines.{in_line, iris_in}
use Rattle.converting.proofs.Order.{neighbours-enough}
use Rattle.converting.proofs.ByLine.{lines_are, converted-lines, iris-lines}
use Rattle.starts.specs.bridge.Starts.{starts_in, StartsTold, Ordered}
use Rattle.respelling.specs.bridge.Written.{are_covered}
use Rattle.std.specs.Prelude.{Ok, Err}
use Rattle.answers.specs.declared.Refusal.TheVariants.{Malformed, NotCovered, NotInOrder, OverBound, TooShort}

-- the lines of a tree that was read are ended
pub tree-lines-ended : (tree : Bytes) (p : Pattern) → read_tree tree ≡ reads p → Ended (lines_from tree 0)
tree-lines-ended tree p e = subst Ended (sym (lines_are tree p e)) (neat-ended (put p []) (neat p [] ((tree-exactly tree p).0 e).1 tt))

-- a table that is in order
pub in_order_lem : (table : Bytes) (keys : List (List ℕ)) (n : ℕ) → StartsTold table keys n → (b : Bool) → b ≡ in_order (old_starts (starts_in table keys n)) → not b ≡ false → Ordered table keys n
in_order_lem table keys n t b e h = record { room = t.room; few = t.few; ordered = sym (neighbours-enough (old_starts (starts_in table keys n))) ∙ sym e ∙ not-false b h }

-- ---- a text that is refused

pub tree-malformed : (tree table out : Bytes) → read_tree tree ≡ refuses malformed → Answered (namespaces_as_is tree table) out out (Err Malformed)
unfolding namespaces_as_is Reported
tree-malformed tree table out e = rw e (refl, refl, refl)

pub tree_over : (tree table out : Bytes) → read_tree tree ≡ refuses over_bound → Answered (namespaces_as_is tree table) out out (Err OverBound)
unfolding namespaces_as_is Reported
tree_over tree table out e = rw e (refl, refl, refl)

module _ (tree table out : Bytes) (p : Pattern) (e : read_tree tree ≡ reads p) where
  pub table-malformed : read_starts table ≡ refuses malformed → Answered (namespaces_as_is tree table) out out (Err Malformed)
  unfolding namespaces_as_is Reported
  table-malformed f = rw (e, f) (refl, refl, refl)

  pub table-over : read_starts table ≡ refuses over_bound → Answered (namespaces_as_is tree table) out out (Err OverBound)
  unfolding namespaces_as_is Reported
  table-over f = rw (e, f) (refl, refl, refl)

  -- ---- two that are read

  module _ (keys : List (List ℕ)) (n : ℕ) (t : StartsTold table keys n) (b : Bool) (tested : b ≡ in_order (old_starts (starts_in table keys n))) where
    abbrev ss : List Start
    ss = starts_in table keys n

    pub not-in-order : not b ≡ true → Answered (namespaces_as_is tree table) out out (Err NotInOrder)
    unfolding namespaces_as_is Reported
    not-in-order h = rw (e, t.read, sym tested ∙ not-true b h) (refl, refl, refl)

    module _ (h : not b ≡ false) where
      ordered : in_order (old_starts ss) ≡ true
      ordered = sym tested ∙ not-false b h

      abbrev text : Bytes
      text = text_of (map (in_line (converted_iri ss)) (lines_from tree 0))

      module _ (c : Bool) (covered : c ≡ are_covered ss (iris_in (lines_from tree 0))) where
        all-covered : is_covered ss p ≡ c
        unfolding is_covered are_covered
        all-covered = ap (all (λ x. given (covering_line ss x))) (iris-lines tree p e) ∙ sym covered

        pub not_covered : not c ≡ true → Answered (namespaces_as_is tree table) out out (Err NotCovered)
        unfolding namespaces_as_is Reported
        not_covered k = rw (e, t.read, ordered, all-covered ∙ not-true c k) (refl, refl, refl)

        module _ (k : not c ≡ false) where
          outcome : namespaces_as_is tree table ≡ written text
          unfolding namespaces_as_is
          outcome = rw (e, t.read, ordered, all-covered ∙ not-false c k) (ap written (converted-lines tree p e ss))

          module _ (need : ℕ) (tiny tiny' : Bytes) (measure : em need tiny' ≡ puts text (em 0 tiny)) where
            pub short : length out < need → Answered (namespaces_as_is tree table) out out (Err TooShort)
            short i = answered _ _ out out (Err TooShort) outcome (too_short text out need tiny tiny' measure i)

            pub fits : (size : ℕ) (out' : Bytes) → need ≤ length out → length out < last → em size out' ≡ puts text (em 0 out) → Answered (namespaces_as_is tree table) out out' (Ok size)
            fits size out' i j w = answered _ _ out out' (Ok size) outcome (all-written text out need tiny tiny' measure size out' i j w)
