-- A query as it is given: its head's text, and its tree's, which stands behind it or is that of an empty file. Assumes nothing.
use Prim.Native.Nat.{ℕ, ◌-◌, ◌≤◌, ◌<◌}
use mathlib.Core.Path.{◌≡◌, refl, sym, ap, subst, ◌∙◌}
use mathlib.Core.List.{[], ◌++◌}
use native.Mathlib.Omega.{arith}
use lib.ListN.{length, take, drop, length-drop}
use lib.Seq.{take_all}
use Rattle.text.specs.Text.{Bytes, part, text_of, ended, lines_of, lines_from}
use Rattle.text.specs.Field.{decimal, digits}
use Rattle.text.proofs.Texts.{lines-back, neat-ended}
use Rattle.text.proofs.Places.{lines_start}
use Rattle.algebra.specs.Query.{Query}
use Rattle.algebra.specs.Valid.{Valid, ValidQuery}
use Rattle.algebra.specs.Layout.{put, put_triples, layout}
use Rattle.algebra.specs.Bounded.{layout_query}
use Rattle.algebra.specs.Reader.{reads}
use Rattle.algebra.specs.Given.{empty_tree, empty_text, read_given_query}
use Rattle.algebra.proofs.Neat.{neat}
use Rattle.algebra.proofs.Given.{query-given}
use Rattle.heads.specs.bridge.TreeAt.{HeadOf, GivenAt, Parts}
use Rattle.heads.proofs.Cut.{text-from}
use Rattle.heads.proofs.Queries.{over-layout}

-- the text of an empty file's tree
pub empty-text : layout empty_tree ≡ empty_text
unfolding layout put put_triples text_of ended decimal digits
empty-text = refl

module _ (s : Bytes) (q : Query) (e : read_given_query s ≡ reads q) (r : ℕ) (g : GivenAt s q r) where
  tree-valid : Valid q.tree
  unfolding ValidQuery
  tree-valid = (query-given s q e).valid.3

  pub parts-behind : r < length s → (head tree : Bytes) → head ≡ take r s → tree ≡ part r (length s) s → Parts head tree q
  unfolding layout
  parts-behind more head tree h t =
      let d : part r (length s) s ≡ drop r s = take_all (length s - r) (drop r s) (simp length-drop (omega arith)) in
      record {
        of = subst (λ (b : Bytes). HeadOf b q) (sym h) g.head;
        text = t ∙ d ∙ text-from s r (put q.tree []) (g.stands more).1.lines (neat-ended (put q.tree []) (neat q.tree [] tree-valid tt));
        valid = tree-valid;
      }

  pub parts-alone : r ≤ length s → length s ≤ r → Parts s (empty_text) q
  parts-alone high low =
      let last : r ≡ length s = omega arith in
      record {
        of = subst (λ (b : Bytes). HeadOf b q) (take_all r s (omega arith)) g.head;
        text = sym (ap layout (g.alone last) ∙ empty-text);
        valid = tree-valid;
      }

module _ (head tree : Bytes) (q : Query) (w : Parts head tree q) where
  -- both are what is written of the query
  pub parts-text : layout_query q ≡ head ++ tree
  parts-text = over-layout q q.tree ∙ ap (λ (b : Bytes). b ++ layout q.tree) (sym w.of.text) ∙ ap (λ (b : Bytes). head ++ b) (sym w.text)

  pub parts-lines : lines_from tree 0 ≡ put q.tree []
  unfolding layout
  parts-lines = sym (lines_start tree) ∙ ap lines_of w.text ∙ lines-back (put q.tree []) (neat q.tree [] w.valid tt)
