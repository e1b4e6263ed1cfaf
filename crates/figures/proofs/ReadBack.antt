-- What is written is read back: the figures of a tree's text, and of a query's, are those of the tree. Assumes nothing.
use Prim.Native.Nat.{ℕ}
use mathlib.Core.Path.{◌≡◌, refl, sym, ◌∙◌, ap}
use mathlib.Core.List.{List, [], ◌∷◌}
use native.Mathlib.Omega.{arith}
use lib.ListN.{length, drop}
use Rattle.text.specs.Text.{Bytes, Line, text_of, lines_of}
use Rattle.text.specs.Word.{bytes}
use Rattle.text.proofs.Texts.{lines-back}
use Rattle.algebra.specs.Tree.{Pattern}
use Rattle.algebra.specs.Query.{Query}
use Rattle.algebra.specs.Layout.{put, layout, put_query}
use Rattle.algebra.specs.Bounded.{layout_query}
use Rattle.algebra.specs.Depth.{depth}
use Rattle.algebra.specs.Reader.{Outcome as Reading, reads, refuses}
use Rattle.algebra.specs.Texts.{read_any_tree}
use Rattle.algebra.specs.Valid.{Valid, ValidQuery}
use Rattle.algebra.proofs.Neat.{neat, query-neat}
use Rattle.algebra.proofs.Roomy.{read-any-exactly}
use Rattle.answers.specs.Outcome.{Outcome, refused, written}
use Rattle.merging.specs.Request.{as_project}
use Rattle.figures.specs.Figures.{Figures, sized, column_count, figures_of, read_back, behind_first, tree_sizes, query_sizes}
use Rattle.figures.specs.bridge.Parts.{line_count, copied_figures, head_line}

pub tree-sized : (p : Pattern) → Valid p → tree_sizes (written (layout p)) ≡ sized (copied_figures (length (layout p)) p)
unfolding tree_sizes line_count layout
tree-sized p v =
    ap (read_back (layout p)) ((read-any-exactly (layout p) p).1 (refl, v))
    ∙ ap (λ (n : ℕ). sized (record { bytes = length (layout p); lines = n; depth = depth p; columns = column_count (as_project p) })) (ap length (lines-back (put p []) (neat p [] v tt)))

query-lines : (q : Query) → ValidQuery q → lines_of (layout_query q) ≡ (bytes "query" ∷ q.kind ∷ q.dataset ∷ q.base ∷ []) ∷ put q.tree []
unfolding layout_query put_query
query-lines q v = lines-back (put_query q []) (query-neat q [] v tt)

behind-head : (q : Query) → ValidQuery q → behind_first (layout_query q) ≡ layout q.tree
unfolding behind_first layout
behind-head q v = ap (λ (ls : List Line). text_of (drop 1 ls)) (query-lines q v)

pub query-sized : (q : Query) → ValidQuery q → query_sizes (written (layout_query q)) ≡ sized (head_line (copied_figures (length (layout_query q)) q.tree))
unfolding query_sizes line_count ValidQuery
query-sized q v =
    ap (λ (s : Bytes). read_back (layout_query q) (read_any_tree s)) (behind-head q v)
    ∙ ap (read_back (layout_query q)) ((read-any-exactly (layout q.tree) q.tree).1 (refl, v.3))
    ∙ ap (λ (n : ℕ). sized (record { bytes = length (layout_query q); lines = n; depth = depth q.tree; columns = column_count (as_project q.tree) })) (ap length (query-lines q v))

-- ---- figures stand for bytes that are written, as many as they say

back-bytes : (b : Bytes) (o : Reading Pattern) (f : Figures) → read_back b o ≡ sized f → f.bytes ≡ length b
back-bytes b (reads p) f e = let h : figures_of b p ≡ f = cc in sym (ap (λ (x : Figures). x.bytes) h)
back-bytes b (refuses n) f e = let z : ◌≡◌ {A = ℕ} 0 1 = cc in absurd (omega arith)

pub tree-bytes : (o : Outcome) (f : Figures) → tree_sizes o ≡ sized f → (b : Bytes) × (o ≡ written b) × (f.bytes ≡ length b)
unfolding tree_sizes
tree-bytes (refused n) f e = let z : ◌≡◌ {A = ℕ} 0 1 = cc in absurd (omega arith)
tree-bytes (written b) f e = (b, refl, back-bytes b (read_any_tree b) f e)

pub query-bytes : (o : Outcome) (f : Figures) → query_sizes o ≡ sized f → (b : Bytes) × (o ≡ written b) × (f.bytes ≡ length b)
unfolding query_sizes
query-bytes (refused n) f e = let z : ◌≡◌ {A = ℕ} 0 1 = cc in absurd (omega arith)
query-bytes (written b) f e = (b, refl, back-bytes b (read_any_tree (behind_first b)) f e)
