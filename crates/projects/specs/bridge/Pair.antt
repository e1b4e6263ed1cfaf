-- Two sides of a merge, whose tables stand in arrays of two and whose variables stand in one array: what is known of each, and which right columns go. Assumes nothing.
use Rattle.std.specs.Prelude.{ℕ, ◌-◌, ◌≤◌, ◌≡◌, List, [], ◌++◌, Bool, true, false, length, get_or, take}
use Rattle.std.specs.Int.Count.{ones}
use Rattle.text.specs.Text.{Bytes}
use Rattle.text.specs.Word.{bytes}
use Rattle.algebra.specs.Query.{Pair}
use Rattle.algebra.specs.Layout.{layout}
use Rattle.emit.specs.declared.Writer.{Writer}
use Rattle.emit.specs.bridge.Writer.{Wrote}
use Rattle.sides.specs.declared.side.FoundSide.{FoundSide}
use Rattle.scoping.specs.Label.{prefix_l, prefix_r, prefix_v}
use Rattle.merging.specs.Request.{Projection}
use Rattle.mask.specs.bridge.Mask.{mask_of}
use Rattle.mask.specs.bridge.Words.{mask_value}
use Rattle.columns.specs.bridge.Columns.{columns_of, picked, gone_bits}
use Rattle.sides.specs.declared.side.Outline.{Outline}
use Rattle.sides.specs.bridge.Side.{IsNamed}
use Rattle.projects.specs.declared.merge.FoundPair.{FoundPair}
use Rattle.projects.specs.bridge.Joining.{rest, pushed_tree, combined_tree}

-- the columns of each under their new names
abbrev pub left_columns : Bytes → FoundPair → List (List (List ℕ)) → List (List ℕ) → List (List (List ℕ)) → List Bytes
left_columns s p tables v news = columns_of s (get_or tables 0 []) (get_or news 0 []) (take p.spots v) p.left.outline.columns

abbrev pub right_columns : Bytes → FoundPair → List (List (List ℕ)) → List (List ℕ) → List (List (List ℕ)) → List Bytes
right_columns s p tables v news = columns_of s (get_or tables 1 []) (get_or news 1 []) (rest p.spots v) p.right.outline.columns

-- each has its names
abbrev pub LeftNamed : Bytes → Bytes → FoundPair → List (List (List ℕ)) → List (List ℕ) → List (List (List ℕ)) → Projection → List Pair → List Pair → Type 0
LeftNamed s constants p tables v news x js ks = IsNamed s (get_or tables 0 []) (take p.spots v) prefix_l false constants (get_or news 0 []) p.left x js ks

abbrev pub RightNamed : Bytes → Bytes → FoundPair → List (List (List ℕ)) → List (List ℕ) → List (List (List ℕ)) → Projection → List Pair → List Pair → Type 0
RightNamed s constants p tables v news y js ls = IsNamed s (get_or tables 1 []) (rest p.spots v) prefix_r true constants (get_or news 1 []) p.right y js ls

-- the right columns that go: those with a constant, and those whose new names are joined columns' on the left
abbrev pub gone_mask : Outline → List Bytes → Outline → List Bytes → ℕ
gone_mask l cs r ds = mask_of (gone_bits (mask_value r.constant) (picked 1 (mask_value l.joined) cs) ds)

-- the merged header's width is counted from two masks: the columns of each side, less the ones of those that go
pub record HeaderFits (l : Outline) (cs : List Bytes) (gone : ℕ) (r : Outline) (ds : List Bytes) : Type 0 where
  pub left_room : ones (mask_value l.constant) ≤ l.columns
  pub left : l.columns - ones (mask_value l.constant) ≡ length (picked 0 (mask_value l.constant) cs)
  pub right_room : ones gone ≤ r.columns
  pub right : r.columns - ones gone ≡ length (picked 0 gone ds)

-- the columns that are written, and the word below them: of a merge (false) or of without (true)
unfoldable pub head_columns : Bool → List Bytes → List Bytes → List Bytes
head_columns false cs ds = cs ++ ds
head_columns true cs ds = cs

unfoldable pub head_word : Bool → Bytes
head_word false = bytes "join"
head_word true = bytes "minus"

-- ---- what is written

-- the tree with its constants behind a head, by what stands in the texts
pub record PushWritten (head s : Bytes) (table v : List (List ℕ)) (constants : Bytes) (news : List (List ℕ)) (f : FoundSide) (w w' : Writer) : Type 0 where
  pub is : (x : Projection) (ks : List Pair) → IsNamed s table v prefix_v false constants news f x [] ks → Wrote w w' (head ++ layout (pushed_tree x ks))

-- the merged tree behind a head
pub record MergeWritten (head l r lc rc : Bytes) (p : FoundPair) (tables : List (List (List ℕ))) (v : List (List ℕ)) (news : List (List (List ℕ))) (w w' : Writer) : Type 0 where
  pub is : (x y : Projection) (js ks ls : List Pair) → LeftNamed l lc p tables v news x js ks → RightNamed r rc p tables v news y js ls → Wrote w w' (head ++ layout (combined_tree p.minus x y js ks ls))
