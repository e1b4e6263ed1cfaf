-- What the code finds of a side: its columns, its masks, its names; and the lines that it writes. Assumes nothing.
use Rattle.std.specs.Prelude.{ℕ, zero, suc, ◌≤◌, ◌≡◌, List, [], ◌∷◌, map, Bool, true, false, ◌&&◌, length, get_or, take}
use Rattle.std.specs.Int.Count.{ones}
use Rattle.text.specs.Text.{Bytes, Line, text_of, lines_from}
use Rattle.text.specs.Word.{bytes}
use Rattle.text.specs.Field.{decimal}
use Rattle.algebra.specs.Tree.{Pattern}
use Rattle.algebra.specs.Query.{Pair}
use Rattle.algebra.specs.Valid.{Valid, mem}
use Rattle.algebra.specs.Depth.{depth}
use Rattle.algebra.specs.Layout.{put}
use Rattle.algebra.specs.Tally.{bounds}
use Rattle.names.specs.bridge.Names.{listing, starts_of, sizes_of}
use Rattle.emit.specs.declared.Writer.{Writer}
use Rattle.emit.specs.bridge.Writer.{Left}
use Rattle.scoping.specs.Numbering.{by_place}
use Rattle.scoping.specs.Premises.{side_name, inside, different_positions}
use Rattle.scoping.specs.Rename.{rename_in_graph_pattern}
use Rattle.lines.specs.bridge.Spotted.{Noted}
use Rattle.naming.specs.bridge.New.{replacement}
use Rattle.descending.specs.bridge.Renamed.{Renamed}
use Rattle.merging.specs.Request.{Projection, tree}
use Rattle.merging.specs.Names.{from as countFrom, is_at}
use Rattle.sides.specs.declared.side.Outline.{Outline}
use Rattle.sides.specs.declared.side.FoundSide.{FoundSide}
use Rattle.mask.specs.bridge.Mask.{mask_of}
use Rattle.mask.specs.bridge.Words.{mask_value}
use Rattle.columns.specs.bridge.Columns.{columns_of, picked}
use Rattle.columns.specs.bridge.Listed.{Listed, positions_in, Kept, terms_from}

-- a tree stands in a text from a place on, within the bounds; the table lists its names, and the array its variables
pub record TreeIn (s : Bytes) (at : ℕ) (a l : List ℕ) (n : ℕ) (v : List (List ℕ)) (p : Pattern) : Type 0 where
  pub lines : lines_from s at ≡ put p []
  pub valid : Valid p
  pub deep : depth p ≤ bounds.depth
  pub few : length (by_place p) ≤ 1024
  pub names : listing s a l n ≡ by_place p
  pub noted : Noted s at (listing s a l n) v (length v)

-- a projection of no more columns than it may have does, with so many columns, and its inner pattern starts at a place
pub record Placed (s : Bytes) (at : ℕ) (a l : List ℕ) (n : ℕ) (v : List (List ℕ)) (inner columns : ℕ) (x : Projection) : Type 0 where
  pub stands : TreeIn s at a l n v (tree x)
  pub narrow : length x.columns ≤ bounds.columns
  pub width : columns ≡ length x.columns
  pub high : inner ≤ length s
  pub behind : lines_from s inner ≡ put x.inner []

-- the names of a table of n become what a map says, and no entry behind them is set
pub record Renames (ns : List Bytes) (n : ℕ) (firsts seconds : List ℕ) (new : Bytes → Bytes) : Type 0 where
  pub found : (f : Bytes) → mem f ns ≡ true → replacement ns [] firsts seconds f ≡ new f
  pub behind : (k : ℕ) → n ≤ k → get_or seconds k 0 ≡ 0

-- the mask of the positions that are listed, of c columns
abbrev pub mask_at : List ℕ → ℕ → ℕ
mask_at ps c = mask_of (map (λ i. is_at i ps) (countFrom 0 c))

-- the new names that standardize_variables gives
abbrev pub new_names : ℕ → Bool → Projection → List Pair → Bytes → Bytes
new_names prefix second x js = side_name prefix x.columns x.inner (positions_in second js)

-- ---- finding

-- what a side is made of: a projection within the bounds, and two lists that were checked
pub record Asked (s : Bytes) (at : ℕ) (pairs constants : Bytes) : Type 0 where
  pub projection : Projection
  pub lines : lines_from s at ≡ put (tree projection) []
  pub narrow : length projection.columns ≤ bounds.columns
  pub joins : List Pair
  pub joins_listed : Listed pairs joins
  pub terms : List Pair
  pub terms_listed : Listed constants terms

-- what is found before its names: its columns, the positions of both lists, and which columns they mark
pub record OutlineIs (text : Bytes) (second : Bool) (constants : Bytes) (x : Projection) (js ks : List Pair) (joins at lines : List ℕ) (o : Outline) : Type 0 where
  pub width : o.columns ≡ length x.columns
  pub constant : mask_value o.constant ≡ mask_at (positions_in false ks) (length x.columns)
  pub joined : mask_value o.joined ≡ mask_at (positions_in second js) (length x.columns)
  pub high : o.inner ≤ length text
  pub inner : lines_from text o.inner ≡ put x.inner []
  pub few : o.joins ≤ bounds.entries
  pub positions : take o.joins joins ≡ positions_in second js
  pub kept : Kept constants ks false at lines o.constants

-- a position is outside the projection, or all are inside
pub record FindingIs (text : Bytes) (second : Bool) (constants : Bytes) (x : Projection) (js ks : List Pair) (joins at lines : List ℕ) (o : Outline) : Type 0 where
  pub outside : o.inside ≡ false → (inside x.columns (positions_in second js) && inside x.columns (positions_in false ks)) ≡ false
  pub found : o.inside ≡ true → (inside x.columns (positions_in second js) ≡ true) × (inside x.columns (positions_in false ks) ≡ true) × OutlineIs text second constants x js ks joins at lines o

-- ---- a side with what goes with it

-- a tree stands in a text from a place on, and a project at its root has no more columns than it may
pub record Stands (s : Bytes) (at : ℕ) (a l : List ℕ) (n : ℕ) (v : List (List ℕ)) (p : Pattern) : Type 0 where
  pub tree-in : TreeIn s at a l n v p
  pub narrow : (x : Projection) → p ≡ tree x → length x.columns ≤ bounds.columns

-- a text is a constant list of these lines
pub record Terms (s : Bytes) (ks : List Pair) : Type 0 where
  pub listed : Listed s ks
  pub different : different_positions (positions_in false ks) ≡ true

-- a side that was found: its projection stands in its text, its constants were read, and its positions are inside
pub record Outlined (s : Bytes) (from : ℕ) (a l : List ℕ) (n : ℕ) (v : List (List ℕ)) (second : Bool) (constants : Bytes) (joins at lines : List ℕ) (o : Outline) (x : Projection) (js ks : List Pair) : Type 0 where
  pub stands : Stands s from a l n v (tree x)
  pub terms : Terms constants ks
  pub joins-inside : inside x.columns (positions_in second js) ≡ true
  pub terms_inside : inside x.columns (positions_in false ks) ≡ true
  pub joins_long : length joins ≡ bounds.entries
  pub long : length at ≡ bounds.entries
  pub is : OutlineIs s second constants x js ks joins at lines o

-- a side that is ready to be written: it was found by the variables that were noted, which are renamed now; none of its positions stands twice in the
-- join list, and its names become those that standardize_variables gives
pub record Sided (s : Bytes) (from : ℕ) (a l : List ℕ) (n : ℕ) (v : List (List ℕ)) (prefix : ℕ) (second : Bool) (constants : Bytes) (firsts seconds joins at lines : List ℕ) (o : Outline) (x : Projection) (js ks : List Pair) : Type 0 where
  pub noted : List (List ℕ)
  pub found : Outlined s from a l n noted second constants joins at lines o x js ks
  pub joins-once : different_positions (positions_in second js) ≡ true
  pub renamed : Renamed seconds noted 0 v (length noted)
  pub renames : Renames (listing s a l n) n firsts seconds (new_names prefix second x js)

-- the same of a side with what goes with it
abbrev pub IsFound : Bytes → List (List ℕ) → List (List ℕ) → Bool → Bytes → FoundSide → Projection → List Pair → List Pair → Type 0
IsFound s table v second constants f x js ks =
    Outlined s f.standing.from (starts_of table) (sizes_of table) f.standing.n v second constants f.places.joins f.places.at f.places.starts f.outline x js ks

abbrev pub IsNamed : Bytes → List (List ℕ) → List (List ℕ) → ℕ → Bool → Bytes → List (List ℕ) → FoundSide → Projection → List Pair → List Pair → Type 0
IsNamed s table v prefix second constants news f x js ks =
    Sided s f.standing.from (starts_of table) (sizes_of table) f.standing.n v prefix second constants (starts_of news) (sizes_of news) f.places.joins f.places.at f.places.starts f.outline x js ks

-- it has its names, or a position stands twice among its join positions
unfoldable pub IsNaming : Bytes → List (List ℕ) → List (List ℕ) → ℕ → Bool → Bytes → List (List ℕ) → FoundSide → Bool → Projection → List Pair → List Pair → Type 0
IsNaming s table v prefix second constants news f true x js ks = IsNamed s table v prefix second constants news f x js ks
IsNaming s table v prefix second constants news f false x js ks = different_positions (positions_in second js) ≡ false

-- ---- the lines that are written

-- with m constants, a join in front
abbrev pub join_line : ℕ → List Line → List Line
join_line zero t = t
join_line (suc m) t = (bytes "join" ∷ []) ∷ t

-- with m constants, a Values of one row behind: so many columns, their names, their terms
abbrev pub values_lines : ℕ → ℕ → List Bytes → List Bytes → List Line → List Line
values_lines zero n cs ts t = t
values_lines (suc m) n cs ts t = (bytes "values" ∷ decimal n ∷ decimal 1 ∷ []) ∷ (bytes "cols" ∷ cs) ∷ (bytes "row" ∷ ts) ∷ t

-- the lines of a side are written, before whatever lines are written next
abbrev pub SideWritten : Bytes → List (List ℕ) → List (List ℕ) → Bytes → List (List ℕ) → FoundSide → Writer → Writer → Type 0
SideWritten s table v constants news f w w' =
    (prefix : ℕ) (second : Bool) (x : Projection) (js ks : List Pair) → IsNamed s table v prefix second constants news f x js ks → (t : List Line)
    → Left w w' (text_of (join_line f.outline.constants (put (rename_in_graph_pattern (new_names prefix second x js) x.inner) (values_lines f.outline.constants (ones (mask_value f.outline.constant)) (picked 1 (mask_value f.outline.constant) (columns_of s table news v f.outline.columns)) (terms_from ks 0 bounds.columns) t)))) (text_of t)
