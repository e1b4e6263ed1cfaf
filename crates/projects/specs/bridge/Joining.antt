-- What the calls that join know once their texts are checked, and what is to come of it. Assumes nothing.
use Rattle.std.specs.Prelude.{ℕ, ◌*◌, ◌-◌, ◌/◌, ◌≤◌, ◌≡◌, List, [], ◌++◌, Bool, length, get_or, take, drop, Ok, Err}
use Rattle.text.specs.Text.{Bytes}
use Rattle.algebra.specs.Tree.{Pattern}
use Rattle.algebra.specs.Query.{Query, Pair}
use Rattle.algebra.specs.Layout.{layout}
use Rattle.algebra.specs.Reader.{reads}
use Rattle.algebra.specs.Texts.{read_tree, read_query}
use Rattle.algebra.specs.bridge.Answers.{Answer as Check}
use Rattle.answers.specs.Outcome.{Outcome, refused, written, then, refused_unless}
use Rattle.names.specs.bridge.Names.{listing, starts_of, sizes_of}
use Rattle.lines.specs.bridge.Noded.{Roomy}
use Rattle.lines.specs.bridge.Spotted.{Noted}
use Rattle.scoping.specs.Numbering.{by_place}
use Rattle.scoping.specs.Premises.{inside}
use Rattle.heads.specs.bridge.TreeAt.{TreeAt}
use Rattle.merging.specs.Sides.{Constant, Pair as Joined}
use Rattle.merging.specs.Request.{Projection, read_joins, read_constants, join_positions, by_position, constants_in, positions, request, all_inside}
use Rattle.merging.specs.Merge.{lists}
use Rattle.merging.specs.Push.{push_constants_in_project_pattern}
use Rattle.merging.specs.bridge.Twice.{none_twice}
use Rattle.merging.specs.bridge.Combined.{combined, combine_trees}
use Rattle.sides.specs.declared.side.Standing.{Standing}
use Rattle.descending.specs.bridge.Renamed.{Shaped}
use Rattle.columns.specs.bridge.Listed.{Listed}
use Rattle.sides.specs.bridge.Side.{Stands, Terms}
use Rattle.algebra.specs.declared.Fault.TheVariants.{Malformed, OverBound}

-- a tree stands in text i of two, whose tables stand in one array
abbrev pub StandsAt : ℕ → Bytes → Standing → List (List (List ℕ)) → List (List ℕ) → Pattern → Type 0
StandsAt i s t tables v p = Stands s t.from (starts_of (get_or tables i [])) (sizes_of (get_or tables i [])) t.n v p

-- a text that is a tree's: the table lists its names, and the array its variables
pub record KnownTree (s : Bytes) (a l : List ℕ) (n : ℕ) (v : List (List ℕ)) : Type 0 where
  pub pattern : Pattern
  pub read : read_tree s ≡ reads pattern
  pub names : listing s a l n ≡ by_place pattern
  pub noted : Noted s 0 (listing s a l n) v (length v)

-- a text that is a query's: the variables are those of its tree
pub record KnownText (s : Bytes) (a l : List ℕ) (n : ℕ) (v : List (List ℕ)) : Type 0 where
  pub query : Query
  pub read : read_query s ≡ reads query
  pub names : listing s a l n ≡ by_place query.tree
  pub noted : (from : ℕ) → from ≤ length s → TreeAt s query from → Noted s from (listing s a l n) v (length v)

-- an array has room for all variables that a text within the bounds can have
abbrev pub HasRoom : Bytes → List (List ℕ) → Type 0
HasRoom s v = length s ≤ 16384 → length s ≤ 3 * length v

-- an array has room for all lines that are noted of such a text
abbrev pub HasNodes : Bytes → List (List ℕ) → Type 0
HasNodes s b = length s ≤ 16384 → Roomy s b

-- a text that is a constant list's, and what it says
pub record KnownTerms (s : Bytes) : Type 0 where
  pub list : List Pair
  pub terms : Terms s list
  pub read : read_constants s ≡ reads (by_position (constants_in list))

-- ---- one side

-- the tree with its constants
abbrev pub pushed_tree : Projection → List Pair → Pattern
pushed_tree x ks = push_constants_in_project_pattern x (by_position (constants_in ks))

-- 3 if a position is outside, else what stands before the tree and the tree with its constants
abbrev pub pushed_behind : Bytes → Projection → List Pair → Outcome
pushed_behind head x ks =
    refused_unless 3 (inside x.columns (positions (by_position (constants_in ks))))
    (written (head ++ layout (pushed_tree x ks)))

-- ---- two sides

-- the first half of an array
abbrev pub half : List (List ℕ) → List (List ℕ)
half v = take (length v / 2) v

-- it has room for a text's variables, and for its lines
abbrev pub HalfRoom : Bytes → List (List ℕ) → Type 0
HalfRoom s v = length s ≤ 16384 → length s ≤ 3 * (length v / 2)

abbrev pub HalfNodes : Bytes → List (List ℕ) → Type 0
HalfNodes s b = length s ≤ 16384 → (m : ℕ) → 3 * m ≤ length s → m ≤ 2048 → m ≤ length b / 2

-- what stands behind the first k entries
abbrev pub rest : ℕ → List (List ℕ) → List (List ℕ)
rest k v = take (length v - k) (drop k v)

-- the lines and the variables that were noted of two trees: the first m and k are the left one's, the others the right one's
pub record BothShaped (words nodes : List (List ℕ)) (m : ℕ) (spots : List (List ℕ)) (k : ℕ) : Type 0 where
  pub left : Shaped words (take m nodes) (length (take m nodes)) (length (take k spots))
  pub right : Shaped words (rest m nodes) (length (rest m nodes)) (length (rest k spots))
  pub nodes_high : m ≤ length nodes
  pub spots_high : k ≤ length spots

-- the lists of a merge
pub record Lists (pairs leftConstants rightConstants : Bytes) (js ks ls : List Pair) : Type 0 where
  pub joins : Listed pairs js
  pub left_terms : Terms leftConstants ks
  pub right_terms : Terms rightConstants ls

-- the merged tree, or without's
abbrev pub combined_tree : Bool → Projection → Projection → List Pair → List Pair → List Pair → Pattern
combined_tree less x y js ks ls = combined less (request x y (join_positions js) (by_position (constants_in ks)) (by_position (constants_in ls)))

-- 4, 11, 3, 10, else what stands before the left tree and that tree
abbrev pub combined_behind : Bool → Bytes → Pattern → Pattern → List Pair → List Pair → List Pair → Outcome
combined_behind less head p q js ks ls = combine_trees less p q (join_positions js) (by_position (constants_in ks)) (by_position (constants_in ls)) (λ t. written (head ++ layout t))

-- the same for two projects, and pairs where they are asked for
abbrev pub joined_behind : Bool → Bytes → Projection → Projection → List Pair → List Pair → List Pair → Outcome
joined_behind less head x y js ks ls =
    refused_unless 3 (all_inside (request x y (join_positions js) (by_position (constants_in ks)) (by_position (constants_in ls))))
    (refused_unless 10 (none_twice (join_positions js))
    (written (head ++ layout (combined_tree less x y js ks ls))))

-- ---- the lists of a merge, checked

-- what they say
pub record ListsRead (pairs leftConstants rightConstants : Bytes) : Type 0 where
  pub js : List Pair
  pub joins : Listed pairs js
  pub joins_read : read_joins pairs ≡ reads (join_positions js)
  pub left : KnownTerms leftConstants
  pub right : KnownTerms rightConstants

-- left and right constants, in this order
abbrev pub both_terms : Bytes → Bytes → (List Constant → List Constant → Outcome) → Outcome
both_terms a b k = then (read_constants a) λ ks. then (read_constants b) λ ls. k ks ls

-- both constant lists are read, or what asks for them is refused
unfoldable pub TermsChecked : Bytes → Bytes → Check → Type 0
TermsChecked a b (Ok n) = KnownTerms a × KnownTerms b
TermsChecked a b (Err Malformed) = (k : List Constant → List Constant → Outcome) → both_terms a b k ≡ refused 1
TermsChecked a b (Err OverBound) = (k : List Constant → List Constant → Outcome) → both_terms a b k ≡ refused 2

-- all three are read, or what asks for them is refused
unfoldable pub ListsChecked : Bytes → Bytes → Bytes → Check → Type 0
ListsChecked pairs a b (Ok n) = ListsRead pairs a b
ListsChecked pairs a b (Err Malformed) = (k : List Joined → List Constant → List Constant → Outcome) → lists pairs a b k ≡ refused 1
ListsChecked pairs a b (Err OverBound) = (k : List Joined → List Constant → List Constant → Outcome) → lists pairs a b k ≡ refused 2
