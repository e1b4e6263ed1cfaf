-- What the steps of the call keep and find. Assumes nothing.
use Rattle.std.specs.Prelude.{ℕ, ◌≤◌, ◌≡◌, List, [], true, cond, length, drop, get_or}
use Rattle.text.specs.Text.{Bytes, same}
use Rattle.algebra.specs.Valid.{mem}
use Rattle.algebra.specs.Reader.{reads}
use Rattle.algebra.specs.Query.{Pair, mapping}
use Rattle.algebra.specs.Texts.{read_pairs}
use Rattle.names.specs.bridge.Names.{listing}
use Rattle.words.specs.bridge.Words.{Worded}
use Rattle.lines.specs.bridge.Noded.{Noded}
use Rattle.lines.specs.bridge.Spotted.{Noted, spots_of}
use Rattle.lists.specs.bridge.Pairs.{PairsTold}
use Rattle.emit.specs.bridge.Emit.{em}
use Rattle.naming.specs.bridge.New.{replacement}
use Rattle.walking.specs.bridge.Code.{renames}
use Rattle.descending.specs.bridge.Renamed.{Renamed}
use Rattle.walking.specs.bridge.Rewritten.{rewritten}
use Rattle.heads.specs.bridge.Known.{Known}
use Rattle.surveying.specs.bridge.Code.{Surveyed}
use Rattle.renaming.specs.Rename.{becomes}

-- a text that is a tree's was checked, and its variables and lines were noted
pub record Recorded (tree : Bytes) (starts sizes hints : List ℕ) (n : ℕ) (spots : List (List ℕ)) (k : ℕ) (words nodes : List (List ℕ)) (m : ℕ) : Type 0 where
  pub known : Known tree starts sizes hints n
  pub noted : Noted tree 0 (listing tree starts sizes n) spots k
  pub noded : Noded words nodes m noted.nodes
  pub worded : Worded words

-- its variables were noted and then renamed, by the sizes of their new names
pub record Renaming (tree : Bytes) (starts sizes : List ℕ) (n : ℕ) (spots : List (List ℕ)) (k : ℕ) (spans : List ℕ) : Type 0 where
  pub before : List (List ℕ)
  pub surveyed : Surveyed tree starts sizes n before k
  pub renamed : Renamed spans before 0 spots k

-- a text that is a mapping's, and the first m entries tell its pairs
abbrev pub KnownPairs : Bytes → List (List ℕ) → ℕ → Type 0
KnownPairs pairs keys m = PairsTold mapping pairs keys m

-- a text is a mapping's, the entries of a table of n names hold what it makes of them, and no entry behind them is set
pub record Targets (ns : List Bytes) (n : ℕ) (pairs : Bytes) (targets spans : List ℕ) : Type 0 where
  pub list : List Pair
  pub read : read_pairs mapping pairs ≡ reads list
  pub found : (f : Bytes) → mem f ns ≡ true → replacement ns pairs targets spans f ≡ becomes list f
  pub behind : (k : ℕ) → n ≤ k → get_or spans k 0 ≡ 0

-- where a tree's text under its new names ends: the bytes of the answer, as counted over a buffer without room
unfoldable pub renamed_size : Bytes → List ℕ → List ℕ → ℕ → List (List ℕ) → ℕ → Bytes → List ℕ → List ℕ → ℕ
unfolding rewritten
renamed_size s starts sizes n spots k pairs targets spans = (rewritten (renames s starts sizes n pairs targets spans) s (drop 0 (spots_of (listing s starts sizes n) spots k)) 0 (length s) (em 0 [])).at

-- a pair of the mapping was taken: its first name becomes its second, and the others stay
pub record Settled (ns : List Bytes) (n : ℕ) (pairs : Bytes) (x : Pair) (targets spans targets' spans' : List ℕ) : Type 0 where
  pub taken : (f : Bytes) → mem f ns ≡ true → replacement ns pairs targets' spans' f ≡ cond (same f x.first) x.second (replacement ns pairs targets spans f)
  pub others : (k : ℕ) → n ≤ k → get_or spans' k 0 ≡ get_or spans k 0
  pub entries : (length targets' ≡ length targets) × (length spans' ≡ length spans)
