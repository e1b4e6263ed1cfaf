-- What the steps of the call keep and find. Assumes nothing.
use Rattle.std.specs.Prelude.{ℕ, List, [], ◌∷◌}
use Rattle.text.specs.Text.{Bytes, text_of}
use Rattle.text.specs.Word.{bytes}
use Rattle.names.specs.bridge.Names.{listing}
use Rattle.lines.specs.bridge.Spotted.{Noted}
use Rattle.scoping.specs.bridge.Flagged.{chosen}
use Rattle.heads.specs.bridge.Known.{Known}

-- a text that is a tree's was checked, and its variables were noted
pub record Surveyed (tree : Bytes) (starts sizes : List ℕ) (n : ℕ) (spots : List (List ℕ)) (k : ℕ) : Type 0 where
  pub hints : List ℕ
  pub known : Known tree starts sizes hints n
  pub noted : Noted tree 0 (listing tree starts sizes n) spots k

-- the two lines of scope, by the flags of the table's names
unfoldable pub chosen_text : List ℕ → List Bytes → Bytes
unfolding text_of chosen
chosen_text flags ns = text_of ((bytes "in" ∷ chosen 0 flags ns) ∷ (bytes "hid" ∷ chosen 1024 flags ns) ∷ [])
