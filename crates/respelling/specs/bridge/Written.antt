-- What the writer of a converted tree has written between two places of the tree's text. Assumes nothing.
use Rattle.std.specs.Prelude.{ℕ, ◌≡◌, Bool, ◌&&◌, List}
use Rattle.text.specs.Text.{Bytes, part}
use Rattle.text.specs.Field.{given}
use Rattle.scoping.specs.Sets.{all}
use Rattle.emit.specs.bridge.Emit.{Em, puts}
use Rattle.emit.specs.bridge.Writer.{state}
use Rattle.emit.specs.declared.Writer.{Writer}
use Rattle.converting.specs.Starts.{Start}
use Rattle.converting.specs.Namespaces.{covering_line}
use Rattle.respelling.specs.declared.Put.{Put}

-- a line covers each of these IRIs
unfoldable pub are_covered : List Start → List Bytes → Bool
unfolding all covering_line
are_covered ss xs = all (λ x. given (covering_line ss x)) xs

-- place and buffer once the bytes that wait, up to a place of the tree, are copied
unfoldable pub copied_to : Bytes → ℕ → Put → Writer → Em
copied_to tree to p w = puts (part p.done to tree) (state w)

-- for the bytes of the tree between two places these bytes were written, and these are the IRIs among them
pub record Converted (ss : List Start) (tree : Bytes) (from to : ℕ) (written : Bytes) (iris : List Bytes) (p : Put) (w : Writer) (p' : Put) (w' : Writer) : Type 0 where
  pub same : w'.out.ghost_name ≡ w.out.ghost_name
  pub text : copied_to tree to p' w' ≡ puts written (copied_to tree from p w)
  pub gaps : p'.covered ≡ (p.covered && are_covered ss iris)
