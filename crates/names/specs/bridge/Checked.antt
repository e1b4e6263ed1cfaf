-- What the check of a text promises, by what the reader makes of the text: its number, and the table of its names. Assumes nothing.
use Rattle.std.specs.Prelude.{ℕ, ◌≡◌, List, Ok, Err}
use Rattle.text.specs.Text.{Bytes}
use Rattle.algebra.specs.Reader.{malformed, over_bound, Outcome, reads, refuses}
use Rattle.algebra.specs.bridge.Answers.{Answer}
use Rattle.names.specs.bridge.Names.{Holds}
use Rattle.algebra.specs.declared.Fault.TheVariants.{Malformed, OverBound}

-- where the text s says x, the answer is good and the table lists the names of x, in their order; else it is the refusal
unfoldable pub Checked : {A : Type 0} → (A → List Bytes) → Bytes → List ℕ → List ℕ → List ℕ → Outcome A → Answer → Type 0
Checked names s starts sizes hints (reads x) r = (n : ℕ) × (r ≡ Ok n) × Holds s starts sizes hints n (names x)
Checked names s starts sizes hints (refuses malformed) r = r ≡ Err Malformed
Checked names s starts sizes hints (refuses over_bound) r = r ≡ Err OverBound
