-- The check's promise, and what holds where a line starts: the lines from there on say what the whole text says. Assumes nothing.
use Prim.Native.Nat.{ℕ, ◌*◌, ◌-◌, ◌≤◌, ◌<◌}
use mathlib.Core.Path.{◌≡◌, ◌∙◌}
use mathlib.Core.List.{List}
use mathlib.Core.Bool.{Bool}
use native.Mathlib.Omega.{arith}
use lib.ListN.{length}
use borrow.Author.Tests.{le-ltb, lt-ltb}
use Rattle.text.specs.Text.{Bytes, lines_from}
use Rattle.algebra.specs.Query.{PairList}
use Rattle.algebra.specs.Reader.{read_text}
use Rattle.algebra.specs.Texts.{read_pairs}
use Rattle.algebra.specs.bridge.Answers.{Answer}
use Rattle.algebra.specs.Tally.{bounds}
use Rattle.lists.specs.bridge.Pairs.{Stands, pairs_in, Enough, PairsChecked}
use Rattle.text.proofs.Places.{lines_start, lines_end}
use Rattle.lists.proofs.Reading.{told, told-start, told-end}
use Rattle.std.specs.Prelude.{Ok, Err}
use Rattle.algebra.specs.declared.Fault.TheVariants.{OverBound}

-- the check's promise, for each list that its kinds stand for
abbrev pub Done : Bytes → ℕ → ℕ → Bool → List (List ℕ) → Answer → Type 0
Done s first second apart keys r = (κ : PairList) → Stands κ first second apart → PairsChecked κ s keys r

-- what holds at a line's start, where the first n entries tell the pairs before it
pub record Going (s : Bytes) (first second : ℕ) (apart : Bool) (keys : List (List ℕ)) (at n : ℕ) : Type 0 where
  pub room : n ≤ length keys
  pub enough : Enough s keys
  pub paced : 2 * n ≤ at
  pub most : n ≤ bounds.entries
  pub here : at ≤ length s
  pub so : (κ : PairList) → Stands κ first second apart → read_pairs κ s ≡ told κ (bounds.entries - n) (pairs_in s keys n) (lines_from s at)

-- a text over the bound on bytes
pub too_long : (s : Bytes) (first second : ℕ) (apart : Bool) (keys : List (List ℕ)) → 16384 < length s → Done s first second apart keys (Err OverBound)
unfolding PairsChecked read_pairs read_text
too_long s first second apart keys k κ st = rw (lt-ltb 16384 (length s) k)

-- the first line
pub going_start : (s : Bytes) (first second : ℕ) (apart : Bool) (keys : List (List ℕ)) (at : ℕ) → at ≡ 0 → length s ≤ 16384 → Enough s keys → Going s first second apart keys at 0
unfolding read_pairs read_text pairs_in
going_start s first second apart keys at z k e =
    record {
      room = omega arith;
      enough = e;
      paced = omega arith;
      most = omega arith;
      here = omega arith;
      so = λ κ st. rw (le-ltb 16384 (length s) k, lines_start s, z) (told-start κ (lines_from s 0));
    }

-- entries for every list
pub enough-full : (s : Bytes) (keys : List (List ℕ)) → length keys ≡ bounds.entries → Enough s keys
unfolding Enough
enough-full s keys e n h l = omega arith

-- entries for a short one
pub enough-short : (s : Bytes) (keys : List (List ℕ)) → length keys ≡ 64 → length s ≤ 128 → Enough s keys
unfolding Enough
enough-short s keys e k n h l = omega arith

-- no line is left
pub done_end : (s : Bytes) (first second : ℕ) (apart : Bool) (keys : List (List ℕ)) (at n : ℕ) → Going s first second apart keys at n → length s ≤ at → Done s first second apart keys (Ok n)
unfolding PairsChecked
done_end s first second apart keys at n g e κ st = record { room = g.room; few = g.most; read = g.so κ st ∙ rw (lines_end s at e) (told-end κ (bounds.entries - n) (pairs_in s keys n)) }
