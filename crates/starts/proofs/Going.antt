-- What holds where a line of the table starts: the lines from there on say what the whole text says. Assumes nothing.
use Prim.Native.Nat.{ℕ, ◌-◌, ◌≤◌, ◌<◌}
use mathlib.Core.Path.{◌≡◌, ◌∙◌}
use mathlib.Core.List.{List}
use native.Mathlib.Omega.{arith}
use lib.ListN.{length}
use borrow.Author.Tests.{le-ltb, lt-ltb}
use Rattle.text.specs.Text.{Bytes, lines_from}
use Rattle.text.proofs.Places.{lines_start, lines_end}
use Rattle.algebra.specs.Reader.{read_text}
use Rattle.converting.specs.Starts.{read_starts}
use Rattle.starts.specs.bridge.Starts.{starts_in, StartsChecked}
use Rattle.starts.proofs.Reading.{told, told-start, told-end}
use Rattle.std.specs.Prelude.{Ok, Err}
use Rattle.algebra.specs.declared.Fault.TheVariants.{OverBound}

-- the first n entries tell the lines before this place
pub record Going (s : Bytes) (keys : List (List ℕ)) (at n : ℕ) : Type 0 where
  pub room : length keys ≡ 64
  pub most : n ≤ 64
  pub here : at ≤ length s
  pub so : read_starts s ≡ told (64 - n) (starts_in s keys n) (lines_from s at)

-- a text over the bound on bytes
pub too_long : (s : Bytes) (keys : List (List ℕ)) → 16384 < length s → StartsChecked s keys (Err OverBound)
unfolding StartsChecked read_starts read_text
too_long s keys k = rw (lt-ltb 16384 (length s) k)

-- the first line
pub going_start : (s : Bytes) (keys : List (List ℕ)) (at : ℕ) → at ≡ 0 → length s ≤ 16384 → length keys ≡ 64 → Going s keys at 0
unfolding read_starts read_text starts_in
going_start s keys at z k e =
    record {
      room = e;
      most = omega arith;
      here = omega arith;
      so = rw (le-ltb 16384 (length s) k, lines_start s, z) (told-start (lines_from s 0));
    }

-- no line is left
pub done_end : (s : Bytes) (keys : List (List ℕ)) (at n : ℕ) → Going s keys at n → length s ≤ at → StartsChecked s keys (Ok n)
unfolding StartsChecked
done_end s keys at n g e = record { room = g.room; few = g.most; read = g.so ∙ rw (lines_end s at e) (told-end (64 - n) (starts_in s keys n)) }
