-- What holds where a line of the list starts: the lines from there on say what the whole text says. Assumes nothing.
use Prim.Native.Nat.{ℕ, ◌-◌, ◌≤◌, ◌<◌}
use mathlib.Core.Path.{◌≡◌, refl, ◌∙◌}
use mathlib.Core.List.{List, [], ◌∷◌, ◌++◌, map}
use native.Mathlib.Omega.{arith}
use lib.ListN.{length}
use borrow.Author.Tests.{le-ltb, lt-ltb}
use Rattle.text.specs.Text.{Bytes, lines_from}
use Rattle.text.proofs.Places.{lines_start, lines_end}
use Rattle.algebra.specs.Reader.{read_text}
use Rattle.evaluating.specs.Triples.{most_triples, read_triples}
use Rattle.triples.specs.bridge.Triples.{triples_in, wholes_in, TriplesChecked}
use Rattle.triples.proofs.Reading.{line_in, told, told-start, told-end}
use Rattle.std.specs.Prelude.{Ok, Err}
use Rattle.algebra.specs.declared.Fault.TheVariants.{OverBound}

-- a line with its end
abbrev pub closed : Bytes → Bytes
closed l = l ++ (10 ∷ [])

-- the first n entries tell the triples before this place
pub record Going (s : Bytes) (keys : List (List ℕ)) (at n : ℕ) : Type 0 where
  pub room : length keys ≡ most_triples
  pub most : n ≤ most_triples
  pub here : at ≤ length s
  pub lines : map line_in (triples_in s keys n) ≡ map closed (wholes_in s keys n)
  pub so : read_triples s ≡ told (most_triples - n) (triples_in s keys n) (lines_from s at)

-- a text over the bound on bytes
pub too_long : (s : Bytes) (keys : List (List ℕ)) → 16384 < length s → TriplesChecked s keys (Err OverBound)
unfolding TriplesChecked read_triples read_text
too_long s keys k = rw (lt-ltb 16384 (length s) k)

-- the first line
pub going_start : (s : Bytes) (keys : List (List ℕ)) (at : ℕ) → at ≡ 0 → length s ≤ 16384 → length keys ≡ most_triples → Going s keys at 0
unfolding read_triples read_text triples_in wholes_in
going_start s keys at z k e =
    record {
      room = e;
      most = omega arith;
      here = omega arith;
      lines = refl;
      so = rw (le-ltb 16384 (length s) k, lines_start s, z) (told-start (lines_from s 0));
    }

-- no line is left
pub done_end : (s : Bytes) (keys : List (List ℕ)) (at n : ℕ) → Going s keys at n → length s ≤ at → TriplesChecked s keys (Ok n)
unfolding TriplesChecked
done_end s keys at n g e = record { room = g.room; few = g.most; read = g.so ∙ rw (lines_end s at e) (told-end (most_triples - n) (triples_in s keys n)) }
