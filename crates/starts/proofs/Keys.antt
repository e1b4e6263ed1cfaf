-- Laws of the array that keeps a table's lines. Assumes nothing.
use Prim.Native.Nat.{ℕ, ◌+◌, ◌≤◌, ◌<◌}
use mathlib.Core.Path.{◌≡◌, ap, ◌∙◌}
use mathlib.Core.List.{List, [], ◌∷◌, ◌++◌, map-append}
use native.Mathlib.Numerals.{add-one}
use lib.ListN.{length, get_or, set, take, length-map, get_or-map}
use lib.Seq.{length-take-le, take-suc-set, get_or-take}
use Rattle.text.specs.Text.{Bytes, part}
use Rattle.lists.specs.bridge.Pairs.{entry_of}
use Rattle.converting.specs.Starts.{Start, old_starts}
use Rattle.starts.specs.bridge.Starts.{start_at, starts_in}

module _ (s : Bytes) (keys : List (List ℕ)) (n : ℕ) where
  pub starts-long : n ≤ length keys → length (starts_in s keys n) ≡ n
  unfolding starts_in
  starts-long h = length-map (take n keys) (start_at s) ∙ length-take-le n keys h

  pub olds-long : n ≤ length keys → length (old_starts (starts_in s keys n)) ≡ n
  olds-long h = length-map (starts_in s keys n) (λ (x : Start). x.old) ∙ starts-long h

  -- the line at a place is what the entry there tells
  pub start-at : (i : ℕ) → n ≤ length keys → i < n → get_or (starts_in s keys n) i (record { old = []; new = [] }) ≡ start_at s (get_or keys i [])
  unfolding starts_in
  start-at i h l =
      get_or-map (start_at s) (take n keys) i []
      ∙ ap (start_at s) (get_or-take n keys i [] l)

  -- one more
  pub starts_more : (from to end : ℕ) → n < length keys
      → starts_in s (set keys n (entry_of from to end)) (n + 1) ≡ starts_in s keys n ++ (record { old = part from to s; new = part (to + 1) end s } ∷ [])
  unfolding starts_in
  starts_more from to end h =
      rw (add-one n, take-suc-set keys n (entry_of from to end) h)
      (map-append (start_at s) (take n keys) (entry_of from to end ∷ []))
