-- The entries of a table: what one more changes, and that each entry of the table that a good check leaves tells where its name stands and how long it is. Assumes nothing.
use Prim.Native.Nat.{ℕ, ◌≤◌, ◌<◌}
use mathlib.Core.Path.{◌≡◌, refl, sym, ◌∙◌, ap, subst}
use mathlib.Core.List.{List, [], ◌∷◌}
use mathlib.Core.Bool.{Bool, true, false}
use native.Mathlib.Omega.{arith}
use lib.ListN.{length, get_or, set}
use lib.Dec.{leb}
use borrow.Author.Tests.{leb-true, leb-false}
use Rattle.text.specs.Text.{Bytes, piece}
use Rattle.algebra.specs.Tree.{Pattern}
use Rattle.algebra.specs.Query.{Query}
use Rattle.algebra.specs.Layout.{put, layout, put_query}
use Rattle.algebra.specs.Valid.{ValidQuery}
use Rattle.algebra.specs.Tally.{bounds, start, noted, notes, tally, tally_query}
use Rattle.algebra.specs.Bounded.{layout_query}
use Rattle.algebra.specs.Reader.{reads}
use Rattle.algebra.specs.Texts.{read_tree, read_query}
use Rattle.algebra.proofs.Theorem.{tree-exactly, query-exactly}
use Rattle.names.specs.bridge.Names.{starts_of, sizes_of, HoldsIn}
use Rattle.names.specs.Narrow.{narrow_entry, read_back, TellsName}
use Rattle.names.proofs.Columns.{column-at, column-set}
use Rattle.names.proofs.Laws.{listing-at, holds-long}
use Rattle.names.proofs.Clean.{Clean, EndsLine, clean_at, clean-names, text-ends, piece-whole}
use Rattle.names.proofs.Narrow.{kept_whole}

-- an entry that was set so has changed the table's two columns there, and nothing else
pub entry_set : (t t' : List (List ℕ)) (n from size : ℕ) → from < 65536 → size < 65536 → t' ≡ set t n (narrow_entry from size) → (starts_of t' ≡ set (starts_of t) n from) × (sizes_of t' ≡ set (sizes_of t) n size)
entry_set t t' n from size a b e =
    let k : t' ≡ set t n (from ∷ size ∷ []) = e ∙ ap (set t n) (kept_whole from size a b) in
    (ap starts_of k ∙ column-set 0 t n (from ∷ size ∷ []), ap sizes_of k ∙ column-set 1 t n (from ∷ size ∷ []))

-- ---- the table that a check leaves

-- a table that lists no more names than it has room for
few-names : (s : Bytes) (t : List (List ℕ)) (h : List ℕ) (n : ℕ) (names : List Bytes) → length names ≤ bounds.names → HoldsIn s t h n names → n ≤ 1024
few-names s t h n names few holds = go (leb n 1024) refl
  where
    go : (b : Bool) → leb n 1024 ≡ b → n ≤ 1024
    go true e = leb-true n 1024 e
    go false e = let x = holds.over (leb-false n 1024 e) in omega arith

table-tells : (s : Bytes) (t : List (List ℕ)) (h : List ℕ) (n : ℕ) (names : List Bytes) → EndsLine (10 ∷ s) → Clean names → length names ≤ bounds.names → HoldsIn s t h n names → (i : ℕ) → i < n → TellsName s (get_or names i []) (get_or t i [])
table-tells s t h n names ends all few holds i k =
    let room = few-names s t h n names few holds in
    let long = holds-long s (starts_of t) (sizes_of t) h n names holds room in
    let c = clean_at names i (omega arith) all in
    let is : read_back s (get_or t i []) ≡ get_or names i [] = (λ j. piece (sym (column-at 0 t i) j) (sym (column-at 1 t i) j) s) ∙ sym (listing-at s (starts_of t) (sizes_of t) i n k) ∙ ap (λ ns. get_or ns i []) (holds.fits room) in
    let w = piece-whole s (get_or names i []) (get_or (get_or t i []) 0 0) (get_or (get_or t i []) 1 0) ends is c.0 c.1 in
    record { start = w.0; size = w.1 }

-- each entry of a tree's table tells where its name stands in the text and how long it is
pub table-loses-nothing : (s : Bytes) (p : Pattern) (t : List (List ℕ)) (h : List ℕ) (n : ℕ) → read_tree s ≡ reads p → HoldsIn s t h n (tally p start).names → (i : ℕ) → i < n → TellsName s (get_or (tally p start).names i []) (get_or t i [])
unfolding layout
table-loses-nothing s p t h n e holds =
    let x = (tree-exactly s p).0 e in
    table-tells s t h n (tally p start).names (subst (λ r. EndsLine (10 ∷ r)) x.0 (text-ends (put p []))) (clean-names p start x.1 tt) x.2.names holds

-- the same of a query's
pub query-table-loses-nothing : (s : Bytes) (q : Query) (t : List (List ℕ)) (h : List ℕ) (n : ℕ) → read_query s ≡ reads q → HoldsIn s t h n (tally_query q start).names → (i : ℕ) → i < n → TellsName s (get_or (tally_query q start).names i []) (get_or t i [])
unfolding layout_query ValidQuery tally_query noted notes
query-table-loses-nothing s q t h n e holds =
    let x = (query-exactly s q).0 e in
    table-tells s t h n (tally_query q start).names (subst (λ r. EndsLine (10 ∷ r)) x.0 (text-ends (put_query q []))) (clean-names q.tree (noted [] start) x.1.3 tt) x.2.names holds
