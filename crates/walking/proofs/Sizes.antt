-- The length of a text, line by line and field by field. Assumes nothing.
use Prim.Native.Nat.{ℕ, suc, ◌+◌}
use mathlib.Core.Path.{◌≡◌, refl, ap}
use mathlib.Core.List.{List, [], ◌∷◌, ◌++◌}
use native.Mathlib.Omega.{arith}
use lib.ListN.{length, length-append}
use Rattle.text.specs.Text.{Bytes, Line, ended, text_of}
use Rattle.text.specs.Word.{bytes}
use Rattle.algebra.specs.Tree.{Pattern}
use Rattle.algebra.specs.Query.{Query}
use Rattle.algebra.specs.Layout.{put, put_query, layout}
use Rattle.algebra.specs.Bounded.{layout_query}

-- the bytes of fields, with the tab or line end behind each
unfoldable pub width : List Bytes → ℕ
width [] = 0
width (f ∷ fs) = suc (length f) + width fs

-- the bytes of lines; a line without fields is its line end
unfoldable pub size : List Line → ℕ
unfolding width
size [] = 0
size ([] ∷ ls) = suc (size ls)
size ((f ∷ fs) ∷ ls) = width (f ∷ fs) + size ls

line-size : (f : Bytes) (fs : List Bytes) (rest : Bytes) → length (ended (f ∷ fs) rest) ≡ width (f ∷ fs) + length rest
unfolding ended width
line-size f [] rest = omega (arith, length-append f (10 ∷ rest))
line-size f (g ∷ fs) rest = omega (arith, length-append f (9 ∷ ended (g ∷ fs) rest), line-size g fs rest)

pub text-size : (ls : List Line) → length (text_of ls) ≡ size ls
unfolding text_of size ended
text-size [] = refl
text-size ([] ∷ ls) = ap suc (text-size ls)
text-size ((f ∷ fs) ∷ ls) = omega (arith, line-size f fs (text_of ls), text-size ls)

pub width-append : (fs gs : List Bytes) → width (fs ++ gs) ≡ width fs + width gs
unfolding width
width-append [] gs = omega arith
width-append (f ∷ fs) gs = omega (arith, width-append fs gs)

-- ---- trees and queries

pub tree-size : (p : Pattern) → length (layout p) ≡ size (put p [])
unfolding layout
tree-size p = text-size (put p [])

-- a query's bytes: those of its head line and those of its tree
pub query-size : (q : Query) → length (layout_query q) ≡ width (bytes "query" ∷ q.kind ∷ q.dataset ∷ q.base ∷ []) + size (put q.tree [])
unfolding layout_query put_query size
query-size q = text-size (put_query q [])
