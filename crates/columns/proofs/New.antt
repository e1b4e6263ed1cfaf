-- Laws of new names: as they are written and compared, and along the columns. Assumes nothing.
use Prim.Native.Nat.{ℕ, ◌+◌, ◌≤◌, ◌<◌}
use mathlib.Core.Path.{◌≡◌, sym, ap, ap₂, ◌∙◌}
use mathlib.Core.List.{List, [], ◌∷◌, map}
use mathlib.Core.Bool.{Bool, cond}
use native.Mathlib.Numerals.{add-one}
use native.Mathlib.Omega.{arith}
use lib.ListN.{length, get_or, take, drop, length-take, drop_of_length-le}
use lib.Seq.{drop-cons, get_or-take}
use borrow.Author.Tests.{eq-eqb, ne_eqb}
use Rattle.text.specs.Text.{Bytes, piece}
use Rattle.emit.specs.bridge.Emit.{Em, em, puts}
use Rattle.emit.proofs.Laws.{puts-at}
use Rattle.answers.proofs.Answers.{spared}
use Rattle.names.specs.bridge.Names.{starts_of, sizes_of}
use Rattle.names.proofs.Columns.{column-at}
use Rattle.naming.specs.bridge.New.{named}
use Rattle.columns.specs.bridge.Columns.{new_in}

-- ---- one name

module _ (s : Bytes) (table news : List (List ℕ)) (k : ℕ) where
  -- it stays, and it is a piece of the text
  pub new-stays : get_or (get_or news k []) 1 0 ≡ 0 → (x y : ℕ) (f : Bytes) → x ≡ get_or (get_or table k []) 0 0 → y ≡ get_or (get_or table k []) 1 0 → f ≡ piece x y s → new_in s table news k ≡ f
  new-stays z x y f p q e =
      ap (λ (t : Bool). cond t (piece (get_or (starts_of table) k 0) (get_or (sizes_of table) k 0) s) (named (get_or (starts_of news) k 0) (get_or (sizes_of news) k 0))) (eq-eqb (get_or (sizes_of news) k 0) 0 (column-at 1 news k ∙ z))
      ∙ ap₂ (λ (a b : ℕ). piece a b s) (column-at 0 table k ∙ sym p) (column-at 1 table k ∙ sym q)
      ∙ sym e

  -- or it is generated
  pub new-named : (get_or (get_or news k []) 1 0 ≡ 0 → ⊥) → new_in s table news k ≡ named (get_or (get_or news k []) 0 0) (get_or (get_or news k []) 1 0)
  new-named z =
      ap (λ (t : Bool). cond t (piece (get_or (starts_of table) k 0) (get_or (sizes_of table) k 0) s) (named (get_or (starts_of news) k 0) (get_or (sizes_of news) k 0))) (ne_eqb (get_or (sizes_of news) k 0) 0 (λ e. z (sym (column-at 1 news k) ∙ e)))
      ∙ ap₂ named (column-at 0 news k) (column-at 1 news k)

-- twelve bytes have room for a generated name
module _ (n b : ℕ) (room room' : Bytes) (size : ℕ) (long : length room ≡ 12) (few : length (named n b) ≤ 12) (put : em size room' ≡ puts (named n b) (em 0 room)) where
  pub room-fits : size ≤ 12
  room-fits = let m = ap (λ (x : Em). x.at) put ∙ puts-at (named n b) (em 0 room) (omega arith) in omega arith

  pub room-is : piece 0 size room' ≡ named n b
  room-is = let f = room-fits in spared (named n b) room room' size put (omega arith) (omega arith)

-- ---- along the columns

module _ (f : List ℕ → Bytes) (v : List (List ℕ)) (c : ℕ) (few : c ≤ length v) where
  taken : length (take c v) ≡ c
  taken = simp length-take (omega arith)

  pub columns-left : (i : ℕ) → i < c → map f (drop i (take c v)) ≡ f (get_or v i []) ∷ map f (drop (i + 1) (take c v))
  columns-left i h =
      ap (map f) (drop-cons (take c v) i [] (let t = taken in omega arith))
      ∙ ap₂ (λ (x : List ℕ) (n : ℕ). f x ∷ map f (drop n (take c v))) (get_or-take c v i [] h) (sym (add-one i))

  pub columns-over : (i : ℕ) → c ≤ i → map f (drop i (take c v)) ≡ []
  columns-over i h = let z : length (take c v) ≤ i = (let t = taken in omega arith) in ap (map f) (drop_of_length-le (take c v) z)
