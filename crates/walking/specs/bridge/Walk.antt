-- What a walk over the lines of a tree makes of each: the line is written under new names, and each of its variables is noted as visible or covered. proofs/Trees says what comes of a tree. Assumes nothing.
use Rattle.std.specs.Prelude.{ℕ, suc, ◌+◌, Bool, cond, ◌&&◌, set}
use mathlib.Core.List.{List, [], ◌∷◌, ◌++◌}
use Rattle.std.proofs.Math.Bool.{false}
use Rattle.text.specs.Text.{Bytes, same}
use Rattle.text.specs.Word.{bytes}
use Rattle.text.specs.Field.{is_var}
use Rattle.algebra.specs.Valid.{mem}
use Rattle.algebra.specs.bridge.Table.{Slot, Row}
use Rattle.emit.specs.bridge.Emit.{Em, em, puts}
use Rattle.scoping.specs.Sets.{index_of}
use Rattle.scoping.specs.bridge.Places.{Mark, visible, covered, silent}
use Rattle.scoping.specs.bridge.Walk.{opened}

-- each field after a tab
unfoldable pub tabbed : List Bytes → Bytes
tabbed [] = []
tabbed (f ∷ fs) = 9 ∷ (f ++ tabbed fs)

-- what has been written, and which names have been noted
pub record Output : Type 0 where
  pub em : Em
  pub flags : List ℕ

abbrev pub output : ℕ → Bytes → List ℕ → Output
output at out flags = record { em = em at out; flags = flags }

-- ---- one line

abbrev pub writes : Bytes → Output → Output
writes bs o = record { em = puts bs o.em; flags = o.flags }

-- the name at an entry is noted: among the first 1,024 flags as visible, among those behind them as covered
abbrev pub flagged : Mark → ℕ → List ℕ → List ℕ
flagged visible k flags = set flags k 1
flagged covered k flags = set flags (1024 + k) 1
flagged silent k flags = flags

module _ (ns : List Bytes) (new : Bytes → Bytes) where
  -- a variable of the table is written under its new name and noted, anything else is written as it is
  unfoldable pub put_field : Mark → Bool → Bytes → Output → Output
  put_field m may f o = cond (may && is_var f) (cond (mem f ns) (record { em = puts (new f) o.em; flags = flagged m (index_of f ns) o.flags }) (writes f o)) (writes f o)

  -- the fields behind a word, each after a tab; in a service's line all stay
  unfoldable pub put_fields : Mark → Bool → List Slot → ℕ → List Bytes → Output → Output
  unfolding put_field opened
  put_fields m stays ss i [] o = o
  put_fields m stays ss i (f ∷ fs) o = put_fields m stays ss (suc i) fs (put_field m (cond stays false (opened ss i)) f (writes (9 ∷ []) o))

  unfoldable pub put_line : Mark → Row → Bytes → List Bytes → Output → Output
  unfolding put_fields
  put_line m r w fs o = writes (10 ∷ []) (put_fields m (same w (bytes "service")) r.slots 0 fs (writes w o))
