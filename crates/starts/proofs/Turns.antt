-- A turn of the check, one law for each way out of it. Assumes nothing.
use Prim.Native.Nat.{ℕ, suc, ◌+◌, ◌-◌, ◌≤◌, ◌<◌}
use mathlib.Core.Path.{◌≡◌, refl, sym, ◌∙◌, ap, subst}
use mathlib.Core.List.{List, [], ◌∷◌, ◌++◌}
use mathlib.Core.Bool.{true}
use native.Mathlib.Omega.{arith}
use lib.ListN.{length, set, length-set}
use Rattle.text.specs.Text.{Bytes, Line, part, First, lines_from}
use Rattle.text.proofs.Texts.{AllClean}
use Rattle.text.proofs.Places.{lines-open}
use Rattle.cursor.specs.bridge.Cursor.{left, Reading, field}
use Rattle.cursor.specs.declared.Cursor.{Cursor}
use Rattle.lists.specs.bridge.Pairs.{entry_of}
use Rattle.lists.proofs.Lines.{line-next, line_clean}
use Rattle.converting.specs.Starts.{Start, read_starts}
use Rattle.starts.specs.bridge.Starts.{is_two, Finds, starts_in, StartsChecked}
use Rattle.starts.proofs.Keys.{starts-long, starts_more}
use Rattle.starts.proofs.Reading.{told, told-bad, told_over, told-next}
use Rattle.starts.proofs.Going.{Going}
use Rattle.std.specs.Prelude.{Some, None, Err}
use Rattle.algebra.specs.declared.Fault.TheVariants.{Malformed, OverBound}

module _ (s : Bytes) (keys : List (List ℕ)) (at n : ℕ) (g : Going s keys at n) where
  abbrev before : List Start
  before = starts_in s keys n

  module _ (c : Cursor) (same : c.at ≡ at) (f : First 10 s at (length s) c.end) where
    -- the line is not ended
    pub done-open : (keys' : List (List ℕ)) → at < length s → c.end ≡ length s → StartsChecked s keys' (Err Malformed)
    unfolding is_two StartsChecked
    done-open keys' k e = g.so ∙ rw (lines-open s at c.end k f e) (told-bad before [] (64 - n) [] tt refl)

    module _ (x : Reading) (finds : Finds s c x) (ended : c.end ≡ length s → ⊥) where
      less : c.end < length s
      less = let q = f.high in omega arith

      abbrev rest : List Line
      rest = lines_from s (c.end + 1)

      line : read_starts s ≡ told (64 - n) before (left s c.at c.end ∷ rest)
      line = g.so ∙ rw (line-next s at c.end f less, same)

      neat : AllClean (left s c.at c.end)
      neat = rw same (line_clean s at c.end f)

      -- it is not two starts
      pub done-bad : (keys' : List (List ℕ)) → x ≡ None → StartsChecked s keys' (Err Malformed)
      unfolding Finds StartsChecked
      done-bad keys' e = line ∙ told-bad before rest (64 - n) (left s c.at c.end) neat (rw e at finds)

      module _ (to : ℕ) (d : Cursor) (is : x ≡ Some (field to d)) where
        -- its two fields
        abbrev one : Bytes
        one = part c.at to s

        abbrev other : Bytes
        other = part (to + 1) c.end s

        two : Finds s c (Some (field to d))
        two = rw is at finds

        -- where its first field ends, and the next line starts
        pub found : (c.at ≤ to) × (to < c.end) × (d.at ≡ c.end + 1)
        unfolding Finds
        found = (two.0, two.1, two.2)

        entry : read_starts s ≡ told (64 - n) before ((one ∷ other ∷ []) ∷ rest)
        unfolding Finds
        entry = line ∙ ap (λ (k : Line). told (64 - n) before (k ∷ rest)) two.3

        clean : AllClean (one ∷ other ∷ [])
        unfolding Finds
        clean = subst AllClean two.3 neat

        paired : is_two (one ∷ other ∷ []) ≡ true
        unfolding Finds
        paired = ap is_two (sym two.3) ∙ two.4

        -- it is a line too many
        pub done-over : (keys' : List (List ℕ)) → n ≡ 64 → StartsChecked s keys' (Err OverBound)
        unfolding StartsChecked
        done-over keys' k =
            let z : 64 - n ≡ 0 = omega arith in
            entry ∙ rw z (told_over before rest one other clean paired)

        -- it is kept, and the next line follows
        pub going_next : (keys' : List (List ℕ)) → (n ≡ 64 → ⊥) → keys' ≡ set keys n (entry_of c.at to c.end) → Going s keys' d.at (n + 1)
        going_next keys' k is_set =
            let m = g.most in
            let r = g.room in
            let kept : starts_in s keys' (n + 1) ≡ before ++ (record { old = one; new = other } ∷ []) = ap (λ (ks : List (List ℕ)). starts_in s ks (n + 1)) is_set ∙ starts_more s keys n c.at to c.end (omega arith) in
            let size : length keys' ≡ 64 = ap length is_set ∙ length-set keys n _ ∙ r in
            let long : length (starts_in s keys' (n + 1)) ≤ 64 = let q = starts-long s keys' (n + 1) (omega arith) in omega arith in
            let z : 64 - n ≡ suc (64 - (n + 1)) = omega arith in
            record {
              room = size;
              most = omega arith;
              here = let q = found.2 in let p = less in omega arith;
              so = entry ∙ ap (λ (i : ℕ). told i before ((one ∷ other ∷ []) ∷ rest)) z ∙ told-next before rest one other clean paired (64 - (n + 1)) (rw (← kept) long) ∙ rw (found.2, kept);
            }
