-- A turn of the check, one law for each way out of it. Assumes nothing.
use Prim.Native.Nat.{ℕ, suc, ◌+◌, ◌-◌, ◌≤◌, ◌<◌}
use mathlib.Core.Path.{◌≡◌, refl, sym, ◌∙◌, ap, subst}
use mathlib.Core.List.{List, [], ◌∷◌, ◌++◌}
use mathlib.Core.Bool.{Bool, true, false, not}
use native.Mathlib.Omega.{arith}
use lib.ListN.{length, set, length-set}
use borrow.Author.Tests.{not-true, not-false}
use Rattle.text.specs.Text.{Bytes, Line, part, First, lines_from}
use Rattle.text.specs.bridge.Code.{kind_at}
use Rattle.text.proofs.Texts.{AllClean}
use Rattle.algebra.specs.Query.{PairList, Pair, first_kind, second_kind, unique}
use Rattle.algebra.specs.Texts.{read_pairs}
use Rattle.algebra.specs.Tally.{bounds}
use Rattle.cursor.specs.bridge.Cursor.{left, Reading, field}
use Rattle.cursor.specs.declared.Cursor.{Cursor}
use Rattle.lists.specs.bridge.Pairs.{Stands, is_pair, Finds, firsts, fresh, entry_of, pairs_in, Enough, PairsChecked}
use Rattle.text.proofs.Places.{lines-open}
use Rattle.lists.proofs.Lines.{line-next, line_clean}
use Rattle.lists.proofs.Keys.{pairs-long, pairs-more}
use Rattle.lists.proofs.Reading.{told, told-bad, told-twice, told_over, told-next}
use Rattle.lists.proofs.Going.{Done, Going}
use Rattle.std.specs.Prelude.{Some, None, Err}
use Rattle.algebra.specs.declared.Fault.TheVariants.{Malformed, OverBound}

module _ (s : Bytes) (first second : ℕ) (apart : Bool) (keys : List (List ℕ)) (at n : ℕ) (g : Going s first second apart keys at n) where
  abbrev before : List Pair
  before = pairs_in s keys n

  module _ (c : Cursor) (same : c.at ≡ at) (f : First 10 s at (length s) c.end) where
    -- the line is not ended
    pub done-open : (keys' : List (List ℕ)) → at < length s → c.end ≡ length s → Done s first second apart keys' (Err Malformed)
    unfolding is_pair PairsChecked
    done-open keys' k e κ st = g.so κ st ∙ rw (lines-open s at c.end k f e) (told-bad κ before [] (bounds.entries - n) [] tt refl)

    module _ (x : Reading) (finds : Finds s (kind_at first) (kind_at second) c x) (ended : c.end ≡ length s → ⊥) where
      less : c.end < length s
      less = let q = f.high in omega arith

      abbrev rest : List Line
      rest = lines_from s (c.end + 1)

      line : (κ : PairList) → Stands κ first second apart → read_pairs κ s ≡ told κ (bounds.entries - n) before (left s c.at c.end ∷ rest)
      line κ st = g.so κ st ∙ rw (line-next s at c.end f less, same)

      neat : AllClean (left s c.at c.end)
      neat = rw same (line_clean s at c.end f)

      -- it is not two fields of the kinds
      pub done-bad : (keys' : List (List ℕ)) → x ≡ None → Done s first second apart keys' (Err Malformed)
      unfolding Finds PairsChecked
      done-bad keys' e κ st =
          let q : is_pair (kind_at first) (kind_at second) (left s c.at c.end) ≡ false = rw e at finds in
          line κ st ∙ told-bad κ before rest (bounds.entries - n) (left s c.at c.end) neat (rw (st.firsts, st.seconds) q)

      module _ (to : ℕ) (d : Cursor) (is : x ≡ Some (field to d)) where
        -- its two fields
        abbrev one : Bytes
        one = part c.at to s

        abbrev other : Bytes
        other = part (to + 1) c.end s

        two : Finds s (kind_at first) (kind_at second) c (Some (field to d))
        two = rw is at finds

        -- where its first field ends, and the next line starts
        pub found : (c.at ≤ to) × (to < c.end) × (d.at ≡ c.end + 1)
        unfolding Finds
        found = (two.0, two.1, two.2)

        -- there is an entry for it
        pub roomy : (n ≡ bounds.entries → ⊥) → n < length keys
        unfolding Enough
        roomy k =
            let m = g.most in
            let p = g.paced in
            let e = less in
            let q = found in
            let z = same in
            g.enough n (omega arith) (omega arith)

        module _ (b : Bool) (new : b ≡ fresh apart one (firsts before)) where
          is-new : (κ : PairList) → Stands κ first second apart → b ≡ fresh (unique κ) one (firsts before)
          is-new κ st = rw st.parted new

          entry : (κ : PairList) → Stands κ first second apart → read_pairs κ s ≡ told κ (bounds.entries - n) before ((one ∷ other ∷ []) ∷ rest)
          unfolding Finds
          entry κ st = line κ st ∙ ap (λ k. told κ (bounds.entries - n) before (k ∷ rest)) two.3

          -- its first field is there already
          pub done-twice : (keys' : List (List ℕ)) → not b ≡ true → Done s first second apart keys' (Err Malformed)
          unfolding PairsChecked
          done-twice keys' e κ st = entry κ st ∙ told-twice κ before rest (bounds.entries - n) one (other ∷ []) (sym (is-new κ st) ∙ not-true b e)

          module _ (e : not b ≡ false) where
            clean : AllClean (one ∷ other ∷ [])
            unfolding Finds
            clean = subst AllClean two.3 neat

            paired-so : (κ : PairList) → Stands κ first second apart → is_pair (first_kind κ) (second_kind κ) (one ∷ other ∷ []) ≡ true
            unfolding Finds
            paired-so κ st = rw (st.firsts, st.seconds) (ap (is_pair (kind_at first) (kind_at second)) (sym two.3) ∙ two.4)

            -- it is an entry too many
            pub done-over : (keys' : List (List ℕ)) → n ≡ bounds.entries → Done s first second apart keys' (Err OverBound)
            unfolding PairsChecked
            done-over keys' k κ st =
                let z : bounds.entries - n ≡ 0 = omega arith in
                entry κ st ∙ rw z (told_over κ before rest one other clean (paired-so κ st) (sym (is-new κ st) ∙ not-false b e))

            -- it is an entry, and the next line follows
            pub going_next : (keys' : List (List ℕ)) → (n ≡ bounds.entries → ⊥) → keys' ≡ set keys n (entry_of c.at to c.end) → Going s first second apart keys' d.at (n + 1)
            unfolding Enough
            going_next keys' k is_set =
                let m = g.most in
                let room = g.enough in
                let p = g.paced in
                let r = roomy k in
                let kept : pairs_in s keys' (n + 1) ≡ before ++ (record { first = one; second = other } ∷ []) = ap (λ (ks : List (List ℕ)). pairs_in s ks (n + 1)) is_set ∙ pairs-more s keys n c.at to c.end (omega arith) in
                let size : length keys' ≡ length keys = ap length is_set ∙ length-set keys n _ in
                let long : length (pairs_in s keys' (n + 1)) ≤ bounds.entries = let q = pairs-long s keys' (n + 1) (omega arith) in omega arith in
                let z : bounds.entries - n ≡ suc (bounds.entries - (n + 1)) = omega arith in
                record {
                  room = omega arith;
                  enough = λ i h l. let q = room i h l in omega arith;
                  paced = let q = found in let z = same in omega arith;
                  most = omega arith;
                  here = let q = found.2 in let p = less in omega arith;
                  so = λ κ st.
                      entry κ st ∙ ap (λ i. told κ i before ((one ∷ other ∷ []) ∷ rest)) z
                      ∙ told-next κ before rest one other clean (paired-so κ st) (sym (is-new κ st) ∙ not-false b e) (bounds.entries - (n + 1)) (rw (← kept) long)
                      ∙ rw (found.2, kept);
                }
