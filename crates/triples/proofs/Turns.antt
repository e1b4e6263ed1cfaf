-- A turn of the check, one law for each way out of it. Assumes nothing.
use Prim.Native.Nat.{ℕ, suc, ◌+◌, ◌-◌, ◌≤◌, ◌<◌}
use mathlib.Core.Path.{◌≡◌, refl, sym, ◌∙◌, ap, ap₂, subst}
use mathlib.Core.List.{List, [], ◌∷◌, ◌++◌, map, map-append}
use mathlib.Core.Bool.{Bool, true, false, not, ◌&&◌, ◌||◌}
use native.Mathlib.Omega.{arith}
use lib.Dec.{eqb}
use lib.ListN.{length, set, length-set}
use borrow.Author.Tests.{not-true, not-false}
use Rattle.text.specs.Text.{Bytes, Line, same, part, First, lines_from}
use Rattle.text.proofs.Texts.{AllClean, glue, glue-split, ended-glue}
use Rattle.text.proofs.Places.{lines-open}
use Rattle.algebra.specs.Tree.{Triple}
use Rattle.algebra.specs.Valid.{mem}
use Rattle.cursor.specs.bridge.Cursor.{left}
use Rattle.cursor.proofs.Laws.{left-all}
use Rattle.cursor.specs.declared.Cursor.{Cursor}
use Rattle.lists.proofs.Lines.{line-next, line_clean}
use Rattle.evaluating.specs.Triples.{most_triples, line_of, read_triples}
use Rattle.triples.specs.bridge.Triples.{Search, ends, entry_of, triples_in, wholes_in, is_three, Finds, TriplesChecked, fresh}
use Rattle.triples.proofs.Keys.{triples-long, triples-more, wholes-more}
use Rattle.triples.proofs.Reading.{line_in, told, told-bad, told-twice, told_over, told-next}
use Rattle.triples.proofs.Going.{closed, Going}
use Rattle.std.specs.Prelude.{Some, None, Err}
use Rattle.algebra.specs.declared.Fault.TheVariants.{Malformed, OverBound}

-- ---- lines with their ends

same-closed : (p q : Bytes) → same (closed p) (closed q) ≡ same p q
unfolding same
same-closed [] [] = refl
same-closed [] (y ∷ []) = off (eqb 10 y)
  where
    off : (b : Bool) → (b && false) ≡ false
    off true = refl
    off false = refl
same-closed [] (y ∷ z ∷ q) = off (eqb 10 y)
  where
    off : (b : Bool) → (b && false) ≡ false
    off true = refl
    off false = refl
same-closed (x ∷ []) [] = off (eqb x 10)
  where
    off : (b : Bool) → (b && false) ≡ false
    off true = refl
    off false = refl
same-closed (x ∷ z ∷ p) [] = off (eqb x 10)
  where
    off : (b : Bool) → (b && false) ≡ false
    off true = refl
    off false = refl
same-closed (x ∷ p) (y ∷ q) = ap (λ b. eqb x y && b) (same-closed p q)

mem-closed : (l : Bytes) (ls : List Bytes) → mem (closed l) (map closed ls) ≡ mem l ls
unfolding mem
mem-closed l [] = refl
mem-closed l (k ∷ ls) = ap₂ ◌||◌ (same-closed l k) (mem-closed l ls)

-- a line is its fields' bytes
line-closed : (s : Bytes) (at e : ℕ) (f g h : Bytes) → at ≤ e → left s at e ≡ f ∷ g ∷ h ∷ [] → line_of f g h ≡ closed (part at e s)
unfolding line_of
line-closed s at e f g h k i =
    ended-glue (f ∷ g ∷ h ∷ []) []
    ∙ ap closed (ap (glue 9) (sym i ∙ left-all s at e k) ∙ glue-split 9 (part at e s))

module _ (s : Bytes) (keys : List (List ℕ)) (at n : ℕ) (g : Going s keys at n) where
  abbrev before : List Triple
  before = triples_in s keys n

  module _ (c : Cursor) (same_at : c.at ≡ at) (f : First 10 s at (length s) c.end) where
    -- the line is not ended
    pub done-open : (keys' : List (List ℕ)) → at < length s → c.end ≡ length s → TriplesChecked s keys' (Err Malformed)
    unfolding is_three TriplesChecked
    done-open keys' k e = g.so ∙ rw (lines-open s at c.end k f e) (told-bad before [] (most_triples - n) [] tt refl)

    module _ (x : Search) (finds : Finds s c x) (ended-line : c.end ≡ length s → ⊥) where
      less : c.end < length s
      less = let q = f.high in omega arith

      abbrev rest : List Line
      rest = lines_from s (c.end + 1)

      line : read_triples s ≡ told (most_triples - n) before (left s c.at c.end ∷ rest)
      line = g.so ∙ rw (line-next s at c.end f less, same_at)

      neat : AllClean (left s c.at c.end)
      neat = rw same_at (line_clean s at c.end f)

      -- it is not three IRIs or literals
      pub done-bad : (keys' : List (List ℕ)) → x ≡ None → TriplesChecked s keys' (Err Malformed)
      unfolding Finds TriplesChecked
      done-bad keys' e = line ∙ told-bad before rest (most_triples - n) (left s c.at c.end) neat (rw e at finds)

      module _ (to mid : ℕ) (is : x ≡ Some (ends to mid)) where
        abbrev one : Bytes
        one = part c.at to s

        abbrev two : Bytes
        two = part (to + 1) mid s

        abbrev three : Bytes
        three = part (mid + 1) c.end s

        all : Finds s c (Some (ends to mid))
        all = rw is at finds

        -- where its fields end
        pub found : (c.at ≤ to) × (to < mid) × (mid < c.end)
        unfolding Finds
        found = (all.0, all.1, all.2)

        entry : read_triples s ≡ told (most_triples - n) before ((one ∷ two ∷ three ∷ []) ∷ rest)
        unfolding Finds
        entry = line ∙ ap (λ (k : Line). told (most_triples - n) before (k ∷ rest)) all.3

        clean : AllClean (one ∷ two ∷ three ∷ [])
        unfolding Finds
        clean = subst AllClean all.3 neat

        tripled : is_three (one ∷ two ∷ three ∷ []) ≡ true
        unfolding Finds
        tripled = ap is_three (sym all.3) ∙ all.4

        whole : line_of one two three ≡ closed (part c.at c.end s)
        unfolding Finds
        whole = let q = found in line-closed s c.at c.end one two three (omega (arith, q.0, q.1, q.2)) all.3

        seen : mem (line_of one two three) (map line_in before) ≡ mem (part c.at c.end s) (wholes_in s keys n)
        seen = ap₂ mem whole g.lines ∙ mem-closed (part c.at c.end s) (wholes_in s keys n)

        module _ (b : Bool) (new : b ≡ fresh (part c.at c.end s) (wholes_in s keys n)) where
          -- it stands already
          pub done-twice : (keys' : List (List ℕ)) → not b ≡ true → TriplesChecked s keys' (Err Malformed)
          unfolding TriplesChecked fresh
          done-twice keys' e =
              let z : mem (part c.at c.end s) (wholes_in s keys n) ≡ true = not-false _ (sym new ∙ not-true b e) in
              entry ∙ told-twice before rest (most_triples - n) one two three (seen ∙ z)

          module _ (e : not b ≡ false) where
            unseen : mem (line_of one two three) (map line_in before) ≡ false
            unfolding fresh
            unseen = seen ∙ not-true _ (sym new ∙ not-false b e)

            -- it is a line too many
            pub done-over : (keys' : List (List ℕ)) → n ≡ most_triples → TriplesChecked s keys' (Err OverBound)
            unfolding TriplesChecked
            done-over keys' k =
                let z : most_triples - n ≡ 0 = omega arith in
                entry ∙ rw z (told_over before rest one two three clean tripled unseen)

            -- it is kept, and the next line follows
            pub going_next : (keys' : List (List ℕ)) (d : Cursor) → (n ≡ most_triples → ⊥) → keys' ≡ set keys n (entry_of c.at to mid c.end) → d.at ≡ c.end + 1 → Going s keys' d.at (n + 1)
            going_next keys' d k is_set there =
                let m = g.most in
                let r = g.room in
                let q = found in
                let i : n < length keys = omega arith in
                let kept : triples_in s keys' (n + 1) ≡ before ++ (record { subj = one; pred = two; obj = three } ∷ []) = ap (λ (ks : List (List ℕ)). triples_in s ks (n + 1)) is_set ∙ triples-more s keys n c.at to mid c.end i q.0 q.1 q.2 in
                let whole-kept : wholes_in s keys' (n + 1) ≡ wholes_in s keys n ++ (part c.at c.end s ∷ []) = ap (λ (ks : List (List ℕ)). wholes_in s ks (n + 1)) is_set ∙ wholes-more s keys n c.at to mid c.end i q.0 q.1 q.2 in
                let size : length keys' ≡ most_triples = ap length is_set ∙ length-set keys n _ ∙ r in
                let long : length (triples_in s keys' (n + 1)) ≤ most_triples = let l = triples-long s keys' (n + 1) (omega arith) in omega arith in
                let z : most_triples - n ≡ suc (most_triples - (n + 1)) = omega arith in
                record {
                  room = size;
                  most = omega arith;
                  here = let p = less in omega arith;
                  lines =
                      ap (map line_in) kept ∙ (map-append line_in before (record { subj = one; pred = two; obj = three } ∷ [])
                      ∙ (ap₂ (λ xs l. xs ++ (l ∷ [])) g.lines whole ∙ (sym (map-append closed (wholes_in s keys n) (part c.at c.end s ∷ [])) ∙ ap (map closed) (sym whole-kept))));
                  so = entry ∙ ap (λ (i : ℕ). told i before ((one ∷ two ∷ three ∷ []) ∷ rest)) z ∙ told-next before rest one two three clean tripled unseen (most_triples - (n + 1)) (rw (← kept) long) ∙ rw (there, kept);
                }
