-- The call bindings, from places in its texts to the bytes. Assumes nothing.
use Prim.Native.Nat.{ℕ, ◌+◌, ◌-◌, ◌*◌, ◌≤◌, ◌<◌, min}
use mathlib.Core.Path.{◌≡◌, refl, sym, ap, ap₂, subst, ◌∙◌}
use mathlib.Core.Logic.{inl, inr, ⊎_elim}
use mathlib.Core.Bool.{Bool, true, false, cond, not, ◌&&◌}
use mathlib.Core.List.{List, [], ◌∷◌, ◌++◌, map, append_assoc}
use mathlib.Core.Option.{none}
use native.Mathlib.Omega.{arith}
use lib.ListN.{length, take, drop, length-drop}
use lib.Seq.{take_all}
use lib.Dec.{ltb, leb}
use borrow.Author.Tests.{not-true, not-false, leb-true, leb-false}
use Rattle.text.specs.Text.{Bytes, Line, same, text_of, part, lines_from}
use Rattle.text.specs.Word.{bytes}
use Rattle.algebra.specs.Tree.{Pattern}
use Rattle.algebra.specs.Query.{BindingSet}
use Rattle.algebra.specs.Layout.{put, put_sets, layout}
use Rattle.algebra.specs.Reader.{reads, refuses, malformed, over_bound}
use Rattle.algebra.specs.Texts.{read_tree, read_sets}
use Rattle.emit.specs.bridge.Emit.{Em, em, last, puts}
use Rattle.emit.proofs.Laws.{puts-at, puts-past}
use Rattle.algebra.proofs.Theorem.{sets-exactly}
use Rattle.answers.specs.Outcome.{written, refused_unless, Reported, Answered}
use Rattle.answers.proofs.Answers.{too_short, all-written, answered}
use Rattle.scoping.specs.Sets.{all}
use Rattle.scoping.specs.Premises.{inside}
use Rattle.merging.specs.Request.{Projection, position}
use Rattle.merging.specs.Negate.{modify_outermost_projection}
use Rattle.heads.proofs.Cut.{text-append}
use Rattle.negating.specs.bridge.Lines.{word, from_project, Projects}
use Rattle.negating.proofs.TreeLines.{behind}
use Rattle.filtering.specs.Bindings.{joined_with_values, pattern_with_bindings, positions_inside, values_usable}
use Rattle.filtering.specs.bridge.AsIs.{bindings_as_is}
use Rattle.filtering.specs.bridge.SetLines.{repeated, sets_in, values_line, at_inside, row_usable}
use Rattle.filtering.proofs.BindingLines.{put_all_values, joined-lines, values-lines, positions-lines, usable-lines, sets-in}
use Rattle.filtering.proofs.Theorem.{found-same, bindings-not-found}
use Rattle.filtering.proofs.Read.{sets-at}
use Rattle.placing.specs.bridge.Fields.{columns_on}
use Rattle.placing.specs.bridge.Ends.{EndsAt}
use Rattle.placing.proofs.Repeated.{repeated-append}
use Rattle.placing.proofs.Inner.{none_found, Found, is_found, way, columns-are, modified, inner-copied, rest-text}
use Rattle.room.specs.Room.{bindings_room}
use Rattle.room.proofs.Enough.{written-fits}
use Rattle.room.proofs.Bindings.{bindings-enough}
use Rattle.binding.specs.declared.judge.Judged.{Judged}
use Rattle.binding.specs.bridge.Judged.{all_below, at_below, JudgedAll}
use Rattle.binding.specs.bridge.Bound.{bound_at, Holds}
use Rattle.std.specs.Prelude.{Ok, Err}
use Rattle.answers.specs.declared.Refusal.TheVariants.{Malformed, NotUsable, Outside, OverBound, TooShort}

-- ---- the five pieces

pub bound-put : (s : Bytes) (inner end joins : ℕ) (cs : List Bytes) (ls : List Line)
    → (((take inner s ++ text_of (repeated joins (bytes "join") [])) ++ part inner end s) ++ text_of (map (values_line cs) ls)) ++ part end (length s) s ≡ bound_at s inner end joins cs ls
unfolding bound_at
bound-put s inner end joins cs ls =
    let A = take inner s in
    let J = text_of (repeated joins (bytes "join") []) in
    let X = part inner end s in
    let Y = text_of (map (values_line cs) ls) in
    let Z = drop end s in
    let z : part end (length s) s ≡ Z = take_all (length s - end) (drop end s) (simp length-drop (omega arith)) in
    ap (λ (b : Bytes). (((A ++ J) ++ X) ++ Y) ++ b) z
    ∙ append_assoc ((A ++ J) ++ X) Y Z
    ∙ append_assoc (A ++ J) X (Y ++ Z)
    ∙ append_assoc A J (X ++ (Y ++ Z))

-- ---- the outcome

-- positions are below the width exactly if they are inside
fields-inside : (cs fs : List Bytes) → all_below (length cs) fs ≡ inside cs (map position fs)
unfolding all inside
fields-inside cs [] = refl
fields-inside cs (f ∷ fs) = ap (λ (b : Bool). ltb (position f) (length cs) && b) (fields-inside cs fs)

below-inside : (cs : List Bytes) (ls : List Line) → all (at_below (length cs)) ls ≡ all (at_inside cs) ls
unfolding all at_below at_inside
below-inside cs [] = refl
below-inside cs (l ∷ ls) = ap₂ (λ (a b : Bool). cond (same (word l) (bytes "at")) a true && b) (fields-inside cs (drop 1 l)) (below-inside cs ls)

module _ (tree sets : Bytes) (p : Pattern) (xs : List BindingSet) (e : read_tree tree ≡ reads p) (f : read_sets sets ≡ reads xs) where
  pub not_found : from_project (lines_from tree 0) ≡ none → bindings_as_is tree sets ≡ written tree
  not_found n = bindings-not-found tree sets p xs e f (none_found tree p e n)

  module _ (line inner : ℕ) (w : Projects tree 0 line inner) where
    abbrev At : Projection
    At = Found tree p e line inner w

    by_tests : bindings_as_is tree sets ≡ refused_unless 3 (positions_inside At.columns xs) (refused_unless 7 (values_usable xs) (written (layout (pattern_with_bindings p xs))))
    unfolding bindings_as_is
    by_tests = rw (e, f, is_found tree p e line inner w)

    as-modified : (ys : List BindingSet) → pattern_with_bindings p ys ≡ modify_outermost_projection (λ cs q. joined_with_values cs q ys) p
    unfolding pattern_with_bindings joined_with_values
    as-modified [] = sym (found-same (λ cs q. joined_with_values cs q []) (way tree p e line inner w) refl)
    as-modified (y ∷ ys) = refl

    module _ (n : ℕ) (cs : List Bytes) (c : cs ≡ columns_on tree line) (width : length cs ≡ n) (j : Judged) (g : JudgedAll n (lines_from sets 0) j) where
      cs-are : cs ≡ At.columns
      cs-are = c ∙ columns-are tree p e line inner w

      inside_is : j.inside ≡ positions_inside At.columns xs
      inside_is =
          g.inside
          ∙ ap₂ (λ (k : ℕ) (ls : List Line). all (at_below k) ls) (sym width ∙ ap length cs-are) (sets-at sets xs f)
          ∙ below-inside At.columns (put_sets xs [])
          ∙ positions-lines At.columns xs

      usable-is : j.usable ≡ values_usable xs
      usable-is = g.usable ∙ ap (all row_usable) (sets-at sets xs f) ∙ usable-lines xs

      sets-is : j.sets ≡ length xs
      sets-is = g.sets ∙ ap sets_in (sets-at sets xs f) ∙ sets-in xs

      pub outside : (out : Bytes) → not j.inside ≡ true → Answered (bindings_as_is tree sets) out out (Err Outside)
      unfolding Reported
      outside out h = rw (by_tests, sym inside_is ∙ not-true j.inside h) (refl, refl, refl)

      module _ (yes : not j.inside ≡ false) where
        pub unusable : (out : Bytes) → not j.usable ≡ true → Answered (bindings_as_is tree sets) out out (Err NotUsable)
        unfolding Reported
        unusable out h = rw (by_tests, sym inside_is ∙ not-false j.inside yes, sym usable-is ∙ not-true j.usable h) (refl, refl, refl)

        module _ (can : not j.usable ≡ false) (end : ℕ) (x : EndsAt tree inner end) where
          abbrev Rest : List Line
          Rest = behind (way tree p e line inner w) []

          values-text : text_of (put At.inner (put_all_values At.columns xs Rest)) ≡ part inner end tree ++ (text_of (map (values_line At.columns) (put_sets xs [])) ++ drop end tree)
          values-text =
              ap (λ (ls : List Line). text_of (put At.inner ls)) (values-lines At.columns xs Rest)
              ∙ inner-copied tree p e line inner w end x (map (values_line At.columns) (put_sets xs []) ++ Rest)
              ∙ ap (λ (b : Bytes). part inner end tree ++ b)
              (text-append (map (values_line At.columns) (put_sets xs [])) Rest ∙ ap (λ (b : Bytes). text_of (map (values_line At.columns) (put_sets xs [])) ++ b) (rest-text tree p e line inner w end x))

          joined-text : text_of (put (joined_with_values At.columns At.inner xs) Rest) ≡ text_of (repeated (length xs) (bytes "join") []) ++ (part inner end tree ++ (text_of (map (values_line At.columns) (put_sets xs [])) ++ drop end tree))
          joined-text =
              ap text_of (joined-lines At.columns At.inner xs Rest ∙ repeated-append (length xs) (bytes "join") (put At.inner (put_all_values At.columns xs Rest)))
              ∙ text-append (repeated (length xs) (bytes "join") []) (put At.inner (put_all_values At.columns xs Rest))
              ∙ ap (λ (b : Bytes). text_of (repeated (length xs) (bytes "join") []) ++ b) values-text

          abbrev Answer : Bytes
          Answer = bound_at tree inner end j.sets cs (lines_from sets 0)

          bound-layout : layout (pattern_with_bindings p xs) ≡ Answer
          unfolding bound_at
          bound-layout =
              ap layout (as-modified xs)
              ∙ modified tree p e line inner w (λ cs q. joined_with_values cs q xs)
              ∙ ap (λ (b : Bytes). take inner tree ++ b) joined-text
              ∙ (λ i. take inner tree ++ (text_of (repeated (sym sets-is i) (bytes "join") []) ++ (part inner end tree ++ (text_of (map (values_line (sym cs-are i)) (sym (sets-at sets xs f) i)) ++ drop end tree))))

          bound : bindings_as_is tree sets ≡ written Answer
          bound = by_tests ∙ rw (sym inside_is ∙ not-false j.inside yes, sym usable-is ∙ not-false j.usable can) (ap written bound-layout)

          module _ (out : Bytes) (b : Bool) (h : Holds (length tree + 65 * length sets) (length Answer) (length out) b) where
            -- the answer is no longer than bindings can need
            fits : b ≡ true → min (length Answer) last ≤ length out
            unfolding bindings_room
            fits t = ⊎_elim (λ (m : length tree + 65 * length sets ≤ length out). let w = written-fits _ _ Answer (bindings-enough tree sets) bound in omega arith) (λ (m : min (length Answer) last ≤ length out). m) (h.yes t)

            measure : em (min (length Answer) last) [] ≡ puts Answer (em 0 [])
            measure = puts-past Answer 0 (min (length Answer) last) [] (omega arith) (omega arith) (omega arith)

            pub bindings-short : not b ≡ true → Answered (bindings_as_is tree sets) out out (Err TooShort)
            bindings-short i = answered _ _ out out (Err TooShort) bound (too_short _ out (min (length Answer) last) [] [] measure (h.no (not-true b i)))

            pub bindings-all : (size : ℕ) (out' : Bytes) → not b ≡ false → length out < last → em size out' ≡ puts Answer (em 0 out) → Answered (bindings_as_is tree sets) out out' (Ok size)
            bindings-all size out' i j k = answered _ _ out out' (Ok size) bound (all-written _ out (min (length Answer) last) [] [] measure size out' (fits (not-false b i)) j k)

-- ---- the room

pub sets-short : (s : Bytes) (xs : List BindingSet) → read_sets s ≡ reads xs → length s ≤ 16384
sets-short s xs e = let x = (sets-exactly s xs).0 e in subst (λ (b : Bytes). length b ≤ 16384) x.0 x.2.bytes

pub most-holds : (most size room : ℕ) → most ≤ room → Holds most size room true
most-holds most size room h = record { yes = λ t. inl h; no = λ t. let z : ◌≡◌ {A = ℕ} 0 1 = cc in absurd (omega arith) }

pub size_holds : (most room k : ℕ) (p o : Bytes) → em k o ≡ puts p (em 0 []) → Holds most (length p) room (leb k room)
size_holds most room k p o e =
    let m : k ≡ min (0 + length p) last = ap (λ (x : Em). x.at) e ∙ puts-at p (em 0 []) (omega arith) in
    record { yes = λ t. let l = leb-true k room t in inr (omega arith); no = λ t. let l = leb-false k room t in omega arith }

-- ---- a text that is refused

module _ (tree sets out : Bytes) where
  pub tree-malformed : read_tree tree ≡ refuses malformed → Answered (bindings_as_is tree sets) out out (Err Malformed)
  unfolding bindings_as_is Reported
  tree-malformed e = rw e (refl, refl, refl)

  pub tree_over : read_tree tree ≡ refuses over_bound → Answered (bindings_as_is tree sets) out out (Err OverBound)
  unfolding bindings_as_is Reported
  tree_over e = rw e (refl, refl, refl)

  module _ (p : Pattern) (r : read_tree tree ≡ reads p) where
    pub sets-malformed : read_sets sets ≡ refuses malformed → Answered (bindings_as_is tree sets) out out (Err Malformed)
    unfolding bindings_as_is Reported
    sets-malformed e = rw (r, e) (refl, refl, refl)

    pub sets_over : read_sets sets ≡ refuses over_bound → Answered (bindings_as_is tree sets) out out (Err OverBound)
    unfolding bindings_as_is Reported
    sets_over e = rw (r, e) (refl, refl, refl)
