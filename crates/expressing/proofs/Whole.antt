-- The call filters, from places in its texts to the bytes. Assumes nothing.
use Prim.Native.Nat.{ℕ, zero, suc, ◌+◌, ◌-◌, ◌*◌, ◌≤◌, ◌<◌, min}
use mathlib.Core.Path.{◌≡◌, refl, sym, ap, ap₂, subst, ◌∙◌}
use mathlib.Core.Bool.{Bool, true, false, not, ◌&&◌}
use mathlib.Core.List.{List, [], ◌∷◌, ◌++◌, append_assoc}
use mathlib.Core.Option.{none}
use native.Mathlib.Omega.{arith}
use lib.ListN.{length, take, drop, length-drop, length-append}
use lib.Seq.{take_all, length-take-le}
use borrow.Author.Tests.{not-true, not-false}
use Rattle.text.specs.Text.{Bytes, Line, ended, text_of, part, lines_from}
use Rattle.text.specs.Word.{bytes}
use Rattle.text.specs.Field.{given}
use Rattle.algebra.specs.Tree.{Pattern, Expression}
use Rattle.algebra.specs.Query.{Filter}
use Rattle.algebra.specs.Layout.{put, put_filters, layout}
use Rattle.algebra.specs.Reader.{reads, refuses, malformed, over_bound}
use Rattle.algebra.specs.Texts.{read_tree, read_filters}
use Rattle.algebra.specs.Tally.{bounds}
use Rattle.emit.specs.bridge.Emit.{Em, em, last, puts}
use Rattle.emit.proofs.Laws.{puts-at, puts-past}
use Rattle.answers.specs.Outcome.{written, refused_unless}
use Rattle.answers.specs.Both.{ReportedBoth, AnsweredBoth}
use Rattle.answers.proofs.Answers.{too_short, all-written}
use Rattle.answers.proofs.Both.{both-refused, both-list-short, both-written}
use Rattle.scoping.specs.Sets.{all}
use Rattle.merging.specs.Request.{Projection}
use Rattle.heads.proofs.Cut.{text-append}
use Rattle.negating.specs.bridge.Lines.{from_project, Projects}
use Rattle.negating.proofs.TreeLines.{behind}
use Rattle.filtering.specs.bridge.SetLines.{repeated}
use Rattle.filtering.specs.bridge.FilterLines.{ref_inside, Placed}
use Rattle.filtering.specs.Filters.{expressions, filtered, pattern_with_filters, references_inside}
use Rattle.filtering.specs.NotPlaced.{numbers_failing}
use Rattle.filtering.specs.bridge.AsIs.{filters_as_is, not_placed_as_is}
use Rattle.filtering.proofs.FilterLines.{references-lines}
use Rattle.filtering.proofs.PlacedLines.{put_expressions, placed-lines, found_expression, found_expressions, found_all, PlacedAs}
use Rattle.filtering.proofs.ListedLines.{lines-placed, list-found, list-not-found}
use Rattle.filtering.proofs.Theorem.{found-same, filters-not-found}
use Rattle.filtering.proofs.Read.{tree-text, filters-at}
use Rattle.placing.specs.bridge.Fields.{columns_on}
use Rattle.placing.specs.bridge.Ends.{EndsAt}
use Rattle.placing.proofs.Repeated.{repeated-append}
use Rattle.placing.proofs.Inner.{none_found, Found, is_found, way, columns-are, modified, inner-copied, rest-text}
use Rattle.expressing.specs.declared.place.Noted.{Noted}
use Rattle.expressing.specs.bridge.Walks.{lines_at, filters_from, Notes}
use Rattle.expressing.specs.bridge.Filtered.{ref_below, filtered_at}
use Rattle.std.specs.Prelude.{Ok, Err}
use Rattle.answers.specs.declared.Refusal.TheVariants.{ListTooShort, Malformed, Outside, OverBound, TooShort}

-- ---- the six pieces

pub filtered-put : (s : Bytes) (inner end ands : ℕ) (ls : List Line)
    → ((((take inner s ++ bytes "filter\n") ++ part inner end s) ++ text_of (repeated ands (bytes "and") [])) ++ text_of ls) ++ part end (length s) s ≡ filtered_at s inner end ands ls
unfolding filtered_at
filtered-put s inner end ands ls =
    let T = take inner s in
    let F = bytes "filter\n" in
    let X = part inner end s in
    let A = text_of (repeated ands (bytes "and") []) in
    let L = text_of ls in
    let Z = drop end s in
    let z : part end (length s) s ≡ Z = take_all (length s - end) (drop end s) (simp length-drop (omega arith)) in
    ap (λ (b : Bytes). ((((T ++ F) ++ X) ++ A) ++ L) ++ b) z
    ∙ append_assoc (((T ++ F) ++ X) ++ A) L Z
    ∙ append_assoc ((T ++ F) ++ X) A (L ++ Z)
    ∙ append_assoc (T ++ F) X (A ++ (L ++ Z))
    ∙ append_assoc T F (X ++ (A ++ (L ++ Z)))

-- ---- how long they are

and-lines : (n : ℕ) → length (text_of (repeated n (bytes "and") [])) ≡ n * 4
unfolding text_of ended repeated
and-lines zero = refl
and-lines (suc n) = omega (arith, and-lines n)

answer-length : (s : Bytes) (inner end ands : ℕ) (ls : List Line) → inner ≤ end → end ≤ length s → length (filtered_at s inner end ands ls) ≡ length s + 7 + ands * 4 + length (text_of ls)
unfolding filtered_at
answer-length s inner end ands ls low high =
    let A = text_of (repeated ands (bytes "and") []) in
    let X = part inner end s in
    let a : length (take inner s) ≡ inner = length-take-le inner s (omega arith) in
    let b : length X ≡ end - inner = length-take-le (end - inner) (drop inner s) (simp length-drop (omega arith)) in
    let c = and-lines ands in
    let d = length-drop end s in
    let p = length-append (take inner s) (bytes "filter\n" ++ (X ++ (A ++ (text_of ls ++ drop end s)))) in
    let q = length-append X (A ++ (text_of ls ++ drop end s)) in
    let r = length-append A (text_of ls ++ drop end s) in
    let t = length-append (text_of ls) (drop end s) in
    omega arith

-- ---- what is written

module _ (s : Bytes) (inner end : ℕ) (ls : List Line) (ands size : ℕ) (low : inner ≤ end) (high : end ≤ length s) (m : em size [] ≡ puts (text_of ls) (em 0 [])) (need : ℕ) (is : need ≡ min (length s + 7 + ands * 4 + size) last) where
  abbrev Text : Bytes
  Text = filtered_at s inner end ands ls

  measure : em need [] ≡ puts Text (em 0 [])
  measure =
      let a = answer-length s inner end ands ls low high in
      let k : size ≡ min (0 + length (text_of ls)) last = ap (λ (e : Em). e.at) m ∙ puts-at (text_of ls) (em 0 []) (omega arith) in
      puts-past Text 0 need [] (omega arith) (omega arith) (omega arith)

  module _ (out : Bytes) (xs lent : List ℕ) where
    pub listed-short : length out < need → AnsweredBoth (written Text) xs out out lent lent (Err TooShort) 0
    listed-short h = both-refused (written Text) xs out lent (Err TooShort) (λ e. omega arith) (too_short Text out need [] [] measure h)

    module _ (fits : need ≤ length out) (long : length out < last) where
      text-fits : length Text ≤ length out
      text-fits =
          let a = answer-length s inner end ands ls low high in
          let k : size ≡ min (0 + length (text_of ls)) last = ap (λ (e : Em). e.at) m ∙ puts-at (text_of ls) (em 0 []) (omega arith) in
          omega arith

      pub list-short : length lent < length xs → AnsweredBoth (written Text) xs out out lent lent (Err ListTooShort) 0
      list-short h = both-list-short (written Text) xs out lent Text refl text-fits h

      pub listed-all : length xs ≤ length lent → (n : ℕ) (out' : Bytes) (left : List ℕ) → em n out' ≡ puts Text (em 0 out) → left ≡ xs ++ drop (length xs) lent → AnsweredBoth (written Text) xs out out' lent left (Ok n) (length xs)
      listed-all h n out' left e l = both-written (written Text) xs out lent Text refl out' left (Ok n) text-fits h (all-written Text out need [] [] measure n out' fits long e) l

-- ---- the outcome

empty : (es : List Expression) → length es ≡ 0 → es ≡ []
empty [] h = refl
empty (e ∷ es) h = absurd (omega arith)

below-inside : (cs : List Bytes) (ls : List Line) → all (ref_below (length cs)) ls ≡ all (ref_inside cs) ls
unfolding all ref_below ref_inside
below-inside cs [] = refl
below-inside cs (l ∷ ls) = ap (λ (b : Bool). ref_inside cs l && b) (below-inside cs ls)

-- where no projection is found, or no filter is placed
module _ (tree filters : Bytes) (p : Pattern) (fs : List Filter) (e : read_tree tree ≡ reads p) (f : read_filters filters ≡ reads fs) where
  pub not_found : from_project (lines_from tree 0) ≡ none → filters_as_is tree filters ≡ written tree
  not_found n = filters-not-found tree filters p fs e f (none_found tree p e n)

  pub all_listed : from_project (lines_from tree 0) ≡ none → (cs : List Bytes) (starts numbers : List ℕ) (j : Noted) → Notes false cs filters starts numbers j → not_placed_as_is tree filters ≡ take j.others numbers
  unfolding not_placed_as_is
  all_listed n cs starts numbers j k = list-not-found (read_tree tree) filters p fs e f (none_found tree p e n) cs ∙ sym k.others

  module _ (line inner : ℕ) (w : Projects tree 0 line inner) where
    abbrev At : Projection
    At = Found tree p e line inner w

    by_tests : filters_as_is tree filters ≡ refused_unless 3 (all (references_inside At.columns) fs) (written (layout (pattern_with_filters p fs).pattern))
    unfolding filters_as_is
    by_tests = rw (e, f, is_found tree p e line inner w)

    module _ (n : ℕ) (cs : List Bytes) (c : cs ≡ columns_on tree line) (width : length cs ≡ n) (b : Bool) (g : b ≡ all (ref_below n) (lines_from filters 0)) where
      cs-are : cs ≡ At.columns
      cs-are = c ∙ columns-are tree p e line inner w

      inside_is : b ≡ all (references_inside At.columns) fs
      inside_is =
          g
          ∙ ap₂ (λ (k : ℕ) (ls : List Line). all (ref_below k) ls) (sym width ∙ ap length cs-are) (filters-at filters fs f)
          ∙ below-inside At.columns (put_filters fs [])
          ∙ references-lines At.columns fs

      pub outside : (out : Bytes) (lent : List ℕ) → not b ≡ true → AnsweredBoth (filters_as_is tree filters) (not_placed_as_is tree filters) out out lent lent (Err Outside) 0
      unfolding ReportedBoth
      outside out lent h = rw (by_tests, sym inside_is ∙ not-true b h) (refl, refl, refl, refl, refl)

      module _ (yes : not b ≡ false) (starts numbers : List ℕ) (j : Noted) (k : Notes true cs filters starts numbers j) where
        written_is : filters_as_is tree filters ≡ written (layout (pattern_with_filters p fs).pattern)
        written_is = by_tests ∙ rw (sym inside_is ∙ not-false b yes)

        abbrev Put : Placed
        Put = filters_from true cs filters 0 bounds.entries 0

        placed-as : PlacedAs Put (expressions At.columns fs) Put.others
        placed-as =
            let x = subst (λ (ds : List Bytes). PlacedAs (filters_from true cs filters 0 bounds.entries 0) (found_expressions true ds fs) (numbers_failing (λ h. given (found_expression true ds h)) 0 fs)) cs-are (lines-placed true cs filters fs f) in
            record { many = x.many ∙ ap length (found_all At.columns fs); lines = λ u. x.lines u ∙ ap (λ (es : List Expression). put_expressions es u) (found_all At.columns fs); others = refl }

        -- the others are listed
        pub others-listed : not_placed_as_is tree filters ≡ take j.others numbers
        unfolding not_placed_as_is
        others-listed =
            list-found (read_tree tree) filters p fs e f At (is_found tree p e line inner w)
            ∙ ap (λ (ds : List Bytes). (filters_from true ds filters 0 bounds.entries 0).others) (sym cs-are)
            ∙ sym k.others

        many_is : j.many ≡ length (expressions At.columns fs)
        many_is = k.many ∙ placed-as.many

        -- none is placed
        pub none-placed : j.many ≡ 0 → filters_as_is tree filters ≡ written tree
        unfolding pattern_with_filters filtered
        none-placed z =
            written_is
            ∙ ap (λ (q : Pattern). written (layout q)) (found-same (λ cs q. filtered (expressions cs fs) q) (way tree p e line inner w) (ap (λ (es : List Expression). filtered es At.inner) (empty (expressions At.columns fs) (sym many_is ∙ z))))
            ∙ ap written (tree-text tree p e)

        -- how long the expressions at the noted places are
        pub noted-size : em j.size [] ≡ puts (text_of (lines_at cs filters (take j.many starts))) (em 0 [])
        noted-size = k.size ∙ ap (λ (ls : List Line). puts (text_of ls) (em 0 [])) (sym k.lines)

        module _ (some-placed : j.many ≡ 0 → ⊥) (end : ℕ) (o : EndsAt tree inner end) where
          abbrev Rest : List Line
          Rest = behind (way tree p e line inner w) []

          inner-text : (es : List Expression) → PlacedAs Put es Put.others → j.many ≡ length es → text_of (put (filtered es At.inner) Rest) ≡ bytes "filter\n" ++ (part inner end tree ++ (text_of (repeated (j.many - 1) (bytes "and") []) ++ (text_of Put.lines ++ drop end tree)))
          unfolding text_of ended
          inner-text [] a q = absurd (some-placed q)
          inner-text (d ∷ ds) a q =
              let i : length ds ≡ j.many - 1 = omega arith in
              ap text_of (placed-lines d ds At.inner Rest)
              ∙ ap (λ (t : Bytes). bytes "filter\n" ++ t)
              (inner-copied tree p e line inner w end o (repeated (length ds) (bytes "and") (put_expressions (d ∷ ds) Rest))
              ∙ ap (λ (t : Bytes). part inner end tree ++ t)
              (ap text_of (repeated-append (length ds) (bytes "and") (put_expressions (d ∷ ds) Rest))
              ∙ text-append (repeated (length ds) (bytes "and") []) (put_expressions (d ∷ ds) Rest)
              ∙ ap₂ (λ (m : ℕ) (t : Bytes). text_of (repeated m (bytes "and") []) ++ t) i
              (ap text_of (sym (a.lines Rest)) ∙ text-append Put.lines Rest ∙ ap (λ (t : Bytes). text_of Put.lines ++ t) (rest-text tree p e line inner w end o))))

          -- the expressions at the noted places, under as many lines `and` as there are places but one
          pub some-placed-is : (m : ℕ) → m ≡ j.many → filters_as_is tree filters ≡ written (filtered_at tree inner end (m - 1) (lines_at cs filters (take j.many starts)))
          unfolding pattern_with_filters filtered_at
          some-placed-is m q =
              written_is
              ∙ ap written (modified tree p e line inner w (λ cs q. filtered (expressions cs fs) q)
              ∙ ap (λ (t : Bytes). take inner tree ++ t) (inner-text (expressions At.columns fs) placed-as many_is)
              ∙ ap₂ (λ (i : ℕ) (ls : List Line). take inner tree ++ (bytes "filter\n" ++ (part inner end tree ++ (text_of (repeated (i - 1) (bytes "and") []) ++ (text_of ls ++ drop end tree))))) (sym q) (sym k.lines))

-- ---- a text that is refused

module _ (tree filters out : Bytes) (lent : List ℕ) where
  pub tree-malformed : read_tree tree ≡ refuses malformed → AnsweredBoth (filters_as_is tree filters) (not_placed_as_is tree filters) out out lent lent (Err Malformed) 0
  unfolding filters_as_is ReportedBoth
  tree-malformed e = rw e (refl, refl, refl, refl, refl)

  pub tree_over : read_tree tree ≡ refuses over_bound → AnsweredBoth (filters_as_is tree filters) (not_placed_as_is tree filters) out out lent lent (Err OverBound) 0
  unfolding filters_as_is ReportedBoth
  tree_over e = rw e (refl, refl, refl, refl, refl)

  module _ (p : Pattern) (r : read_tree tree ≡ reads p) where
    pub filters-malformed : read_filters filters ≡ refuses malformed → AnsweredBoth (filters_as_is tree filters) (not_placed_as_is tree filters) out out lent lent (Err Malformed) 0
    unfolding filters_as_is ReportedBoth
    filters-malformed e = rw (r, e) (refl, refl, refl, refl, refl)

    pub filters-over : read_filters filters ≡ refuses over_bound → AnsweredBoth (filters_as_is tree filters) (not_placed_as_is tree filters) out out lent lent (Err OverBound) 0
    unfolding filters_as_is ReportedBoth
    filters-over e = rw (r, e) (refl, refl, refl, refl, refl)
