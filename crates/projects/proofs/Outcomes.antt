-- The ways out of the calls that join: refusals in the specification's order, and what is written. Assumes nothing.
use Prim.Native.Nat.{ℕ}
use mathlib.Core.Path.{◌≡◌, refl, sym, ap, ap₂, ◌∙◌}
use mathlib.Core.List.{List, [], ◌∷◌, ◌++◌}
use mathlib.Core.Bool.{Bool, true, false, not, ◌&&◌, true≢false, false≢true}
use mathlib.Core.Option.{Option, none, some}
use lib.ListN.{length, get_or}
use lib.Dec.{ltb}
use borrow.Author.Tests.{not-true, not-false}
use Rattle.text.specs.Text.{Bytes, Line, same, lines_from}
use Rattle.text.specs.Word.{bytes}
use Rattle.text.specs.Field.{given}
use Rattle.algebra.specs.Tree.{Pattern}
use Rattle.algebra.specs.Query.{Pair, joins, constants}
use Rattle.algebra.specs.Layout.{put, layout}
use Rattle.algebra.specs.Reader.{refuses, malformed, over_bound}
use Rattle.algebra.specs.Texts.{read_pairs}
use Rattle.algebra.specs.bridge.Answers.{Answer as Check}
use Rattle.answers.specs.Outcome.{written, Reported, Answered, refused_unless}
use Rattle.lists.specs.bridge.Pairs.{PairsChecked}
use Rattle.lists.proofs.Said.{said-malformed, said-over}
use Rattle.scoping.specs.Sets.{all}
use Rattle.scoping.specs.Premises.{inside, different_positions}
use Rattle.merging.specs.Sides.{Constant}
use Rattle.merging.specs.Request.{Projection, tree, as_project, read_joins, read_constants, join_positions, by_position, constants_in, positions, request, all_inside}
use Rattle.merging.specs.bridge.Twice.{none_twice}
use Rattle.merging.specs.bridge.Combined.{combined, may_combine, combine_trees}
use Rattle.merging.proofs.Given.{project-of}
use Rattle.merging.proofs.Combined.{sides-combined}
use Rattle.merging.proofs.Lines.{root-word}
use Rattle.merging.proofs.Lists.{sorted-test}
use Rattle.columns.specs.bridge.Listed.{positions_in}
use Rattle.sides.proofs.Sides.{first-false, neither}
use Rattle.projects.specs.bridge.Joining.{KnownTerms, TermsChecked, ListsChecked, combined_behind, joined_behind}
use Rattle.projects.proofs.Picks.{positions-are}
use Rattle.projects.proofs.Merged.{lefts-are, rights-are}
use Rattle.projects.proofs.Known.{good-terms, KnownJoins}
use Rattle.std.specs.Prelude.{Ok, Err}
use Rattle.algebra.specs.declared.Fault.TheVariants.{Malformed, OverBound}
use Rattle.answers.specs.declared.Refusal.TheVariants.{NoPairs, NotProject, Outside, Repeated}

-- ---- the checks of lists

module _ (a b : Bytes) where
  pub terms-malformed : read_pairs constants a ≡ refuses malformed → TermsChecked a b (Err Malformed)
  unfolding TermsChecked read_constants
  terms-malformed e k = rw e

  pub terms-over : read_pairs constants a ≡ refuses over_bound → TermsChecked a b (Err OverBound)
  unfolding TermsChecked read_constants
  terms-over e k = rw e

  second-malformed : KnownTerms a → read_pairs constants b ≡ refuses malformed → TermsChecked a b (Err Malformed)
  unfolding TermsChecked read_constants
  second-malformed t e k = rw (t.read, e)

  second-over : KnownTerms a → read_pairs constants b ≡ refuses over_bound → TermsChecked a b (Err OverBound)
  unfolding TermsChecked read_constants
  second-over t e k = rw (t.read, e)

  pub terms-second : (keys : List (List ℕ)) (r : Check) → KnownTerms a → PairsChecked constants b keys r → TermsChecked a b r
  unfolding TermsChecked
  terms-second keys (Ok n) t c = (t, good-terms b keys (Ok n) n c refl)
  terms-second keys (Err Malformed) t c = second-malformed t (said-malformed constants b keys (Err Malformed) c refl)
  terms-second keys (Err OverBound) t c = second-over t (said-over constants b keys (Err OverBound) c refl)

  module _ (pairs : Bytes) where
    pub lists-malformed : read_pairs joins pairs ≡ refuses malformed → ListsChecked pairs a b (Err Malformed)
    unfolding ListsChecked read_joins
    lists-malformed e k = rw e

    pub lists-over : read_pairs joins pairs ≡ refuses over_bound → ListsChecked pairs a b (Err OverBound)
    unfolding ListsChecked read_joins
    lists-over e k = rw e

    pub lists-rest : (r : Check) → KnownJoins pairs → TermsChecked a b r → ListsChecked pairs a b r
    unfolding ListsChecked TermsChecked
    lists-rest (Ok n) j t = record { js = j.list; joins = j.listed; joins_read = j.read; left = t.0; right = t.1 }
    lists-rest (Err Malformed) j t = λ k. rw j.read (t (k (join_positions j.list)))
    lists-rest (Err OverBound) j t = λ k. rw j.read (t (k (join_positions j.list)))

-- ---- positions

pub inside-sorted : (cs : List Bytes) (ks : List Pair) → inside cs (positions (by_position (constants_in ks))) ≡ inside cs (positions_in false ks)
unfolding inside
inside-sorted cs ks = over (by_position (constants_in ks)) ∙ sorted-test (λ k. ltb k.position (length cs)) (constants_in ks) ∙ sym (over (constants_in ks)) ∙ ap (all (λ i. ltb i (length cs))) (positions-are ks)
  where
    over : (xs : List Constant) → all (λ i. ltb i (length cs)) (positions xs) ≡ all (λ k. ltb k.position (length cs)) xs
    over [] = refl
    over (x ∷ xs) = ap (λ (t : Bool). ltb x.position (length cs) && t) (over xs)

all-inside-is : (x y : Projection) (js ks ls : List Pair) → all_inside (request x y (join_positions js) (by_position (constants_in ks)) (by_position (constants_in ls)))
    ≡ ((inside x.columns (positions_in false js) && inside y.columns (positions_in true js)) && (inside x.columns (positions_in false ks) && inside y.columns (positions_in false ls)))
unfolding all_inside
all-inside-is x y js ks ls = ap₂ ◌&&◌
    (ap₂ ◌&&◌ (ap (inside x.columns) (lefts-are js)) (ap (inside y.columns) (rights-are js)))
    (ap₂ ◌&&◌ (inside-sorted x.columns ks) (inside-sorted y.columns ls))

no-left : (a b c d : Bool) → (a && c) ≡ false → ((a && b) && (c && d)) ≡ false
no-left false b c d e = refl
no-left true true c d e = ap (λ (t : Bool). t && d) e
no-left true false c d e = refl

no-right : (a b c d : Bool) → (b && d) ≡ false → ((a && b) && (c && d)) ≡ false
no-right false b c d e = refl
no-right true false c d e = refl
no-right true true true d e = e
no-right true true false d e = refl

-- ---- two projects

none-twice-is : (js : List Pair) → none_twice (join_positions js) ≡ (different_positions (positions_in false js) && different_positions (positions_in true js))
unfolding none_twice
none-twice-is js = ap₂ (λ (a b : List ℕ). different_positions a && different_positions b) (lefts-are js) (rights-are js)

module _ (less : Bool) (head : Bytes) (x y : Projection) (js ks ls : List Pair) where
  refused-three : (out : Bytes) → all_inside (request x y (join_positions js) (by_position (constants_in ks)) (by_position (constants_in ls))) ≡ false → Answered (joined_behind less head x y js ks ls) out out (Err Outside)
  unfolding Reported
  refused-three out e = rw e (refl, refl, refl)

  pub left-outside : (out : Bytes) → (inside x.columns (positions_in false js) && inside x.columns (positions_in false ks)) ≡ false → Answered (joined_behind less head x y js ks ls) out out (Err Outside)
  left-outside out e = refused-three out (all-inside-is x y js ks ls ∙ no-left (inside x.columns (positions_in false js)) (inside y.columns (positions_in true js)) (inside x.columns (positions_in false ks)) (inside y.columns (positions_in false ls)) e)

  pub right-outside : (out : Bytes) → (inside y.columns (positions_in true js) && inside y.columns (positions_in false ls)) ≡ false → Answered (joined_behind less head x y js ks ls) out out (Err Outside)
  right-outside out e = refused-three out (all-inside-is x y js ks ls ∙ no-right (inside x.columns (positions_in false js)) (inside y.columns (positions_in true js)) (inside x.columns (positions_in false ks)) (inside y.columns (positions_in false ls)) e)

  -- 10, where nothing is outside
  module _ (a : inside x.columns (positions_in false js) ≡ true) (b : inside y.columns (positions_in true js) ≡ true) (c : inside x.columns (positions_in false ks) ≡ true) (d : inside y.columns (positions_in false ls) ≡ true) where
    repeated : (out : Bytes) → (different_positions (positions_in false js) && different_positions (positions_in true js)) ≡ false → Answered (joined_behind less head x y js ks ls) out out (Err Repeated)
    unfolding Reported
    repeated out e = rw (all-inside-is x y js ks ls ∙ ap₂ ◌&&◌ (ap₂ ◌&&◌ a b) (ap₂ ◌&&◌ c d), none-twice-is js ∙ e) (refl, refl, refl)

    pub left-repeated : (out : Bytes) → different_positions (positions_in false js) ≡ false → Answered (joined_behind less head x y js ks ls) out out (Err Repeated)
    left-repeated out e = repeated out (first-false (different_positions (positions_in false js)) (different_positions (positions_in true js)) e)

    pub right-repeated : (out : Bytes) → different_positions (positions_in true js) ≡ false → Answered (joined_behind less head x y js ks ls) out out (Err Repeated)
    right-repeated out e = repeated out (neither (different_positions (positions_in false js)) (different_positions (positions_in true js)) e)

  pub joined_is : inside x.columns (positions_in false js) ≡ true → inside y.columns (positions_in true js) ≡ true → inside x.columns (positions_in false ks) ≡ true → inside y.columns (positions_in false ls) ≡ true
      → different_positions (positions_in false js) ≡ true → different_positions (positions_in true js) ≡ true
      → joined_behind less head x y js ks ls ≡ written (head ++ layout (combined less (request x y (join_positions js) (by_position (constants_in ks)) (by_position (constants_in ls)))))
  joined_is a b c d m n = rw (all-inside-is x y js ks ls ∙ ap₂ ◌&&◌ (ap₂ ◌&&◌ a b) (ap₂ ◌&&◌ c d), none-twice-is js ∙ ap₂ ◌&&◌ m n)

-- ---- two trees

-- a root that the code finds to be no project, or a project
module _ (s : Bytes) (from : ℕ) (p : Pattern) (lines : lines_from s from ≡ put p []) (r : Bool) (e : r ≡ same (get_or (get_or (lines_from s from) 0 []) 0 []) (bytes "project")) where
  root-given : r ≡ given (as_project p)
  root-given = e ∙ ap (λ (ls : List Line). same (get_or (get_or ls 0 []) 0 []) (bytes "project")) lines ∙ sym (root-word p [])

  pub no-project : not r ≡ true → as_project p ≡ none
  no-project h = go (as_project p) (sym root-given ∙ not-true r h)
    where
      go : (o : Option Projection) → given o ≡ false → o ≡ none
      go none q = refl
      go (some x) q = absurd (true≢false q)

  pub a-project : not r ≡ false → (x : Projection) × (as_project p ≡ some x) × (p ≡ tree x)
  a-project h = go (as_project p) refl (sym root-given ∙ not-false r h)
    where
      go : (o : Option Projection) → as_project p ≡ o → given o ≡ true → (x : Projection) × (as_project p ≡ some x) × (p ≡ tree x)
      go none q z = absurd (false≢true z)
      go (some x) q z = (x, q, project-of p x q)

module _ (less : Bool) (head : Bytes) (p q : Pattern) (js ks ls : List Pair) where
  pub left-no-project : (out : Bytes) → as_project p ≡ none → Answered (combined_behind less head p q js ks ls) out out (Err NotProject)
  unfolding Reported combine_trees
  left-no-project out e = rw e (refl, refl, refl)

  pub right-no-project : (out : Bytes) (x : Projection) → as_project p ≡ some x → as_project q ≡ none → Answered (combined_behind less head p q js ks ls) out out (Err NotProject)
  unfolding Reported combine_trees
  right-no-project out x e f = rw (e, f) (refl, refl, refl)

  pub no_pairs : (out : Bytes) (x y : Projection) → as_project p ≡ some x → as_project q ≡ some y → may_combine less (join_positions js) ≡ false → Answered (combined_behind less head p q js ks ls) out out (Err NoPairs)
  unfolding Reported combine_trees
  no_pairs out x y e f n = rw (e, f, n) (refl, refl, refl)

  pub combined-as : (x y : Projection) → as_project p ≡ some x → as_project q ≡ some y → may_combine less (join_positions js) ≡ true → combined_behind less head p q js ks ls ≡ joined_behind less head x y js ks ls
  unfolding combine_trees
  combined-as x y e f n = rw (e, f, n)
      (ap (refused_unless 3 (all_inside (request x y (join_positions js) (by_position (constants_in ks)) (by_position (constants_in ls))))) (sides-combined less (request x y (join_positions js) (by_position (constants_in ks)) (by_position (constants_in ls))) (λ t. written (head ++ layout t))))
