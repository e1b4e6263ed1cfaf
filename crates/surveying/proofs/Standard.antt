-- The line `in` that the call scope writes is the standard's set in scope, each name once. Assumes nothing.
use Prim.Native.Nat.{ℕ}
use mathlib.Core.Path.{◌≡◌, refl, sym, ap, ◌∙◌}
use mathlib.Core.Bool.{true}
use mathlib.Core.List.{List, [], ◌∷◌}
use native.Mathlib.Omega.{arith}
use Rattle.text.specs.Text.{Bytes, text_of}
use Rattle.text.specs.Field.{is_var, is_iri}
use Rattle.text.specs.Word.{bytes}
use Rattle.algebra.specs.Tree.{Pattern, bgp, service}
use Rattle.algebra.specs.Valid.{mem, different}
use Rattle.algebra.specs.Reader.{Outcome as Reading, reads, refuses}
use Rattle.algebra.specs.Given.{read_given_tree}
use Rattle.algebra.proofs.Given.{tree-given}
use Rattle.answers.specs.Outcome.{written, then}
use Rattle.answers.proofs.Answers.{bytes_of}
use Rattle.scoping.specs.Sets.{Alike, keep, variables_of, triple_variables}
use Rattle.scoping.specs.Numbering.{in_scope_by_place, hidden_by_place}
use Rattle.scoping.specs.InScope.{in_scope, services_named}
use Rattle.scoping.proofs.Standard.{in-scope-standard}
use Rattle.scoping.proofs.Numbered.{numbered-in-scope, in-scope-once}
use Rattle.surveying.specs.Scope.{scope_text, scope_outcome}

-- where scope writes bytes, its text is a tree's, and the names of the line `in` are the set in scope by section 18.2.1 of this tree with its services named by IRIs
pub scope-standard : (tree b i : Bytes) → is_iri i ≡ true → scope_outcome tree ≡ written b
    → (p : Pattern) × (names hidden : List Bytes) × (read_given_tree tree ≡ reads p) × (b ≡ text_of ((bytes "in" ∷ names) ∷ (bytes "hid" ∷ hidden) ∷ []))
    × Alike names (in_scope (services_named i p)) × (different names ≡ true)
unfolding scope_outcome scope_text
scope-standard tree b i h e = go (read_given_tree tree) refl e
  where
    go : (o : Reading Pattern) → read_given_tree tree ≡ o → then o (λ p. written (scope_text p)) ≡ written b
        → (p : Pattern) × (names hidden : List Bytes) × (read_given_tree tree ≡ reads p) × (b ≡ text_of ((bytes "in" ∷ names) ∷ (bytes "hid" ∷ hidden) ∷ []))
        × Alike names (in_scope (services_named i p)) × (different names ≡ true)
    go (refuses n) r e = let z : ◌≡◌ {A = ℕ} 0 1 = cc in absurd (omega arith)
    go (reads p) r e = (
      p,
      in_scope_by_place p,
      hidden_by_place p,
      r,
      sym (bytes_of (scope_text p) b e),
      (λ v. numbered-in-scope p (tree-given tree p r).valid v ∙ ap (mem v) (in-scope-standard i h p)),
      in-scope-once p,
    )

-- ---- a service's variable that a triple has too is in scope, one that only names the service isn't

asked : Bytes → Pattern
asked v = service (bytes "?s") (bytes "0") (bgp (record { subj = v; pred = bytes "<p>"; obj = bytes "?o" } ∷ []))

named-and-bound : in_scope (services_named (bytes "<i>") (asked (bytes "?s"))) ≡ bytes "?s" ∷ bytes "?o" ∷ []
unfolding asked in_scope services_named triple_variables variables_of keep is_var
named-and-bound = refl

named-alone : in_scope (services_named (bytes "<i>") (asked (bytes "?a"))) ≡ bytes "?a" ∷ bytes "?o" ∷ []
unfolding asked in_scope services_named triple_variables variables_of keep is_var
named-alone = refl
