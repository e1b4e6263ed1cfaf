-- The theorem of the editions: the text of a select query that is not refused, read by the edition's grammar and translation, is the tree's algebra. Assumes nothing.
use mathlib.Core.Path.{◌≡◌, refl, ◌∙◌, ap, subst}
use mathlib.Core.List.{[]}
use mathlib.Core.Option.{Option, none, some}
use Prim.Native.Nat.{ℕ, suc, ◌*◌}
use native.Mathlib.Omega.{arith}
use lib.ListN.{length}
use Rattle.text.specs.Text.{Bytes}
use Rattle.algebra.specs.Reader.{Outcome as Reading, reads, refuses}
use Rattle.algebra.specs.Given.{read_given_query}
use Rattle.algebra.proofs.Given.{query-given}
use Rattle.answers.specs.Outcome.{written, then}
use Rattle.editions.specs.Outcome.{unless_refused, edition_outcome}
use Rattle.algebra.specs.Tree.{Pattern}
use Rattle.algebra.specs.Query.{Query}
use Rattle.algebra.specs.Valid.{Valid, ValidQuery}
use Rattle.editions.specs.Token.{Edition}
use Rattle.editions.specs.Translation.{mapped}
use Rattle.editions.specs.Grammar.{parse, translate}
use Rattle.editions.specs.Simplified.{simplified}
use Rattle.editions.specs.Spelling.{spell, spell_p}
use Rattle.editions.specs.Refusals.{Refusal, refusal, root}
use Rattle.editions.proofs.Refused.{refusal_p, tree-refused}
use Rattle.editions.proofs.Raw.{raw}
use Rattle.editions.proofs.Stacks.{root-back}
use Rattle.editions.proofs.Dropped.{dropped}
use Rattle.editions.proofs.Costs.{enough}
use Rattle.editions.proofs.Lexed.{lex-back, all_good}
use Rattle.editions.proofs.Good.{pattern-good}

parse-back : (ed : Edition) (p : Pattern) → Valid p → refusal_p ed p root ≡ none → parse ed (spell_p p []) ≡ some (raw p)
unfolding parse
parse-back ed p v h = rw (root-back ed p v h (8 * suc (length (spell_p p []))) (omega (arith, enough p [])))

pub translate-back : (ed : Edition) (q : Query) → ValidQuery q → refusal ed q ≡ none → translate ed (spell q) ≡ some (raw q.tree)
unfolding translate spell ValidQuery all_good
translate-back ed q v h =
    let n = tree-refused ed q h in
    rw (lex-back (spell_p q.tree []) (pattern-good ed q.tree root [] v.3 n refl), parse-back ed q.tree v.3 n)

-- both sides without joins with the empty pattern
pub text-stands-for-tree : (ed : Edition) (q : Query) → ValidQuery q → refusal ed q ≡ none → mapped simplified (translate ed (spell q)) ≡ some (simplified q.tree)
text-stands-for-tree ed q v h = ap (mapped simplified) (translate-back ed q v h) ∙ ap some (dropped q.tree)

-- the same of a call's texts: what it writes for a query's lines, read by the edition, is the algebra of the query that they lay out
pub written-stands-for-query : (ed : Edition) (s b : Bytes) → edition_outcome ed s ≡ written b → (q : Query) × (read_given_query s ≡ reads q) × (mapped simplified (translate ed b) ≡ some (simplified q.tree))
unfolding edition_outcome
written-stands-for-query ed s b e = go (read_given_query s) refl e
  where
    said : (q : Query) → read_given_query s ≡ reads q → (r : Option Refusal) → refusal ed q ≡ r → unless_refused r (spell q) ≡ written b → (q : Query) × (read_given_query s ≡ reads q) × (mapped simplified (translate ed b) ≡ some (simplified q.tree))
    said q a none n h = let i : spell q ≡ b = cc in (q, a, subst (λ b. mapped simplified (translate ed b) ≡ some (simplified q.tree)) i (text-stands-for-tree ed q (query-given s q a).valid n))
    said q a (some r) n h = let z : ◌≡◌ {A = ℕ} 0 1 = cc in absurd (omega arith)

    go : (o : Reading Query) → read_given_query s ≡ o → then o (λ q. unless_refused (refusal ed q) (spell q)) ≡ written b → (q : Query) × (read_given_query s ≡ reads q) × (mapped simplified (translate ed b) ≡ some (simplified q.tree))
    go (reads q) a h = said q a (refusal ed q) refl h
    go (refuses n) a h = let z : ◌≡◌ {A = ℕ} 0 1 = cc in absurd (omega arith)
