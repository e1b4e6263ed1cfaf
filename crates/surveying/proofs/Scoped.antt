-- The call scope, from the flags of its names to its two lines. Assumes nothing.
use Prim.Native.Nat.{ℕ}
use mathlib.Core.Path.{◌≡◌, refl, sym, ap, ◌∙◌}
use mathlib.Core.List.{List, [], ◌∷◌}
use lib.ListN.{length, replicate}
use Rattle.text.specs.Text.{Bytes, text_of}
use Rattle.text.specs.Word.{bytes}
use Rattle.algebra.specs.Tree.{Pattern}
use Rattle.algebra.specs.Reader.{refuses, malformed, over_bound}
use Rattle.algebra.specs.Texts.{read_tree}
use Rattle.names.specs.bridge.Names.{listing}
use Rattle.scoping.specs.bridge.Places.{visible, places}
use Rattle.scoping.specs.Numbering.{by_place}
use Rattle.scoping.specs.bridge.Sets.{Once}
use Rattle.scoping.specs.bridge.Spots.{Spot}
use Rattle.lines.specs.bridge.Spotted.{spots_of}
use Rattle.scoping.specs.bridge.Flagged.{chosen}
use Rattle.walking.specs.bridge.Flags.{flag_all}
use Rattle.walking.specs.bridge.Code.{Inside}
use Rattle.walking.specs.bridge.Rewritten.{flag_spots}
use Rattle.walking.proofs.Noted.{spotted-inside, flagged-tree}
use Rattle.answers.specs.Outcome.{Answer, written, Reported, Answered}
use Rattle.surveying.specs.Scope.{scope_text}
use Rattle.surveying.specs.bridge.AsIs.{scope_as_is}
use Rattle.surveying.specs.bridge.Code.{Surveyed, chosen_text}
use Rattle.surveying.proofs.Tables.{known-valid, known-depth, known-few, known-names, known-named, known-lines}
use Rattle.walking.proofs.Chosen.{chosen-in-scope, chosen-hidden}
use Rattle.answers.proofs.Answers.{answered}
use Rattle.std.specs.Prelude.{Err}
use Rattle.answers.specs.declared.Refusal.TheVariants.{Malformed, OverBound}

module _ (s : Bytes) (a l : List ℕ) (n : ℕ) (spots : List (List ℕ)) (k : ℕ) (x : Surveyed s a l n spots k) where
  abbrev pattern : Pattern
  pattern = x.known.pattern

  module _ (flags : List ℕ) (noted : (ns : List Bytes) → Once ns → Inside (length ns) spots k → flags ≡ flag_spots ns (spots_of ns spots k) (replicate 2048 0)) where
    flags-are : flags ≡ flag_all (by_place pattern) (places pattern visible) (replicate 2048 0)
    flags-are =
        noted (listing s a l n) (known-named s a l x.hints n x.known).once (spotted-inside x.noted.kept)
        ∙ ap (λ (zs : List Spot). flag_spots (listing s a l n) zs (replicate 2048 0)) x.noted.kept.are
        ∙ flagged-tree s 0 (listing s a l n) spots k x.noted pattern (known-lines s a l x.hints n x.known) (known-valid s a l x.hints n x.known) (known-depth s a l x.hints n x.known) (replicate 2048 0)
        ∙ ap (λ (ns : List Bytes). flag_all ns (places pattern visible) (replicate 2048 0)) (known-names s a l x.hints n x.known)

    text-is : chosen_text flags (listing s a l n) ≡ scope_text pattern
    unfolding chosen_text scope_text
    text-is =
        let v = known-valid s a l x.hints n x.known in
        let few = known-few s a l x.hints n x.known in
        (λ i. text_of ((bytes "in" ∷ chosen 0 (flags-are i) (known-names s a l x.hints n x.known i)) ∷ (bytes "hid" ∷ chosen 1024 (flags-are i) (known-names s a l x.hints n x.known i)) ∷ []))
        ∙ (λ i. text_of ((bytes "in" ∷ chosen-in-scope pattern v few i) ∷ (bytes "hid" ∷ chosen-hidden pattern v few i) ∷ []))

    outcome-is : scope_as_is s ≡ written (chosen_text flags (listing s a l n))
    unfolding scope_as_is
    outcome-is = rw x.known.read (ap written (sym text-is))

    pub scope-answered : (out out' : Bytes) (r : Answer) → Answered (written (chosen_text flags (listing s a l n))) out out' r → Answered (scope_as_is s) out out' r
    scope-answered out out' r h = answered _ _ out out' r outcome-is h

-- a tree that is refused
pub scope-malformed : (s out : Bytes) → read_tree s ≡ refuses malformed → Answered (scope_as_is s) out out (Err Malformed)
unfolding scope_as_is Reported
scope-malformed s out e = rw e (refl, refl, refl)

pub scope-over : (s out : Bytes) → read_tree s ≡ refuses over_bound → Answered (scope_as_is s) out out (Err OverBound)
unfolding scope_as_is Reported
scope-over s out e = rw e (refl, refl, refl)
