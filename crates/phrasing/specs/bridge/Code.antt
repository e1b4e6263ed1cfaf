-- Editions, places and verdicts as the code has them. Assumes nothing.
use Rattle.std.specs.Prelude.{Result, Ok, Err, ℕ, zero, suc, Bool, true, false}
use Rattle.std.proofs.Math.Option.{none, some}
use Rattle.answers.specs.declared.Refusal.{Refusal}
use Rattle.answers.specs.declared.Refusal.TheVariants.{Forbidden, Unsayable}
use Rattle.editions.specs.Token.{Edition as Grammar, sparql10, sparql11}
use Rattle.editions.specs.Refusals.{unsayable, forbidden, Verdict, Place as Standing, root, inner, under_slice, under_distinct, under_project}
use Rattle.phrasing.specs.declared.edition.Edition.{Edition}
use Rattle.phrasing.specs.declared.edition.Edition.TheVariants.{Sparql10, Sparql11}
use Rattle.phrasing.specs.declared.place.Place.{Place}
use Rattle.phrasing.specs.declared.place.Place.TheVariants.{Inner, Root, UnderDistinct, UnderProject, UnderSlice}

abbrev pub edition_at : Edition → Grammar
edition_at Sparql10 = sparql10
edition_at Sparql11 = sparql11

-- an edition by whether it is 1.1
abbrev pub edition_told : Bool → Grammar
edition_told true = sparql11
edition_told false = sparql10

abbrev pub place_at : Place → Standing
place_at Root = root
place_at Inner = inner
place_at UnderSlice = under_slice
place_at UnderDistinct = under_distinct
place_at UnderProject = under_project

-- a place by its number: 4 and any higher one is the last
abbrev pub place_told : ℕ → Standing
place_told zero = root
place_told (suc zero) = inner
place_told (suc (suc zero)) = under_slice
place_told (suc (suc (suc zero))) = under_distinct
place_told (suc (suc (suc (suc n)))) = under_project

-- nothing is refused, or why
unfoldable pub verdict_told : Verdict → Result (Unit {0}) Refusal
verdict_told none = Ok tt
verdict_told (some unsayable) = Err Unsayable
verdict_told (some forbidden) = Err Forbidden
