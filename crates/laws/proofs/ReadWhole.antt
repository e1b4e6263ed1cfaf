-- A text that one line reader goes over, its head line and then its tree: the run of the whole text, accepted or refused. Assumes nothing.
use Prim.Native.Nat.{ℕ, ◌≤◌}
use mathlib.Core.Path.{◌≡◌, refl}
use mathlib.Core.List.{List, [], ◌∷◌}
use mathlib.Core.Bool.{Bool, true, false}
use lib.ListN.{length}
use lib.Dec.{ltb}
use Rattle.std.specs.Prelude.{Ok, Err, IfOk, MatchResult}
use Rattle.text.specs.Text.{Bytes}
use Rattle.algebra.specs.Tally.{bounds}
use Rattle.algebra.specs.declared.Fault.{Fault}
use Rattle.algebra.specs.bridge.Machine.{want, done, Check, bad, check_text}
use Rattle.words.specs.bridge.Code.{sort_at}
use Rattle.names.specs.bridge.Names.{starts_of, sizes_of, HoldsIn}
use Rattle.checking.specs.declared.place.Place.{Place}
use Rattle.checking.specs.bridge.Run.{Reached, refusal, Started, Went}
use Rattle.checking.specs.bridge.Walks.{Reads, ReadTo}
use Rattle.checking.proofs.ReadLaw.{one-read, head-refused, tree-refused}

module _ (s : Bytes) (words t : List (List ℕ)) (h : List ℕ) (v b : List (List ℕ)) (short : length s ≤ 16384) (none : HoldsIn s t h 0 []) (p0 : Place) (st : Started p0) (sort level : ℕ) (t₁ : List (List ℕ)) (h₁ : List ℕ) (v₁ b₁ t' : List (List ℕ)) (h' : List ℕ) (v' b' : List (List ℕ)) where
  abbrev text : Check
  text = check_text bounds done (want (sort_at sort) level 0 ∷ []) s

  -- where the check of the head line reached a place, the tree was checked from there on to r; where it met a fault, so did r
  abbrev pub Behind : Reached → Reached → Type 0
  Behind m r = MatchResult m (λ p. Reads false s words t₁ h₁ v₁ b₁ p sort level t' h' v' b' r) (λ f. r ≡ Err f)

  -- the run of the whole text reached what r is, a place or a fault, and a place was read to from the first line on
  abbrev pub Whole : Reached → Type 0
  Whole r = Went s (starts_of t') (sizes_of t') h' done [] text r × IfOk r (λ q. (left : Bool) → left ≡ ltb q.cursor.at (length s) → ReadTo s words t v b t' h' v' b' sort level q left)

  refused : (f : Fault) → text ≡ bad (refusal f) → Whole (Err f)
  unfolding Went
  refused f e = (e, tt)

  pub one-read-whole : (m r : Reached) → Reads true s words t h v b p0 sort level t₁ h₁ v₁ b₁ m → Behind m r → Whole r
  one-read-whole (Ok p) (Ok q) head tree =
      let read = one-read s words t h v b short none p0 st sort level t₁ h₁ v₁ b₁ p head t' h' v' b' q tree in
      ((read (ltb q.cursor.at (length s)) refl).went, read)
  one-read-whole (Ok p) (Err f) head tree = refused f (tree-refused s words t h v b short none p0 st sort level t₁ h₁ v₁ b₁ p head t' h' v' b' f tree)
  one-read-whole (Err f) r head same = rw same (refused f (head-refused s words t h v b short none p0 st sort level t₁ h₁ v₁ b₁ f head))
