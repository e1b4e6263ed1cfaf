-- A tree whose variables and lines were noted, and its variables renamed. Assumes nothing.
use Prim.Native.Nat.{ℕ, ◌*◌, ◌≤◌, zero-le}
use mathlib.Core.Path.{◌≡◌, sym, subst}
use mathlib.Core.List.{List}
use native.Mathlib.Nat.{le_refl}
use lib.ListN.{length, drop}
use Rattle.text.specs.Text.{Bytes}
use Rattle.algebra.specs.Tree.{Pattern}
use Rattle.words.specs.bridge.Words.{Worded}
use Rattle.algebra.specs.Texts.{read_tree}
use Rattle.reading.specs.bridge.Variables.{tree_names}
use Rattle.reading.specs.bridge.Charted.{tree_start, Charted}
use Rattle.names.specs.bridge.Names.{listing}
use Rattle.scoping.specs.bridge.Sets.{Once}
use Rattle.walking.specs.bridge.Code.{Inside, Marked}
use Rattle.descending.specs.bridge.Renamed.{Renamed, Shaped}
use Rattle.walking.proofs.Remarked.{renamed-marked, renamed-inside, renamed-stands}
use Rattle.lines.specs.bridge.Noded.{Roomy}
use Rattle.lines.specs.bridge.Spotted.{spots_of}
use Rattle.walking.specs.bridge.Rewritten.{Stands}
use Rattle.walking.proofs.Noted.{shaped-tree}
use Rattle.surveying.proofs.Tables.{known-named, known-lines, known-valid, known-depth, surveyed, surveyed-high, surveyed-within, surveyed-stands, good-notes}
use Rattle.renaming.specs.bridge.Code.{Recorded, Renaming}
use Rattle.checking.specs.bridge.Walks.{counts, Noting}
use Rattle.std.specs.Prelude.{Ok}

-- what put_renamed asks for
pub renaming-ready : (s : Bytes) (a l : List ℕ) (n : ℕ) (spots : List (List ℕ)) (k : ℕ) (spans : List ℕ) → Renaming s a l n spots k spans
    → (n ≤ 1024) × Once (listing s a l n) × Inside n spots k × Marked spans spots k × (0 ≤ k) × Stands s 0 (length s) (drop 0 (spots_of (listing s a l n) spots k))
renaming-ready s a l n spots k spans y =
    let x = y.surveyed in
    let r = y.renamed in (
      surveyed-high s a l n y.before k x,
      (known-named s a l x.hints n x.known).once,
      renamed-inside r k (le_refl k) n (surveyed-within s a l n y.before k x),
      renamed-marked r k (le_refl k),
      zero-le,
      renamed-stands r k (le_refl k) (listing s a l n) s 0 0 (length s) (surveyed-stands s a l n y.before k x),
    )

-- ---- a tree whose lines were noted too

module _ (s : Bytes) (a l h : List ℕ) (n : ℕ) (spots : List (List ℕ)) (k : ℕ) (words nodes : List (List ℕ)) (m : ℕ) (x : Recorded s a l h n spots k words nodes m) where
  abbrev p : Pattern
  p = x.known.pattern

  -- what rename_tree asks for
  pub recorded-ready : Worded words × (k ≤ length spots) × Shaped words nodes m k
  recorded-ready = (
    x.worded,
    x.noted.kept.many,
    shaped-tree s 0 (listing s a l n) spots k x.noted p (known-lines s a l h n x.known) (known-valid s a l h n x.known) (known-depth s a l h n x.known) words nodes m x.noded,
  )

  pub recorded-renamed : (spans : List ℕ) (after : List (List ℕ)) → Renamed spans spots 0 after k → Renaming s a l n after k spans
  recorded-renamed spans after r = record { before = spots; surveyed = surveyed s a l h n spots k x.known x.noted; renamed = r }

-- room stays where a length does
roomy-kept : (s : Bytes) (b d : List (List ℕ)) → length d ≡ length b → Roomy s b → Roomy s d
roomy-kept s b d e r m i j = subst (λ (k : ℕ). m ≤ k) (sym e) (r m i j)

-- a good answer of the check that notes variables and lines, where there was room for all
pub good-recorded : (s : Bytes) (a l h : List ℕ) (before after words nodes : List (List ℕ)) (r : Noting) (c : Charted tree_names tree_start s a l h before after words nodes (read_tree s) r) (n k m : ℕ) (b : List (List ℕ)) → Worded words → (length s ≤ 16384 → length s ≤ 3 * length before) × Roomy s b → r ≡ Ok (counts n k m) → length nodes ≡ length b → Recorded s a l h n after k words nodes m
good-recorded s a l h before after words nodes r c n k m b w (room, y) q e = let g = good-notes s a l h before after words nodes r c n k m room q in record { known = g.known; noted = g.noted; noded = g.noded (roomy-kept s b nodes e y); worded = w }
