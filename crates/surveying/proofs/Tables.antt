-- What the check of a tree leaves: a table whose names are told apart, and a text that is the tree's lines. Assumes nothing.
use Prim.Native.Nat.{ℕ, ◌*◌, ◌≤◌, ◌<◌}
use mathlib.Core.Path.{◌≡◌, refl, sym, ap, subst, ◌∙◌}
use mathlib.Core.List.{List, []}
use native.Mathlib.Omega.{arith}
use native.Mathlib.Decide.{dec_lt}
use lib.ListN.{length, drop}
use Rattle.text.specs.Text.{Bytes, lines_of, lines_from}
use Rattle.text.proofs.Texts.{lines-back}
use Rattle.text.proofs.Places.{lines_start}
use Rattle.algebra.specs.Valid.{Valid}
use Rattle.algebra.specs.Depth.{depth}
use Rattle.algebra.specs.Layout.{put, layout}
use Rattle.algebra.specs.Bounded.{IsTree}
use Rattle.algebra.specs.Tally.{bounds}
use Rattle.algebra.specs.Reader.{refuses, malformed, over_bound}
use Rattle.algebra.specs.Texts.{read_tree}
use Rattle.algebra.specs.bridge.Answers.{Answer}
use Rattle.algebra.proofs.Neat.{neat}
use Rattle.algebra.proofs.Theorem.{tree-exactly}
use Rattle.reading.specs.bridge.Variables.{tree_names}
use Rattle.reading.specs.bridge.Charted.{tree_start, Charted}
use Rattle.reading.proofs.Said.{said-good, said-malformed, said-over, said-noted}
use Rattle.reading.proofs.ChartLaw.{charted-checked}
use Rattle.names.specs.bridge.Names.{listing, Hinted}
use Rattle.names.specs.bridge.Checked.{Checked}
use Rattle.scoping.specs.bridge.Sets.{Once}
use Rattle.scoping.specs.Numbering.{by_place}
use Rattle.scoping.proofs.FirstPlaces.{by-place-once}
use Rattle.walking.specs.bridge.Code.{Named, Inside}
use Rattle.heads.specs.bridge.Known.{Known}
use Rattle.lines.specs.bridge.Noded.{Noded, Roomy}
use Rattle.lines.specs.bridge.Spotted.{spots_of, Noted}
use Rattle.walking.specs.bridge.Rewritten.{Stands}
use Rattle.walking.proofs.Noted.{spotted-inside, stands-tree}
use Rattle.walking.proofs.Spotted.{inside-more}
use Rattle.names.proofs.Laws.{listing-long}
use Rattle.surveying.specs.bridge.Code.{Surveyed}
use Rattle.checking.specs.bridge.Walks.{counts, answer_of, Noting}
use Rattle.std.specs.Prelude.{Ok, Err}
use Rattle.algebra.specs.declared.Fault.TheVariants.{Malformed, OverBound}

module _ (s : Bytes) (a l h : List ℕ) (n : ℕ) (k : Known s a l h n) where
  is-tree : IsTree bounds s k.pattern
  is-tree = (tree-exactly s k.pattern).0 k.read

  pub known-valid : Valid k.pattern
  known-valid = is-tree.1

  pub known-depth : depth k.pattern ≤ bounds.depth
  known-depth = is-tree.2.depth

  pub known-few : length (by_place k.pattern) ≤ 1024
  unfolding by_place
  known-few = is-tree.2.names

  pub known-high : n ≤ 1024
  known-high = go (dec_lt 1024 n)
    where
      go : Dec (1024 < n) → n ≤ 1024
      go (yes more) = absurd (let x = k.table.over more in let y = known-few in omega arith)
      go (no less) = omega arith

  pub known-names : listing s a l n ≡ by_place k.pattern
  known-names = k.table.fits known-high

  pub known-named : Named s a l h n
  known-named = record {
    high = known-high;
    hinted = subst (Hinted h) (sym known-names) (k.table.hinted known-high);
    once = subst Once (sym known-names) (by-place-once k.pattern);
  }

  pub known-lines : lines_from s 0 ≡ put k.pattern []
  unfolding layout
  known-lines =
      sym (lines_start s)
      ∙ ap lines_of (sym is-tree.0)
      ∙ lines-back (put k.pattern []) (neat k.pattern [] known-valid tt)

pub good-known : (s : Bytes) (a l h : List ℕ) (r : Answer) (n : ℕ) → Checked tree_names s a l h (read_tree s) r → r ≡ Ok n → Known s a l h n
unfolding by_place
good-known s a l h r n c q = let g = said-good tree_names s a l h r (read_tree s) n c q in record { pattern = g.value; read = g.read; table = g.table }

-- ---- a tree whose variables were noted

pub surveyed : (s : Bytes) (a l h : List ℕ) (n : ℕ) (spots : List (List ℕ)) (k : ℕ) → Known s a l h n → Noted s 0 (listing s a l n) spots k → Surveyed s a l n spots k
surveyed s a l h n spots k x y = record { hints = h; known = x; noted = y }

module _ (s : Bytes) (a l : List ℕ) (n : ℕ) (spots : List (List ℕ)) (k : ℕ) (x : Surveyed s a l n spots k) where
  pub surveyed-high : n ≤ 1024
  surveyed-high = known-high s a l x.hints n x.known

  pub surveyed-within : Inside n spots k
  surveyed-within = subst (λ (i : ℕ). Inside i spots k) (listing-long s a l n) (spotted-inside x.noted.kept)

  pub surveyed-inside : Inside 1024 spots k
  surveyed-inside = inside-more n spots k surveyed-within surveyed-high

  pub surveyed-stands : Stands s 0 (length s) (drop 0 (spots_of (listing s a l n) spots k))
  surveyed-stands =
      subst (Stands s 0 (length s)) (sym x.noted.kept.are)
      (stands-tree s 0 (listing s a l n) spots k x.noted x.known.pattern (known-lines s a l x.hints n x.known) (known-valid s a l x.hints n x.known) (known-depth s a l x.hints n x.known))

pub known-short : (s : Bytes) (a l h : List ℕ) (n : ℕ) → Known s a l h n → length s ≤ 16384
known-short s a l h n k = let t = is-tree s a l h n k in subst (λ (b : Bytes). length b ≤ 16384) t.0 t.2.bytes

-- a good answer of the check that notes variables and lines, where there was room for all
module _ (s : Bytes) (a l h : List ℕ) (before after words nodes : List (List ℕ)) (r : Noting) (c : Charted tree_names tree_start s a l h before after words nodes (read_tree s) r) where
  is-checked : Checked tree_names s a l h (read_tree s) (answer_of r)
  is-checked = charted-checked tree_names tree_start s a l h before after words nodes (read_tree s) r c

  -- its tree, and what was noted of it
  pub record GoodNotes (n k m : ℕ) : Type 0 where
    pub known : Known s a l h n
    pub noted : Noted s 0 (listing s a l n) after k
    pub noded : Roomy s nodes → Noded words nodes m noted.nodes

  pub good-notes : (n k m : ℕ) → (length s ≤ 16384 → length s ≤ 3 * length before) → r ≡ Ok (counts n k m) → GoodNotes n k m
  unfolding by_place
  good-notes n k m room q =
      let known = good-known s a l h (answer_of r) n is-checked (ap answer_of q) in
      let g = subst (λ (ns : List Bytes). (w : Noted s 0 ns after k) × (Roomy s nodes → Noded words nodes m w.nodes)) (sym (known-names s a l h n known)) (said-noted tree_names tree_start s a l h before after words nodes (read_tree s) r n k m known.pattern c known.read q (room (known-short s a l h n known)) 0 refl) in
      record { known = known; noted = g.0; noded = g.1 }

  pub good-surveyed : (n k m : ℕ) → (length s ≤ 16384 → length s ≤ 3 * length before) → r ≡ Ok (counts n k m) → Surveyed s a l n after k
  good-surveyed n k m room q = let g = good-notes n k m room q in surveyed s a l h n after k g.known g.noted

  pub noted-malformed : r ≡ Err Malformed → read_tree s ≡ refuses malformed
  noted-malformed q = said-malformed tree_names s a l h (answer_of r) (read_tree s) is-checked (ap answer_of q)

  pub noted-over : r ≡ Err OverBound → read_tree s ≡ refuses over_bound
  noted-over q = said-over tree_names s a l h (answer_of r) (read_tree s) is-checked (ap answer_of q)
