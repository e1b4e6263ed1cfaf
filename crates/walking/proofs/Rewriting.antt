-- The text of a tree, rewritten by the places of its variables, is the renamed tree's text, and its noted variables are the tree's. Assumes nothing.
use Prim.Native.Nat.{ℕ, ◌-◌, ◌≤◌}
use mathlib.Core.Path.{◌≡◌, refl, sym, ap, subst, ◌∙◌}
use mathlib.Core.List.{List, [], ◌∷◌, append-nil}
use mathlib.Core.Bool.{false}
use native.Mathlib.Nat.{le_refl}
use native.Mathlib.Omega.{arith}
use lib.ListN.{length, drop, length-drop}
use lib.Seq.{take_all}
use Rattle.text.specs.Text.{Bytes, Line, text_of, split, lines_in, lines_of, lines_from}
use Rattle.text.proofs.Texts.{Ended, neat-ended, text-back}
use Rattle.algebra.specs.Tree.{Pattern}
use Rattle.algebra.specs.Layout.{put}
use Rattle.algebra.specs.Valid.{Valid, mem}
use Rattle.algebra.specs.Depth.{depth}
use Rattle.algebra.specs.bridge.Table.{Sort, patterns, Row}
use Rattle.algebra.proofs.Neat.{neat}
use Rattle.emit.specs.bridge.Emit.{Em, puts}
use Rattle.scoping.specs.bridge.Places.{Mark, places}
use Rattle.scoping.specs.Rename.{rename_in_graph_pattern}
use Rattle.scoping.specs.bridge.Walk.{State, state, tree}
use Rattle.scoping.specs.bridge.Spots.{Spot, Node, Trace, trace, spot_line}
use Rattle.walking.specs.bridge.Walk.{Output, put_line}
use Rattle.walking.specs.bridge.Flags.{flag_all}
use Rattle.walking.specs.bridge.Rewritten.{rewritten, flag_spots, Stands}
use Rattle.walking.proofs.Trees.{walk_before}
use Rattle.walking.proofs.Together.{tree-both}
use Rattle.walking.proofs.Stretches.{Stretch, nothing, chain, rewritten-none, end-front, line-stretch}

-- ---- a text and its lines

pub text-from : (s : Bytes) (from : ℕ) (ls : List Line) → lines_from s from ≡ ls → Ended ls → drop from s ≡ text_of ls
unfolding lines_from lines_of
text-from s from ls e n =
    let l : length (drop from s) ≤ length s - from = rw (length-drop from s) (le_refl (length s - from)) in
    let q : lines_of (drop from s) ≡ ls = ap (λ (x : Bytes). lines_in (split 10 x)) (sym (take_all (length s - from) (drop from s) l)) ∙ e in
    sym (text-back (drop from s) (subst Ended (sym q) n)) ∙ ap text_of q

-- ---- the two walks

-- the variables that the walk over a tree's lines finds in a text, from a place to its end
pub record Found (s : Bytes) (from : ℕ) (m : Mark) (d : ℕ) (p : Pattern) (xs : List Spot) : Type 0 where
  pub lines : lines_from s from ≡ put p []
  pub valid : Valid p
  pub deep : depth p ≤ d
  pub nodes : List Node
  pub walked : tree spot_line d patterns m (state (lines_from s from) (trace from [] [])) ≡ state [] (trace (length s) xs nodes)

-- what was found so far has been written
record Going (ns : List Bytes) (new : Bytes → Bytes) (s : Bytes) (from : ℕ) (start : Output) (ls : List Line) (t : Trace) (o : Output) : Type 0 where
  pub text : drop t.at s ≡ text_of ls
  pub high : t.at ≤ length s
  pub none : Ended ls
  pub so_far : Stretch ns new s from t.at t.spots start o

module _ (s : Bytes) (from : ℕ) (m : Mark) (d : ℕ) (p : Pattern) (xs : List Spot) (x : Found s from m d p xs) where
  -- the walk, from the tree's own lines
  walk_is : tree spot_line d patterns m (state (put p []) (trace from [] [])) ≡ state [] (trace (length s) xs x.nodes)
  walk_is = ap (λ (ls : List Line). tree spot_line d patterns m (state ls (trace from [] []))) (sym x.lines) ∙ x.walked

  pub found-low : from ≤ length s
  unfolding spot_line
  found-low =
      let b = tree-both (λ ls t u. from ≤ t.at) spot_line spot_line (λ k n r w fs ls t u h. omega arith) (λ ls t u h. h) d patterns m (put p []) (trace from [] []) (trace from [] []) (le_refl from) in
      let e : b.one ≡ trace (length s) xs x.nodes = ap (λ (st : State Trace). st.output) (sym b.left ∙ walk_is) in
      subst (λ (t : Trace). from ≤ t.at) e b.kept

  pub found-text : drop from s ≡ text_of (put p [])
  found-text = text-from s from (put p []) x.lines (neat-ended (put p []) (neat p [] x.valid tt))

  module _ (ns : List Bytes) (new : Bytes → Bytes) (keeps : (f : Bytes) → mem f ns ≡ false → new f ≡ f) where
    going-line : (start : Output) (k : Sort) (n : Mark) (r : Row) (w : Bytes) (fs : List Bytes) (ls : List Line) (t : Trace) (o : Output)
        → Going ns new s from start ((w ∷ fs) ∷ ls) t o → Going ns new s from start ls (spot_line k n r w fs t) (put_line ns new n r w fs o)
    unfolding spot_line text_of
    going-line start k n r w fs ls t o g =
        let z = end-front s w fs t.at (text_of ls) g.high g.text in
        record { text = z.behind; high = z.high; none = g.none; so_far = chain g.so_far (line-stretch s w fs t.at (text_of ls) g.high g.text ns new keeps n r o) }

    pub found-stretch : (o : Output) → Stretch ns new s from (length s) xs o (tree (λ s. put_line ns new) d patterns m (state (put p []) o)).output
    found-stretch o =
        let b = tree-both (Going ns new s from o) spot_line (λ s. put_line ns new) (going-line o) (λ ls t u g. absurd g.none) d patterns m (put p []) (trace from [] []) o
        (record { text = found-text; high = found-low; none = neat-ended (put p []) (neat p [] x.valid tt); so_far = nothing from o }) in
        let e : b.one ≡ trace (length s) xs x.nodes = ap (λ (st : State Trace). st.output) (sym b.left ∙ walk_is) in
        subst (λ (u : Output). Stretch ns new s from (length s) xs o u) (sym (ap (λ (st : State Output). st.output) b.right))
        (subst (λ (t : Trace). Stretch ns new s from t.at t.spots o b.other) e b.kept.so_far)

    -- the renamed tree's text
    pub found-rewritten : (t : List Line) (e : Em) → puts (text_of t) (rewritten new s xs from (length s) e) ≡ puts (text_of (put (rename_in_graph_pattern new p) t)) e
    unfolding Stands
    found-rewritten t e =
        let o : Output = record { em = e; flags = [] } in
        ap (puts (text_of t))
        (ap (λ (zs : List Spot). rewritten new s zs from (length s) e) (sym (append-nil xs))
        ∙ (found-stretch o).written [] (length s) (le_refl (length s), le_refl (length s))
        ∙ rewritten-none new s (length s) _)
        ∙ (walk_before ns new keeps p m d o x.valid x.deep).written t

  -- its variables, noted
  pub found-flags : (ns : List Bytes) (flags : List ℕ) → flag_spots ns xs flags ≡ flag_all ns (places p m) flags
  found-flags ns flags =
      let o : Output = record { em = record { at = 0; out = [] }; flags = flags } in
      sym (found-stretch ns (λ f. f) (λ f e. refl) o).noted ∙ (walk_before ns (λ f. f) (λ f e. refl) p m d o x.valid x.deep).noted

  -- they stand in the text, one behind the other
  pub found-stands : Stands s from (length s) xs
  unfolding Stands
  found-stands = subst (Stands s from (length s)) (append-nil xs) ((found-stretch [] (λ f. f) (λ f e. refl) (record { em = record { at = 0; out = [] }; flags = [] })).stands [] (length s) (le_refl (length s), le_refl (length s)))
