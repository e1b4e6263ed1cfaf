-- From the line machine's answer and the walk to what a check that notes spots promises. Assumes nothing.
use Prim.Native.Nat.{ℕ, ◌+◌, ◌-◌, ◌*◌, ◌≤◌}
use mathlib.Core.Path.{◌≡◌, refl, sym, ◌∙◌, ap, subst}
use mathlib.Core.List.{List, [], ◌∷◌, ◌++◌}
use native.Mathlib.Omega.{arith}
use lib.ListN.{length, drop, length-append, length-drop}
use lib.Seq.{take_all}
use Rattle.text.specs.Text.{Bytes, Line, same, ended, text_of, part, split, lines_in, lines_of, lines_from}
use Rattle.text.specs.Word.{bytes}
use Rattle.text.proofs.Texts.{Ended, text-back, lines-back, neat-ended}
use Rattle.text.proofs.Places.{lines_start}
use Rattle.algebra.specs.Tree.{Pattern}
use Rattle.algebra.specs.Query.{Query}
use Rattle.algebra.specs.Layout.{put, put_query}
use Rattle.algebra.specs.Bounded.{layout_query}
use Rattle.algebra.specs.Valid.{Valid, ValidQuery}
use Rattle.algebra.specs.Tally.{Tally, start, bounds}
use Rattle.algebra.specs.Reader.{malformed, over_bound, Outcome, reads, refuses}
use Rattle.algebra.specs.Texts.{read_query}
use Rattle.algebra.specs.bridge.Machine.{Check}
use Rattle.algebra.specs.bridge.Verdict.{checked}
use Rattle.algebra.specs.bridge.Table.{Sort, patterns, heads, row_in}
use Rattle.algebra.proofs.Neat.{neat, query-neat}
use Rattle.algebra.proofs.Theorem.{query-exactly}
use Rattle.scoping.specs.bridge.Places.{Mark, visible}
use Rattle.scoping.specs.bridge.Walk.{State, state, opened, hides, times, child, beneath, whole, tree}
use Rattle.scoping.specs.bridge.Spots.{Spot, spots_in, fields_size, Trace, trace, line_spots, line_nodes, spot_line}
use Rattle.names.specs.bridge.Names.{listing, Holds}
use Rattle.names.specs.bridge.Checked.{Checked}
use Rattle.checking.specs.bridge.Run.{Tells}
use Rattle.lines.specs.bridge.Spotted.{Spotted, Noted}
use Rattle.checking.specs.bridge.Walks.{entry_of, mark_alone, answer_of, Charts, Noting}
use Rattle.reading.specs.bridge.Charted.{tree_start, query_start, Charted}
use Rattle.std.specs.Prelude.{Ok, Err}
use Rattle.algebra.specs.declared.Fault.TheVariants.{Malformed, OverBound}

-- ---- a whole text

module _ {A : Type 0} (f : A → Tally → Tally) (from : Bytes → A → ℕ → Type 0) (s a l h : List ℕ) (before after words b : List (List ℕ)) (sort level : ℕ) where
  -- the walk from the first line on is the walk over the tree
  abbrev pub Inside : Outcome A → Type 0
  Inside o = (x : A) → o ≡ reads x → (i : ℕ) → from s x i → entry_of level sort (mark_alone sort) (state (lines_from s 0) (trace 0 [] [])) ≡ tree spot_line bounds.depth patterns visible (state (lines_from s i) (trace i [] []))

  pub charted : (r : Noting) (k : Check) (o : Outcome A) → k ≡ checked f o → Tells s a l h k (answer_of r) → Charts s words a l before after b sort level r → Inside o → Charted (λ x. (f x start).names) from s a l h before after words b o r
  unfolding Tells Charts Charted
  charted (Ok d) c (reads x) e t ch into =
      let n = d.names in
      let k = d.spots in
      let m = d.nodes in
      let w : Tells s a l h (checked f (reads x)) (Ok n) = subst (λ c. Tells s a l h c (Ok n)) e t in
      let i : w.0 ≡ n = (let q = w.1 in cc) in
      let hs : Holds s a l h n (f x start).names = subst (λ (m : ℕ). Holds s a l h m (f x start).names) i w.2 in (
        n,
        k,
        m,
        refl,
        hs,
        λ room. let g = ch room in (
          g.0,
          λ i st. (
            record {
              spots = g.1;
              nodes = g.2;
              walked = sym (into x refl i st) ∙ g.3;
              kept = subst (λ (ns : List Bytes). Spotted ns after k g.1) (hs.fits g.0) g.4;
            },
            g.5,
          ),
        ),
      )
  charted (Ok d) c (refuses malformed) e t ch into = let n = d.names in let q : Ok n ≡ (Err Malformed) = subst (λ c. Tells s a l h c (Ok n)) e t in let z : ◌≡◌ {A = ℕ} 0 1 = cc in absurd (omega arith)
  charted (Ok d) c (refuses over_bound) e t ch into = let n = d.names in let q : Ok n ≡ (Err OverBound) = subst (λ c. Tells s a l h c (Ok n)) e t in let z : ◌≡◌ {A = ℕ} 0 1 = cc in absurd (omega arith)
  charted (Err Malformed) c (reads x) e t ch into = let w : Tells s a l h (checked f (reads x)) (Err Malformed) = subst (λ c. Tells s a l h c (Err Malformed)) e t in let q = w.1 in let z : ◌≡◌ {A = ℕ} 0 1 = cc in absurd (omega arith)
  charted (Err Malformed) c (refuses malformed) e t ch into = refl
  charted (Err Malformed) c (refuses over_bound) e t ch into = let q : (Err Malformed) ≡ (Err OverBound) = subst (λ c. Tells s a l h c (Err Malformed)) e t in let z : ◌≡◌ {A = ℕ} 0 1 = cc in absurd (omega arith)
  charted (Err OverBound) c (reads x) e t ch into = let w : Tells s a l h (checked f (reads x)) (Err OverBound) = subst (λ c. Tells s a l h c (Err OverBound)) e t in let q = w.1 in let z : ◌≡◌ {A = ℕ} 0 1 = cc in absurd (omega arith)
  charted (Err OverBound) c (refuses malformed) e t ch into = let q : (Err OverBound) ≡ (Err Malformed) = subst (λ c. Tells s a l h c (Err OverBound)) e t in let z : ◌≡◌ {A = ℕ} 0 1 = cc in absurd (omega arith)
  charted (Err OverBound) c (refuses over_bound) e t ch into = refl

-- for callers: what it says without the spots
pub charted-checked : {A : Type 0} (names : A → List Bytes) (from : Bytes → A → ℕ → Type 0) (s a l h : List ℕ) (before after words b : List (List ℕ)) (o : Outcome A) (r : Noting) → Charted names from s a l h before after words b o r → Checked names s a l h o (answer_of r)
unfolding Charted Checked
charted-checked names from s a l h before after words b (reads x) r c = (c.0, ap answer_of c.3, c.4)
charted-checked names from s a l h before after words b (refuses malformed) r c = ap answer_of c
charted-checked names from s a l h before after words b (refuses over_bound) r c = ap answer_of c

-- ---- a tree

pub tree-inside : (s : Bytes) (o : Outcome Pattern) (x : Pattern) → o ≡ reads x → (i : ℕ) → tree_start s x i → entry_of bounds.depth 2 visible (state (lines_from s 0) (trace 0 [] [])) ≡ tree spot_line bounds.depth patterns visible (state (lines_from s i) (trace i [] []))
unfolding tree
tree-inside s o x e i z = rw z

-- ---- a query

-- its head line has no spots, and its tree comes below it
head-walked : (trees : Sort → Mark → State Trace → State Trace) (q : Query) (ls : List Line)
    → whole spot_line trees heads visible ((bytes "query" ∷ q.kind ∷ q.dataset ∷ q.base ∷ []) ∷ ls) (trace 0 [] []) ≡ trees patterns visible (state ls (trace (0 + length (bytes "query") + fields_size (q.kind ∷ q.dataset ∷ q.base ∷ []) + 1) [] []))
unfolding whole beneath times child hides row_in same spot_line line_spots line_nodes spots_in opened
head-walked trees q ls = refl

-- from a place on stands the text of the lines from there on, if each of them is ended
text-from : (s : Bytes) (at : ℕ) (ls : List Line) → lines_from s at ≡ ls → Ended ls → drop at s ≡ text_of ls
unfolding lines_from lines_of
text-from s at ls e n =
    let d : part at (length s) s ≡ drop at s = take_all (length s - at) (drop at s) (simp length-drop (omega arith)) in
    let l : ls ≡ lines_of (drop at s) = sym e ∙ ap (λ (x : Bytes). lines_in (split 10 x)) d in
    sym (ap text_of l ∙ text-back (drop at s) (subst Ended l n))

-- the bytes of a head line
head-long : (w a b c rest : Bytes) → length (ended (w ∷ a ∷ b ∷ c ∷ []) rest) ≡ length w + fields_size (a ∷ b ∷ c ∷ []) + 1 + length rest
unfolding ended fields_size
head-long w a b c rest = simp length-append (omega arith)

module _ (s : Bytes) (q : Query) (e : read_query s ≡ reads q) where
  layout_is : layout_query q ≡ s
  layout_is = ((query-exactly s q).0 e).0

  lines_are : lines_from s 0 ≡ (bytes "query" ∷ q.kind ∷ q.dataset ∷ q.base ∷ []) ∷ put q.tree []
  unfolding layout_query put_query
  lines_are = sym (lines_start s) ∙ ap lines_of (sym layout_is) ∙ lines-back (put_query q []) (query-neat q [] ((query-exactly s q).0 e).1 tt)

  tree-ended : Ended (put q.tree [])
  unfolding ValidQuery
  tree-ended = neat-ended (put q.tree []) (neat q.tree [] ((query-exactly s q).0 e).1.3 tt)

  long-is : length s ≡ length (bytes "query") + fields_size (q.kind ∷ q.dataset ∷ q.base ∷ []) + 1 + length (text_of (put q.tree []))
  unfolding layout_query put_query text_of
  long-is = ap length (sym layout_is) ∙ head-long (bytes "query") q.kind q.dataset q.base (text_of (put q.tree []))

  place_is : (i : ℕ) → query_start s q i → 0 + length (bytes "query") + fields_size (q.kind ∷ q.dataset ∷ q.base ∷ []) + 1 ≡ i
  place_is i st =
      let d : length s - i ≡ length (text_of (put q.tree [])) = sym (length-drop i s) ∙ ap length (text-from s i (put q.tree []) st.1 tree-ended) in
      let n = long-is in
      let h = st.0 in
      omega (arith, d, n, h)

pub query-inside : (s : Bytes) (x : Query) → read_query s ≡ reads x → (i : ℕ) → query_start s x i → entry_of bounds.depth 7 visible (state (lines_from s 0) (trace 0 [] [])) ≡ tree spot_line bounds.depth patterns visible (state (lines_from s i) (trace i [] []))
query-inside s x e i st =
    ap (λ (ls : List Line). whole spot_line (tree spot_line bounds.depth) heads visible ls (trace 0 [] [])) (lines_are s x e)
    ∙ head-walked (tree spot_line bounds.depth) x (put x.tree [])
    ∙ (λ j. tree spot_line bounds.depth patterns visible (state (sym st.1 j) (trace (place_is s x e i st j) [] [])))
