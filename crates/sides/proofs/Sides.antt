-- A side from its project's line on: its columns, their entries, and the names that standardize_variables gives them. Assumes nothing.
use Prim.Native.Nat.{ℕ, suc, ◌+◌, ◌-◌, ◌≤◌, ◌<◌}
use mathlib.Core.Path.{◌≡◌, refl, sym, ap, ap₂, subst, ◌∙◌}
use mathlib.Core.List.{List, [], ◌∷◌, map}
use mathlib.Core.Bool.{Bool, true, false, ◌&&◌, true≢false}
use mathlib.Core.Logic.{⊎_elim}
use native.Mathlib.Nat.{le_refl}
use native.Mathlib.Omega.{arith}
use lib.ListN.{length, get_or, take, length-take}
use lib.Seq.{get_or-take}
use lib.Dec.{ltb}
use lib.Count.{ones}
use Rattle.text.specs.Text.{Bytes, Line, part, lines_from, First}
use Rattle.text.specs.Word.{bytes}
use Rattle.text.proofs.Places.{lines_next}
use Rattle.cursor.specs.bridge.Cursor.{left}
use Rattle.cursor.proofs.Laws.{left-none, left-next}
use Rattle.algebra.specs.Tree.{Pattern}
use Rattle.algebra.specs.Layout.{put}
use Rattle.names.specs.bridge.Names.{listing}
use Rattle.scoping.specs.Sets.{all}
use Rattle.scoping.specs.Numbering.{numbered}
use Rattle.scoping.specs.bridge.Pushes.{all_pushes, new_name}
use Rattle.scoping.specs.Premises.{columns_at, inside, different_positions, side_name}
use Rattle.scoping.proofs.Agree.{renamed-by-pushes}
use Rattle.scoping.proofs.Basics.{not-true}
use Rattle.reader.specs.bridge.Lines.{LineEnd}
use Rattle.descending.specs.bridge.Renamed.{Renamed}
use Rattle.reader.proofs.Laws.{nothing-here}
use Rattle.walking.proofs.Laws.{line-split}
use Rattle.walking.proofs.Noted.{column-names}
use Rattle.naming.specs.bridge.Code.{names_at}
use Rattle.merging.specs.Request.{Projection, tree}
use Rattle.algebra.specs.Query.{Pair}
use Rattle.algebra.specs.Tally.{bounds}
use Rattle.sides.specs.declared.side.Outline.{Outline}
use Rattle.mask.specs.declared.Mask.{Mask}
use Rattle.mask.specs.bridge.Words.{mask_value}
use Rattle.columns.specs.bridge.Listed.{Positions, Listed, positions_in, Kept, Found}
use Rattle.walking.specs.bridge.Code.{Inside}
use Rattle.columns.specs.bridge.Columns.{new_columns, picked}
use Rattle.merging.proofs.Lists.{map-length}
use Rattle.sides.proofs.Widths.{mask-picks}
use Rattle.sides.specs.bridge.Side.{TreeIn, Placed, Renames, mask_at, new_names, FindingIs, Outlined, Sided}
use Rattle.sides.proofs.Trees.{tree-inside, columns-few, columns-inside, columns-new}
use Rattle.sides.proofs.Entries.{entry_at, names-at}
use Rattle.columns.proofs.Places.{place-below}
use Rattle.sides.proofs.Repeated.{Ones, mask-counts}
use Rattle.std.specs.Prelude.{Some, None}

-- ---- the project's line

pub left-more : (line : Bytes) (next end e : ℕ) → end ≤ length line → next ≤ end → First 9 line next end e → length (left line next end) ≡ suc (length (left line (e + 1) end))
left-more line next end e k h f = ap length (left-next line next end e k h f)

pub left_end : (line : Bytes) (next end c w : ℕ) → end < next → c + length (left line next end) ≡ w → c ≡ w
left_end line next end c w h e = let z = ap length (left-none line next end h) in omega arith

module _ (s : Bytes) (at : ℕ) (x : Projection) (lines : lines_from s at ≡ put (tree x) []) (e : ℕ) (le : LineEnd s at e) where
  first-lines : lines_from s at ≡ (bytes "project" ∷ x.columns) ∷ put x.inner []
  unfolding put
  first-lines = lines

  project-ended : e ≡ length s → ⊥
  project-ended q = ⊎_elim
      (λ (z : lines_from s at ≡ []). let k = first-lines in let y : ◌≡◌ {A = ℕ} 0 1 = cc in omega arith)
      (λ (z : lines_from s at ≡ [] ∷ []). let k = first-lines in let y : ◌≡◌ {A = ℕ} 0 1 = cc in omega arith)
      (nothing-here s at e le q)

  pub project-less : e < length s
  project-less = let b = le.high in let k = project-ended in omega arith

  pub project-low : at ≤ e
  project-low = (le.ends project-less).low

  pub columns-found : (w : ℕ) → First 9 s at e w → (c : ℕ) → c ≡ length (left s (w + 1) e) → (c ≡ length x.columns) × (lines_from s (e + 1) ≡ put x.inner [])
  columns-found w f c q =
      let k : (part at w s ∷ left s (w + 1) e) ∷ lines_from s (e + 1) ≡ (bytes "project" ∷ x.columns) ∷ put x.inner [] =
      ap (λ (k : Line). k ∷ lines_from s (e + 1)) (sym (line-split s at e w project-less project-low f)) ∙ sym (lines_next s at e (le.ends project-less) project-less) ∙ first-lines in
      let columns : left s (w + 1) e ≡ x.columns = cc in
      (q ∙ ap length columns, cc)

-- ---- join positions

module _ (s : Bytes) (at : ℕ) (a l : List ℕ) (n : ℕ) (v : List (List ℕ)) (inner columns : ℕ) (x : Projection) (t : Placed s at a l n v inner columns x)
    (ps : List ℕ) (m : ℕ) (few : m ≤ bounds.entries) (long : length ps ≡ bounds.entries) (in-columns : inside x.columns (take m ps) ≡ true) where
  abbrev stood : TreeIn s at a l n v (tree x)
  stood = t.stands

  taken : length (take m ps) ≡ m
  taken = simp length-take (omega arith)

  position-low : (i : ℕ) → i < m → get_or ps i 0 < length x.columns
  unfolding inside
  position-low i j = place-below ps m (length x.columns) i (omega arith) j in-columns (get_or ps i 0) refl

  pub spot-low : (i : ℕ) → i < m → get_or ps i 0 < length v
  spot-low i j = let b = position-low i j in let d = columns-few s at a l n v inner columns x t in let w = t.width in omega arith

  entry-low : (i : ℕ) → i < length v → entry_at v i < n
  entry-low = (tree-inside s at a l n v (tree x) stood (length v) (le_refl (length v))).each

  module _ (joins : List ℕ) (said : (i : ℕ) → i < m → get_or joins i 0 ≡ entry_at v (get_or ps i 0)) where
    pub join-low : (i : ℕ) → i < m → get_or joins i 0 < n
    join-low i j = let e = said i j in let b = entry-low (get_or ps i 0) (spot-low i j) in omega arith

    names-are : names_at s a l joins m 0 ≡ columns_at x.columns (take m ps)
    unfolding columns_at
    names-are =
        names-at s a l n v x.columns
        (λ i j. entry-low i (let d = columns-few s at a l n v inner columns x t in let w = t.width in omega arith))
        (column-names s at (listing s a l n) v (length v) stood.noted x.columns x.inner stood.lines stood.valid stood.deep)
        joins (take m ps) m 0 (sym taken)
        (λ i j. subst (λ (k : ℕ). k < length x.columns) (sym (get_or-take m ps i 0 j)) (position-low i j))
        (λ i j. let y : 0 + i ≡ i = omega arith in ap (λ (k : ℕ). get_or joins k 0) y ∙ said i j ∙ ap (entry_at v) (sym (get_or-take m ps i 0 j)))
        ∙ go (take m ps)
      where
        go : (qs : List ℕ) → map (λ i. get_or x.columns i []) qs ≡ columns_at x.columns qs
        go [] = refl
        go (q ∷ qs) = ap (λ (cs : List Bytes). get_or x.columns q [] ∷ cs) (go qs)

    -- ---- the new names

    module _ (prefix : ℕ) (firsts seconds : List ℕ) (given : (at : ℕ) (p : Pattern) → TreeIn s at a l n v p → Renames (listing s a l n) n firsts seconds (new_name (all_pushes prefix (numbered p) (names_at s a l joins m 0)))) where
      abbrev side : Bytes → Bytes
      side = side_name prefix x.columns x.inner (take m ps)

      new_is : new_name (all_pushes prefix (numbered (tree x)) (names_at s a l joins m 0)) ≡ side
      unfolding side_name
      new_is i w = (ap (λ (js : List Bytes). new_name (all_pushes prefix (numbered (tree x)) js) w) names-are ∙ sym (renamed-by-pushes prefix (numbered (tree x)) (columns_at x.columns (take m ps)) w)) i

      pub new-names : Renames (listing s a l n) n firsts seconds side
      new-names = subst (Renames (listing s a l n) n firsts seconds) new_is (given at (tree x) stood)

-- ---- what was found, told as a whole

pub found-outside : (s : Bytes) (xs : List Pair) (second : Bool) (c : ℕ) (at lines : List ℕ) (r : Positions) (cs : List Bytes) → Found s xs second c at lines r → r ≡ None → c ≡ length cs → inside cs (positions_in second xs) ≡ false
unfolding Found inside
found-outside s xs second c at lines r cs f q e = ap (λ (m : ℕ). all (λ i. ltb i m) (positions_in second xs)) (sym e) ∙ subst (Found s xs second c at lines) q f

pub found_all : (s : Bytes) (xs : List Pair) (second : Bool) (c : ℕ) (at lines : List ℕ) (r : Positions) (m : ℕ) → Found s xs second c at lines r → r ≡ Some m → (all (λ i. ltb i c) (positions_in second xs) ≡ true) × Kept s xs second at lines m
unfolding Found
found_all s xs second c at lines r m f q = subst (Found s xs second c at lines) q f

pub kept-inside : (is : List ℕ) (c : ℕ) (cs : List Bytes) → all (λ i. ltb i c) is ≡ true → c ≡ length cs → inside cs is ≡ true
unfolding inside
kept-inside is c cs f e = ap (λ (m : ℕ). all (λ i. ltb i m) is) (sym e) ∙ f

pub neither : (a b : Bool) → b ≡ false → (a && b) ≡ false
neither true b h = h
neither false b h = refl

pub first-false : (a b : Bool) → a ≡ false → (a && b) ≡ false
first-false true b h = absurd (true≢false h)
first-false false b h = refl

pub kept-asked : (s : Bytes) (xs : List Pair) (second : Bool) (c : ℕ) (at lines : List ℕ) (m : ℕ) (r : Bytes) → (all (λ i. ltb i c) (positions_in second xs) ≡ true) × Kept s xs second at lines m → Listed r xs → (m ≤ bounds.entries) × (all (λ i. ltb i c) (take m at) ≡ true)
kept-asked s xs second c at lines m r k l = (let e = k.1.many in let f = l.few in omega arith, ap (all (λ i. ltb i c)) k.1.positions ∙ k.0)

-- all that find_side promises of positions that are inside
module _ (text : Bytes) (second : Bool) (pairs constants : Bytes) (c inner : ℕ) (x : Projection) (js ks : List Pair)
    (joins join-lines at lines : List ℕ) (k m : ℕ) (kj : (all (λ i. ltb i c) (positions_in second js) ≡ true) × Kept pairs js second joins join-lines k) (kk : (all (λ i. ltb i c) (positions_in false ks) ≡ true) × Kept constants ks false at lines m)
    (high : inner ≤ length text) (found : (c ≡ length x.columns) × (lines_from text inner ≡ put x.inner [])) (listed : Listed pairs js) where
  pub all_found : (constant joined : Mask) → mask_value constant ≡ mask_at (take m at) c → mask_value joined ≡ mask_at (take k joins) c
      → FindingIs text second constants x js ks joins at lines (record { inside = true; inner = inner; columns = c; joined = joined; joins = k; constant = constant; constants = m })
  all_found constant joined pc pj = record {
    outside = λ e. absurd (true≢false e);
    found = λ e. (
      kept-inside (positions_in second js) c x.columns kj.0 found.0,
      kept-inside (positions_in false ks) c x.columns kk.0 found.0,
      record {
        width = found.0;
        constant = pc ∙ ap₂ mask_at kk.1.positions found.0;
        joined = pj ∙ ap₂ mask_at kj.1.positions found.0;
        high = high;
        inner = found.1;
        few = (kept-asked pairs js second c joins join-lines k pairs kj listed).0;
        positions = kj.1.positions;
        kept = kk.1;
      },
    );
  }

-- one that is outside
pub none_found : (text : Bytes) (second : Bool) (constants : Bytes) (x : Projection) (js ks : List Pair) (joins at lines : List ℕ) (o : Outline) → o.inside ≡ false
    → (inside x.columns (positions_in second js) && inside x.columns (positions_in false ks)) ≡ false → FindingIs text second constants x js ks joins at lines o
none_found text second constants x js ks joins at lines o e f = record { outside = λ z. f; found = λ z. absurd (true≢false (sym z ∙ e)) }

not-false : (b : Bool) → (b ≡ false → ⊥) → b ≡ true
not-false true h = refl
not-false false h = absurd (h refl)

-- what was found is what naming asks for, and named it is a side
module _ (text : Bytes) (from : ℕ) (starts sizes : List ℕ) (n : ℕ) (spots : List (List ℕ)) (second : Bool) (constants : Bytes) (x : Projection) (js ks : List Pair) (joins at lines : List ℕ) (o : Outline)
    (d : Outlined text from starts sizes n spots second constants joins at lines o x js ks) where
  pub outline-placed : Placed text from starts sizes n spots o.inner o.columns x
  outline-placed = record { stands = d.stands.tree-in; narrow = d.stands.narrow x refl; width = d.is.width; high = d.is.high; behind = d.is.inner }

  pub outline-inside : inside x.columns (take o.joins joins) ≡ true
  outline-inside = ap (inside x.columns) d.is.positions ∙ d.joins-inside

  -- its join positions are as many as its mask has ones exactly if none stands twice
  joined-ones : Ones (ones (mask_value o.joined)) o.joins (different_positions (positions_in second js))
  joined-ones =
      let t : length (positions_in second js) ≡ o.joins = sym (ap length d.is.positions) ∙ (let f = d.is.few in let g = d.joins_long in simp length-take (omega arith)) in
      subst (λ (k : ℕ). Ones (ones (mask_value o.joined)) k (different_positions (positions_in second js))) t (rw d.is.joined (mask-counts x.columns (positions_in second js) d.joins-inside))

  pub repeated : ones (mask_value o.joined) < o.joins → different_positions (positions_in second js) ≡ false
  repeated h = not-true (different_positions (positions_in second js)) (λ e. let z = joined-ones.all e in absurd (omega arith))

  once : o.joins ≤ ones (mask_value o.joined) → different_positions (positions_in second js) ≡ true
  once h = not-false (different_positions (positions_in second js)) (λ e. let z = joined-ones.less e in absurd (omega arith))

  pub named : (prefix : ℕ) (firsts seconds : List ℕ) (marked : List (List ℕ)) → o.joins ≤ ones (mask_value o.joined) → Renamed seconds spots 0 marked (length spots)
      → Renames (listing text starts sizes n) n firsts seconds (side_name prefix x.columns x.inner (take o.joins joins))
      → Sided text from starts sizes n marked prefix second constants firsts seconds joins at lines o x js ks
  named prefix firsts seconds marked many renamed new = record {
    noted = spots;
    found = d;
    joins-once = once many;
    renamed = renamed;
    renames = subst (λ (ps : List ℕ). Renames (listing text starts sizes n) n firsts seconds (side_name prefix x.columns x.inner ps)) d.is.positions new;
  }

-- what is asked for where a side is written
module _ (text : Bytes) (from : ℕ) (starts sizes : List ℕ) (n : ℕ) (spots : List (List ℕ)) (prefix : ℕ) (second : Bool) (constants : Bytes) (firsts seconds joins at lines : List ℕ) (o : Outline) (x : Projection) (js ks : List Pair)
    (d : Sided text from starts sizes n spots prefix second constants firsts seconds joins at lines o x js ks) where
  pub placed : Placed text from starts sizes n d.noted o.inner o.columns x
  placed = outline-placed text from starts sizes n d.noted second constants x js ks joins at lines o d.found

  pub side-inside : Inside 1024 spots o.columns
  side-inside = columns-inside text from starts sizes n d.noted o.inner o.columns x placed seconds spots d.renamed

  pub side-columns : new_columns text starts sizes firsts seconds spots o.columns ≡ map (new_names prefix second x js) x.columns
  side-columns = columns-new text from starts sizes n d.noted o.inner o.columns x placed seconds spots d.renamed firsts (new_names prefix second x js) d.renames

  abbrev columns : List Bytes
  columns = new_columns text starts sizes firsts seconds spots o.columns

  columns-long : length columns ≡ length x.columns
  columns-long = ap length side-columns ∙ map-length (new_names prefix second x js) x.columns

  pub terms-few : o.constants ≤ bounds.entries
  terms-few = let m = d.found.is.kept.many in let f = d.found.terms.listed.few in omega arith

  pub side-narrow : o.columns ≤ bounds.columns
  side-narrow = let a = d.found.stands.narrow x refl in let b = d.found.is.width in omega arith

  pub side-below : all (λ i. ltb i o.columns) (take o.constants at) ≡ true
  unfolding inside
  side-below = ap (all (λ i. ltb i o.columns)) d.found.is.kept.positions ∙ ap (λ (c : ℕ). all (λ i. ltb i c) (positions_in false ks)) d.found.is.width ∙ d.found.terms_inside

  -- as many columns carry a constant as its mask has ones, and the others are the header's width
  widths : (ones (mask_value o.constant) ≡ length (picked 1 (mask_value o.constant) columns)) × (ones (mask_value o.constant) ≤ length columns) × (length columns - ones (mask_value o.constant) ≡ length (picked 0 (mask_value o.constant) columns))
  widths = mask-picks (positions_in false ks) columns (mask_value o.constant) (d.found.is.constant ∙ ap (mask_at (positions_in false ks)) (sym columns-long))

  pub side-ones : ones (mask_value o.constant) ≡ length (picked 1 (mask_value o.constant) columns)
  side-ones = widths.0

  pub side-room : ones (mask_value o.constant) ≤ o.columns
  side-room = let a = widths.1 in let b = d.found.is.width in let e = columns-long in omega arith

  pub side-width : o.columns - ones (mask_value o.constant) ≡ length (picked 0 (mask_value o.constant) columns)
  side-width = ap (λ (c : ℕ). c - ones (mask_value o.constant)) (d.found.is.width ∙ sym columns-long) ∙ widths.2
