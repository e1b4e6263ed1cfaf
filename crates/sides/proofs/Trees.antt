-- A tree that stands in a text from a place on: its table, its noted variables, and its new names. Assumes nothing.
use Prim.Native.Nat.{ℕ, suc, ◌≤◌, ◌<◌}
use mathlib.Core.Path.{◌≡◌, refl, sym, ap, ap₂, subst, ◌∙◌}
use mathlib.Core.List.{List, [], ◌∷◌, ◌++◌, map}
use mathlib.Core.Bool.{true, false}
use native.Mathlib.Nat.{le_refl}
use native.Mathlib.Omega.{arith}
use lib.ListN.{length, get_or, drop, replicate}
use Rattle.text.specs.Text.{Bytes, Line, text_of}
use Rattle.algebra.specs.Tree.{Pattern}
use Rattle.algebra.specs.Valid.{mem}
use Rattle.algebra.specs.Layout.{put}
use Rattle.names.specs.bridge.Names.{listing, name_at}
use Rattle.names.proofs.Laws.{listing-long, listing-at}
use Rattle.emit.specs.bridge.Emit.{Em, puts}
use Rattle.scoping.specs.bridge.Sets.{Once}
use Rattle.scoping.specs.bridge.Places.{visible, places, names_of}
use Rattle.scoping.specs.bridge.Spots.{Spot}
use Rattle.scoping.specs.Numbering.{by_place, numbered}
use Rattle.scoping.specs.bridge.Pushes.{all_pushes, new_name}
use Rattle.scoping.specs.Rename.{rename_in_graph_pattern}
use Rattle.scoping.proofs.Index.{index-none, mem-at}
use Rattle.scoping.specs.Sets.{index_of}
use Rattle.scoping.proofs.Named.{named}
use Rattle.scoping.proofs.FirstPlaces.{by-place-mem, by-place-once}
use Rattle.scoping.proofs.Alike.{rename-alike}
use Rattle.lines.specs.bridge.Spotted.{spots_of}
use Rattle.scoping.specs.bridge.Flagged.{chosen}
use Rattle.naming.specs.bridge.New.{spelled, replacement}
use Rattle.walking.specs.bridge.Code.{renames, Inside, Marked}
use Rattle.walking.specs.bridge.Flags.{flag_all}
use Rattle.walking.specs.bridge.Rewritten.{rewritten, flag_spots, Stands}
use Rattle.descending.specs.bridge.Renamed.{renamed_spot, Renamed}
use Rattle.walking.proofs.Remarked.{renamed-marked, renamed-inside, renamed-stands, renamed-rewritten}
use Rattle.walking.proofs.Noted.{flagged-tree, column-count, column-names, column-entries, rewritten-inner, stands-inner}
use Rattle.walking.proofs.Chosen.{chosen-in-scope, chosen-hidden}
use Rattle.naming.specs.bridge.Code.{numbered_by, becomes, Standard}
use Rattle.columns.specs.bridge.Columns.{new_at, new_columns}
use Rattle.merging.specs.Request.{Projection, tree}
use Rattle.sides.specs.bridge.Side.{TreeIn, Placed, Renames}

module _ (s : Bytes) (at : ℕ) (a l : List ℕ) (n : ℕ) (v : List (List ℕ)) (p : Pattern) (t : TreeIn s at a l n v p) where
  abbrev names : List Bytes
  names = listing s a l n

  pub tree-high : n ≤ 1024
  tree-high = let e = ap length t.names in let f = t.few in let z = listing-long s a l n in omega arith

  pub tree-once : Once names
  tree-once = subst Once (sym t.names) (by-place-once p)

  pub tree-inside : (k : ℕ) → k ≤ length v → Inside n v k
  tree-inside k h = record { many = h; each = λ i j. let e = t.noted.kept.inside i (omega arith) in let z = listing-long s a l n in omega arith }

  pub tree-low : Inside 1024 v (length v)
  tree-low = record { many = le_refl (length v); each = λ i j. let e = (tree-inside (length v) (le_refl (length v))).each i j in let h = tree-high in omega arith }

  -- the variables that were noted give nemo's names
  pub names-found : (prefix : ℕ) (flags : List ℕ) (js : List Bytes) (firsts seconds seconds₀ : List ℕ) → ((k : ℕ) → get_or seconds₀ k 0 ≡ 0)
      → ((ns : List Bytes) → Once ns → Inside (length ns) v (length v) → flags ≡ flag_spots ns (spots_of ns v (length v)) (replicate 2048 0))
      → Standard (all_pushes prefix (numbered_by flags names) js) names n firsts seconds seconds₀ → Renames names n firsts seconds (new_name (all_pushes prefix (numbered p) js))
  unfolding numbered_by numbered
  names-found prefix flags js firsts seconds seconds₀ zeros noted d = record {
    found = λ f m. d.found f m ∙ ap (λ (vs : List Bytes). new_name (all_pushes prefix vs js) f) numbers;
    behind = λ k i. d.behind k i ∙ zeros k;
  }
    where
      flags-are : flags ≡ flag_all (by_place p) (places p visible) (replicate 2048 0)
      flags-are =
          noted names tree-once (subst (λ (k : ℕ). Inside k v (length v)) (sym (listing-long s a l n)) (tree-inside (length v) (le_refl (length v))))
          ∙ ap (λ (xs : List Spot). flag_spots names xs (replicate 2048 0)) t.noted.kept.are
          ∙ flagged-tree s at names v (length v) t.noted p t.lines t.valid t.deep (replicate 2048 0)
          ∙ ap (λ (ns : List Bytes). flag_all ns (places p visible) (replicate 2048 0)) t.names

      numbers : numbered_by flags names ≡ numbered p
      numbers =
          ap₂ (λ (f : List ℕ) (ns : List Bytes). chosen 0 f ns ++ chosen 1024 f ns) flags-are t.names
          ∙ ap₂ ◌++◌ (chosen-in-scope p t.valid t.few) (chosen-hidden p t.valid t.few)

  -- ---- a tree under new names

  module _ (firsts seconds : List ℕ) (new : Bytes → Bytes) (r : Renames names n firsts seconds new) where
    abbrev old : Bytes → Bytes
    old = renames s a l n [] firsts seconds

    keeps : (f : Bytes) → mem f names ≡ false → old f ≡ f
    unfolding replacement
    keeps f e = rw (index-none f names e, listing-long s a l n, r.behind n (le_refl n))

    agrees : (f : Bytes) → mem f (names_of (places p visible)) ≡ true → old f ≡ new f
    agrees f i =
        let is-var = (named p visible t.valid).at f i in
        r.found f (ap (mem f) t.names ∙ by-place-mem p f is-var ∙ i)

    tree-alike : rename_in_graph_pattern old p ≡ rename_in_graph_pattern new p
    tree-alike = rename-alike old new p visible agrees

-- renaming keeps a variable's entry
entry_kept : {sizes : List ℕ} {a b : List (List ℕ)} → Renamed sizes a 0 b (length a) → (i : ℕ) → i < length a → get_or (get_or b i []) 1 0 ≡ get_or (get_or a i []) 1 0
unfolding renamed_spot
entry_kept r i h = ap (λ (e : List ℕ). get_or e 1 0) (r.here i (omega arith) h)

-- ---- a project: its columns, and its inner pattern

module _ (s : Bytes) (at : ℕ) (a l : List ℕ) (n : ℕ) (v : List (List ℕ)) (inner columns : ℕ) (x : Projection) (t : Placed s at a l n v inner columns x) where
  abbrev all-names : List Bytes
  all-names = listing s a l n

  abbrev kept : TreeIn s at a l n v (tree x)
  kept = t.stands

  pub columns-few : columns ≤ length v
  columns-few = let h = column-count s at all-names v (length v) kept.noted x.columns x.inner kept.lines kept.valid kept.deep in let w = t.width in omega arith

  inner-spots : drop columns (spots_of all-names v (length v)) ≡ drop (length x.columns) kept.noted.spots
  inner-spots = ap₂ drop t.width kept.noted.kept.are

  pub inner-stands : Stands s inner (length s) (drop columns (spots_of all-names v (length v)))
  inner-stands = subst (Stands s inner (length s)) (sym inner-spots) (stands-inner s at all-names v (length v) kept.noted x.columns x.inner kept.lines kept.valid kept.deep inner t.high t.behind)

  module _ (firsts seconds : List ℕ) (new : Bytes → Bytes) (r : Renames all-names n firsts seconds new) where
    abbrev put-names : Bytes → Bytes
    put-names = renames s a l n [] firsts seconds

    abbrev stay : (f : Bytes) → mem f all-names ≡ false → put-names f ≡ f
    stay = keeps s at a l n v (tree x) kept firsts seconds new r

    -- its inner pattern is written under its new names, before whatever lines are written next
    pub inner-written : (e e' : Em) → e' ≡ rewritten put-names s (drop columns (spots_of all-names v (length v))) inner (length s) e
        → (u : List Line) → puts (text_of u) e' ≡ puts (text_of (put (rename_in_graph_pattern new x.inner) u)) e
    unfolding rename_in_graph_pattern
    inner-written e e' q u =
        let alike = tree-alike s at a l n v (tree x) kept firsts seconds new r in
        let inner-alike : rename_in_graph_pattern put-names x.inner ≡ rename_in_graph_pattern new x.inner = cc in
        ap (puts (text_of u)) (q ∙ ap (λ (xs : List Spot). rewritten put-names s xs inner (length s) e) inner-spots)
        ∙ rewritten-inner s at all-names v (length v) kept.noted x.columns x.inner kept.lines kept.valid kept.deep inner t.high t.behind put-names stay u e
        ∙ ap (λ (p : Pattern). puts (text_of (put p u)) e) inner-alike

  -- ---- the same for variables that were renamed

  module _ (sizes : List ℕ) (b : List (List ℕ)) (r : Renamed sizes v 0 b (length v)) where
    pub inner-few : columns ≤ length b
    inner-few = let h = columns-few in let e = r.long in omega arith

    -- its columns are the first of them
    pub columns-inside : Inside 1024 b columns
    columns-inside = renamed-inside r columns columns-few 1024 (record { many = columns-few; each = λ i h. (tree-low s at a l n v (tree x) kept).each i (let c = columns-few in omega arith) })

    -- and become its new columns
    pub columns-new : (firsts : List ℕ) (new : Bytes → Bytes) → Renames all-names n firsts sizes new → new_columns s a l firsts sizes b columns ≡ map new x.columns
    unfolding replacement spelled
    columns-new firsts new d = ap (new_columns s a l firsts sizes b) t.width ∙ along b x.columns (let c = inner-few in let w = t.width in omega arith) one
      where
        one : (i : ℕ) → i < length x.columns → new_at s a l firsts sizes (get_or (get_or b i []) 1 0) ≡ new (get_or x.columns i [])
        one i h =
            let low : i < length v = (let c = columns-few in let w = t.width in omega arith) in
            let e : get_or (get_or b i []) 1 0 ≡ get_or (get_or v i []) 1 0 = entry_kept r i low in
            let j : get_or (get_or v i []) 1 0 ≡ index_of (get_or x.columns i []) all-names = column-entries s at all-names v (length v) kept.noted x.columns x.inner kept.lines kept.valid kept.deep (tree-once s at a l n v (tree x) kept) i h in
            let k : get_or (get_or v i []) 1 0 < n = (tree-inside s at a l n v (tree x) kept (length v) (le_refl (length v))).each i low in
            let c : name_at s a l (get_or (get_or v i []) 1 0) ≡ get_or x.columns i [] = sym (listing-at s a l (get_or (get_or v i []) 1 0) n k) ∙ column-names s at all-names v (length v) kept.noted x.columns x.inner kept.lines kept.valid kept.deep i h in
            let m : mem (get_or x.columns i []) all-names ≡ true = ap (λ (f : Bytes). mem f all-names) (sym c ∙ sym (listing-at s a l (get_or (get_or v i []) 1 0) n k)) ∙ mem-at all-names (get_or (get_or v i []) 1 0) (omega (arith, k, listing-long s a l n)) in
            ap (new_at s a l firsts sizes) e
            ∙ ap₂ (λ (q : ℕ) (f : Bytes). becomes (get_or firsts q 0) (get_or sizes q 0) f) j c
            ∙ d.found (get_or x.columns i []) m

        along : (u : List (List ℕ)) (cs : List Bytes) → length cs ≤ length u → ((i : ℕ) → i < length cs → new_at s a l firsts sizes (get_or (get_or u i []) 1 0) ≡ new (get_or cs i [])) → new_columns s a l firsts sizes u (length cs) ≡ map new cs
        along u [] h f = refl
        along [] (c ∷ cs) h f = absurd (omega arith)
        along (y ∷ u) (c ∷ cs) h f = ap₂ ◌∷◌ (f 0 (omega arith)) (along u cs (omega arith) (λ i l. f (suc i) (omega arith)))

    pub inner-inside : Inside n b (length b)
    inner-inside = subst (Inside n b) (sym r.long) (renamed-inside r (length v) (le_refl (length v)) n (tree-inside s at a l n v (tree x) kept (length v) (le_refl (length v))))

    pub inner-marked : Marked sizes b (length b)
    inner-marked = subst (Marked sizes b) (sym r.long) (renamed-marked r (length v) (le_refl (length v)))

    pub marked-inner-stands : Stands s inner (length s) (drop columns (spots_of all-names b (length b)))
    marked-inner-stands = subst (λ (k : ℕ). Stands s inner (length s) (drop columns (spots_of all-names b k))) (sym r.long) (renamed-stands r (length v) (le_refl (length v)) all-names s columns inner (length s) inner-stands)

    pub marked-inner : (new : Bytes → Bytes) (e e' : Em) → e' ≡ rewritten new s (drop columns (spots_of all-names b (length b))) inner (length s) e → e' ≡ rewritten new s (drop columns (spots_of all-names v (length v))) inner (length s) e
    marked-inner new e e' q =
        q
        ∙ ap (λ (k : ℕ). rewritten new s (drop columns (spots_of all-names b k)) inner (length s) e) r.long
        ∙ renamed-rewritten r (length v) (le_refl (length v)) all-names s columns inner (length s) new e
