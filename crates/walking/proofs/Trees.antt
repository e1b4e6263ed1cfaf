-- What the walk makes of a tree: the text of the renamed tree is written, and the tree's places are noted. Assumes nothing.
use Prim.Native.Nat.{ℕ, ◌≤◌}
use mathlib.Core.Path.{◌≡◌, refl, ap, ◌∙◌}
use mathlib.Core.List.{List, [], ◌∷◌, append-nil}
use mathlib.Core.Bool.{Bool, true, false}
use native.Mathlib.Omega.{arith}
use lib.ListN.{length}
use Rattle.text.specs.Text.{Bytes, Line, same}
use Rattle.text.specs.Word.{bytes}
use Rattle.text.proofs.Basics.{deeper}
use Rattle.text.proofs.Numbers.{number-back}
use Rattle.algebra.specs.Tree.{ecount, ocount, acount}
use Rattle.algebra.specs.Tree.{Pattern, bgp, path, join, union, minus, leftjoin, filter, graph, extend, values, orderby, project, distinct, reduced, slice, group, service}
use Rattle.algebra.specs.Tree.{Expression, term, bound, exists, apply, call, Condition, always, provided, Expressions, eend, econs, Orders, oend, ocons, Aggregates, aend, agg, aggall}
use Rattle.algebra.specs.Word.{arity, BGP, PATH, JOIN, UNION, MINUS, LEFTJOIN, FILTER, GRAPH, EXTEND, VALUES, ORDERBY, PROJECT, DISTINCT, REDUCED, SLICE, GROUP, SERVICE}
use Rattle.algebra.specs.Word.{TERM, BOUND, EXISTS, CALL, OP, AGG, AGGALL, spell_o}
use Rattle.algebra.specs.Layout.{put_rows, put_arity, put, put_e, put_c, put_es, put_os, put_as}
use Rattle.algebra.specs.Valid.{Valid, ValidE, ValidC, ValidEs, ValidOs, ValidAs, mem}
use Rattle.algebra.specs.Depth.{depth, depth_e, depth_c, depth_es, depth_os, depth_as}
use Rattle.algebra.specs.bridge.Table.{Sort, triples, columns, patterns, expressions, rows, orders, aggregates, row_in, arity_row}
use Rattle.scoping.specs.Sets.{variables_of}
use Rattle.scoping.specs.bridge.Places.{Mark, silent, under, marked, places, places_e, places_c, places_es, places_os, places_as}
use Rattle.scoping.specs.Rename.{rename_in_triple, rename_in_graph_pattern, rename_in_expression, rename_in_condition, rename_in_expressions, rename_in_orders, rename_aggregates}
use Rattle.scoping.specs.bridge.Walk.{State, state, hides, opened, child, times, tree}
use Rattle.walking.specs.bridge.Walk.{Output, put_line}
use Rattle.walking.proofs.After.{After, none_after, then, told, reached, muted, line}
use Rattle.walking.proofs.Parts.{length-map, count-renamed, ocount-renamed, acount-renamed, ccount, flag-number, op_row, heading, heading_e, heading_a, columns_row, order_row, flag-then, arity-fields, arity-below, walk_rows, walk-triples, by_row, by-direction}
use Rattle.walking.proofs.Written.{variable-is, no_fields, shut-then, number-then, variable-then, term-then, columns as columnFields}

module _ (ns : List Bytes) (new : Bytes → Bytes) (keeps : (f : Bytes) → mem f ns ≡ false → new f ≡ f) where
  -- a pattern, and an expression, where d levels may still be opened
  abbrev P : ℕ → Mark → State Output → State Output
  P d m st = tree (λ s. put_line ns new) d patterns m st

  abbrev E : ℕ → State Output → State Output
  E d st = tree (λ s. put_line ns new) d expressions silent st

  -- n children of a sort
  abbrev below : Bool → Mark → Sort → ℕ → ℕ → State Output → State Output
  below hide m s d n st = times (child (λ s. put_line ns new) (tree (λ s. put_line ns new) d) hide m s) n st

  -- the walk over the tree writes the renamed tree and notes its places, whatever lines follow
  abbrev Goes : Pattern → Mark → List Line → Output → ℕ → Type 0
  Goes p m t o d = After ns o (put (rename_in_graph_pattern new p)) (places p m) t (P d m (state (put p t) o))

  abbrev GoesE : Expression → List Line → Output → ℕ → Type 0
  GoesE e t o d = After ns o (put_e (rename_in_expression new e)) (places_e e) t (E d (state (put_e e t) o))

  mutual
    unfolding put rename_in_graph_pattern places tree row_in hides opened same depth Valid

    walk : (p : Pattern) (m : Mark) (t : List Line) (o : Output) (d : ℕ) → Valid p → depth p ≤ d → Goes p m t o d
    walk (bgp ts) m t o d v h = deeper _ d h (Goes (bgp ts) m t o) λ k i.
        rw (number-back (length ts) v.0)
        (then (below false m triples k (length ts)) (line new m (heading BGP) _ o (number-then (length ts) _ (length-map (rename_in_triple new) ts) v.0 no_fields)) λ o.
        walk-triples ns new (tree (λ s. put_line ns new) k) false m keeps ts t o v.1)
    walk (path s x y) m t o d v h = deeper _ d h (Goes (path s x y) m t o) λ k i.
        line new m (heading PATH) t o (term-then keeps refl s (shut-then x refl (term-then keeps refl y no_fields)))
    walk (join p q) m t o d v h = deeper _ d h (Goes (join p q) m t o) λ k i.
        then (λ st. P k m (P k m st)) (line new m (heading JOIN) _ o no_fields) λ o.
        then (P k m) (walk p m (put q t) o k v.0 (omega arith)) λ o.
        walk q m t o k v.1 (omega arith)
    walk (union p q) m t o d v h = deeper _ d h (Goes (union p q) m t o) λ k i.
        then (λ st. P k m (P k m st)) (line new m (heading UNION) _ o no_fields) λ o.
        then (P k m) (walk p m (put q t) o k v.0 (omega arith)) λ o.
        walk q m t o k v.1 (omega arith)
    walk (minus p q) m t o d v h = deeper _ d h (Goes (minus p q) m t o) λ k i.
        then (λ st. P k (under m) (P k m st)) (line new m (heading MINUS) _ o no_fields) λ o.
        then (P k (under m)) (walk p m (put q t) o k v.0 (omega arith)) λ o.
        walk q (under m) t o k v.1 (omega arith)
    walk (leftjoin p q c) m t o d v h = deeper _ d h (Goes (leftjoin p q c) m t o) λ k i.
        let rest = below false m expressions k (ccount c) in
        rw (flag-number c)
        (then (λ st. rest (P k m (P k m st))) (line new m (heading LEFTJOIN) _ o (flag-then c no_fields)) λ o.
        then (λ st. rest (P k m st)) (walk p m (put q (put_c c t)) o k v.0 (omega arith)) λ o.
        then rest (walk q m (put_c c t) o k v.1 (omega arith)) λ o.
        walk_c c false m t o k v.2 (omega arith))
    walk (filter p e) m t o d v h = deeper _ d h (Goes (filter p e) m t o) λ k i.
        then (λ st. E k (P k m st)) (line new m (heading FILTER) _ o no_fields) λ o.
        then (E k) (walk p m (put_e e t) o k v.0 (omega arith)) λ o.
        walk_e e t o k v.1 (omega arith)
    walk (graph n p) m t o d v h = deeper _ d h (Goes (graph n p) m t o) λ k i.
        then (P k m) (line new m (heading GRAPH) _ o (term-then keeps refl n no_fields)) λ o.
        walk p m t o k v.1 (omega arith)
    walk (extend x p e) m t o d v h = deeper _ d h (Goes (extend x p e) m t o) λ k i.
        then (λ st. E k (P k m st)) (line new m (heading EXTEND) _ o (variable-then keeps refl x (variable-is x v.0) no_fields)) λ o.
        then (E k) (walk p m (put_e e t) o k v.1 (omega arith)) λ o.
        walk_e e t o k v.2 (omega arith)
    walk (values cs rs) m t o d v h = deeper _ d h (Goes (values cs rs) m t o) λ k i.
        let rest = below false m rows k (length rs) in
        rw (number-back (length rs) v.1)
        (told (append-nil (marked m cs))
        (then (λ st. rest (below false m columns k 1 st)) (line new m (heading VALUES) ((bytes "cols" ∷ cs) ∷ put_rows rs t) o
        (number-then (length cs) _ (length-map new cs) v.0 (number-then (length rs) _ refl v.1 no_fields))) λ o.
        then rest (line new m columns_row (put_rows rs t) o (columnFields keeps cs v.2)) λ o.
        walk_rows ns new (tree (λ s. put_line ns new) k) false m (length cs) rs t o v.3))
    walk (orderby p os) m t o d v h = deeper _ d h (Goes (orderby p os) m t o) λ k i.
        let rest = below false m orders k (ocount os) in
        rw (number-back (ocount os) v.0)
        (then (λ st. rest (P k m st)) (line new m (heading ORDERBY) _ o (number-then (ocount os) _ (ocount-renamed new os) v.0 no_fields)) λ o.
        then rest (walk p m (put_os os t) o k v.1 (omega arith)) λ o.
        walk_os os false m t o k v.2 (omega arith))
    walk (project cs p) m t o d v h = deeper _ d h (Goes (project cs p) m t o) λ k i.
        then (P k (under m)) (line new m (heading PROJECT) _ o (columnFields keeps cs v.0)) λ o.
        walk p (under m) t o k v.1 (omega arith)
    walk (distinct p) m t o d v h = deeper _ d h (Goes (distinct p) m t o) λ k i.
        then (P k m) (line new m (heading DISTINCT) _ o no_fields) λ o.
        walk p m t o k v (omega arith)
    walk (reduced p) m t o d v h = deeper _ d h (Goes (reduced p) m t o) λ k i.
        then (P k m) (line new m (heading REDUCED) _ o no_fields) λ o.
        walk p m t o k v (omega arith)
    walk (slice a n p) m t o d v h = deeper _ d h (Goes (slice a n p) m t o) λ k i.
        then (P k m) (line new m (heading SLICE) _ o (shut-then a refl (shut-then n refl no_fields))) λ o.
        walk p m t o k v.2 (omega arith)
    walk (group ks p rs) m t o d v h = deeper _ d h (Goes (group ks p rs) m t o) λ k i.
        let rest = below true m aggregates k (acount rs) in
        rw (number-back (acount rs) v.1)
        (then (λ st. rest (P k (under m) (below true m columns k 1 st))) (line new m (heading GROUP) ((bytes "cols" ∷ ks) ∷ put p (put_as rs t)) o
        (number-then (length ks) _ (length-map new ks) v.0 (number-then (acount rs) _ (acount-renamed new rs) v.1 no_fields))) λ o.
        then (λ st. rest (P k (under m) st)) (line new m columns_row (put p (put_as rs t)) o (columnFields keeps ks v.2)) λ o.
        then rest (walk p (under m) (put_as rs t) o k v.3 (omega arith)) λ o.
        walk_as rs true m t o k v.4 (omega arith))
    walk (service n f p) m t o d v h = deeper _ d h (Goes (service n f p) m t o) λ k i.
        muted (variables_of (n ∷ []))
        (then (P k m) (line new m (heading SERVICE) _ o (shut-then n refl (shut-then f refl no_fields))) λ o.
        walk p m t o k v.2 (omega arith))

    walk_e : (e : Expression) (t : List Line) (o : Output) (d : ℕ) → ValidE e → depth_e e ≤ d → GoesE e t o d
    walk_e (term x) t o d v h = deeper _ d h (GoesE (term x) t o) λ k i. line new silent (heading_e TERM) t o (term-then keeps refl x no_fields)
    walk_e (bound x) t o d v h = deeper _ d h (GoesE (bound x) t o) λ k i. line new silent (heading_e BOUND) t o (variable-then keeps refl x (variable-is x v) no_fields)
    walk_e (exists p) t o d v h = deeper _ d h (GoesE (exists p) t o) λ k i.
        then (P k silent) (line new silent (heading_e EXISTS) _ o no_fields) λ o.
        walk p silent t o k v (omega arith)
    walk_e (apply f es) t o d v h = deeper _ d h (GoesE (apply f es) t o) λ k i.
        reached (by_row ns new (spell_o f) (arity_row (arity f)) (put_arity (arity f) (ecount es)) (put_es es t) o k (op_row f)
        ∙ arity-below ns new (tree (λ s. put_line ns new) k) (hides (spell_o f)) silent (arity f) (ecount es) _ _ v.0)
        (then (below (hides (spell_o f)) silent expressions k (ecount es)) (line new silent (heading_e (OP f)) _ o (arity-fields (arity f) (ecount es) _ (count-renamed new es) v.0)) λ o.
        walk_es es (hides (spell_o f)) silent t o k v.1 (omega arith))
    walk_e (call n es) t o d v h = deeper _ d h (GoesE (call n es) t o) λ k i.
        rw (number-back (ecount es) v.1)
        (then (below false silent expressions k (ecount es)) (line new silent (heading_e CALL) _ o (shut-then n refl (number-then (ecount es) _ (count-renamed new es) v.1 no_fields))) λ o.
        walk_es es false silent t o k v.2 (omega arith))

    walk_c : (c : Condition) (hide : Bool) (m : Mark) (t : List Line) (o : Output) (d : ℕ) → ValidC c → depth_c c ≤ d
        → After ns o (put_c (rename_in_condition new c)) (places_c c) t (below hide m expressions d (ccount c) (state (put_c c t) o))
    walk_c always hide m t o d v h = none_after
    walk_c (provided e) hide m t o d v h = walk_e e t o d v h

    walk_es : (es : Expressions) (hide : Bool) (m : Mark) (t : List Line) (o : Output) (d : ℕ) → ValidEs es → depth_es es ≤ d
        → After ns o (put_es (rename_in_expressions new es)) (places_es es) t (below hide m expressions d (ecount es) (state (put_es es t) o))
    walk_es eend hide m t o d v h = none_after
    walk_es (econs e es) hide m t o d v h =
        then (below hide m expressions d (ecount es)) (walk_e e (put_es es t) o d v.0 (omega arith)) λ o.
        walk_es es hide m t o d v.1 (omega arith)

    walk_os : (os : Orders) (hide : Bool) (m : Mark) (t : List Line) (o : Output) (d : ℕ) → ValidOs os → depth_os os ≤ d
        → After ns o (put_os (rename_in_orders new os)) (places_os os) t (below hide m orders d (ocount os) (state (put_os os t) o))
    walk_os oend hide m t o d v h = none_after
    walk_os (ocons a e os) hide m t o d v h =
        let rest = below hide m orders d (ocount os) in
        reached (ap rest (by-direction ns new (tree (λ s. put_line ns new) d) m a (put_e e (put_os os t)) o))
        (then (λ st. rest (E d st)) (line new m (order_row a) _ o no_fields) λ o.
        then rest (walk_e e (put_os os t) o d v.0 (omega arith)) λ o.
        walk_os os hide m t o d v.1 (omega arith))

    walk_as : (rs : Aggregates) (hide : Bool) (m : Mark) (t : List Line) (o : Output) (d : ℕ) → ValidAs rs → depth_as rs ≤ d
        → After ns o (put_as (rename_aggregates new rs)) (places_as rs m) t (below hide m aggregates d (acount rs) (state (put_as rs t) o))
    walk_as aend hide m t o d v h = none_after
    walk_as (agg x n f e rs) hide m t o d v h =
        let rest = below hide m aggregates d (acount rs) in
        then (λ st. rest (E d st)) (line new m (heading_a AGG) _ o (variable-then keeps refl x (variable-is x v.0) (shut-then n refl (shut-then f refl no_fields)))) λ o.
        then rest (walk_e e (put_as rs t) o d v.3 (omega arith)) λ o.
        walk_as rs hide m t o d v.4 (omega arith)
    walk_as (aggall x f rs) hide m t o d v h =
        then (below hide m aggregates d (acount rs)) (line new m (heading_a AGGALL) _ o (variable-then keeps refl x (variable-is x v.0) (shut-then f refl no_fields))) λ o.
        walk_as rs hide m t o d v.2 (omega arith)

  -- a whole tree: the renamed tree's text before whatever lines are written next, and its places
  pub walk_before : (p : Pattern) (m : Mark) (d : ℕ) (o : Output) → Valid p → depth p ≤ d → After ns o (put (rename_in_graph_pattern new p)) (places p m) [] (tree (λ s. put_line ns new) d patterns m (state (put p []) o))
  walk_before p m d o v h = walk p m [] o d v h
