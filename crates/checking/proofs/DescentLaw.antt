-- The descent and the line machine's run: one after the other, and each way out of a line. Assumes nothing.
use Prim.Native.Nat.{ℕ, zero, suc, ◌+◌, ◌-◌, ◌/◌, ◌%◌, ◌≤◌, ◌<◌}
use mathlib.Core.Path.{◌≡◌, refl, sym, ◌∙◌, ap, ap₂, subst}
use mathlib.Core.List.{List, [], ◌∷◌, ◌++◌, append_assoc}
use native.Mathlib.Numerals.{add-one}
use native.Mathlib.Omega.{arith}
use lib.ListN.{length, replicate}
use Rattle.algebra.specs.bridge.Table.{Below}
use Rattle.words.specs.declared.Row.{Row as Code}
use Rattle.text.specs.Text.{Bytes, Line, split, part, First, lines_from}
use Rattle.text.proofs.Places.{lines_end, lines-open, lines_next}
use Rattle.cursor.specs.declared.Cursor.{Cursor}
use Rattle.cursor.specs.bridge.Cursor.{line_at, line_done}
use Rattle.algebra.specs.Tally.{Tally, bounds}
use Rattle.algebra.specs.Reader.{Refusal, malformed, over_bound, refused}
use Rattle.algebra.specs.bridge.Machine.{Want, want, wants, More, Demand, Check, bad, run, line_of}
use Rattle.names.specs.bridge.Names.{Holds}
use Rattle.words.specs.bridge.Code.{sort_at, row_of}
use Rattle.checking.specs.declared.place.Place.{Place}
use Rattle.lines.specs.declared.line.Asked.{Asked}
use Rattle.lines.specs.bridge.Says.{Line as Read, LineIs, Heads, below}
use Rattle.lines.specs.bridge.Below.{amount_in, groups}
use Rattle.checking.specs.bridge.Run.{Reached, refusal, Ready, Ahead, Stood, Went}
use Rattle.lines.proofs.BelowLaw.{below-groups, groups_none}
use Rattle.checking.proofs.RunLaw.{run-open, run-refused, run-next, run-missing}
use Rattle.std.specs.Prelude.{Ok, Err, IfOk}
use Rattle.algebra.specs.declared.Fault.{Fault}
use Rattle.algebra.specs.declared.Fault.TheVariants.{Malformed, OverBound}

-- ---- one after the other

module _ (s : Bytes) (ρ : More) where
  -- a fault ends it, whatever is to come
  pub went-stop : (a b h : List ℕ) (us ws : List Want) (x : Check) (f : Fault) → Went s a b h ρ us x (Err f) → Went s a b h ρ ws x (Err f)
  unfolding Went
  went-stop a b h us ws x f w = w

  pub went_on : (a b h a' b' h' : List ℕ) (us ws : List Want) (x : Check) (p : Place) (r : Reached) → Went s a b h ρ us x (Ok p)
      → ((m : Tally) → Stood s a b h p m → Went s a' b' h' ρ ws (run bounds (lines_from s p.cursor.at) ρ us m) r) → Went s a' b' h' ρ ws x r
  unfolding Went
  went_on a b h a' b' h' us ws x p r w f = subst (λ y. Went s a' b' h' ρ ws y r) (sym w.1) (f w.0 w.2)

  pub went-here : (a b h : List ℕ) (ws : List Want) (p : Place) (m : Tally) → Stood s a b h p m → Went s a b h ρ ws (run bounds (lines_from s p.cursor.at) ρ ws m) (Ok p)
  unfolding Went
  went-here a b h ws p m st = (m, refl, st)

  pub went-bad : (a b h : List ℕ) (ws : List Want) (x : Check) (f : Fault) → x ≡ bad (refusal f) → Went s a b h ρ ws x (Err f)
  unfolding Went
  went-bad a b h ws x f e = e

  pub went-as : (a b h : List ℕ) (us ws : List Want) (x : Check) (r : Reached) → us ≡ ws → Went s a b h ρ us x r → Went s a b h ρ ws x r
  went-as a b h us ws x r e w = subst (λ v. Went s a b h ρ v x r) e w

-- ---- a place told by another cursor

pub record SamePlace (p q : Place) : Type 0 where
  pub at : q.cursor.at ≡ p.cursor.at
  pub lines : q.lines ≡ p.lines
  pub names : q.n ≡ p.n

pub stood-moved : (s a b h : List ℕ) (p q : Place) (m : Tally) → SamePlace p q → Stood s a b h q m → Stood s a b h p m
stood-moved s a b h p q m e st = record { lines = st.lines ∙ e.lines; wide = st.wide; names = subst (λ (n : ℕ). Holds s a b h n m.names) e.names st.names }

-- another cursor that stands there
pub other-cursor : (p : Place) (c : Cursor) → c.at ≡ p.cursor.at → SamePlace p (record { cursor = c; lines = p.lines; n = p.n; spots = p.spots; nodes = p.nodes })
other-cursor p c e = record { at = e; lines = refl; names = refl }

pub ready_moved : (s : Bytes) (p q : Place) → SamePlace p q → Ready s p → Ready s q
ready_moved s p q e r = record { short = r.short; few = (let a = e.at in let b = e.lines in let f = r.few in omega (arith, a, b, f)) }

-- what is ahead, from a line on, and from a place that is told by another cursor and awaits one line
pub ahead-then : (s : Bytes) (p : Place) (sort level : ℕ) (q : Place) (r : Reached) → Ahead s p sort level q → IfOk r (λ x. (q.cursor.at ≤ x.cursor.at) × Ready s x) → IfOk r (λ x. Ahead s p sort level x)
ahead-then s p sort level q (Ok x) a u = record { behind = (let b = a.behind in let v = u.0 in omega (arith, b, v)); ready = u.1; deep = a.deep }
ahead-then s p sort level q (Err f) a u = tt

pub ahead-one : (s : Bytes) (p : Place) (sort level : ℕ) (q : Place) (r : Reached) → q.cursor.at ≡ p.cursor.at → q.cursor.awaited ≡ 1 → IfOk r (λ x. (q.cursor.at ≤ x.cursor.at) × Ready s x × (0 < q.cursor.awaited → Ahead s q sort level x)) → IfOk r (λ x. Ahead s p sort level x)
ahead-one s p sort level q (Ok x) e one u = let a = u.2 (omega (arith, one)) in record { behind = (let b = a.behind in omega (arith, b, e)); ready = a.ready; deep = a.deep }
ahead-one s p sort level q (Err f) e one u = tt

pub went-moved : (s : Bytes) (a b h : List ℕ) (ρ : More) (ws : List Want) (x : Check) (p q : Place) → SamePlace p q → Went s a b h ρ ws x (Ok p) → Went s a b h ρ ws x (Ok q)
unfolding Went
went-moved s a b h ρ ws x p q e w = (
  w.0,
  w.1 ∙ ap (λ (i : ℕ). run bounds (lines_from s i) ρ ws w.0) (sym e.at),
  record { lines = w.2.lines ∙ sym e.lines; wide = w.2.wide; names = subst (λ (n : ℕ). Holds s a b h n w.0.names) (sym e.names) w.2.names },
)

-- ---- a line

module _ (s a b h : List ℕ) (ρ : More) (ws : List Want) (sort level width : ℕ) (p : Place) (m : Tally) where
  abbrev this : Want
  this = want (sort_at sort) level width

  pub line-missing : (us : List Want) → length s ≤ p.cursor.at → Went s a b h ρ us (run bounds (lines_from s p.cursor.at) ρ (this ∷ ws) m) (Err Malformed)
  line-missing us e = went-bad s ρ a b h us _ Malformed (ap (λ (ls : List Line). run bounds ls ρ (this ∷ ws) m) (lines_end s p.cursor.at e) ∙ run-missing ρ this ws m)

  -- a line from here to its end
  module _ (c : Cursor) (at : c ≡ line_at p.cursor c.end) (first : First 10 s p.cursor.at (length s) c.end) where
    pub line-open : (us : List Want) → p.cursor.at < length s → c.end ≡ length s → Went s a b h ρ us (run bounds (lines_from s p.cursor.at) ρ (this ∷ ws) m) (Err Malformed)
    line-open us low e = went-bad s ρ a b h us _ Malformed (ap (λ (ls : List Line). run bounds ls ρ (this ∷ ws) m) (lines-open s p.cursor.at c.end low first e) ∙ run-open ρ (this ∷ ws) m)

    module _ (ended : c.end < length s) (l : Read) (is : LineIs s a b h c sort level width m l) where
      here : run bounds (lines_from s p.cursor.at) ρ (this ∷ ws) m ≡ run bounds (split 9 (part p.cursor.at c.end s) ∷ lines_from s (c.end + 1)) ρ (this ∷ ws) m
      here = ap (λ (ls : List Line). run bounds ls ρ (this ∷ ws) m) (lines_next s p.cursor.at c.end first ended)

      abbrev asked-for : Demand
      asked-for = record { this = this; behind = ws; again = ρ }

      refused-here : (n : Refusal) → line_of bounds this (split 9 (part p.cursor.at c.end s) ∷ []) m ≡ refused n → run bounds (lines_from s p.cursor.at) ρ (this ∷ ws) m ≡ bad n
      refused-here n q = here ∙ run-refused (lines_from s (c.end + 1)) (split 9 (part p.cursor.at c.end s)) ρ (this ∷ ws) m asked-for refl n q

      -- the same line, told by the place
      as-told : (k : Read) → l ≡ k → LineIs s a b h (line_at p.cursor c.end) sort level width m k
      as-told k e = subst (LineIs s a b h (line_at p.cursor c.end) sort level width m) e (subst (λ (d : Cursor). LineIs s a b h d sort level width m l) at is)

      pub line-refused : (us : List Want) (f : Fault) → l ≡ Err f → Went s a b h ρ us (run bounds (lines_from s p.cursor.at) ρ (this ∷ ws) m) (Err f)
      unfolding LineIs
      line-refused us Malformed e = went-bad s ρ a b h us _ Malformed (refused-here malformed (as-told (Err Malformed) e))
      line-refused us OverBound e = went-bad s ρ a b h us _ OverBound (refused-here over_bound (as-told (Err OverBound) e))

      pub line-asks : (x : Asked) → l ≡ Ok x → m.lines ≡ p.lines → (d : Cursor) → d ≡ line_done c → (nodes : ℕ)
          → Went s a b h ρ (groups 3 x.row.below (below sort level) x.first x.second ++ ws) (run bounds (lines_from s p.cursor.at) ρ (this ∷ ws) m) (Ok (record { cursor = d; lines = p.lines + 1; n = x.names; spots = x.spots; nodes = nodes }))
      unfolding LineIs Went
      line-asks x e same d done nodes =
          let q = as-told (Ok x) e in
          let to : lines_from s (c.end + 1) ≡ lines_from s d.at = ap (λ (k : Cursor). lines_from s k.at) (sym done) in (
            q.1,
            here
                ∙ run-next (lines_from s (c.end + 1)) (split 9 (part p.cursor.at c.end s)) ρ (this ∷ ws) m asked-for refl (wants (below sort level) q.0 (row_of x.row).below) q.1 q.2
                ∙ ap₂ (λ (ls : List Line) (v : List Want). run bounds ls ρ (v ++ ws) q.1) to (below-groups (below sort level) q.0 3 x.row.below ∙ ap₂ (λ i j. groups 3 x.row.below (below sort level) i j) q.3 q.4),
            record { lines = q.7 ∙ (ap suc same ∙ sym (add-one p.lines)); wide = q.8; names = q.9 },
          )

-- ---- what a line asks for

module _ (s : Bytes) (ρ : More) (ws : List Want) (x : Check) (n level first second : ℕ) where
  pub alone-went : (a b h : List ℕ) (r : Reached) → n ≡ 0 → Went s a b h ρ (groups 3 n level first second ++ ws) x r → Went s a b h ρ ws x r
  alone-went a b h r e w = went-as s ρ a b h _ ws x r (ap (λ (i : ℕ). groups 3 i level first second ++ ws) e ∙ ap (λ (v : List Want). v ++ ws) (groups_none 3 level first second)) w

  pub below-went : (a b h a' b' h' : List ℕ) (p : Place) (r : Reached) (d : ℕ) → d ≡ level → Went s a b h ρ (groups 3 n level first second ++ ws) x (Ok p)
      → ((ρ : More) (ws : List Want) (m : Tally) → Stood s a b h p m → Went s a' b' h' ρ ws (run bounds (lines_from s p.cursor.at) ρ (groups 3 n d first second ++ ws) m) r) → Went s a' b' h' ρ ws x r
  below-went a b h a' b' h' p r d e w f = went_on s ρ a b h a' b' h' (groups 3 n d first second ++ ws) ws x p r (subst (λ (l : ℕ). Went s a b h ρ (groups 3 n l first second ++ ws) x (Ok p)) (sym e) w) (λ m st. f ρ ws m st)

-- ---- groups in turn

-- of what was to come at p, the vs are left at r
abbrev pub Rest : Bytes → List ℕ → List ℕ → List ℕ → Place → List ℕ → List ℕ → List ℕ → List Want → List Want → Reached → Type 0
Rest s a b h p a' b' h' us vs r = (ρ : More) (ws : List Want) (m : Tally) → Stood s a b h p m → Went s a' b' h' ρ (vs ++ ws) (run bounds (lines_from s p.cursor.at) ρ (us ++ ws) m) r

abbrev pub Goes : Bytes → List ℕ → List ℕ → List ℕ → Place → List ℕ → List ℕ → List ℕ → List Want → Reached → Type 0
Goes s a b h p a' b' h' us r = Rest s a b h p a' b' h' us [] r

-- a fault ends it, whatever is to come
pub rest-stop : (s a b h : List ℕ) (p : Place) (a' b' h' : List ℕ) (us vs ts : List Want) (f : Fault) → Rest s a b h p a' b' h' us vs (Err f) → Rest s a b h p a' b' h' us ts (Err f)
rest-stop s a b h p a' b' h' us vs ts f g ρ ws m st = went-stop s ρ a' b' h' (vs ++ ws) (ts ++ ws) _ f (g ρ ws m st)

-- from a place that is told by another cursor
pub rest-moved : (s a b h : List ℕ) (p q : Place) (a' b' h' : List ℕ) (us vs : List Want) (r : Reached) → SamePlace p q → Rest s a b h q a' b' h' us vs r → Rest s a b h p a' b' h' us vs r
rest-moved s a b h p q a' b' h' us vs r e g ρ ws m st =
    subst (λ (i : ℕ). Went s a' b' h' ρ (vs ++ ws) (run bounds (lines_from s i) ρ (us ++ ws) m) r) e.at (g ρ ws m (stood-moved s a b h q p m (record { at = sym e.at; lines = sym e.lines; names = sym e.names }) st))

-- one after the other
pub rest_then : (s a b h : List ℕ) (p : Place) (a' b' h' : List ℕ) (us vs : List Want) (q : Place) (a'' b'' h'' : List ℕ) (ws : List Want) (r : Reached) → Rest s a b h p a' b' h' us vs (Ok q) → Rest s a' b' h' q a'' b'' h'' vs ws r → Rest s a b h p a'' b'' h'' us ws r
rest_then s a b h p a' b' h' us vs q a'' b'' h'' ws r f g ρ ts m st = went_on s ρ a' b' h' a'' b'' h'' (vs ++ ts) (ws ++ ts) _ q r (f ρ ts m st) (λ m' st'. g ρ ts m' st')

-- to a place that is told by another cursor
pub rest-to : (s a b h : List ℕ) (p : Place) (a' b' h' : List ℕ) (us vs : List Want) (q r : Place) → SamePlace q r → Rest s a b h p a' b' h' us vs (Ok q) → Rest s a b h p a' b' h' us vs (Ok r)
rest-to s a b h p a' b' h' us vs q r e f ρ ws m st = went-moved s a' b' h' ρ (vs ++ ws) _ q r e (f ρ ws m st)

-- the same wants, told otherwise
pub rest-as : (s a b h : List ℕ) (p : Place) (a' b' h' : List ℕ) (us vs ts : List Want) (r : Reached) → vs ≡ ts → Rest s a b h p a' b' h' us vs r → Rest s a b h p a' b' h' us ts r
rest-as s a b h p a' b' h' us vs ts r e f = subst (λ (v : List Want). Rest s a b h p a' b' h' us v r) e f

-- a query's head asks for its tree
pub head-goes : (s a b h : List ℕ) (p : Place) (a' b' h' : List ℕ) (us : List Want) (level : ℕ) (row : Code) (first second : ℕ) (r : Reached) → Heads row first → Rest s a b h p a' b' h' us (groups 3 row.below level first second) r
    → Rest s a b h p a' b' h' us (want (sort_at 2) level 0 ∷ []) r
head-goes s a b h p a' b' h' us level row first second r k f = rest-as s a b h p a' b' h' us (groups 3 row.below level first second) (want (sort_at 2) level 0 ∷ []) r asked f
  where
    asked : groups 3 row.below level first second ≡ want (sort_at 2) level 0 ∷ []
    asked = sym (below-groups level (first ∷ second ∷ []) 3 row.below) ∙ ap₂ (λ (bs : List Below) (n : ℕ). wants level (n ∷ second ∷ []) bs) k.below k.none

pub rest-begin : (s a b h : List ℕ) (p : Place) (us : List Want) → Rest s a b h p a b h us us (Ok p)
rest-begin s a b h p us ρ ws m st = went-here s ρ a b h (us ++ ws) p m st

module _ (s a b h : List ℕ) (p : Place) (a' b' h' : List ℕ) (us : List Want) (q : Place) where
  -- the groups of a number are left: the first of them is next
  pub rest-next : (k n level first second : ℕ) → Rest s a b h p a' b' h' us (groups (suc k) n level first second) (Ok q) → (times : ℕ) → times ≡ amount_in (n % 4) (n / 4 % 8) first second → (a'' b'' h'' : List ℕ) (r : Reached)
      → Goes s a' b' h' q a'' b'' h'' (replicate times (want (sort_at (n / 32 % 16)) level first)) r → Rest s a b h p a'' b'' h'' us (groups k (n / 512) level first second) r
  unfolding groups
  rest-next k n level first second f times e a'' b'' h'' r g ρ ws m st =
      let vs = replicate (amount_in (n % 4) (n / 4 % 8) first second) (want (sort_at (n / 32 % 16)) level first) in
      let ts = groups k (n / 512) level first second in
      let g' : Goes s a' b' h' q a'' b'' h'' vs r = subst (λ (i : ℕ). Goes s a' b' h' q a'' b'' h'' (replicate i (want (sort_at (n / 32 % 16)) level first)) r) e g in
      went_on s ρ a' b' h' a'' b'' h'' (vs ++ (ts ++ ws)) (ts ++ ws) _ q r (went-as s ρ a' b' h' _ _ _ (Ok q) (append_assoc vs ts ws) (f ρ ws m st)) (λ m' st'. g' ρ (ts ++ ws) m' st')

  pub rest-done : (k n level first second : ℕ) → Rest s a b h p a' b' h' us (groups k n level first second) (Ok q) → n ≡ 0 → Goes s a b h p a' b' h' us (Ok q)
  rest-done k n level first second f e = rest-as s a b h p a' b' h' us _ [] (Ok q) (ap (λ (i : ℕ). groups k i level first second) e ∙ groups_none k level first second) f

-- ---- so many lines

-- of n lines k are left
abbrev pub Lines : Bytes → List ℕ → List ℕ → List ℕ → Place → List ℕ → List ℕ → List ℕ → Want → ℕ → ℕ → Reached → Type 0
Lines s a b h p a' b' h' w n k r = Rest s a b h p a' b' h' (replicate n w) (replicate k w) r

rep_next : (k : ℕ) (w : Want) → 0 < k → replicate k w ≡ w ∷ replicate (k - 1) w
rep_next zero w h = absurd (omega arith)
rep_next (suc k) w h = ap (λ (i : ℕ). w ∷ replicate i w) (let e : k ≡ suc k - 1 = omega arith in e)

pub lines-moved : (s a b h : List ℕ) (p : Place) (a' b' h' : List ℕ) (w : Want) (n k : ℕ) (q r : Place) → SamePlace q r → (i : ℕ) → i ≡ k → Lines s a b h p a' b' h' w n k (Ok q) → Lines s a b h p a' b' h' w n i (Ok r)
lines-moved s a b h p a' b' h' w n k q r e i c ls = rest-to s a b h p a' b' h' (replicate n w) (replicate i w) q r e (subst (λ (j : ℕ). Lines s a b h p a' b' h' w n j (Ok q)) (sym c) ls)

module _ (s a b h : List ℕ) (p : Place) (a' b' h' : List ℕ) (w : Want) (n k : ℕ) (q : Place) (ls : Lines s a b h p a' b' h' w n k (Ok q)) where
  pub lines-one : 0 < k → (a'' b'' h'' : List ℕ) (r : Reached) → Goes s a' b' h' q a'' b'' h'' (w ∷ []) r → Lines s a b h p a'' b'' h'' w n (k - 1) r
  lines-one up a'' b'' h'' r f ρ ws m st = went_on s ρ a' b' h' a'' b'' h'' (w ∷ (replicate (k - 1) w ++ ws)) (replicate (k - 1) w ++ ws) _ q r
      (went-as s ρ a' b' h' _ _ _ (Ok q) (ap (λ (v : List Want). v ++ ws) (rep_next k w up)) (ls ρ ws m st)) (λ m' st'. f ρ (replicate (k - 1) w ++ ws) m' st')

  pub lines-all : k ≤ 0 → Goes s a b h p a' b' h' (replicate n w) (Ok q)
  lines-all e = rest-as s a b h p a' b' h' (replicate n w) _ [] (Ok q) (ap (λ (i : ℕ). replicate i w) (let z : k ≡ 0 = omega arith in z)) ls

-- one line, from a place that is told by another cursor
pub goes_one : (s a b h : List ℕ) (p q : Place) (a' b' h' : List ℕ) (w : Want) (n : ℕ) (r : Reached) → SamePlace p q → n ≡ 1 → Goes s a b h q a' b' h' (replicate n w) r → Goes s a b h p a' b' h' (w ∷ []) r
goes_one s a b h p q a' b' h' w n r e o g = rest-moved s a b h p q a' b' h' (w ∷ []) [] r e (subst (λ (k : ℕ). Goes s a b h q a' b' h' (replicate k w) r) o g)
