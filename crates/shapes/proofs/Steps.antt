-- A line and all below it, line by line. Assumes nothing.
use Prim.Native.Nat.{ℕ, zero, suc, ◌+◌, ◌-◌, ◌≤◌, ◌<◌, max}
use mathlib.Core.Path.{◌≡◌, refl, sym, ap, subst, ◌∙◌}
use mathlib.Core.Bool.{Bool, true, false, cond}
use mathlib.Core.Logic.{⊎_elim}
use mathlib.Core.List.{List, [], ◌∷◌}
use native.Mathlib.Omega.{arith}
use lib.ListN.{length, get_or}
use lib.Dec.{eqb}
use Rattle.text.specs.Text.{Bytes, Line, onto, split, part, lines_from, First}
use Rattle.text.proofs.Places.{lines_end, lines_next}
use Rattle.algebra.specs.Valid.{mem}
use Rattle.words.specs.bridge.Key.{Keyed, key_in}
use Rattle.words.proofs.ByKey.{small, tells, all_words, in-by-key}
use Rattle.cursor.specs.bridge.Cursor.{left}
use Rattle.cursor.proofs.Laws.{line-there}
use Rattle.reader.specs.bridge.Lines.{LineEnd}
use Rattle.reader.proofs.Laws.{nothing-here}
use Rattle.walking.proofs.Laws.{line-split}
use Rattle.filtering.specs.bridge.Copying.{to_come}
use Rattle.shapes.specs.declared.Reached.{Reached}
use Rattle.shapes.specs.bridge.Shape.{flat, level_of, again, shaped, ended_lines, Passes, Going}

-- ---- a line's level

module _ (s : Bytes) (from end w : ℕ) (low : from ≤ end) (high : end < length s) (f : First 9 s from end w) (k : ℕ) (keyed : Keyed (part from w s) k) where
  word-is : get_or (split 9 (part from end s)) 0 [] ≡ part from w s
  word-is = ap (λ (l : Line). get_or l 0 []) (line-split s from end w high low f)

  is-flat-word : (b : Bool) → b ≡ key_in k flat → mem (part from w s) flat ≡ b
  unfolding small tells all_words
  is-flat-word b e = in-by-key (part from w s) k keyed flat refl ∙ sym e

  level-is : (b : Bool) → b ≡ key_in k flat → (d : ℕ) → level_of d (get_or (split 9 (part from end s)) 0 []) ≡ cond b d (suc d)
  unfolding level_of
  level-is b e d = ap (λ (x : Bytes). level_of d x) word-is ∙ ap (λ (c : Bool). cond c d (suc d)) (is-flat-word b e)

  pub flat-level : (b : Bool) → b ≡ key_in k flat → b ≡ true → (d : ℕ) → d ≡ level_of d (get_or (split 9 (part from end s)) 0 [])
  flat-level b e t d = sym (level-is b e d ∙ ap (λ (c : Bool). cond c d (suc d)) t)

  pub next_level : (b : Bool) → b ≡ key_in k flat → b ≡ false → (d : ℕ) → d + 1 ≡ level_of d (get_or (split 9 (part from end s)) 0 [])
  next_level b e t d = let x = level-is b e d ∙ ap (λ (c : Bool). cond c d (suc d)) t in omega (arith, x)

-- ---- the walk

-- the line from a place, by a cursor that stands there
pub line_at : (s : Bytes) (a b end : ℕ) → a ≡ b → First 10 s a (length s) end → LineEnd s b end
line_at s a b end e f = subst (λ (k : ℕ). LineEnd s k end) e (line-there s a end f)

-- a line that is ended has a field
some-fields : (x : Bytes) → (f : Bytes) × (fs : List Bytes) × (split 9 x ≡ f ∷ fs)
unfolding split onto
some-fields [] = ([], [], refl)
some-fields (b ∷ x) = go (eqb b 9) (some-fields x)
  where
    go : (t : Bool) → (f : Bytes) × (fs : List Bytes) × (split 9 x ≡ f ∷ fs) → (f : Bytes) × (fs : List Bytes) × (cond t ([] ∷ split 9 x) (onto b (split 9 x)) ≡ f ∷ fs)
    go true y = ([], split 9 x, refl)
    go false (f, fs, e) = (b ∷ f, fs, ap (onto b) e)

module _ (s : Bytes) (level at lines depth : ℕ) (at_high : at ≤ length s) (few : lines ≤ at) (end : ℕ) (l : LineEnd s at end) where
  -- no line is left
  pub none_left : end ≡ length s → Passes s level at lines depth (record { at = end; lines = lines; depth = depth })
  unfolding shaped ended_lines
  none_left e =
      let z = lines_end s end (omega arith) in
      record {
        on = omega arith;
        high = l.high;
        few = omega arith;
        lines = ⊎_elim (λ (x : lines_from s at ≡ []). rw (z, x)) (λ (x : lines_from s at ≡ [] ∷ []). rw (z, x)) (nothing-here s at end l e);
        depth = λ ws. ⊎_elim (λ (x : lines_from s at ≡ []). rw (z, x)) (λ (x : lines_from s at ≡ [] ∷ []). rw (z, x)) (nothing-here s at end l e);
      }

  module _ (more : end ≡ length s → ⊥) where
    inside : end < length s
    inside = let h = l.high in omega arith

    pub line_low : at ≤ end
    line_low = (l.ends inside).low

    this-line : lines_from s at ≡ split 9 (part at end s) ∷ lines_from s (end + 1)
    this-line = lines_next s at end (l.ends inside) inside

    -- a line was taken, and all lines below it were passed
    pub taken : (d n m : ℕ) → d ≡ level_of level (get_or (split 9 (part at end s)) 0 []) → n ≡ to_come (split 9 (part at end s)) → m ≡ max depth d
        → (r : Reached) (left : ℕ) → Going s d n (record { at = end + 1; lines = lines + 1; depth = m }) left r → left ≤ 0 → Passes s level at lines depth r
    unfolding shaped ended_lines again
    taken d n m e c x r (suc left) g h = absurd (omega arith)
    taken d n m e c x r zero g h = go (some-fields (part at end s))
      where
        go : (f : Bytes) × (fs : List Bytes) × (split 9 (part at end s) ≡ f ∷ fs) → Passes s level at lines depth r
        go (f, fs, q) =
            let j = line_low in
            let k = g.on in
            let t : lines_from s at ≡ (f ∷ fs) ∷ lines_from s (end + 1) = this-line ∙ ap (λ (y : Line). y ∷ lines_from s (end + 1)) q in
            let a : d ≡ level_of level f = e ∙ ap (λ (y : Line). level_of level (get_or y 0 [])) q in
            let b : n ≡ to_come (f ∷ fs) = c ∙ ap to_come q in
            let u = g.lines in
            let v = ap ended_lines t in
            record {
              on = omega arith;
              high = g.high;
              few = g.few;
              lines = omega (arith, u, v);
              depth = λ ws. ap (λ (ls : List Line). shaped ls (level ∷ ws) depth) t ∙ sym (λ i. shaped (lines_from s (end + 1)) (again (b i) (a i) ws) ((x ∙ ap (max depth) a) i)) ∙ g.depth ws;
            }

module _ (s : Bytes) (d n : ℕ) (p : Reached) where
  pub begun : (left : ℕ) → left ≡ n → p.at ≤ length s → p.lines ≤ p.at → d ≤ p.at → Going s d n p left p
  begun left e h f l = rw e (record { on = omega arith; high = h; few = f; low = l; lines = refl; depth = λ ws. refl })

  stepped : (left : ℕ) (r : Reached) → Going s d n p left r → 0 < left → (q : Reached) → Passes s d r.at r.lines r.depth q → Going s d n p (left - 1) q
  unfolding again
  stepped zero r g h q x = absurd (omega arith)
  stepped (suc m) r g h q x =
      let a = g.on in
      let b = x.on in
      let c = g.low in
      let k : suc m - 1 ≡ m = omega arith in
      record {
        on = omega arith;
        high = x.high;
        few = x.few;
        low = omega arith;
        lines = x.lines ∙ g.lines;
        depth = λ ws. g.depth ws ∙ x.depth (again m d ws) ∙ ap (λ (y : ℕ). shaped (lines_from s q.at) (again y d ws) q.depth) (sym k);
      }

  pub behind : (left : ℕ) (r : Reached) → Going s d n p left r → 0 < left → (q : Reached) → Passes s d r.at r.lines r.depth q → (m : ℕ) → m ≡ left - 1 → Going s d n p m q
  behind left r g h q x m e = subst (λ (y : ℕ). Going s d n p y q) (sym e) (stepped left r g h q x)
