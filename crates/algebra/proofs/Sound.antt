-- What is read as a tree was written so: the lines are its layout, it is well formed, and it is within the bounds. Assumes nothing.
use mathlib.Core.Path.{◌≡◌, refl}
use mathlib.Core.List.{List}
use Prim.Native.Nat.{ℕ, zero, suc, ◌≤◌}
use native.Mathlib.Omega.{arith}
use Rattle.text.specs.Text.{Line}
use Rattle.text.specs.Field.{variable, node, plain, name, integer, limit, flag, opaque}
use Rattle.algebra.specs.Tree.{Pattern, Expression}
use Rattle.algebra.specs.Word.{spell_e, spell_p, PatternWord, BGP, PATH, JOIN, UNION, MINUS, LEFTJOIN, FILTER, GRAPH, EXTEND, VALUES, ORDERBY, PROJECT, DISTINCT, REDUCED, SLICE, GROUP, SERVICE, ExpressionWord, TERM, BOUND, EXISTS, CALL, OP, pattern_words, expression_words, arity}
use Rattle.algebra.specs.Layout.{put_arity, put, put_e, put_es}
use Rattle.algebra.specs.Valid.{Valid, ValidE}
use Rattle.algebra.specs.Depth.{depth, depth_e}
use Rattle.algebra.specs.Tally.{Limits, Tally, tally, tally_e}
use Rattle.algebra.specs.Reader.{over_bound, got}
use Rattle.algebra.specs.Reading.{Inside, pattern_after, expression_after, pattern_in, expression_in, inside}
use Rattle.algebra.proofs.Grow.{In}
use Rattle.algebra.proofs.Fields.{never, done, push, pushes-line, inv, field-sound, number_read, word_sound, zero_one-sound, taken-sound, rest-sound, close-sound}
use Rattle.algebra.proofs.SoundLines.{triples-sound, columns-sound, rows-sound, Level, expressions-sound, condition-sound, orders-sound, aggregates-sound}

module _ (β : Limits) (d : ℕ) (r : Inside) (ok : Level β d r) where
  abbrev Good : List Line → Tally → Pattern → List Line → Tally → Type 0
  Good s m p t l = (l ≡ tally p m) × In β (tally p m) × ((s ≡ put p t) × Valid p × (depth p ≤ d))

  after-sound : (w : PatternWord) (s t : List Line) (m l : Tally) (p : Pattern) → In β m → pattern_after β r w s m ≡ got p t l → Good (push (spell_p w) s) m p t l
  unfolding pattern_after put Valid depth tally
  after-sound BGP s t m l p o h =
      inv β _ _ _ (number_read β) o h λ n s0 x0 o h0.
      inv β _ _ _ (ok.close _) o h0 λ u s1 x1 o h1.
      inv β _ _ _ (triples-sound β n) o h1 λ ts s2 x2 o q.
      done (Good (push (spell_p BGP) s) m) q (refl, o, (rw (x0.0, x1.0, x2.0, x2.2), (rw x2.2 x0.1, x2.1), x1.1))
  after-sound PATH s t m l p o h =
      inv β _ _ _ (field-sound β node) o h λ a s0 x0 o h0.
      inv β _ _ _ (field-sound β opaque) o h0 λ b s1 x1 o h1.
      inv β _ _ _ (field-sound β node) o h1 λ c s2 x2 o h2.
      inv β _ _ _ (ok.close _) o h2 λ u s3 x3 o q.
      done (Good (push (spell_p PATH) s) m) q (refl, o, (rw (x0.0, x1.0, x2.0, x3.0), (x0.1, x1.1, x2.1), x3.1))
  after-sound JOIN s t m l p o h =
      inv β _ _ _ (ok.close _) o h λ u s0 x0 o h0.
      inv β _ _ _ ok.pattern o h0 λ a s1 x1 o h1.
      inv β _ _ _ ok.pattern o h1 λ b s2 x2 o q.
      done (Good (push (spell_p JOIN) s) m) q (refl, o, (rw (x0.0, x1.0, x2.0), (x1.1, x2.1), omega arith))
  after-sound UNION s t m l p o h =
      inv β _ _ _ (ok.close _) o h λ u s0 x0 o h0.
      inv β _ _ _ ok.pattern o h0 λ a s1 x1 o h1.
      inv β _ _ _ ok.pattern o h1 λ b s2 x2 o q.
      done (Good (push (spell_p UNION) s) m) q (refl, o, (rw (x0.0, x1.0, x2.0), (x1.1, x2.1), omega arith))
  after-sound MINUS s t m l p o h =
      inv β _ _ _ (ok.close _) o h λ u s0 x0 o h0.
      inv β _ _ _ ok.pattern o h0 λ a s1 x1 o h1.
      inv β _ _ _ ok.pattern o h1 λ b s2 x2 o q.
      done (Good (push (spell_p MINUS) s) m) q (refl, o, (rw (x0.0, x1.0, x2.0), (x1.1, x2.1), omega arith))
  after-sound LEFTJOIN s t m l p o h =
      inv β _ _ _ (zero_one-sound β) o h λ b s0 x0 o h0.
      inv β _ _ _ (ok.close _) o h0 λ u s1 x1 o h1.
      inv β _ _ _ ok.pattern o h1 λ a s2 x2 o h2.
      inv β _ _ _ ok.pattern o h2 λ a' s3 x3 o h3.
      inv β _ _ _ (condition-sound β d r ok b x1.1) o h3 λ c s4 x4 o q.
      done (Good (push (spell_p LEFTJOIN) s) m) q (refl, o, (rw (x0, x1.0, x2.0, x3.0, x4.0, x4.3), (x2.1, x3.1, x4.1), omega arith))
  after-sound FILTER s t m l p o h =
      inv β _ _ _ (ok.close _) o h λ u s0 x0 o h0.
      inv β _ _ _ ok.pattern o h0 λ a s1 x1 o h1.
      inv β _ _ _ ok.expression o h1 λ b s2 x2 o q.
      done (Good (push (spell_p FILTER) s) m) q (refl, o, (rw (x0.0, x1.0, x2.0), (x1.1, x2.1), omega arith))
  after-sound GRAPH s t m l p o h =
      inv β _ _ _ (field-sound β name) o h λ n s0 x0 o h0.
      inv β _ _ _ (ok.close _) o h0 λ u s1 x1 o h1.
      inv β _ _ _ ok.pattern o h1 λ a s2 x2 o q.
      done (Good (push (spell_p GRAPH) s) m) q (refl, o, (rw (x0.0, x1.0, x2.0), (x0.1, x2.1), omega arith))
  after-sound EXTEND s t m l p o h =
      inv β _ _ _ (field-sound β variable) o h λ n s0 x0 o h0.
      inv β _ _ _ (ok.close _) o h0 λ u s1 x1 o h1.
      inv β _ _ _ ok.pattern o h1 λ a s2 x2 o h2.
      inv β _ _ _ ok.expression o h2 λ b s3 x3 o q.
      done (Good (push (spell_p EXTEND) s) m) q (refl, o, (rw (x0.0, x1.0, x2.0, x3.0), (x0.1, x2.1, x3.1), omega arith))
  after-sound VALUES s t m l p o h =
      inv β _ _ _ (number_read β) o h λ j s0 x0 o h0.
      inv β _ _ _ (number_read β) o h0 λ n s1 x1 o h1.
      inv β _ _ _ (ok.close _) o h1 λ u s2 x2 o h2.
      inv β _ _ _ (columns-sound β j) o h2 λ cs s3 x3 o h3.
      inv β _ _ _ (rows-sound β j n) o h3 λ rs s4 x4 o q.
      done (Good (push (spell_p VALUES) s) m) q
      (refl, o, (rw (x0.0, x1.0, x2.0, x3.0, x4.0, x3.2, x4.2), (rw x3.2 x0.1, rw x4.2 x1.1, x3.1, rw x3.2 x4.1), x2.1))
  after-sound ORDERBY s t m l p o h =
      inv β _ _ _ (number_read β) o h λ n s0 x0 o h0.
      inv β _ _ _ (ok.close _) o h0 λ u s1 x1 o h1.
      inv β _ _ _ ok.pattern o h1 λ a s2 x2 o h2.
      inv β _ _ _ (orders-sound β d r ok n x1.1) o h2 λ os s3 x3 o q.
      done (Good (push (spell_p ORDERBY) s) m) q (refl, o, (rw (x0.0, x1.0, x2.0, x3.0, x3.3), (rw x3.3 x0.1, x2.1, x3.1), omega arith))
  after-sound PROJECT s t m l p o h =
      inv β _ _ _ (rest-sound β variable) o h λ cs s0 x0 o h0.
      inv β _ _ _ (ok.close _) o h0 λ u s1 x1 o h1.
      inv β _ _ _ ok.pattern o h1 λ a s2 x2 o q.
      done (Good (push (spell_p PROJECT) s) m) q (refl, o, (rw (x0.0, x1.0, x2.0, pushes-line cs (put a s2)), (x0.1, x2.1), omega arith))
  after-sound DISTINCT s t m l p o h =
      inv β _ _ _ (ok.close _) o h λ u s0 x0 o h0.
      inv β _ _ _ ok.pattern o h0 λ a s1 x1 o q.
      done (Good (push (spell_p DISTINCT) s) m) q (refl, o, (rw (x0.0, x1.0), x1.1, omega arith))
  after-sound REDUCED s t m l p o h =
      inv β _ _ _ (ok.close _) o h λ u s0 x0 o h0.
      inv β _ _ _ ok.pattern o h0 λ a s1 x1 o q.
      done (Good (push (spell_p REDUCED) s) m) q (refl, o, (rw (x0.0, x1.0), x1.1, omega arith))
  after-sound SLICE s t m l p o h =
      inv β _ _ _ (field-sound β integer) o h λ n s0 x0 o h0.
      inv β _ _ _ (field-sound β limit) o h0 λ j s1 x1 o h1.
      inv β _ _ _ (ok.close _) o h1 λ u s2 x2 o h2.
      inv β _ _ _ ok.pattern o h2 λ a s3 x3 o q.
      done (Good (push (spell_p SLICE) s) m) q (refl, o, (rw (x0.0, x1.0, x2.0, x3.0), (x0.1, x1.1, x3.1), omega arith))
  after-sound GROUP s t m l p o h =
      inv β _ _ _ (number_read β) o h λ j s0 x0 o h0.
      inv β _ _ _ (number_read β) o h0 λ n s1 x1 o h1.
      inv β _ _ _ (ok.close _) o h1 λ u s2 x2 o h2.
      inv β _ _ _ (columns-sound β j) o h2 λ ks s3 x3 o h3.
      inv β _ _ _ ok.pattern o h3 λ a s4 x4 o h4.
      inv β _ _ _ (aggregates-sound β d r ok n x2.1) o h4 λ rs s5 x5 o q.
      done (Good (push (spell_p GROUP) s) m) q
      (refl, o, (rw (x0.0, x1.0, x2.0, x3.0, x4.0, x5.0, x3.2, x5.3), (rw x3.2 x0.1, rw x5.3 x1.1, x3.1, x4.1, x5.1), omega arith))
  after-sound SERVICE s t m l p o h =
      inv β _ _ _ (field-sound β name) o h λ n s0 x0 o h0.
      inv β _ _ _ (field-sound β flag) o h0 λ j s1 x1 o h1.
      inv β _ _ _ (ok.close _) o h1 λ u s2 x2 o h2.
      inv β _ _ _ ok.pattern o h2 λ a s3 x3 o q.
      done (Good (push (spell_p SERVICE) s) m) q (refl, o, (rw (x0.0, x1.0, x2.0, x3.0), (x0.1, x1.1, x3.1), omega arith))

  abbrev GoodE : List Line → Tally → Expression → List Line → Tally → Type 0
  GoodE s m e t l = (l ≡ tally_e e m) × In β (tally_e e m) × ((s ≡ put_e e t) × ValidE e × (depth_e e ≤ d))

  after_e-sound : (w : ExpressionWord) (s t : List Line) (m l : Tally) (e : Expression) → In β m → expression_after β r w s m ≡ got e t l → GoodE (push (spell_e w) s) m e t l
  unfolding expression_after put Valid depth tally
  after_e-sound TERM s t m l e o h =
      inv β _ _ _ (field-sound β plain) o h λ n s0 x0 o h0.
      inv β _ _ _ (ok.close _) o h0 λ u s1 x1 o q.
      done (GoodE (push (spell_e TERM) s) m) q (refl, o, (rw (x0.0, x1.0), x0.1, x1.1))
  after_e-sound BOUND s t m l e o h =
      inv β _ _ _ (field-sound β variable) o h λ n s0 x0 o h0.
      inv β _ _ _ (ok.close _) o h0 λ u s1 x1 o q.
      done (GoodE (push (spell_e BOUND) s) m) q (refl, o, (rw (x0.0, x1.0), x0.1, x1.1))
  after_e-sound EXISTS s t m l e o h =
      inv β _ _ _ (ok.close _) o h λ u s0 x0 o h0.
      inv β _ _ _ ok.pattern o h0 λ a s1 x1 o q.
      done (GoodE (push (spell_e EXISTS) s) m) q (refl, o, (rw (x0.0, x1.0), x1.1, omega arith))
  after_e-sound CALL s t m l e o h =
      inv β _ _ _ (field-sound β opaque) o h λ n s0 x0 o h0.
      inv β _ _ _ (number_read β) o h0 λ k s1 x1 o h1.
      inv β _ _ _ (ok.close _) o h1 λ u s2 x2 o h2.
      inv β _ _ _ (expressions-sound β d r ok k x2.1) o h2 λ es s3 x3 o q.
      done (GoodE (push (spell_e CALL) s) m) q (refl, o, (rw (x0.0, x1.0, x2.0, x3.0, x3.3), (x0.1, rw x3.3 x1.1, x3.1), omega arith))
  after_e-sound (OP f) s t m l e o h =
      inv β _ _ _ (taken-sound β (arity f)) o h λ k s1 x1 o h1.
      inv β _ _ _ (ok.close _) o h1 λ u s2 x2 o h2.
      inv β _ _ _ (expressions-sound β d r ok k x2.1) o h2 λ es s3 x3 o q.
      done (GoodE (push (spell_e (OP f)) s) m) q (refl, o, (rw (x1.0, x2.0, x3.0, x3.3, pushes-line (put_arity (arity f) k) (put_es es s3)), (rw x3.3 x1.1, x3.1), omega arith))

  pub pattern-sound : (s t : List Line) (m l : Tally) (p : Pattern) → In β m → pattern_in β r s m ≡ got p t l → Good s m p t l
  pattern-sound s t m l p o h =
      inv β _ _ _ (word_sound β spell_p pattern_words) o h λ w s0 x0 o h0.
      rw x0 (after-sound w s0 t m l p o h0)

  pub expression-sound : (s t : List Line) (m l : Tally) (e : Expression) → In β m → expression_in β r s m ≡ got e t l → GoodE s m e t l
  expression-sound s t m l e o h =
      inv β _ _ _ (word_sound β spell_e expression_words) o h λ w s0 x0 o h0.
      rw x0 (after_e-sound w s0 t m l e o h0)

pub levels : (β : Limits) (d : ℕ) → Level β d (inside β d)
unfolding inside
levels β zero = record {
  close = close-sound β 0;
  pattern = λ s t m l p o e. never over_bound t l p e;
  expression = λ s t m l p o e. never over_bound t l p e;
}
levels β (suc d) = record {
  close = close-sound β (suc d);
  pattern = λ s t m l p o e. let x = pattern-sound β d (inside β d) (levels β d) s t m l p o e in (x.0, x.1, (x.2.0, x.2.1, omega arith));
  expression = λ s t m l p o e. let x = expression-sound β d (inside β d) (levels β d) s t m l p o e in (x.0, x.1, (x.2.0, x.2.1, omega arith));
}
