-- What is read was written: lines that add no depth, and the expressions, conditions, orders and aggregates of a level. Assumes nothing.
use mathlib.Core.Path.{◌≡◌, refl, ap}
use mathlib.Core.Bool.{Bool, true, false, cond}
use mathlib.Core.List.{List, [], ◌∷◌}
use Prim.Native.Nat.{ℕ, zero, suc, ◌≤◌}
use native.Mathlib.Omega.{arith}
use lib.ListN.{length}
use Rattle.text.specs.Text.{Bytes, Line}
use Rattle.text.specs.Word.{bytes}
use Rattle.text.specs.Field.{Kind, variable, node, name, cell, flag, opaque}
use Rattle.algebra.specs.Tree.{Condition, Expressions, Orders, Aggregates, ecount, ocount, acount}
use Rattle.algebra.specs.Word.{spell_d, spell_a, AggregateWord, AGG, AGGALL, directions, aggregate_words}
use Rattle.algebra.specs.Layout.{put_triples, put_rows, put, put_e, put_c, put_es, put_os, put_as, put_flag}
use Rattle.algebra.specs.Valid.{Fits, AllFit, Triples, Rows, Valid, ValidE, ValidC, ValidEs, ValidOs, ValidAs}
use Rattle.algebra.specs.Depth.{depth, depth_e, depth_c, depth_es, depth_os, depth_as}
use Rattle.algebra.specs.Tally.{Limits, Tally, noted, tally_triples, tally_rows, tally, tally_e, tally_c, tally_es, tally_os, tally_as}
use Rattle.algebra.specs.Reader.{got, Reader, times}
use Rattle.algebra.specs.Reading.{Inside, expressions, condition, triple, columns, listed, orders, aggregate, aggregates}
use Rattle.algebra.proofs.Grow.{In}
use Rattle.algebra.proofs.Fields.{Exact, done, push, pushes-line, inv, field-sound, keyword-sound, word_sound, fields-sound, end-sound}

module _ (β : Limits) where
  pub triples-sound : (n : ℕ) → Exact β (times n (triple β)) tally_triples (λ ts s u. (s ≡ put_triples ts u) × Triples ts × (length ts ≡ n))
  unfolding times put_triples Triples tally_triples
  triples-sound zero s t m l ts o e = done (λ c u l. (l ≡ tally_triples c m) × In β (tally_triples c m) × ((s ≡ put_triples c u) × Triples c × (length c ≡ 0))) e (refl, o, (refl, tt, refl))
  triples-sound (suc n) s t m l ts o e =
      inv β _ _ _ triple-sound o e λ x u a o h.
      inv β _ _ _ (triples-sound n) o h λ xs v b o q.
      done (λ c u l. (l ≡ tally_triples c m) × In β (tally_triples c m) × ((s ≡ put_triples c u) × Triples c × (length c ≡ suc n))) q
      (refl, o, (rw (a.0, b.0), (a.1, a.2, a.3, b.1), ap suc b.2))
    where
      triple-sound : Exact β (triple β) (λ x m. noted (x.subj ∷ x.pred ∷ x.obj ∷ []) m) (λ x s u. (s ≡ (bytes "t" ∷ x.subj ∷ x.pred ∷ x.obj ∷ []) ∷ u) × Fits node x.subj × Fits name x.pred × Fits node x.obj)
      triple-sound s t m l x o e =
          inv β _ _ _ (keyword-sound β (bytes "t")) o e λ u0 s0 x0 o h0.
          inv β _ _ _ (field-sound β node) o h0 λ a s1 x1 o h1.
          inv β _ _ _ (field-sound β name) o h1 λ b s2 x2 o h2.
          inv β _ _ _ (field-sound β node) o h2 λ c s3 x3 o h3.
          inv β _ _ _ (end-sound β _) o h3 λ u4 s4 x4 o q.
          done (λ x t l. (l ≡ noted (x.subj ∷ x.pred ∷ x.obj ∷ []) m) × In β (noted (x.subj ∷ x.pred ∷ x.obj ∷ []) m) × ((s ≡ (bytes "t" ∷ x.subj ∷ x.pred ∷ x.obj ∷ []) ∷ t) × Fits node x.subj × Fits name x.pred × Fits node x.obj)) q
          (refl, o, (rw (x0, x1.0, x2.0, x3.0, x4), x1.1, x2.1, x3.1))

  pub columns-sound : (n : ℕ) → Exact β (columns β n) noted (λ fs s u. (s ≡ (bytes "cols" ∷ fs) ∷ u) × AllFit variable fs × (length fs ≡ n))
  columns-sound n s t m l fs o e =
      inv β _ _ _ (keyword-sound β (bytes "cols")) o e λ u0 s0 x0 o h0.
      inv β _ _ _ (fields-sound β variable n) o h0 λ gs s1 x1 o h1.
      inv β _ _ _ (end-sound β _) o h1 λ u2 s2 x2 o q.
      done (λ fs t l. (l ≡ noted fs m) × In β (noted fs m) × ((s ≡ (bytes "cols" ∷ fs) ∷ t) × AllFit variable fs × (length fs ≡ n))) q
      (refl, o, (rw (x0, x1.0, x2, pushes-line gs s2), x1.1, x1.2))

  pub listed-sound : (w : Bytes) (k : Kind) (n : ℕ) → Exact β (listed β w k n) (λ fs. noted []) (λ fs s u. (s ≡ (w ∷ fs) ∷ u) × AllFit k fs × (length fs ≡ n))
  listed-sound w k n s t m l fs o e =
      inv β _ _ _ (keyword-sound β w) o e λ u0 s0 x0 o h0.
      inv β _ _ _ (fields-sound β k n) o h0 λ gs s1 x1 o h1.
      inv β _ _ _ (end-sound β _) o h1 λ u2 s2 x2 o q.
      done (λ fs t l. (l ≡ noted [] m) × In β (noted [] m) × ((s ≡ (w ∷ fs) ∷ t) × AllFit k fs × (length fs ≡ n))) q
      (refl, o, (rw (x0, x1.0, x2, pushes-line gs s2), x1.1, x1.2))

  pub rows-sound : (k n : ℕ) → Exact β (times n (listed β (bytes "row") cell k)) tally_rows (λ rs s u. (s ≡ put_rows rs u) × Rows k rs × (length rs ≡ n))
  unfolding times put_rows Rows tally_rows
  rows-sound k zero s t m l rs o e = done (λ c u l. (l ≡ tally_rows c m) × In β (tally_rows c m) × ((s ≡ put_rows c u) × Rows k c × (length c ≡ 0))) e (refl, o, (refl, tt, refl))
  rows-sound k (suc n) s t m l rs o e =
      inv β _ _ _ (listed-sound (bytes "row") cell k) o e λ x u a o h.
      inv β _ _ _ (rows-sound k n) o h λ xs v b o q.
      done (λ c u l. (l ≡ tally_rows c m) × In β (tally_rows c m) × ((s ≡ put_rows c u) × Rows k c × (length c ≡ suc n))) q
      (refl, o, (rw (a.0, b.0), (a.2, a.1, b.1), ap suc b.2))

-- what is read inside at most d levels
pub record Level (β : Limits) (d : ℕ) (r : Inside) : Type 0 where
  pub close : (c : Tally → Tally) → Exact β (r.close c) (λ x m. c m) (λ x s u. (s ≡ [] ∷ u) × (1 ≤ d))
  pub pattern : Exact β r.pattern tally (λ p s u. (s ≡ put p u) × Valid p × (suc (depth p) ≤ d))
  pub expression : Exact β r.expression tally_e (λ e s u. (s ≡ put_e e u) × ValidE e × (suc (depth_e e) ≤ d))

module _ (β : Limits) (d : ℕ) (r : Inside) (ok : Level β d r) where
  abbrev GoodEs : ℕ → List Line → Tally → Expressions → List Line → Tally → Type 0
  GoodEs n s m c u l = (l ≡ tally_es c m) × In β (tally_es c m) × ((s ≡ put_es c u) × ValidEs c × (suc (depth_es c) ≤ d) × (ecount c ≡ n))

  pub expressions-sound : (n : ℕ) → 1 ≤ d → Exact β (expressions n r.expression) tally_es (λ c s u. (s ≡ put_es c u) × ValidEs c × (suc (depth_es c) ≤ d) × (ecount c ≡ n))
  unfolding expressions put Valid depth tally
  expressions-sound zero g s t m l es o e = done (GoodEs 0 s m) e (refl, o, (refl, tt, g, refl))
  expressions-sound (suc n) g s t m l es o e =
      inv β _ _ _ ok.expression o e λ x u a o h.
      inv β _ _ _ (expressions-sound n g) o h λ xs v b o q.
      done (GoodEs (suc n) s m) q
      (refl, o, (rw (a.0, b.0), (a.1, b.1), omega arith, ap suc b.3))

  abbrev GoodC : Bytes → List Line → Tally → Condition → List Line → Tally → Type 0
  GoodC f s m c u l = (l ≡ tally_c c m) × In β (tally_c c m) × ((s ≡ put_c c u) × ValidC c × (suc (depth_c c) ≤ d) × (f ≡ put_flag c))

  pub condition-sound : (b : Bool) → 1 ≤ d → Exact β (condition b r.expression) tally_c (λ c s u. (s ≡ put_c c u) × ValidC c × (suc (depth_c c) ≤ d) × (cond b (bytes "1") (bytes "0") ≡ put_flag c))
  unfolding put Valid depth tally
  condition-sound false g s t m l c o e = done (GoodC (bytes "0") s m) e (refl, o, (refl, tt, g, refl))
  condition-sound true g s t m l c o e =
      inv β _ _ _ ok.expression o e λ x u a o q.
      done (GoodC (bytes "1") s m) q (refl, o, (a.0, a.1, a.2, refl))

  abbrev GoodOs : ℕ → List Line → Tally → Orders → List Line → Tally → Type 0
  GoodOs n s m c u l = (l ≡ tally_os c m) × In β (tally_os c m) × ((s ≡ put_os c u) × ValidOs c × (suc (depth_os c) ≤ d) × (ocount c ≡ n))

  pub orders-sound : (n : ℕ) → 1 ≤ d → Exact β (orders β n r.expression) tally_os (λ c s u. (s ≡ put_os c u) × ValidOs c × (suc (depth_os c) ≤ d) × (ocount c ≡ n))
  unfolding orders put Valid depth tally
  orders-sound zero g s t m l os o e = done (GoodOs 0 s m) e (refl, o, (refl, tt, g, refl))
  orders-sound (suc n) g s t m l os o e =
      inv β _ _ _ (word_sound β spell_d directions) o e λ w s0 x0 o h0.
      inv β _ _ _ (end-sound β _) o h0 λ u1 s1 x1 o h1.
      inv β _ _ _ ok.expression o h1 λ x s2 a o h2.
      inv β _ _ _ (orders-sound n g) o h2 λ xs s3 b o q.
      done (GoodOs (suc n) s m) q
      (refl, o, (rw (x0, x1, a.0, b.0), (a.1, b.1), omega arith, ap suc b.3))

  abbrev GoodAs : ℕ → List Line → Tally → Aggregates → List Line → Tally → Type 0
  GoodAs n s m c u l = (l ≡ tally_as c m) × In β (tally_as c m) × ((s ≡ put_as c u) × ValidAs c × (suc (depth_as c) ≤ d) × (acount c ≡ n))

  aggregate-sound : (n : ℕ) (w : AggregateWord) (more : Reader Aggregates) → Exact β more tally_as (λ c s u. (s ≡ put_as c u) × ValidAs c × (suc (depth_as c) ≤ d) × (acount c ≡ n)) → (s t : List Line) (m l : Tally) (c : Aggregates) → In β m → aggregate β w r.expression more s m ≡ got c t l → GoodAs (suc n) (push (spell_a w) s) m c t l
  unfolding put Valid depth tally
  aggregate-sound n AGG more w s t m l c o e =
      inv β _ _ _ (field-sound β variable) o e λ v s0 x0 o h0.
      inv β _ _ _ (field-sound β opaque) o h0 λ f s1 x1 o h1.
      inv β _ _ _ (field-sound β flag) o h1 λ g s2 x2 o h2.
      inv β _ _ _ (end-sound β _) o h2 λ u s3 x3 o h3.
      inv β _ _ _ ok.expression o h3 λ x s4 x4 o h4.
      inv β _ _ _ w o h4 λ xs s5 x5 o q.
      done (GoodAs (suc n) (push (spell_a AGG) s) m) q
      (refl, o, (rw (x0.0, x1.0, x2.0, x3, x4.0, x5.0), (x0.1, x1.1, x2.1, x4.1, x5.1), omega arith, ap suc x5.3))
  aggregate-sound n AGGALL more w s t m l c o e =
      inv β _ _ _ (field-sound β variable) o e λ v s0 x0 o h0.
      inv β _ _ _ (field-sound β flag) o h0 λ g s2 x2 o h2.
      inv β _ _ _ (end-sound β _) o h2 λ u s3 x3 o h3.
      inv β _ _ _ w o h3 λ xs s5 x5 o q.
      done (GoodAs (suc n) (push (spell_a AGGALL) s) m) q
      (refl, o, (rw (x0.0, x2.0, x3, x5.0), (x0.1, x2.1, x5.1), x5.2, ap suc x5.3))

  pub aggregates-sound : (n : ℕ) → 1 ≤ d → Exact β (aggregates β n r.expression) tally_as (λ c s u. (s ≡ put_as c u) × ValidAs c × (suc (depth_as c) ≤ d) × (acount c ≡ n))
  unfolding aggregates put Valid depth tally
  aggregates-sound zero g s t m l c o e = done (GoodAs 0 s m) e (refl, o, (refl, tt, g, refl))
  aggregates-sound (suc n) g s t m l c o e =
      inv β _ _ _ (word_sound β spell_a aggregate_words) o e λ w s0 x0 o h0.
      rw x0 (aggregate-sound n w (aggregates β n r.expression) (aggregates-sound n g) s0 t m l c o h0)
