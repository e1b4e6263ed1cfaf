-- The machine goes as the reader: queries, and lists entry by entry. Assumes nothing.
use mathlib.Core.Path.{◌≡◌, refl, ◌∙◌}
use mathlib.Core.List.{List, [], ◌∷◌, ◌++◌}
use Prim.Native.Nat.{ℕ, zero, suc, ◌+◌, pred, ◌≤◌}
use native.Mathlib.Omega.{arith}
use lib.ListN.{replicate}
use Rattle.text.specs.Text.{Line}
use Rattle.text.specs.Word.{bytes}
use Rattle.text.specs.Field.{integer, opaque}
use Rattle.algebra.specs.Query.{FilterWord, Filter, function}
use Rattle.algebra.specs.Word.{PartWord, LEAF, REF, FUNCTION, spell_part, part_words, Arity, exactly, counted, filter_arity}
use Rattle.algebra.specs.Tally.{Limits, Tally, noted}
use Rattle.algebra.specs.Reader.{over_bound, Got, got, refused, Reader, next, refuse, field, times, close_at, several}
use Rattle.algebra.specs.Reading.{taken, listed, tree}
use Rattle.algebra.specs.ListReading.{parts as someParts, part_after, value_row, query, binding_set, filter_in}
use Rattle.algebra.specs.bridge.Table.{Sort, patterns, heads, sets, positions, value_rows, parts, function_row, part_row}
use Rattle.algebra.specs.bridge.Machine.{want, line_by, line_of, resume, done, entries, run}
use Rattle.algebra.proofs.Grow.{In}
use Rattle.algebra.proofs.Local.{local, one_local, one-nil, times-local, value-local, counted-line, word_line, key-line, ends, closes_at}
use Rattle.algebra.proofs.AgreeLines.{Runs, Same, follow, times-runs}
use Rattle.algebra.proofs.Agree.{tree-runs}

module _ (β : Limits) where
  pub query-runs : (w : ℕ) → Runs β (want heads β.depth w ∷ []) (query β)
  unfolding run line_of
  query-runs w [] m ρ ws = rw one-nil
  query-runs w (l ∷ ls) m ρ ws =
      key-line _ _ _ _ _ _ _ _ _ λ x.
      local _ _ _ _ _ (one_local _ _ _) λ k x1.
      local _ _ _ _ _ (one_local _ _ _) λ d x2.
      local _ _ _ _ _ (one_local _ _ _) λ b x3.
      ends β _ _ _ _ _ _ _ _ λ t.
      follow β (want patterns β.depth 0 ∷ []) ws ws (tree β) _ ls t ρ (tree-runs β 0) λ p t n. refl

  -- ---- binding sets

  positions-runs : (d n : ℕ) → Runs β (want positions d n ∷ []) (listed β (bytes "at") integer n)
  unfolding run line_of
  positions-runs d n [] m ρ ws = rw one-nil
  positions-runs d n (l ∷ ls) m ρ ws =
      key-line _ _ _ _ _ _ _ _ _ λ x.
      local _ _ _ _ _ (times-local _ (one_local _) n _ _) λ fs x1.
      ends β _ _ _ _ _ _ _ _ λ t. refl

  value-row-runs : (d n : ℕ) → Runs β (want value_rows d n ∷ []) (value_row β n)
  unfolding run line_of
  value-row-runs d n [] m ρ ws = rw one-nil
  value-row-runs d n (l ∷ ls) m ρ ws =
      key-line _ _ _ _ _ _ _ _ _ λ x.
      local _ _ _ _ _ (times-local _ value-local n _ _) λ fs x1.
      ends β _ _ _ _ _ _ _ _ λ t. refl

  pub set_runs : (d w : ℕ) → Runs β (want sets d w ∷ []) (binding_set β d)
  unfolding run line_of
  set_runs d w [] m ρ ws = rw one-nil
  set_runs d w (l ∷ ls) m ρ ws =
      key-line _ _ _ _ _ _ _ _ _ λ x.
      local _ _ _ _ _ (one_local _ _ _) λ j x1.
      local _ _ _ _ _ (one_local _ _ _) λ k x2.
      closes_at β d _ _ _ _ _ _ _ _ λ h t.
      follow β (want positions (pred d) j ∷ []) (replicate k (want value_rows (pred d) j) ++ ws) ws (listed β (bytes "at") integer j) _ ls t ρ (positions-runs (pred d) j) λ ps t n.
      follow β (replicate k (want value_rows (pred d) j)) ws ws (times k (value_row β j)) _ t n ρ (times-runs β (want value_rows (pred d) j) (value_row β j) (value-row-runs (pred d) j) k) λ rs t n. refl

  -- ---- filters, at a level where r reads the parts below

  module _ (d : ℕ) (r : Reader Filter) (kf : 1 ≤ d → (w : ℕ) → Runs β (want parts (pred d) w ∷ []) r) where
    parts-runs : 1 ≤ d → (w n : ℕ) → Runs β (replicate n (want parts (pred d) w)) (someParts n r)
    unfolding someParts
    parts-runs h w zero s m ρ ws = refl
    parts-runs h w (suc n) s m ρ ws =
        follow β (want parts (pred d) w ∷ []) (replicate n (want parts (pred d) w) ++ ws) ws r _ s m ρ (kf h w) λ x t l.
        follow β (replicate n (want parts (pred d) w)) ws ws (someParts n r) _ t l ρ (parts-runs h w n) λ xs t l. refl

    function-same : (v : FilterWord) (a : Arity) (w : ℕ) → Same β (line_by (close_at β d) (pred d) w (function_row a)) (λ s m. next (field opaque s m) (λ x s m. next (taken a s m) (λ k s m. next (close_at β d (noted []) s m) (λ u s m. next (someParts k r s m) (λ fs s m. got (function v x fs) s m)))))
    function-same v (exactly k) w l ls m ρ ws =
        local _ _ _ _ _ (one_local _ _ _) λ x x0.
        closes_at β d _ _ _ _ _ _ _ _ λ h t.
        follow β (replicate k (want parts (pred d) 0)) ws ws (someParts k r) _ ls t ρ (parts-runs h 0 k) λ es t n. refl
    function-same v (counted j) w l ls m ρ ws =
        local _ _ _ _ _ (one_local _ _ _) λ x x0.
        counted-line j _ _ _ _ x0 ls m λ k x1.
        closes_at β d _ _ _ _ _ _ _ _ λ h t.
        follow β (replicate (k + j) (want parts (pred d) 0)) ws ws (someParts (k + j) r) _ ls t ρ (parts-runs h 0 (k + j)) λ es t n. refl

    part_same : (v : PartWord) (w : ℕ) → Same β (line_by (close_at β d) (pred d) w (part_row v)) (part_after (close_at β d) r v)
    unfolding part_after
    part_same LEAF w l ls m ρ ws =
        local _ _ _ _ _ (value-local _ _) λ v x0.
        closes_at β d _ _ _ _ _ _ _ _ λ h t. refl
    part_same REF w l ls m ρ ws =
        local _ _ _ _ _ (one_local _ _ _) λ k x0.
        closes_at β d _ _ _ _ _ _ _ _ λ h t. refl
    part_same (FUNCTION v) w l ls m ρ ws = function-same v (filter_arity v) w l ls m ρ ws

  pub filter_runs : (d w : ℕ) → Runs β (want parts d w ∷ []) (filter_in β d)
  unfolding run line_of filter_in
  filter_runs zero w [] m ρ ws = rw one-nil
  filter_runs (suc d) w [] m ρ ws = rw one-nil
  filter_runs zero w (l ∷ ls) m ρ ws = word_line spell_part part_row part_words _ _ _ _ _ _ _ λ v x0. part_same 0 (refuse over_bound) (λ h u. absurd (omega arith)) v w x0 ls m ρ ws
  filter_runs (suc d) w (l ∷ ls) m ρ ws = word_line spell_part part_row part_words _ _ _ _ _ _ _ λ v x0. part_same (suc d) (filter_in β d) (λ h u. filter_runs d u) v w x0 ls m ρ ws

  -- ---- a list: f reads an entry, and g never one past those that may come

  module _ {A : Type 0} (f g : Reader A) (σ : Sort) (d : ℕ) (kf : Runs β (want σ d 0 ∷ []) f) (kg : Runs β (want σ 0 0 ∷ []) g) (stay : (s t : List Line) (m n : Tally) (a : A) → In β m → f s m ≡ got a t n → In β n) (none : (s t : List Line) (m n : Tally) (a : A) → In β m → g s m ≡ got a t n → ⊥) where
    after : (a : A) (x : Got (List A)) → resume x (λ xs t l. run β t done [] l) ≡ resume (next x (λ xs s m. got (a ∷ xs) s m)) (λ xs t l. run β t done [] l)
    after a (got xs t l) = refl
    after a (refused n) = refl

    pub entries-run : (n : ℕ) (s : List Line) (m : Tally) → In β m → run β s (entries n σ d) [] m ≡ resume (several n f g s m) (λ xs t l. run β t done [] l)
    unfolding run several
    entries-run zero [] m o = refl
    entries-run (suc n) [] m o = refl
    entries-run zero (l ∷ ls) m o = kg (l ∷ ls) m (entries zero σ d) [] ∙ go (g (l ∷ ls) m) refl
      where
        go : (x : Got A) → g (l ∷ ls) m ≡ x → resume x (λ a t k. run β t (entries zero σ d) [] k) ≡ resume {A = List A} (next x (λ a s m. refused over_bound)) (λ xs t k. run β t done [] k)
        go (got a t k) e = absurd (none (l ∷ ls) t m k a o e)
        go (refused c) e = refl
    entries-run (suc n) (l ∷ ls) m o = kf (l ∷ ls) m (entries n σ d) [] ∙ go (f (l ∷ ls) m) refl (entries-run n)
      where
        go : (x : Got A) → f (l ∷ ls) m ≡ x → ((s : List Line) (m : Tally) → In β m → run β s (entries n σ d) [] m ≡ resume (several n f g s m) (λ xs t l. run β t done [] l)) → resume x (λ a t k. run β t (entries n σ d) [] k) ≡ resume (next x (λ a s m. next (several n f g s m) (λ xs s m. got (a ∷ xs) s m))) (λ xs t k. run β t done [] k)
        go (got a t k) e more = more t k (stay (l ∷ ls) t m k a o e) ∙ after a (several n f g t k)
        go (refused c) e more = refl
