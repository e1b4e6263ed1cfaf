-- What is read as a query or a list was written so: the lines are its layout, it is well formed, and it is within the bounds. Assumes nothing.
use mathlib.Core.Path.{◌≡◌, refl, sym, ◌∙◌, ap, subst}
use mathlib.Core.Bool.{true, false, cond, not, ◌&&◌}
use mathlib.Core.List.{List, [], ◌∷◌, ◌++◌}
use mathlib.Core.Option.{some}
use Prim.Native.Nat.{ℕ, zero, suc, ◌≤◌}
use native.Mathlib.Omega.{arith}
use lib.ListN.{length}
use borrow.Author.Tests.{not-true}
use Rattle.text.specs.Text.{Bytes, Line}
use Rattle.text.specs.Word.{bytes, spelled}
use Rattle.text.specs.Field.{integer, opaque, lexical, form, fits}
use Rattle.text.proofs.Basics.{and_left, and_right}
use Rattle.algebra.specs.Query.{PairList, Pair, first_kind, second_kind, unique, extra_kind, BindingSet, Filter, Filters, fcount}
use Rattle.algebra.specs.Word.{PartWord, LEAF, REF, FUNCTION, spell_v, spell_part, domains, part_words, filter_arity}
use Rattle.algebra.specs.Layout.{put_arity, put_query, put_pairs, put_values, put_value_rows, put_sets, put_filter, put_parts, put_filters}
use Rattle.algebra.specs.Valid.{Fits, mem, ValidQuery, ValidPairs, ValidValue, ValidValues, ValueRows, ValidSets, ValidFilter, ValidParts, ValidFilters}
use Rattle.algebra.specs.Depth.{depth, depth_filter, depth_parts}
use Rattle.algebra.specs.Tally.{Limits, Tally, noted, tally_rows, tally_pair, tally_query, tally_pairs, tally_sets, tally_filter, tally_parts, tally_filters}
use Rattle.algebra.specs.Bounded.{depth_filters}
use Rattle.algebra.specs.Reader.{over_bound, Got, got, refused, Reader, next, refuse, one, kept, times, close_at, several}
use Rattle.algebra.specs.Reading.{inside}
use Rattle.algebra.specs.ListReading.{value, parts, part_after, value_row, query, pair, binding_set, filter_in}
use Rattle.algebra.proofs.Grow.{In}
use Rattle.algebra.proofs.Fields.{Exact, Still, never, done, kept-sound, push, pushes, pushes-line, inv_at, inv, one-by, field-sound, keyword-sound, number_read, word_sound, taken-sound, end-sound, close-sound}
use Rattle.algebra.proofs.SoundLines.{listed-sound}
use Rattle.algebra.proofs.Sound.{levels, pattern-sound}
use Rattle.algebra.proofs.BackLists.{Known, known-fresh, known_more}

-- nothing is read past the entries that may come
past : {A B C : Type 0} (g : Got A) (b : B) (t : List Line) (n : Tally) → next g (λ a s m. refused over_bound) ≡ got b t n → C
past (got a s m) b t n e = never over_bound t n b e
past (refused c) b t n e = never c t n b e

module _ (β : Limits) where
  pub query-sound : Exact β (query β) tally_query (λ q s u. (s ≡ put_query q u) × ValidQuery q × (depth q.tree ≤ β.depth))
  unfolding put_query ValidQuery tally_query
  query-sound s t m l q o e =
      inv β _ _ _ (keyword-sound β (bytes "query")) o e λ u0 s0 x0 o h0.
      inv β _ _ _ (field-sound β form) o h0 λ k s1 x1 o h1.
      inv β _ _ _ (field-sound β opaque) o h1 λ d s2 x2 o h2.
      inv β _ _ _ (field-sound β opaque) o h2 λ b s3 x3 o h3.
      inv β _ _ _ (end-sound β _) o h3 λ u4 s4 x4 o h4.
      inv β _ _ _ (pattern-sound β β.depth (inside β β.depth) (levels β β.depth)) o h4 λ p s5 x5 o h5.
      done (λ q t l. (l ≡ tally_query q m) × In β (tally_query q m) × ((s ≡ put_query q t) × ValidQuery q × (depth q.tree ≤ β.depth))) h5
      (refl, o, (rw (x0, x1.0, x2.0, x3.0, x4, x5.0), (x1.1, x2.1, x3.1, x5.1), x5.2))

  -- ---- lists of pairs

  abbrev OnePair : PairList → ℕ → List Line → Tally → Pair → List Line → Tally → Type 0
  OnePair κ n s m x u l = (l ≡ tally_pair κ x.first m) × In β (tally_pair κ x.first m) × ((s ≡ (x.first ∷ x.second ∷ []) ∷ u) × Fits (first_kind κ) x.first × Fits (second_kind κ) x.second × (cond (unique κ) (mem x.first m.names) false ≡ false) × (1 ≤ n))

  pub pair-sound : (κ : PairList) (n : ℕ) (s u : List Line) (m l : Tally) (x : Pair) → In β m → pair β κ n s m ≡ got x u l → OnePair κ n s m x u l
  pair-sound κ n s u m l x o e =
      inv β _ s m (one-by β (λ f. kept (fits (first_kind κ) f && not (cond (unique κ) (mem f m.names) false)) f) (λ f s u. (s ≡ push f u) × Fits (first_kind κ) f × (cond (unique κ) (mem f m.names) false ≡ false)) (λ f a s u q p. first f a s u q p)) o e λ f s0 x0 o h0.
      inv β _ _ _ (field-sound β (second_kind κ)) o h0 λ g s1 x1 o h1.
      inv β _ _ _ (close-sound β n _) o h1 λ u2 s2 x2 o h2.
      done (OnePair κ n s m) h2 (refl, o, (rw (x0.0, x1.0, x2.0), x0.1, x1.1, x0.2, x2.1))
    where
      first : (f a : Bytes) (s u : List Line) → kept (fits (first_kind κ) f && not (cond (unique κ) (mem f m.names) false)) f ≡ some a → s ≡ push f u → (s ≡ push a u) × Fits (first_kind κ) a × (cond (unique κ) (mem a m.names) false ≡ false)
      first f a s u q p =
          let y = kept-sound (fits (first_kind κ) f && not (cond (unique κ) (mem f m.names) false)) f a q in
          let g : fits (first_kind κ) f ≡ true = and_left (fits (first_kind κ) f) (not (cond (unique κ) (mem f m.names) false)) y.0 in
          let h : cond (unique κ) (mem f m.names) false ≡ false = not-true (cond (unique κ) (mem f m.names) false) (and_right (fits (first_kind κ) f) (not (cond (unique κ) (mem f m.names) false)) y.0) in
          subst (λ a. (s ≡ push a u) × Fits (first_kind κ) a × (cond (unique κ) (mem a m.names) false ≡ false)) y.1 (p, g, h)

  abbrev SomePairs : PairList → ℕ → List Bytes → List Line → Tally → List Pair → List Line → Tally → Type 0
  SomePairs κ n seen s m xs u l = (l ≡ tally_pairs κ xs m) × In β (tally_pairs κ xs m) × ((s ≡ put_pairs xs u) × ValidPairs κ seen xs × (u ≡ []) × (length xs ≤ n))

  pub pairs-sound : (κ : PairList) (n : ℕ) (seen : List Bytes) (s u : List Line) (m l : Tally) (xs : List Pair) → Known (unique κ) seen m → In β m → several n (pair β κ 1) (pair β κ 0) s m ≡ got xs u l → SomePairs κ n seen s m xs u l
  unfolding several put_pairs ValidPairs tally_pairs
  pairs-sound κ zero seen [] u m l xs k o e = done (SomePairs κ zero seen [] m) e (refl, o, (refl, tt, refl, omega arith))
  pairs-sound κ zero seen (r ∷ s) u m l xs k o e = past (pair β κ 0 (r ∷ s) m) xs u l e
  pairs-sound κ (suc n) seen [] u m l xs k o e = done (SomePairs κ (suc n) seen [] m) e (refl, o, (refl, tt, refl, omega arith))
  pairs-sound κ (suc n) seen (r ∷ s) u m l xs k o e =
      inv_at β (pair β κ 1) (λ x. tally_pair κ x.first m) _ (r ∷ s) m (λ u l x e. pair-sound κ 1 (r ∷ s) u m l x o e) e λ x s0 a o h.
      inv_at β (several n (pair β κ 1) (pair β κ 0)) (λ ys. tally_pairs κ ys (tally_pair κ x.first m)) _ s0 (tally_pair κ x.first m) (λ u l ys e. pairs-sound κ n (seen ++ (x.first ∷ [])) s0 u (tally_pair κ x.first m) l ys (known_more (unique κ) x.first seen m k) o e) h λ ys s1 b o q.
      done (SomePairs κ (suc n) seen (r ∷ s) m) q
      (refl, o, (a.0 ∙ ap (λ t. (x.first ∷ x.second ∷ []) ∷ t) b.0, (a.1, a.2, sym (known-fresh (unique κ) x.first seen m k) ∙ a.3, b.1), b.2, omega arith))

  -- ---- values and binding sets

  value-sound : Still β value (λ v s u. (s ≡ pushes (put_values (v ∷ [])) u) × ValidValue v)
  unfolding put_values ValidValue
  value-sound s t m l v o e =
      inv β _ _ _ (word_sound β spell_v domains) o e λ d s0 x0 o h0.
      inv β _ _ _ (field-sound β lexical) o h0 λ f s1 x1 o h1.
      inv β _ _ _ (field-sound β (extra_kind d)) o h1 λ g s2 x2 o q.
      done (λ v t l. (l ≡ m) × In β m × ((s ≡ push (spell_v v.domain) (push v.lexical (push v.extra t))) × (Fits lexical v.lexical × Fits (extra_kind v.domain) v.extra))) q
      (refl, o, (rw (x0, x1.0, x2.0), (x1.1, x2.1)))

  values-sound : (n : ℕ) → Still β (times n value) (λ vs s u. (s ≡ pushes (put_values vs) u) × ValidValues vs × (length vs ≡ n))
  unfolding times put_values ValidValues
  values-sound zero s t m l vs o e = done (λ c u l. (l ≡ m) × In β m × ((s ≡ pushes (put_values c) u) × ValidValues c × (length c ≡ 0))) e (refl, o, (refl, tt, refl))
  values-sound (suc n) s t m l vs o e =
      inv β _ _ _ value-sound o e λ v u x o h.
      inv β _ _ _ (values-sound n) o h λ ws r y o q.
      done (λ c u l. (l ≡ m) × In β m × ((s ≡ pushes (put_values c) u) × ValidValues c × (length c ≡ suc n))) q
      (refl, o, (rw (x.0, y.0), (x.1, y.1), ap suc y.2))

  value-rows-sound : (k n : ℕ) → Exact β (times n (value_row β k)) tally_rows (λ rs s u. (s ≡ put_value_rows rs u) × ValueRows k rs × (length rs ≡ n))
  unfolding times put_value_rows ValueRows tally_rows
  value-rows-sound k zero s t m l rs o e = done (λ c u l. (l ≡ tally_rows c m) × In β (tally_rows c m) × ((s ≡ put_value_rows c u) × ValueRows k c × (length c ≡ 0))) e (refl, o, (refl, tt, refl))
  value-rows-sound k (suc n) s t m l rs o e =
      inv β _ _ _ row-sound o e λ x u a o h.
      inv β _ _ _ (value-rows-sound k n) o h λ xs v b o q.
      done (λ c u l. (l ≡ tally_rows c m) × In β (tally_rows c m) × ((s ≡ put_value_rows c u) × ValueRows k c × (length c ≡ suc n))) q
      (refl, o, (rw (a.0, b.0), (a.2, a.1, b.1), ap suc b.2))
    where
      row-sound : Exact β (value_row β k) (λ vs. noted []) (λ vs s u. (s ≡ (bytes "row" ∷ put_values vs) ∷ u) × ValidValues vs × (length vs ≡ k))
      row-sound s t m l vs o e =
          inv β _ _ _ (keyword-sound β (bytes "row")) o e λ u0 s0 x0 o h0.
          inv β _ _ _ (values-sound k) o h0 λ gs s1 x1 o h1.
          inv β _ _ _ (end-sound β _) o h1 λ u2 s2 x2 o q.
          done (λ vs t l. (l ≡ noted [] m) × In β (noted [] m) × ((s ≡ (bytes "row" ∷ put_values vs) ∷ t) × ValidValues vs × (length vs ≡ k))) q
          (refl, o, (rw (x0, x1.0, x2, pushes-line (put_values gs) s2), x1.1, x1.2))

  abbrev SomeSets : ℕ → List Line → Tally → List BindingSet → List Line → Tally → Type 0
  SomeSets n s m xs u l = (l ≡ tally_sets xs m) × In β (tally_sets xs m) × ((s ≡ put_sets xs u) × ValidSets xs × (u ≡ []) × (length xs ≤ n))

  abbrev OneSet : ℕ → List Line → Tally → BindingSet → List Line → Tally → Type 0
  OneSet n s m x u l = (l ≡ tally_sets (x ∷ []) m) × In β (tally_sets (x ∷ []) m) × ((s ≡ put_sets (x ∷ []) u) × ValidSets (x ∷ []) × (1 ≤ n))

  pub set-sound : (n : ℕ) → Exact β (binding_set β n) (λ x m. tally_sets (x ∷ []) m) (λ x s u. (s ≡ put_sets (x ∷ []) u) × ValidSets (x ∷ []) × (1 ≤ n))
  unfolding put_sets ValidSets tally_sets
  set-sound n s t m l x o e =
      inv β _ _ _ (keyword-sound β (bytes "set")) o e λ u0 s0 x0 o h0.
      inv β _ _ _ (number_read β) o h0 λ j s1 x1 o h1.
      inv β _ _ _ (number_read β) o h1 λ k s2 x2 o h2.
      inv β _ _ _ (close-sound β n _) o h2 λ u3 s3 x3 o h3.
      inv β _ _ _ (listed-sound β (bytes "at") integer j) o h3 λ ps s4 x4 o h4.
      inv β _ _ _ (value-rows-sound j k) o h4 λ rs s5 x5 o q.
      done (OneSet n s m) q
      (refl, o, (rw (x0, x1.0, x2.0, x3.0, x4.0, x5.0, x4.2, x5.2), (rw x4.2 x1.1, rw x5.2 x2.1, x4.1, rw x4.2 x5.1, tt), x3.1))

  pub sets-sound : (n : ℕ) → Exact β (several n (binding_set β 1) (binding_set β 0)) tally_sets (λ xs s u. (s ≡ put_sets xs u) × ValidSets xs × (u ≡ []) × (length xs ≤ n))
  unfolding several put_sets ValidSets tally_sets
  sets-sound zero [] u m l xs o e = done (SomeSets zero [] m) e (refl, o, (refl, tt, refl, omega arith))
  sets-sound zero (r ∷ s) u m l xs o e = past (binding_set β 0 (r ∷ s) m) xs u l e
  sets-sound (suc n) [] u m l xs o e = done (SomeSets (suc n) [] m) e (refl, o, (refl, tt, refl, omega arith))
  sets-sound (suc n) (r ∷ s) u m l xs o e =
      inv β _ _ _ (set-sound 1) o e λ x s0 a o h.
      inv β _ _ _ (sets-sound n) o h λ ys s1 b o q.
      done (SomeSets (suc n) (r ∷ s) m) q
      (refl, o, (rw (a.0, b.0), (a.1.0, a.1.1, a.1.2, a.1.3, b.1), b.2, omega arith))

  -- ---- filters

  -- a part at a level where r reads the parts below
  module _ (d : ℕ) (r : Reader Filter) (ok : Exact β r tally_filter (λ f s u. (s ≡ put_filter f u) × ValidFilter f × (suc (depth_filter f) ≤ d))) where
    abbrev SomeParts : ℕ → List Line → Tally → Filters → List Line → Tally → Type 0
    SomeParts n s m fs u l = (l ≡ tally_parts fs m) × In β (tally_parts fs m) × ((s ≡ put_parts fs u) × ValidParts fs × (suc (depth_parts fs) ≤ d) × (fcount fs ≡ n))

    parts-sound : (n : ℕ) → 1 ≤ d → Exact β (parts n r) tally_parts (λ fs s u. (s ≡ put_parts fs u) × ValidParts fs × (suc (depth_parts fs) ≤ d) × (fcount fs ≡ n))
    unfolding parts put_filter ValidFilter depth_filter tally_filter
    parts-sound zero g s t m l fs o e = done (SomeParts 0 s m) e (refl, o, (refl, tt, g, refl))
    parts-sound (suc n) g s t m l fs o e =
        inv β _ _ _ ok o e λ x u a o h.
        inv β _ _ _ (parts-sound n g) o h λ xs v b o q.
        done (SomeParts (suc n) s m) q (refl, o, (rw (a.0, b.0), (a.1, b.1), omega arith, ap suc b.3))

    abbrev OneFilter : List Line → Tally → Filter → List Line → Tally → Type 0
    OneFilter s m f u l = (l ≡ tally_filter f m) × In β (tally_filter f m) × ((s ≡ put_filter f u) × ValidFilter f × (depth_filter f ≤ d))

    part_sound : (w : PartWord) (s t : List Line) (m l : Tally) (f : Filter) → In β m → part_after (close_at β d) r w s m ≡ got f t l → OneFilter (push (spell_part w) s) m f t l
    unfolding part_after put_filter put_values ValidFilter ValidValue depth_filter tally_filter
    part_sound LEAF s t m l f o h =
        inv β _ _ _ value-sound o h λ v s0 x0 o h0.
        inv β _ _ _ (close-sound β d _) o h0 λ u s1 x1 o q.
        done (OneFilter (push (spell_part LEAF) s) m) q (refl, o, (rw (x0.0, x1.0), x0.1, x1.1))
    part_sound REF s t m l f o h =
        inv β _ _ _ (field-sound β integer) o h λ k s0 x0 o h0.
        inv β _ _ _ (close-sound β d _) o h0 λ u s1 x1 o q.
        done (OneFilter (push (spell_part REF) s) m) q (refl, o, (rw (x0.0, x1.0), x0.1, x1.1))
    part_sound (FUNCTION w) s t m l f o h =
        inv β _ _ _ (field-sound β opaque) o h λ n s0 x0 o h0.
        inv β _ _ _ (taken-sound β (filter_arity w)) o h0 λ k s1 x1 o h1.
        inv β _ _ _ (close-sound β d _) o h1 λ u s2 x2 o h2.
        inv β _ _ _ (parts-sound k x2.1) o h2 λ fs s3 x3 o q.
        done (OneFilter (push (spell_part (FUNCTION w)) s) m) q (refl, o, (rw (x0.0, x1.0, x2.0, x3.0, x3.3, pushes-line (put_arity (filter_arity w) k) (put_parts fs s3)), (x0.1, rw x3.3 x1.1, x3.1), omega arith))

    part-in-sound : (s t : List Line) (m l : Tally) (f : Filter) → In β m → next (one (spelled spell_part part_words) s m) (part_after (close_at β d) r) ≡ got f t l → OneFilter s m f t l
    part-in-sound s t m l f o h =
        inv β _ _ _ (word_sound β spell_part part_words) o h λ w s0 x0 o h0.
        rw x0 (part_sound w s0 t m l f o h0)

  pub filter-sound : (d : ℕ) → Exact β (filter_in β d) tally_filter (λ f s u. (s ≡ put_filter f u) × ValidFilter f × (depth_filter f ≤ d))
  unfolding filter_in
  filter-sound zero s t m l f o e = part-in-sound 0 (refuse over_bound) (λ s t m l f o e. never over_bound t l f e) s t m l f o e
  filter-sound (suc d) s t m l f o e = part-in-sound (suc d) (filter_in β d) (λ s t m l f o e. let x = filter-sound d s t m l f o e in (x.0, x.1, (x.2.0, x.2.1, omega arith))) s t m l f o e

  abbrev SomeFilters : ℕ → List Line → Tally → List Filter → List Line → Tally → Type 0
  SomeFilters n s m fs u l = (l ≡ tally_filters fs m) × In β (tally_filters fs m) × ((s ≡ put_filters fs u) × ValidFilters fs × (depth_filters fs ≤ β.depth) × (u ≡ []) × (length fs ≤ n))

  pub filters-sound : (n : ℕ) → Exact β (several n (filter_in β β.depth) (filter_in β 0)) tally_filters (λ fs s u. (s ≡ put_filters fs u) × ValidFilters fs × (depth_filters fs ≤ β.depth) × (u ≡ []) × (length fs ≤ n))
  unfolding several put_filters ValidFilters tally_filters depth_filters
  filters-sound zero [] u m l fs o e = done (SomeFilters zero [] m) e (refl, o, (refl, tt, omega arith, refl, omega arith))
  filters-sound zero (r ∷ s) u m l fs o e = past (filter_in β 0 (r ∷ s) m) fs u l e
  filters-sound (suc n) [] u m l fs o e = done (SomeFilters (suc n) [] m) e (refl, o, (refl, tt, omega arith, refl, omega arith))
  filters-sound (suc n) (r ∷ s) u m l fs o e =
      inv β _ _ _ (filter-sound β.depth) o e λ x s0 a o h.
      inv β _ _ _ (filters-sound n) o h λ ys s1 b o q.
      done (SomeFilters (suc n) (r ∷ s) m) q
      (refl, o, (rw (a.0, b.0), (a.1, b.1), omega arith, b.3, omega arith))
