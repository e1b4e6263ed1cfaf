-- What is written is read back: queries, lists of pairs, binding sets and filters. Assumes nothing.
use mathlib.Core.Path.{◌≡◌, refl, ap, subst}
use mathlib.Core.Bool.{Bool, true, false, cond, false≢true}
use mathlib.Core.List.{List, [], ◌∷◌, ◌++◌}
use mathlib.Core.Option.{some}
use Prim.Native.Nat.{ℕ, zero, suc, ◌≤◌}
use native.Mathlib.Omega.{arith}
use lib.ListN.{length}
use Rattle.text.specs.Text.{Bytes, Line, same}
use Rattle.text.specs.Word.{bytes, spelled}
use Rattle.text.specs.Field.{integer}
use Rattle.text.proofs.Basics.{deeper}
use Rattle.text.proofs.Numbers.{number-back}
use Rattle.algebra.specs.Query.{Query, PairList, Pair, unique, Domain, PlainString, LanguageTaggedString, Iri, Float, Double, UnsignedLong, NonNegativeLong, UnsignedInt, NonNegativeInt, Long, Int, Boolean, Null, Tuple, Map, Other, Value, BindingSet, FilterWord, UN, BIN, TERN, NARY, Filter, leaf, ref, function, Filters, fend, fcons, fcount}
use Rattle.algebra.specs.Word.{FUNCTION, spell_v, spell_f, spell_part, domains, part_words, filter_arity}
use Rattle.algebra.specs.Layout.{put_query, put_pairs, put_values, put_value_rows, put_sets, put_filter, put_parts, put_filters}
use Rattle.algebra.specs.Valid.{mem, ValidQuery, ValidPairs, ValidValues, ValueRows, ValidSets, ValidFilter, ValidParts, ValidFilters}
use Rattle.algebra.specs.Depth.{depth, depth_filter, depth_parts}
use Rattle.algebra.specs.Tally.{Limits, Tally, noted, paired, tally_rows, tally_query, tally_pairs, tally_sets, tally_filter, tally_parts, tally_filters}
use Rattle.algebra.specs.Bounded.{depth_filters}
use Rattle.algebra.specs.Reader.{got, Reader, one, end, kept, times, or_end, several}
use Rattle.algebra.specs.ListReading.{value, parts, part_after, value_row, query, pair, binding_set, filter_in}
use Rattle.algebra.proofs.Grow.{In, grow-rows, grow, grow-noted, grow-sets, grow-parts, grow-filters, grow-pairs}
use Rattle.algebra.proofs.Back.{taken_back, listed_back, back}

-- ---- lists of pairs: where no first field may be repeated, those seen are the names kept

abbrev pub Known : Bool → List Bytes → Tally → Type 0
Known b seen m = b ≡ true → m.names ≡ seen

pub known-fresh : (b : Bool) (f : Bytes) (seen : List Bytes) (m : Tally) → Known b seen m → cond b (mem f m.names) false ≡ cond b (mem f seen) false
known-fresh true f seen m k = ap (mem f) (k refl)
known-fresh false f seen m k = refl

pub known_more : (b : Bool) (f : Bytes) (seen : List Bytes) (m : Tally) → Known b seen m → Known b (seen ++ (f ∷ [])) (cond b (paired f m) (noted [] m))
unfolding paired
known_more true f seen m k e = ap (λ l. l ++ (f ∷ [])) (k refl)
known_more false f seen m k e = absurd (false≢true e)

-- ---- values

domain-back : (d : Domain) → spelled spell_v domains (spell_v d) ≡ some d
unfolding spelled
domain-back PlainString = refl
domain-back LanguageTaggedString = refl
domain-back Iri = refl
domain-back Float = refl
domain-back Double = refl
domain-back UnsignedLong = refl
domain-back NonNegativeLong = refl
domain-back UnsignedInt = refl
domain-back NonNegativeInt = refl
domain-back Long = refl
domain-back Int = refl
domain-back Boolean = refl
domain-back Null = refl
domain-back Tuple = refl
domain-back Map = refl
domain-back Other = refl

values-back : (vs : List Value) (t : List Line) (m : Tally) → ValidValues vs → times (length vs) value (put_values vs ∷ t) m ≡ got vs ([] ∷ t) m
unfolding times one kept put_values ValidValues
values-back [] t m v = refl
values-back (x ∷ xs) t m v = rw (domain-back x.domain, v.0.0, v.0.1, values-back xs t m v.1)

function-back : (w : FilterWord) → spelled spell_part part_words (spell_f w) ≡ some (FUNCTION w)
unfolding spelled
function-back UN = refl
function-back BIN = refl
function-back TERN = refl
function-back NARY = refl

-- a filter has a line
filter-line : (r : Reader (List Filter)) (f : Filter) (t : List Line) (m : Tally) → or_end r (put_filter f t) m ≡ r (put_filter f t) m
unfolding put_filter
filter-line r (leaf v) t m = refl
filter-line r (ref k) t m = refl
filter-line r (function w n fs) t m = refl

module _ (β : Limits) where
  pub query-back : (q : Query) (t : List Line) (m : Tally) → ValidQuery q → depth q.tree ≤ β.depth → In β (tally_query q m) → query β (put_query q t) m ≡ got q t (tally_query q m)
  unfolding put_query ValidQuery tally_query one kept end same
  query-back q t m v h o = rw (v.0, v.1, v.2, grow β q.tree _ o, back β q.tree t _ β.depth v.3 h o)

  pub pairs-back : (κ : PairList) (n : ℕ) (seen : List Bytes) (xs : List Pair) (m : Tally) → Known (unique κ) seen m → ValidPairs κ seen xs → length xs ≤ n → In β (tally_pairs κ xs m) → several n (pair β κ 1) (pair β κ 0) (put_pairs xs []) m ≡ got xs [] (tally_pairs κ xs m)
  unfolding several put_pairs ValidPairs tally_pairs one kept end
  pairs-back κ zero seen [] m k v h o = refl
  pairs-back κ (suc n) seen [] m k v h o = refl
  pairs-back κ zero seen (x ∷ xs) m k v h o = absurd (omega arith)
  pairs-back κ (suc n) seen (x ∷ xs) m k v h o = rw (v.0, known-fresh (unique κ) x.first seen m k, v.2, v.1, grow-pairs β κ xs _ o, pairs-back κ n _ xs _ (known_more (unique κ) x.first seen m k) v.3 (omega arith) o)

  value-rows-back : (n : ℕ) (rs : List (List Value)) (t : List Line) (m : Tally) → ValueRows n rs → In β (tally_rows rs m) → times (length rs) (value_row β n) (put_value_rows rs t) m ≡ got rs t (tally_rows rs m)
  unfolding times put_value_rows ValueRows tally_rows
  value-rows-back n [] t m v o = refl
  value-rows-back n (r ∷ rs) t m v o = rw (row_back r (put_value_rows rs t) v.0 v.1 (grow-rows β rs _ o), value-rows-back n rs t _ v.2 o)
    where
      row_back : (r : List Value) (t : List Line) → length r ≡ n → ValidValues r → In β (noted [] m) → value_row β n ((bytes "row" ∷ put_values r) ∷ t) m ≡ got r t (noted [] m)
      row_back r t e v o = subst (λ n. value_row β n ((bytes "row" ∷ put_values r) ∷ t) m ≡ got r t (noted [] m)) e (unfold one kept end same in rw (values-back r t m v, o))

  pub sets-back : (n : ℕ) (xs : List BindingSet) (m : Tally) → ValidSets xs → length xs ≤ n → In β (tally_sets xs m) → several n (binding_set β 1) (binding_set β 0) (put_sets xs []) m ≡ got xs [] (tally_sets xs m)
  unfolding several put_sets ValidSets tally_sets one kept end same
  sets-back zero [] m v h o = refl
  sets-back (suc n) [] m v h o = refl
  sets-back zero (x ∷ xs) m v h o = absurd (omega arith)
  sets-back (suc n) (x ∷ xs) m v h o =
      let a = grow-sets β xs _ o in
      let b = grow-rows β x.rows _ a in
      rw (number-back (length x.positions) v.0, number-back (length x.rows) v.1, grow-noted β [] (noted [] m) b, listed_back β (bytes "at") integer (length x.positions) x.positions _ _ refl v.2 b, value-rows-back (length x.positions) x.rows (put_sets xs []) _ v.3 a, sets-back n xs _ v.4 (omega arith) o)

  abbrev ReadsFilter : Filter → List Line → Tally → ℕ → Type 0
  ReadsFilter f t m d = filter_in β d (put_filter f t) m ≡ got f t (tally_filter f m)

  mutual
    unfolding put_filter ValidFilter ValidValues depth_filter tally_filter one kept end spelled times filter_in part_after

    pub filter-back : (f : Filter) (t : List Line) (m : Tally) (d : ℕ) → ValidFilter f → depth_filter f ≤ d → In β (tally_filter f m) → ReadsFilter f t m d
    filter-back (leaf x) t m d v h o = deeper _ d h (ReadsFilter (leaf x) t m) λ k i. rw (domain-back x.domain, v.0, v.1, o)
    filter-back (ref x) t m d v h o = deeper _ d h (ReadsFilter (ref x) t m) λ k i. rw (v, o)
    filter-back (function w n fs) t m d v h o = deeper _ d h (ReadsFilter (function w n fs) t m) λ k i. rw (function-back w, v.0, taken_back (filter_arity w) (fcount fs) (put_parts fs t) m v.1, grow-parts β fs _ o, parts-back fs t _ k v.2 (omega arith) o)

    parts-back : (fs : Filters) (t : List Line) (m : Tally) (d : ℕ) → ValidParts fs → depth_parts fs ≤ d → In β (tally_parts fs m) → parts (fcount fs) (filter_in β d) (put_parts fs t) m ≡ got fs t (tally_parts fs m)
    parts-back fend t m d v h o = refl
    parts-back (fcons f fs) t m d v h o = rw (filter-back f (put_parts fs t) m d v.0 (omega arith) (grow-parts β fs _ o), parts-back fs t _ d v.1 (omega arith) o)

  pub filters-back : (n : ℕ) (fs : List Filter) (m : Tally) → ValidFilters fs → depth_filters fs ≤ β.depth → length fs ≤ n → In β (tally_filters fs m) → several n (filter_in β β.depth) (filter_in β 0) (put_filters fs []) m ≡ got fs [] (tally_filters fs m)
  unfolding several put_filters ValidFilters depth_filters tally_filters
  filters-back zero [] m v d h o = refl
  filters-back (suc n) [] m v d h o = refl
  filters-back zero (f ∷ fs) m v d h o = absurd (omega arith)
  filters-back (suc n) (f ∷ fs) m v d h o = rw (filter-line _ f (put_filters fs []) m, filter-back f (put_filters fs []) m β.depth v.0 (omega arith) (grow-filters β fs _ o), filters-back n fs _ v.1 (omega arith) (omega arith) o)
