-- What is written of a line, by the key of its word: a law for each arm of the code. Assumes nothing.
use Prim.Native.Nat.{ℕ, zero, suc}
use mathlib.Core.Path.{◌≡◌, refl, sym, ap, ◌∙◌}
use mathlib.Core.Bool.{Bool, true, false, cond}
use mathlib.Core.List.{List, [], ◌∷◌, ◌++◌, append_assoc}
use mathlib.Core.Option.{Option, none, some}
use lib.ListN.{get_or}
use Rattle.text.specs.Text.{Bytes, Line, same}
use Rattle.text.specs.Word.{bytes}
use Rattle.text.specs.Field.{is_var, is_iri, is_dash}
use Rattle.emit.specs.bridge.Emit.{Em, puts}
use Rattle.emit.proofs.Laws.{puts-nil}
use Rattle.words.specs.bridge.Key.{key_of, Keyed}
use Rattle.words.proofs.ByKey.{small, tells, is_word, other_key}
use Rattle.editions.specs.Token.{Keyword, WHERE, OPEN, CLOSE, RIGHT, Token, key, var, iri, literal, written, text}
use Rattle.editions.specs.Spelling.{term_of, cell_of, spell_vars, spell_cells, spell_slice}
use Rattle.spelling.specs.bridge.Saying.{manner_of, marked, grouping, bracketing, opening, before, first_or, closing, word_next, after}
use Rattle.spelling.specs.declared.before.Manner.{Manner}
use Rattle.spelling.specs.declared.before.Manner.TheVariants.{Distinct, Plain, Reduced}
use Rattle.spelling.specs.bridge.Walks.{manner_at}
use Rattle.spelling.proofs.ByLines.{text-append}
use Rattle.spelling.proofs.Said.{vars-append, cells-append}

-- a term is written as it stands
pub term-written : (x : Bytes) → written (term_of x) ≡ x
unfolding term_of
term-written x = go (is_var x) (is_iri x)
  where
    go : (a b : Bool) → written (cond a (var x) (cond b (iri x) (literal x))) ≡ x
    go true b = refl
    go false true = refl
    go false false = refl

-- a cell too, save that - is UNDEF
pub cell-unbound : (x : Bytes) → is_dash x ≡ true → written (cell_of x) ≡ bytes "UNDEF"
unfolding cell_of
cell-unbound x h = rw h

pub cell-bound : (x : Bytes) → is_dash x ≡ false → written (cell_of x) ≡ x
unfolding cell_of
cell-bound x h = rw h (go (is_iri x))
  where
    go : (b : Bool) → written (cond b (iri x) (literal x)) ≡ x
    go true = refl
    go false = refl

-- fields one after the other
pub vars-text : (v : Bytes) (vs : List Bytes) → text (spell_vars (v ∷ vs) []) ≡ v ++ (32 ∷ text (spell_vars vs []))
unfolding spell_vars text
vars-text v vs = refl

pub cells-text : (x : Bytes) (xs : List Bytes) → text (spell_cells (x ∷ xs) []) ≡ written (cell_of x) ++ (32 ∷ text (spell_cells xs []))
unfolding spell_cells text
cells-text x xs = refl

pub vars-before : (vs : List Bytes) (t : List Token) → text (spell_vars vs t) ≡ text (spell_vars vs []) ++ text t
vars-before vs t = ap text (sym (vars-append vs [] t)) ∙ text-append (spell_vars vs []) t

pub cells-before : (xs : List Bytes) (t : List Token) → text (spell_cells xs t) ≡ text (spell_cells xs []) ++ text t
cells-before xs t = ap text (sym (cells-append xs [] t)) ∙ text-append (spell_cells xs []) t

first-text : (i : ℕ) (x y : List Token) → text (first_or i x y) ≡ first_or i (text x) (text y)
first-text zero x y = refl
first-text (suc i) x y = refl

cond-text : (b : Bool) (x : List Token) → text (cond b [] x) ≡ cond b [] (text x)
unfolding text
cond-text true x = refl
cond-text false x = refl

-- ---- what is written is what is to be written

pub arm : (x e : Em) (a b : Bytes) → x ≡ puts a e → b ≡ a → x ≡ puts b e
arm x e a b p q = p ∙ ap (λ (y : Bytes). puts y e) (sym q)

pub nothing : (e : Em) (b : Bytes) → b ≡ [] → e ≡ puts b e
nothing e b q = sym (ap (λ (y : Bytes). puts y e) q ∙ puts-nil e)

pub cond-none : (b : Bool) (x : Bytes) → b ≡ true → cond b [] x ≡ []
cond-none b x h = rw h

pub cond-some : (b : Bool) (x : Bytes) → b ≡ false → cond b [] x ≡ x
cond-some b x h = rw h

-- OFFSET alone, or LIMIT behind it
pub slice-open : (a n : Bytes) → is_dash n ≡ true → text (spell_slice a n []) ≡ bytes "OFFSET " ++ (a ++ bytes " ")
unfolding spell_slice text
slice-open a n h = rw h

pub slice-both : (a n : Bytes) → is_dash n ≡ false → text (spell_slice a n []) ≡ (bytes "OFFSET " ++ (a ++ bytes " ")) ++ (bytes "LIMIT " ++ (n ++ bytes " "))
unfolding spell_slice text
slice-both a n h = rw h (ap (λ (y : Bytes). bytes "OFFSET " ++ y) (sym (append_assoc a (bytes " ") (bytes "LIMIT " ++ (n ++ bytes " ")))))

pub first-is : (i : ℕ) (x y : Bytes) → i ≡ 0 → first_or i x y ≡ x
first-is i x y h = rw h

pub later-is : (i : ℕ) (x y : Bytes) → (i ≡ 0 → ⊥) → first_or i x y ≡ y
later-is zero x y h = absurd (h refl)
later-is (suc i) x y h = refl

-- ---- the manner's token

pub manner-plain : (e : Em) → e ≡ puts (text (marked (manner_at Plain) [])) e
unfolding text
manner-plain e = sym (puts-nil e)

pub manner_token : (m : Manner) (e x : Em) → x ≡ puts (text (marked (manner_at m) [])) e → (n : Manner) → n ≡ m → x ≡ puts (text (marked (manner_at n) [])) e
manner_token m e x p n h = rw h p

-- ---- a leftjoin

module _ (i n : ℕ) where
  pub optional-first : i ≡ 0 → text (closing (bytes "leftjoin") i n) ≡ bytes "} OPTIONAL { { "
  unfolding closing text same
  optional-first h = rw h

  pub optional-second : i ≡ 1 → text (closing (bytes "leftjoin") i n) ≡ first_or n (bytes "} } ") (bytes "} FILTER ( ")
  unfolding closing text same
  optional-second h = rw h (first-text n _ _)

  pub optional-third : (i ≡ 0 → ⊥) → (i ≡ 1 → ⊥) → text (closing (bytes "leftjoin") i n) ≡ bytes ") } "
  unfolding closing text same
  optional-third h e = go i h e
    where
      go : (i : ℕ) → (i ≡ 0 → ⊥) → (i ≡ 1 → ⊥) → text (closing (bytes "leftjoin") i n) ≡ bytes ") } "
      go zero h e = absurd (h refl)
      go (suc zero) h e = absurd (e refl)
      go (suc (suc j)) h e = refl

module _ (f : Bytes) (k : ℕ) (keyed : Keyed f k) where
  is : (w : Bytes) → tells w ≡ true → k ≡ key_of 0 w → f ≡ w
  is = is_word f k keyed

  no : (w : Bytes) → tells w ≡ true → (k ≡ key_of 0 w → ⊥) → same f w ≡ false
  no = other_key f k keyed

  -- ---- the manner

  pub manner-distinct : k ≡ key_of 0 (bytes "distinct") → manner_at Distinct ≡ manner_of f
  unfolding manner_of same small tells
  manner-distinct t = rw (is (bytes "distinct") refl t)

  pub manner-reduced : k ≡ key_of 0 (bytes "reduced") → manner_at Reduced ≡ manner_of f
  unfolding manner_of same small tells
  manner-reduced t = rw (is (bytes "reduced") refl t)

  pub manner-none : (k ≡ key_of 0 (bytes "distinct") → ⊥) → (k ≡ key_of 0 (bytes "reduced") → ⊥) → manner_at Plain ≡ manner_of f
  unfolding manner_of small tells
  manner-none a b = rw (no (bytes "distinct") refl a, no (bytes "reduced") refl b)

  -- ---- before the children: what the word alone says

  pub opening-join : k ≡ key_of 0 (bytes "join") → text (opening f) ≡ bytes "{ "
  unfolding opening grouping bracketing text same small tells
  opening-join t = rw (is (bytes "join") refl t)

  pub opening-union : k ≡ key_of 0 (bytes "union") → text (opening f) ≡ bytes "{ "
  unfolding opening grouping bracketing text same small tells
  opening-union t = rw (is (bytes "union") refl t)

  pub opening-minus : k ≡ key_of 0 (bytes "minus") → text (opening f) ≡ bytes "{ "
  unfolding opening grouping bracketing text same small tells
  opening-minus t = rw (is (bytes "minus") refl t)

  pub opening-leftjoin : k ≡ key_of 0 (bytes "leftjoin") → text (opening f) ≡ bytes "{ "
  unfolding opening grouping bracketing text same small tells
  opening-leftjoin t = rw (is (bytes "leftjoin") refl t)

  pub opening-filter : k ≡ key_of 0 (bytes "filter") → text (opening f) ≡ bytes "{ "
  unfolding opening grouping bracketing text same small tells
  opening-filter t = rw (is (bytes "filter") refl t)

  pub opening-extend : k ≡ key_of 0 (bytes "extend") → text (opening f) ≡ bytes "{ "
  unfolding opening grouping bracketing text same small tells
  opening-extend t = rw (is (bytes "extend") refl t)

  pub opening-or : k ≡ key_of 0 (bytes "or") → text (opening f) ≡ bytes "( "
  unfolding opening grouping bracketing text same small tells
  opening-or t = rw (is (bytes "or") refl t)

  pub opening-and : k ≡ key_of 0 (bytes "and") → text (opening f) ≡ bytes "( "
  unfolding opening grouping bracketing text same small tells
  opening-and t = rw (is (bytes "and") refl t)

  pub opening-eq : k ≡ key_of 0 (bytes "eq") → text (opening f) ≡ bytes "( "
  unfolding opening grouping bracketing text same small tells
  opening-eq t = rw (is (bytes "eq") refl t)

  pub opening-same : k ≡ key_of 0 (bytes "same") → text (opening f) ≡ bytes "sameTerm ( "
  unfolding opening grouping bracketing text same small tells
  opening-same t = rw (is (bytes "same") refl t)

  pub opening-not : k ≡ key_of 0 (bytes "not") → text (opening f) ≡ bytes "( ! "
  unfolding opening grouping bracketing text same small tells
  opening-not t = rw (is (bytes "not") refl t)

  pub opening-exists : k ≡ key_of 0 (bytes "exists") → text (opening f) ≡ bytes "EXISTS { "
  unfolding opening grouping bracketing text same small tells
  opening-exists t = rw (is (bytes "exists") refl t)

  pub opening-asc : k ≡ key_of 0 (bytes "asc") → text (opening f) ≡ bytes "ASC ( "
  unfolding opening grouping bracketing text same small tells
  opening-asc t = rw (is (bytes "asc") refl t)

  pub opening-desc : k ≡ key_of 0 (bytes "desc") → text (opening f) ≡ bytes "DESC ( "
  unfolding opening grouping bracketing text same small tells
  opening-desc t = rw (is (bytes "desc") refl t)

  pub opening-values : k ≡ key_of 0 (bytes "values") → text (opening f) ≡ bytes "VALUES "
  unfolding opening grouping bracketing text same small tells
  opening-values t = rw (is (bytes "values") refl t)

  pub opening-none : (k ≡ key_of 0 (bytes "join") → ⊥) → (k ≡ key_of 0 (bytes "union") → ⊥) → (k ≡ key_of 0 (bytes "minus") → ⊥) → (k ≡ key_of 0 (bytes "leftjoin") → ⊥) → (k ≡ key_of 0 (bytes "filter") → ⊥) → (k ≡ key_of 0 (bytes "extend") → ⊥) → (k ≡ key_of 0 (bytes "or") → ⊥) → (k ≡ key_of 0 (bytes "and") → ⊥) → (k ≡ key_of 0 (bytes "eq") → ⊥) → (k ≡ key_of 0 (bytes "same") → ⊥) → (k ≡ key_of 0 (bytes "not") → ⊥) → (k ≡ key_of 0 (bytes "exists") → ⊥) → (k ≡ key_of 0 (bytes "asc") → ⊥) → (k ≡ key_of 0 (bytes "desc") → ⊥) → (k ≡ key_of 0 (bytes "values") → ⊥) → text (opening f) ≡ []
  unfolding opening grouping bracketing text small tells
  opening-none a0 a1 a2 a3 a4 a5 a6 a7 a8 a9 a10 a11 a12 a13 a14 =
      rw (no (bytes "join") refl a0, no (bytes "union") refl a1, no (bytes "minus") refl a2, no (bytes "leftjoin") refl a3, no (bytes "filter") refl a4, no (bytes "extend") refl a5, no (bytes "or") refl a6, no (bytes "and") refl a7, no (bytes "eq") refl a8, no (bytes "same") refl a9, no (bytes "not") refl a10, no (bytes "exists") refl a11, no (bytes "asc") refl a12, no (bytes "desc") refl a13, no (bytes "values") refl a14)

  -- ---- before the children: what its fields say

  module _ (m : Option Keyword) (fs : List Bytes) where
    pub before-t : k ≡ key_of 0 (bytes "t") → text (before m (f ∷ fs)) ≡ get_or fs 0 [] ++ (32 ∷ (get_or fs 1 [] ++ (32 ∷ (get_or fs 2 [] ++ bytes " . "))))
    unfolding before text same small tells
    before-t t = rw (is (bytes "t") refl t, term-written (get_or fs 0 []), term-written (get_or fs 1 []), term-written (get_or fs 2 []))

    pub before-term : k ≡ key_of 0 (bytes "term") → text (before m (f ∷ fs)) ≡ get_or fs 0 [] ++ (32 ∷ [])
    unfolding before text same small tells
    before-term t = rw (is (bytes "term") refl t, term-written (get_or fs 0 []))

    pub before-bound : k ≡ key_of 0 (bytes "bound") → text (before m (f ∷ fs)) ≡ bytes "BOUND ( " ++ (get_or fs 0 [] ++ bytes " ) ")
    unfolding before text same small tells
    before-bound t = rw (is (bytes "bound") refl t)

    pub before-graph : k ≡ key_of 0 (bytes "graph") → text (before m (f ∷ fs)) ≡ bytes "GRAPH " ++ (get_or fs 0 [] ++ bytes " { ")
    unfolding before text same small tells
    before-graph t = rw (is (bytes "graph") refl t, term-written (get_or fs 0 []))

    pub before-cols : k ≡ key_of 0 (bytes "cols") → text (before m (f ∷ fs)) ≡ bytes "( " ++ (text (spell_vars fs []) ++ bytes ") { ")
    unfolding before text same small tells
    before-cols t = rw (is (bytes "cols") refl t) (ap (λ (y : Bytes). bytes "( " ++ y) (vars-before fs (key RIGHT ∷ key OPEN ∷ [])))

    pub before-row : k ≡ key_of 0 (bytes "row") → text (before m (f ∷ fs)) ≡ bytes "( " ++ (text (spell_cells fs []) ++ bytes ") ")
    unfolding before text same small tells
    before-row t = rw (is (bytes "row") refl t) (ap (λ (y : Bytes). bytes "( " ++ y) (cells-before fs (key RIGHT ∷ [])))

    pub before-project : k ≡ key_of 0 (bytes "project") → text (before m (f ∷ fs)) ≡ bytes "SELECT " ++ (text (marked m []) ++ (text (spell_vars fs []) ++ bytes "WHERE { "))
    unfolding before text same small tells
    before-project t = rw (is (bytes "project") refl t) (ap (λ (y : Bytes). bytes "SELECT " ++ y) (go m ∙ ap (λ (y : Bytes). text (marked m []) ++ y) (vars-before fs (key WHERE ∷ key OPEN ∷ []))))
      where
        go : (m : Option Keyword) → text (marked m (spell_vars fs (key WHERE ∷ key OPEN ∷ []))) ≡ text (marked m []) ++ text (spell_vars fs (key WHERE ∷ key OPEN ∷ []))
        go none = refl
        go (some j) = sym (append_assoc (written (key j)) (32 ∷ []) _)

    pub before-other : (k ≡ key_of 0 (bytes "t") → ⊥) → (k ≡ key_of 0 (bytes "term") → ⊥) → (k ≡ key_of 0 (bytes "bound") → ⊥) → (k ≡ key_of 0 (bytes "graph") → ⊥) → (k ≡ key_of 0 (bytes "project") → ⊥) → (k ≡ key_of 0 (bytes "cols") → ⊥) → (k ≡ key_of 0 (bytes "row") → ⊥) → before m (f ∷ fs) ≡ opening f
    unfolding before small tells
    before-other a0 a1 a2 a3 a4 a5 a6 = rw (no (bytes "t") refl a0, no (bytes "term") refl a1, no (bytes "bound") refl a2, no (bytes "graph") refl a3, no (bytes "project") refl a4, no (bytes "cols") refl a5, no (bytes "row") refl a6)

  -- ---- behind a child: what the word alone says

  module _ (i n : ℕ) where
    pub closing-join : k ≡ key_of 0 (bytes "join") → text (closing f i n) ≡ first_or i (bytes "} { ") (bytes "} ")
    unfolding closing text same small tells
    closing-join t = rw (is (bytes "join") refl t) (first-text i _ _)

    pub closing-union : k ≡ key_of 0 (bytes "union") → text (closing f i n) ≡ first_or i (bytes "} UNION { ") (bytes "} ")
    unfolding closing text same small tells
    closing-union t = rw (is (bytes "union") refl t) (first-text i _ _)

    pub closing-minus : k ≡ key_of 0 (bytes "minus") → text (closing f i n) ≡ first_or i (bytes "} MINUS { ") (bytes "} ")
    unfolding closing text same small tells
    closing-minus t = rw (is (bytes "minus") refl t) (first-text i _ _)

    pub closing-filter : k ≡ key_of 0 (bytes "filter") → text (closing f i n) ≡ first_or i (bytes "} FILTER ( ") (bytes ") ")
    unfolding closing text same small tells
    closing-filter t = rw (is (bytes "filter") refl t) (first-text i _ _)

    pub closing-or : k ≡ key_of 0 (bytes "or") → text (closing f i n) ≡ first_or i (bytes "|| ") (bytes ") ")
    unfolding closing text same small tells
    closing-or t = rw (is (bytes "or") refl t) (first-text i _ _)

    pub closing-and : k ≡ key_of 0 (bytes "and") → text (closing f i n) ≡ first_or i (bytes "&& ") (bytes ") ")
    unfolding closing text same small tells
    closing-and t = rw (is (bytes "and") refl t) (first-text i _ _)

    pub closing-eq : k ≡ key_of 0 (bytes "eq") → text (closing f i n) ≡ first_or i (bytes "= ") (bytes ") ")
    unfolding closing text same small tells
    closing-eq t = rw (is (bytes "eq") refl t) (first-text i _ _)

    pub closing_same : k ≡ key_of 0 (bytes "same") → text (closing f i n) ≡ first_or i (bytes ", ") (bytes ") ")
    unfolding closing text same small tells
    closing_same t = rw (is (bytes "same") refl t) (first-text i _ _)

    pub closing-orderby : k ≡ key_of 0 (bytes "orderby") → text (closing f i n) ≡ first_or i (bytes "} ORDER BY ") (bytes "")
    unfolding closing text same small tells
    closing-orderby t = rw (is (bytes "orderby") refl t) (first-text i _ _)

    pub closing-graph : k ≡ key_of 0 (bytes "graph") → text (closing f i n) ≡ bytes "} "
    unfolding closing text same small tells
    closing-graph t = rw (is (bytes "graph") refl t)

    pub closing-exists : k ≡ key_of 0 (bytes "exists") → text (closing f i n) ≡ bytes "} "
    unfolding closing text same small tells
    closing-exists t = rw (is (bytes "exists") refl t)

    pub closing-not : k ≡ key_of 0 (bytes "not") → text (closing f i n) ≡ bytes ") "
    unfolding closing text same small tells
    closing-not t = rw (is (bytes "not") refl t)

    pub closing-asc : k ≡ key_of 0 (bytes "asc") → text (closing f i n) ≡ bytes ") "
    unfolding closing text same small tells
    closing-asc t = rw (is (bytes "asc") refl t)

    pub closing-desc : k ≡ key_of 0 (bytes "desc") → text (closing f i n) ≡ bytes ") "
    unfolding closing text same small tells
    closing-desc t = rw (is (bytes "desc") refl t)

    pub closing-values : k ≡ key_of 0 (bytes "values") → text (closing f i n) ≡ first_or n (bytes "} ") []
    unfolding closing text same small tells
    closing-values t = rw (is (bytes "values") refl t) (first-text n _ _)

    pub closing-leftjoin : k ≡ key_of 0 (bytes "leftjoin") → text (closing f i n) ≡ text (closing (bytes "leftjoin") i n)
    unfolding small tells
    closing-leftjoin t = ap (λ (w : Bytes). text (closing w i n)) (is (bytes "leftjoin") refl t)

    pub closing-none : (k ≡ key_of 0 (bytes "join") → ⊥) → (k ≡ key_of 0 (bytes "union") → ⊥) → (k ≡ key_of 0 (bytes "minus") → ⊥) → (k ≡ key_of 0 (bytes "leftjoin") → ⊥) → (k ≡ key_of 0 (bytes "filter") → ⊥) → (k ≡ key_of 0 (bytes "graph") → ⊥) → (k ≡ key_of 0 (bytes "exists") → ⊥) → (k ≡ key_of 0 (bytes "or") → ⊥) → (k ≡ key_of 0 (bytes "and") → ⊥) → (k ≡ key_of 0 (bytes "eq") → ⊥) → (k ≡ key_of 0 (bytes "same") → ⊥) → (k ≡ key_of 0 (bytes "not") → ⊥) → (k ≡ key_of 0 (bytes "asc") → ⊥) → (k ≡ key_of 0 (bytes "desc") → ⊥) → (k ≡ key_of 0 (bytes "values") → ⊥) → (k ≡ key_of 0 (bytes "orderby") → ⊥) → text (closing f i n) ≡ []
    unfolding closing text small tells
    closing-none a0 a1 a2 a3 a4 a5 a6 a7 a8 a9 a10 a11 a12 a13 a14 a15 =
        rw (no (bytes "join") refl a0, no (bytes "union") refl a1, no (bytes "minus") refl a2, no (bytes "leftjoin") refl a3, no (bytes "filter") refl a4, no (bytes "graph") refl a5, no (bytes "exists") refl a6, no (bytes "or") refl a7, no (bytes "and") refl a8, no (bytes "eq") refl a9, no (bytes "same") refl a10, no (bytes "not") refl a11, no (bytes "asc") refl a12, no (bytes "desc") refl a13, no (bytes "values") refl a14, no (bytes "orderby") refl a15)

    -- ---- behind a child: what the line's fields and the next line say

    module _ (fs : List Bytes) (next : List Line) where
      pub after-extend : k ≡ key_of 0 (bytes "extend") → text (after (f ∷ fs) next i n) ≡ first_or i (bytes "} BIND ( ") (bytes "AS " ++ (get_or fs 0 [] ++ bytes " ) "))
      unfolding after text same small tells
      after-extend t = rw (is (bytes "extend") refl t) (first-text i _ _)

      pub after-project : k ≡ key_of 0 (bytes "project") → text (after (f ∷ fs) next i n) ≡ cond (same (word_next next) (bytes "orderby")) [] (bytes "} ")
      unfolding after text same small tells
      after-project t = rw (is (bytes "project") refl t) (cond-text (same (word_next next) (bytes "orderby")) (key CLOSE ∷ []))

      pub after-slice : k ≡ key_of 0 (bytes "slice") → text (after (f ∷ fs) next i n) ≡ text (spell_slice (get_or fs 0 []) (get_or fs 1 []) [])
      unfolding after same small tells
      after-slice t = rw (is (bytes "slice") refl t)

      pub after-other : (k ≡ key_of 0 (bytes "extend") → ⊥) → (k ≡ key_of 0 (bytes "project") → ⊥) → (k ≡ key_of 0 (bytes "slice") → ⊥) → after (f ∷ fs) next i n ≡ closing f i n
      unfolding after small tells
      after-other a b c = rw (no (bytes "extend") refl a, no (bytes "project") refl b, no (bytes "slice") refl c)
