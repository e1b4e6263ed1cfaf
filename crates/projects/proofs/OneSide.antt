-- One side: what find_side and name_found promise of it. Assumes nothing.
use Prim.Native.Nat.{ℕ}
use mathlib.Core.Path.{◌≡◌, refl, sym, subst}
use mathlib.Core.List.{List, []}
use mathlib.Core.Bool.{Bool, true, false, not, ◌&&◌, true≢false}
use lib.ListN.{length}
use borrow.Author.Tests.{not-true, not-false}
use Rattle.text.specs.Text.{Bytes, lines_from}
use Rattle.algebra.specs.Query.{Pair}
use Rattle.algebra.specs.Layout.{put}
use Rattle.algebra.specs.Tally.{bounds}
use Rattle.names.specs.bridge.Names.{starts_of, sizes_of}
use Rattle.scoping.specs.Premises.{inside, different_positions}
use Rattle.merging.specs.Request.{Projection, tree}
use Rattle.columns.specs.bridge.Listed.{Listed, positions_in}
use Rattle.sides.specs.bridge.Side.{Asked, FindingIs, Stands, Terms, Outlined, Sided, IsFound, IsNamed, IsNaming}
use Rattle.sides.specs.declared.side.Outline.{Outline}
use Rattle.sides.specs.declared.side.Standing.{Standing}
use Rattle.sides.specs.declared.side.FoundSide.{FoundSide}
use Rattle.projects.specs.bridge.Joining.{KnownTerms}

pub asked_of : (s : Bytes) (at : ℕ) (a l : List ℕ) (n : ℕ) (v : List (List ℕ)) (pairs constants : Bytes) (x : Projection) (js : List Pair) → Stands s at a l n v (tree x) → Listed pairs js → KnownTerms constants → Asked s at pairs constants
asked_of s at a l n v pairs constants x js t j k = record { projection = x; lines = t.tree-in.lines; narrow = t.narrow x refl; joins = js; joins_listed = j; terms = k.list; terms_listed = k.terms.listed }

-- the variables of a side, in an array that is the same
module _ {s : Bytes} {from : ℕ} {a l : List ℕ} {n : ℕ} {v w : List (List ℕ)} (same : v ≡ w) {second : Bool} {constants : Bytes} {at lines : List ℕ} {x : Projection} {js ks : List Pair} where
  pub found_in : {joins : List ℕ} {o : Outline} → Outlined s from a l n v second constants joins at lines o x js ks → Outlined s from a l n w second constants joins at lines o x js ks
  found_in {joins} {o} d = subst (λ (u : List (List ℕ)). Outlined s from a l n u second constants joins at lines o x js ks) same d

  pub named_in : {prefix : ℕ} {firsts seconds joins : List ℕ} {o : Outline} → Sided s from a l n v prefix second constants firsts seconds joins at lines o x js ks → Sided s from a l n w prefix second constants firsts seconds joins at lines o x js ks
  named_in {prefix} {firsts} {seconds} {joins} {o} d = subst (λ (u : List (List ℕ)). Sided s from a l n u prefix second constants firsts seconds joins at lines o x js ks) same d

-- what find_side promises
pub record Promised (text : Bytes) (standing : Standing) (second : Bool) (pairs constants : Bytes) (f : FoundSide) : Type 0 where
  pub stands : f.standing ≡ standing
  pub joins_long : length f.places.joins ≡ bounds.entries
  pub long : length f.places.at ≡ bounds.entries
  pub is : (x : Projection) (js ks : List Pair) → lines_from text standing.from ≡ put (tree x) [] → Listed pairs js → Listed constants ks → FindingIs text second constants x js ks f.places.joins f.places.at f.places.starts f.outline

module _ (text : Bytes) (standing : Standing) (second : Bool) (pairs constants : Bytes) (f : FoundSide) (said : Promised text standing second pairs constants f)
    (table spots : List (List ℕ)) (x : Projection) (js ks : List Pair) (stands : Stands text standing.from (starts_of table) (sizes_of table) standing.n spots (tree x)) (joins_listed : Listed pairs js) (terms : Terms constants ks) where
  it-is : FindingIs text second constants x js ks f.places.joins f.places.at f.places.starts f.outline
  it-is = said.is x js ks stands.tree-in.lines joins_listed terms.listed

  pub outside : not f.outline.inside ≡ true → (inside x.columns (positions_in second js) && inside x.columns (positions_in false ks)) ≡ false
  outside e = it-is.outside (not-true f.outline.inside e)

  pub outlined : not f.outline.inside ≡ false → IsFound text table spots second constants f x js ks
  outlined e =
      let g = it-is.found (not-false f.outline.inside e) in
      record { stands = subst (λ (t : Standing). Stands text t.from (starts_of table) (sizes_of table) t.n spots (tree x)) (sym said.stands) stands; terms = terms; joins-inside = g.0; terms_inside = g.1; joins_long = said.joins_long; long = said.long; is = g.2 }

-- ---- a side that gets its names

module _ (text : Bytes) (table spots : List (List ℕ)) (second : Bool) (constants : Bytes) (f : FoundSide) (x : Projection) (js ks : List Pair) (prefix : ℕ) (news : List (List ℕ)) (r : Bool)
    (n : IsNaming text table spots prefix second constants news f r x js ks) where
  -- its join positions repeat one
  pub refused : not r ≡ true → different_positions (positions_in second js) ≡ false
  unfolding IsNaming
  refused e = subst (λ (q : Bool). IsNaming text table spots prefix second constants news f q x js ks) (not-true r e) n

  -- it has its names
  pub named : not r ≡ false → IsNamed text table spots prefix second constants news f x js ks
  unfolding IsNaming
  named e = subst (λ (q : Bool). IsNaming text table spots prefix second constants news f q x js ks) (not-false r e) n

-- no join list repeats no position
pub never-repeated : {A : Type 0} → different_positions (positions_in false []) ≡ false → A
unfolding different_positions
never-repeated e = absurd (true≢false e)
