-- What a pass of the code writes: a head, the line of columns, the lines of each side. Assumes nothing.
use Prim.Native.Nat.{ℕ}
use mathlib.Core.Path.{◌≡◌, refl, sym, ap, ◌∙◌}
use mathlib.Core.List.{List, [], ◌∷◌, ◌++◌, map, append_assoc}
use mathlib.Core.Bool.{Bool, true, false, ◌&&◌}
use Rattle.text.specs.Text.{Bytes, Line, ended, text_of, split, lines_in, lines_of}
use Rattle.text.specs.Word.{bytes}
use Rattle.algebra.specs.Tree.{Pattern}
use Rattle.algebra.specs.Query.{Pair}
use Rattle.algebra.specs.Layout.{put, layout, put_pairs}
use Rattle.emit.specs.bridge.Emit.{Em, puts}
use Rattle.emit.proofs.Laws.{puts-append, puts-nil}
use Rattle.walking.specs.bridge.Walk.{tabbed}
use Rattle.walking.proofs.Written.{puts-ended}
use Rattle.merging.specs.Request.{Projection, by_position, constants_in}
use Rattle.sides.specs.declared.side.Outline.{Outline}
use Rattle.scoping.specs.Premises.{inside}
use Rattle.mask.specs.bridge.Words.{mask_value}
use Rattle.columns.specs.bridge.Listed.{Listed, positions_in}
use Rattle.sides.specs.bridge.Side.{new_names, OutlineIs}
use native.Mathlib.Omega.{arith}
use Rattle.answers.specs.Outcome.{written, Reported, Answered}
use Rattle.scoping.specs.Label.{prefix_v}
use Rattle.scoping.specs.Sets.{all}
use Rattle.merging.specs.Sides.{renamed_pattern}
use Rattle.merging.specs.Push.{only_side}
use Rattle.merging.proofs.Lines.{push-lines}
use Rattle.columns.specs.bridge.Columns.{picked}
use Rattle.projects.specs.bridge.Pair.{head_columns, head_word}
use Rattle.projects.specs.bridge.Joining.{Lists, ListsRead, pushed_tree, pushed_behind}
use Rattle.projects.proofs.SideLines.{side, side-free}
use Rattle.projects.proofs.Outcomes.{inside-sorted}
use Rattle.std.specs.Prelude.{Err}
use Rattle.answers.specs.declared.Refusal.TheVariants.{Outside}

-- ---- the line of columns

tabbed-append : (us vs : List Bytes) → tabbed (us ++ vs) ≡ tabbed us ++ tabbed vs
unfolding tabbed
tabbed-append [] vs = refl
tabbed-append (u ∷ us) vs = ap (λ (l : Bytes). 9 ∷ (u ++ l)) (tabbed-append us vs) ∙ ap (λ (l : Bytes). 9 ∷ l) (sym (append_assoc u (tabbed us) (tabbed vs)))

-- of one side
pub one-head : (head : Bytes) (cs : List Bytes) (e e₁ e₂ e₃ e₄ : Em) → e₁ ≡ puts head e → e₂ ≡ puts (bytes "project") e₁ → e₃ ≡ puts (tabbed cs) e₂ → e₄ ≡ puts (10 ∷ []) e₃
    → (t : List Line) → puts (text_of t) e₄ ≡ puts (head ++ text_of ((bytes "project" ∷ cs) ∷ t)) e
unfolding text_of
one-head head cs e e₁ e₂ e₃ e₄ p₁ p₂ p₃ p₄ t =
    ap (puts (text_of t)) (p₄ ∙ ap (puts (10 ∷ [])) (p₃ ∙ ap (puts (tabbed cs)) p₂))
    ∙ puts-ended (bytes "project") cs (text_of t) e₁
    ∙ ap (puts (ended (bytes "project" ∷ cs) (text_of t))) p₁
    ∙ sym (puts-append head (ended (bytes "project" ∷ cs) (text_of t)) e)

join-line : (t : List Line) (e : Em) → puts (text_of t) (puts (bytes "\njoin\n") e) ≡ puts (text_of ((bytes "join" ∷ []) ∷ t)) (puts (10 ∷ []) e)
unfolding text_of ended puts
join-line t e = refl

minus-line : (t : List Line) (e : Em) → puts (text_of t) (puts (bytes "\nminus\n") e) ≡ puts (text_of ((bytes "minus" ∷ []) ∷ t)) (puts (10 ∷ []) e)
unfolding text_of ended puts
minus-line t e = refl

-- of two sides, and the join's line
pub two-heads : (less : Bool) (head : Bytes) (us vs : List Bytes) (e e₁ e₂ e₃ e₄ e₅ : Em) → less ≡ false → e₁ ≡ puts head e → e₂ ≡ puts (bytes "project") e₁ → e₃ ≡ puts (tabbed us) e₂ → e₄ ≡ puts (tabbed vs) e₃ → e₅ ≡ puts (bytes "\njoin\n") e₄
    → (t : List Line) → puts (text_of t) e₅ ≡ puts (head ++ text_of ((bytes "project" ∷ head_columns less us vs) ∷ (head_word less ∷ []) ∷ t)) e
unfolding head_columns head_word
two-heads less head us vs e e₁ e₂ e₃ e₄ e₅ f p₁ p₂ p₃ p₄ p₅ t = rw f (
    ap (puts (text_of t)) p₅ ∙ join-line t e₄
    ∙ one-head head (us ++ vs) e e₁ e₂ e₄ (puts (10 ∷ []) e₄) p₁ p₂ (p₄ ∙ ap (puts (tabbed vs)) p₃ ∙ sym (ap (λ (l : Bytes). puts l e₂) (tabbed-append us vs) ∙ puts-append (tabbed us) (tabbed vs) e₂)) refl ((bytes "join" ∷ []) ∷ t))

-- of the left side, and the minus's line
pub left-head : (less : Bool) (head : Bytes) (us vs : List Bytes) (e e₁ e₂ e₃ e₄ : Em) → less ≡ true → e₁ ≡ puts head e → e₂ ≡ puts (bytes "project") e₁ → e₃ ≡ puts (tabbed us) e₂ → e₄ ≡ puts (bytes "\nminus\n") e₃
    → (t : List Line) → puts (text_of t) e₄ ≡ puts (head ++ text_of ((bytes "project" ∷ head_columns less us vs) ∷ (head_word less ∷ []) ∷ t)) e
unfolding head_columns head_word
left-head less head us vs e e₁ e₂ e₃ e₄ f p₁ p₂ p₃ p₄ t = rw f (
    ap (puts (text_of t)) p₄ ∙ minus-line t e₃
    ∙ one-head head us e e₁ e₂ e₃ (puts (10 ∷ []) e₃) p₁ p₂ p₃ refl ((bytes "minus" ∷ []) ∷ t))

-- ---- a whole pass

module _ (head : Bytes) (e e₁ e₂ : Em) where
  -- one side behind its head
  pub pass-one : (first raw side : List Line → List Line) (p : Pattern) → ((t : List Line) → puts (text_of t) e₁ ≡ puts (head ++ text_of (first t)) e) → ((t : List Line) → puts (text_of t) e₂ ≡ puts (text_of (raw t)) e₁)
      → ((t : List Line) → raw t ≡ side t) → first (side []) ≡ put p [] → e₂ ≡ puts (head ++ layout p) e
  unfolding layout text_of
  pass-one first raw side p h w r f = sym (puts-nil e₂) ∙ w [] ∙ h (raw []) ∙ ap (λ (ls : List Line). puts (head ++ text_of (first ls)) e) (r []) ∙ ap (λ (ls : List Line). puts (head ++ text_of ls) e) f

  -- two sides
  pub pass-two : (e₃ : Em) (first raw side raw' side' : List Line → List Line) (p : Pattern) → ((t : List Line) → puts (text_of t) e₁ ≡ puts (head ++ text_of (first t)) e) → ((t : List Line) → puts (text_of t) e₂ ≡ puts (text_of (raw t)) e₁)
      → ((t : List Line) → puts (text_of t) e₃ ≡ puts (text_of (raw' t)) e₂) → ((t : List Line) → raw t ≡ side t) → ((t : List Line) → raw' t ≡ side' t) → first (side (side' [])) ≡ put p [] → e₃ ≡ puts (head ++ layout p) e
  unfolding layout text_of
  pass-two e₃ first raw side raw' side' p h w w' r r' f =
      sym (puts-nil e₃) ∙ w' [] ∙ w (raw' []) ∙ h (raw (raw' []))
      ∙ ap (λ (ls : List Line). puts (head ++ text_of (first ls)) e) (ap raw (r' []) ∙ r (side' []))
      ∙ ap (λ (ls : List Line). puts (head ++ text_of ls) e) f

-- ---- one side: a push

-- no join list
pub none-listed : Listed [] []
unfolding put_pairs lines_of lines_in split
none-listed = record { lines = refl; few = omega arith; short = omega arith }

module _ (text constants : Bytes) (x : Projection) (ks : List Pair) (joins at lines : List ℕ) (o : Outline) (is : OutlineIs text false constants x [] ks joins at lines o) (cs : List Bytes) (named : cs ≡ map (new_names prefix_v false x []) x.columns) where
  pub pushed-lines : (bytes "project" ∷ picked 0 (mask_value o.constant) cs) ∷ put (renamed_pattern (side text false constants x [] ks joins at lines o is prefix_v cs named)) [] ≡ put (pushed_tree x ks) []
  pushed-lines = ap (λ (fs : List Bytes). (bytes "project" ∷ fs) ∷ put (renamed_pattern (only_side x (by_position (constants_in ks)))) []) (side-free text false constants x [] ks joins at lines o is prefix_v cs named) ∙ sym (push-lines x (by_position (constants_in ks)) [])

module _ (head : Bytes) (x : Projection) (ks : List Pair) where
  pub pushed-outside : (out : Bytes) → (inside x.columns (positions_in false []) && inside x.columns (positions_in false ks)) ≡ false → Answered (pushed_behind head x ks) out out (Err Outside)
  unfolding Reported inside all
  pushed-outside out e = rw (inside-sorted x.columns ks ∙ e) (refl, refl, refl)

  pub pushed-is : inside x.columns (positions_in false ks) ≡ true → pushed_behind head x ks ≡ written (head ++ layout (pushed_tree x ks))
  pushed-is e = rw (inside-sorted x.columns ks ∙ e)

-- ---- two sides: a merge

pub lists-are : (pairs a b : Bytes) (r : ListsRead pairs a b) → Lists pairs a b r.js r.left.list r.right.list
lists-are pairs a b r = record { joins = r.joins; left_terms = r.left.terms; right_terms = r.right.terms }
