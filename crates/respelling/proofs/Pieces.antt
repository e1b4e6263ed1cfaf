-- Laws of what was written: nothing, a copy, one piece behind another, an IRI. Assumes nothing.
use Prim.Native.Nat.{ℕ, suc, ◌+◌, ◌-◌, ◌≤◌, ◌<◌}
use mathlib.Core.Path.{◌≡◌, refl, sym, ap, subst, ◌∙◌}
use mathlib.Core.Bool.{Bool, true, false, ◌&&◌}
use mathlib.Core.List.{List, [], ◌∷◌, ◌++◌}
use mathlib.Core.Option.{Option, none, some}
use native.Mathlib.Omega.{arith}
use lib.ListN.{length, get_or, drop, length-take, length-drop}
use lib.Seq.{drop-cons, drop_at}
use Rattle.text.specs.Text.{Bytes, part}
use Rattle.text.specs.Field.{given}
use Rattle.text.proofs.Parts.{part_join}
use Rattle.scoping.specs.Sets.{all}
use Rattle.emit.specs.bridge.Emit.{puts}
use Rattle.emit.specs.bridge.Writer.{Wrote, state}
use Rattle.emit.specs.declared.Writer.{Writer}
use Rattle.emit.proofs.Laws.{puts-append, puts-nil}
use Rattle.converting.specs.Starts.{Start}
use Rattle.converting.specs.Namespaces.{covering_line, start_replaced, converted_iri}
use Rattle.respelling.specs.declared.Put.{Put}
use Rattle.respelling.specs.bridge.Written.{are_covered, copied_to, Converted}
use Rattle.respelling.proofs.Marked.{and-true, and-false}

and-and : (a b c : Bool) → ((a && b) && c) ≡ (a && (b && c))
and-and true b c = refl
and-and false b c = refl

covered-append : (ss : List Start) (xs ys : List Bytes) → are_covered ss (xs ++ ys) ≡ (are_covered ss xs && are_covered ss ys)
unfolding are_covered all
covered-append ss [] ys = refl
covered-append ss (x ∷ xs) ys = ap (λ (b : Bool). given (covering_line ss x) && b) (covered-append ss xs ys) ∙ sym (and-and (given (covering_line ss x)) (are_covered ss xs) (are_covered ss ys))

pub one_byte : (s : Bytes) (i : ℕ) → i < length s → part i (i + 1) s ≡ get_or s i 0 ∷ []
one_byte s i h = let z : i + 1 - i ≡ 1 = omega arith in rw (z, drop-cons s i 0 h) refl

module _ (ss : List Start) (tree : Bytes) where
  none_needed : (b : Bool) → b ≡ (b && are_covered ss [])
  unfolding are_covered all
  none_needed b = sym (and-true b)

  pub converted_nothing : (at : ℕ) (p : Put) (w : Writer) → Converted ss tree at at [] [] p w p w
  converted_nothing at p w = record { same = refl; text = sym (puts-nil (copied_to tree at p w)); gaps = none_needed p.covered }

  -- what waits is copied
  pub converted-copy : (from to : ℕ) (p : Put) (w : Writer) → p.done ≤ from → from ≤ to → Converted ss tree from to (part from to tree) [] p w p w
  unfolding copied_to
  converted-copy from to p w h k =
      record {
        same = refl;
        text = ap (λ (b : Bytes). puts b (state w)) (sym (part_join tree p.done from to h k)) ∙ puts-append (part p.done from tree) (part from to tree) (state w);
        gaps = none_needed p.covered;
      }

  -- one piece behind another
  pub converted_then : (a b c : ℕ) (x y : Bytes) (xs ys : List Bytes) (p q r : Put) (w w' w'' : Writer)
      → Converted ss tree a b x xs p w q w' → Converted ss tree b c y ys q w' r w'' → Converted ss tree a c (x ++ y) (xs ++ ys) p w r w''
  converted_then a b c x y xs ys p q r w w' w'' u v =
      record {
        same = v.same ∙ u.same;
        text = v.text ∙ ap (puts y) u.text ∙ sym (puts-append x y (copied_to tree a p w));
        gaps = v.gaps ∙ ap (λ (t : Bool). t && are_covered ss ys) u.gaps ∙ and-and p.covered (are_covered ss xs) (are_covered ss ys) ∙ ap (λ (t : Bool). p.covered && t) (sym (covered-append ss xs ys));
      }

  pub converted_as : (a b : ℕ) (x y : Bytes) (xs ys : List Bytes) (p q : Put) (w w' : Writer) → x ≡ y → xs ≡ ys → Converted ss tree a b x xs p w q w' → Converted ss tree a b y ys p w q w'
  converted_as a b x y xs ys p q w w' e f u =
      subst (λ (z : Bytes). Converted ss tree a b z ys p w q w') e (subst (λ (zs : List Bytes). Converted ss tree a b x zs p w q w') f u)

  -- ---- an IRI

  module _ (from to : ℕ) (p : Put) (u : Writer) (low : p.done ≤ from) (less : from < to) (high : to ≤ length tree) where
    abbrev iri : Bytes
    iri = part from to tree

    pub iri-long : length iri ≡ to - from
    iri-long = simp (length-take, length-drop) (omega arith)

    -- no line covers it: it waits
    pub iri-waits : covering_line ss iri ≡ none → (q : Put) → q.done ≡ p.done → q.covered ≡ false → (q.done ≤ to) × Converted ss tree from to (converted_iri ss iri) (iri ∷ []) p u q u
    unfolding converted_iri copied_to are_covered all
    iri-waits e q d c = (
      omega arith,
      record {
        same = refl;
        text = ap (λ (i : ℕ). puts (part i to tree) (state u)) d ∙ (converted-copy from to p u low (omega arith)).text ∙ ap (λ (b : Bytes). puts b (puts (part p.done from tree) (state u))) (sym (ap (λ (o : Option Start). start_replaced o iri) e));
        gaps = c ∙ sym (ap (λ (o : Option Start). p.covered && (given o && true)) e ∙ and-false p.covered);
      },
    )

    module _ (s : Start) (e : covering_line ss iri ≡ some s) (short : length s.old < length iri) (lt : get_or tree from 0 ≡ 60) where
      behind : drop (suc (length s.old)) iri ≡ part (from + 1 + length s.old) to tree
      behind =
          let l = iri-long in
          let n : length (part from (from + 1 + length s.old) tree) ≡ suc (length s.old) = simp (length-take, length-drop) (omega arith) in
          ap (drop (suc (length s.old))) (sym (part_join tree from (from + 1 + length s.old) to (omega arith) (omega arith)))
          ∙ drop_at (part from (from + 1 + length s.old) tree) (part (from + 1 + length s.old) to tree) (suc (length s.old)) n

      first : part p.done (from + 1) tree ≡ part p.done from tree ++ (60 ∷ [])
      first = sym (part_join tree p.done from (from + 1) low (omega arith)) ∙ ap (λ (b : Bytes). part p.done from tree ++ b) (one_byte tree from (omega arith) ∙ ap (λ (x : ℕ). x ∷ []) lt)

      -- what waits with its <, then the new start; the rest waits
      pub iri-put : (v x : Writer) (q : Put) → Wrote u v (part p.done (from + 1) tree) → (new : Bytes) → new ≡ s.new → Wrote v x new
          → (old : Bytes) → old ≡ s.old → q.done ≡ from + 1 + length old → q.covered ≡ p.covered → (q.done ≤ to) × Converted ss tree from to (converted_iri ss iri) (iri ∷ []) p u q x
      unfolding converted_iri copied_to are_covered all
      iri-put v x q one new is two old was d' c =
          let l = iri-long in
          let d : q.done ≡ from + 1 + length s.old = d' ∙ ap (λ (b : Bytes). from + 1 + length b) was in
          let t : state x ≡ puts s.new (state v) = two.puts ∙ ap (λ (b : Bytes). puts b (state v)) is in (
            omega arith,
            record {
              same = two.same ∙ one.same;
              text =
                  ap (λ (i : ℕ). puts (part i to tree) (state x)) d
                  ∙ ap (puts (part (from + 1 + length s.old) to tree)) (t ∙ ap (puts s.new) (one.puts ∙ ap (λ (b : Bytes). puts b (state u)) first ∙ puts-append (part p.done from tree) (60 ∷ []) (state u)))
                  ∙ sym (puts-append s.new (part (from + 1 + length s.old) to tree) (puts (60 ∷ []) (puts (part p.done from tree) (state u))))
                  ∙ sym (puts-append (60 ∷ []) (s.new ++ part (from + 1 + length s.old) to tree) (puts (part p.done from tree) (state u)))
                  ∙ ap (λ (x : Bytes). puts (60 ∷ (s.new ++ x)) (puts (part p.done from tree) (state u))) (sym behind)
                  ∙ ap (λ (x : Option Start). puts (start_replaced x iri) (puts (part p.done from tree) (state u))) (sym e);
              gaps = c ∙ sym (ap (λ (x : Option Start). p.covered && (given x && true)) e ∙ and-true p.covered);
            },
          )
