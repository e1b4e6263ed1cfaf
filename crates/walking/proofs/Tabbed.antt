-- Laws of fields that stand after tabs, and of what writes them. Assumes nothing.
use mathlib.Core.Path.{◌≡◌, refl, sym, ap, ◌∙◌}
use mathlib.Core.List.{List, [], ◌∷◌, ◌++◌, append_assoc, append-nil}
use Rattle.text.specs.Text.{Bytes}
use Rattle.emit.specs.declared.Writer.{Writer}
use Rattle.emit.specs.bridge.Writer.{Wrote}
use Rattle.emit.proofs.Writing.{wrote-then, wrote-as}
use Rattle.walking.specs.bridge.Walk.{tabbed}

pub tabbed-none : tabbed [] ≡ []
unfolding tabbed
tabbed-none = refl

pub tabbed-one : (f : Bytes) → tabbed (f ∷ []) ≡ (9 ∷ []) ++ f
unfolding tabbed
tabbed-one f = ap (λ (l : Bytes). 9 ∷ l) (append-nil f)

pub tabbed-append : (xs ys : List Bytes) → tabbed (xs ++ ys) ≡ tabbed xs ++ tabbed ys
unfolding tabbed
tabbed-append [] ys = refl
tabbed-append (x ∷ xs) ys = ap (λ (l : Bytes). 9 ∷ (x ++ l)) (tabbed-append xs ys) ∙ ap (λ (l : Bytes). 9 ∷ l) (sym (append_assoc x (tabbed xs) (tabbed ys)))

-- a tab and a field
pub put-tabbed : {u v w : Writer} {f : Bytes} → Wrote u v (9 ∷ []) → Wrote v w f → Wrote u w (tabbed (f ∷ []))
put-tabbed {f = f} p q = wrote-as (sym (tabbed-one f)) (wrote-then p q)
