-- Laws of writers. Assumes nothing.
use mathlib.Core.Path.{◌≡◌, refl, sym, ap, subst, ◌∙◌}
use mathlib.Core.List.{List, [], ◌++◌}
use Prim.Native.Nat.{ℕ}
use Rattle.emit.specs.bridge.Emit.{Em, em, puts}
use Rattle.emit.specs.declared.Writer.{Writer}
use Rattle.emit.specs.bridge.Writer.{Wrote, WroteBy, Left, state}
use Rattle.emit.proofs.Laws.{puts-append, puts-nil}

-- one after the other
pub wrote-then : {u v w : Writer} {a b : List ℕ} → Wrote u v a → Wrote v w b → Wrote u w (a ++ b)
wrote-then {u} {v} {w} {a} {b} p q = record { same = q.same ∙ p.same; puts = q.puts ∙ ap (puts b) p.puts ∙ sym (puts-append a b (em u.at u.out.now)) }

-- the same bytes, said otherwise
pub wrote-as : {u v : Writer} {a b : List ℕ} → a ≡ b → Wrote u v a → Wrote u v b
wrote-as {u} {v} e p = subst (Wrote u v) e p

-- nothing
pub wrote-none : {u : Writer} → Wrote u u []
wrote-none {u} = record { same = refl; puts = sym (puts-nil (em u.at u.out.now)) }

-- what is left to be put
pub left-all : {u : Writer} (all : List ℕ) → Left u u all all
left-all all = record { same = refl; puts = refl }

pub left-as : {u v : Writer} {all rest rest' : List ℕ} → rest ≡ rest' → Left u v all rest → Left u v all rest'
left-as {u} {v} {all} e p = subst (Left u v all) e p

pub left-next : {u v w : Writer} {all rest a : List ℕ} → Left u v all (a ++ rest) → Wrote v w a → Left u w all rest
left-next {u} {v} {w} {all} {rest} {a} p q =
    record { same = q.same ∙ p.same; puts = ap (puts rest) q.puts ∙ sym (puts-append a rest (em v.at v.out.now)) ∙ p.puts }

pub left-none : {u v : Writer} {all : List ℕ} → Left u v all [] → Wrote u v all
left-none {u} {v} p = record { same = p.same; puts = sym (puts-nil (em v.at v.out.now)) ∙ p.puts }

-- from where a writer stood
pub wrote-from : {u v : Writer} {bs : List ℕ} {e : Em} → Wrote u v bs → state u ≡ e → state v ≡ puts bs e
wrote-from {u} {v} {bs} p q = p.puts ∙ ap (puts bs) q

pub wrote-by-from : {u v : Writer} {f : Em → Em} {e : Em} → WroteBy u v f → state u ≡ e → state v ≡ f e
wrote-by-from {u} {v} {f} p q = p.is ∙ ap f q
