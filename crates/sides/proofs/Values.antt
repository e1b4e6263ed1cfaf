-- The lines that bind a side's constants, as the code writes them. Assumes nothing.
use Prim.Native.Nat.{ℕ, zero, suc}
use mathlib.Core.Path.{◌≡◌, refl, sym, ap, ◌∙◌}
use mathlib.Core.List.{List, [], ◌∷◌, ◌++◌}
use Rattle.text.specs.Text.{Bytes, Line, ended, text_of}
use Rattle.text.specs.Word.{bytes}
use Rattle.text.specs.Field.{decimal, digits}
use Rattle.emit.specs.bridge.Emit.{Em, puts}
use Rattle.emit.proofs.Laws.{puts-append}
use Rattle.walking.specs.bridge.Walk.{tabbed}
use Rattle.walking.proofs.Written.{puts-ended}
use Rattle.sides.specs.bridge.Side.{join_line, values_lines}

-- without constants nothing is written
pub join-none : (m : ℕ) (e : Em) → m ≡ 0 → (t : List Line) → puts (text_of t) e ≡ puts (text_of (join_line m t)) e
join-none m e h t = rw h

pub join-put : (m : ℕ) (e e' : Em) → (m ≡ 0 → ⊥) → e' ≡ puts (bytes "join\n") e → (t : List Line) → puts (text_of t) e' ≡ puts (text_of (join_line m t)) e
unfolding text_of ended puts
join-put zero e e' h q t = absurd (h refl)
join-put (suc m) e e' h q t = ap (puts (text_of t)) q

pub values-none : (m n : ℕ) (cs ts : List Bytes) (e : Em) → m ≡ 0 → (t : List Line) → puts (text_of t) e ≡ puts (text_of (values_lines m n cs ts t)) e
values-none m n cs ts e h t = rw h

-- a line's end and the next line, whose word stands behind it
row_line : (ts : List Bytes) (t : List Line) (e : Em) → puts (text_of t) (puts (10 ∷ []) (puts (tabbed ts) (puts (bytes "\nrow") e))) ≡ puts (text_of ((bytes "row" ∷ ts) ∷ t)) (puts (10 ∷ []) e)
unfolding text_of puts
row_line ts t e = puts-ended (bytes "row") ts (text_of t) (puts (10 ∷ []) e)

cols-line : (cs : List Bytes) (t : List Line) (e : Em) → puts (text_of t) (puts (10 ∷ []) (puts (tabbed cs) (puts (bytes "\t1\ncols") e))) ≡ puts (text_of ((bytes "cols" ∷ cs) ∷ t)) (puts (bytes "\t1\n") e)
unfolding text_of puts
cols-line cs t e = puts-ended (bytes "cols") cs (text_of t) (puts (bytes "\t1\n") e)

values-line : (n : ℕ) (t : List Line) (e : Em) → puts (text_of t) (puts (bytes "\t1\n") (puts (decimal n) (puts (bytes "values\t") e))) ≡ puts (text_of ((bytes "values" ∷ decimal n ∷ decimal 1 ∷ []) ∷ t)) e
unfolding text_of ended puts decimal digits
values-line n t e = sym (puts-append (decimal n) (bytes "\t1\n" ++ text_of t) (puts (bytes "values\t") e))

-- the three lines, piece by piece
values-put : (m n : ℕ) (cs ts : List Bytes) (e e₁ e₂ e₃ e₄ e₅ e₆ e₇ : Em) → (m ≡ 0 → ⊥) → e₁ ≡ puts (bytes "values\t") e → e₂ ≡ puts (decimal n) e₁ → e₃ ≡ puts (bytes "\t1\ncols") e₂ → e₄ ≡ puts (tabbed cs) e₃
    → e₅ ≡ puts (bytes "\nrow") e₄ → e₆ ≡ puts (tabbed ts) e₅ → e₇ ≡ puts (10 ∷ []) e₆ → (t : List Line) → puts (text_of t) e₇ ≡ puts (text_of (values_lines m n cs ts t)) e
values-put zero n cs ts e e₁ e₂ e₃ e₄ e₅ e₆ e₇ h p₁ p₂ p₃ p₄ p₅ p₆ p₇ t = absurd (h refl)
values-put (suc m) n cs ts e e₁ e₂ e₃ e₄ e₅ e₆ e₇ h p₁ p₂ p₃ p₄ p₅ p₆ p₇ t =
    ap (puts (text_of t)) (p₇ ∙ ap (puts (10 ∷ [])) (p₆ ∙ ap (puts (tabbed ts)) p₅))
    ∙ row_line ts t e₄
    ∙ ap (λ (x : Em). puts (text_of ((bytes "row" ∷ ts) ∷ t)) (puts (10 ∷ []) x)) (p₄ ∙ ap (puts (tabbed cs)) p₃)
    ∙ cols-line cs ((bytes "row" ∷ ts) ∷ t) e₂
    ∙ ap (λ (x : Em). puts (text_of ((bytes "cols" ∷ cs) ∷ (bytes "row" ∷ ts) ∷ t)) (puts (bytes "\t1\n") x)) (p₂ ∙ ap (puts (decimal n)) p₁)
    ∙ values-line n ((bytes "cols" ∷ cs) ∷ (bytes "row" ∷ ts) ∷ t) e

-- the columns as they were counted
pub values-counted : (m n k : ℕ) (cs ts : List Bytes) (e e₁ e₂ e₃ e₄ e₅ e₆ e₇ : Em) → (m ≡ 0 → ⊥) → k ≡ n → e₁ ≡ puts (bytes "values\t") e → e₂ ≡ puts (decimal k) e₁ → e₃ ≡ puts (bytes "\t1\ncols") e₂ → e₄ ≡ puts (tabbed cs) e₃
    → e₅ ≡ puts (bytes "\nrow") e₄ → e₆ ≡ puts (tabbed ts) e₅ → e₇ ≡ puts (10 ∷ []) e₆ → (t : List Line) → puts (text_of t) e₇ ≡ puts (text_of (values_lines m n cs ts t)) e
values-counted m n k cs ts e e₁ e₂ e₃ e₄ e₅ e₆ e₇ h c p₁ p₂ = values-put m n cs ts e e₁ e₂ e₃ e₄ e₅ e₆ e₇ h p₁ (p₂ ∙ ap (λ (i : ℕ). puts (decimal i) e₁) c)
