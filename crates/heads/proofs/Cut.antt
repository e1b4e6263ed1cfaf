-- A text that is cut at a place: the bytes before it, and those from it on by their lines. Assumes nothing.
use Prim.Native.Nat.{ℕ, ◌+◌, ◌-◌, ◌≤◌}
use mathlib.Core.Path.{◌≡◌, refl, sym, ap, subst, ◌∙◌}
use mathlib.Core.List.{List, [], ◌∷◌, ◌++◌, append_assoc}
use native.Mathlib.Omega.{arith}
use lib.ListN.{length, take, drop, length-append, length-drop}
use lib.Seq.{take_all, take_at}
use Rattle.text.specs.Text.{Bytes, Line, ended, text_of, part, split, lines_in, lines_of, lines_from}
use Rattle.text.proofs.Texts.{Ended, text-back}

-- from a place on stands the text of the lines from there on, if each of them is ended
pub text-from : (s : Bytes) (at : ℕ) (ls : List Line) → lines_from s at ≡ ls → Ended ls → drop at s ≡ text_of ls
unfolding lines_from lines_of
text-from s at ls e n =
    let d : part at (length s) s ≡ drop at s = take_all (length s - at) (drop at s) (simp length-drop (omega arith)) in
    let l : ls ≡ lines_of (drop at s) = sym e ∙ ap (λ (x : Bytes). lines_in (split 10 x)) d in
    sym (ap text_of l ∙ text-back (drop at s) (subst Ended l n))

-- what follows the part before a place tells that part
pub text-before : (s a : Bytes) (at : ℕ) → at ≤ length s → s ≡ a ++ drop at s → take at s ≡ a
text-before s a at h e =
    let n : length s ≡ length a + (length s - at) = ap length e ∙ simp (length-append, length-drop) in
    ap (take at) e ∙ take_at a (drop at s) at (omega arith)

pub ended-append : (l : Line) (x y : Bytes) → ended l (x ++ y) ≡ ended l x ++ y
unfolding ended
ended-append [] x y = refl
ended-append (f ∷ []) x y = sym (append_assoc f (10 ∷ x) y)
ended-append (f ∷ g ∷ fs) x y = rw (ended-append (g ∷ fs) x y) (sym (append_assoc f (9 ∷ ended (g ∷ fs) x) y))

pub text-append : (ls ms : List Line) → text_of (ls ++ ms) ≡ text_of ls ++ text_of ms
unfolding text_of
text-append [] ms = refl
text-append (l ∷ ls) ms = ap (ended l) (text-append ls ms) ∙ ended-append l (text_of ls) (text_of ms)
