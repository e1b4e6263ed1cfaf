-- The outcome of a query's text for an edition, by the lines of the text alone: what code has to do. Assumes nothing.
use mathlib.Core.Path.{◌≡◌, refl, sym, ap, ap₂, ◌∙◌}
use mathlib.Core.List.{List, [], ◌∷◌, ◌++◌, append_assoc}
use mathlib.Core.Option.{Option, none, some}
use Prim.Native.Nat.{◌≤◌}
use Rattle.text.specs.Text.{Bytes, Line, lines_of, lines_from}
use Rattle.text.proofs.Texts.{lines-back}
use Rattle.text.proofs.Places.{lines_start}
use Rattle.algebra.specs.Query.{Query}
use Rattle.algebra.specs.Reader.{reads}
use Rattle.algebra.specs.Texts.{read_query}
use Rattle.algebra.specs.Layout.{put_query}
use Rattle.algebra.specs.Valid.{ValidQuery}
use Rattle.algebra.specs.Depth.{depth}
use Rattle.algebra.specs.Bounded.{layout_query}
use Rattle.algebra.proofs.Neat.{query-neat}
use Rattle.algebra.proofs.Theorem.{query-exactly}
use Rattle.emit.specs.bridge.Emit.{Em, puts}
use Rattle.emit.proofs.Laws.{puts-append}
use Rattle.editions.specs.Token.{Edition, Token, written as spelledAs, text}
use Rattle.editions.specs.Spelling.{spell}
use Rattle.editions.specs.Refusals.{Refusal, refusal, root}
use Rattle.editions.specs.Outcome.{unless_refused}
use Rattle.editions.specs.bridge.AsIs.{edition_as_is}
use Rattle.spelling.specs.bridge.Saying.{said_tree}
use Rattle.spelling.specs.bridge.Judging.{judged_lines}
use Rattle.spelling.proofs.Spelled.{query-said}
use Rattle.spelling.proofs.Judged.{query-lines}

module _ (ed : Edition) (s : Bytes) (q : Query) (e : read_query s ≡ reads q) where
  query-valid : ValidQuery q
  query-valid = ((query-exactly s q).0 e).1

  query-at : lines_from s 0 ≡ put_query q []
  unfolding layout_query
  query-at = sym (lines_start s) ∙ ap lines_of (sym ((query-exactly s q).0 e).0) ∙ lines-back (put_query q []) (query-neat q [] query-valid tt)

  query-deep : depth q.tree ≤ 64
  query-deep = ((query-exactly s q).0 e).2.depth

  pub judged-at : judged_lines ed 64 root (lines_from s 0) ≡ refusal ed q
  judged-at = ap (judged_lines ed 64 root) query-at ∙ query-lines ed 64 q query-valid query-deep

  -- the head line stands over 64 levels
  pub said_at : refusal ed q ≡ none → text (said_tree 65 none (lines_from s 0)).tokens ≡ spell q
  unfolding spell
  said_at h = ap (λ (ls : List Line). text (said_tree 65 none ls).tokens) query-at ∙ ap text (query-said ed q 64 query-valid h query-deep)

  -- the first line that is refused, or what is said of the lines
  pub edition-by-lines : edition_as_is ed s ≡ unless_refused (judged_lines ed 64 root (lines_from s 0)) (text (said_tree 65 none (lines_from s 0)).tokens)
  unfolding edition_as_is
  edition-by-lines = rw e (go (refusal ed q) refl)
    where
      go : (r : Option Refusal) → refusal ed q ≡ r → unless_refused (refusal ed q) (spell q) ≡ unless_refused (judged_lines ed 64 root (lines_from s 0)) (text (said_tree 65 none (lines_from s 0)).tokens)
      go none h = ap₂ unless_refused (sym judged-at) (sym (said_at h))
      go (some r) h = ap (λ (o : Option Refusal). unless_refused o (spell q)) h ∙ ap (λ (o : Option Refusal). unless_refused o (text (said_tree 65 none (lines_from s 0)).tokens)) (sym (judged-at ∙ h))

-- ---- for writers: tokens one after the other

pub text-append : (a b : List Token) → text (a ++ b) ≡ text a ++ text b
unfolding text
text-append [] b = refl
text-append (t ∷ a) b = ap (λ (r : Bytes). spelledAs t ++ (32 ∷ r)) (text-append a b) ∙ sym (append_assoc (spelledAs t) (32 ∷ text a) (text b))

pub text-puts : (a b : List Token) (m : Em) → puts (text (a ++ b)) m ≡ puts (text b) (puts (text a) m)
text-puts a b m = ap (λ (r : Bytes). puts r m) (text-append a b) ∙ puts-append (text a) (text b) m
