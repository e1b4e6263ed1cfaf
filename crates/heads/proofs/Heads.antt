-- A query's head line, by places in the text. Assumes nothing.
use Prim.Native.Nat.{ℕ, suc, ◌+◌, ◌-◌, ◌<◌}
use mathlib.Core.Path.{◌≡◌, refl, sym, ap, ◌∙◌}
use mathlib.Core.List.{List, [], ◌∷◌, ◌++◌}
use mathlib.Core.Bool.{Bool, true, false, not, ◌&&◌}
use mathlib.Core.Logic.{⊎_elim}
use native.Mathlib.Omega.{arith}
use lib.ListN.{length, take}
use lib.Seq.{take-suc}
use Rattle.text.specs.Text.{Bytes, Line, same, ended, text_of, split, part, lines_of, lines_from, First}
use Rattle.text.specs.Word.{bytes}
use Rattle.text.proofs.Basics.{same-eq, same_refl, and_left, and_right}
use Rattle.text.proofs.Texts.{glue, glue-split, ended-glue, lines-back}
use Rattle.text.proofs.Places.{lines_start, lines_next}
use Rattle.text.proofs.Tests.{or_left, or_right, and-stop!, and-go! }
use Rattle.algebra.specs.Query.{Query}
use Rattle.algebra.specs.Valid.{ValidQuery}
use Rattle.algebra.specs.Layout.{put, put_query}
use Rattle.algebra.specs.Reader.{Outcome as Reading, reads}
use Rattle.algebra.specs.Given.{empty_tree, tree_lines, query_lines, read_given_query}
use Rattle.algebra.proofs.Neat.{query-neat}
use Rattle.algebra.proofs.Given.{query-given, head-reads}
use Rattle.algebra.proofs.Alone.{some-from, not-alone, stands-alone}
use Rattle.cursor.specs.bridge.Cursor.{left}
use Rattle.cursor.proofs.Laws.{left-none}
use Rattle.scoping.proofs.Basics.{both_ways}
use Rattle.merging.specs.Merge.{is_select_or_ask, mergeable}
use Rattle.reader.specs.bridge.Lines.{LineEnd}
use Rattle.reader.proofs.Laws.{nothing-here}
use Rattle.walking.proofs.Laws.{line-split, next_field}
use Rattle.heads.specs.bridge.TreeAt.{head_line, HeadOf, GivenAt, Starts}

-- where the head line stands alone, the tree is that of an empty file
alone-empty : (s : Bytes) (q : Query) (end : ℕ) → First 10 s 0 (length s) end → end + 1 ≡ length s → read_given_query s ≡ reads q → q.tree ≡ empty_tree
unfolding ValidQuery put_query
alone-empty s q end first last e =
    let g = query-given s q e in
    let k = g.lines ∙ ap query_lines (stands-alone s end first last) in
    let here : lines_of s ≡ head_line q ∷ [] = (let n = stands-alone s end first last in let f : head_line q ≡ split 9 (part 0 end s) = cc in n ∙ ap (λ (l : Line). l ∷ []) (sym f)) in
    let r = head-reads s q.kind q.dataset q.base here g.valid.0 g.valid.1 g.valid.2 g.bytes in
    let z : ◌≡◌ {A = Reading Query} (reads q) (reads (record { kind = q.kind; dataset = q.dataset; base = q.base; tree = empty_tree })) = sym e ∙ r in
    let w : ◌≡◌ {A = Query} q (record { kind = q.kind; dataset = q.dataset; base = q.base; tree = empty_tree }) = cc in
    ap (λ (x : Query). x.tree) w

-- ---- a query as it is given

module _ (s : Bytes) (end : ℕ) (l : LineEnd s 0 end) (q : Query) (e : read_given_query s ≡ reads q) where
  -- its lines, as they are read
  given-lines : head_line q ∷ put q.tree [] ≡ query_lines (lines_from s 0)
  unfolding put_query
  given-lines = (query-given s q e).lines ∙ ap query_lines (lines_start s)

  -- the head line is ended
  head-ends : end < length s
  head-ends = let h = l.high in let n = not_last in omega arith
    where
      not_last : end ≡ length s → ⊥
      not_last k =
          ⊎_elim
          (λ (z : lines_from s 0 ≡ []). let n = given-lines ∙ ap query_lines z in let x : ◌≡◌ {A = ℕ} 0 1 = cc in omega arith)
          (λ (z : lines_from s 0 ≡ [] ∷ []). let n = given-lines ∙ ap query_lines z in let x : ◌≡◌ {A = ℕ} 0 1 = cc in omega arith)
          (nothing-here s 0 end l k)

  head-next : head_line q ∷ put q.tree [] ≡ split 9 (part 0 end s) ∷ tree_lines (lines_from s (end + 1))
  head-next = given-lines ∙ ap query_lines (lines_next s 0 end (l.ends head-ends) head-ends)

  head-is : head_line q ≡ split 9 (part 0 end s)
  head-is = let n = head-next in cc

  -- before the tree stands the head's text
  head-text : take (end + 1) s ≡ ended (head_line q) []
  head-text =
      let h = head-ends in
      let z : end - 0 ≡ end = omega arith in
      ap (λ (i : ℕ). take i s) (let e : end + 1 ≡ suc end = omega arith in e)
      ∙ take-suc s end 0 h
      ∙ ap (λ (b : ℕ). take end s ++ (b ∷ [])) ((l.ends h).here h)
      ∙ ap (λ (b : Bytes). b ++ (10 ∷ [])) (sym (glue-split 9 (take end s)) ∙ ap (λ (i : ℕ). glue 9 (split 9 (take i s))) (sym z) ∙ ap (glue 9) (sym head-is))
      ∙ sym (ended-glue (head_line q) [])

  head_of : HeadOf (take (end + 1) s) q
  unfolding text_of put_query
  head_of = record { text = head-text; lines = ap lines_of head-text ∙ lines-back (head_line q ∷ []) ((query-neat q [] (query-given s q e).valid tt).0, tt) }

  behind-lines : end + 1 < length s → lines_from s (end + 1) ≡ put q.tree []
  behind-lines more = go (lines_from s (end + 1)) refl
    where
      go : (ls : List Line) → lines_from s (end + 1) ≡ ls → lines_from s (end + 1) ≡ put q.tree []
      go [] k = absurd (some-from s (end + 1) more k)
      go (m ∷ ls) k = let n = head-next in let t : put q.tree [] ≡ tree_lines (lines_from s (end + 1)) = cc in k ∙ sym (t ∙ ap tree_lines k)

  -- the tree starts behind it, or nothing does
  tree-behind : GivenAt s q (end + 1)
  tree-behind =
      let h = head-ends in
      let first = l.ends h in
      record {
        head = head_of;
        stands = λ more. let r = sym (not-alone s end first (λ z. (let w = more in omega (arith, z, w)))) ∙ e in (r, record { lines = behind-lines more; head = head-text });
        alone = λ last. alone-empty s q end first last e;
      }

  -- where the first line isn't ended, no query is read
  tree-never : (r : ℕ) → end ≡ length s → GivenAt s q r
  tree-never r k = let h = head-ends in absurd (omega arith)

-- where the first line ends, whatever the text says
module _ (s : Bytes) (end : ℕ) (l : LineEnd s 0 end) where
  pub starts-behind : (end ≡ length s → ⊥) → Starts s (end + 1)
  starts-behind n =
      let h = l.high in
      let less : end < length s = omega (arith, h, n) in
      record {
        high = omega arith;
        given = λ q e. tree-behind s end l q e;
        same = λ more. not-alone s end (l.ends less) (λ z. (let w = more in omega (arith, z, w)));
      }

  pub starts-never : end ≡ length s → Starts s end
  starts-never k = record { high = l.high; given = λ q e. tree-never s end l q e end k; same = λ more. absurd (omega arith) }

-- ---- a head line's kind is its second field

module _ (s : Bytes) (end : ℕ) (l : LineEnd s 0 end) (q : Query) (k : HeadOf s q) where
  line-ends : end < length s
  line-ends = let h = l.high in let n = not_last in omega arith
    where
      first : lines_from s 0 ≡ head_line q ∷ []
      first = sym (lines_start s) ∙ k.lines

      not_last : end ≡ length s → ⊥
      not_last z =
          ⊎_elim
          (λ (y : lines_from s 0 ≡ []). let n = first in let x : ◌≡◌ {A = ℕ} 0 1 = cc in omega arith)
          (λ (y : lines_from s 0 ≡ [] ∷ []). let n = first in let x : ◌≡◌ {A = ℕ} 0 1 = cc in omega arith)
          (nothing-here s 0 end l z)

  fields-are : split 9 (part 0 end s) ∷ lines_from s (end + 1) ≡ head_line q ∷ []
  fields-are = sym (lines_next s 0 end (l.ends line-ends) line-ends) ∙ sym (lines_start s) ∙ k.lines

  module _ (w : ℕ) (f : First 9 s 0 end w) where
    behind-word : left s (w + 1) end ≡ q.kind ∷ q.dataset ∷ q.base ∷ []
    behind-word = let x = line-split s 0 end w line-ends (omega arith) f in let n = fields-are in cc

    pub kind-missing : (b : Bool) → w ≡ end → b ≡ is_select_or_ask q.kind
    kind-missing b k = let x = left-none s (w + 1) end (omega arith) in let y = behind-word in let z : ◌≡◌ {A = ℕ} 0 1 = cc in absurd (omega arith)

    module _ (t : ℕ) (n : w ≡ end → ⊥) (g : First 9 s (w + 1) end t) (b : Bool) (select : b ≡ same (part (w + 1) t s) (bytes "select")) where
      kind_at : part (w + 1) t s ≡ q.kind
      kind_at = let high = f.high in let x = next_field s (w + 1) end t line-ends (omega arith) g in let y = behind-word in cc

      pub is-select : b ≡ true → true ≡ is_select_or_ask q.kind
      unfolding is_select_or_ask
      is-select h = or_left b (same q.kind (bytes "select")) (same q.kind (bytes "ask")) (select ∙ ap (λ (x : Bytes). same x (bytes "select")) kind_at) h

      pub is_ask : (c : Bool) → b ≡ false → c ≡ same (part (w + 1) t s) (bytes "ask") → c ≡ is_select_or_ask q.kind
      unfolding is_select_or_ask
      is_ask c h k =
          or_right b c (same q.kind (bytes "select")) (same q.kind (bytes "ask")) (select ∙ ap (λ (x : Bytes). same x (bytes "select")) kind_at) h
          (k ∙ ap (λ (x : Bytes). same x (bytes "ask")) kind_at)

-- ---- two heads

module _ (s t : Bytes) (a b : Query) (l : HeadOf s a) (r : HeadOf t b) where
  abbrev heads-same : Bool
  heads-same = same a.kind b.kind && (same a.dataset b.dataset && same a.base b.base)

  -- a head line is told from its text, since no field has a tab or a line end
  one-head : same s t ≡ heads-same
  one-head = both_ways (same s t) heads-same
      (λ h.
      let x = l.lines in
      let y = r.lines in
      let z : lines_of s ≡ lines_of t = ap lines_of (same-eq _ _ h) in
      let k : a.kind ≡ b.kind = cc in
      let d : a.dataset ≡ b.dataset = cc in
      let c : a.base ≡ b.base = cc in
      rw (k, d, c, same_refl b.kind, same_refl b.dataset, same_refl b.base))
      (λ h.
      let k = same-eq a.kind b.kind (and_left (same a.kind b.kind) _ h) in
      let x = and_right (same a.kind b.kind) _ h in
      let d = same-eq a.dataset b.dataset (and_left (same a.dataset b.dataset) _ x) in
      let c = same-eq a.base b.base (and_right (same a.dataset b.dataset) _ x) in
      let h : head_line a ≡ head_line b = rw (k, d, c) in
      ap (λ (y : Bytes). same y t) (l.text ∙ ap (λ (y : Line). ended y []) h ∙ sym r.text) ∙ same_refl t)

  pub not-mergeable : (k : Bool) → k ≡ is_select_or_ask a.kind → not k ≡ true → false ≡ mergeable a b
  unfolding mergeable
  not-mergeable k is h = and-stop! k (is_select_or_ask a.kind) heads-same is h

  pub heads-decide : (k c : Bool) → k ≡ is_select_or_ask a.kind → not k ≡ false → c ≡ same s t → c ≡ mergeable a b
  unfolding mergeable
  heads-decide k c is h m = and-go! k c (is_select_or_ask a.kind) heads-same is h (m ∙ one-head)
