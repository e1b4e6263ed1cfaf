-- `sides::writing/put_values` meets its contract. Assumes nothing.
use mathlib.Core.Path.{refl, ◌∙◌}
use Rattle.sides.proofs.Values as Lines
use Rattle.sides.proofs.writing.put_values.Goals as goal

pub returns-then-outline-eq0 : goal.returns-then-outline-eq0
returns-then-outline-eq0 c = λ ks k t. record { same = refl; puts = Lines.values-none _ _ _ _ _ c.if-outline-eq0.true t }

pub put_columns-requires : goal.put_columns-requires
put_columns-requires c = (c.requires.4, c.count_ones-count.ensures.0 ∙ c.requires.5)

pub put_terms-requires : goal.put_terms-requires
put_terms-requires c = let p = c.requires in (p.0, p.1, p.2, p.3)

pub returns : goal.returns
returns c =
    λ ks h t. let r = c.put_terms.ensures ks h in record {
      same = c.put.ensures.same ∙ r.same ∙ c.put_all-3.ensures.same ∙ c.put_columns.ensures.same ∙ c.put_all-2.ensures.same ∙ c.put_decimal.ensures.same ∙ c.put_all.ensures.same;
      puts = Lines.values-counted _ _ _ _ _ _ _ _ _ _ _ _ _ c.if-outline-eq0.false c.count_ones-count.ensures.0 c.put_all.ensures.puts c.put_decimal.ensures.puts c.put_all-2.ensures.puts c.put_columns.ensures.puts c.put_all-3.ensures.puts r.puts c.put.ensures.puts t;
    }
