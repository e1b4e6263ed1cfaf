-- What a query's text for an edition is, from the query's lines alone: docs/SPECIFICATION.md, "sparql". Its own refusals (1, 2), then 12 and 13, else the text; the buffer's 6 comes after. Assumes nothing.
use Rattle.std.proofs.Math.Option.{Option, none, some}
use Rattle.text.specs.Text.{Bytes}
use Rattle.algebra.specs.Query.{Query}
use Rattle.algebra.specs.Reader.{Outcome as Reading}
use Rattle.algebra.specs.Given.{read_given_query}
use Rattle.answers.specs.Outcome.{Outcome, refused, written, then}
use Rattle.editions.specs.Token.{Edition}
use Rattle.editions.specs.Spelling.{spell}
use Rattle.editions.specs.Refusals.{Refusal, refusal_number, refusal}

abbrev pub unless_refused : Option Refusal → Bytes → Outcome
unless_refused none b = written b
unless_refused (some n) b = refused (refusal_number n)

-- for a query that is read
abbrev pub edition_read : Edition → Reading Query → Outcome
edition_read ed r = then r λ q. unless_refused (refusal ed q) (spell q)

unfoldable pub edition_outcome : Edition → Bytes → Outcome
unfolding read_given_query refusal spell
edition_outcome ed s = edition_read ed (read_given_query s)
