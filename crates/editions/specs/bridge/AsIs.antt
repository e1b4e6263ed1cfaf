-- A query's text for an edition from its lines as they stand, as the code proves it behind the test for an empty file. Assumes nothing.
use Rattle.text.specs.Text.{Bytes}
use Rattle.algebra.specs.Texts.{read_query}
use Rattle.answers.specs.Outcome.{Outcome}
use Rattle.editions.specs.Token.{Edition}
use Rattle.editions.specs.Spelling.{spell}
use Rattle.editions.specs.Refusals.{refusal}
use Rattle.editions.specs.Outcome.{edition_read}

unfoldable pub edition_as_is : Edition → Bytes → Outcome
unfolding read_query refusal spell
edition_as_is ed s = edition_read ed (read_query s)
