-- Worked examples of fields: docs/SPECIFICATION.md, "Kinds of fields". Assumes nothing.
use Rattle.std.specs.Prelude.{◌≡◌, refl, Bool, true, false, cond, List, [], ◌∷◌, map}
use Rattle.std.proofs.Math.Option.{none, some}
use Rattle.text.specs.Text.{Bytes, same, split, onto, lines_in, lines_of}
use Rattle.text.specs.Word.{bytes}
use Rattle.text.specs.Field.{number_of, digits_of, digits, decimal, is_tag, is_region, is_datatype, is_iri, is_var}

numbers : map number_of (bytes "0" ∷ bytes "4294967295" ∷ bytes "4294967296" ∷ bytes "01" ∷ bytes "" ∷ bytes "1a" ∷ []) ≡ some 0 ∷ some 4294967295 ∷ none ∷ none ∷ none ∷ none ∷ []
unfolding number_of digits_of
numbers = refl

written : map decimal (0 ∷ 9 ∷ 10 ∷ 2048 ∷ []) ≡ bytes "0" ∷ bytes "9" ∷ bytes "10" ∷ bytes "2048" ∷ []
unfolding decimal digits
written = refl

tags : map is_tag (bytes "de" ∷ bytes "gsw" ∷ bytes "de-at" ∷ bytes "gsw-ch" ∷ bytes "d" ∷ bytes "DE" ∷ bytes "de-" ∷ bytes "de-a" ∷ bytes "de-att" ∷ bytes "abcd" ∷ []) ≡ true ∷ true ∷ true ∷ true ∷ false ∷ false ∷ false ∷ false ∷ false ∷ false ∷ []
unfolding is_tag is_region
tags = refl

datatypes : map is_datatype (bytes "<http://www.w3.org/2001/XMLSchema#int>" ∷ bytes "<http://www.w3.org/2001/XMLSchema#string>" ∷ bytes "<http://www.w3.org/1999/02/22-rdf-syntax-ns#langString>" ∷ bytes "int" ∷ bytes "<>" ∷ []) ≡ true ∷ false ∷ false ∷ false ∷ true ∷ []
unfolding is_datatype is_iri same
datatypes = refl

-- the second line is not ended; an empty line has one empty field
lines : lines_of (bytes "bgp\t0\n\nx") ≡ (bytes "bgp" ∷ bytes "0" ∷ []) ∷ (bytes "" ∷ []) ∷ [] ∷ []
unfolding lines_of lines_in split onto
lines = refl
