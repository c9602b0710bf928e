-- What the parts of a sequence stand for.
use Rattle.std.specs.Prelude.{List, map}
use Rattle.oer_model.specs.AsnValue.{Places, Unknown}
use Rattle.oer_values.specs.ValueView.{places_of, unknown_of}
use Rattle.oer_decoder.specs.declared.value.Start.{Start}
use Rattle.oer_decoder.specs.declared.value.Added.{Added}
use Rattle.oer_decoder.specs.Places.{Started}

abbrev pub start_of : Start → Started
start_of s = record { extended = s.is_extended; root = places_of s.places.items }

abbrev pub added_of : Added → Places × List Unknown
added_of a = (places_of a.known.items, map unknown_of a.unknown.items)
