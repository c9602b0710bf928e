-- A `Value`, level by level, beside what it stands for.
use Rattle.std.proofs.Common.{◌≡◌, ℕ, List, [], ◌∷◌, map, Option, Some, None, Vec, Box, Global, refl, rules}
use Rattle.oer_units.specs.declared.tagging.Tag.{Tag}
use Rattle.oer_model.specs.AsnValue.{octets, seq, items, chosen, foreign, no_values, no_places}
use Rattle.oer_values.specs.ValueView.{value_of, values_of, places_of, unknown_of}
use Rattle.oer_values.specs.declared.value.Unknown as rust_unknown
use Rattle.oer_values.specs.declared.value.Value.{Value, Octets, Seq, List as Elements, Chosen, Foreign, the_lemmas}

pub value_of-Octets : (v : Vec ℕ Global) → value_of (Octets v) ≡ octets v.items
value_of-Octets v = search (rules, the_lemmas)

pub value_of-Seq : (root added : Vec (Option Value) Global) (more : Vec rust_unknown.Unknown Global) → value_of (Seq root added more) ≡ seq (places_of root.items) (places_of added.items) (map unknown_of more.items)
value_of-Seq root added more = search (rules, the_lemmas)

pub value_of-List : (v : Vec Value Global) → value_of (Elements v) ≡ items (values_of v.items)
value_of-List v = search (rules, the_lemmas)

pub value_of-Chosen : (t : Tag) (v : Box Value Global) → value_of (Chosen t v) ≡ chosen t (value_of v.value)
value_of-Chosen t v = search (rules, the_lemmas)

pub value_of-Foreign : (t : Tag) (v : Vec ℕ Global) → value_of (Foreign t v) ≡ foreign t v.items
value_of-Foreign t v = search (rules, the_lemmas)

pub values_of-none : (vs : List Value) → no_values ≡ values_of vs → vs ≡ []
values_of-none [] e = refl
values_of-none (v ∷ vs) e = cc

pub places_of-none : (ps : List (Option Value)) → no_places ≡ places_of ps → ps ≡ []
places_of-none [] e = refl
places_of-none (None ∷ ps) e = cc
places_of-none (Some v ∷ ps) e = cc

-- each level of a value
pub ruleset values = (value_of-Octets, value_of-Seq, value_of-List, value_of-Chosen, value_of-Foreign)
