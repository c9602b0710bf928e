-- Whether a value fits a type, as a test.
use Rattle.std.specs.Prelude.{ℕ, suc, ◌^◌, List, [], ◌∷◌, length, Bool, true, false, not, ◌&&◌, ◌||◌, leb, ltb, if◌then◌else◌}
use Rattle.oer_units.specs.Reading.{is_int64}
use Rattle.oer_units.specs.declared.tagging.Tag.{Tag}
use Rattle.oer_model.specs.Limits.{last_place}
use Rattle.oer_model.specs.LeafType.{LeafType, bit_string, boolean, content, enumerated, integer, null}
use Rattle.oer_model.specs.LeafValue.{LeafValue, bit_list, bool, enum, int, nothing}
use Rattle.oer_model.specs.AsnType.{Additions, Alternatives, AsnType, Fields, Need, addition, alternative, choice, default, extensible_sequence, field, later, leaf, may, must, no_additions, no_alternatives, no_fields, sequence, sequence_of}
use Rattle.oer_model.specs.AsnValue.{AsnValue, Places, Unknown, Values, absent, chosen, foreign, items, leaf_value, no_places, no_values, present, seq, unknown, value}
use Rattle.oer_model.specs.Contents.{content_fits, held}
pub use Rattle.oer_model.specs.Contents.{all_below, arcs_fit, first_arcs}
use Rattle.oer_model.specs.Constraints.{addition_count, has_number, has_tag, in_range, same_tag, size_fits}

abbrev pub values_length : Values → ℕ
values_length no_values = 0
values_length (value v vs) = suc (values_length vs)

abbrev pub all_fit : (AsnValue → Bool) → Values → Bool
all_fit f no_values = true
all_fit f (value v vs) = f v && all_fit f vs

abbrev pub may_be_absent : Need → Bool
may_be_absent must = false
may_be_absent may = true
may_be_absent (default v) = true

abbrev pub unknown_fit : ℕ → List Unknown → Bool
unknown_fit lowest [] = true
unknown_fit lowest (unknown place w ∷ us) = (leb lowest place && leb place last_place && all_below 256 w) && unknown_fit (suc place) us

abbrev pub is_without : Places → List Unknown → Bool
is_without no_places [] = true
is_without ps us = false

-- of values that hold no other
abbrev pub is_fit_leaf : LeafType → LeafValue → Bool
is_fit_leaf boolean (bool x) = true
is_fit_leaf null nothing = true
is_fit_leaf (integer low high) (int z) = in_range low high z
is_fit_leaf (enumerated xs extensible) (enum z) = is_int64 z && (extensible || has_number xs z)
is_fit_leaf (bit_string s) (bit_list bits) = size_fits s (length bits)
is_fit_leaf (content kind) v = held kind false (content_fits kind) v
is_fit_leaf kind v = false

abbrev mutual
  pub is_fit : AsnType → AsnValue → Bool
  is_fit (leaf kind) (leaf_value v) = is_fit_leaf kind v
  is_fit (sequence fs) (seq root added us) = is_without added us && fields_fit fs root
  is_fit (extensible_sequence fs more) (seq root added us) =
      fields_fit fs root && (additions_fit more added && unknown_fit (addition_count more) us)
  is_fit (sequence_of s T) (items vs) = size_fits s (values_length vs) && all_fit (is_fit T) vs
  is_fit (choice extensible more) (chosen t v) = alternative_fits more t v
  is_fit (choice extensible more) (foreign t w) = extensible && (not (has_tag t more) && (ltb t.number (2 ^ 32) && all_below 256 w))
  is_fit T v = false

  pub fields_fit : Fields → Places → Bool
  fields_fit no_fields no_places = true
  fields_fit (field name need T fs) (absent ps) = may_be_absent need && fields_fit fs ps
  fields_fit (field name need T fs) (present v ps) = is_fit T v && fields_fit fs ps
  fields_fit fs ps = false

  pub additions_fit : Additions → Places → Bool
  additions_fit no_additions no_places = true
  additions_fit (addition name T more) (absent ps) = additions_fit more ps
  additions_fit (addition name T more) (present v ps) = is_fit T v && additions_fit more ps
  additions_fit more ps = false

  pub alternative_fits : Alternatives → Tag → AsnValue → Bool
  alternative_fits no_alternatives t v = false
  alternative_fits (alternative name u T more) t v = if same_tag u t then is_fit T v else alternative_fits more t v
  alternative_fits (later name u T more) t v = if same_tag u t then is_fit T v else alternative_fits more t v

-- whether a value that holds no other fits; not for others
abbrev pub leaf_fits : AsnType → AsnValue → Bool
leaf_fits T (seq root added us) = false
leaf_fits T (items vs) = false
leaf_fits T (chosen t v) = false
leaf_fits T v = is_fit T v
