-- Values in which no CHOICE has chosen the tag of an end.
use Rattle.std.specs.Prelude.{◌≡◌, false}
use Rattle.oer_model.specs.AsnValue.{AsnValue, Places, Values, absent, chosen, foreign, items, leaf_value, no_places, no_values, present, seq, value}
use Rattle.oer_model.specs.Constraints.{same_tag}
use Rattle.oer_nesting.specs.Deeper.{end_tag}

abbrev mutual
  pub IsFree : AsnValue → Type 0
  IsFree (leaf_value v) = Unit {0}
  IsFree (seq root added us) = ArePlacesFree root × ArePlacesFree added
  IsFree (items vs) = AreValuesFree vs
  IsFree (chosen t v) = (same_tag end_tag t ≡ false) × IsFree v
  IsFree (foreign t w) = Unit {0}

  pub AreValuesFree : Values → Type 0
  AreValuesFree no_values = Unit {0}
  AreValuesFree (value v vs) = IsFree v × AreValuesFree vs

  pub ArePlacesFree : Places → Type 0
  ArePlacesFree no_places = Unit {0}
  ArePlacesFree (absent ps) = ArePlacesFree ps
  ArePlacesFree (present v ps) = IsFree v × ArePlacesFree ps
