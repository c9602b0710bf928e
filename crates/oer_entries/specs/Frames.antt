-- What is known of the parts on the way to the octets in hand.
use Rattle.std.specs.Prelude.{ℕ, ◌+◌, min, List, length, Bool, true, false, Option, Some, None, option_map}
use Rattle.oer_units.specs.Reader.{at}
use Rattle.oer_units.specs.Reading.{tag}
use Rattle.oer_units.specs.declared.tagging.Tag.{Tag}
use Rattle.oer_model.specs.AsnType.{AsnType}
use Rattle.oer_model.specs.Constraints.{any_size}
use Rattle.oer_values.specs.ShapeView.{type_of}
use Rattle.oer_values.specs.ValueView.{value_of}
use Rattle.oer_checker.specs.Check.{most}
use Rattle.oer_checker.specs.Steps.{sized_length, sized_quantity}
use Rattle.oer_parts.specs.Walk.{read_in}
use Rattle.oer_parts.specs.declared.step.Step.{Step}
use Rattle.oer_rows.specs.declared.row.Role.{Role}
use Rattle.oer_rows.specs.declared.row.Role.TheVariants.{Preamble, Bitmap, Quantity, Tag as TagRole, Length, Contents, Unknown}
use Rattle.oer_entries.specs.Known.{Known}
use Rattle.oer_entries.specs.Names.{text_of}
use Rattle.oer_entries.specs.declared.frame.Frame.{Frame}

-- a part on the way: the step to it, what the type says of it, what was read of it, and how long the texts of the way to it are
pub record Seen : Type 0 where
  pub step : Option Step
  pub is : Known
  pub is_begun : Bool
  pub is_done : Bool
  pub end : Option ℕ
  pub preamble : Option (List ℕ)
  pub bitmap : Option (List ℕ)
  pub count : Option ℕ
  pub tag : Option Tag
  pub last : Option Step
  pub path_end : ℕ
  pub names_end : ℕ

abbrev pub type_at : Frame → Option AsnType
type_at f = option_map (λ s. type_of s.now) f.shape

abbrev pub known_as : Frame → Known
known_as f = record {
  name = text_of f.name;
  type = type_at f;
  default_value = option_map (λ v. value_of v.now) f.default;
}

abbrev pub seen : Frame → Seen
seen f = record {
  step = f.step;
  is = known_as f;
  is_begun = f.is_begun;
  is_done = f.is_done;
  end = f.end;
  preamble = option_map (λ b. b.now) f.preamble;
  bitmap = option_map (λ b. b.now) f.bitmap;
  count = f.count;
  tag = f.tag;
  last = f.last;
  path_end = f.path_end;
  names_end = f.names_end;
}

-- a part of which nothing was read
abbrev pub fresh : Option Step → Known → ℕ → ℕ → Seen
fresh step is path_end names_end = record {
  step = step;
  is = is;
  is_begun = false;
  is_done = false;
  end = None;
  preamble = None;
  bitmap = None;
  count = None;
  tag = None;
  last = None;
  path_end = path_end;
  names_end = names_end;
}

-- what octets say: a length, a quantity, a tag
abbrev pub length_of : List ℕ → Option ℕ
length_of b = option_map (λ y. y.0) (read_in (sized_length (at b most)))

abbrev pub quantity_of : List ℕ → Option ℕ
quantity_of b = option_map (λ y. y.0) (read_in (sized_quantity any_size (at b most)))

abbrev pub tag_of : List ℕ → Option Tag
tag_of b = read_in (tag (at b most))

-- the part after octets of it were read, so many being before them
abbrev pub noted : Role → ℕ → List ℕ → Seen → Seen
noted Preamble offset b f = record f { is_begun = true; preamble = Some b }
noted Bitmap offset b f = record f { is_begun = true; bitmap = Some b }
noted Quantity offset b f = record f { is_begun = true; count = quantity_of b }
noted TagRole offset b f = record f { is_begun = true; tag = tag_of b }
noted Length offset b f = record f { is_begun = true; end = option_map (λ n. min (min (offset + length b) most + n) most) (length_of b) }
noted Contents offset b f = record f { is_begun = true; is_done = true }
noted Unknown offset b f = record f { is_begun = true; is_done = true }
