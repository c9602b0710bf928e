-- A `Shape`, level by level, beside what it stands for.
use Rattle.std.proofs.Common.{◌≡◌, ℤ, Bool, List, [], ◌∷◌, map, Option, Some, None, Vec, Box, Global, refl, ap₂, true, rules}
use Rattle.oer_model.specs.AsnType.{AsnType, integer, enumerated, bit_string, octet_string, restricted_string, ia5, visible, numeric, printable, utf8_string, extensible_sequence, sequence_of, choice}
use Rattle.oer_values.specs.ShapeView.{SeenField, SeenAddition, SeenAlternative, shape_step, addition_step, alt_step, field_step, type_of, named_number, seen_field, seen_addition, seen_alternative, sequence_with, choice_with, fields_from, additions_from, root_from, later_from}
use Rattle.oer_model.specs.declared.size.Size.{Size}
use Rattle.oer_values.specs.declared.shape.Item.{Item}
use Rattle.oer_values.specs.declared.shape.Field.{Field, fold-Field}
use Rattle.oer_values.specs.declared.shape.Addition.{Addition, fold-Addition}
use Rattle.oer_values.specs.declared.shape.Alt.{Alt, fold-Alt}
use Rattle.oer_values.specs.declared.shape.Shape.{Shape, Integer, Enumerated, BitString, OctetString, Ia5, Visible, Numeric, Printable, Utf8, Sequence, SequenceOf, Choice, the_lemmas}

field_is : (f : Field) → fold-Field AsnType SeenAddition SeenAlternative SeenField shape_step addition_step alt_step field_step f ≡ seen_field f
field_is f = search (rules, the_lemmas)

addition_is : (a : Addition) → fold-Addition AsnType SeenAddition SeenAlternative SeenField shape_step addition_step alt_step field_step a ≡ seen_addition a
addition_is a = search (rules, the_lemmas)

alternative_is : (a : Alt) → fold-Alt AsnType SeenAddition SeenAlternative SeenField shape_step addition_step alt_step field_step a ≡ seen_alternative a
alternative_is a = search (rules, the_lemmas)

fields_are : (fs : List Field) → map (fold-Field AsnType SeenAddition SeenAlternative SeenField shape_step addition_step alt_step field_step) fs ≡ map seen_field fs
fields_are [] = refl
fields_are (f ∷ fs) = ap₂ (λ x xs. x ∷ xs) (field_is f) (fields_are fs)

additions_are : (xs : List Addition) → map (fold-Addition AsnType SeenAddition SeenAlternative SeenField shape_step addition_step alt_step field_step) xs ≡ map seen_addition xs
additions_are [] = refl
additions_are (a ∷ xs) = ap₂ (λ x xs. x ∷ xs) (addition_is a) (additions_are xs)

alternatives_are : (xs : List Alt) → map (fold-Alt AsnType SeenAddition SeenAlternative SeenField shape_step addition_step alt_step field_step) xs ≡ map seen_alternative xs
alternatives_are [] = refl
alternatives_are (a ∷ xs) = ap₂ (λ x xs. x ∷ xs) (alternative_is a) (alternatives_are xs)

pub type_of-Integer : (low high : Option ℤ) → type_of (Integer low high) ≡ integer low high
type_of-Integer low high = search (rules, the_lemmas)

pub type_of-Enumerated : (xs : Vec Item Global) (extensible : Bool) → type_of (Enumerated xs extensible) ≡ enumerated (map named_number xs.items) extensible
type_of-Enumerated xs extensible = search (rules, the_lemmas)

pub type_of-BitString : (s : Size) → type_of (BitString s) ≡ bit_string s
type_of-BitString s = search (rules, the_lemmas)

pub type_of-OctetString : (s : Size) → type_of (OctetString s) ≡ octet_string s
type_of-OctetString s = search (rules, the_lemmas)

pub type_of-Ia5 : (s : Size) → type_of (Ia5 s) ≡ restricted_string ia5 s
type_of-Ia5 s = search (rules, the_lemmas)

pub type_of-Visible : (s : Size) → type_of (Visible s) ≡ restricted_string visible s
type_of-Visible s = search (rules, the_lemmas)

pub type_of-Numeric : (s : Size) → type_of (Numeric s) ≡ restricted_string numeric s
type_of-Numeric s = search (rules, the_lemmas)

pub type_of-Printable : (s : Size) → type_of (Printable s) ≡ restricted_string printable s
type_of-Printable s = search (rules, the_lemmas)

pub type_of-Utf8 : (s : Size) → type_of (Utf8 s) ≡ utf8_string s
type_of-Utf8 s = search (rules, the_lemmas)

pub type_of-SequenceOf : (s : Size) (item : Box Shape Global) → type_of (SequenceOf s item) ≡ sequence_of s (type_of item.value)
type_of-SequenceOf s item = search (rules, the_lemmas)

pub type_of-Sequence : (root : Vec Field Global) (additions : Option (Vec Addition Global)) → type_of (Sequence root additions) ≡ sequence_with root.items additions
type_of-Sequence root None = search (rules, the_lemmas, field_is)
type_of-Sequence root (Some more) = simp (the_lemmas) (ap₂ (λ a b. extensible_sequence (fields_from a) (additions_from b)) (fields_are root.items) (additions_are more.items))

pub type_of-Choice : (root : Vec Alt Global) (additions : Option (Vec Alt Global)) → type_of (Choice root additions) ≡ choice_with root.items additions
type_of-Choice root None = search (rules, the_lemmas, alternative_is)
type_of-Choice root (Some more) = simp (the_lemmas) (ap₂ (λ a b. choice true (root_from a (later_from b))) (alternatives_are root.items) (alternatives_are more.items))

-- each level of a type
pub ruleset shapes = (type_of-Integer, type_of-Enumerated, type_of-BitString, type_of-OctetString, type_of-Ia5, type_of-Visible, type_of-Numeric, type_of-Printable, type_of-Utf8, type_of-SequenceOf, type_of-Sequence, type_of-Choice)
