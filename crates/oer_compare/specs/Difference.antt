-- What differs first between two types, by which the second one doesn't only add to the first. A type is compared before the
-- parts in it, a component's name and tag before its type, and OPTIONAL or DEFAULT after it; parts in their order.
use Rattle.std.specs.Prelude.{ℕ, suc, List, [], ◌∷◌, Bool, true, false, ◌&&◌, eqb, if◌then◌else◌, ℤ, Option, Some, None, option_map}
use Rattle.oer_units.specs.declared.tagging.Tag.{Tag}
use Rattle.oer_model.specs.ContentType.{Alphabet, ContentType, ia5, numeric, object_id, octet_string, printable, restricted_string, utf8_string, visible}
use Rattle.oer_model.specs.LeafType.{LeafType, NamedNumber, bit_string, boolean, content, enumerated, integer, null}
use Rattle.oer_model.specs.AsnType.{Additions, Alternatives, AsnType, Fields, Need, addition, alternative, choice, default, extensible_sequence, field, later, leaf, may, must, no_additions, no_alternatives, no_fields, sequence, sequence_of}
use Rattle.oer_model.specs.Canonical.{same, same_bool, same_int, same_list}
use Rattle.oer_model.specs.Constraints.{same_tag}
use Rattle.oer_model.specs.declared.size.Size as sizes
use Rattle.oer_compare.specs.declared.difference.Aspect.{Aspect}
use Rattle.oer_compare.specs.declared.difference.Aspect.TheVariants.{Bounds, Extra, Items, Kind, Marker, Missing, Name, Presence, Size, Tagging}

-- a part of a type: a component of a SEQUENCE's root or an addition, by its number from 0 on and its name, the element of a
-- SEQUENCE OF, or an alternative of a CHOICE
pub data Part : Type 0 where
  at_component at_addition : ℕ → List ℕ → Part
  at_element : Part
  at_alternative : List ℕ → Part

-- the way to it, and what differs there
abbrev pub Difference : Type 0
Difference = List Part × Aspect

abbrev pub at : Part → Aspect → Option Difference
at part aspect = Some (part ∷ [], aspect)

abbrev pub here : Option Aspect → Option Difference
here aspect = option_map (λ a. ([], a)) aspect

abbrev pub inside : Part → Option Difference → Option Difference
inside part found = option_map (λ d. (part ∷ d.0, d.1)) found

abbrev pub or_else : {A : Type 0} → Option A → Option A → Option A
or_else None other = other
or_else (Some x) other = Some x

abbrev pub unless : Bool → Aspect → Option Aspect
unless equal aspect = if equal then None else Some aspect

-- ---- what differs between the two types themselves

abbrev pub same_end : Option ℕ → Option ℕ → Bool
same_end None None = true
same_end (Some n) (Some m) = eqb n m
same_end _ _ = false

abbrev pub same_bound : Option ℤ → Option ℤ → Bool
same_bound None None = true
same_bound (Some x) (Some y) = same_int x y
same_bound _ _ = false

abbrev pub same_size : sizes.Size → sizes.Size → Bool
same_size s t = eqb s.low t.low && same_end s.high t.high

abbrev pub same_need : Need → Need → Bool
same_need must must = true
same_need may may = true
same_need (default d) (default e) = same d e
same_need _ _ = false

abbrev pub same_alphabet : Alphabet → Alphabet → Bool
same_alphabet ia5 ia5 = true
same_alphabet visible visible = true
same_alphabet numeric numeric = true
same_alphabet printable printable = true
same_alphabet _ _ = false

abbrev pub same_item : NamedNumber → NamedNumber → Bool
same_item x y = same_list x.name y.name && same_int x.number y.number

-- the same items; further ones may follow where there is a marker
abbrev pub items_extend : Bool → List NamedNumber → List NamedNumber → Bool
items_extend marker [] [] = true
items_extend marker [] (y ∷ ys) = marker
items_extend marker (x ∷ xs) [] = false
items_extend marker (x ∷ xs) (y ∷ ys) = same_item x y && items_extend marker xs ys

abbrev pub items_aspect : Bool → Bool → Bool → Option Aspect
items_aspect marker other extend = if same_bool marker other then unless extend Items else Some Marker

abbrev pub content_aspect : ContentType → ContentType → Option Aspect
content_aspect (octet_string s) (octet_string t) = unless (same_size s t) Size
content_aspect object_id object_id = None
content_aspect (restricted_string a s) (restricted_string b t) = if same_alphabet a b then unless (same_size s t) Size else Some Kind
content_aspect (utf8_string s) (utf8_string t) = unless (same_size s t) Size
content_aspect _ _ = Some Kind

abbrev pub leaf_aspect : LeafType → LeafType → Option Aspect
leaf_aspect boolean boolean = None
leaf_aspect null null = None
leaf_aspect (integer low high) (integer l h) = unless (same_bound low l && same_bound high h) Bounds
leaf_aspect (enumerated xs marker) (enumerated ys other) = items_aspect marker other (items_extend marker xs ys)
leaf_aspect (bit_string s) (bit_string t) = unless (same_size s t) Size
leaf_aspect (content kind) (content other) = content_aspect kind other
leaf_aspect _ _ = Some Kind

abbrev pub own_aspect : AsnType → AsnType → Option Aspect
own_aspect (leaf kind) (leaf other) = leaf_aspect kind other
own_aspect (sequence fs) (sequence gs) = None
own_aspect (sequence fs) (extensible_sequence gs others) = Some Marker
own_aspect (extensible_sequence fs more) (sequence gs) = Some Marker
own_aspect (extensible_sequence fs more) (extensible_sequence gs others) = None
own_aspect (sequence_of s T) (sequence_of t X) = unless (same_size s t) Size
own_aspect (choice marker more) (choice other others) = unless (same_bool marker other) Marker
own_aspect _ _ = Some Kind

-- ---- what differs between their parts; D, R: of the first part's type, and of the parts after it

-- by names, and then by what else is said of the part
abbrev pub named_differs : List ℕ → List ℕ → Option Difference → Option Difference
named_differs name n rest = if same_list name n then rest else here (Some Name)

abbrev pub component_differs : List ℕ → List ℕ → Need → Need → Option Difference → Option Difference
component_differs name n need m d = named_differs name n (or_else d (here (unless (same_need need m) Presence)))

abbrev pub alternative_differs : List ℕ → List ℕ → Tag → Tag → Option Difference → Option Difference
alternative_differs name n t u d = named_differs name n (if same_tag t u then d else here (Some Tagging))

abbrev pub by_field : ℕ → List ℕ → Need → (AsnType → Option Difference) → (Fields → Option Difference) → Fields → Option Difference
by_field i name need D R no_fields = at (at_component i name) Missing
by_field i name need D R (field n m X gs) =
    or_else (inside (at_component i name) (component_differs name n need m (D X))) (R gs)

-- where the components of the first end
abbrev pub after_fields : ℕ → Fields → Option Difference
after_fields i no_fields = None
after_fields i (field n m X gs) = at (at_component i n) Extra

abbrev pub by_addition : ℕ → List ℕ → (AsnType → Option Difference) → (Additions → Option Difference) → Additions → Option Difference
by_addition i name D R no_additions = at (at_addition i name) Missing
by_addition i name D R (addition n X others) = or_else (inside (at_addition i name) (named_differs name n (D X))) (R others)

abbrev pub by_alternative : List ℕ → Tag → (AsnType → Option Difference) → (Alternatives → Option Difference) → Alternatives → Option Difference
by_alternative name t D R (alternative n u X others) = or_else (inside (at_alternative name) (alternative_differs name n t u (D X))) (R others)
by_alternative name t D R (later n u X others) = at (at_alternative name) Missing
by_alternative name t D R no_alternatives = at (at_alternative name) Missing

-- the same of one after the marker
abbrev pub by_later : List ℕ → Tag → (AsnType → Option Difference) → (Alternatives → Option Difference) → Alternatives → Option Difference
by_later name t D R (alternative n u X others) = at (at_alternative n) Extra
by_later name t D R (later n u X others) = or_else (inside (at_alternative name) (alternative_differs name n t u (D X))) (R others)
by_later name t D R no_alternatives = at (at_alternative name) Missing

-- where the alternatives of the first end: further ones may follow after a marker
abbrev pub after_alternatives : Bool → Alternatives → Option Difference
after_alternatives marker no_alternatives = None
after_alternatives marker (alternative n u X others) = at (at_alternative n) Extra
after_alternatives true (later n u X others) = after_alternatives true others
after_alternatives false (later n u X others) = at (at_alternative n) Extra

abbrev pub in_sequence : (Fields → Option Difference) → (Additions → Option Difference) → AsnType → Option Difference
in_sequence F A (sequence gs) = or_else (F gs) (A no_additions)
in_sequence F A (extensible_sequence gs others) = or_else (F gs) (A others)
in_sequence F A _ = None

abbrev pub in_list : (AsnType → Option Difference) → AsnType → Option Difference
in_list D (sequence_of size X) = inside at_element (D X)
in_list D _ = None

abbrev pub in_choice : (Bool → Alternatives → Option Difference) → AsnType → Option Difference
in_choice A (choice marker others) = A marker others
in_choice A _ = None

abbrev mutual
  -- The first difference of the two types: their own, or else that of their parts.
  pub differ : AsnType → AsnType → Option Difference
  differ (leaf kind) U = here (own_aspect (leaf kind) U)
  differ (sequence fs) U = or_else (here (own_aspect (sequence fs) U)) (in_sequence (fields_differ 0 fs) (λ others. None) U)
  differ (extensible_sequence fs more) U =
      or_else (here (own_aspect (extensible_sequence fs more) U)) (in_sequence (fields_differ 0 fs) (additions_differ 0 more) U)
  differ (sequence_of size T) U = or_else (here (own_aspect (sequence_of size T) U)) (in_list (differ T) U)
  differ (choice marker more) U = or_else (here (own_aspect (choice marker more) U)) (in_choice (alternatives_differ more) U)

  -- from the component with the number i on
  pub fields_differ : ℕ → Fields → Fields → Option Difference
  fields_differ i no_fields gs = after_fields i gs
  fields_differ i (field name need T fs) gs = by_field i name need (differ T) (fields_differ (suc i) fs) gs

  pub additions_differ : ℕ → Additions → Additions → Option Difference
  additions_differ i no_additions others = None
  additions_differ i (addition name T more) others = by_addition i name (differ T) (additions_differ (suc i) more) others

  -- marker: that of the second type
  pub alternatives_differ : Alternatives → Bool → Alternatives → Option Difference
  alternatives_differ no_alternatives marker others = after_alternatives marker others
  alternatives_differ (alternative name t T more) marker others = by_alternative name t (differ T) (alternatives_differ more marker) others
  alternatives_differ (later name t T more) marker others = by_later name t (differ T) (alternatives_differ more marker) others
