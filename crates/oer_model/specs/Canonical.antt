-- The canonical octets of a value, computed.
use Rattle.std.specs.Prelude.{ℕ, suc, ◌-◌, List, [], ◌∷◌, ◌++◌, length, replicate, Bool, true, false, ◌&&◌, ◌||◌, eqb, if◌then◌else◌, ℤ, pos, negsuc, Option, Some, None}
use Rattle.oer_units.specs.Least.{big_endian, counted, enumerated_octets, fixed_signed_octets, signed_octets, tag_octets, unsigned_octets}
use Rattle.oer_units.specs.declared.tagging.Tag.{Tag}
use Rattle.oer_model.specs.LeafType.{LeafType, bit_string, boolean, content, enumerated, integer, null}
use Rattle.oer_model.specs.LeafValue.{LeafValue, bit_list, bool, enum, int, nothing, octets, oid, text}
use Rattle.oer_model.specs.AsnType.{Additions, Alternatives, AsnType, Fields, Need, addition, alternative, choice, default, extensible_sequence, field, later, leaf, may, must, no_additions, no_alternatives, no_fields, sequence, sequence_of}
use Rattle.oer_model.specs.AsnValue.{AsnValue, Places, Unknown, Values, absent, chosen, foreign, items, leaf_value, no_places, no_values, present, seq, unknown, value}
use Rattle.oer_model.specs.Bits.{padded, spare_bits}
use Rattle.oer_model.specs.Constraints.{Form, addition_count, fixed, form_of, same_tag, signed_counted, signed_fixed, unsigned_counted, unsigned_fixed}
use Rattle.oer_model.specs.ContentType.{ContentType}
use Rattle.oer_model.specs.Contents.{content_octets, fixed_content, held}
pub use Rattle.oer_model.specs.Contents.{string_octets}
use Rattle.oer_model.specs.Filling.{filled, filled_by_tag, map_chosen, map_items, map_sequence}

abbrev pub same_bool : Bool → Bool → Bool
same_bool true b = b
same_bool false true = false
same_bool false false = true

abbrev pub same_int : ℤ → ℤ → Bool
same_int (pos n) (pos m) = eqb n m
same_int (negsuc n) (negsuc m) = eqb n m
same_int (pos n) (negsuc m) = false
same_int (negsuc n) (pos m) = false

abbrev pub same_list : List ℕ → List ℕ → Bool
same_list [] [] = true
same_list (x ∷ xs) (y ∷ ys) = eqb x y && same_list xs ys
same_list [] (y ∷ ys) = false
same_list (x ∷ xs) [] = false

abbrev pub same_bits : List Bool → List Bool → Bool
same_bits [] [] = true
same_bits (x ∷ xs) (y ∷ ys) = same_bool x y && same_bits xs ys
same_bits [] (y ∷ ys) = false
same_bits (x ∷ xs) [] = false

abbrev pub same_unknown : List Unknown → List Unknown → Bool
same_unknown [] [] = true
same_unknown (unknown n w ∷ us) (unknown m x ∷ vs) = eqb n m && same_list w x && same_unknown us vs
same_unknown [] (v ∷ vs) = false
same_unknown (u ∷ us) [] = false

-- of values that hold no other
abbrev pub same_leaf : LeafValue → LeafValue → Bool
same_leaf (bool a) (bool b) = same_bool a b
same_leaf nothing nothing = true
same_leaf (int x) (int y) = same_int x y
same_leaf (enum x) (enum y) = same_int x y
same_leaf (bit_list s) (bit_list t) = same_bits s t
same_leaf (text w) (text x) = same_list w x
same_leaf (oid w) (oid x) = same_list w x
same_leaf (octets w) (octets x) = same_list w x
same_leaf _ _ = false

abbrev mutual
  pub same : AsnValue → AsnValue → Bool
  same (leaf_value v) (leaf_value w) = same_leaf v w
  same (seq r a us) (seq s b vs) = same_places r s && same_places a b && same_unknown us vs
  same (items vs) (items ws) = same_values vs ws
  same (chosen t v) (chosen u w) = same_tag t u && same v w
  same (foreign t w) (foreign u x) = same_tag t u && same_list w x
  same _ _ = false

  pub same_values : Values → Values → Bool
  same_values no_values no_values = true
  same_values (value v vs) (value w ws) = same v w && same_values vs ws
  same_values _ _ = false

  pub same_places : Places → Places → Bool
  same_places no_places no_places = true
  same_places (absent ps) (absent qs) = same_places ps qs
  same_places (present v ps) (present w qs) = same v w && same_places ps qs
  same_places _ _ = false

-- a component v that is there, left out where its fill h is its default's; f: the trimming
abbrev pub trimmed_present : Need → (AsnValue → AsnValue) → (AsnValue → AsnValue) → AsnValue → Places → Places
trimmed_present must h f v ps = present (f v) ps
trimmed_present may h f v ps = present (f v) ps
trimmed_present (default d) h f v ps = if same (h v) (h d) then absent ps else present (f v) ps

-- the components from this one on; g: the trimming of those after it
abbrev pub trimmed_place : Need → (AsnValue → AsnValue) → (AsnValue → AsnValue) → (Places → Places) → Places → Places
trimmed_place need h f g no_places = no_places
trimmed_place need h f g (absent ps) = absent (g ps)
trimmed_place need h f g (present v ps) = trimmed_present need h f v (g ps)

-- v with each DEFAULT component left out that equals its default after filling
abbrev mutual
  pub trimmed : AsnType → AsnValue → AsnValue
  trimmed (leaf kind) v = v
  trimmed (sequence fs) v = map_sequence (trimmed_fields fs) (λ ps. ps) v
  trimmed (extensible_sequence fs more) v = map_sequence (trimmed_fields fs) (trimmed_additions more) v
  trimmed (sequence_of s T) v = map_items (trimmed T) v
  trimmed (choice extensible more) v = map_chosen (trimmed_alternative more) v

  pub trimmed_fields : Fields → Places → Places
  trimmed_fields no_fields ps = ps
  trimmed_fields (field name need T fs) ps = trimmed_place need (filled T) (trimmed T) (trimmed_fields fs) ps

  pub trimmed_additions : Additions → Places → Places
  trimmed_additions no_additions ps = ps
  trimmed_additions (addition name T more) ps = trimmed_place may (filled T) (trimmed T) (trimmed_additions more) ps

  pub trimmed_alternative : Alternatives → Tag → AsnValue → AsnValue
  trimmed_alternative no_alternatives t v = v
  trimmed_alternative (alternative name u T more) t v = filled_by_tag (same_tag u t) (trimmed T) (trimmed_alternative more t) v
  trimmed_alternative (later name u T more) t v = filled_by_tag (same_tag u t) (trimmed T) (trimmed_alternative more t) v

-- f of what the value holds; no octets for a value of another kind, here and below
abbrev pub at_bool : (Bool → List ℕ) → AsnValue → List ℕ
at_bool f (leaf_value (bool x)) = f x
at_bool f _ = []

abbrev pub at_int : (ℤ → List ℕ) → AsnValue → List ℕ
at_int f (leaf_value (int x)) = f x
at_int f _ = []

abbrev pub at_enum : (ℤ → List ℕ) → AsnValue → List ℕ
at_enum f (leaf_value (enum x)) = f x
at_enum f _ = []

abbrev pub at_bits : (List Bool → List ℕ) → AsnValue → List ℕ
at_bits f (leaf_value (bit_list s)) = f s
at_bits f _ = []

abbrev pub at_content : ContentType → (List ℕ → List ℕ) → AsnValue → List ℕ
at_content kind f (leaf_value v) = held kind [] f v
at_content kind f _ = []

abbrev pub at_seq : (Places → Places → List Unknown → List ℕ) → AsnValue → List ℕ
at_seq f (seq r a us) = f r a us
at_seq f _ = []

abbrev pub at_items : (Values → List ℕ) → AsnValue → List ℕ
at_items f (items vs) = f vs
at_items f _ = []

abbrev pub at_choice : (Tag → AsnValue → List ℕ) → (Tag → List ℕ → List ℕ) → AsnValue → List ℕ
at_choice f g (chosen t v) = f t v
at_choice f g (foreign t w) = g t w
at_choice f g _ = []

-- a BIT STRING without size constraint, unused bits 0
unfoldable pub bitmap_octets : List Bool → List ℕ
bitmap_octets s = counted (spare_bits (length s) ∷ padded s)

-- a BIT STRING by its one size or with a length
abbrev pub bit_octets : Option ℕ → List Bool → List ℕ
bit_octets (Some n) s = padded s
bit_octets None s = bitmap_octets s

-- an INTEGER by its form
abbrev pub integer_octets : Form → ℤ → List ℕ
integer_octets (unsigned_fixed k) (pos n) = big_endian k n
integer_octets (unsigned_fixed k) (negsuc n) = []
integer_octets (signed_fixed k) x = fixed_signed_octets k x
integer_octets unsigned_counted (pos n) = counted (unsigned_octets n)
integer_octets unsigned_counted (negsuc n) = []
integer_octets signed_counted x = counted (signed_octets x)

-- how many values
abbrev pub count : Values → ℕ
count no_values = 0
count (value v vs) = suc (count vs)

-- those of each value by f, in order
abbrev pub all_octets : (AsnValue → List ℕ) → Values → List ℕ
all_octets f no_values = []
all_octets f (value v vs) = f v ++ all_octets f vs

-- those of each component that is there
abbrev pub place_octets : (AsnValue → List ℕ) → (Places → List ℕ) → Places → List ℕ
place_octets f g no_places = []
place_octets f g (absent ps) = g ps
place_octets f g (present v ps) = f v ++ g ps

-- the presence bit of a component that may be absent, and the others; f: the bits after it
abbrev pub place_bits : Need → (Places → List Bool) → Places → List Bool
place_bits need f no_places = []
place_bits must f (absent ps) = f ps
place_bits must f (present v ps) = f ps
place_bits may f (absent ps) = false ∷ f ps
place_bits may f (present v ps) = true ∷ f ps
place_bits (default d) f (absent ps) = false ∷ f ps
place_bits (default d) f (present v ps) = true ∷ f ps

-- the presence bits of a root
abbrev pub root_bits : Fields → Places → List Bool
root_bits no_fields ps = []
root_bits (field name need T fs) ps = place_bits need (root_bits fs) ps

-- the bits of the known additions
abbrev pub addition_bits : Additions → Places → List Bool
addition_bits no_additions ps = []
addition_bits (addition name T more) ps = place_bits may (addition_bits more) ps

-- the bits of the unknown additions from the place n on
abbrev pub unknown_marks : ℕ → List Unknown → List Bool
unknown_marks n [] = []
unknown_marks n (unknown m w ∷ us) = replicate (m - n) false ++ (true ∷ unknown_marks (suc m) us)

-- those of unknown additions, each with its length
abbrev pub unknown_octets : List Unknown → List ℕ
unknown_octets [] = []
unknown_octets (unknown n w ∷ us) = counted w ++ unknown_octets us

abbrev pub any_present : Places → Bool
any_present no_places = false
any_present (absent ps) = any_present ps
any_present (present v ps) = true

abbrev pub any_unknown : List Unknown → Bool
any_unknown [] = false
any_unknown (u ∷ us) = true

-- those of the additions where one is there
abbrev pub extension_octets : Bool → List ℕ → List ℕ
extension_octets true e = e
extension_octets false e = []

-- by the first alternative that has the tag
abbrev pub by_tag_octets : Bool → (AsnValue → List ℕ) → (AsnValue → List ℕ) → AsnValue → List ℕ
by_tag_octets true f g v = f v
by_tag_octets false f g v = g v

-- those of a value that holds no other
abbrev pub leaf_octets : LeafType → AsnValue → List ℕ
leaf_octets boolean v = at_bool (λ x. (if x then 255 else 0) ∷ []) v
leaf_octets null v = []
leaf_octets (integer low high) v = at_int (integer_octets (form_of low high)) v
leaf_octets (enumerated numbers extensible) v = at_enum enumerated_octets v
leaf_octets (bit_string size) v = at_bits (bit_octets (fixed size)) v
leaf_octets (content kind) v = at_content kind (λ w. string_octets (fixed_content kind) (content_octets kind w)) v

-- The octets of a value as it stands.
abbrev mutual
  pub plain_octets : AsnType → AsnValue → List ℕ
  plain_octets (leaf kind) v = leaf_octets kind v
  plain_octets (sequence fs) v = at_seq (λ root added us. padded (root_bits fs root) ++ plain_field_octets fs root) v
  plain_octets (extensible_sequence fs more) v =
      at_seq (λ root added us. padded ((any_present added || any_unknown us) ∷ root_bits fs root) ++ (plain_field_octets fs root
      ++ extension_octets (any_present added || any_unknown us) (bitmap_octets
      (addition_bits more added ++ unknown_marks (addition_count more) us)
      ++ (plain_addition_octets more added ++ unknown_octets us)))) v
  plain_octets (sequence_of size T) v = at_items (λ vs. counted (unsigned_octets (count vs)) ++ all_octets (plain_octets T) vs) v
  plain_octets (choice extensible more) v =
      at_choice (λ t x. tag_octets t ++ plain_alternative_octets more t x) (λ t w. tag_octets t ++ counted w) v

  pub plain_field_octets : Fields → Places → List ℕ
  plain_field_octets no_fields ps = []
  plain_field_octets (field name need T fs) ps = place_octets (plain_octets T) (plain_field_octets fs) ps

  pub plain_addition_octets : Additions → Places → List ℕ
  plain_addition_octets no_additions ps = []
  plain_addition_octets (addition name T more) ps = place_octets (λ v. counted (plain_octets T v)) (plain_addition_octets more) ps

  pub plain_alternative_octets : Alternatives → Tag → AsnValue → List ℕ
  plain_alternative_octets no_alternatives t v = []
  plain_alternative_octets (alternative name u T more) t v =
      by_tag_octets (same_tag u t) (plain_octets T) (plain_alternative_octets more t) v
  plain_alternative_octets (later name u T more) t v =
      by_tag_octets (same_tag u t) (λ x. counted (plain_octets T x)) (plain_alternative_octets more t) v

-- the canonical octets of v
abbrev pub canonical_octets : AsnType → AsnValue → List ℕ
canonical_octets T v = plain_octets T (trimmed T v)
