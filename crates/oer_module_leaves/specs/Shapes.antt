-- Which of our types a type of a module stands for, if it holds no other.
use Rattle.std.specs.Prelude.{ℕ, ◌^◌, ℤ, pos, negsuc, nat_lt, List, [], ◌∷◌, Bool, Option, Some, None, is_some, Ok, codes, if◌then◌else◌}
use Rattle.oer_model.specs.AsnType.{AsnType, NamedNumber, bit_string, enumerated, ia5, numeric, octet_string, printable, restricted_string}
use Rattle.oer_model.specs.AsnType.{utf8_string, visible}
use Rattle.oer_model.specs.declared.size.Size.{Size}
use Rattle.oer_module_names.specs.declared.error.Place.{Place}
use Rattle.oer_module_text.specs.Errors.{Read, error, place_in, too_wide, ◌>>=◌}
use Rattle.oer_module_leaves.specs.Numbered.{Numbered, NumberedItem}
use Rattle.oer_module_leaves.specs.Texts.{Sizes, size_of}
use Rattle.oer_module_leaves.specs.declared.shape.Counted.{Counted}
use Rattle.oer_module_leaves.specs.declared.shape.Counted.TheVariants.{Bits, Octets, Ia5, Visible, Numeric, Printable, Utf8}

-- ---- types whose values SIZE counts (X.680, 51.5)

abbrev pub words : Counted → List ℕ
words Bits = codes "BIT STRING"
words Octets = codes "OCTET STRING"
words Ia5 = codes "IA5String"
words Visible = codes "VisibleString"
words Numeric = codes "NumericString"
words Printable = codes "PrintableString"
words Utf8 = codes "UTF8String"

-- the type, of values of a size
abbrev pub counted_type : Counted → Size → AsnType
counted_type Bits s = bit_string s
counted_type Octets s = octet_string s
counted_type Ia5 s = restricted_string ia5 s
counted_type Visible s = restricted_string visible s
counted_type Numeric s = restricted_string numeric s
counted_type Printable s = restricted_string printable s
counted_type Utf8 s = utf8_string s

abbrev pub unless_wide : Place → Option Size → Read Size
unless_wide p None = error p too_wide
unless_wide p (Some s) = Ok s

-- the size of a type at a place
abbrev pub size_at : Place → Sizes → Read Size
size_at p s = unless_wide p (size_of s)

-- ---- ENUMERATED (X.680, 20)

-- 64 bits with a sign hold it
abbrev pub is_signed_long : ℤ → Bool
is_signed_long (pos n) = nat_lt n (2 ^ 63)
is_signed_long (negsuc n) = nat_lt n (2 ^ 63)

-- the number of an item at a place
abbrev pub in_64_bits : Place → ℤ → Read ℤ
in_64_bits p z = if is_signed_long z then Ok z else error p too_wide

-- an item in a module
abbrev pub named_at : ℕ → NumberedItem → Read NamedNumber
named_at m i = in_64_bits (place_in m i.at) i.number >>= λ z. Ok (record { name = i.name; number = z })

abbrev pub named_items : ℕ → List NumberedItem → Read (List NamedNumber)
named_items m [] = Ok []
named_items m (i ∷ is) = named_at m i >>= λ n. named_items m is >>= λ ns. Ok (n ∷ ns)

-- the type with these items, and whether it has a marker
abbrev pub enumerated_type : ℕ → Numbered → Read AsnType
enumerated_type m e = named_items m e.items >>= λ ns. Ok (enumerated ns (is_some e.marker))
