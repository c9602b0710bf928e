-- A `Value` without parts, beside what it stands for.
use Rattle.std.proofs.Common.{◌≡◌, ℕ, ℤ, List, Vec, String, Global, string_bytes, refl, rules}
use Rattle.std.proofs.Common as common
use Rattle.oer_model.specs.AsnValue.{bit_list, bool, enum, int, nothing, oid, text}
use Rattle.oer_values.specs.ValueView.{value_of}
use Rattle.oer_values.specs.declared.value.Value.{Bits, Bool, Enum, Int, Null, Oid, Text, the_lemmas}

pub value_of-Bool : (b : common.Bool) → value_of (Bool b) ≡ bool b
value_of-Bool b = search (rules, the_lemmas)

pub value_of-Null : value_of Null ≡ nothing
value_of-Null = search (rules, the_lemmas)

pub value_of-Int : (z : ℤ) → value_of (Int z) ≡ int z
value_of-Int z = search (rules, the_lemmas)

pub value_of-Enum : (z : ℤ) → value_of (Enum z) ≡ enum z
value_of-Enum z = search (rules, the_lemmas)

pub value_of-Bits : (s : List common.Bool) → value_of (Bits s) ≡ bit_list s
value_of-Bits s = search (rules, the_lemmas)

pub value_of-Text : (s : String Global) → value_of (Text s) ≡ text (string_bytes s)
value_of-Text s = search (rules, the_lemmas)

pub value_of-Oid : (v : Vec ℕ Global) → value_of (Oid v) ≡ oid v.items
value_of-Oid v = search (rules, the_lemmas)
