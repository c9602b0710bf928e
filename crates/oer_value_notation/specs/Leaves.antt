-- Which types that hold no other the words name, and what stands behind the words.
use Rattle.std.specs.Prelude.{ℤ, List, Bool, Option}
use Rattle.oer_lexer.specs.declared.leaf.LeafWord.{LeafWord}
use Rattle.oer_lexer.specs.declared.leaf.LeafWord.TheVariants as word
use Rattle.oer_model.specs.LeafType.{LeafType, NamedNumber, bit_string, boolean, enumerated, ia5, integer, null, numeric, object_id, octet_string, printable, restricted_string, utf8_string, visible}
use Rattle.oer_model.specs.declared.size.Size.{Size}

-- what stands behind the words, and the type that both make
pub data LeafForm : Type 0 where
  -- nothing
  plain : LeafType → LeafForm
  -- bounds
  bounded : (Option ℤ → Option ℤ → LeafType) → LeafForm
  -- items in braces, and whether there is an extension marker
  listed : (List NamedNumber → Bool → LeafType) → LeafForm
  -- a size
  sized : (Size → LeafType) → LeafForm

abbrev pub leaf_form : LeafWord → LeafForm
leaf_form word.Boolean = plain boolean
leaf_form word.Null = plain null
leaf_form word.Integer = bounded integer
leaf_form word.Enumerated = listed enumerated
leaf_form word.BitString = sized bit_string
leaf_form word.OctetString = sized octet_string
leaf_form word.ObjectIdentifier = plain object_id
leaf_form word.Ia5String = sized (restricted_string ia5)
leaf_form word.VisibleString = sized (restricted_string visible)
leaf_form word.NumericString = sized (restricted_string numeric)
leaf_form word.PrintableString = sized (restricted_string printable)
leaf_form word.Utf8String = sized utf8_string
