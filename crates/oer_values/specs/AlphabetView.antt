-- The kind of character string that the program's name for it stands for.
use Rattle.oer_model.specs.AsnType.{Alphabet, ia5, visible, numeric, printable}
use Rattle.oer_values.specs.declared.alphabet.Alphabet as rust_alphabet
use Rattle.oer_values.specs.declared.alphabet.Alphabet.TheVariants.{Ia5, Visible, Numeric, Printable}

abbrev pub alphabet_of : rust_alphabet.Alphabet → Alphabet
alphabet_of Ia5 = ia5
alphabet_of Visible = visible
alphabet_of Numeric = numeric
alphabet_of Printable = printable
