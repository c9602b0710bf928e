use Rattle.std.proofs.Common.{◌≡◌, [], string_bytes, IsUtf8}
use Rattle.std.specs.Str.{chars}
use Rattle.oer_value_notation.specs.Values.{text_after}
use Rattle.oer_value_notation.specs.declared.value.Quoting.TheVariants.{First}
use Rattle.oer_value_notation.proofs.value.text_in.Given as goal

-- the text so far and that of the characters left are all
abbrev pub invariant-characters : goal.invariant-characters
invariant-characters l = record { is : text_after (First, []) (chars l.word) ≡ text_after (l.quoting, string_bytes l.out) (chars l.c-iterator.rest.now); utf8 : IsUtf8 l.c-iterator.rest.now }
