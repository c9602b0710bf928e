use Rattle.std.proofs.Common.{◌≡◌, ◌++◌, string_bytes, IsUtf8}
use Rattle.std.specs.Str.{chars}
use Rattle.oer_printer.specs.Printing.{doubled}
use Rattle.oer_printer.proofs.literal.push_doubled.Given as goal

-- what is there and what is left are the whole
abbrev pub invariant-characters : goal.invariant-characters
invariant-characters l = record { is : string_bytes l.fn.out ++ doubled (chars l.text) ≡ string_bytes l.out ++ doubled (chars l.c-iterator.rest.now); utf8 : IsUtf8 l.c-iterator.rest.now }
