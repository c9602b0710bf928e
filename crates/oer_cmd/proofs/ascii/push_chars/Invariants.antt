use Rattle.std.proofs.Common.{◌≡◌, ◌++◌, string_bytes, IsUtf8}
use Rattle.std.specs.Str.{chars}
use Rattle.oer_cmd.specs.Ascii.{ascii_chars}
use Rattle.oer_cmd.proofs.ascii.push_chars.Given as goal

-- what is there and what is left are the whole
abbrev pub invariant-characters : goal.invariant-characters
invariant-characters l = record { is : string_bytes l.fn.out ++ ascii_chars (chars l.text) ≡ string_bytes l.out ++ ascii_chars (chars l.c-iterator.rest.now); utf8 : IsUtf8 l.c-iterator.rest.now }
