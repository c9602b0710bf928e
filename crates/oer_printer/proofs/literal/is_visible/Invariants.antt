use Rattle.std.proofs.Common.{◌≡◌, IsUtf8}
use Rattle.std.specs.Str.{chars}
use Rattle.oer_printer.specs.Printing.{is_visible}
use Rattle.oer_printer.proofs.literal.is_visible.Given as goal

-- what is left decides
abbrev pub invariant-loop-c : goal.invariant-loop-c
invariant-loop-c l = record { is : is_visible (chars l.text) ≡ is_visible (chars l.c-iterator.rest.now); utf8 : IsUtf8 l.c-iterator.rest.now }
