use Rattle.std.proofs.Common.{◌≡◌, ◌++◌, length, sym, ap, ◌∙◌}
use Rattle.std.specs.Char.{encode_utf8}
use Rattle.std.specs.Str.{chars}
use Rattle.std.proofs.lemmas.Str.{chars_past_char, IsUtf8-past_char, chars-nil}
use Rattle.oer_printer.specs.Printing.{is_visible}
use Rattle.oer_literals.proofs.Lists.{empty_of}
use Rattle.oer_printer.proofs.Printed.{hidden, shown}
use Rattle.oer_printer.proofs.literal.is_visible.Goals as goal

pub returns-then-c-lt32 : goal.returns-then-c-lt32
returns-then-c-lt32 c =
    let l = c.loop-c in
    let steps : l.c-iterator.rest.now ≡ encode_utf8 c.in-Some.c ++ c.next.new.self.rest.now = assumption (c.in-Some.ensures.steps) in
    sym (l.invariant.is
    ∙ ap is_visible (chars_past_char l.c-iterator.rest.now c.next.new.self.rest.now c.in-Some.c l.invariant.utf8 steps)
    ∙ hidden c.in-Some.c (chars c.next.new.self.rest.now) c.if-c-lt32.true)

pub loop-c-preserved : goal.loop-c-preserved
loop-c-preserved c =
    let l = c.loop-c in
    let steps : l.c-iterator.rest.now ≡ encode_utf8 c.in-Some.c ++ c.next.new.self.rest.now = assumption (c.in-Some.ensures.steps) in
    record {
      is = l.invariant.is
          ∙ ap is_visible (chars_past_char l.c-iterator.rest.now c.next.new.self.rest.now c.in-Some.c l.invariant.utf8 steps)
          ∙ shown c.in-Some.c (chars c.next.new.self.rest.now) c.if-c-lt32.false;
      utf8 = IsUtf8-past_char l.c-iterator.rest.now c.next.new.self.rest.now c.in-Some.c l.invariant.utf8 steps;
    }

pub returns : goal.returns
returns c =
    let l = c.loop-c in
    let none : length l.c-iterator.rest.now ≡ 0 = assumption (c.in-None.ensures.steps) in
    sym (l.invariant.is ∙ ap (λ r. is_visible (chars r)) (empty_of l.c-iterator.rest.now none) ∙ ap is_visible chars-nil)
