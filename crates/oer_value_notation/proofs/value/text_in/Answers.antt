use Rattle.std.proofs.Common.{◌≡◌, ◌++◌, length, sym, ap, ◌∙◌, string_bytes}
use Rattle.std.specs.Char.{encode_utf8}
use Rattle.std.specs.Str.{chars}
use Rattle.std.proofs.lemmas.Str.{chars_past_char, IsUtf8-past_char, chars-nil}
use Rattle.oer_value_notation.specs.Values.{text_in, text_after}
use Rattle.oer_literals.proofs.Lists.{empty_of}
use Rattle.oer_value_notation.proofs.value.text_in.Goals as goal

pub characters-preserved : goal.characters-preserved
characters-preserved c =
    let l = c.characters in
    let steps : l.c-iterator.rest.now ≡ encode_utf8 c.in-Some.c ++ c.next.new.self.rest.now = assumption (c.in-Some.ensures.steps) in
    record {
      is = l.invariant.is
          ∙ ap (text_after (l.quoting, string_bytes l.out)) (chars_past_char l.c-iterator.rest.now c.next.new.self.rest.now c.in-Some.c l.invariant.utf8 steps)
          ∙ ap (λ p. text_after p (chars c.next.new.self.rest.now)) (sym c.in_ok-quoting.ensures);
      utf8 = IsUtf8-past_char l.c-iterator.rest.now c.next.new.self.rest.now c.in-Some.c l.invariant.utf8 steps;
    }

pub returns : goal.returns
unfolding text_in
returns c =
    let l = c.characters in
    let none : length l.c-iterator.rest.now ≡ 0 = assumption (c.in-None.ensures.steps) in
    ap (λ p. p.1) (sym (l.invariant.is ∙ ap (λ r. text_after (l.quoting, string_bytes l.out) (chars r)) (empty_of l.c-iterator.rest.now none) ∙ ap (text_after (l.quoting, string_bytes l.out)) chars-nil))
