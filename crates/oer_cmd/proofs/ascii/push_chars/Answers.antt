use Rattle.std.proofs.Common.{◌≡◌, ◌++◌, length, sym, ap, ◌∙◌, append_assoc, append-nil, string_bytes}
use Rattle.std.specs.Char.{encode_utf8}
use Rattle.std.specs.Str.{chars}
use Rattle.std.proofs.lemmas.List.{nil_from_length}
use Rattle.std.proofs.lemmas.Str.{chars_past_char, IsUtf8-past_char, chars-nil}
use Rattle.oer_cmd.specs.Ascii.{ascii_chars, ascii_char}
use Rattle.oer_cmd.proofs.ascii.push_chars.Goals as goal

pub characters-preserved : goal.characters-preserved
characters-preserved c =
    let l = c.characters in
    let rest = c.next.new.self.rest.now in
    let steps : l.c-iterator.rest.now ≡ encode_utf8 c.in-Some.c ++ rest = assumption (c.in-Some.ensures.steps) in
    record {
      is = l.invariant.is
          ∙ ap (λ cs. string_bytes l.out ++ ascii_chars cs) (chars_past_char l.c-iterator.rest.now rest c.in-Some.c l.invariant.utf8 steps)
          ∙ sym (append_assoc (string_bytes l.out) (ascii_char c.in-Some.c) (ascii_chars (chars rest)))
          ∙ ap (λ xs. xs ++ ascii_chars (chars rest)) (sym c.in_ok-push_char.ensures);
      utf8 = IsUtf8-past_char l.c-iterator.rest.now rest c.in-Some.c l.invariant.utf8 steps;
    }

pub returns : goal.returns
returns c =
    let l = c.characters in
    let none : length l.c-iterator.rest.now ≡ 0 = assumption (c.in-None.ensures.steps) in
    sym (l.invariant.is
    ∙ ap (λ r. string_bytes l.out ++ ascii_chars (chars r)) (nil_from_length l.c-iterator.rest.now none)
    ∙ ap (λ cs. string_bytes l.out ++ ascii_chars cs) chars-nil
    ∙ append-nil (string_bytes l.out))
