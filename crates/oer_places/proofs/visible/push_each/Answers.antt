use Rattle.std.proofs.Common.{◌≡◌, ◌++◌, length, sym, ◌∙◌, string_bytes}
use Rattle.std.specs.Char.{encode_utf8}
use Rattle.std.proofs.lemmas.Str.{IsUtf8-past_char}
use Rattle.oer_places.proofs.Visibly.{one_more, none_left}
use Rattle.oer_places.proofs.visible.push_each.Goals as goal

pub loop-c-preserved : goal.loop-c-preserved
loop-c-preserved c =
    let l = c.loop-c in
    let rest = c.next.new.self.rest.now in
    let steps : l.c-iterator.rest.now ≡ encode_utf8 c.in-Some.c ++ rest = assumption (c.in-Some.ensures.steps) in
    record {
      is = l.invariant.is ∙ one_more (string_bytes l.text) _ l.c-iterator.rest.now rest c.in-Some.c l.invariant.utf8 steps c.in_ok-push_character.ensures;
      utf8 = IsUtf8-past_char l.c-iterator.rest.now rest c.in-Some.c l.invariant.utf8 steps;
    }

pub returns : goal.returns
returns c =
    let l = c.loop-c in
    let none : length l.c-iterator.rest.now ≡ 0 = assumption (c.in-None.ensures.steps) in
    sym (l.invariant.is ∙ none_left (string_bytes l.text) l.c-iterator.rest.now none)
