use Rattle.std.proofs.Common.{Some, refl, subst}
use Rattle.oer_types.specs.Schema.{the_type}
use Rattle.oer_options.specs.Words.{behind}
use Rattle.oer_cmd.proofs.Meeting.{bytes, goes}
use Rattle.oer_cmd.specs.Answer.{task_answer}
use Rattle.oer_cmd.specs.Expected.{Meets}
use Rattle.oer_cmd.specs.Octets.{octets_of}
use Rattle.oer_ends_cmd.specs.Telling.{answer_in_hand, octets_in_hand, told_answer}
use Rattle.oer_ends_cmd.proofs.Handing.{input_line, nested_by, none_in_hand, spelt_in_hand, spelt_line, unread_none}
use Rattle.oer_ends_cmd.proofs.given.nested_line.Goals as goal

pub returns-in-Some : goal.returns-in-Some
returns-in-Some g c =
    let T = the_type c.args.schema.now in
    let o = c.args.options in
    let had = g.R.Read.remaining c.args.input.now in
    let hex = behind c.source.result in
    record {
      line = spelt_line o.task hex c.in-Some.octets c.in_ok-octets.field-0 _ had T o.limit c.line_in_hand.result
          c.source.ensures c.in-Some.is c.in_ok-octets.ensures.octets c.line_in_hand.ensures.line;
      exact = λ path of. nested_by T o.task o.limit path had hex c.line_in_hand.result c.source.ensures c.in_default.not-Make
          (goes octets_of bytes (octets_in_hand hex o.limit had) (λ b. told_answer T o.limit b (task_answer o.task T o.limit path (Some b)))
          c.in-Some.octets c.line_in_hand.result
          (spelt_in_hand o.limit had hex c.in_ok-octets.field-0 c.in-Some.octets c.in-Some.is c.in_ok-octets.ensures.exact)
          (subst (λ l. Meets bytes (told_answer T o.limit l (task_answer o.task T o.limit path (Some l))) c.line_in_hand.result) c.as_slice.ensures.value
          (c.line_in_hand.ensures.exact path of)));
      untouched = λ some. refl;
    }

pub returns-in-None : goal.returns-in-None
returns-in-None g c =
    let T = the_type c.args.schema.now in
    let o = c.args.options in
    let had = g.R.Read.remaining c.args.input.now in
    let hex = behind c.source.result in
    record {
      line = input_line o.task hex c.in_ok-octets.field-0 had T o.limit c.line_of_input.result
          c.source.ensures c.in-None.is c.in_ok-octets.ensures.octets c.line_of_input.ensures.line;
      exact = λ path of. nested_by T o.task o.limit path had hex c.line_of_input.result c.source.ensures c.in_default.not-Make
          (none_in_hand (answer_in_hand o.task T o.limit path) (λ a. Meets bytes a c.line_of_input.result) o.limit had hex c.in_ok-octets.field-0 c.in-None.is
          c.in_ok-octets.ensures.octets (c.line_of_input.ensures.exact path of));
      untouched = λ some. unread_none o.task hex c.in_ok-octets.field-0 c.source.ensures c.in-None.is c.in_ok-octets.ensures.octets some;
    }
