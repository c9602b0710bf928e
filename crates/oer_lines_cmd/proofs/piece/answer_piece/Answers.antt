use Rattle.oer_types.specs.Schema.{the_type}
use Rattle.oer_lines_cmd.specs.Reading.{piece_of}
use Rattle.oer_lines_cmd.specs.Stream.{piece_answer}
use Rattle.oer_lines_cmd.proofs.Knowing.{piece_known}
use Rattle.oer_lines_cmd.proofs.piece.answer_piece.Goals as goal

pub returns-clause-exact : goal.returns-clause-exact
returns-clause-exact g c = λ path of.
    let p = piece_of c.args.octets.now c.args.piece in
    c.put_answer.ensures.exact (piece_answer c.args.asked.tells_nesting c.args.asked.task (the_type c.args.schema.now) c.args.asked.limit path p)
    (piece_known c.args.asked.tells_nesting c.args.asked.task (the_type c.args.schema.now) c.args.asked.limit path p of) (c.piece_line-answer.ensures path of)
