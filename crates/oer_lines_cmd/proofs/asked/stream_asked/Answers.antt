use Rattle.std.proofs.Common.{ap}
use Rattle.oer_words.proofs.Asking.{line_in, misused}
use Rattle.oer_words.specs.Words.{words_of}
use Rattle.oer_lines_cmd.specs.Scan.{stream_misuse}
use Rattle.oer_lines_cmd.proofs.asked.stream_asked.Goals as goal

pub returns-in-Some : goal.returns-in-Some
returns-in-Some g c = misused words_of stream_misuse _ _ c.in-Ok-Some.words _ _ _ _ _ c.in-Ok-Some.ensures.ends.0 c.in-Ok-Some.field-0-is
    (line_in stream_misuse c.in-Ok-Some.words c.deref.result.now _ c.in-Some.line c.deref.ensures.value c.stream_misuse.ensures c.in-Some.is)
    (ap g.E.Write.contents c.in-Ok-Some.ensures.quiet) c.reject.ensures.status c.reject.ensures.line
