use Rattle.std.proofs.Common.{Err, Global, List, String, option_map, subst, ℕ}
use Rattle.oer_types.specs.Schema.{the_type}
use Rattle.oer_cmd.proofs.Meeting.{bytes, goes}
use Rattle.oer_cmd.specs.Answer.{limited_octets}
use Rattle.oer_cmd.specs.Expected.{Meets}
use Rattle.oer_cmd.specs.Octets.{octets_of}
use Rattle.oer_ends_cmd.proofs.Rejections.{lost_by}
use Rattle.oer_ends_cmd.specs.Telling.{told_by}
use Rattle.oer_at_cmd.specs.Answer.{at_octets}
use Rattle.oer_at_cmd.proofs.line.line_at.Goals as goal

pub returns-clause-exact : goal.returns-clause-exact
returns-clause-exact g c =
    let T = the_type c.args.schema.now in
    let hops = c.args.hops.now in
    let lost = lost_by {X = String Global} bytes c.args.origin T c.args.limit c.as_slice-octets.result.now (at_octets T hops c.as_slice-octets.result.now) c.in-Err.fault c.told_by.result
    c.told_by.ensures c.in-Err.ensures in
    goes octets_of bytes (limited_octets c.args.limit (option_map octets_of c.args.spelt) (g.R.Read.remaining c.args.input.now))
    (λ b. told_by c.args.origin T c.args.limit b (at_octets T hops b)) c.in_ok-octets.octets (Err c.told_by.result) c.in_ok-octets.ensures.exact
    (subst (λ (l : List ℕ). Meets {X = String Global} bytes (told_by c.args.origin T c.args.limit l (at_octets T hops l)) (Err c.told_by.result)) c.as_slice-octets.ensures.value lost)
