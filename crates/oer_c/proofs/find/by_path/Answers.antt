use Rattle.std.proofs.Common.{List, subst, sym}
use Rattle.oer_types.specs.Schema.{the_type}
use Rattle.oer_parts.specs.Encoding.{octets_in, type_of_encoding}
use Rattle.oer_parts.specs.Path.{SpellsPath}
use Rattle.oer_parts.specs.Ranges.{octets_in_range}
use Rattle.oer_parts.specs.Walk.{path_of}
use Rattle.oer_parts.specs.declared.step.Step.{Step}
use Rattle.oer_c.specs.Parts.{IsPartAt}
use Rattle.oer_c.proofs.Locating.{absent, lies_there, no_step, placed}
use Rattle.oer_c.proofs.find.by_path.Goals as goal

pub returns-in-Ok-part_range : goal.returns-in-Ok-part_range
returns-in-Ok-part_range c =
    let T = the_type c.args.schema.now in
    let e = c.in_ok-encoding.encoding in
    let front = c.in_ok-encoding.ensures in
    let path = c.args.path.now in
    let steps = c.as_slice.result.now in
    let spelt = subst (λ (ss : List Step). SpellsPath path (path_of ss)) (sym c.as_slice.ensures.value) c.in-Ok.ensures in
    let r = c.in-Ok-part_range.range in
    let lies = lies_there T (type_of_encoding e) c.args.octets.now (octets_in e) e.verdict front.0 front.1 front.3 path (path_of steps) spelt r
    c.in-Ok-part_range.ensures.lies in
    placed T c.args.octets.now (IsPartAt T path) c.part_in.result (octets_in_range c.args.octets.now r) r.start e.verdict.octets
    c.part_in.ensures.part c.part_in.ensures.at c.part_in.ensures.taken lies

pub returns-in-Err-NoSuchStep : goal.returns-in-Err-NoSuchStep
returns-in-Err-NoSuchStep c =
    let T = the_type c.args.schema.now in
    let e = c.in_ok-encoding.encoding in
    let front = c.in_ok-encoding.ensures in
    let path = c.args.path.now in
    let steps = c.as_slice.result.now in
    let spelt = subst (λ (ss : List Step). SpellsPath path (path_of ss)) (sym c.as_slice.ensures.value) c.in-Ok.ensures in
    no_step T (type_of_encoding e) c.args.octets.now (octets_in e) e.verdict front.0 front.1 front.3 path (path_of steps) spelt
    (octets_in_range (octets_in e)) c.in-Err-NoSuchStep.field-0 c.missed.result c.in-Err-NoSuchStep.field-0-is c.missed.ensures
    c.in-Err-NoSuchStep.ensures.told

pub returns : goal.returns
returns c =
    let T = the_type c.args.schema.now in
    let e = c.in_ok-encoding.encoding in
    let front = c.in_ok-encoding.ensures in
    let path = c.args.path.now in
    let steps = c.as_slice.result.now in
    let spelt = subst (λ (ss : List Step). SpellsPath path (path_of ss)) (sym c.as_slice.ensures.value) c.in-Ok.ensures in
    absent T (type_of_encoding e) c.args.octets.now (octets_in e) e.verdict front.0 front.1 front.3 path (path_of steps) spelt
    (octets_in_range (octets_in e)) c.in-Err-Absent.field-0 c.missed-in-Err-Absent.result c.in-Err-Absent.field-0-is
    c.missed-in-Err-Absent.ensures c.in-Err-Absent.ensures.told
