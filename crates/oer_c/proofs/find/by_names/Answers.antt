use Rattle.std.proofs.Common.{◌∙◌, ap, map}
use Rattle.oer_types.specs.Schema.{the_type}
use Rattle.oer_parts.specs.Encoding.{octets_in}
use Rattle.oer_parts.specs.Ranges.{octets_in_range}
use Rattle.oer_at.specs.Names.{text_behind}
use Rattle.oer_c.specs.Parts.{IsPartByNamesAt}
use Rattle.oer_c.proofs.Locating.{absent_name, named_there, no_name, placed}
use Rattle.oer_c.proofs.find.by_names.Goals as goal

pub returns-in-Ok-range_of : goal.returns-in-Ok-range_of
returns-in-Ok-range_of c =
    let T = the_type c.args.schema.now in
    let octets = c.args.octets.now in
    let text = c.args.names.now in
    let names = map text_behind c.deref.result.now in
    let spelt = ap (map text_behind) c.deref.ensures.value ∙ c.in-Ok.ensures.0 in
    let e = c.in_ok-encoding.encoding in
    let front = c.in_ok-encoding.ensures in
    let r = c.in-Ok-range_of.range in
    let there = named_there T octets (octets_in e) e.verdict front.1 front.2 front.3 text names spelt c.in-Ok.ensures.1 r
    c.in-Ok-range_of.ensures.found c.in-Ok-range_of.ensures.lies in
    placed T octets (IsPartByNamesAt T text) c.part_in.result (octets_in_range octets r) r.start e.verdict.octets
    c.part_in.ensures.part c.part_in.ensures.at c.part_in.ensures.taken there

pub returns-in-Err-NoSuchStep : goal.returns-in-Err-NoSuchStep
returns-in-Err-NoSuchStep c =
    let T = the_type c.args.schema.now in
    let names = map text_behind c.deref.result.now in
    let spelt = ap (map text_behind) c.deref.ensures.value ∙ c.in-Ok.ensures.0 in
    let e = c.in_ok-encoding.encoding in
    let front = c.in_ok-encoding.ensures in
    let none = rw c.in-Err-NoSuchStep.field-0-is at c.in-Err-NoSuchStep.ensures.found in
    no_name T c.args.octets.now (octets_in e) e.verdict front.1 front.2 front.3 c.args.names.now names spelt c.in-Ok.ensures.1
    c.missed.result c.missed.ensures none

pub returns : goal.returns
returns c =
    let T = the_type c.args.schema.now in
    let names = map text_behind c.deref.result.now in
    let spelt = ap (map text_behind) c.deref.ensures.value ∙ c.in-Ok.ensures.0 in
    let e = c.in_ok-encoding.encoding in
    let front = c.in_ok-encoding.ensures in
    let none = rw c.in-Err-Absent.field-0-is at c.in-Err-Absent.ensures.found in
    absent_name T c.args.octets.now (octets_in e) e.verdict front.1 front.2 front.3 c.args.names.now names spelt c.in-Ok.ensures.1
    c.missed-in-Err-Absent.result c.missed-in-Err-Absent.ensures none
