use Rattle.std.proofs.Common.{◌∙◌, ◌^◌, ◌<◌, List, Option, Some, ℕ, arith, length, rules, subst, sym}
use Rattle.oer_units.specs.Reader.{at}
use Rattle.oer_model.specs.AsnType.{AsnType}
use Rattle.oer_model.specs.Checking.{check_value}
use Rattle.oer_model.specs.Parts.{Within}
use Rattle.oer_checker.specs.Check.{most}
use Rattle.oer_parts.specs.Encoding.{octets_in, type_of_encoding}
use Rattle.oer_parts.specs.Handing.{Begins}
use Rattle.oer_parts.specs.Ranges.{LeadsFrom, octets_in_range}
use Rattle.oer_parts.specs.Walk.{path_of}
use Rattle.oer_parts.proofs.Ranging.{agrees_other, range_fits, range_names}
use Rattle.oer_parts.proofs.encoding.Encoding.part_range.Goals as goal

pub overflow_add-result : goal.overflow_add-result
overflow_add-result c =
    let e = c.args.self.now in
    let f = c.in-Ok.found in
    let within = range_fits (type_of_encoding e) (octets_in e) (path_of c.args.path.now) f.octets.now f.before c.in-Ok.ensures.stands in
    let few : length (octets_in e) < 2 ^ 64 = search rules in
    omega (arith, within, few)

pub returns-in-Ok-clause-told : goal.returns-in-Ok-clause-told
returns-in-Ok-clause-told c =
    let e = c.args.self.now in
    let f = c.in-Ok.found in
    let path = path_of c.args.path.now in
    let T = type_of_encoding e in
    let names = range_names T (octets_in e) path f.octets.now f.before c.in-Ok.ensures.stands in
    subst (λ (s : List ℕ). Begins T (octets_in e) (λ b. (U : Option AsnType) × Within (Some T) b path U s)) (sym names) c.in-Ok.ensures.told

pub returns-in-Ok-clause-comes : goal.returns-in-Ok-clause-comes
returns-in-Ok-clause-comes c =
    let e = c.args.self.now in
    let f = c.in-Ok.found in
    let names = range_names (type_of_encoding e) (octets_in e) (path_of c.args.path.now) f.octets.now f.before c.in-Ok.ensures.stands in
    λ v b rest split encoded. (let h = c.in-Ok.ensures.comes v b rest split encoded in ((λ U s w. names ∙ h.0 U s w), h.1))

pub returns-in-Ok-clause-exact : goal.returns-in-Ok-clause-exact
returns-in-Ok-clause-exact c =
    let e = c.args.self.now in
    let f = c.in-Ok.found in
    let path = path_of c.args.path.now in
    let T = type_of_encoding e in
    let names = range_names T (octets_in e) path f.octets.now f.before c.in-Ok.ensures.stands in
    agrees_other (λ f. f.octets.now) (octets_in_range (octets_in e)) T (octets_in e) path f _ names (check_value T (at (octets_in e) most)) c.in-Ok.ensures.exact

pub returns-in-Ok-clause-lies : goal.returns-in-Ok-clause-lies
returns-in-Ok-clause-lies c =
    let e = c.args.self.now in
    let f = c.in-Ok.found in
    let path = path_of c.args.path.now in
    let T = type_of_encoding e in
    let stands = c.in-Ok.ensures.stands in
    let names = range_names T (octets_in e) path f.octets.now f.before stands in
    (omega arith, range_fits T (octets_in e) path f.octets.now f.before stands, subst (λ (s : List ℕ). LeadsFrom T (octets_in e) path s f.before) (sym names) stands)
