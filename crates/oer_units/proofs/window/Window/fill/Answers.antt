use Rattle.std.proofs.Common.{rules, arith, refl, length, take}
use Rattle.std.proofs.Common.{◌≡◌, ◌≤◌, ◌+◌}
use Rattle.std.proofs.lemmas.List.{length-take-le}
use Rattle.oer_units.specs.Reads.{bound_of, Span}
use Rattle.oer_units.proofs.ReadGroups.{fill_made, fill_took, fill_exact, fits_take, end_exact, end_took}
use Rattle.oer_units.proofs.window.Window.fill.Goals as goal

pub returns-in-Ok-eq0-clause-reads : goal.returns-in-Ok-eq0-clause-reads
returns-in-Ok-eq0-clause-reads g c =
    let e = c.in-Ok-eq0.ensures in
    record {
      reader = search rules;
      loan = search rules;
      kept = tt;
      limit = search rules;
      within = λ h. h;
      count = search rules;
      fault = search rules;
      made = tt;
      took = end_took _ _ _ c.in-Ok-eq0.field-0 c.pull.new.into c.in-Ok-eq0.field-0-test e.bytes.0;
      exact = end_exact _ _ _ _ c.fault.result c.in-Ok-eq0.field-0 c.pull.new.into c.fault.ensures.why (omega arith) c.in-Ok-eq0.field-0-test (omega arith) e.bytes.0 e.bytes.1;
    }

pub returns-in-Ok-clause-reads : goal.returns-in-Ok-clause-reads
returns-in-Ok-clause-reads g c =
    let most : c.in-Ok.count ≤ length c.pull.new.into = omega (arith, c.in-Ok.ensures.bound) in
    let count : length (take c.in-Ok.count c.pull.new.into) ≡ c.in-Ok.count = length-take-le _ _ most in
    let b = bound_of c.args.self.now in
    let b' : Span = record { taken = b.taken + c.in-Ok.count; end = b.end; limit = b.limit; inside = b.inside } in
    record {
      reader = search rules;
      loan = search rules;
      kept = search rules;
      limit = search rules;
      within = λ h. omega arith;
      count = search rules;
      fault = tt;
      made = fill_made (take c.in-Ok.count c.pull.new.into) c.in-Ok.count b b' (fits_take c.in-Ok.count c.pull.new.into (λ k. (c.type_inv.into k).fits)) count (omega arith) refl refl;
      took = fill_took _ _ _ _ (take c.in-Ok.count c.pull.new.into) (fits_take c.in-Ok.count c.pull.new.into (λ k. (c.type_inv.into k).fits)) (omega arith) c.in-Ok.ensures.bytes.0;
      exact = fill_exact _ _ (take c.in-Ok.count c.pull.new.into) c.in-Ok.count _ _ count (omega arith) c.in-Ok.ensures.bytes.0 (search rules) (search rules);
    }
