use Rattle.std.proofs.Common.{◌≡◌, length, map, string_bytes, sym, ap, ◌∙◌, eqb-true}
use Rattle.oer_notation.proofs.Places.{added_sorted, empty, kept_after}
use Rattle.oer_notation.proofs.names.Names.add.Goals as goal

pub invariant_of-self : goal.invariant_of-self
invariant_of-self c =
    let names = c.args.self.now in
    let r = kept_after names.places c.add_sorted.new.places c.args.name c.add_sorted.result c.add_sorted.ensures.new c.add_sorted.ensures.known c.add_sorted.ensures.err (names.below, names.exact) in
    record { below = r.0; exact = r.1 }

pub returns : goal.returns
returns c =
    let names = c.args.self.now in
    let few : length names.others.items ≡ 0 = sym names.others.ok.0 ∙ eqb-true _ _ (sym c.is_empty.ensures ∙ c.if-not-is_empty.false) in
    added_sorted names.places c.add_sorted.new.places c.args.name (map string_bytes names.others.items) c.add_sorted.result (ap (map string_bytes) (empty names.others.items few)) c.add_sorted.ensures.new c.add_sorted.ensures.known (names.below, names.exact)
