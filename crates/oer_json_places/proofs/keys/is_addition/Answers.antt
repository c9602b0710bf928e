use Rattle.std.proofs.Common.{◌≡◌, true, false, sym, ap, ◌∙◌, add-one, string_bytes}
use Rattle.std.specs.Str.{bytes_eq}
use Rattle.oer_values.specs.ShapeView.{additions_of}
use Rattle.oer_model.specs.WellFormed.{addition_names}
use Rattle.oer_json.specs.Keys.{is_among}
use Rattle.oer_literals.proofs.Lists.{split_at}
use Rattle.oer_json.proofs.Steps.{among_here, among_past}
use Rattle.oer_json_places.proofs.keys.is_addition.Goals as goal

pub returns-then-eq : goal.returns-then-eq
returns-then-eq c =
    let l = c.loop-addition in
    let x = c.addition-item.result in
    let key = c.args.key.now in
    let split = split_at c.args.additions.now l.addition-index x c.loop-addition-test.true c.addition-item.is in
    let h : bytes_eq (string_bytes x.name) key ≡ true = sym (ap (λ s. bytes_eq s key) c.as_str.ensures.value) ∙ sym c.eq.ensures
    ∙ c.if-eq.true in
    sym (l.invariant ∙ ap (λ xs. is_among (addition_names (additions_of xs)) key) split ∙ among_here (string_bytes x.name) _ key h)

pub loop-addition-preserved : goal.loop-addition-preserved
loop-addition-preserved c =
    let l = c.loop-addition in
    let x = c.addition-item.result in
    let key = c.args.key.now in
    let split = split_at c.args.additions.now l.addition-index x c.loop-addition-test.true c.addition-item.is in
    let h : bytes_eq (string_bytes x.name) key ≡ false = sym (ap (λ s. bytes_eq s key) c.as_str.ensures.value) ∙ sym c.eq.ensures
    ∙ c.if-eq.false in
    rw add-one (l.invariant ∙ ap (λ xs. is_among (addition_names (additions_of xs)) key) split ∙ among_past (string_bytes x.name) _ key h)
