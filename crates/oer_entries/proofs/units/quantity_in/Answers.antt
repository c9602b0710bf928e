use Rattle.std.proofs.Common.{◌≡◌, ◌∙◌, ap, ap₂, option_map, Bool, Err, None, Ok, Option, ℕ}
use Rattle.oer_model.specs.declared.size.Size.{Size}
use Rattle.oer_model.specs.Constraints.{any_size}
use Rattle.oer_units.specs.Reader.{at}
use Rattle.oer_parts.specs.Walk.{read_in}
use Rattle.oer_checker.specs.Check.{most}
use Rattle.oer_checker.specs.Places.{counted_as}
use Rattle.oer_checker.specs.Steps.{sized_quantity}
use Rattle.oer_entries.proofs.Spoken.{read_is}
use Rattle.oer_entries.proofs.units.quantity_in.Goals as goal

any_is : (s : Size) → s.low ≡ 0 → s.high ≡ None → s ≡ any_size
any_is s low high = ap₂ (λ (l : ℕ) (h : Option ℕ). let x : Size = record { low = l; high = h } in x) low high

pub returns-in-Ok : goal.returns-in-Ok
returns-in-Ok c =
    ap (option_map (λ (y : ℕ × Bool). y.0)) (
    read_is counted_as (sized_quantity c.any.result) c.args.octets.now c.front.result c.sized_quantity_at.new.at (Ok c.in-Ok.counted) c.front.ensures c.in-Ok.ensures
    ∙ ap (λ (s : Size). read_in (sized_quantity s (at c.args.octets.now most))) (any_is c.any.result c.any.ensures.low c.any.ensures.high))

pub returns-in-Err : goal.returns-in-Err
returns-in-Err c =
    ap (option_map (λ (y : ℕ × Bool). y.0)) (
    read_is counted_as (sized_quantity c.any.result) c.args.octets.now c.front.result c.sized_quantity_at.new.at (Err c.in-Err.field-0) c.front.ensures c.in-Err.ensures
    ∙ ap (λ (s : Size). read_in (sized_quantity s (at c.args.octets.now most))) (any_is c.any.result c.any.ensures.low c.any.ensures.high))
