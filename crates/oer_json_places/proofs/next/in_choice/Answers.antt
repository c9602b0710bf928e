use Rattle.std.proofs.Common.{Option, Some, None, IfSome, option_map, Bor, sym, subst}
use Rattle.oer_model.specs.AsnType.{AsnType}
use Rattle.oer_values.specs.ShapeView.{type_of}
use Rattle.oer_values.specs.declared.shape.Shape.{Shape}
use Rattle.oer_json_places.specs.Faultless.{IsFaultless}
use Rattle.oer_json_places.specs.Views.{alternatives_with}
use Rattle.oer_json_places.proofs.Faultless.{of_named}
use Rattle.oer_json_places.proofs.next.in_choice.Goals as goal

seen : (o : Option (Bor Shape)) → IfSome (option_map (λ s. type_of s.now) o) IsFaultless → IfSome o (λ s. IsFaultless (type_of s.now))
seen None h = tt
seen (Some s) h = h

pub by_alternative-requires : goal.by_alternative-requires
by_alternative-requires c =
    let more = alternatives_with c.args.root.now c.args.additions.now in
    seen c.alternative_of-shape.result
    (subst (λ (o : Option AsnType). IfSome o IsFaultless) (sym c.alternative_of-shape.ensures) (of_named more c.in-Some.key.now c.requires))
