use Rattle.std.proofs.Common.{sym, subst}
use Rattle.std.specs.List.{All}
use Rattle.oer_module_names.specs.Views.{modules_in}
use Rattle.oer_module_defaults.specs.Views.{IsComponentWithin}
use Rattle.oer_module_defaults.proofs.alternative.alternative_at.Goals as goal

pub returns-in-Some-clause-within : goal.returns-in-Some-clause-within
returns-in-Some-clause-within c =
    let ms = modules_in c.args.scope.names.now in
    c.alternative_by.ensures.within ms (c.component_from.ensures.within ms
    (subst (All (IsComponentWithin ms)) (sym c.deref-in-Some.ensures.value) c.in_ok-components.ensures.within))
