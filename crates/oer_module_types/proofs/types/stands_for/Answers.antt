use Rattle.std.proofs.Common.{refl}
use Rattle.oer_module_limits.proofs.Within.{given_within}
use Rattle.oer_module_names.specs.Views.{modules_in}
use Rattle.oer_module_values.specs.Views.{meaning_of, type_in}
use Rattle.oer_module_types.proofs.Settled.{meaning_settled}
use Rattle.oer_module_types.proofs.types.stands_for.Goals as goal

pub returns-clause-settled : goal.returns-clause-settled
returns-clause-settled c =
    let m = c.in_ok-meaning in
    meaning_settled (modules_in c.args.scope.names.now) (type_in c.args.of) (meaning_of m.meaning) m.ensures.value

pub returns-clause-within : goal.returns-clause-within
returns-clause-within c =
    let m = c.in_ok-meaning in
    record {
      of = m.ensures.within;
      given =
          given_within (modules_in c.args.scope.names.now) (type_in c.args.of) (meaning_of m.meaning) m.meaning.given.items m.ensures.value refl c.requires;
    }
