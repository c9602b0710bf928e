use Rattle.std.proofs.Common.{refl}
use Rattle.oer_module_limits.proofs.Within.{given_within}
use Rattle.oer_module_names.specs.Views.{modules_in}
use Rattle.oer_module_values.specs.Views.{meaning_of, type_in}
use Rattle.oer_module_limits.proofs.limits.size_limits.Goals as goal

pub size_range-requires : goal.size_range-requires
size_range-requires c =
    let m = c.in_ok-meaning.meaning in
    record {
      of = c.in_ok-meaning.ensures.within;
      given =
          given_within (modules_in c.args.names.now) (type_in c.args.of) (meaning_of m) m.given.items c.in_ok-meaning.ensures.value refl c.requires;
    }
