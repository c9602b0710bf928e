-- The example, computed.
use Rattle.std.proofs.Common.{refl}
use Rattle.oer_module_leaves.specs.Comments.{unchecked_at}
use Rattle.oer_module_names.specs.Finding.{find, follow as find_follow, module_place, own, step as find_step}
use Rattle.oer_module_names.specs.Sole.{sole}
use Rattle.oer_module_names.specs.Tables.{assigned_in, assignments_in}
use Rattle.oer_module_text.specs.Room.{take_part}
use Rattle.oer_module_types.specs.Levels.{end_at}
use Rattle.oer_module_types.specs.Types.{nested_at, stands_for, type_at, typed}
use Rattle.oer_module_values.specs.Types.{follow, step, walk}
use Rattle.oer_module_nesting.specs.Example.{IsWrittenOut}

pub once : IsWrittenOut 1
unfolding typed type_at stands_for walk step follow find find_follow find_step own module_place sole assigned_in assignments_in take_part nested_at unchecked_at end_at
once = (_, refl)

pub twice : IsWrittenOut 2
unfolding typed type_at stands_for walk step follow find find_follow find_step own module_place sole assigned_in assignments_in take_part nested_at unchecked_at end_at
twice = (_, refl)
