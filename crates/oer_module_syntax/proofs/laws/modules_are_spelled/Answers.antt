use Rattle.oer_module_syntax.proofs.SoundModules.{modules_sound}
use Rattle.oer_module_syntax.proofs.laws.modules_are_spelled.Goals as goal

pub returns : goal.returns
returns c = λ levels s ms h. modules_sound levels s ms h
