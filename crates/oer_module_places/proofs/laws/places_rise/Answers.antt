use Rattle.oer_module_lexer.specs.Lexing.{lex}
use Rattle.oer_module_places.proofs.Lexed.{lexed_rises}
use Rattle.oer_module_places.proofs.Modules.{modules_rise}
use Rattle.oer_module_places.proofs.laws.places_rise.Goals as goal
use Rattle.oer_module_syntax.proofs.SoundModules.{modules_sound}

pub returns : goal.returns
returns c levels text ms h =
    modules_rise ms 0 (lex text).end (lex text).spots (modules_sound levels _ ms h).0 (lexed_rises text)
