-- What a program says if it can't begin.
use Rattle.std.specs.Prelude.{[], ◌∷◌, ◌++◌, codes}
use Rattle.clap.specs.Words.{Text}
use Rattle.oer_cmd.specs.Faults.{error_line}
use Rattle.oer_cmd.specs.declared.fault.Fault.TheVariants.{Memory}
use Rattle.oer_cmd.specs.declared.start.NoStart.{NoStart}
use Rattle.oer_cmd.specs.declared.start.NoStart.TheVariants.{NoMemory, NoText}

-- the line on the standard error
abbrev pub start_line : NoStart → Text
start_line NoText = codes "oer: arguments that are no text" ++ 10 ∷ []
start_line NoMemory = error_line Memory
