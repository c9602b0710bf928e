use Rattle.std.proofs.Common.{◌≡◌, drop, map}
use Rattle.oer_modules.specs.Places.{lexed_of}
use Rattle.oer_modules.specs.Texts.{library_of, no_modules, read_each}
use Rattle.oer_modules.proofs.texts.read_each.Given as goal

-- the texts that are left give the same
abbrev pub invariant-loop-text : goal.invariant-loop-text
invariant-loop-text l = read_each 0 (map lexed_of l.tokens) no_modules ≡ read_each l.text (map lexed_of (drop l.text l.tokens)) (library_of l.library)
