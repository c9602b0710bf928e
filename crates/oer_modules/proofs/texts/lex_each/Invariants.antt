use Rattle.std.proofs.Common.{◌≡◌, map, take}
use Rattle.oer_modules.proofs.Walks.{lexed_texts}
use Rattle.oer_modules.specs.Places.{lexed_of}
use Rattle.oer_modules.proofs.texts.lex_each.Given as goal

-- the tokens of the texts before
abbrev pub invariant-loop-text : goal.invariant-loop-text
invariant-loop-text l = map lexed_of l.found.items ≡ lexed_texts (take l.text-index l.texts)
