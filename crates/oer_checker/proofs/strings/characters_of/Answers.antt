use Rattle.std.proofs.Common.{rules}
use Rattle.std.proofs.lemmas.Str.{chars_from_encodes, is_utf8-from_IsUtf8}
use Rattle.oer_checker.proofs.strings.characters_of.Goals as goal

pub returns-clause-text : goal.returns-clause-text
returns-clause-text c = search (rules, is_utf8-from_IsUtf8)

pub returns-clause-count : goal.returns-clause-count
returns-clause-count c = search (rules, chars_from_encodes)
