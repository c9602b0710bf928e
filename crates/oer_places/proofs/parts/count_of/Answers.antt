use Rattle.std.proofs.lemmas.Iterator.{YieldsList-from_chars}
use Rattle.std.proofs.lemmas.Iterator.Consumers.{count_from_yields_List}
use Rattle.oer_places.proofs.Characters.{ascii_count}
use Rattle.oer_places.proofs.parts.count_of.Goals as goal

pub returns-then-is_ascii : goal.returns-then-is_ascii
returns-then-is_ascii c = ascii_count c.args.text.now c.if-is_ascii.ensures.cases

pub returns : goal.returns
returns c = count_from_yields_List _ c.count.result c.count.ensures.ran (YieldsList-from_chars c.args.text.now c.utf8.text c.chars.ensures.rest)
