use Rattle.std.proofs.lemmas.Iterator.{YieldsList-from_chars, YieldsList-from_take}
use Rattle.std.proofs.lemmas.Iterator.Consumers.{YieldsList-end}
use Rattle.oer_places.proofs.Characters.{character_more, characters_all}
use Rattle.oer_places.proofs.parts.push_first.Goals as goal

pub loop-character-preserved : goal.loop-character-preserved
loop-character-preserved c = character_more _ _ _ c.loop-character.yielded c.in-Some.character c.loop-character.invariant c.in_ok-push.ensures.bytes

pub returns : goal.returns
returns c =
    let l = c.loop-character in
    let end = YieldsList-end (YieldsList-from_take c.args.count (YieldsList-from_chars c.args.part.now c.utf8.part cc) cc)
    l.yielded _ l.yielded_by _ _ c.in-None.is c.next.ensures.steps in
    characters_all _ _ l.yielded _ l.invariant end.0
