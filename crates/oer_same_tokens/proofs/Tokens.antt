-- Lists of tokens.
use Rattle.std.proofs.lemmas.Grind.{flat_map-append}
use Rattle.oer_same_tokens.specs.Laws.{SameBehind}
use Rattle.oer_same_tokens.specs.Same.{same_token}

pub same_behind : SameBehind
same_behind ts us = flat_map-append same_token ts us
