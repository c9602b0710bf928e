use Rattle.oer_entries.proofs.Spots.{place_is}
use Rattle.oer_entries.proofs.entries.Making.reject.Goals as goal

pub returns-clause-place : goal.returns-clause-place
returns-clause-place g c = λ T h.
    place_is T _ _ (c.in_ok-shown.ensures T h) c.in_ok-place.ensures.path c.in_ok-place.ensures.names c.in_ok-place.ensures.shape
