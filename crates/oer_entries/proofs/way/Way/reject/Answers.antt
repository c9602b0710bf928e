use Rattle.oer_entries.proofs.way.Way.reject.Goals as goal

pub returns : goal.returns
returns c = λ T h. c.in_ok-go_further.ensures T h
