use Rattle.oer_entries.proofs.entries.Making.finish.Goals as goal

pub returns-in_ok-reject-in-Err-clause-place : goal.returns-in_ok-reject-in-Err-clause-place
returns-in_ok-reject-in-Err-clause-place g c = λ T h. c.in_ok-reject-in-Err.ensures.place T h
