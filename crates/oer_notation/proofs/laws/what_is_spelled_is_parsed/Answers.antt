use Rattle.oer_notation.proofs.Complete.{parse_complete, parse_refuses, one_type}
use Rattle.oer_notation.proofs.CompleteAll.{parse_all_complete, parse_all_refuses}
use Rattle.oer_notation.proofs.laws.what_is_spelled_is_parsed.Goals as goal

pub returns-clause-one : goal.returns-clause-one
returns-clause-one c = λ bs T s w. parse_complete c.first_fault.ensures.none c.tokens_of_a_text_are_read.ensures bs T s w

pub returns-clause-all : goal.returns-clause-all
returns-clause-all c = λ bs ks s w. parse_all_complete c.first_fault.ensures.none c.tokens_of_a_text_are_read.ensures bs ks s w

pub returns-clause-refused : goal.returns-clause-refused
returns-clause-refused c = λ bs e h T s w. parse_refuses c.first_fault.ensures.none c.tokens_of_a_text_are_read.ensures bs e h T s w

pub returns-clause-all_refused : goal.returns-clause-all_refused
returns-clause-all_refused c = λ bs e h ks s w. parse_all_refuses c.first_fault.ensures.none c.tokens_of_a_text_are_read.ensures bs e h ks s w

pub returns-clause-alone : goal.returns-clause-alone
returns-clause-alone c = λ bs T U s u w x. one_type c.first_fault.ensures.none c.tokens_of_a_text_are_read.ensures bs T U s u w x
