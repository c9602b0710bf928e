use Rattle.oer_model.proofs.faults.Faults.{faultless_is_well_formed, first_fault_found, no_fault_found, one_first_fault}
use Rattle.oer_model.proofs.laws.first_fault.Goals as goal

pub returns-clause-none : goal.returns-clause-none
returns-clause-none c = no_fault_found

pub returns-clause-first : goal.returns-clause-first
returns-clause-first c = first_fault_found

pub returns-clause-one : goal.returns-clause-one
returns-clause-one c = one_first_fault

pub returns-clause-well_formed : goal.returns-clause-well_formed
returns-clause-well_formed c = faultless_is_well_formed
