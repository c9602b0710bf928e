use Rattle.oer_model.proofs.relaying.Older.{older_sequence, older_choice}
use Rattle.oer_model.proofs.relaying.Relayed.{relayed_sequence}
use Rattle.oer_model.proofs.relaying.RelayedChoice.{relayed_choice}
use Rattle.oer_model.proofs.laws.older_types.Goals as goal

pub returns-clause-sequence : goal.returns-clause-sequence
returns-clause-sequence c = older_sequence

pub returns-clause-choice : goal.returns-clause-choice
returns-clause-choice c = older_choice

pub returns-clause-relayed : goal.returns-clause-relayed
returns-clause-relayed c = relayed_sequence

pub returns-clause-relayed_choice : goal.returns-clause-relayed_choice
returns-clause-relayed_choice c = relayed_choice
