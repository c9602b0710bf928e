use Rattle.oer_module_names.proofs.Indexing.{empty_index}
use Rattle.oer_module_names.proofs.index.Index.new.Goals as goal

pub returns : goal.returns
returns c = empty_index (record { slots = c.new.result }) c.new.ensures.empty
