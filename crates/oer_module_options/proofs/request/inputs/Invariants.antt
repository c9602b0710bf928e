use Rattle.std.proofs.Common.{◌≡◌, ◌≤◌, map, drop}
use Rattle.oer_module_options.specs.Asked.{inputs, inputs_from}
use Rattle.oer_module_options.specs.Scan.{text_of}
use Rattle.oer_module_options.proofs.request.inputs.Given as goal

abbrev pub invariant-loop-text : goal.invariant-loop-text
invariant-loop-text l =
    (inputs (map text_of l.texts) ≡ inputs_from l.count (map text_of (drop l.text-index l.texts))) × (l.count ≤ l.text-index)
