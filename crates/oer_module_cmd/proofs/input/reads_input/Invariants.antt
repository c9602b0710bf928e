use Rattle.std.proofs.Common.{◌≡◌, map, drop}
use Rattle.oer_module_options.specs.Scan.{text_of}
use Rattle.oer_module_cmd.specs.Input.{reads_input}
use Rattle.oer_module_cmd.proofs.input.reads_input.Given as goal

abbrev pub invariant-loop-text : goal.invariant-loop-text
invariant-loop-text l = reads_input (map text_of l.texts) ≡ reads_input (map text_of (drop l.text-index l.texts))
