use Rattle.std.proofs.Common.{◌≡◌, map, take}
use Rattle.oer_module_options.specs.Scan.{text_of}
use Rattle.oer_module_cmd.specs.Input.{with_input}
use Rattle.oer_module_cmd.proofs.input.with_input.Given as goal

abbrev pub invariant-loop-text : goal.invariant-loop-text
invariant-loop-text l = map text_of l.made.items ≡ with_input l.given (map text_of (take l.text-index l.texts))
