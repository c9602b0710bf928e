use Rattle.std.proofs.Common.{◌≡◌, [], drop, map, string_bytes}
use Rattle.oer_compare.specs.Views.{part_of}
use Rattle.oer_compare_cmd.specs.Line.{joined, name_text}
use Rattle.oer_compare_cmd.proofs.line.names.Given as goal

-- the text so far, and those of the parts that are left
abbrev pub invariant-loop-part : goal.invariant-loop-part
invariant-loop-part l = joined name_text (string_bytes l.text) (map part_of (drop l.part-index l.path)) ≡ joined name_text [] (map part_of l.path)
