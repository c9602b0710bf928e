use Rattle.std.proofs.Common.{◌≡◌, ◌++◌, drop, string_bytes}
use Rattle.oer_json.specs.Texts.{after_points}
use Rattle.oer_json.proofs.leaf.push_after_points.Given as goal

-- what is there and what is left are the whole
abbrev pub invariant-loop-number : goal.invariant-loop-number
invariant-loop-number l = string_bytes l.fn.text ++ after_points l.numbers ≡ string_bytes l.text ++ after_points (drop l.number-index l.numbers)
