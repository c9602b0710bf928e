use Rattle.std.proofs.Common.{◌≡◌, ◌++◌, drop, string_bytes}
use Rattle.oer_json_places.specs.Views.{hops_of}
use Rattle.oer_explain.specs.JsonPath.{path_text}
use Rattle.oer_explain.proofs.json_path.path_text.Given as goal

-- what is there and what is left are the whole
abbrev pub invariant-loop-step : goal.invariant-loop-step
invariant-loop-step l = path_text (hops_of l.path) ≡ string_bytes l.text ++ path_text (hops_of (drop l.step-index l.path))
