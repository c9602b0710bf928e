use Rattle.std.proofs.Common.{◌≡◌, drop, map}
use Rattle.serde_json.specs.View.{members_view}
use Rattle.oer_values.specs.ValueView.{unknown_of}
use Rattle.oer_json.specs.Made.{put_unknown}
use Rattle.oer_json.proofs.make.put_unknown.Given as goal

-- what is left gives the whole
abbrev pub invariant-loop-one : goal.invariant-loop-one
invariant-loop-one l = put_unknown (map unknown_of l.unknown) (members_view l.fn.members.entries) ≡ put_unknown (map unknown_of (drop l.one-index l.unknown)) (members_view l.members.entries)
