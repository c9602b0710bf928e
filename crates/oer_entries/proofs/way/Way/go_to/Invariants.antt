use Rattle.std.proofs.Common.{◌≡◌, drop, []}
use Rattle.oer_model.specs.AsnType.{AsnType}
use Rattle.oer_entries.specs.Trails.{IsWay, grown_from, parts_of, reached}
use Rattle.oer_entries.proofs.way.Way.go_to.Given as goal

abbrev pub invariant-loop-step : goal.invariant-loop-step
invariant-loop-step l = record {
  way : (T : AsnType) → IsWay T l.fn.self → IsWay T l.self;
  parts : (T : AsnType) → IsWay T l.fn.self
      → grown_from (drop l.step-index l.steps) [] [] (parts_of l.self) ≡ reached l.fn.path (parts_of l.fn.self);
  octets : l.self.octets ≡ l.fn.self.octets;
}
