use Rattle.std.proofs.Common.{◌≡◌, ◌≤◌, ◌+◌, vec_len}
use Rattle.oer_model.specs.AsnType.{AsnType}
use Rattle.oer_entries.specs.Next.{gone_on}
use Rattle.oer_entries.specs.Trails.{IsWay, parts_of}
use Rattle.oer_entries.proofs.way.Way.go_on.Given as goal

abbrev pub invariant-loop : goal.invariant-loop
invariant-loop l = record {
  whole : 1 ≤ vec_len l.self.frames;
  count : l.counter + vec_len l.self.frames ≡ l.end;
  end : l.self.end ≡ l.fn.self.end;
  way : (T : AsnType) → IsWay T l.fn.self → IsWay T l.self;
  parts : gone_on l.fn.self.end (parts_of l.self) ≡ gone_on l.fn.self.end (parts_of l.fn.self);
}
