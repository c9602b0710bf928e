use Rattle.std.proofs.Common.{◌≡◌, ◌≤◌, ◌+◌, drop}
use Rattle.oer_modules.specs.Places.{behind}
use Rattle.oer_modules.proofs.place.behind.Given as goal

-- the bytes that are left lead to the same; each was a line or a column more at most
abbrev pub invariant-loop-byte : goal.invariant-loop-byte
invariant-loop-byte l = record {
  same : behind (drop l.byte-index l.bytes) l.position ≡ behind l.bytes l.fn.start;
  line : l.position.line ≤ l.fn.start.line + l.byte-index;
  column : l.position.column ≤ l.fn.start.column + l.byte-index;
}
