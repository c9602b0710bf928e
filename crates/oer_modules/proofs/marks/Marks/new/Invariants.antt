use Rattle.std.proofs.Common.{◌≡◌, ◌*◌, drop, length}
use Rattle.oer_modules.specs.Marks.{AreMarks}
use Rattle.oer_modules.specs.Places.{position_at}
use Rattle.oer_modules.proofs.marks.Marks.new.Given as goal

-- the marks so far, and what is left with its position
abbrev pub invariant-loop-rest : goal.invariant-loop-rest
invariant-loop-rest l = record {
  marks : AreMarks l.fn.text l.positions.items;
  left : l.rest ≡ drop (length l.positions.items * 4096) l.fn.text;
  here : l.position ≡ position_at (length l.positions.items * 4096) l.fn.text;
}

abbrev pub decreases-loop-rest : goal.decreases-loop-rest
decreases-loop-rest l = length l.rest
