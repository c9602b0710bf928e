use Rattle.std.proofs.Common.{◌≡◌, length, map}
use Rattle.oer_modules.specs.Marks.{AreMarked}
use Rattle.oer_modules.proofs.marks.mark_each.Given as goal

-- the marks of the texts before
abbrev pub invariant-loop-text : goal.invariant-loop-text
invariant-loop-text l = record {
  marked : AreMarked (map (λ t. t.now) l.texts) l.found.items;
  count : length l.found.items ≡ l.text-index;
}
