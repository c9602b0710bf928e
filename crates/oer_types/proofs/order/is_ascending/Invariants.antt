use Rattle.std.proofs.Common.{◌≡◌, drop}
use denote.Shadow.{shadow}
use denote.Text.{Utf8}
use Rattle.oer_types.specs.NameOrder.{ascend_after}
use Rattle.oer_types.proofs.order.is_ascending.Given as goal

abbrev pub invariant-loop-index : goal.invariant-loop-index
invariant-loop-index l = record {
  text : shadow (Utf8 l.last);
  same : ascend_after l.names l.last (drop l.index-index l.rest) ≡ ascend_after l.names l.initial.last l.rest;
}
