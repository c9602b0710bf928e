use Rattle.std.proofs.Common.{◌<◌, length, map, sym, subst, arith}
use Rattle.std.proofs.lemmas.List.Elements.{All-get_or, All-push}
use Rattle.std.specs.List.{All}
use Rattle.oer_module_names.specs.Views.{modules_in}
use Rattle.oer_module_defaults.proofs.Slotting.{slots_next}
use Rattle.oer_module_defaults.specs.Views.{IsComponentWithin, IsSlotWithin, entry_of}
use Rattle.oer_module_defaults.proofs.slot.slots_at.Goals as goal

pub loop-component-preserved : goal.loop-component-preserved
loop-component-preserved c =
    let l = c.loop-component in
    let ms = modules_in c.args.scope.names.now in
    let found = c.component-item.result in
    let here : found.«module» < length ms = subst (λ x. x.«module» < length ms) (sym c.component-item.is)
    (All-get_or (IsComponentWithin ms) c.args.components.now l.component-index found c.loop-component-test.true c.requires) in
    record {
      slots = slots_next c.args.place (map entry_of c.args.entries.now) c.args.components.now l.component-index l.taken l.slots.items _ l.invariant.slots
          found c.entry_from.result c.in_ok-slot.slot _ _ c.loop-component-test.true c.component-item.is c.entry_from.ensures c.in_ok-slot.ensures.slot
          c.taken_by-taken.ensures.is c.in_ok-push.ensures.items;
      few = omega arith;
      within = subst (All (IsSlotWithin ms)) (sym c.in_ok-push.ensures.items)
          (All-push (IsSlotWithin ms) l.slots.items c.in_ok-slot.slot l.invariant.within
          (subst (λ n. n < length ms) (sym c.in_ok-slot.ensures.component) here));
    }
