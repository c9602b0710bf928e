use Rattle.std.proofs.Common.{◌-◌, ◌∙◌, refl, sym, ap, map, arith}
use Rattle.std.proofs.lemmas.Result.{err_from_is_err_and}
use Rattle.oer_module_names.specs.Views.{modules_in}
use Rattle.oer_module_syntax.proofs.Trees.{tree_of-ListOf}
use Rattle.oer_module_syntax.specs.Tree.{element_of, elements_from, tree_of}
use Rattle.oer_module_text.specs.Room.{room_of, take_part}
use Rattle.oer_module_values.specs.Views.{meaning_of, type_in}
use Rattle.oer_module_types.proofs.Parts.{no_means, no_part, no_root, no_sequence, root_of, type_meant}
use Rattle.oer_module_types.specs.Gathered.{gathered_of}
use Rattle.oer_module_types.proofs.types.+types.Goals as goal

pub write_meant-returns-in-ListOf-clause-text : goal.write_meant-returns-in-ListOf-clause-text
write_meant-returns-in-ListOf-clause-text t c =
    let s = c.in-ListOf in
    rw s.is (rw (tree_of-ListOf s.at s.builtin s.sized s.own s.name s.item) (rw (c.deref-in-ListOf.ensures, c.deref-given.ensures.value) at c.write_list.ensures.text))

pub write_type-returns-in_err-take_part-clause-text : goal.write_type-returns-in_err-take_part-clause-text
write_type-returns-in_err-take_part-clause-text t c =
    let p = err_from_is_err_and c.from_residual-in_err-take_part.result c.from_residual-in_err-take_part.ensures.1 in
    rw (p.1, p.2) (λ not_memory. no_part (modules_in c.args.scope.names.now) c.args.scope.nesting c.args.levels c.args.path.now.items
    (type_in c.args.of) (room_of c.args.room.now) (meaning_of c.in_ok-meaning.meaning) _ (omega arith) c.in_ok-meaning.ensures.value
    (ap (λ q. take_part q (room_of c.args.room.now)) (sym c.type_place-2.ensures) ∙ c.in_err-take_part.ensures not_memory))

pub write_included-returns-in_err-meaning-clause-text : goal.write_included-returns-in_err-meaning-clause-text
write_included-returns-in_err-meaning-clause-text t c =
    let i = c.args.included in
    let p = err_from_is_err_and c.from_residual.result c.from_residual.ensures.1 in
    rw (p.1, p.2) (λ not_memory. no_means (modules_in c.args.scope.names.now) c.args.scope.nesting c.args.levels c.args.path.now.items
    i.before.any i.place (tree_of i.from.now) (gathered_of c.args.gathered.now) (room_of c.args.room.now) _ (omega arith) (c.in_err-meaning.ensures.value not_memory))

pub write_included-returns-in_err-take_part-clause-text : goal.write_included-returns-in_err-take_part-clause-text
write_included-returns-in_err-take_part-clause-text t c =
    let i = c.args.included in
    let p = err_from_is_err_and c.from_residual-in_err-take_part.result c.from_residual-in_err-take_part.ensures.1 in
    rw (p.1, p.2) (λ not_memory. no_root (modules_in c.args.scope.names.now) c.args.scope.nesting c.args.levels c.args.path.now.items
    i.before.any i.place (tree_of i.from.now) (gathered_of c.args.gathered.now) (room_of c.args.room.now) (meaning_of c.in_ok-meaning.meaning) _ (omega arith) c.in_ok-meaning.ensures.value
    (ap (λ q. take_part q (room_of c.args.room.now)) (sym c.type_place-is.ensures) ∙ c.in_err-take_part.ensures not_memory))

pub write_included-returns-clause-text : goal.write_included-returns-clause-text
write_included-returns-clause-text t c =
    let i = c.args.included in
    rw (root_of (modules_in c.args.scope.names.now) c.args.scope.nesting c.args.levels (c.args.levels - 1) c.args.path.now.items i.before.any c.first.result i.place
    c.type_place-is.result (tree_of i.from.now) (gathered_of c.args.gathered.now) (room_of c.args.room.now) (room_of c.take_part.new.self) (meaning_of c.in_ok-meaning.meaning)
    (elements_from (map element_of c.in-Some.elements.now)) (omega arith) c.in_ok-meaning.ensures.value c.type_place-is.ensures c.in_ok-take_part.ensures c.in-Some.ensures c.first.ensures)
    c.write_root.ensures.text

pub write_type-returns-clause-text : goal.write_type-returns-clause-text
write_type-returns-clause-text t c =
    rw (type_meant (modules_in c.args.scope.names.now) c.args.scope.nesting c.args.levels (c.args.levels - 1) c.args.path.now.items (type_in c.args.of)
    c.type_place-3.result c.type_place-2.result (room_of c.args.room.now) (room_of c.take_part.new.self) (meaning_of c.in_ok-meaning.meaning) (omega arith)
    c.in_ok-meaning.ensures.value c.type_place-2.ensures c.in_ok-take_part.ensures c.type_place-3.ensures)
    c.write_meant.ensures.text

pub write_included-returns-in_default-clause-text : goal.write_included-returns-in_default-clause-text
write_included-returns-in_default-clause-text t c =
    let i = c.args.included in
    λ not_memory. no_sequence (modules_in c.args.scope.names.now) c.args.scope.nesting c.args.levels c.args.path.now.items i.before.any i.place
    c.type_place-is.result (tree_of i.from.now) (gathered_of c.args.gathered.now) (room_of c.args.room.now) (room_of c.take_part.new.self)
    (meaning_of c.in_ok-meaning.meaning) (omega arith) c.in_ok-meaning.ensures.value c.type_place-is.ensures c.in_ok-take_part.ensures c.in_default.ensures
    ∙ rw (c.refused.ensures.place, c.refused.ensures.why) refl
