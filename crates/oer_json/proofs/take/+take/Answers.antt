use Rattle.std.proofs.Common.{◌≡◌, Ok, drop, suc, length, sym, ap, ◌∙◌, add-one, arith, option_map, Option, Vec, Global}
use Rattle.std.proofs.lemmas.Result.{err_from_is_err_and}
use Rattle.serde_json.specs.View.{items_view, members_view, view}
use Rattle.oer_values.specs.ShapeView.{additions_of, fields_of, type_of}
use Rattle.oer_values.specs.ValueView.{attached, value_of}
use Rattle.oer_values.specs.declared.shape.Addition.{Addition}
use Rattle.oer_values.specs.declared.shape.Shape.TheVariants.{Sequence}
use Rattle.oer_values.proofs.FitSteps.{counted_additions}
use Rattle.oer_values.proofs.Shapes.{type_of-Choice, type_of-Sequence}
use Rattle.oer_values.proofs.Values.{value_of-Seq}
use Rattle.oer_json.specs.Answer.{◌>>=◌}
use Rattle.oer_json.specs.Take.{take, take_additions, take_fields, take_items}
use Rattle.oer_literals.proofs.Lists.{nothing_left, split_at}
use Rattle.oer_json.proofs.Taking.{addition_ok, attached_none, before_none, before_values, field_ok, item_err, item_ok, places_push, stopped, values_push}
use Rattle.oer_json.proofs.TakingParts.{choice_foreign, choice_found, choice_later, choice_nowhere, ext_added, ext_name, ext_ok, ext_root, ext_unknown}
use Rattle.oer_json.proofs.take.+take.Goals as goal

-- ---- items

pub take_items-returns-in_err-value : goal.take_items-returns-in_err-value
take_items-returns-in_err-value t c =
    let l = c.loop-json in
    let x = c.json-item.result in
    let f = take (type_of c.args.item.now) in
    let split = split_at c.args.items.now l.json-index x c.loop-json-test.true c.json-item.is in
    let q = err_from_is_err_and c.from_residual.result c.from_residual.ensures.1 in
    rw (q.1, q.2) (λ not_memory. l.invariant ∙ stopped _ _ _ (ap (λ xs. take_items f (items_view xs)) split ∙ item_err f x _ _ (c.in_err-value.ensures not_memory)))

pub take_items-loop-json-preserved : goal.take_items-loop-json-preserved
take_items-loop-json-preserved t c =
    let l = c.loop-json in
    let x = c.json-item.result in
    let f = take (type_of c.args.item.now) in
    let split = split_at c.args.items.now l.json-index x c.loop-json-test.true c.json-item.is in
    rw add-one (l.invariant
    ∙ ap (λ xs. take_items f (items_view xs) >>= λ vs. Ok (before_values l.values.items vs)) split
    ∙ ap (λ r. r >>= λ vs. Ok (before_values l.values.items vs)) (item_ok f x (drop (suc l.json-index) c.args.items.now) (value_of c.in_ok-value.value) c.in_ok-value.ensures)
    ∙ values_push (take_items f (items_view (drop (suc l.json-index) c.args.items.now))) l.values.items c.push.new.self.items c.in_ok-value.value c.in_ok-push.ensures.items)

pub take_items-returns : goal.take_items-returns
take_items-returns t c =
    let l = c.loop-json in
    let f = take (type_of c.args.item.now) in
    let over = nothing_left c.args.items.now l.json-index c.loop-json-test.false in
    l.invariant ∙ ap (λ xs. take_items f (items_view xs) >>= λ vs. Ok (before_values l.values.items vs)) over ∙ ap Ok (before_none l.values.items)

-- ---- components

pub take_fields-loop-field-preserved : goal.take_fields-loop-field-preserved
take_fields-loop-field-preserved t c =
    let l = c.loop-field in
    let x = c.field-item.result in
    let ms = members_view c.args.members.now.entries in
    let split = split_at c.args.fields.now l.field-index x c.loop-field-test.true c.field-item.is in
    let h = rw (c.may_be_absent.ensures, c.find-json.ensures, c.as_str.ensures.value) at c.in_ok-place.ensures in
    rw add-one (l.invariant
    ∙ ap (λ xs. take_fields (fields_of xs) ms >>= λ ps. Ok (attached l.places.items ps)) split
    ∙ ap (λ r. r >>= λ ps. Ok (attached l.places.items ps)) (field_ok x (drop (suc l.field-index) c.args.fields.now) ms (option_map value_of c.in_ok-place.place) h)
    ∙ places_push (take_fields (fields_of (drop (suc l.field-index) c.args.fields.now)) ms) l.places.items c.push.new.self.items c.in_ok-place.place c.in_ok-push.ensures.items)

pub take_fields-returns : goal.take_fields-returns
take_fields-returns t c =
    let l = c.loop-field in
    let ms = members_view c.args.members.now.entries in
    let over = nothing_left c.args.fields.now l.field-index c.loop-field-test.false in
    l.invariant ∙ ap (λ xs. take_fields (fields_of xs) ms >>= λ ps. Ok (attached l.places.items ps)) over ∙ ap Ok (attached_none l.places.items)

pub take_additions-loop-addition-preserved : goal.take_additions-loop-addition-preserved
take_additions-loop-addition-preserved t c =
    let l = c.loop-addition in
    let x = c.addition-item.result in
    let ms = members_view c.args.members.now.entries in
    let split = split_at c.args.additions.now l.addition-index x c.loop-addition-test.true c.addition-item.is in
    let h = rw (c.find-json.ensures, c.as_str.ensures.value) at c.in_ok-place.ensures in
    rw add-one (l.invariant
    ∙ ap (λ xs. take_additions (additions_of xs) ms >>= λ ps. Ok (attached l.places.items ps)) split
    ∙ ap (λ r. r >>= λ ps. Ok (attached l.places.items ps)) (addition_ok x (drop (suc l.addition-index) c.args.additions.now) ms (option_map value_of c.in_ok-place.place) h)
    ∙ places_push (take_additions (additions_of (drop (suc l.addition-index) c.args.additions.now)) ms) l.places.items c.push.new.self.items c.in_ok-place.place c.in_ok-push.ensures.items)

pub take_additions-returns : goal.take_additions-returns
take_additions-returns t c =
    let l = c.loop-addition in
    let ms = members_view c.args.members.now.entries in
    let over = nothing_left c.args.additions.now l.addition-index c.loop-addition-test.false in
    l.invariant ∙ ap (λ xs. take_additions (additions_of xs) ms >>= λ ps. Ok (attached l.places.items ps)) over ∙ ap Ok (attached_none l.places.items)

-- ---- alternatives

pub take_choice-returns-in_err-found : goal.take_choice-returns-in_err-found
take_choice-returns-in_err-found t c =
    let k = c.in_ok-key in
    let q = err_from_is_err_and c.from_residual-in_err-found.result c.from_residual-in_err-found.ensures.1 in
    let h = rw c.deref.ensures.value at c.in_err-found.ensures in
    rw (q.1, q.2, c.in-Choice.is, type_of-Choice) (λ not_memory. choice_found c.in-Choice.root.items (view c.args.json.now) k.key.now (view k.json.now) k.ensures c.in-Choice.additions _ (h not_memory))

pub take_choice-returns-in-Some : goal.take_choice-returns-in-Some
take_choice-returns-in-Some t c =
    let k = c.in_ok-key in
    let h = rw (c.deref.ensures.value, c.in-Some.is) at c.in_ok-found.ensures in
    rw (c.in-Choice.is, type_of-Choice) (choice_found c.in-Choice.root.items (view c.args.json.now) k.key.now (view k.json.now) k.ensures c.in-Choice.additions _ h)

pub take_choice-returns-in-None-additions : goal.take_choice-returns-in-None-additions
take_choice-returns-in-None-additions t c =
    let k = c.in_ok-key in
    let none = rw (c.deref.ensures.value, c.in-None.is) at c.in_ok-found.ensures in
    rw (c.in-Choice.is, type_of-Choice, c.in-None-additions.is) (λ not_memory. choice_nowhere c.in-Choice.root.items (view c.args.json.now) k.key.now (view k.json.now) k.ensures none)

pub take_choice-returns-in_err-found-in-Some-additions : goal.take_choice-returns-in_err-found-in-Some-additions
take_choice-returns-in_err-found-in-Some-additions t c =
    let k = c.in_ok-key in
    let q = err_from_is_err_and c.from_residual-in_err-found-in-Some-additions.result c.from_residual-in_err-found-in-Some-additions.ensures.1 in
    let none = rw (c.deref.ensures.value, c.in-None.is) at c.in_ok-found.ensures in
    let h = rw c.deref-in-Some-additions.ensures.value at c.in_err-found-in-Some-additions.ensures in
    rw (q.1, q.2, c.in-Choice.is, type_of-Choice, c.in-Some-additions.is)
    (λ not_memory. choice_later c.in-Choice.root.items (view c.args.json.now) k.key.now (view k.json.now) k.ensures none c.in-Some-additions.additions _ (h not_memory))

pub take_choice-returns-in-Some-found : goal.take_choice-returns-in-Some-found
take_choice-returns-in-Some-found t c =
    let k = c.in_ok-key in
    let none = rw (c.deref.ensures.value, c.in-None.is) at c.in_ok-found.ensures in
    let h = rw (c.deref-in-Some-additions.ensures.value, c.in-Some-found.is) at c.in_ok-found-in-Some-additions.ensures in
    rw (c.in-Choice.is, type_of-Choice, c.in-Some-additions.is) (choice_later c.in-Choice.root.items (view c.args.json.now) k.key.now (view k.json.now) k.ensures none c.in-Some-additions.additions _ h)

pub take_choice-returns-in-None-found : goal.take_choice-returns-in-None-found
take_choice-returns-in-None-found t c =
    let k = c.in_ok-key in
    let none = rw (c.deref.ensures.value, c.in-None.is) at c.in_ok-found.ensures in
    let h = rw (c.deref-in-Some-additions.ensures.value, c.in-None-found.is) at c.in_ok-found-in-Some-additions.ensures in
    let e = choice_foreign c.in-Choice.root.items (view c.args.json.now) k.key.now (view k.json.now) k.ensures none c.in-Some-additions.additions h in
    let f = rw (c.in-Choice.is, type_of-Choice, c.in-Some-additions.is) at c.foreign_in.ensures in
    rw (c.in-Choice.is, type_of-Choice, c.in-Some-additions.is, e) f

-- ---- a SEQUENCE with an extension marker

pub take_extensible-returns-then-not-are_keys : goal.take_extensible-returns-then-not-are_keys
take_extensible-returns-then-not-are_keys t c =
    let m = c.in_ok-members in
    let fs = fields_of c.in-Sequence.root.items in
    let more = additions_of c.in-Some.additions.items in
    let k = rw (c.deref.ensures.value, c.deref-2.ensures.value) at c.are_keys.ensures in
    rw (c.in-Sequence.is, type_of-Sequence, c.in-Some.is) (λ not_memory. ext_name fs more (view c.args.json.now) (members_view m.members.now.entries) m.ensures (sym k ∙ c.if-not-are_keys.true))

pub take_extensible-returns-in_err-root : goal.take_extensible-returns-in_err-root
take_extensible-returns-in_err-root t c =
    let m = c.in_ok-members in
    let fs = fields_of c.in-Sequence.root.items in
    let more = additions_of c.in-Some.additions.items in
    let q = err_from_is_err_and c.from_residual-in_err-root.result c.from_residual-in_err-root.ensures.1 in
    let k = rw (c.deref.ensures.value, c.deref-2.ensures.value) at c.are_keys.ensures in
    let r = rw c.deref-3.ensures.value at c.in_err-root.ensures in
    rw (q.1, q.2, c.in-Sequence.is, type_of-Sequence, c.in-Some.is)
    (λ not_memory. ext_root fs more (view c.args.json.now) (members_view m.members.now.entries) m.ensures _ (sym k ∙ c.if-not-are_keys.false) (r not_memory))

pub take_extensible-returns-in_err-added : goal.take_extensible-returns-in_err-added
take_extensible-returns-in_err-added t c =
    let m = c.in_ok-members in
    let fs = fields_of c.in-Sequence.root.items in
    let more = additions_of c.in-Some.additions.items in
    let q = err_from_is_err_and c.from_residual-in_err-added.result c.from_residual-in_err-added.ensures.1 in
    let k = rw (c.deref.ensures.value, c.deref-2.ensures.value) at c.are_keys.ensures in
    let r = rw c.deref-3.ensures.value at c.in_ok-root.ensures in
    let a = rw c.deref-4.ensures.value at c.in_err-added.ensures in
    rw (q.1, q.2, c.in-Sequence.is, type_of-Sequence, c.in-Some.is)
    (λ not_memory. ext_added fs more (view c.args.json.now) (members_view m.members.now.entries) m.ensures _ _ (sym k ∙ c.if-not-are_keys.false) r (a not_memory))

pub take_extensible-returns-in_err-unknown : goal.take_extensible-returns-in_err-unknown
take_extensible-returns-in_err-unknown t c =
    let m = c.in_ok-members in
    let fs = fields_of c.in-Sequence.root.items in
    let more = additions_of c.in-Some.additions.items in
    let q = err_from_is_err_and c.from_residual-in_err-unknown.result c.from_residual-in_err-unknown.ensures.1 in
    let k = rw (c.deref.ensures.value, c.deref-2.ensures.value) at c.are_keys.ensures in
    let r = rw c.deref-3.ensures.value at c.in_ok-root.ensures in
    let a = rw c.deref-4.ensures.value at c.in_ok-added.ensures in
    let n : c.len.result ≡ length c.in-Some.additions.items = omega (arith, c.in-Some.additions.ok.0) in
    let u = rw (n ∙ sym (counted_additions c.in-Some.additions.items)) at c.in_err-unknown.ensures in
    rw (q.1, q.2, c.in-Sequence.is, type_of-Sequence, c.in-Some.is)
    (λ not_memory. ext_unknown fs more (view c.args.json.now) (members_view m.members.now.entries) m.ensures _ _ _ (sym k ∙ c.if-not-are_keys.false) r a (u not_memory))

pub take_extensible-returns : goal.take_extensible-returns
take_extensible-returns t c =
    let m = c.in_ok-members in
    let fs = fields_of c.in-Sequence.root.items in
    let more = additions_of c.in-Some.additions.items in
    let k = rw (c.deref.ensures.value, c.deref-2.ensures.value) at c.are_keys.ensures in
    let r = rw c.deref-3.ensures.value at c.in_ok-root.ensures in
    let a = rw c.deref-4.ensures.value at c.in_ok-added.ensures in
    let n : c.len.result ≡ length c.in-Some.additions.items = omega (arith, c.in-Some.additions.ok.0) in
    let u = rw (n ∙ sym (counted_additions c.in-Some.additions.items)) at c.in_ok-unknown.ensures in
    rw (c.in-Sequence.is, type_of-Sequence, c.in-Some.is, value_of-Seq c.in_ok-root.root c.in_ok-added.added c.in_ok-unknown.unknown)
    (ext_ok fs more (view c.args.json.now) (members_view m.members.now.entries) m.ensures _ _ _ (sym k ∙ c.if-not-are_keys.false) r a u)

-- ---- kinds of shapes

pub take_value-take_extensible-requires : goal.take_value-take_extensible-requires
take_value-take_extensible-requires t c =
    let s = c.in-Sequence in
    (omega arith, (s.root, c.in-Some.field-0, s.is ∙ ap (λ (m : Option (Vec Addition Global)). Sequence s.root m) c.in-Some.is))
