use Rattle.std.proofs.Common.{ℤ, List, map, Option, Result, Ok, sym, ap, ap₂, ◌∙◌}
use Rattle.std.proofs.lemmas.Result.{err_from_is_err_and}
use Rattle.oer_module_lexer.specs.Token.{spots_of}
use Rattle.oer_module_names.specs.Views.{modules_in}
use Rattle.oer_module_terms.specs.Trees.{item_of as written_of}
use Rattle.oer_module_text.specs.Errors.{Read}
use Rattle.oer_module_values.specs.Errors.{Error as ToldError}
use Rattle.oer_module_values.specs.Numbers.{given_numbers}
use Rattle.oer_module_leaves.specs.Numbered.{Numbered, with_numbers}
use Rattle.oer_module_leaves.proofs.Stages.{as_many, numbered_err, numbered_ok}
use Rattle.oer_module_leaves.proofs.numbered.numbered_at.Goals as goal

abbrev given : List (Option ℤ) → Result (List (Option ℤ)) ToldError
given os = Ok os

pub numbers_of-requires : goal.numbers_of-requires
numbers_of-requires c =
    let ms = modules_in c.args.names.now in
    let p = c.args.place in
    let e = c.in_ok-enumeration.enumeration in
    let later = c.later_items-later.result.items in
    let has_root = ap (λ is. given_numbers ms p.«module» (map written_of is)) (sym c.deref.ensures.value) ∙ c.in_ok-root.ensures ∙ ap given (sym c.deref-4.ensures.value) in
    let has_more = ap (λ is. given_numbers ms p.«module» (map written_of is)) (sym c.deref-2.ensures.value) ∙ c.in_ok-more.ensures ∙ ap given (sym c.deref-5.ensures.value) in
    let all = c.deref-3.ensures.value ∙ c.in_ok-append.ensures.items in
    as_many ms p (spots_of c.args.spots.now) e later c.deref-3.result.now c.deref-4.result.now c.deref-5.result.now
    c.in_ok-enumeration.ensures c.later_items-later.ensures has_root has_more all

pub returns-in_err-numbers : goal.returns-in_err-numbers
returns-in_err-numbers c =
    let ms = modules_in c.args.names.now in
    let p = c.args.place in
    let e = c.in_ok-enumeration.enumeration in
    let later = c.later_items-later.result.items in
    let has_root = ap (λ is. given_numbers ms p.«module» (map written_of is)) (sym c.deref.ensures.value) ∙ c.in_ok-root.ensures ∙ ap given (sym c.deref-4.ensures.value) in
    let has_more = ap (λ is. given_numbers ms p.«module» (map written_of is)) (sym c.deref-2.ensures.value) ∙ c.in_ok-more.ensures ∙ ap given (sym c.deref-5.ensures.value) in
    let all = c.deref-3.ensures.value ∙ c.in_ok-append.ensures.items in
    let x = err_from_is_err_and c.from_residual-in_err-numbers.result c.from_residual-in_err-numbers.ensures.1 in
    rw (x.1, x.2) (λ not_memory. numbered_err ms p (spots_of c.args.spots.now) e later c.deref-3.result.now c.deref-4.result.now c.deref-5.result.now
    c.in_ok-enumeration.ensures c.later_items-later.ensures has_root has_more all
    _ (c.in_err-numbers.ensures.value not_memory))

pub returns : goal.returns
returns c =
    let ms = modules_in c.args.names.now in
    let p = c.args.place in
    let e = c.in_ok-enumeration.enumeration in
    let later = c.later_items-later.result.items in
    let has_root = ap (λ is. given_numbers ms p.«module» (map written_of is)) (sym c.deref.ensures.value) ∙ c.in_ok-root.ensures ∙ ap given (sym c.deref-4.ensures.value) in
    let has_more = ap (λ is. given_numbers ms p.«module» (map written_of is)) (sym c.deref-2.ensures.value) ∙ c.in_ok-more.ensures ∙ ap given (sym c.deref-5.ensures.value) in
    let all = c.deref-3.ensures.value ∙ c.in_ok-append.ensures.items in
    let numbered = ap₂ (λ is ns. with_numbers (map written_of is) ns) (c.deref-3.ensures.value ∙ sym c.deref-6.ensures.value) (sym c.deref-7.ensures.value)
    ∙ sym c.in_ok-items.ensures in
    numbered_ok ms p (spots_of c.args.spots.now) e later c.deref-3.result.now c.deref-4.result.now c.deref-5.result.now
    c.in_ok-enumeration.ensures c.later_items-later.ensures has_root has_more all
    _ c.in_ok-numbers.ensures.value
    ∙ ap₂ (λ is marker. let r : Read Numbered = Ok (record { items = is; marker = marker }) in r) numbered (sym c.marker_of-marker.ensures)
