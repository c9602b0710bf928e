use Rattle.std.proofs.Common.{Ok, Err, map, sym, ap, ◌∙◌, string_bytes}
use Rattle.oer_module_syntax.specs.Tree.{module_of}
use Rattle.oer_module_text.specs.declared.error.Why.TheVariants.{Unresolved}
use Rattle.oer_module_values.specs.declared.error.Why.TheVariants.{Unread}
use Rattle.oer_modules.proofs.Wholes.{type_answer, type_misread}
use Rattle.oer_modules.specs.Causes.{cause_of}
use Rattle.oer_modules.specs.Named.{named_text}
use Rattle.oer_modules.specs.Places.{lexed_of}
use Rattle.oer_modules.specs.Texts.{library_of, no_modules, read_each}
use Rattle.oer_modules.proofs.modules.type_of_modules.Goals as goal

pub returns-in-Err : goal.returns-in-Err
returns-in-Err c =
    let read = ap (λ ks. read_each 0 (map lexed_of ks) no_modules) (sym c.deref.ensures.value) in
    λ not_memory. type_misread c.in_ok-tokens.tokens.items c.args.texts.now c.in_ok-tokens.ensures c.args.name.now c.args.nesting c.in-Err.error
    (read ∙ c.in-Err.ensures (λ m. not_memory (c.unreadable.ensures.why ∙ ap (λ w. Unresolved (Unread w)) m)))
    ∙ ap Err (sym c.unreadable.ensures.value)

pub returns-in-Ok-named_text : goal.returns-in-Ok-named_text
returns-in-Ok-named_text c =
    let read = ap (λ ks. read_each 0 (map lexed_of ks) no_modules) (sym c.deref.ensures.value) in
    let modules = c.in_ok-names.ensures ∙ ap (map module_of) c.deref-2.ensures.value in
    type_answer c.in_ok-tokens.tokens.items c.args.texts.now c.in_ok-tokens.ensures c.args.name.now c.args.nesting (library_of c.in-Ok.library) (Ok (string_bytes c.in-Ok-named_text.text))
    (read ∙ c.in-Ok.ensures) (ap (λ ms. named_text ms c.args.name.now c.args.nesting) (sym modules) ∙ c.in-Ok-named_text.ensures)

pub returns : goal.returns
returns c =
    let read = ap (λ ks. read_each 0 (map lexed_of ks) no_modules) (sym c.deref.ensures.value) in
    let modules = c.in_ok-names.ensures ∙ ap (map module_of) c.deref-2.ensures.value in
    λ not_memory. type_answer c.in_ok-tokens.tokens.items c.args.texts.now c.in_ok-tokens.ensures c.args.name.now c.args.nesting (library_of c.in-Ok.library) (Err (cause_of c.in-Err-named_text.cause))
    (read ∙ c.in-Ok.ensures)
    (ap (λ ms. named_text ms c.args.name.now c.args.nesting) (sym modules) ∙ c.in-Err-named_text.ensures (λ m. not_memory (c.refuse.ensures.why ∙ m)))
    ∙ ap Err (sym c.refuse.ensures.value)
