use Rattle.std.proofs.Common.{Err, map, sym, ap, ◌∙◌}
use Rattle.oer_module_names.specs.Views.{modules_in}
use Rattle.oer_module_syntax.specs.Tree.{module_of}
use Rattle.oer_module_text.specs.declared.error.Why.TheVariants.{Unresolved}
use Rattle.oer_module_values.specs.declared.error.Why.TheVariants.{Unread}
use Rattle.oer_modules.proofs.Wholes.{listed, listed_misread, texts_of}
use Rattle.oer_modules.specs.Listed.{entries_from, nothing, printed_after, printed_of}
use Rattle.oer_modules.specs.Places.{lexed_of}
use Rattle.oer_modules.specs.Texts.{library_of, no_modules, read_each}
use Rattle.oer_modules.proofs.modules.definitions_of_modules.Goals as goal

pub returns-in-Err : goal.returns-in-Err
returns-in-Err c =
    let read = ap (λ ks. read_each 0 (map lexed_of ks) no_modules) (sym c.deref.ensures.value) in
    λ not_memory. listed_misread c.in_ok-tokens.tokens.items c.args.texts.now c.in_ok-tokens.ensures c.args.nesting c.in-Err.error
    (read ∙ c.in-Err.ensures (λ m. not_memory (c.unreadable.ensures.why ∙ ap (λ w. Unresolved (Unread w)) m)))
    ∙ ap Err (sym c.unreadable.ensures.value)

pub returns : goal.returns
returns c =
    let read = ap (λ ks. read_each 0 (map lexed_of ks) no_modules) (sym c.deref.ensures.value) in
    let modules = c.in_ok-names.ensures ∙ ap (map module_of) c.deref-2.ensures.value in
    let n = c.args.nesting in
    let l = library_of c.in-Ok.library in
    let ts = texts_of c.args.texts.now in
    let all = c.in_ok-add_modules.ensures ∙ ap (λ p. printed_after p (entries_from ts l (modules_in c.in_ok-names.names) n 0 (map module_of c.modules-modules.result.now))) c.new-listing.ensures
    ∙ ap (λ ms. printed_after nothing (entries_from ts l (modules_in c.in_ok-names.names) n 0 ms)) (c.modules-modules.ensures.value ∙ modules)
    ∙ ap (λ ms. printed_after nothing (entries_from ts l ms n 0 l.modules)) modules in
    listed c.in_ok-tokens.tokens.items c.args.texts.now c.in_ok-tokens.ensures n l _ (printed_of c.add_modules.new.self) (read ∙ c.in-Ok.ensures) all c.in_ok-text.ensures
