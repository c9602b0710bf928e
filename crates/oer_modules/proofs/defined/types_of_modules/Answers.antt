use Rattle.std.proofs.Common.{[], Err, map, sym, ap, ◌∙◌}
use Rattle.oer_module_names.specs.Views.{modules_in}
use Rattle.oer_module_syntax.specs.Tree.{module_of}
use Rattle.oer_module_text.specs.declared.error.Why.TheVariants.{Unresolved}
use Rattle.oer_module_values.specs.declared.error.Why.TheVariants.{Unread}
use Rattle.oer_modules.proofs.Wholes.{types_misread, types_read}
use Rattle.oer_modules.specs.Defined.{with_each}
use Rattle.oer_modules.specs.Places.{lexed_of}
use Rattle.oer_modules.specs.Texts.{library_of, no_modules, read_each}
use Rattle.oer_notation.specs.Defining.{known_of}
use Rattle.oer_modules.proofs.defined.types_of_modules.Goals as goal

pub returns-in-Err : goal.returns-in-Err
returns-in-Err c =
    let read = ap (λ ks. read_each 0 (map lexed_of ks) no_modules) (sym c.deref.ensures.value) in
    λ not_memory. types_misread c.in_ok-tokens.tokens.items c.args.texts.now c.in_ok-tokens.ensures c.args.nesting c.in-Err.error
    (read ∙ c.in-Err.ensures (λ m. not_memory (c.unreadable.ensures.why ∙ ap (λ w. Unresolved (Unread w)) m)))
    ∙ ap Err (sym c.unreadable.ensures.value)

pub returns : goal.returns
returns c =
    let read = ap (λ ks. read_each 0 (map lexed_of ks) no_modules) (sym c.deref.ensures.value) in
    let modules = c.in_ok-names.ensures ∙ ap (map module_of) c.deref-2.ensures.value in
    let n = c.args.nesting in
    let l = library_of c.in-Ok.library in
    let all = c.in_ok-found.ensures
    ∙ ap (with_each (modules_in c.in_ok-names.names) n []) (c.modules-modules.ensures.value ∙ modules)
    ∙ ap (λ ms. with_each ms n [] l.modules) modules in
    types_read c.in_ok-tokens.tokens.items c.args.texts.now c.in_ok-tokens.ensures n l (map known_of c.in_ok-found.found.items) (read ∙ c.in-Ok.ensures) all
