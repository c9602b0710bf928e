use Rattle.std.proofs.Common.{Ok, Err, map, sym, ap, ◌∙◌, subst}
use Rattle.oer_module_syntax.specs.Tree.{module_of}
use Rattle.oer_module_text.specs.declared.error.Why.TheVariants.{Unresolved}
use Rattle.oer_module_values.specs.declared.error.Why.TheVariants.{Unread}
use Rattle.oer_modules.proofs.Wholes.{schema_answer, texts_of}
use Rattle.oer_modules.specs.Places.{lexed_of}
use Rattle.oer_modules.specs.Schemas.{GivesType, placed_type, refused, sound_in}
use Rattle.oer_modules.specs.Texts.{library_of, no_modules, read_each}
use Rattle.oer_modules.proofs.schema.schema_of_modules.Goals as goal

pub returns-in-Err : goal.returns-in-Err
returns-in-Err c =
    let read = ap (λ ks. read_each 0 (map lexed_of ks) no_modules) (sym c.deref.ensures.value) in
    λ not_memory. schema_answer c.in_ok-tokens.tokens.items c.args.texts.now c.in_ok-tokens.ensures c.args.name.now c.args.nesting (Err c.in-Err.error)
    (read ∙ c.in-Err.ensures (λ m. not_memory (c.unreadable.ensures.why ∙ ap (λ w. Unresolved (Unread w)) m)))
    ∙ ap (λ r. Err (refused r)) (sym c.unreadable.ensures.value)

pub returns-in-Ok-placed_type : goal.returns-in-Ok-placed_type
returns-in-Ok-placed_type c =
    let read = ap (λ ks. read_each 0 (map lexed_of ks) no_modules) (sym c.deref.ensures.value) in
    let modules = c.in_ok-names.ensures ∙ ap (map module_of) c.deref-2.ensures.value in
    subst (λ r. GivesType c.sound.result r)
    (sym (schema_answer c.in_ok-tokens.tokens.items c.args.texts.now c.in_ok-tokens.ensures c.args.name.now c.args.nesting (Ok (library_of c.in-Ok.library))
    (read ∙ c.in-Ok.ensures) ∙ ap (sound_in (texts_of c.args.texts.now) (library_of c.in-Ok.library)) (ap (λ ms. placed_type ms c.args.name.now c.args.nesting) (sym modules) ∙ c.in-Ok-placed_type.ensures)))
    c.sound.ensures

pub returns : goal.returns
returns c =
    let read = ap (λ ks. read_each 0 (map lexed_of ks) no_modules) (sym c.deref.ensures.value) in
    let modules = c.in_ok-names.ensures ∙ ap (map module_of) c.deref-2.ensures.value in
    λ not_memory. schema_answer c.in_ok-tokens.tokens.items c.args.texts.now c.in_ok-tokens.ensures c.args.name.now c.args.nesting (Ok (library_of c.in-Ok.library)) (read ∙ c.in-Ok.ensures)
    ∙ ap (sound_in (texts_of c.args.texts.now) (library_of c.in-Ok.library)) (ap (λ ms. placed_type ms c.args.name.now c.args.nesting) (sym modules)
    ∙ c.in-Err-placed_type.ensures (λ m. not_memory (c.refuse.ensures.why ∙ m)))
    ∙ ap (λ r. Err (refused r)) (sym c.refuse.ensures.value)
