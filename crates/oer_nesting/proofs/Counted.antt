-- What is counted in a type is the same where ends are replaced: components that may be absent, additions, tags.
use Rattle.std.proofs.Common.{◌≡◌, Bool, ◌||◌, suc, ap, sym, ◌∙◌}
use Rattle.oer_units.specs.declared.tagging.Tag.{Tag}
use Rattle.oer_model.specs.AsnType.{Additions, Alternatives, Fields, addition, alternative, field, later, no_additions, no_alternatives, no_fields}
use Rattle.oer_model.specs.AsnValue.{absent}
use Rattle.oer_model.specs.Constraints.{addition_count, has_tag, optional, optional_with, same_tag}
use Rattle.oer_model.specs.Fits.{all_absent}
use Rattle.oer_nesting.specs.Deeper.{DeeperAdditions, DeeperAlternatives, DeeperFields}

pub same_optional : (fs gs : Fields) → DeeperFields fs gs → optional fs ≡ optional gs
same_optional no_fields gs is = ap optional (sym is)
same_optional (field name need T fs) gs (X, rest, is, d, ds) = ap (optional_with need) (same_optional fs rest ds) ∙ ap optional (sym is)

pub same_count : (more others : Additions) → DeeperAdditions more others → addition_count more ≡ addition_count others
same_count no_additions others is = ap addition_count (sym is)
same_count (addition name T more) others (X, rest, is, d, ds) = ap suc (same_count more rest ds) ∙ ap addition_count (sym is)

pub same_absent : (more others : Additions) → DeeperAdditions more others → all_absent more ≡ all_absent others
same_absent no_additions others is = ap all_absent (sym is)
same_absent (addition name T more) others (X, rest, is, d, ds) = ap absent (same_absent more rest ds) ∙ ap all_absent (sym is)

pub same_tags : (more others : Alternatives) → DeeperAlternatives more others → (t : Tag) → has_tag t more ≡ has_tag t others
same_tags no_alternatives others is t = ap (has_tag t) (sym is)
same_tags (alternative name u T more) others (X, rest, is, d, ds) t =
    ap (λ (c : Bool). same_tag u t || c) (same_tags more rest ds t) ∙ ap (has_tag t) (sym is)
same_tags (later name u T more) others (X, rest, is, d, ds) t =
    ap (λ (c : Bool). same_tag u t || c) (same_tags more rest ds t) ∙ ap (has_tag t) (sym is)
