-- What is gathered of the components and alternatives of a type is that type without the sizes of its lists.
use Rattle.std.proofs.Common.{◌≡◌, ◌∙◌, ℕ, List, [], ◌∷◌, ◌++◌, Bool, true, false, Some, None, refl, sym, ap}
use Rattle.std.proofs.lemmas.List.{append_assoc, append-nil}
use Rattle.oer_model.specs.AsnType.{Additions, Alternatives, Fields, addition, alternative, choice, extensible_sequence, field, later, no_additions, no_alternatives, no_fields, sequence}
use Rattle.oer_module_syntax.specs.Tree.{Elements}
use Rattle.oer_module_types.specs.Gathered.{Gathered, choice_in, empty, sequence_in, with_alternative, with_component, with_marker, with_part}
use Rattle.oer_notation.specs.Reading.{Known}
use Rattle.oer_same_trees.specs.Says.{SaysAlternatives, says_none_left, says_alternative, says_alternatives_marker, SaysLater, says_none_later, says_later}
use Rattle.oer_values.specs.ShapeView.{SeenAddition, SeenAlternative, SeenField, additions_from, fields_from, later_from, root_from}
use Rattle.oer_same_types.specs.Gathering.{with_additions, with_alternatives, with_fields, with_later}
use Rattle.oer_same_types.specs.Unsized.{unsized, unsized_additions, unsized_alternatives, unsized_fields}

abbrev fields_seen : Fields → List SeenField
fields_seen no_fields = []
fields_seen (field w need T fs) = record { name = w; need = need; type = unsized T } ∷ fields_seen fs

abbrev additions_seen : Additions → List SeenAddition
additions_seen no_additions = []
additions_seen (addition w T more) = record { name = w; type = unsized T } ∷ additions_seen more

fields_same : (fs : Fields) → fields_from (fields_seen fs) ≡ unsized_fields fs
fields_same no_fields = refl
fields_same (field w need T fs) = ap (field w need (unsized T)) (fields_same fs)

additions_same : (more : Additions) → additions_from (additions_seen more) ≡ unsized_additions more
additions_same no_additions = refl
additions_same (addition w T more) = ap (addition w (unsized T)) (additions_same more)

-- what is gathered of a SEQUENCE
abbrev parts : List SeenField → List SeenAddition → Bool → Gathered
parts fs more marked = record { fields = fs; additions = more; alternatives = []; later = []; marked = marked }

additions_gathered : (more : Additions) (fs : List SeenField) (found : List SeenAddition)
    → with_additions more (parts fs found true) ≡ parts fs (found ++ additions_seen more) true
unfolding with_additions with_part with_component
additions_gathered no_additions fs found = ap (λ xs. parts fs xs true) (sym (append-nil found))
additions_gathered (addition w T more) fs found =
    additions_gathered more fs (found ++ record { name = w; type = unsized T } ∷ [])
    ∙ ap (λ xs. parts fs xs true) (append_assoc found (record { name = w; type = unsized T } ∷ []) (additions_seen more))

fields_gathered : (fs : Fields) (found : List SeenField) → with_fields fs None (parts found [] false) ≡ parts (found ++ fields_seen fs) [] false
unfolding with_fields with_part with_component
fields_gathered no_fields found = ap (λ xs. parts xs [] false) (sym (append-nil found))
fields_gathered (field w need T fs) found =
    fields_gathered fs (found ++ record { name = w; need = need; type = unsized T } ∷ [])
    ∙ ap (λ xs. parts xs [] false) (append_assoc found (record { name = w; need = need; type = unsized T } ∷ []) (fields_seen fs))

extensible_gathered : (fs : Fields) (more : Additions) (found : List SeenField)
    → with_fields fs (Some more) (parts found [] false) ≡ parts (found ++ fields_seen fs) (additions_seen more) true
unfolding with_fields with_part with_component with_marker
extensible_gathered no_fields more found =
    additions_gathered more found [] ∙ ap (λ xs. parts xs (additions_seen more) true) (sym (append-nil found))
extensible_gathered (field w need T fs) more found =
    extensible_gathered fs more (found ++ record { name = w; need = need; type = unsized T } ∷ [])
    ∙ ap (λ xs. parts xs (additions_seen more) true) (append_assoc found (record { name = w; need = need; type = unsized T } ∷ []) (fields_seen fs))

pub sequence_gathered : (fs : Fields) → sequence_in (with_fields fs None empty) ≡ unsized (sequence fs)
unfolding sequence_in empty
sequence_gathered fs = ap sequence_in (fields_gathered fs []) ∙ ap sequence (fields_same fs)

pub extensible_sequence_gathered : (fs : Fields) (more : Additions) → sequence_in (with_fields fs (Some more) empty) ≡ unsized (extensible_sequence fs more)
unfolding sequence_in empty
extensible_sequence_gathered fs more =
    ap sequence_in (extensible_gathered fs more []) ∙ ap (λ xs. extensible_sequence xs (additions_from (additions_seen more))) (fields_same fs)
    ∙ ap (extensible_sequence (unsized_fields fs)) (additions_same more)

-- ---- alternatives

-- what is gathered of a CHOICE
abbrev choices : List SeenAlternative → List SeenAlternative → Bool → Gathered
choices root more marked = record { fields = []; additions = []; alternatives = root; later = more; marked = marked }

-- later alternatives before others
abbrev later_onto : List SeenAlternative → Alternatives → Alternatives
later_onto [] more = more
later_onto (a ∷ found) more = later a.name a.tag a.type (later_onto found more)

later_alone : (found : List SeenAlternative) → later_from found ≡ later_onto found no_alternatives
later_alone [] = refl
later_alone (a ∷ found) = ap (later a.name a.tag a.type) (later_alone found)

later_more : (found : List SeenAlternative) (a : SeenAlternative) (more : Alternatives)
    → later_onto (found ++ a ∷ []) more ≡ later_onto found (later a.name a.tag a.type more)
later_more [] a more = refl
later_more (b ∷ found) a more = ap (later b.name b.tag b.type) (later_more found a more)

root_more : (found : List SeenAlternative) (a : SeenAlternative) (more : Alternatives)
    → root_from (found ++ a ∷ []) more ≡ root_from found (alternative a.name a.tag a.type more)
root_more [] a more = refl
root_more (b ∷ found) a more = ap (alternative b.name b.tag b.type) (root_more found a more)

later_gathered : {known : List Known} {is_tagged : Bool} {place : ℕ} {more : Alternatives} {es : Elements} → SaysLater known is_tagged place more es
    → (root found : List SeenAlternative)
    → choice_in (with_later more (choices root found true)) ≡ choice true (root_from root (later_onto found (unsized_alternatives more)))
unfolding choice_in with_later with_part with_alternative
later_gathered says_none_later root found = ap (λ xs. choice true (root_from root xs)) (later_alone found)
later_gathered (says_later {w} {t} {T} {more} is says rest) root found =
    later_gathered rest root (found ++ record { name = w; tag = t; type = unsized T } ∷ [])
    ∙ ap (λ xs. choice true (root_from root xs)) (later_more found (record { name = w; tag = t; type = unsized T }) (unsized_alternatives more))

marked_gathered : {known : List Known} {is_tagged : Bool} {place : ℕ} {more : Alternatives} {es : Elements} → SaysLater known is_tagged place more es
    → (root : List SeenAlternative) → with_alternatives true more (choices root [] false) ≡ with_later more (choices root [] true)
unfolding with_alternatives with_later with_marker
marked_gathered says_none_later root = refl
marked_gathered (says_later is says rest) root = refl

alternatives_gathered : {known : List Known} {is_tagged : Bool} {place : ℕ} {more : Alternatives} {marker : Bool} {es : Elements}
    → SaysAlternatives known is_tagged place more marker es → (root : List SeenAlternative)
    → choice_in (with_alternatives marker more (choices root [] false)) ≡ choice marker (root_from root (unsized_alternatives more))
unfolding choice_in with_alternatives with_part with_alternative
alternatives_gathered says_none_left root = refl
alternatives_gathered (says_alternative {w} {t} {T} {more} {marker} is says rest) root =
    alternatives_gathered rest (root ++ record { name = w; tag = t; type = unsized T } ∷ [])
    ∙ ap (choice marker) (root_more root (record { name = w; tag = t; type = unsized T }) (unsized_alternatives more))
alternatives_gathered (says_alternatives_marker rest) root = ap choice_in (marked_gathered rest root) ∙ later_gathered rest root []

pub choice_gathered : {known : List Known} {is_tagged : Bool} {place : ℕ} {more : Alternatives} {marker : Bool} {es : Elements}
    → SaysAlternatives known is_tagged place more marker es → choice_in (with_alternatives marker more empty) ≡ unsized (choice marker more)
unfolding empty
choice_gathered says = alternatives_gathered says []
