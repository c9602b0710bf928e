-- The fault of least number, and what holds where there is none.
use Rattle.std.proofs.Common.{◌≡◌, ⊎_elim, ℕ, zero, suc, ◌<◌, ◌≤◌, List, [], ◌∷◌, Bool, true, false, not, ◌||◌, ltb, if◌then◌else◌, Option, Some, None, refl, sym, ap, ◌∙◌, subst, arith}
use Rattle.std.specs.Prelude.{IfSome}
use Rattle.std.specs.Option.{MatchOption}
use Rattle.std.proofs.lemmas.Bool.{le-leb, lt-ltb, cases_lt}
use Rattle.oer_model.specs.LeafType as kind
use Rattle.oer_model.specs.LeafType.{LeafType, string_size}
use Rattle.oer_model.specs.AsnType.{Additions, Alternatives, AsnType, Fields, Need, addition, alternative, choice, default, extensible_sequence, field, later, leaf, may, must, no_additions, no_alternatives, no_fields, sequence, sequence_of}
use Rattle.oer_model.specs.Constraints.{AdditionsKeepLimits, AlternativesKeepLimits, FieldsKeepLimits, HasSizeLimit, KeepsLimits, addition_count, may_be_empty}
use Rattle.oer_model.specs.FaultTest.{first_fault, first_in, has_empty_element, has_fault, has_misfit, any_misfit, is_misfit, in_additions, in_alternatives, in_fields, later_faults, somewhere}
use Rattle.oer_model.specs.FitTest.{is_fit}
use Rattle.oer_model.specs.Fits.{AdditionDefaultsFit, AlternativeDefaultsFit, DefaultFits, DefaultsFit, FieldDefaultsFit, Fits}
use Rattle.oer_model.specs.Laws.{FaultlessIsWellFormed, FirstFaultFound, NoFaultFound, OneFirstFault}
use Rattle.oer_model.specs.Nodes.{additions_nodes, alternatives_nodes, fields_nodes, type_nodes}
use Rattle.oer_model.specs.WellFormed.{HasFault, IsFirstFault, IsWellFormed, fault_number}
use Rattle.oer_model.specs.Widths.{AdditionsHaveWidths, AlternativesHaveWidths, FieldsHaveWidths, HasSizeWidths, HasWidths, LeafHasWidths}
use Rattle.oer_model.specs.declared.size.Size.{Size}
use Rattle.oer_model.specs.declared.fault.SchemaFault.{SchemaFault}
use Rattle.oer_model.specs.declared.fault.SchemaFault.TheVariants.{TooDeep, TooManyParts, BoundOrder, SizeOrder, BadName, RepeatedName, NoItems, RepeatedNumber, RepeatedTag, DefaultMisfit, EmptyElement}
use Rattle.oer_model.proofs.fitting.FitTests.{fit_sound}
use Rattle.oer_model.proofs.fitting.Leaves.{some_node}
use Rattle.oer_model.proofs.faults.FaultTests.{fault_decides}

-- the fault of a number
numbered : ℕ → SchemaFault
numbered (suc zero) = TooDeep
numbered (suc (suc zero)) = TooManyParts
numbered (suc (suc (suc zero))) = BoundOrder
numbered (suc (suc (suc (suc zero)))) = SizeOrder
numbered (suc (suc (suc (suc (suc zero))))) = BadName
numbered (suc (suc (suc (suc (suc (suc zero)))))) = RepeatedName
numbered (suc (suc (suc (suc (suc (suc (suc zero))))))) = NoItems
numbered (suc (suc (suc (suc (suc (suc (suc (suc zero)))))))) = RepeatedNumber
numbered (suc (suc (suc (suc (suc (suc (suc (suc (suc zero))))))))) = RepeatedTag
numbered (suc (suc (suc (suc (suc (suc (suc (suc (suc (suc zero)))))))))) = DefaultMisfit
numbered n = EmptyElement

number_back : (f : SchemaFault) → numbered (fault_number f) ≡ f
unfolding numbered
number_back TooDeep = refl
number_back TooManyParts = refl
number_back BoundOrder = refl
number_back SizeOrder = refl
number_back BadName = refl
number_back RepeatedName = refl
number_back NoItems = refl
number_back RepeatedNumber = refl
number_back RepeatedTag = refl
number_back DefaultMisfit = refl
number_back EmptyElement = refl

number_bounds : (f : SchemaFault) → fault_number f < 12
number_bounds TooDeep = omega arith
number_bounds TooManyParts = omega arith
number_bounds BoundOrder = omega arith
number_bounds SizeOrder = omega arith
number_bounds BadName = omega arith
number_bounds RepeatedName = omega arith
number_bounds NoItems = omega arith
number_bounds RepeatedNumber = omega arith
number_bounds RepeatedTag = omega arith
number_bounds DefaultMisfit = omega arith
number_bounds EmptyElement = omega arith

-- the faults from the number on, in their order
abbrev ListsFrom : ℕ → List SchemaFault → Type 0
ListsFrom n [] = n ≡ 12
ListsFrom n (f ∷ fs) = (fault_number f ≡ n) × ListsFrom (suc n) fs

abbrev FreeBelow : AsnType → ℕ → Type 0
FreeBelow T n = (g : SchemaFault) → fault_number g < n → has_fault g T ≡ false

free_more : (T : AsnType) (n : ℕ) (f : SchemaFault) → fault_number f ≡ n → has_fault f T ≡ false → FreeBelow T n → FreeBelow T (suc n)
free_more T n f e h below g l =
    ⊎_elim (λ l. below g l) (λ ge. let same : fault_number f ≡ fault_number g = omega arith in
    let is : f ≡ g = sym (number_back f) ∙ ap numbered same ∙ number_back g in subst (λ f. has_fault f T ≡ false) is h) (cases_lt (fault_number g) n)

abbrev Found : AsnType → SchemaFault → Type 0
Found T f = (has_fault f T ≡ true) × FreeBelow T (fault_number f)

found_here : (T : AsnType) (b : Bool) (f : SchemaFault) (rest : Option SchemaFault) → (b ≡ true → Found T f) → (b ≡ false → MatchOption rest ((g : SchemaFault) → has_fault g T ≡ false) (Found T))
    → MatchOption (if b then Some f else rest) ((g : SchemaFault) → has_fault g T ≡ false) (Found T)
found_here T true f rest h k = h refl
found_here T false f rest h k = k refl

found_in : (T : AsnType) (n : ℕ) (fs : List SchemaFault) → ListsFrom n fs → FreeBelow T n → MatchOption (first_in T fs) ((g : SchemaFault) → has_fault g T ≡ false) (Found T)
found_in T n [] e below = λ g. below g (let b = number_bounds g in omega arith)
found_in T n (f ∷ fs) (e, more) below =
    found_here T (has_fault f T) f (first_in T fs) (λ h. (h, subst (FreeBelow T) (sym e) below)) (λ h. found_in T (suc n) fs more (free_more T n f e h below))

none_below : (T : AsnType) → FreeBelow T 1
none_below T g l = absurd (low g l)
  where
    low : (g : SchemaFault) → fault_number g < 1 → ⊥
    low TooDeep l = omega arith
    low TooManyParts l = omega arith
    low BoundOrder l = omega arith
    low SizeOrder l = omega arith
    low BadName l = omega arith
    low RepeatedName l = omega arith
    low NoItems l = omega arith
    low RepeatedNumber l = omega arith
    low RepeatedTag l = omega arith
    low DefaultMisfit l = omega arith
    low EmptyElement l = omega arith

found : (T : AsnType) → MatchOption (first_fault T) ((g : SchemaFault) → has_fault g T ≡ false) (Found T)
found T = found_in T 1 (TooDeep ∷ TooManyParts ∷ later_faults) (refl, (refl, (refl, (refl, (refl, (refl, (refl, (refl, (refl, (refl, (refl, refl))))))))))) (none_below T)

no_fault : (T : AsnType) (f : SchemaFault) → has_fault f T ≡ false → HasFault T f → ⊥
no_fault T f e h = let on = (fault_decides T f).1 h in cc

-- the fault that is found is the first one
pub first_is : (T : AsnType) (f : SchemaFault) → first_fault T ≡ Some f → IsFirstFault T f
first_is T f e =
    let h : Found T f = subst (λ r. MatchOption r ((g : SchemaFault) → has_fault g T ≡ false) (Found T)) e (found T) in
    record { holds = (fault_decides T f).0 h.0; first = λ g l. no_fault T g (h.1 g l) }

free : (T : AsnType) → first_fault T ≡ None → (g : SchemaFault) → has_fault g T ≡ false
free T e = subst (λ r. MatchOption r ((g : SchemaFault) → has_fault g T ≡ false) (Found T)) e (found T)

or_left : (a b : Bool) → (a || b) ≡ false → a ≡ false
or_left false b h = refl
or_left true b h = cc

or_right : (a b : Bool) → (a || b) ≡ false → b ≡ false
or_right false b h = h
or_right true b h = cc

few_additions : (more : Additions) → addition_count more ≤ additions_nodes more
few_additions no_additions = omega arith
few_additions (addition name T more) = let n = few_additions more in let p = some_node T in omega arith

size_limit : (s : Size) → HasSizeWidths s → HasSizeLimit s
size_limit s h = le-leb s.low 18446744073709551615 (omega arith)

some_limit : (size : Option Size) → IfSome size HasSizeWidths → IfSome size HasSizeLimit
some_limit None h = tt
some_limit (Some s) h = size_limit s h

-- the limits follow from the widths of numbers, the number of parts, and that no element may be empty
leaf_limits : (kind : LeafType) → LeafHasWidths kind → KeepsLimits (leaf kind)
leaf_limits (kind.integer low high) r = tt
leaf_limits (kind.enumerated xs x) r = tt
leaf_limits k r = some_limit (string_size k) r

mutual
  limits_from : (T : AsnType) → HasWidths T → type_nodes T ≤ 4096 → somewhere has_empty_element T ≡ false → KeepsLimits T
  limits_from (leaf kind) r n e = leaf_limits kind r
  limits_from (sequence fs) r n e = fields_limits fs r (omega arith) e
  limits_from (extensible_sequence fs more) r n e =
      let f = few_additions more in (
        fields_limits fs r.0 (omega arith) (or_left (in_fields has_empty_element fs) (in_additions has_empty_element more) e),
        additions_limits more r.1 (omega arith) (or_right (in_fields has_empty_element fs) (in_additions has_empty_element more) e),
        omega arith,
      )
  limits_from (sequence_of s T) r n e = (or_left (may_be_empty T) (somewhere has_empty_element T) e, limits_from T r.1 (omega arith) (or_right (may_be_empty T) (somewhere has_empty_element T) e))
  limits_from (choice x more) r n e = alternatives_limits more r.1 (omega arith) e

  fields_limits : (fs : Fields) → FieldsHaveWidths fs → fields_nodes fs ≤ 4096 → in_fields has_empty_element fs ≡ false → FieldsKeepLimits fs
  fields_limits no_fields r n e = tt
  fields_limits (field name need T fs) r n e =
      (limits_from T r.0 (omega arith) (or_left (somewhere has_empty_element T) (in_fields has_empty_element fs) e), fields_limits fs r.1 (omega arith) (or_right (somewhere has_empty_element T) (in_fields has_empty_element fs) e))

  additions_limits : (more : Additions) → AdditionsHaveWidths more → additions_nodes more ≤ 4096 → in_additions has_empty_element more ≡ false → AdditionsKeepLimits more
  additions_limits no_additions r n e = tt
  additions_limits (addition name T more) r n e =
      (limits_from T r.0 (omega arith) (or_left (somewhere has_empty_element T) (in_additions has_empty_element more) e), additions_limits more r.1 (omega arith) (or_right (somewhere has_empty_element T) (in_additions has_empty_element more) e))

  alternatives_limits : (more : Alternatives) → AlternativesHaveWidths more → alternatives_nodes more ≤ 4096 → in_alternatives has_empty_element more ≡ false → AlternativesKeepLimits more
  alternatives_limits no_alternatives r n e = tt
  alternatives_limits (alternative name t T more) r n e = (
    limits_from T r.1 (omega arith) (or_left (somewhere has_empty_element T) (in_alternatives has_empty_element more) e),
    alternatives_limits more r.2 (omega arith) (or_right (somewhere has_empty_element T) (in_alternatives has_empty_element more) e),
    r.0,
  )
  alternatives_limits (later name t T more) r n e = (
    limits_from T r.1 (omega arith) (or_left (somewhere has_empty_element T) (in_alternatives has_empty_element more) e),
    alternatives_limits more r.2 (omega arith) (or_right (somewhere has_empty_element T) (in_alternatives has_empty_element more) e),
    r.0,
  )

few_parts : (n : ℕ) → ltb 4096 n ≡ false → n ≤ 4096
few_parts n e = ⊎_elim (λ l. let on = lt-ltb 4096 n l in absurd (cc)) (λ g. g) (cases_lt 4096 n)

-- where no fault is found
pub well_formed : (T : AsnType) → HasWidths T → first_fault T ≡ None → IsWellFormed T
well_formed T r e =
    let f = free T e in
    record { faultless = λ g. no_fault T g (f g); widths = r; limits = limits_from T r (few_parts (type_nodes T) (f TooManyParts)) (f EmptyElement) }

only_none : (T : AsnType) (o : Option SchemaFault) → first_fault T ≡ o → ((f : SchemaFault) → HasFault T f → ⊥) → o ≡ None
only_none T None e h = refl
only_none T (Some f) e h = absurd (h f (first_is T f e).holds)

pub no_fault_found : NoFaultFound
no_fault_found T = (λ e g. no_fault T g (free T e g), only_none T (first_fault T) refl)

pub one_first_fault : OneFirstFault
one_first_fault T f g h k =
    let no_less : fault_number g < fault_number f → ⊥ = λ l. h.first g l k.holds in
    let no_more : fault_number f < fault_number g → ⊥ = λ l. k.first f l h.holds in
    let same : fault_number f ≡ fault_number g = ⊎_elim (λ l. absurd (no_more l)) (λ ge. ⊎_elim (λ l. absurd (no_less l)) (λ le. omega arith) (cases_lt (fault_number g) (fault_number f))) (cases_lt (fault_number f) (fault_number g)) in
    sym (number_back f) ∙ ap numbered same ∙ number_back g

only_first : (T : AsnType) (f : SchemaFault) (o : Option SchemaFault) → first_fault T ≡ o → IsFirstFault T f → o ≡ Some f
only_first T f None e h = absurd (no_fault T f (free T e f) h.holds)
only_first T f (Some g) e h = ap Some (one_first_fault T g f (first_is T g e) h)

pub first_fault_found : FirstFaultFound
first_fault_found T f = (first_is T f, only_first T f (first_fault T) refl)

pub faultless_is_well_formed : FaultlessIsWellFormed
faultless_is_well_formed T r = (well_formed T r, λ w. only_none T (first_fault T) refl w.faultless)

is_off : (b : Bool) → (b ≡ true → ⊥) → b ≡ false
is_off true h = absurd (h refl)
is_off false h = refl

not_off : (b : Bool) → not b ≡ false → b ≡ true
not_off true h = refl
not_off false h = cc

default_fits : (T : AsnType) (need : Need) → is_misfit T need ≡ false → DefaultFits need (Fits T)
default_fits T must e = tt
default_fits T may e = tt
default_fits T (default d) e = fit_sound T d (not_off (is_fit T d) e)

mutual
  defaults_from : (T : AsnType) → somewhere has_misfit T ≡ false → DefaultsFit T
  defaults_from (leaf kind) e = tt
  defaults_from (sequence fs) e = field_defaults fs (or_left (any_misfit fs) (in_fields has_misfit fs) e) (or_right (any_misfit fs) (in_fields has_misfit fs) e)
  defaults_from (extensible_sequence fs more) e =
      let k = or_right (any_misfit fs) (in_fields has_misfit fs || in_additions has_misfit more) e in (
        field_defaults fs (or_left (any_misfit fs) (in_fields has_misfit fs || in_additions has_misfit more) e) (or_left (in_fields has_misfit fs) (in_additions has_misfit more) k),
        addition_defaults more (or_right (in_fields has_misfit fs) (in_additions has_misfit more) k),
      )
  defaults_from (sequence_of s T) e = defaults_from T e
  defaults_from (choice x more) e = alternative_defaults more e

  field_defaults : (fs : Fields) → any_misfit fs ≡ false → in_fields has_misfit fs ≡ false → FieldDefaultsFit fs
  field_defaults no_fields d e = tt
  field_defaults (field name need T fs) d e = (
    defaults_from T (or_left (somewhere has_misfit T) (in_fields has_misfit fs) e),
    default_fits T need (or_left (is_misfit T need) (any_misfit fs) d),
    field_defaults fs (or_right (is_misfit T need) (any_misfit fs) d) (or_right (somewhere has_misfit T) (in_fields has_misfit fs) e),
  )

  addition_defaults : (more : Additions) → in_additions has_misfit more ≡ false → AdditionDefaultsFit more
  addition_defaults no_additions e = tt
  addition_defaults (addition name T more) e = (defaults_from T (or_left (somewhere has_misfit T) (in_additions has_misfit more) e), addition_defaults more (or_right (somewhere has_misfit T) (in_additions has_misfit more) e))

  alternative_defaults : (more : Alternatives) → in_alternatives has_misfit more ≡ false → AlternativeDefaultsFit more
  alternative_defaults no_alternatives e = tt
  alternative_defaults (alternative name t T more) e = (defaults_from T (or_left (somewhere has_misfit T) (in_alternatives has_misfit more) e), alternative_defaults more (or_right (somewhere has_misfit T) (in_alternatives has_misfit more) e))
  alternative_defaults (later name t T more) e = (defaults_from T (or_left (somewhere has_misfit T) (in_alternatives has_misfit more) e), alternative_defaults more (or_right (somewhere has_misfit T) (in_alternatives has_misfit more) e))

-- the defaults of a well-formed type fit
pub defaults_fit : (T : AsnType) → IsWellFormed T → DefaultsFit T
defaults_fit T w = defaults_from T (is_off (somewhere has_misfit T) (λ e. w.faultless DefaultMisfit ((fault_decides T DefaultMisfit).0 e)))
