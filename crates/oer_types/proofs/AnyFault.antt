-- A type of which no fault is found in one walk has none of the faults after the first two.
use Rattle.std.proofs.Common.{◌≡◌, ℕ, zero, suc, List, [], ◌∷◌, ◌++◌, drop, Bool, true, false, ◌||◌, Option, Some, None}
use Rattle.std.proofs.Common.{if◌then◌else◌, refl, sym, ap, ◌∙◌, true≢false}
use Rattle.oer_model.specs.AsnType.{Additions, Alternatives, AsnType, Fields, addition, alternative, choice, extensible_sequence, field, later, leaf, no_additions, no_alternatives, no_fields, sequence, sequence_of}
use Rattle.oer_model.proofs.faults.Faults.{no_fault_found}
use Rattle.oer_model.specs.FaultTest.{first_fault, first_in, has_fault, has_fault_here, in_additions, in_alternatives, in_fields, later_faults, somewhere}
use Rattle.oer_model.specs.declared.fault.SchemaFault.{SchemaFault}
use Rattle.oer_model.specs.declared.fault.SchemaFault.TheVariants.{TooDeep, TooManyParts, BoundOrder, SizeOrder, BadName, RepeatedName, NoItems, RepeatedNumber, RepeatedTag, DefaultMisfit, EmptyElement}
use Rattle.oer_model.specs.WellFormed.{IsWellFormed}
use Rattle.oer_types.specs.AnyFault.{any_fault, any_fault_here, any_here, inside, repeat_faults, spelling_faults, value_faults}
use Rattle.oer_values.proofs.Shapes.{shapes}

pub or_false : (a : Bool) → (a || false) ≡ a
or_false true = refl
or_false false = refl

pub ruleset here = (shapes, or_false)

left : (a b : Bool) → (a || b) ≡ false → a ≡ false
left true b e = e
left false b e = refl

right : (a b : Bool) → (a || b) ≡ false → b ≡ false
right true b e = absurd (true≢false e)
right false b e = e

neither : (a b : Bool) → a ≡ false → b ≡ false → (a || b) ≡ false
neither true b d e = d
neither false b d e = e

-- a test that holds of no type of which another doesn't
abbrev Implies : (AsnType → Bool) → (AsnType → Bool) → Type 0
Implies q r = (T : AsnType) → r T ≡ false → q T ≡ false

mutual
  nowhere : (q r : AsnType → Bool) → Implies q r → (T : AsnType) → somewhere r T ≡ false → somewhere q T ≡ false
  nowhere q r h (leaf kind) e = h (leaf kind) e
  nowhere q r h (sequence fs) e = neither (q (sequence fs)) (in_fields q fs) (h (sequence fs) (left (r (sequence fs)) (in_fields r fs) e)) (not_in_fields q r h fs (right (r (sequence fs)) (in_fields r fs) e))
  nowhere q r h (extensible_sequence fs more) e =
      let below = right (r (extensible_sequence fs more)) (in_fields r fs || in_additions r more) e in
      neither (q (extensible_sequence fs more)) (in_fields q fs || in_additions q more) (h (extensible_sequence fs more) (left (r (extensible_sequence fs more)) (in_fields r fs || in_additions r more) e))
      (neither (in_fields q fs) (in_additions q more) (not_in_fields q r h fs (left (in_fields r fs) (in_additions r more) below)) (not_in_additions q r h more (right (in_fields r fs) (in_additions r more) below)))
  nowhere q r h (sequence_of s T) e = neither (q (sequence_of s T)) (somewhere q T) (h (sequence_of s T) (left (r (sequence_of s T)) (somewhere r T) e)) (nowhere q r h T (right (r (sequence_of s T)) (somewhere r T) e))
  nowhere q r h (choice extensible more) e = neither (q (choice extensible more)) (in_alternatives q more) (h (choice extensible more) (left (r (choice extensible more)) (in_alternatives r more) e)) (not_in_alternatives q r h more (right (r (choice extensible more)) (in_alternatives r more) e))

  not_in_fields : (q r : AsnType → Bool) → Implies q r → (fs : Fields) → in_fields r fs ≡ false → in_fields q fs ≡ false
  not_in_fields q r h no_fields e = refl
  not_in_fields q r h (field name need T fs) e = neither (somewhere q T) (in_fields q fs) (nowhere q r h T (left (somewhere r T) (in_fields r fs) e)) (not_in_fields q r h fs (right (somewhere r T) (in_fields r fs) e))

  not_in_additions : (q r : AsnType → Bool) → Implies q r → (more : Additions) → in_additions r more ≡ false → in_additions q more ≡ false
  not_in_additions q r h no_additions e = refl
  not_in_additions q r h (addition name T more) e = neither (somewhere q T) (in_additions q more) (nowhere q r h T (left (somewhere r T) (in_additions r more) e)) (not_in_additions q r h more (right (somewhere r T) (in_additions r more) e))

  not_in_alternatives : (q r : AsnType → Bool) → Implies q r → (more : Alternatives) → in_alternatives r more ≡ false → in_alternatives q more ≡ false
  not_in_alternatives q r h no_alternatives e = refl
  not_in_alternatives q r h (alternative name t T more) e = neither (somewhere q T) (in_alternatives q more) (nowhere q r h T (left (somewhere r T) (in_alternatives r more) e)) (not_in_alternatives q r h more (right (somewhere r T) (in_alternatives r more) e))
  not_in_alternatives q r h (later name t T more) e = neither (somewhere q T) (in_alternatives q more) (nowhere q r h T (left (somewhere r T) (in_alternatives r more) e)) (not_in_alternatives q r h more (right (somewhere r T) (in_alternatives r more) e))

past : (n : ℕ) (fs : List SchemaFault) (T : AsnType) → any_here fs T ≡ false → any_here (drop n fs) T ≡ false
past zero fs T e = e
past (suc n) [] T e = refl
past (suc n) (f ∷ fs) T e = past n fs T (right (has_fault_here f T) (any_here fs T) e)

-- one of the faults after the first two isn't there where none of them is
each : (f : SchemaFault) (T : AsnType) → any_fault_here T ≡ false → has_fault_here f T ≡ false
each TooDeep T e = refl
each TooManyParts T e = refl
each BoundOrder T e = left (has_fault_here BoundOrder T) (any_here (drop 1 later_faults) T) (past 0 later_faults T e)
each SizeOrder T e = left (has_fault_here SizeOrder T) (any_here (drop 2 later_faults) T) (past 1 later_faults T e)
each BadName T e = left (has_fault_here BadName T) (any_here (drop 3 later_faults) T) (past 2 later_faults T e)
each RepeatedName T e = left (has_fault_here RepeatedName T) (any_here (drop 4 later_faults) T) (past 3 later_faults T e)
each NoItems T e = left (has_fault_here NoItems T) (any_here (drop 5 later_faults) T) (past 4 later_faults T e)
each RepeatedNumber T e = left (has_fault_here RepeatedNumber T) (any_here (drop 6 later_faults) T) (past 5 later_faults T e)
each RepeatedTag T e = left (has_fault_here RepeatedTag T) (any_here (drop 7 later_faults) T) (past 6 later_faults T e)
each DefaultMisfit T e = left (has_fault_here DefaultMisfit T) (any_here (drop 8 later_faults) T) (past 7 later_faults T e)
each EmptyElement T e = left (has_fault_here EmptyElement T) (any_here (drop 9 later_faults) T) (past 8 later_faults T e)

-- one of the faults after the first two is nowhere
none_of : (f : SchemaFault) (T : AsnType) → somewhere any_fault_here T ≡ false → somewhere (has_fault_here f) T ≡ false
none_of f T e = nowhere (has_fault_here f) any_fault_here (each f) T e

pub none_later : (T : AsnType) → somewhere any_fault_here T ≡ false → first_in T later_faults ≡ None
none_later T e = rw (none_of BoundOrder T e, none_of SizeOrder T e, none_of BadName T e, none_of RepeatedName T e, none_of NoItems T e, none_of RepeatedNumber T e, none_of RepeatedTag T e, none_of DefaultMisfit T e, none_of EmptyElement T e) refl

-- ---- the other way round

abbrev or : (AsnType → Bool) → (AsnType → Bool) → AsnType → Bool
or q r T = q T || r T

mutual
  or_nowhere : (q r : AsnType → Bool) (T : AsnType) → somewhere q T ≡ false → somewhere r T ≡ false → somewhere (or q r) T ≡ false
  or_nowhere q r (leaf kind) d e = neither (q (leaf kind)) (r (leaf kind)) d e
  or_nowhere q r (sequence fs) d e =
      let T = sequence fs in
      neither (or q r T) (in_fields (or q r) fs) (neither (q T) (r T) (left (q T) (in_fields q fs) d) (left (r T) (in_fields r fs) e))
      (or_not_in_fields q r fs (right (q T) (in_fields q fs) d) (right (r T) (in_fields r fs) e))
  or_nowhere q r (extensible_sequence fs more) d e =
      let T = extensible_sequence fs more in
      let qs = right (q T) (in_fields q fs || in_additions q more) d in
      let rs = right (r T) (in_fields r fs || in_additions r more) e in
      neither (or q r T) (in_fields (or q r) fs || in_additions (or q r) more)
      (neither (q T) (r T) (left (q T) (in_fields q fs || in_additions q more) d) (left (r T) (in_fields r fs || in_additions r more) e))
      (neither (in_fields (or q r) fs) (in_additions (or q r) more)
      (or_not_in_fields q r fs (left (in_fields q fs) (in_additions q more) qs) (left (in_fields r fs) (in_additions r more) rs))
      (or_not_in_additions q r more (right (in_fields q fs) (in_additions q more) qs) (right (in_fields r fs) (in_additions r more) rs)))
  or_nowhere q r (sequence_of s U) d e =
      let T = sequence_of s U in
      neither (or q r T) (somewhere (or q r) U) (neither (q T) (r T) (left (q T) (somewhere q U) d) (left (r T) (somewhere r U) e))
      (or_nowhere q r U (right (q T) (somewhere q U) d) (right (r T) (somewhere r U) e))
  or_nowhere q r (choice extensible more) d e =
      let T = choice extensible more in
      neither (or q r T) (in_alternatives (or q r) more) (neither (q T) (r T) (left (q T) (in_alternatives q more) d) (left (r T) (in_alternatives r more) e))
      (or_not_in_alternatives q r more (right (q T) (in_alternatives q more) d) (right (r T) (in_alternatives r more) e))

  or_not_in_fields : (q r : AsnType → Bool) (fs : Fields) → in_fields q fs ≡ false → in_fields r fs ≡ false → in_fields (or q r) fs ≡ false
  or_not_in_fields q r no_fields d e = refl
  or_not_in_fields q r (field name need T fs) d e = neither (somewhere (or q r) T) (in_fields (or q r) fs)
      (or_nowhere q r T (left (somewhere q T) (in_fields q fs) d) (left (somewhere r T) (in_fields r fs) e))
      (or_not_in_fields q r fs (right (somewhere q T) (in_fields q fs) d) (right (somewhere r T) (in_fields r fs) e))

  or_not_in_additions : (q r : AsnType → Bool) (more : Additions) → in_additions q more ≡ false → in_additions r more ≡ false → in_additions (or q r) more ≡ false
  or_not_in_additions q r no_additions d e = refl
  or_not_in_additions q r (addition name T more) d e = neither (somewhere (or q r) T) (in_additions (or q r) more)
      (or_nowhere q r T (left (somewhere q T) (in_additions q more) d) (left (somewhere r T) (in_additions r more) e))
      (or_not_in_additions q r more (right (somewhere q T) (in_additions q more) d) (right (somewhere r T) (in_additions r more) e))

  or_not_in_alternatives : (q r : AsnType → Bool) (more : Alternatives) → in_alternatives q more ≡ false → in_alternatives r more ≡ false → in_alternatives (or q r) more ≡ false
  or_not_in_alternatives q r no_alternatives d e = refl
  or_not_in_alternatives q r (alternative name t T more) d e = neither (somewhere (or q r) T) (in_alternatives (or q r) more)
      (or_nowhere q r T (left (somewhere q T) (in_alternatives q more) d) (left (somewhere r T) (in_alternatives r more) e))
      (or_not_in_alternatives q r more (right (somewhere q T) (in_alternatives q more) d) (right (somewhere r T) (in_alternatives r more) e))
  or_not_in_alternatives q r (later name t T more) d e = neither (somewhere (or q r) T) (in_alternatives (or q r) more)
      (or_nowhere q r T (left (somewhere q T) (in_alternatives q more) d) (left (somewhere r T) (in_alternatives r more) e))
      (or_not_in_alternatives q r more (right (somewhere q T) (in_alternatives q more) d) (right (somewhere r T) (in_alternatives r more) e))

mutual
  none_nowhere : (T : AsnType) → somewhere (any_here []) T ≡ false
  none_nowhere (leaf kind) = refl
  none_nowhere (sequence fs) = none_in_fields fs
  none_nowhere (extensible_sequence fs more) = neither (in_fields (any_here []) fs) (in_additions (any_here []) more) (none_in_fields fs) (none_in_additions more)
  none_nowhere (sequence_of s T) = none_nowhere T
  none_nowhere (choice extensible more) = none_in_alternatives more

  none_in_fields : (fs : Fields) → in_fields (any_here []) fs ≡ false
  none_in_fields no_fields = refl
  none_in_fields (field name need T fs) = neither (somewhere (any_here []) T) (in_fields (any_here []) fs) (none_nowhere T) (none_in_fields fs)

  none_in_additions : (more : Additions) → in_additions (any_here []) more ≡ false
  none_in_additions no_additions = refl
  none_in_additions (addition name T more) = neither (somewhere (any_here []) T) (in_additions (any_here []) more) (none_nowhere T) (none_in_additions more)

  none_in_alternatives : (more : Alternatives) → in_alternatives (any_here []) more ≡ false
  none_in_alternatives no_alternatives = refl
  none_in_alternatives (alternative name t T more) = neither (somewhere (any_here []) T) (in_alternatives (any_here []) more) (none_nowhere T) (none_in_alternatives more)
  none_in_alternatives (later name t T more) = neither (somewhere (any_here []) T) (in_alternatives (any_here []) more) (none_nowhere T) (none_in_alternatives more)

-- where the first fault of a list is none, the first of the list isn't there, and none of the rest is first
not_some : (b : Bool) (f : SchemaFault) (o : Option SchemaFault) → (if b then Some f else o) ≡ None → (b ≡ false) × (o ≡ None)
not_some true f o e = absurd (cc)
not_some false f o e = (refl, e)

one_more : (f : SchemaFault) (fs : List SchemaFault) (T : AsnType) → somewhere (has_fault_here f) T ≡ false → somewhere (any_here fs) T ≡ false → somewhere (any_here (f ∷ fs)) T ≡ false
one_more f fs T d e = or_nowhere (has_fault_here f) (any_here fs) T d e

-- a well-formed type has none of the faults after the first two
pub sound : (T : AsnType) → IsWellFormed T → any_fault T ≡ false
sound T w =
    let n : first_fault T ≡ None = (no_fault_found T).1 w.faultless in
    let a2 = (not_some (has_fault TooManyParts T) TooManyParts (first_in T later_faults) (not_some (has_fault TooDeep T) TooDeep (first_in T (TooManyParts ∷ later_faults)) n).1).1 in
    let a3 = not_some (has_fault BoundOrder T) BoundOrder (first_in T (drop 1 later_faults)) a2 in
    let a4 = not_some (has_fault SizeOrder T) SizeOrder (first_in T (drop 2 later_faults)) a3.1 in
    let a5 = not_some (has_fault BadName T) BadName (first_in T (drop 3 later_faults)) a4.1 in
    let a6 = not_some (has_fault RepeatedName T) RepeatedName (first_in T (drop 4 later_faults)) a5.1 in
    let a7 = not_some (has_fault NoItems T) NoItems (first_in T (drop 5 later_faults)) a6.1 in
    let a8 = not_some (has_fault RepeatedNumber T) RepeatedNumber (first_in T (drop 6 later_faults)) a7.1 in
    let a9 = not_some (has_fault RepeatedTag T) RepeatedTag (first_in T (drop 7 later_faults)) a8.1 in
    let a10 = not_some (has_fault DefaultMisfit T) DefaultMisfit (first_in T (drop 8 later_faults)) a9.1 in
    let a11 = not_some (has_fault EmptyElement T) EmptyElement (first_in T (drop 9 later_faults)) a10.1 in
    one_more BoundOrder (drop 1 later_faults) T a3.0 (one_more SizeOrder (drop 2 later_faults) T a4.0 (one_more BadName (drop 3 later_faults) T a5.0 (one_more RepeatedName (drop 4 later_faults) T a6.0
    (one_more NoItems (drop 5 later_faults) T a7.0 (one_more RepeatedNumber (drop 6 later_faults) T a8.0 (one_more RepeatedTag (drop 7 later_faults) T a9.0 (one_more DefaultMisfit (drop 8 later_faults) T a10.0
    (one_more EmptyElement (drop 9 later_faults) T a11.0 (none_nowhere T)))))))))

-- of the type itself, or of a type in it
pub here_or_inside : (T : AsnType) → any_fault_here T ≡ false → inside any_fault_here T ≡ false → any_fault T ≡ false
here_or_inside (leaf kind) d e = d
here_or_inside (sequence fs) d e = neither (any_fault_here (sequence fs)) (in_fields any_fault_here fs) d e
here_or_inside (extensible_sequence fs more) d e = neither (any_fault_here (extensible_sequence fs more)) (in_fields any_fault_here fs || in_additions any_fault_here more) d e
here_or_inside (sequence_of s T) d e = neither (any_fault_here (sequence_of s T)) (somewhere any_fault_here T) d e
here_or_inside (choice extensible more) d e = neither (any_fault_here (choice extensible more)) (in_alternatives any_fault_here more) d e

-- ---- the faults by what they are told from

or_assoc : (a b c : Bool) → (a || (b || c)) ≡ ((a || b) || c)
or_assoc true b c = refl
or_assoc false b c = refl

any_of_both : (fs gs : List SchemaFault) (T : AsnType) → any_here (fs ++ gs) T ≡ (any_here fs T || any_here gs T)
any_of_both [] gs T = refl
any_of_both (f ∷ fs) gs T = ap (λ b. has_fault_here f T || b) (any_of_both fs gs T) ∙ or_assoc (has_fault_here f T) (any_here fs T) (any_here gs T)

-- all of them are those of the three lists
pub of_three : (T : AsnType) → any_fault_here T ≡ (any_here spelling_faults T || (any_here repeat_faults T || any_here value_faults T))
of_three T = any_of_both spelling_faults (repeat_faults ++ value_faults) T ∙ ap (λ b. any_here spelling_faults T || b) (any_of_both repeat_faults value_faults T)

-- where none of a list is anywhere, neither its first nor one of the others is
passed : (f : SchemaFault) (fs : List SchemaFault) (T : AsnType) → somewhere (any_here (f ∷ fs)) T ≡ false
    → (somewhere (has_fault_here f) T ≡ false) × (somewhere (any_here fs) T ≡ false)
passed f fs T e = (
  nowhere (has_fault_here f) (any_here (f ∷ fs)) (λ U h. left (has_fault_here f U) (any_here fs U) h) T e,
  nowhere (any_here fs) (any_here (f ∷ fs)) (λ U h. right (has_fault_here f U) (any_here fs U) h) T e,
)

pub past_spelling : (T : AsnType) → somewhere (any_here spelling_faults) T ≡ false → first_in T later_faults ≡ first_in T (repeat_faults ++ value_faults)
past_spelling T e =
    let p = passed BoundOrder (SizeOrder ∷ BadName ∷ []) T e in
    let q = passed SizeOrder (BadName ∷ []) T p.1 in
    rw (p.0, q.0, (passed BadName [] T q.1).0) refl

pub past_repeats : (T : AsnType) → somewhere (any_here repeat_faults) T ≡ false → first_in T (repeat_faults ++ value_faults) ≡ first_in T value_faults
past_repeats T e =
    let p = passed RepeatedName (NoItems ∷ RepeatedNumber ∷ RepeatedTag ∷ []) T e in
    let q = passed NoItems (RepeatedNumber ∷ RepeatedTag ∷ []) T p.1 in
    let r = passed RepeatedNumber (RepeatedTag ∷ []) T q.1 in
    rw (p.0, q.0, r.0, (passed RepeatedTag [] T r.1).0) refl

pub past_values : (T : AsnType) → somewhere (any_here value_faults) T ≡ false → first_in T value_faults ≡ None
past_values T e =
    let p = passed DefaultMisfit (EmptyElement ∷ []) T e in
    rw (p.0, (passed EmptyElement [] T p.1).0) refl

-- what is first of a list is first of a longer one
found_if : (b : Bool) (f g : SchemaFault) (o p : Option SchemaFault) → (o ≡ Some g → p ≡ Some g) → (if b then Some f else o) ≡ Some g → (if b then Some f else p) ≡ Some g
found_if true f g o p h e = e
found_if false f g o p h e = h e

pub found_before : (fs gs : List SchemaFault) (T : AsnType) (g : SchemaFault) → first_in T fs ≡ Some g → first_in T (fs ++ gs) ≡ Some g
found_before [] gs T g e = absurd (cc)
found_before (f ∷ fs) gs T g e = found_if (has_fault f T) f g (first_in T fs) (first_in T (fs ++ gs)) (found_before fs gs T g) e

-- where one of a list is somewhere, and not its first, one of the others is
other_somewhere : (f : SchemaFault) (fs : List SchemaFault) (T : AsnType) → somewhere (any_here (f ∷ fs)) T ≡ true
    → somewhere (has_fault_here f) T ≡ false → somewhere (any_here fs) T ≡ true
other_somewhere f fs T e d = by_test (somewhere (any_here fs) T) (one_more f fs T d) e
  where
    by_test : (b : Bool) → (b ≡ false → somewhere (any_here (f ∷ fs)) T ≡ false) → somewhere (any_here (f ∷ fs)) T ≡ true → b ≡ true
    by_test true h e = refl
    by_test false h e = absurd (true≢false (sym e ∙ h refl))

-- the one fault of a list that is somewhere
alone : (f : SchemaFault) (T : AsnType) → somewhere (any_here (f ∷ [])) T ≡ true → somewhere (has_fault_here f) T ≡ true
alone f T e = by_test (somewhere (has_fault_here f) T) (λ d. one_more f [] T d (none_nowhere T))
  where
    by_test : (b : Bool) → (b ≡ false → somewhere (any_here (f ∷ [])) T ≡ false) → b ≡ true
    by_test true h = refl
    by_test false h = absurd (true≢false (sym e ∙ h refl))

pub last_spelling : (T : AsnType) → somewhere (any_here spelling_faults) T ≡ true → somewhere (has_fault_here BoundOrder) T ≡ false
    → somewhere (has_fault_here SizeOrder) T ≡ false → first_in T spelling_faults ≡ Some BadName
last_spelling T e a b =
    let two = other_somewhere BoundOrder (SizeOrder ∷ BadName ∷ []) T e a in
    let one = other_somewhere SizeOrder (BadName ∷ []) T two b in
    rw (a, b, alone BadName T one) refl

pub last_repeat : (T : AsnType) → somewhere (any_here repeat_faults) T ≡ true → somewhere (has_fault_here RepeatedName) T ≡ false
    → somewhere (has_fault_here NoItems) T ≡ false → somewhere (has_fault_here RepeatedNumber) T ≡ false → first_in T repeat_faults ≡ Some RepeatedTag
last_repeat T e a b c =
    let three = other_somewhere RepeatedName (NoItems ∷ RepeatedNumber ∷ RepeatedTag ∷ []) T e a in
    let two = other_somewhere NoItems (RepeatedNumber ∷ RepeatedTag ∷ []) T three b in
    let one = other_somewhere RepeatedNumber (RepeatedTag ∷ []) T two c in
    rw (a, b, c, alone RepeatedTag T one) refl

pub last_value : (T : AsnType) → somewhere (any_here value_faults) T ≡ true → somewhere (has_fault_here DefaultMisfit) T ≡ false → first_in T value_faults ≡ Some EmptyElement
last_value T e a = rw (a, alone EmptyElement T (other_somewhere DefaultMisfit (EmptyElement ∷ []) T e a)) refl
