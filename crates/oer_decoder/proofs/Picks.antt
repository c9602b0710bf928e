-- Alternatives of a CHOICE: the one that has the tag.
use Rattle.std.proofs.Common.{◌≡◌, Bool, true, false, ◌||◌, List, [], ◌∷◌, if◌then◌else◌, Option, Some, None, Result, Ok, Err, refl, sym, subst, Vec, Global}
use Rattle.oer_units.specs.declared.fault.Why.TheVariants.{Memory, UnknownAlternative}
use Rattle.oer_units.specs.declared.fault.ReadFault.{ReadFault}
use Rattle.oer_units.specs.declared.tagging.Tag.{Tag}
use Rattle.oer_units.specs.Reader.{choose, give, guard, Reader}
use Rattle.oer_units.specs.Reading.{open_type, tag}
use Rattle.oer_units.specs.Reads.{Reads, State}
use Rattle.oer_units.proofs.ReadSteps.{Reads-map, Reads-memory, Reads-stop, Reads-then}
use Rattle.oer_model.specs.AsnType.{Alternatives, AsnType, choice, no_alternatives}
use Rattle.oer_model.specs.AsnValue.{AsnValue, chosen}
use Rattle.oer_model.specs.Constraints.{same_tag, has_tag}
use Rattle.oer_model.specs.Reading.{read_alternative, read_by_tag, read_choice, read_value}
use Rattle.oer_values.specs.Lookup.{first_with}
use Rattle.oer_values.specs.ShapeView.{choice_with, later_of, root_of, type_of}
use Rattle.oer_values.specs.declared.shape.Alt.{Alt}
use Rattle.oer_decoder.specs.Choices.{by_tag, chosen_by, foreign_at, later_at}
use Rattle.oer_decoder.proofs.Joins.{alternative_plain, guard_no}

-- ---- the first alternative that has the tag is the one that is read

-- its value, which f reads, or else what r reads
abbrev first_or : Tag → (AsnType → Reader AsnValue) → Reader AsnValue → Option Alt → Reader AsnValue
first_or t f r None = r
first_or t f r (Some a) = chosen_by t (f (type_of a.shape))

step : (b c : Bool) (t : Tag) (f : AsnType → Reader AsnValue) (a : Alt) (rest other r : Reader AsnValue) (p : Option Alt)
    → choose c (chosen_by t rest) other ≡ first_or t f r p
    → choose (b || c) (chosen_by t (read_by_tag b (f (type_of a.shape)) rest)) other ≡ first_or t f r (if b then Some a else p)
step true c t f a rest other r p e = refl
step false c t f a rest other r p e = e

root_first : (xs : List Alt) (after : Alternatives) (t : Tag) (r : Reader AsnValue) → by_tag (root_of xs after) t r ≡ first_or t read_value (by_tag after t r) (first_with t xs)
root_first [] after t r = refl
root_first (a ∷ xs) after t r =
    step (same_tag a.tag t) (has_tag t (root_of xs after)) t read_value a (read_alternative (root_of xs after) t) r (by_tag after t r) (first_with t xs) (root_first xs after t r)

later_first : (xs : List Alt) (t : Tag) (r : Reader AsnValue) → by_tag (later_of xs) t r ≡ first_or t (λ T. open_type (read_value T)) r (first_with t xs)
later_first [] t r = refl
later_first (a ∷ xs) t r =
    step (same_tag a.tag t) (has_tag t (later_of xs)) t (λ T. open_type (read_value T)) a (read_alternative (later_of xs) t) r r (first_with t xs) (later_first xs t r)

-- ---- the tag, and what follows it

-- what is left to do without an alternative
abbrev others : Bool → Tag → Reader AsnValue
others extensible t = guard extensible UnknownAlternative (foreign_at t)

pub choice_stop : (extensible : Bool) (xs : List Alt) (after : Alternatives) (s s' : State) (e : ReadFault) → Reads tag s (Err e) s' → Reads (read_value (choice extensible (root_of xs after))) s (Err e) s'
unfolding read_choice
choice_stop extensible xs after s s' e h = Reads-stop tag (λ t. by_tag (root_of xs after) t (others extensible t)) s s' e h

choice_then : (extensible : Bool) (xs : List Alt) (after : Alternatives) (s s' s'' : State) (t : Tag) (result : Result AsnValue ReadFault)
    → Reads tag s (Ok t) s' → Reads (first_or t read_value (by_tag after t (others extensible t)) (first_with t xs)) s' result s'' → Reads (read_value (choice extensible (root_of xs after))) s result s''
unfolding read_choice
choice_then extensible xs after s s' s'' t result h k =
    Reads-then tag (λ u. by_tag (root_of xs after) u (others extensible u)) s s' s'' t result h (subst (λ (r : Reader AsnValue). Reads r s' result s'') (sym (root_first xs after t (others extensible t))) k)

pub choice_found : (extensible : Bool) (xs : List Alt) (after : Alternatives) (s s' s'' : State) (t : Tag) (a : Alt) (result : Result AsnValue ReadFault) → Reads tag s (Ok t) s'
    → Some a ≡ first_with t xs → Reads (chosen_by t (read_value (type_of a.shape))) s' result s'' → Reads (read_value (choice extensible (root_of xs after))) s result s''
choice_found extensible xs after s s' s'' t a result h is k =
    choice_then extensible xs after s s' s'' t result h (subst (λ (p : Option Alt). Reads (first_or t read_value (by_tag after t (others extensible t)) p) s' result s'') is k)

pub choice_later : (xs more : List Alt) (s s' s'' : State) (t : Tag) (result : Result AsnValue ReadFault) → Reads tag s (Ok t) s'
    → None ≡ first_with t xs → Reads (later_at (later_of more) t) s' result s'' → Reads (read_value (choice true (root_of xs (later_of more)))) s result s''
choice_later xs more s s' s'' t result h none k =
    choice_then true xs (later_of more) s s' s'' t result h (subst (λ (p : Option Alt). Reads (first_or t read_value (by_tag (later_of more) t (others true t)) p) s' result s'') none k)

pub choice_none : (xs : List Alt) (s s' : State) (t : Tag) (e : ReadFault) → Reads tag s (Ok t) s'
    → None ≡ first_with t xs → e.why ≡ UnknownAlternative → e.taken ≡ s'.bound.taken → Reads (read_value (choice false (root_of xs no_alternatives))) s (Err e) s'
choice_none xs s s' t e h none why taken =
    let last = guard_no false UnknownAlternative (foreign_at t) s' e refl alternative_plain why taken in
    choice_then false xs no_alternatives s s' s' t (Err e) h (subst (λ (p : Option Alt). Reads (first_or t read_value (by_tag no_alternatives t (others false t)) p) s' (Err e) s') none last)

-- ---- later alternatives, and unknown ones

later_as : (more : List Alt) (t : Tag) (s s' : State) (p : Option Alt) (result : Result AsnValue ReadFault) → p ≡ first_with t more
    → Reads (first_or t (λ T. open_type (read_value T)) (foreign_at t) p) s result s' → Reads (later_at (later_of more) t) s result s'
later_as more t s s' p result is k =
    subst (λ (r : Reader AsnValue). Reads r s result s') (sym (later_first more t (foreign_at t)))
    (subst (λ (q : Option Alt). Reads (first_or t (λ T. open_type (read_value T)) (foreign_at t) q) s result s') is k)

pub later_found : (more : List Alt) (t : Tag) (s s' : State) (a : Alt) (result : Result AsnValue ReadFault) → Some a ≡ first_with t more
    → Reads (chosen_by t (open_type (read_value (type_of a.shape)))) s result s' → Reads (later_at (later_of more) t) s result s'
later_found more t s s' a result is k = later_as more t s s' (Some a) result is k

pub later_foreign : (more : List Alt) (t : Tag) (s s' : State) (result : Result AsnValue ReadFault) → None ≡ first_with t more
    → Reads (foreign_at t) s result s' → Reads (later_at (later_of more) t) s result s'
later_foreign more t s s' result none k = later_as more t s s' None result none k

-- ---- the value of the alternative, refused or got; r reads it

pub chosen_stop : (t : Tag) (r : Reader AsnValue) (s s' : State) (e : ReadFault) → Reads r s (Err e) s' → Reads (chosen_by t r) s (Err e) s'
chosen_stop t r s s' e h = Reads-stop r (λ v. give (chosen t v)) s s' e h

pub chosen_then : (t : Tag) (r : Reader AsnValue) (s s' : State) (v : AsnValue) → Reads r s (Ok v) s' → Reads (chosen_by t r) s (Ok (chosen t v)) s'
chosen_then t r s s' v h = Reads-map r (chosen t) s s' (Ok v) h

-- no memory for the value of the alternative
pub chosen_memory : (t : Tag) (r : Reader AsnValue) (s : State) (e : ReadFault) → e.why ≡ Memory → e.taken ≡ s.bound.taken → Reads (chosen_by t r) s (Err e) s
chosen_memory t r s e is taken = Reads-memory (chosen_by t r) e s is taken

-- ---- whether there is an extension marker, and what is after it

abbrev pub has_marker : Option (Vec Alt Global) → Bool
has_marker None = false
has_marker (Some v) = true

abbrev pub more_of : Option (Vec Alt Global) → List Alt
more_of None = []
more_of (Some v) = v.items

pub choice_with-is : (xs : List Alt) (o : Option (Vec Alt Global)) → choice_with xs o ≡ choice (has_marker o) (root_of xs (later_of (more_of o)))
choice_with-is xs None = refl
choice_with-is xs (Some v) = refl
