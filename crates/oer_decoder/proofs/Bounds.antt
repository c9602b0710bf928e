-- Numbers, compared with bounds after they are read.
use Rattle.std.proofs.Common.{◌≡◌, ℕ, ℤ, pos, Bool, true, false, ◌||◌, List, Option, Result, Ok, Err, subst}
use Rattle.oer_units.specs.declared.fault.Why.TheVariants.{IntegerRange, UnknownEnum}
use Rattle.oer_units.specs.declared.fault.ReadFault.{ReadFault}
use Rattle.oer_units.specs.declared.width.Width.{Width}
use Rattle.oer_units.specs.Fixed.{group_as, signed_fixed_at, unsigned_fixed_at}
use Rattle.oer_units.specs.Numbers.{natural, signed, unsigned}
use Rattle.oer_units.specs.Reader.{bind, give, guard, Reader}
use Rattle.oer_units.specs.Reading as unit
use Rattle.oer_units.specs.Reads.{place, Reads, seen, State}
use Rattle.oer_units.specs.Width.{octets_of_width}
use Rattle.oer_units.proofs.ReadSteps.{Reads-give, Reads-map, Reads-same, Reads-stop, Reads-then}
use Rattle.oer_model.specs.AsnType.{NamedNumber, enumerated, integer}
use Rattle.oer_model.specs.AsnValue.{AsnValue, enum, int}
use Rattle.oer_model.specs.Constraints.{Form, form_of, has_number, in_range}
use Rattle.oer_model.specs.Reading.{read_integer, read_value}
use Rattle.oer_model.specs.SharedSteps.{number_in}
use Rattle.oer_model.proofs.fitting.NumberSteps.{integer_is, naturals_is, tested, wide}
use Rattle.oer_decoder.proofs.Joins.{enum_plain, guard_no, guard_yes, range_plain}

naturals : (w : Width) (s s' : State) (result : Result ℕ ReadFault) → Reads (group_as (octets_of_width w) unsigned) s result s' → Reads (group_as (octets_of_width w) natural) s (seen pos result) s'
naturals w s s' result h = Reads-same (bind (group_as (octets_of_width w) unsigned) (λ x. give (pos x))) (group_as (octets_of_width w) natural) s s' (seen pos result) (λ xs. naturals_is (octets_of_width w) (place xs s.bound)) (Reads-map (group_as (octets_of_width w) unsigned) pos s s' result h)

pub unsigned_stop : (w : Width) (s s' : State) (e : ReadFault) → Reads (unsigned_fixed_at w) s (Err e) s' → Reads (group_as (octets_of_width w) natural) s (Err e) s'
unfolding unsigned_fixed_at
unsigned_stop w s s' e h = naturals w s s' (Err e) h

pub unsigned_got : (w : Width) (s s' : State) (n : ℕ) → Reads (unsigned_fixed_at w) s (Ok n) s' → Reads (group_as (octets_of_width w) natural) s (Ok (pos n)) s'
unfolding unsigned_fixed_at
unsigned_got w s s' n h = naturals w s s' (Ok n) h

pub signed_any : (w : Width) (s s' : State) (result : Result ℤ ReadFault) → Reads (signed_fixed_at w) s result s' → Reads (group_as (octets_of_width w) signed) s result s'
unfolding signed_fixed_at
signed_any w s s' result h = h

-- ---- within the bounds

abbrev checked : Option ℤ → Option ℤ → Form → Reader ℤ
checked low high form = bind (number_in form) (tested (in_range low high))

integer_by : (low high : Option ℤ) (form : Form) (s s' : State) (result : Result ℤ ReadFault) → form ≡ form_of low high → Reads (checked low high form) s result s' → Reads (read_value (integer low high)) s (seen int result) s'
integer_by low high form s s' result is h =
    let here : Reads (checked low high (form_of low high)) s result s' = subst (λ (f : Form). Reads (checked low high f) s result s') is h in
    Reads-map (read_integer (form_of low high) (in_range low high)) int s s' result
    (Reads-same (checked low high (form_of low high)) (read_integer (form_of low high) (in_range low high)) s s' result (λ xs. integer_is (form_of low high) (in_range low high) (place xs s.bound) (wide low high)) here)

pub integer_stop : (low high : Option ℤ) (form : Form) (s s' : State) (e : ReadFault) → form ≡ form_of low high → Reads (number_in form) s (Err e) s' → Reads (read_value (integer low high)) s (Err e) s'
integer_stop low high form s s' e is h = integer_by low high form s s' (Err e) is (Reads-stop (number_in form) (tested (in_range low high)) s s' e h)

pub integer_out : (low high : Option ℤ) (form : Form) (s s' : State) (z : ℤ) (e : ReadFault) → form ≡ form_of low high → Reads (number_in form) s (Ok z) s' → in_range low high z ≡ false → e.why ≡ IntegerRange → e.taken ≡ s'.bound.taken → Reads (read_value (integer low high)) s (Err e) s'
integer_out low high form s s' z e is h out why taken = integer_by low high form s s' (Err e) is (Reads-then (number_in form) (tested (in_range low high)) s s' s' z (Err e) h (guard_no (in_range low high z) IntegerRange (give z) s' e out range_plain why taken))

pub integer_got : (low high : Option ℤ) (form : Form) (s s' : State) (z : ℤ) → form ≡ form_of low high → Reads (number_in form) s (Ok z) s' → in_range low high z ≡ true → Reads (read_value (integer low high)) s (Ok (int z)) s'
integer_got low high form s s' z is h within_is = integer_by low high form s s' (Ok z) is (Reads-then (number_in form) (tested (in_range low high)) s s' s' z (Ok z) h (guard_yes (in_range low high z) IntegerRange (give z) s' s' (Ok z) within_is (Reads-give z s')))

-- ---- enumerations

abbrev listed_only : List NamedNumber → Bool → ℤ → Reader AsnValue
listed_only numbers extensible z = guard (extensible || has_number numbers z) UnknownEnum (give (enum z))

pub enumerated_stop : (numbers : List NamedNumber) (extensible : Bool) (s s' : State) (e : ReadFault) → Reads unit.enumerated s (Err e) s' → Reads (read_value (enumerated numbers extensible)) s (Err e) s'
enumerated_stop numbers extensible s s' e h = Reads-stop unit.enumerated (listed_only numbers extensible) s s' e h

pub enumerated_out : (numbers : List NamedNumber) (extensible : Bool) (s s' : State) (z : ℤ) (e : ReadFault) → Reads unit.enumerated s (Ok z) s' → (extensible || has_number numbers z) ≡ false → e.why ≡ UnknownEnum → e.taken ≡ s'.bound.taken → Reads (read_value (enumerated numbers extensible)) s (Err e) s'
enumerated_out numbers extensible s s' z e h out why taken = Reads-then unit.enumerated (listed_only numbers extensible) s s' s' z (Err e) h (guard_no (extensible || has_number numbers z) UnknownEnum (give (enum z)) s' e out enum_plain why taken)

pub enumerated_got : (numbers : List NamedNumber) (extensible : Bool) (s s' : State) (z : ℤ) → Reads unit.enumerated s (Ok z) s' → (extensible || has_number numbers z) ≡ true → Reads (read_value (enumerated numbers extensible)) s (Ok (enum z)) s'
enumerated_got numbers extensible s s' z h listed = Reads-then unit.enumerated (listed_only numbers extensible) s s' s' z (Ok (enum z)) h (guard_yes (extensible || has_number numbers z) UnknownEnum (give (enum z)) s' s' (Ok (enum z)) listed (Reads-give (enum z) s'))
