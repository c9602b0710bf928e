-- Steps that are refused by a test.
use Rattle.std.proofs.Common.{◌≡◌, ◌≢◌, Bool, true, false, Result, Ok, Err, refl, sym, ◌∙◌, subst}
use Rattle.oer_units.specs.declared.fault.Why.{Why}
use Rattle.oer_units.specs.declared.fault.Why.TheVariants.{BitUnused, Character, Device, IntegerRange, PreamblePadding, Size, UnknownAddition, UnknownAlternative, UnknownEnum}
use Rattle.oer_units.specs.declared.fault.ReadFault.{ReadFault}
use Rattle.oer_units.specs.Reader.{Reader, guard, named_inside}
use Rattle.oer_units.specs.Reads.{named, Reads, seen, State}
use Rattle.oer_units.proofs.ReadSteps.{Reads-refused}

-- a reason that has the same name inside an open type, other than a failing reader
pub record IsPlain (why : Why) : Type 0 where
  pub name : (i : Bool) → named i why ≡ why
  pub other : why ≢ Device

pub plain : (why : Why) → named_inside why ≡ why → why ≢ Device → IsPlain why
plain why same other = record { name = name; other = other } where
  name : (i : Bool) → named i why ≡ why
  name true = same
  name false = refl

pub guard_no : {A : Type 0} (c : Bool) (why : Why) (r : Reader A) (s : State) (e : ReadFault) → c ≡ false → IsPlain why → e.why ≡ why → e.taken ≡ s.bound.taken → Reads (guard c why r) s (Err e) s
guard_no {A} c why r s e is plain same taken = rw is (Reads-refused A why e s (λ d. plain.other (sym same ∙ d)) (plain.name s.bound.inside ∙ sym same) taken)

pub guard_yes : {A : Type 0} (c : Bool) (why : Why) (r : Reader A) (s s' : State) (result : Result A ReadFault) → c ≡ true → Reads r s result s' → Reads (guard c why r) s result s'
guard_yes c why r s s' result is h = rw is h

pub bits_plain : IsPlain BitUnused
bits_plain = plain BitUnused refl (λ d. cc)

pub character_plain : IsPlain Character
character_plain = plain Character refl (λ d. cc)

pub range_plain : IsPlain IntegerRange
range_plain = plain IntegerRange refl (λ d. cc)

pub padding_plain : IsPlain PreamblePadding
padding_plain = plain PreamblePadding refl (λ d. cc)

pub size_plain : IsPlain Size
size_plain = plain Size refl (λ d. cc)

pub addition_plain : IsPlain UnknownAddition
addition_plain = plain UnknownAddition refl (λ d. cc)

pub alternative_plain : IsPlain UnknownAlternative
alternative_plain = plain UnknownAlternative refl (λ d. cc)

pub enum_plain : IsPlain UnknownEnum
enum_plain = plain UnknownEnum refl (λ d. cc)

-- seen twice, as it is seen by one that does both
pub seen_twice : {A B D : Type 0} (join : A → B) (f : B → D) (g : A → D) (whole : Reader D) (old then : State) (result : Result A ReadFault) → ((x : A) → f (join x) ≡ g x) → Reads whole old (seen f (seen join result)) then → Reads whole old (seen g result) then
seen_twice {A} {B} {D} join f g whole old then (Ok x) same h = subst (λ (y : D). Reads whole old (Ok y) then) (same x) h
seen_twice join f g whole old then (Err e) same h = h
