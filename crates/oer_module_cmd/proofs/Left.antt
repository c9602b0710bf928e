-- What the input may have left.
use Rattle.std.proofs.Common.{◌≡◌, List, ℕ, [], ◌++◌, false, Option, Some, None, Result, Ok, Err, IfSome, refl, sym, ap, ◌∙◌, arith}
use Rattle.std.specs.Io.KnownBytes.{Keeps}
use Rattle.oer_module_syntax.specs.declared.fault.Why.TheVariants as fault
use Rattle.oer_module_text.specs.declared.error.Why.TheVariants as raws
use Rattle.oer_module_values.specs.declared.error.Why.TheVariants as told
use Rattle.oer_modules.specs.Refusals.{Refusal, refusal_of}
use Rattle.oer_modules.specs.Schemas.{IsMemory, NoType, no_type_of}
use Rattle.oer_modules.specs.declared.refusal.Refusal.{Refusal as RawRefusal}
use Rattle.oer_modules.specs.declared.schema.NoType.{NoType as RawNoType}
use Rattle.oer_module_cmd.specs.Errors.{Gives, IsByNone, IsByRefusal, Read, error_of, status_of}
use Rattle.oer_module_cmd.specs.Input.{MayBeLeft, input_for, reads_input}
use Rattle.oer_module_cmd.specs.Given.{by_modules, by_types}
use Rattle.oer_module_cmd.specs.declared.error.Error.{Error as RawError}

-- what holds of all octets holds of some that may be left
pub for_any : (told : Option (List ℕ)) {P : List ℕ → Type 0} → ((xs : List ℕ) → P xs) → (xs : List ℕ) × MayBeLeft told xs × P xs
for_any None f = ([], tt, f [])
for_any (Some ys) f = (ys, refl, f ys)

-- what was read to the end
pub was_left : (told : Option (List ℕ)) (bs : List ℕ) → IfSome told (λ xs. bs ≡ [] ++ xs) → MayBeLeft told bs
was_left None bs h = tt
was_left (Some ys) bs h = sym h

-- A failure of the machine is always allowed.
pub fails : {X Y : Type 0} (view : X → Y) (plain : Read Y) (e : RawError) → status_of (error_of e) ≡ 3 → Gives view (Err e) plain
fails view plain e three = λ two. absurd (omega (three, two, arith))

-- A refusal of modules that isn't that an allocation failed is the one that the plain function gives.
pub refuses : {X Y : Type 0} (view : X → Y) (plain : Result Y Refusal) (r : RawRefusal) (e : RawError) → IsByRefusal r e
    → ((r.why ≡ raws.Unresolved (told.Unread fault.Memory) → ⊥) → plain ≡ Err (refusal_of r)) → Gives view (Err e) (by_modules plain)
refuses view plain r e by gives = λ two.
    let no : r.why ≡ raws.Unresolved (told.Unread fault.Memory) → ⊥ = λ m. absurd (omega (sym (ap (λ x. status_of (error_of x)) (by.memory m)) ∙ two, arith)) in
    ap by_modules (gives no) ∙ ap (λ x. Err (error_of x)) (sym (by.other no))

pub none_given : {X Y : Type 0} (view : X → Y) (plain : Result Y NoType) (n : RawNoType) (e : RawError) → IsByNone n e
    → ((IsMemory n → ⊥) → plain ≡ Err (no_type_of n)) → Gives view (Err e) (by_types plain)
none_given view plain n e by gives = λ two.
    let no : IsMemory n → ⊥ = λ m. absurd (omega (sym (ap (λ x. status_of (error_of x)) (by.memory m)) ∙ two, arith)) in
    ap by_types (gives no) ∙ ap (λ x. Err (error_of x)) (sym (by.other no))

-- no text is read
pub unread : (ts : List (List ℕ)) (xs t : List ℕ) → reads_input ts ≡ false → t ≡ [] → input_for ts xs ≡ Ok t
unread ts xs t unasked is = rw unasked (ap (λ x. let r : Read (List ℕ) = Ok x in r) (sym is))

-- nothing was written
pub kept : (a : Option (List ℕ)) → Keeps a a
kept None = tt
kept (Some x) = refl
