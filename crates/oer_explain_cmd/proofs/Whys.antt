-- Why octets are rejected as they are read.
use Rattle.std.proofs.Common.{◌≡◌, ◌∙◌, ◌≢◌, ℕ, ◌-◌, List, true, false, Option, Some, None, Ok, Err, ap, arith, refl, subst, sym}
use Rattle.oer_units.specs.declared.fault.ReadFault.{ReadFault}
use Rattle.oer_units.specs.declared.fault.Why.{Why}
use Rattle.oer_units.specs.declared.fault.Why.TheVariants.{Device, Memory}
use Rattle.oer_units.specs.Reader.{Outcome, at, got, refused}
use Rattle.oer_units.specs.Reads.{ReadsFront, renamed}
use Rattle.oer_model.specs.AsnType.{AsnType}
use Rattle.oer_model.specs.AsnValue.{AsnValue}
use Rattle.oer_model.specs.Reading.{read_value}
use Rattle.oer_explain.specs.Octets.{why_in}
use Rattle.oer_explain_cmd.specs.Told.{is_machine, read_why}

plain : {A : Type 0} (o : Outcome A) → renamed false o ≡ o
plain (got x q) = refl
plain (refused why rest) = refl

-- what the plain reader makes of the octets
at_start : (T : AsnType) (limit : ℕ) (xs : List ℕ) → read_value T (at xs limit) ≡ renamed false (read_value T (at xs (limit - 0)))
at_start T limit xs = ap (λ (n : ℕ). read_value T (at xs n)) (omega arith) ∙ sym (plain (read_value T (at xs (limit - 0))))

pub read_got : (T : AsnType) (limit failed failed' : ℕ) (known known' : Option (List ℕ)) (v : AsnValue) (b : List ℕ)
    → ReadsFront (read_value T) limit known failed (Ok v) known' failed' → known ≡ Some b → None ≡ read_why limit T b
read_got T limit failed failed' None known' v b h is = absurd (cc)
read_got T limit failed failed' (Some xs) None v b h is = absurd h.reads.exact
read_got T limit failed failed' (Some xs) (Some ys) v b h is =
    let same : xs ≡ b = cc in
    subst (λ (l : List ℕ). None ≡ read_why limit T l) same (sym (ap why_in (at_start T limit xs ∙ h.reads.exact)))

not_machine : (why other : Why) → is_machine why ≡ false → is_machine other ≡ true → why ≢ other
not_machine why other off on e = absurd (let clash : true ≡ false = sym on ∙ sym (ap is_machine e) ∙ off in cc)

pub read_refused : (T : AsnType) (limit failed failed' : ℕ) (known known' : Option (List ℕ)) (e : ReadFault) (b : List ℕ)
    → ReadsFront (read_value T) limit known failed (Err e) known' failed' → known ≡ Some b → is_machine e.why ≡ false → Some e.why ≡ read_why limit T b
read_refused T limit failed failed' None known' e b h is off = absurd (cc)
read_refused T limit failed failed' (Some xs) None e b h is off = absurd h.reads.exact
read_refused T limit failed failed' (Some xs) (Some ys) e b h is off =
    let same : xs ≡ b = cc in
    subst (λ (l : List ℕ). Some e.why ≡ read_why limit T l) same
    (sym (ap why_in (at_start T limit xs ∙ h.reads.exact (not_machine e.why Device off refl) (not_machine e.why Memory off refl))))
