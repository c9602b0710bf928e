-- Parts of octets that are all of one encoding.
use Rattle.std.proofs.Common.{◌≡◌, ℕ, List, [], ◌++◌, Option, Some, Ok, Err, subst, sym, append-nil}
use Rattle.oer_model.specs.AsnType.{AsnType}
use Rattle.oer_model.specs.Parts.{Step, Within}
use Rattle.oer_parts.specs.Encoding.{octets_in, type_of_encoding}
use Rattle.oer_parts.specs.Handing.{Follows, Hands}
use Rattle.oer_parts.specs.declared.encoding.Encoding.{Encoding}
use Rattle.oer_parts.specs.declared.fault.PartFault.{PartFault}
use Rattle.std.specs.Borrow.{Bor}
use Rattle.oer_example.specs.Renewed.{IsEncoding, IsNoFront, IsPart}
use Rattle.oer_example.proofs.Values.{front_is_whole}

-- what holds of the encoding's type and octets holds of those that were given
pub of_given : (P : AsnType → List ℕ → Type 0) (found : Encoding) (T : AsnType) (octets : List ℕ) → type_of_encoding found ≡ T → octets_in found ≡ octets → P (type_of_encoding found) (octets_in found) → P T octets
of_given P found T octets kind same h = subst (λ (xs : List ℕ). P T xs) same (subst (λ (U : AsnType). P U (octets_in found)) kind h)

-- What is handed out is the part,
pub is_part : {A : Type 0} (f : A → List ℕ) (T : AsnType) (octets : List ℕ) (path : List Step) (s : A) → Hands f T octets path (Ok s) → IsNoFront T octets → IsPart T octets path (f s)
is_part f T octets path s told only =
    let whole : told.0 ≡ octets = front_is_whole octets told.0 told.1 told.2 (only told.3.0 told.0 told.1 told.2 told.3.1) in
    (told.4.0, subst (λ (l : List ℕ). Within (Some T) l path told.4.0 (f s)) whole told.4.1)

-- and there is no other.
pub one_part : {A : Type 0} (f : A → List ℕ) (T : AsnType) (octets : List ℕ) (path : List Step) (r : A) → Follows f T octets path (Ok r) → IsEncoding T octets → (s : List ℕ) → IsPart T octets path s → f r ≡ s
one_part f T octets path r comes all s part = (comes all.0 octets [] (sym (append-nil octets)) all.1).0 part.0 s part.1

-- Where none is handed out there is none.
pub no_part : {A : Type 0} (f : A → List ℕ) (T : AsnType) (octets : List ℕ) (path : List Step) (e : PartFault) → Follows f T octets path (Err e) → (s : List ℕ) → IsEncoding T octets → IsPart T octets path s → ⊥
no_part f T octets path e comes s all part = (comes all.0 octets [] (sym (append-nil octets)) all.1).0 part.0 s part.1
