-- A text is read as the octets that it spells, and as no others.
use Rattle.std.proofs.Common.{◌≡◌, ℕ, List, false, Ok, Err, Result, Vec, Global, IfOk, IfErr}
use Rattle.oer_input.specs.Faults.{Gives, is_memory}
use Rattle.oer_input.specs.Octets.{Spells, octets_of}
use Rattle.oer_input.specs.declared.coding.Coding.{Coding}
use Rattle.oer_input.specs.declared.coding.Coding.TheVariants as coding
use Rattle.oer_input.specs.declared.fault.Fault.{Fault}
use Rattle.oer_input.proofs.HexComplete.{hex_complete}
use Rattle.oer_input.proofs.HexSound.{hex_sound}
use Rattle.oer_input.proofs.Base64Complete.{base64_complete}
use Rattle.oer_input.proofs.Base64Sound.{base64_sound}

sound : (k : Coding) (t os : List ℕ) → octets_of k t ≡ Ok os → Spells k t os
sound coding.Raw t os e = cc
sound coding.Hex t os e = hex_sound t os e
sound coding.Base64 t os e = base64_sound t os e

complete : (k : Coding) (t os : List ℕ) → Spells k t os → octets_of k t ≡ Ok os
complete coding.Raw t os d = cc
complete coding.Hex t os d = hex_complete t os d
complete coding.Base64 t os d = base64_complete t os d

pub sounds : (k : Coding) (t : List ℕ) (r : Result (Vec ℕ Global) Fault) → Gives r (octets_of k t) → IfOk r (λ octets. Spells k t octets.items)
sounds k t (Ok v) h = sound k t v.items h
sounds k t (Err fault) h = tt

pub rejected : (k : Coding) (t : List ℕ) (r : Result (Vec ℕ Global) Fault) → Gives r (octets_of k t)
    → IfErr r (λ fault. is_memory fault ≡ false → (os : List ℕ) → Spells k t os → ⊥)
rejected k t (Ok v) h = tt
rejected k t (Err fault) h = λ machine os d. let e = h machine in let f = complete k t os d in cc
