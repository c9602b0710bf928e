-- What a text that was read spells.
use Rattle.std.proofs.Common.{◌≡◌, ℕ, List, Option, Some, None, Result, Ok, Err, IfErr, IfOk, MatchOption, option_map, sym}
use Rattle.oer_model.specs.AsnType.{AsnType}
use Rattle.oer_notation.specs.Grammar.{IsDefined, IsNew, Spells, SpellsAll}
use Rattle.oer_notation.specs.Laws.{ParseAllRefuses, ParseAllSound, ParseRefuses, ParseSound}
use Rattle.oer_notation.specs.Parsing.{parse, parse_all}
use Rattle.oer_notation.specs.Reading.{Known, find}
use Rattle.oer_notation.specs.Refusing.{AreNoTypes, IsNoType}
use Rattle.oer_value_notation.specs.State.{IsReading}
use Rattle.oer_value_notation.specs.declared.fault.TextFault.{TextFault}
use Rattle.oer_notation.proofs.WordTable.{find_none, find_sound}

pub spells_one : {A : Type 0} → ParseSound → (view : A → AsnType) (bs : List ℕ) (result : Result A TextFault) → IsReading view result (parse bs) → IfOk result (λ x. Spells (view x) bs)
spells_one law view bs (Ok x) h = (law bs (view x) h).0
spells_one law view bs (Err e) h = tt

pub spells_all : {A : Type 0} → ParseAllSound → (view : A → List Known) (bs : List ℕ) (result : Result A TextFault) → IsReading view result (parse_all bs) → IfOk result (λ x. SpellsAll (view x) bs)
spells_all law view bs (Ok x) h = (law bs (view x) h).0
spells_all law view bs (Err e) h = tt

pub defined : {A : Type 0} (view : A → AsnType) (ks : List Known) (w : List ℕ) (result : Option A) → option_map view result ≡ find ks w → MatchOption result (IsNew w ks) (λ x. IsDefined w (view x) ks)
defined view ks w None h = find_none ks w (sym h)
defined view ks w (Some x) h = find_sound ks w (view x) (sym h)

pub refuses_one : {A : Type 0} → ParseRefuses → (view : A → AsnType) (bs : List ℕ) (result : Result A TextFault) → IsReading view result (parse bs) → IfErr result (λ e. IsNoType e bs)
refuses_one law view bs (Ok x) h = tt
refuses_one law view bs (Err e) h = λ m T s w. law bs e (h m) T s w

pub refuses_all : {A : Type 0} → ParseAllRefuses → (view : A → List Known) (bs : List ℕ) (result : Result A TextFault) → IsReading view result (parse_all bs) → IfErr result (λ e. AreNoTypes e bs)
refuses_all law view bs (Ok x) h = tt
refuses_all law view bs (Err e) h = λ m ks s w. law bs e (h m) ks s w
