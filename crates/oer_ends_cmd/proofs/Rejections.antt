-- From an answer to how it is told.
use Rattle.std.proofs.Common.{◌∙◌, ℕ, List, Ok, Err, sym, ap, subst}
use Rattle.oer_model.specs.AsnType.{AsnType}
use Rattle.oer_cmd.specs.Expected.{Expected, Meets, refusal, unknown, value}
use Rattle.oer_cmd.specs.declared.fault.Fault.{Fault}
use Rattle.oer_ends_cmd.specs.Telling.{IsFaultTold, IsFaultToldBy, told, told_answer, told_by}
use Rattle.oer_ends_cmd.specs.declared.telling.Origin.{Origin}
use Rattle.oer_ends_cmd.specs.declared.telling.Origin.TheVariants.{Modules, Notation}

-- What is made is told as it is.
pub made_told : {X Y : Type 0} (view : X → Y) (T : AsnType) (limit : ℕ) (b : List ℕ) (expected : Expected Y) (x : X) → Meets view expected (Ok x)
    → Meets view (told_answer T limit b expected) (Ok x)
made_told view T limit b unknown x h = tt
made_told view T limit b (value y) x h = h
made_told view T limit b (refusal r) x h = absurd h

-- A fault is told as the answer is.
pub fault_told : {X Y : Type 0} (view : X → Y) (T : AsnType) (limit : ℕ) (b : List ℕ) (expected : Expected Y) (fault other : Fault)
    → IsFaultTold T limit b fault other → Meets {X = X} view expected (Err fault) → Meets {X = X} view (told_answer T limit b expected) (Err other)
fault_told view T limit b unknown fault other tells h = tt
fault_told view T limit b (value y) fault other tells h = λ small. h (tells.stays small)
fault_told view T limit b (refusal r) fault other tells h = λ small. tells.tells small ∙ ap (told T limit b) (h (tells.stays small))

-- ---- by where the type is from

pub made_by : {X Y : Type 0} (view : X → Y) (origin : Origin) (T : AsnType) (limit : ℕ) (b : List ℕ) (expected : Expected Y) (x : X)
    → Meets view expected (Ok x) → Meets view (told_by origin T limit b expected) (Ok x)
made_by view Notation T limit b expected x h = h
made_by view Modules T limit b expected x h = made_told view T limit b expected x h

pub lost_by : {X Y : Type 0} (view : X → Y) (origin : Origin) (T : AsnType) (limit : ℕ) (b : List ℕ) (expected : Expected Y) (fault other : Fault)
    → IsFaultToldBy origin T limit b fault other → Meets {X = X} view expected (Err fault) → Meets {X = X} view (told_by origin T limit b expected) (Err other)
lost_by {X} view Notation T limit b expected fault other same h = subst (λ (f : Fault). Meets {X = X} view expected (Err f)) (sym same) h
lost_by view Modules T limit b expected fault other tells h = fault_told view T limit b expected fault other tells h
