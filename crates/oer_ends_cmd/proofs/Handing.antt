-- Octets in hand: those of `--hex`, else those that the input had.
use Rattle.std.proofs.Common.{Result, ◌≡◌, ◌≢◌, ℕ, List, Option, Some, None, Ok, Err, Vec, String, Global, option_map, refl, sym, ap, subst}
use Rattle.std.specs.Prelude.{IfOk, IfSome}
use Rattle.std.specs.Borrow.{Bor}
use Rattle.clap.specs.Words.{Text}
use Rattle.oer_model.specs.AsnType.{AsnType}
use Rattle.oer_model.specs.Parts.{Step}
use Rattle.oer_options.specs.Words.{Kind, kind, path_text, show, source_text}
use Rattle.oer_options.specs.declared.options.Task.{Task}
use Rattle.oer_options.specs.declared.options.Task.TheVariants.{Make}
use Rattle.oer_cmd.proofs.Meeting.{bytes}
use Rattle.oer_cmd.specs.Answer.{digits_octets, hex_octets, limited_octets}
use Rattle.oer_cmd.specs.Expected.{Expected, Meets, refusal, unknown, value, ◌>>=◌}
use Rattle.oer_cmd.specs.Octets.{AreSpelt, octets_of}
use Rattle.oer_cmd.specs.Run.{IsLineBy, IsLineOf}
use Rattle.oer_cmd.specs.declared.fault.Fault.{Fault}
use Rattle.oer_ends_cmd.specs.Telling.{answer_in_hand, nested_answer, octets_in_hand}

-- The task is not `make`, which has no octets.
abbrev pub HasOctets : Task → Type 0
HasOctets task = (json : Option (Bor Text)) → task ≡ Make json → ⊥

nested_of : (T : AsnType) (task : Task) (limit : ℕ) (path : Expected (List Step)) (had : Option (List ℕ)) (source : Option Text) → source ≡ source_text task
    → HasOctets task → answer_in_hand task T limit path (octets_in_hand source limit had) ≡ nested_answer task T limit path had
nested_of T (Make json) limit path had source same has = absurd (has json refl)
nested_of T task limit path had source same has = ap (λ o. answer_in_hand task T limit path (octets_in_hand o limit had)) same

-- What is made of the octets in hand is the answer.
pub nested_by : (T : AsnType) (task : Task) (limit : ℕ) (path : Expected (List Step)) (had : Option (List ℕ)) (source : Option Text)
    (result : Result (String Global) Fault) → source ≡ source_text task → HasOctets task
    → Meets bytes (answer_in_hand task T limit path (octets_in_hand source limit had)) result → Meets bytes (nested_answer task T limit path had) result
nested_by T task limit path had source result same has h = subst (λ o. Meets bytes o result) (nested_of T task limit path had source same has) h

-- ---- the octets of `--hex`

spelt_by : (m : Expected (List ℕ)) (octets : Vec ℕ Global) → Meets (option_map octets_of) (m >>= λ b. value (Some b)) (Ok (Some octets)) → Meets octets_of m (Ok octets)
spelt_by unknown octets h = tt
spelt_by (value b) octets h = let e : Some octets.items ≡ Some b = h in cc
spelt_by (refusal r) octets h = absurd h

-- The digits are spelt.
pub spelt_in_hand : (limit : ℕ) (had : Option (List ℕ)) (source : Option Text) (spelt : Option (Vec ℕ Global)) (octets : Vec ℕ Global) → spelt ≡ Some octets
    → Meets (option_map octets_of) (hex_octets source) (Ok spelt) → Meets octets_of (octets_in_hand source limit had) (Ok octets)
spelt_in_hand limit had None spelt octets some h =
    let e : option_map octets_of spelt ≡ None = h in let f = ap (option_map octets_of) some in absurd (cc)
spelt_in_hand limit had (Some digits) spelt octets some h =
    spelt_by (digits_octets digits) octets (subst (λ o. Meets (option_map octets_of) (digits_octets digits >>= λ b. value (Some b)) (Ok o)) some h)

-- There are none.
pub none_in_hand : {A : Type 0} (f : Expected (List ℕ) → A) (P : A → Type 0) (limit : ℕ) (had : Option (List ℕ)) (source : Option Text) (spelt : Option (Vec ℕ Global)) → spelt ≡ None
    → AreSpelt source (option_map octets_of spelt) → P (f (limited_octets limit None had)) → P (f (octets_in_hand source limit had))
none_in_hand f P limit had None spelt none spells h = h
none_in_hand f P limit had (Some digits) spelt none spells h = absurd (subst (λ o. AreSpelt (Some digits) (option_map octets_of o)) none spells)

-- ---- the line

-- What is given by the words doesn't depend on the input.
line_by : (k : Kind) (source path : Option Text) (octets : Vec ℕ Global) (spelt : Option (Vec ℕ Global)) (a b : Option (List ℕ)) (T : AsnType) (limit : ℕ) (line : Text)
    → spelt ≡ Some octets → AreSpelt source (option_map octets_of spelt) → IsLineBy k source path a T limit line → IsLineBy k source path b T limit line
line_by k None path octets spelt a b T limit line some spells h = absurd (subst (λ o. AreSpelt None (option_map octets_of o)) some spells)
line_by (show style) (Some digits) path octets spelt a b T limit line some spells h = h
line_by _ (Some digits) path octets spelt a b T limit line some spells h = h

pub spelt_line : (task : Task) (source : Option Text) (octets : Vec ℕ Global) (spelt : Option (Vec ℕ Global)) (a b : Option (List ℕ)) (T : AsnType) (limit : ℕ)
    (result : Result (String Global) Fault) → source ≡ source_text task → spelt ≡ Some octets → AreSpelt source (option_map octets_of spelt)
    → IfOk result (λ line. IsLineOf task a T limit (bytes line)) → IfOk result (λ line. IsLineOf task b T limit (bytes line))
spelt_line task source octets spelt a b T limit (Ok line) same some spells h =
    line_by (kind task) (source_text task) (path_text task) octets spelt a b T limit (bytes line) some (subst (λ o. AreSpelt o (option_map octets_of spelt)) same spells) h
spelt_line task source octets spelt a b T limit (Err fault) same some spells h = tt

read_line : (k : Kind) (path : Option Text) (had : Option (List ℕ)) (T : AsnType) (limit : ℕ) (line : Text)
    → IfSome had (λ b. IsLineBy k None path (Some b) T limit line) → IsLineBy k None path had T limit line
read_line k path (Some b) T limit line h = h
read_line (show style) path None T limit line h = tt
read_line _ path None T limit line h = tt

unspelt_line : (k : Kind) (source path : Option Text) (spelt : Option (Vec ℕ Global)) (had : Option (List ℕ)) (T : AsnType) (limit : ℕ) (line : Text)
    → spelt ≡ None → AreSpelt source (option_map octets_of spelt) → IfSome had (λ b. IsLineBy k source path (Some b) T limit line) → IsLineBy k source path had T limit line
unspelt_line k None path spelt had T limit line none spells h = read_line k path had T limit line h
unspelt_line k (Some digits) path spelt had T limit line none spells h = absurd (subst (λ o. AreSpelt (Some digits) (option_map octets_of o)) none spells)

pub input_line : (task : Task) (source : Option Text) (spelt : Option (Vec ℕ Global)) (had : Option (List ℕ)) (T : AsnType) (limit : ℕ)
    (result : Result (String Global) Fault) → source ≡ source_text task → spelt ≡ None → AreSpelt source (option_map octets_of spelt)
    → IfOk result (λ line. IfSome had (λ b. IsLineOf task (Some b) T limit (bytes line))) → IfOk result (λ line. IsLineOf task had T limit (bytes line))
input_line task source spelt had T limit (Ok line) same none spells h =
    unspelt_line (kind task) (source_text task) (path_text task) spelt had T limit (bytes line) none (subst (λ o. AreSpelt o (option_map octets_of spelt)) same spells) h
input_line task source spelt had T limit (Err fault) same none spells h = tt

-- Without digits the task has none.
pub unread_none : {A : Type 0} (task : Task) (source : Option Text) (spelt : Option (Vec ℕ Global)) → source ≡ source_text task → spelt ≡ None
    → AreSpelt source (option_map octets_of spelt) → source_text task ≢ None → A
unread_none task None spelt same none spells some = absurd (some (sym same))
unread_none task (Some digits) spelt same none spells some = absurd (subst (λ o. AreSpelt (Some digits) (option_map octets_of o)) none spells)

-- The input had all that was read.
pub all_line : (task : Task) (had : Option (List ℕ)) (octets : List ℕ) (T : AsnType) (limit : ℕ) (result : Result (String Global) Fault)
    → IfSome had (λ xs. xs ≡ octets) → IfOk result (λ line. IsLineOf task (Some octets) T limit (bytes line))
    → IfOk result (λ line. IfSome had (λ b. IsLineOf task (Some b) T limit (bytes line)))
all_line task None octets T limit (Ok line) all h = tt
all_line task (Some xs) octets T limit (Ok line) all h = subst (λ l. IsLineOf task (Some l) T limit (bytes line)) (sym all) h
all_line task had octets T limit (Err fault) all h = tt
