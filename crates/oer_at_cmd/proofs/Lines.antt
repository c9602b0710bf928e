-- What is found at the end of names, and its line.
use Rattle.std.proofs.Common.{◌≡◌, ℕ, List, [], ◌∷◌, ◌++◌, take, drop, Bool, Some, Result, Ok, Err, String, Global, refl, sym, ap, ap₂, ◌∙◌, subst, append-nil}
use Rattle.std.proofs.Math.ListN.{take-append-drop}
use Rattle.std.specs.Borrow.{Bor}
use Rattle.clap.specs.Words.{Text}
use Rattle.oer_units.specs.Reader.{Outcome, at, got}
use Rattle.oer_model.specs.AsnType.{AsnType}
use Rattle.oer_model.specs.Checking.{check_value}
use Rattle.oer_model.specs.Parts.{Answer}
use Rattle.oer_checker.specs.Check.{IsFound, most}
use Rattle.oer_checker.specs.declared.verdict.Verdict.{Verdict}
use Rattle.oer_parts.specs.Encoding.{octets_in, type_of_encoding}
use Rattle.oer_parts.specs.declared.encoding.Encoding.{Encoding}
use Rattle.oer_at.specs.Finding.{find_at, octets_at_front}
use Rattle.oer_at.specs.declared.hop.Hop.{Hop}
use Rattle.oer_cmd.specs.Answer.{checked, ended, handed, whole}
use Rattle.oer_cmd.specs.Expected.{Expected, Meets, refusal, unknown, value}
use Rattle.oer_cmd.specs.declared.fault.Fault.{Fault}
use Rattle.oer_cmd.proofs.Meeting.{bytes, goes, stops}
use Rattle.oer_at_cmd.specs.Answer.{at_octets}

abbrev pub seen : Encoding → Bool
seen e = e.verdict.canonical

none_left : (b l : List ℕ) (n : ℕ) (canonical : Bool) (k : ℕ) → drop n b ≡ l → Meets (λ (x : Bool). x) (ended k canonical l) (Ok canonical) → take n b ≡ b
none_left b [] n canonical k e h = sym (append-nil (take n b)) ∙ ap (λ (l : List ℕ). take n b ++ l) (sym e) ∙ take-append-drop n b
none_left b (x ∷ l) n canonical k e h = absurd h

-- the octets of an encoding that is all of them
all_of : (T : AsnType) (b : List ℕ) (v : Verdict) → IsFound T b v → Meets (λ (x : Bool). x) (checked T b) (Ok v.canonical) → take v.octets b ≡ b
all_of T b v (e, within) h = none_left b (drop v.octets b) v.octets v.canonical _ refl (subst (λ o. Meets (λ (x : Bool). x) (whole b o) (Ok v.canonical)) e h)

meets_seen : (T : AsnType) (b : List ℕ) (e : Encoding) → Meets seen (checked T b) (Ok e) → Meets (λ (x : Bool). x) (checked T b) (Ok e.verdict.canonical)
meets_seen T b e h = by (checked T b) h where
  by : (m : Expected Bool) → Meets seen m (Ok e) → Meets (λ (x : Bool). x) m (Ok e.verdict.canonical)
  by unknown h = tt
  by (value y) h = h
  by (refusal r) h = absurd h

-- what hops find in the encoding that the octets are
same_found : (T : AsnType) (b : List ℕ) (e : Encoding) (hops : List Hop) → type_of_encoding e ≡ T → octets_in e ≡ b → Meets seen (checked T b) (Ok e)
    → find_at (Some (type_of_encoding e)) (octets_at_front e) hops ≡ find_at (Some T) b hops
same_found T b e hops kind same h =
    let found : IsFound T b e.verdict = subst (λ (U : AsnType). IsFound U b e.verdict) kind (subst (λ (l : List ℕ). IsFound (type_of_encoding e) l e.verdict) same e.found) in
    let front : octets_at_front e ≡ b = ap (take e.verdict.octets) same ∙ all_of T b e.verdict found (meets_seen T b e h) in
    ap₂ (λ (U : AsnType) (l : List ℕ). find_at (Some U) l hops) kind front

-- an answer of that, in a line
pub answered : (T : AsnType) (b : List ℕ) (e : Encoding) (hops : List Hop) (answer : Answer) (result : Result (String Global) Fault)
    → type_of_encoding e ≡ T → octets_in e ≡ b → Meets seen (checked T b) (Ok e)
    → find_at (Some (type_of_encoding e)) (octets_at_front e) hops ≡ answer → Meets bytes (handed answer) result → Meets bytes (at_octets T hops b) result
answered T b e hops answer result kind same h is made =
    goes seen bytes (checked T b) (λ c. handed (find_at (Some T) b hops)) e result h
    (subst (λ a. Meets bytes (handed a) result) (sym is ∙ same_found T b e hops kind same h) made)

pub unjudged : (T : AsnType) (b : List ℕ) (hops : List Hop) (fault : Fault) → Meets {X = Encoding} seen (checked T b) (Err fault) → Meets {X = String Global} bytes (at_octets T hops b) (Err fault)
unjudged T b hops fault h = stops {X = Encoding} {Z = String Global} seen bytes (checked T b) (λ c. handed (find_at (Some T) b hops)) fault h
