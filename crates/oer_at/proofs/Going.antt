-- What hops find, one after another.
use Rattle.std.proofs.Common.{◌≡◌, ◌<◌, ◌≤◌, ◌-◌, ℕ, zero, suc, true, false, List, [], ◌∷◌, ◌++◌, length, take, drop, map, get_or, Option, Some, None, Result, refl, sym, ap, ap₂, ◌∙◌, subst, arith, drop-cons, length-drop}
use Rattle.std.proofs.lemmas.List.{take_all}
use Rattle.oer_literals.proofs.Lists.{nothing_left}
use Rattle.oer_units.specs.declared.tagging.Tag.{Tag}
use Rattle.oer_units.specs.Reader.{at}
use Rattle.oer_model.specs.AsnType.{AsnType}
use Rattle.oer_model.specs.Parts.{Answer, absent_part, find_part, found, go_on, knows, lookup, no_such_step, nothing_at, parts_in, read_parts, to_chosen}
use Rattle.oer_model.specs.Parts as plain
use Rattle.oer_checker.specs.Check.{IsFound}
use Rattle.oer_checker.specs.declared.verdict.Verdict.{Verdict}
use Rattle.oer_parts.specs.Handing.{Agrees, AgreesWith, AnswersPart}
use Rattle.oer_parts.specs.Walk.{path_of, step_of}
use Rattle.oer_parts.specs.declared.fault.PartFault.{PartFault}
use Rattle.oer_parts.specs.declared.step.Step.{Step}
use Rattle.oer_at.specs.Finding.{Fails, find_at, if_chosen, is_chosen, take_hop, take_step}
use Rattle.oer_at.specs.Meaning.{step_behind}
use Rattle.oer_at.specs.declared.hop.Hop.{Hop}
use Rattle.oer_at.specs.declared.hop.Hop.TheVariants.{Alternative}
use Rattle.oer_at.specs.declared.part.AtFault.{AtFault}
use Rattle.oer_at.specs.declared.part.AtFault.TheVariants.{Memory, NoSuchStep, Absent}

-- what `Encoding::part` answers is what is found in the octets of the encoding
pub agreed : {A : Type 0} (f : A → List ℕ) (T : AsnType) (octets : List ℕ) (path : List plain.Step) (verdict : Verdict) (result : Result A PartFault)
    → IsFound T octets verdict → AnswersPart f T octets path result → Agrees f result (find_part (Some T) (take verdict.octets octets) path)
agreed f T octets path verdict result (e, within) answers =
    let many : length octets - length (drop verdict.octets octets) ≡ verdict.octets = omega (arith, length-drop verdict.octets octets, within) in
    subst (λ (n : ℕ). Agrees f result (find_part (Some T) (take n octets) path)) many (subst (λ o. AgreesWith f octets path T o result) e answers)

go_on_twice : (a : Answer) (f g : Option AsnType → List ℕ → Answer) → go_on (go_on a f) g ≡ go_on a (λ V c. go_on (f V c) g)
go_on_twice (found V c) f g = refl
go_on_twice absent_part f g = refl
go_on_twice no_such_step f g = refl

go_no_further : (a : Answer) → go_on a (λ V c. found V c) ≡ a
go_no_further (found V c) = refl
go_no_further absent_part = refl
go_no_further no_such_step = refl

then_more : (f g k : Option AsnType → List ℕ → Answer) → ((V : Option AsnType) (c : List ℕ) → f V c ≡ go_on (g V c) k) → (a : Answer) → go_on a f ≡ go_on (go_on a g) k
then_more f g k same (found V c) = same V c
then_more f g k same absent_part = refl
then_more f g k same no_such_step = refl

-- one step more
find_more : (path : List plain.Step) (step : plain.Step) (T : Option AsnType) (b : List ℕ) → find_part T b (path ++ step ∷ []) ≡ go_on (find_part T b path) (take_step step)
find_more [] step T b = refl
find_more (s ∷ path) step None b = refl
find_more (s ∷ path) step (Some T) b = then_more (λ V c. find_part V c (path ++ step ∷ [])) (λ V c. find_part V c path) (take_step step)
    (λ V c. find_more path step V c) (lookup (nothing_at (knows T s)) s (parts_in (read_parts T (at b (length b)))))

steps_more : (path : List Step) (step : Step) → path_of (path ++ step ∷ []) ≡ path_of path ++ step_of step ∷ []
steps_more [] step = refl
steps_more (s ∷ path) step = ap (λ (l : List plain.Step). step_of s ∷ l) (steps_more path step)

-- the hops from the one with the number i on
here : (hops : List Hop) (i : ℕ) (o : Hop) (a : Answer) → i < length hops
    → go_on a (λ V c. find_at V c (drop i hops)) ≡ go_on (go_on a (take_hop (get_or hops i o))) (λ V c. find_at V c (drop (suc i) hops))
here hops i o a less =
    ap (λ (l : List Hop). go_on a (λ V c. find_at V c l)) (drop-cons hops i o less)
    ∙ sym (go_on_twice a (take_hop (get_or hops i o)) (λ V c. find_at V c (drop (suc i) hops)))

pub next : (whole : Answer) (T : Option AsnType) (b : List ℕ) (path p : List Step) (hops : List Hop) (i : ℕ) (o : Hop) (step : Step) → i < length hops → p ≡ path
    → whole ≡ go_on (find_part T b (path_of path)) (λ V c. find_at V c (drop i hops))
    → go_on (find_part T b (path_of p)) (take_hop (get_or hops i o)) ≡ go_on (find_part T b (path_of p)) (take_step (step_of step))
    → whole ≡ go_on (find_part T b (path_of (path ++ step ∷ []))) (λ V c. find_at V c (drop (suc i) hops))
next whole T b path p hops i o step less is inv same =
    let here_same = subst (λ (l : List Step). go_on (find_part T b (path_of l)) (take_hop (get_or hops i o)) ≡ go_on (find_part T b (path_of l)) (take_step (step_of step))) is same in
    inv ∙ here hops i o (find_part T b (path_of path)) less
    ∙ ap (λ a. go_on a (λ V c. find_at V c (drop (suc i) hops))) (here_same ∙ sym (find_more (path_of path) (step_of step) T b) ∙ ap (find_part T b) (sym (steps_more path step)))

failing : (a : Answer) (next : Option AsnType → List ℕ → Answer) (fault : AtFault) → Fails a fault → Fails (go_on a next) fault
failing a next Memory h = tt
failing a next NoSuchStep h = ap (λ x. go_on x next) h
failing a next Absent h = ap (λ x. go_on x next) h

pub stops : (whole : Answer) (a : Answer) (hops : List Hop) (i : ℕ) (o : Hop) (fault : AtFault) → i < length hops
    → whole ≡ go_on a (λ V c. find_at V c (drop i hops)) → Fails (go_on a (take_hop (get_or hops i o))) fault → Fails whole fault
stops whole a hops i o fault less inv h =
    subst (λ x. Fails x fault) (sym (inv ∙ here hops i o a less)) (failing (go_on a (take_hop (get_or hops i o))) (λ V c. find_at V c (drop (suc i) hops)) fault h)

pub ends : (whole : Answer) (a : Answer) (hops : List Hop) (i : ℕ) → length hops ≤ i → whole ≡ go_on a (λ V c. find_at V c (drop i hops)) → a ≡ whole
ends whole a hops i more inv = sym (inv ∙ ap (λ (l : List Hop). go_on a (λ V c. find_at V c l)) (nothing_left hops i more) ∙ go_no_further a)

-- ---- the steps of hops

mapped : (hops : List Hop) (i : ℕ) (o : Hop) → i < length hops → map step_behind (take (suc i) hops) ≡ map step_behind (take i hops) ++ step_behind (get_or hops i o) ∷ []
mapped [] i o less = absurd (omega (arith, less))
mapped (hop ∷ hops) zero o less = refl
mapped (hop ∷ hops) (suc i) o less = ap (λ (l : List plain.Step). step_behind hop ∷ l) (mapped hops i o (omega (arith, less)))

pub one_step_more : (hops : List Hop) (i : ℕ) (o : Hop) (path : List Step) (step : Step) → i < length hops → path_of path ≡ map step_behind (take i hops)
    → step_of step ≡ step_behind (get_or hops i o) → path_of (path ++ step ∷ []) ≡ map step_behind (take (suc i) hops)
one_step_more hops i o path step less inv same =
    steps_more path step ∙ ap₂ (λ (l : List plain.Step) (s : plain.Step). l ++ s ∷ []) inv same ∙ sym (mapped hops i o less)

pub all_steps : (hops : List Hop) (i : ℕ) (path : List Step) → length hops ≤ i → path_of path ≡ map step_behind (take i hops) → path_of path ≡ map step_behind hops
all_steps hops i path more inv = inv ∙ ap (map step_behind) (take_all i hops more)

-- ---- one hop

pub chosen : (a : Answer) (U : Option AsnType) (c : List ℕ) (t : Tag) → a ≡ found U c → is_chosen t c ≡ true → go_on a (take_hop (Alternative t)) ≡ go_on a (take_step to_chosen)
chosen a U c t is same = ap (λ x. go_on x (take_hop (Alternative t))) is ∙ ap (λ y. if_chosen y (take_step to_chosen U c)) same ∙ ap (λ x. go_on x (take_step to_chosen)) (sym is)

pub other : (a : Answer) (U : Option AsnType) (c : List ℕ) (t : Tag) → a ≡ found U c → is_chosen t c ≡ false → go_on a (take_hop (Alternative t)) ≡ absent_part
other a U c t is same = ap (λ x. go_on x (take_hop (Alternative t))) is ∙ ap (λ y. if_chosen y (take_step to_chosen U c)) same

pub lost : (a : Answer) (hop : Hop) (fault : AtFault) → Fails a fault → Fails (go_on a (take_hop hop)) fault
lost a hop fault h = failing a (take_hop hop) fault h
