-- What is shown, from what the steps answer.
use Rattle.std.proofs.Common.{Result, ◌≡◌, ◌∙◌, ℕ, ◌-◌, ◌^◌, ◌≤◌, List, [], ◌∷◌, length, Bool, Option, Some, None, Ok, Err, Vec, String, Global, refl, sym, ap, subst, arith, string_bytes}
use Rattle.std.specs.Prelude.{IfOk, option_map}
use Rattle.std.specs.Borrow.{Bor}
use Rattle.std.proofs.lemmas.Result.{IfOk-weaker}
use Rattle.clap.specs.Words.{Text}
use Rattle.oer_units.specs.Reader.{Outcome, at, got, refused}
use Rattle.oer_model.specs.AsnType.{AsnType}
use Rattle.oer_model.specs.Checking.{check_value}
use Rattle.oer_types.specs.Schema.{the_type}
use Rattle.oer_types.specs.declared.schema.Schema.{Schema}
use Rattle.oer_parts.specs.declared.encoding.Encoding.{Encoding}
use Rattle.oer_notation.specs.Parsing.{parse, parse_all}
use Rattle.oer_notation.specs.Reading.{find}
use Rattle.oer_notation.specs.Views.{knowns}
use Rattle.oer_notation.specs.declared.types.Types.{Types}
use Rattle.oer_options.specs.Words.{Texts}
use Rattle.oer_cmd.specs.Answer.{checked, ended, expected_type, hex_octets, limited_octets, named_as, parsed, whole as judged_whole}
use Rattle.oer_cmd.specs.Expected.{Expected, Meets, Refusal, refusal, refusal_of, stop, unknown, value, ◌>>=◌}
use Rattle.oer_cmd.specs.Faults.{status_of, text_of}
use Rattle.oer_cmd.specs.Octets.{AreAll, AreSpelt, octets_of}
use Rattle.oer_cmd.specs.Run.{IsEncoding}
use Rattle.oer_cmd.specs.Types.{SpelledBy}
use Rattle.oer_cmd.specs.declared.fault.Fault.{Fault}
use Rattle.oer_cmd.proofs.Lines.{of_all}
use Rattle.oer_cmd.proofs.Meeting as meeting
use Rattle.oer_dump_cmd.specs.Showing.{AreOne, AreOneFor, Displays, IsReasonLine, Rejection, Shows}
use Rattle.oer_dump_cmd.specs.declared.options.Form.{Form}

-- What is said of a result where a value or a refusal is expected: nothing where that is unknown, and a failure of the machine is always allowed.
pub record Tolerates {Z : Type 0} (R : Expected Z → Result Rejection Fault → Type 0) : Type 0 where
  pub less : (m : Expected Z) (result : Result Rejection Fault) → R m result → R unknown result
  pub any : (fault : Fault) → R unknown (Err fault)
  pub machine : (m : Expected Z) (fault : Fault) → (status_of fault ≤ 2 → ⊥) → R m (Err fault)
  pub same : (r : Refusal) (fault : Fault) → (status_of fault ≤ 2 → refusal_of fault ≡ r) → R (refusal r) (Err fault)

fails : (m : Expected Bool) (fault : Fault) → (status_of fault ≤ 2 → ⊥) → Shows m (Err fault)
fails unknown fault high = tt
fails (value c) fault high = high
fails (refusal r) fault high = λ small. absurd (high small)

pub shows : Tolerates Shows
shows = record { less = λ m result h. tt; any = λ fault. tt; machine = fails; same = λ r fault h. h }

displays_none : (f : Form) (o o' : Option (List ℕ)) (m : Expected (AsnType × List ℕ)) (fault : Fault) → (status_of fault ≤ 2 → ⊥)
    → Displays f m (Err fault) o o'
displays_none f o o' unknown fault high = tt
displays_none f o o' (value p) fault high = high
displays_none f o o' (refusal r) fault high = tt

displays_less : (f : Form) (o o' : Option (List ℕ)) (m : Expected (AsnType × List ℕ)) (result : Result Rejection Fault) → Displays f m result o o'
    → Displays f unknown result o o'
displays_less f o o' unknown result h = h
displays_less f o o' (value p) (Ok rejection) h = (h.0, h.2)
displays_less f o o' (value p) (Err fault) h = tt
displays_less f o o' (refusal r) (Ok rejection) h = absurd h
displays_less f o o' (refusal r) (Err fault) h = tt

pub displays : (f : Form) (o o' : Option (List ℕ)) → Tolerates (λ m r. Displays f m r o o')
displays f o o' = record { less = displays_less f o o'; any = λ fault. tt; machine = displays_none f o o'; same = λ r fault h. tt }

-- the type with the octets
abbrev pub both : AsnType → List ℕ → Expected (AsnType × List ℕ)
both T b = value (T, b)

-- what is made of the octets of `--hex`, else those of the input
abbrev pub of_octets : {Z : Type 0} → (AsnType → List ℕ → Expected Z) → Option Text → ℕ → Option (List ℕ) → AsnType → Expected Z
of_octets next hex limit told T = hex_octets hex >>= λ spelt. limited_octets limit spelt told >>= next T

-- Where a step is refused, nothing is shown.
pub stops : {X Y Z : Type 0} (R : Expected Z → Result Rejection Fault → Type 0) → Tolerates R → (view : X → Y) (m : Expected Y) (next : Y → Expected Z) (fault : Fault)
    → Meets {X = X} view m (Err fault) → R (m >>= next) (Err fault)
stops R w view unknown next fault h = w.any fault
stops R w view (value y) next fault h = w.machine (next y) fault h
stops R w view (refusal r) next fault h = w.same r fault h

-- Where it is made, what is shown is next.
pub goes : {X Y Z : Type 0} (R : Expected Z → Result Rejection Fault → Type 0) → Tolerates R → (view : X → Y) (m : Expected Y) (next : Y → Expected Z) (x : X) (result : Result Rejection Fault)
    → Meets view m (Ok x) → R (next (view x)) result → R (m >>= next) result
goes R w view unknown next x result h k = w.less (next (view x)) result k
goes R w view (value y) next x result h k = subst (λ z. R (next z) result) h k
goes R w view (refusal r) next x result h k = absurd h

-- ---- the octets

abbrev pub seen : Encoding → Bool
seen found = found.verdict.canonical

pub whole : (m : Expected Bool) (found : Encoding) → Meets seen m (Ok found) → Shows m (Ok None)
whole unknown found h = tt
whole (value c) found h = refl
whole (refusal r) found h = absurd h

pub unread : (m : Expected Bool) (fault : Fault) → Meets {X = Encoding} seen m (Err fault) → Shows m (Err fault)
unread unknown fault h = tt
unread (value c) fault h = h
unread (refusal r) fault h = h

pub rejected : (m : Expected Bool) (fault : Fault) (line : String Global) → Meets {X = Encoding} seen m (Err fault) → status_of fault ≡ 1 → IsReasonLine (text_of fault) (string_bytes line)
    → Shows m (Ok (Some line))
rejected unknown fault line h one is = tt
rejected (value c) fault line h one is = absurd (h (omega (arith, one)))
rejected (refusal r) fault line h one is =
    let e : refusal_of fault ≡ r = h (omega (arith, one)) in
    (ap (λ (x : Refusal). x.status) (sym e) ∙ one, subst (λ (x : Refusal). IsReasonLine x.text (string_bytes line)) e is)

unended : (n : ℕ) (x : Bool) (rest : List ℕ) (fault : Fault) → Meets {X = Encoding} seen (ended n x rest) (Err fault) → status_of fault ≤ 2 → status_of fault ≡ 1
unended n x [] fault h small = absurd (h small)
unended n x (y ∷ rest) fault h small = ap (λ (r : Refusal). r.status) (h small)

unread_outcome : (b : List ℕ) (o : Outcome Bool) (fault : Fault) → Meets {X = Encoding} seen (judged_whole b o) (Err fault) → status_of fault ≤ 2 → status_of fault ≡ 1
unread_outcome b (got x q) fault h small = unended (length b - length q.input) x q.input fault h small
unread_outcome b (refused why rest) fault h small = ap (λ (r : Refusal). r.status) (h small)

-- Octets are rejected with status 1.
pub unjudged : (T : AsnType) (b : List ℕ) (fault : Fault) → Meets {X = Encoding} seen (checked T b) (Err fault) → status_of fault ≤ 2 → status_of fault ≡ 1
unjudged T b fault h small = unread_outcome b (check_value T (at b (2 ^ 64 - 1))) fault h small

pub unspelt : {Z : Type 0} (R : Expected Z → Result Rejection Fault → Type 0) → Tolerates R
    → (next : AsnType → List ℕ → Expected Z) (T : AsnType) (limit : ℕ) (hex : Option Text) (told : Option (List ℕ)) (fault : Fault)
    → Meets {X = Option (Vec ℕ Global)} (option_map octets_of) (hex_octets hex) (Err fault) → R (of_octets next hex limit told T) (Err fault)
unspelt R w next T limit hex told fault h = stops {X = Option (Vec ℕ Global)} R w (option_map octets_of) (hex_octets hex) (λ o. limited_octets limit o told >>= next T) fault h

pub longer : {Z : Type 0} (R : Expected Z → Result Rejection Fault → Type 0) → Tolerates R
    → (next : AsnType → List ℕ → Expected Z) (T : AsnType) (limit : ℕ) (hex : Option Text) (told : Option (List ℕ)) (spelt : Option (Vec ℕ Global)) (fault : Fault)
    → Meets (option_map octets_of) (hex_octets hex) (Ok spelt) → Meets {X = Vec ℕ Global} octets_of (limited_octets limit (option_map octets_of spelt) told) (Err fault)
    → R (of_octets next hex limit told T) (Err fault)
longer R w next T limit hex told spelt fault h all =
    goes R w (option_map octets_of) (hex_octets hex) (λ o. limited_octets limit o told >>= next T) spelt (Err fault) h
    (stops {X = Vec ℕ Global} R w octets_of (limited_octets limit (option_map octets_of spelt) told) (next T) fault all)

pub looked_at : {Z : Type 0} (R : Expected Z → Result Rejection Fault → Type 0) → Tolerates R
    → (next : AsnType → List ℕ → Expected Z) (T : AsnType) (limit : ℕ) (hex : Option Text) (told : Option (List ℕ)) (spelt : Option (Vec ℕ Global)) (octets : Vec ℕ Global) (b : List ℕ)
    (result : Result Rejection Fault)
    → Meets (option_map octets_of) (hex_octets hex) (Ok spelt) → Meets octets_of (limited_octets limit (option_map octets_of spelt) told) (Ok octets) → b ≡ octets.items
    → R (next T b) result → R (of_octets next hex limit told T) result
looked_at R w next T limit hex told spelt octets b result h all same shown =
    goes R w (option_map octets_of) (hex_octets hex) (λ o. limited_octets limit o told >>= next T) spelt result h
    (goes R w octets_of (limited_octets limit (option_map octets_of spelt) told) (next T) octets result all (subst (λ l. R (next T l) result) same shown))

pub are_one : (T : AsnType) (limit : ℕ) (hex : Option Text) (told spelt : Option (List ℕ)) (octets b : List ℕ) (result : Result Rejection Fault) → AreSpelt hex spelt → AreAll spelt told octets → length octets ≤ limit → b ≡ octets
    → IfOk result (λ rejection. rejection ≡ None → IsEncoding T b) → IfOk result (λ rejection. rejection ≡ None → AreOne T hex limit told)
are_one T limit hex told spelt octets b result spells all within same h =
    IfOk-weaker result _ _ (λ rejection k none. of_all hex spelt told octets (λ c. IsEncoding T c × (length c ≤ limit)) spells all (subst (IsEncoding T) same (k none), within)) h

-- ---- the type

pub one_unread : {Z : Type 0} (R : Expected Z → Result Rejection Fault → Type 0) → Tolerates R → (last : AsnType → Expected Z) (text : Bor Text) (fault : Fault)
    → Meets {X = Schema} the_type (parsed (parse text.now)) (Err fault)
    → R (parsed (parse text.now) >>= last) (Err fault)
one_unread R w last text fault h = stops {X = Schema} R w the_type (parsed (parse text.now)) last fault h

pub one_read : {Z : Type 0} (R : Expected Z → Result Rejection Fault → Type 0) → Tolerates R → (last : AsnType → Expected Z) (text : Bor Text) (schema : Schema) (result : Result Rejection Fault)
    → Meets the_type (parsed (parse text.now)) (Ok schema)
    → R (last (the_type schema)) result → R (parsed (parse text.now) >>= last) result
one_read R w last text schema result h shown = goes R w the_type (parsed (parse text.now)) last schema result h shown

pub named_unread : {Z : Type 0} (R : Expected Z → Result Rejection Fault → Type 0) → Tolerates R → (last : AsnType → Expected Z) (types name : Bor Text) (fault : Fault)
    → Meets {X = Types} knowns (parsed (parse_all types.now)) (Err fault)
    → R (parsed (parse_all types.now) >>= (λ ks. named_as name.now (find ks name.now)) >>= last) (Err fault)
named_unread R w last types name fault h =
    stops {X = Schema} R w the_type (parsed (parse_all types.now) >>= λ ks. named_as name.now (find ks name.now)) last fault
    (meeting.stops {X = Types} knowns the_type (parsed (parse_all types.now)) (λ ks. named_as name.now (find ks name.now)) fault h)

pub named_unknown : {Z : Type 0} (R : Expected Z → Result Rejection Fault → Type 0) → Tolerates R → (last : AsnType → Expected Z) (types name : Bor Text) (ts : Types) (fault : Fault)
    → Meets knowns (parsed (parse_all types.now)) (Ok ts)
    → Meets {X = Bor Schema} (λ s. the_type s.now) (named_as name.now (find (knowns ts) name.now)) (Err fault)
    → R (parsed (parse_all types.now) >>= (λ ks. named_as name.now (find ks name.now)) >>= last) (Err fault)
named_unknown R w last types name ts fault h of =
    stops {X = Bor Schema} R w (λ s. the_type s.now) (parsed (parse_all types.now) >>= λ ks. named_as name.now (find ks name.now)) last fault
    (meeting.goes {Z = Bor Schema} knowns (λ s. the_type s.now) (parsed (parse_all types.now)) (λ ks. named_as name.now (find ks name.now)) ts (Err fault) h of)

pub named_read : {Z : Type 0} (R : Expected Z → Result Rejection Fault → Type 0) → Tolerates R
    → (last : AsnType → Expected Z) (types name : Bor Text) (ts : Types) (schema : Bor Schema) (result : Result Rejection Fault) → Meets knowns (parsed (parse_all types.now)) (Ok ts)
    → Meets (λ s. the_type s.now) (named_as name.now (find (knowns ts) name.now)) (Ok schema) → R (last (the_type schema.now)) result
    → R (parsed (parse_all types.now) >>= (λ ks. named_as name.now (find ks name.now)) >>= last) result
named_read R w last types name ts schema result h of shown =
    goes R w (λ s. the_type s.now) (parsed (parse_all types.now) >>= λ ks. named_as name.now (find ks name.now)) last schema result
    (meeting.goes knowns (λ s. the_type s.now) (parsed (parse_all types.now)) (λ ks. named_as name.now (find ks name.now)) ts (Ok schema) h of) shown

pub are_one_for : (texts : Texts) (T : AsnType) (hex : Option Text) (limit : ℕ) (told : Option (List ℕ)) (result : Result Rejection Fault) → SpelledBy texts T
    → IfOk result (λ rejection. rejection ≡ None → AreOne T hex limit told) → IfOk result (λ rejection. rejection ≡ None → AreOneFor texts hex limit told)
are_one_for texts T hex limit told result spelled h = IfOk-weaker result _ _ (λ rejection k none. (T, spelled, k none)) h

pub lacking : {Z : Type 0} (R : Expected Z → Result Rejection Fault → Type 0) → Tolerates R → (last : AsnType → Expected Z) (texts same : Texts) (fault : Fault) → same ≡ texts
    → expected_type same ≡ stop fault → R (expected_type texts >>= last) (Err fault)
lacking R w last texts same fault is e =
    subst (λ (t : Expected AsnType). R (t >>= last) (Err fault)) (sym e ∙ ap expected_type is) (w.same (refusal_of fault) fault (λ small. refl))
