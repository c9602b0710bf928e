-- What amounts denote.
use Rattle.std.proofs.Common.{◌≡◌, ℕ, zero, suc, ℤ, List, [], ◌∷◌, Option, Some, None, Result, Ok, Err, Bool, true, false, cond}
use Rattle.std.proofs.Common.{if◌then◌else◌, refl, sym, ap, subst, ◌∙◌, slice_get}
use Rattle.std.specs.Bool.{beq}
use Rattle.std.specs.Str.{bytes_eq}
use Rattle.oer_module_lexer.specs.Token.{Spot}
use Rattle.oer_module_names.proofs.Asked.{stands_finds_in}
use Rattle.oer_module_names.proofs.Stands.{stands_finds}
use Rattle.oer_module_names.specs.Tables.{assignments_in}
use Rattle.oer_module_names.specs.declared.error.Found.{Found}
use Rattle.oer_module_names.specs.declared.error.Place.{Place}
use Rattle.oer_module_syntax.specs.Modules.{none_left}
use Rattle.oer_module_syntax.specs.Tree.{Module, Assignment, Body, type_body, set_body, value_body, class_body}
use Rattle.oer_module_syntax.specs.Tree.{Tree, plain, named, tagged, structure, list_of, selection, instance_of, any_defined_by}
use Rattle.oer_module_syntax.specs.declared.word.Builtin.{Builtin}
use Rattle.oer_module_syntax.specs.declared.word.Builtin.TheVariants as bi
use Rattle.oer_module_terms.specs.Trees.{Amount, number, named as by_name, amount, real, fixed, bits, digits as some_digits, text}
use Rattle.oer_module_terms.specs.Trees.{Value, atom, numbered as numbered_value, choice, braces, Item}
use Rattle.oer_module_values.proofs.References.{none_left-nil, refers}
use Rattle.oer_module_terms.specs.Items.{enumeration_at, items_at}
use Rattle.oer_module_terms.specs.Values.{value_at}
use Rattle.oer_module_terms.specs.declared.item.Numbering.TheVariants.{Signed}
use Rattle.oer_module_syntax.specs.State.{State, place}
use Rattle.oer_module_syntax.specs.declared.fault.Fault.{Fault}
use Rattle.std.proofs.lemmas.Slice.Eq.{bytes_eq-Decides}
use Rattle.oer_module_values.proofs.Wholes.{whole_written}
use Rattle.oer_module_values.proofs.Walks.{found, sole}
use Rattle.oer_module_values.specs.Digits.{IsWritten}
use Rattle.oer_module_values.specs.Errors.{Error, error, place_in, in_module, not_a_number, unsettled, ◌>>=◌}
use Rattle.oer_module_values.specs.Kept.{kept}
use Rattle.oer_module_values.specs.Looks.{Path, own, within, fields, path_of}
use Rattle.oer_module_values.specs.Numbers.{Governor, bare, all_items, integer_items, enumeration_items, Has, nothing, here, later, IsItem, Governs, by_integer}
use Rattle.oer_module_values.specs.Numbers.{by_enumerated, Writes, Denotes, digits, item, value}
use Rattle.oer_module_values.specs.Numbers.{Wanted, Numeral, Outcome, reached, wants, governor_by, governor, item_named, named_number}
use Rattle.oer_module_values.specs.Numbers.{enumeration_item, own_item, item_by, written, numbered, amount_by, amount_read}
use Rattle.oer_module_values.specs.Numbers.{place_of_first, amount_in, value_in, defined_by, same_kind, valued_by, valued, named_by}
use Rattle.oer_module_values.specs.Numbers.{step_by, step, after, numeral, whole, count, number_at}
use Rattle.oer_module_values.specs.Types.{TypeIn, type_in, Referent, Given, Meaning, Means, Names, Refers, meaning, referred}

-- ---- governors

module _ (ms : List Module) where
  governs_by : (m : ℕ) (t : Tree) (u : TypeIn) (gs : List Given) (v : Tree) (g : Governor) → Means ms m t u gs → u.type ≡ v
      → governor_by u.«module» v ≡ Ok g → Governs ms m t g
  governs_by m t u gs (plain at bi.Integer items cs) g h e is =
      subst (Governs ms m t) (cc) (by_integer u.«module» at items cs gs (subst (λ v. Means ms m t (type_in u.«module» v) gs) e h))
  governs_by m t u gs (plain at bi.Enumerated items cs) g h e is =
      subst (Governs ms m t) (cc) (by_enumerated u.«module» at items cs gs (subst (λ v. Means ms m t (type_in u.«module» v) gs) e h))
  governs_by m t u gs (plain at b items cs) g h e is = absurd (cc)
  governs_by m t u gs (named at w steps ps cs) g h e is = absurd (cc)
  governs_by m t u gs (tagged at ts mode v) g h e is = absurd (cc)
  governs_by m t u gs (structure at b es cs) g h e is = absurd (cc)
  governs_by m t u gs (list_of at b z ss n v) g h e is = absurd (cc)
  governs_by m t u gs (selection at n v) g h e is = absurd (cc)
  governs_by m t u gs (instance_of at c p cs) g h e is = absurd (cc)
  governs_by m t u gs (any_defined_by at b) g h e is = absurd (cc)

  meant_governs : (m : ℕ) (t : Tree) (r : Result Meaning Error) (g : Governor) → meaning ms (type_in m t) ≡ r
      → (r >>= λ k. governor_by k.of.«module» k.of.type) ≡ Ok g → Governs ms m t g
  meant_governs m t (Err e) g h is = absurd (cc)
  meant_governs m t (Ok r) g h is =
      let p = found ms 255 (type_in m t) [] r h in governs_by m t r.of p.0 r.of.type g p.2 refl is

  -- what is found to govern does
  pub governs : (m : ℕ) (t : Tree) (g : Governor) → governor ms (type_in m t) ≡ Ok g → Governs ms m t g
  unfolding governor
  governs m t g h = meant_governs m t (meaning ms (type_in m t)) g refl h

-- ---- items

-- by whether the name is that of an item
bytes_eq-true : (v w : List ℕ) → bytes_eq v w ≡ true → v ≡ w
bytes_eq-true v w h = (bytes_eq-Decides v w).0 h

bytes_eq-false : (v w : List ℕ) → bytes_eq v w ≡ false → ¬ (v ≡ w)
bytes_eq-false v w h e = let same = (bytes_eq-Decides v w).1 e in cc

has_by : (w : List ℕ) (i : Item) (is : List Item) (o : Option Item) (b : Bool) → bytes_eq i.name w ≡ b
    → (item_named w is ≡ o → Has w is o) → cond b (Some i) (item_named w is) ≡ o → Has w (i ∷ is) o
has_by w i is o true e on h = subst (Has w (i ∷ is)) h (here i is (bytes_eq-true i.name w e))
has_by w i is o false e on h = later i is o (bytes_eq-false i.name w e) (on h)

has : (w : List ℕ) (is : List Item) (o : Option Item) → item_named w is ≡ o → Has w is o
has w [] o h = subst (Has w []) h nothing
has w (i ∷ is) o h = has_by w i is o (bytes_eq i.name w) refl (has w is o) h

-- what is found among items, as the relation has it
abbrev Among : List ℕ → Option Item → Result (List Item) Error → Type 0
Among w o r = (is : List Item) × (r ≡ Ok is) × Has w is o

among : {A : Type 0} (r : Result A Error) (f : A → List Item) (w : List ℕ) (o : Option Item)
    → (r >>= λ a. Ok (item_named w (f a))) ≡ Ok o → Among w o (r >>= λ a. Ok (f a))
among (Err e) f w o h = absurd (cc)
among (Ok a) f w o h = (f a, refl, has w (f a) o (cc))

module _ (g : Governor) (w : List ℕ) (o : Option Item) where
  kind_item : (b : Bool) → (if b then enumeration_item g w else named_number g w) ≡ Ok o
      → Among w o (if b then enumeration_items g else integer_items g)
  kind_item true h = among (in_module g.«module» (enumeration_at (kept g.items))) (λ e. all_items e.0) w o h
  kind_item false h = among (in_module g.«module» (items_at Signed (kept g.items))) (λ is. is.0) w o h

  any_item : (b c : Bool) → (if b then Ok None else if c then enumeration_item g w else named_number g w) ≡ Ok o
      → Among w o (if b then Ok [] else if c then enumeration_items g else integer_items g)
  any_item true c h = ([], refl, subst (Has w []) (cc) nothing)
  any_item false c h = kind_item c h

  -- what the code finds among the items is there
  is_item : (p : Path) → item_by g w p ≡ Ok o → IsItem g w p o
  unfolding own_item
  is_item own h = any_item (none_left g.items) g.enumerated h
  is_item (within v) h = cc
  is_item fields h = cc

-- ---- values

amount_is : (p : Place) (v : Value) (a : Amount) → amount_by p v ≡ Ok a → (at : ℕ) × (v ≡ atom at (amount a))
amount_is p (atom at (amount b)) a h = (at, cc)
amount_is p (atom at (real n w)) a h = absurd (cc)
amount_is p (atom at (fixed f)) a h = absurd (cc)
amount_is p (atom at (bits w)) a h = absurd (cc)
amount_is p (atom at (some_digits w)) a h = absurd (cc)
amount_is p (atom at (text w)) a h = absurd (cc)
amount_is p (numbered_value at w n) a h = absurd (cc)
amount_is p (choice at w v) a h = absurd (cc)
amount_is p (braces at xs) a h = absurd (cc)

read_whole : (m : ℕ) (p : Place) (ts : List Spot) (v : Value) (s : State) (b : Bool) (a : Amount) → value_at 64 (kept ts) ≡ Ok (v, s)
    → none_left s.left ≡ b → (if b then amount_by p v else error (place_in m (place s)) unsettled) ≡ Ok a → Writes ts a
read_whole m p ts v s true a is e h =
    let q = amount_is p v a h in
    record { begins = q.0; rest = s; is = is ∙ ap (λ u. Ok (u, s)) q.1; done = none_left-nil s.left e }
read_whole m p ts v s false a is e h = absurd (cc)

read_value : (m : ℕ) (ts : List Spot) (r : Result (Value × State) Fault) (a : Amount) → value_at 64 (kept ts) ≡ r
    → (in_module m r >>= amount_read m (place_of_first m ts)) ≡ Ok a → Writes ts a
read_value m ts (Err e) a is h = absurd (cc)
read_value m ts (Ok (v, s)) a is h = read_whole m (place_of_first m ts) ts v s (none_left s.left) a is refl h

writes : (m : ℕ) (ts : List Spot) (a : Amount) → amount_in m ts ≡ Ok a → Writes ts a
unfolding amount_in
writes m ts a h = read_value m ts (value_at 64 (kept ts)) a refl h

-- what is found for the value of an assignment in a module
record IsValueOf (ms : List Module) (m : ℕ) (t : Tree) (ts : List Spot) (q : Wanted) : Type 0 where
  pub governed : Governs ms m t q.governor
  pub writing : Writes ts q.amount
  pub inside : q.place.«module» ≡ m

module _ (ms : List Module) where
  value_amount : (m : ℕ) (t : Tree) (ts : List Spot) (g : Governor) (r : Result Amount Error) (q : Wanted) → Governs ms m t g
      → ((a : Amount) → r ≡ Ok a → Writes ts a)
      → (r >>= λ a. Ok (record { place = place_of_first m ts; governor = g; amount = a })) ≡ Ok q → IsValueOf ms m t ts q
  value_amount m t ts g (Err e) q governed wrote h = absurd (cc)
  value_amount m t ts g (Ok a) q governed wrote h =
      let e : record { place = place_of_first m ts; governor = g; amount = a } ≡ q = cc in
      subst (IsValueOf ms m t ts) e (record { governed = governed; writing = wrote a refl; inside = refl })

  value_governor : (m : ℕ) (t : Tree) (ts : List Spot) (r : Result Governor Error) (q : Wanted)
      → ((g : Governor) → r ≡ Ok g → Governs ms m t g)
      → (r >>= λ g. amount_in m ts >>= λ a. Ok (record { place = place_of_first m ts; governor = g; amount = a })) ≡ Ok q
      → IsValueOf ms m t ts q
  value_governor m t ts (Err e) q governed h = absurd (cc)
  value_governor m t ts (Ok g) q governed h = value_amount m t ts g (amount_in m ts) q (governed g refl) (writes m ts) h

  value_of : (m : ℕ) (t : Tree) (ts : List Spot) (q : Wanted) → value_in ms m t ts ≡ Ok q → IsValueOf ms m t ts q
  unfolding value_in
  value_of m t ts q h = value_governor m t ts (governor ms (type_in m t)) q (governs ms m t) h

  defined_body : (p : Place) (m : ℕ) (b : Body) (q : Wanted) → defined_by ms p m b ≡ Ok q
      → (t : Tree) × (ts : List Spot) × (b ≡ value_body t ts) × IsValueOf ms m t ts q
  defined_body p m (value_body t ts) q h = (t, ts, refl, value_of m t ts q h)
  defined_body p m (type_body t) q h = absurd (cc)
  defined_body p m (class_body fs ts) q h = absurd (cc)
  defined_body p m (set_body t ts) q h = absurd (cc)

-- ---- one step

-- what is denoted by what the step comes to is denoted
abbrev IsNext : (ms : List Module) → Wanted → Outcome → Type 0
IsNext ms q (reached n) = (z : ℤ) → IsWritten n.negative n.digits z → Denotes ms q.place.«module» q.governor q.amount z
IsNext ms q (wants r) = (z : ℤ) → Denotes ms r.place.«module» r.governor r.amount z → Denotes ms q.place.«module» q.governor q.amount z

beq-true : (a b : Bool) → beq a b ≡ true → a ≡ b
beq-true true true h = refl
beq-true true false h = absurd (cc)
beq-true false true h = absurd (cc)
beq-true false false h = refl

module _ (ms : List Module) (p : Place) (g : Governor) where
  abbrev asked : Amount → Wanted
  asked a = record { place = p; governor = g; amount = a }

  next : (a : Amount) (o r : Outcome) → IsNext ms (asked a) o → ◌≡◌ {A = Result Outcome Error} (Ok o) (Ok r) → IsNext ms (asked a) r
  next a o r h e = subst (IsNext ms (asked a)) (let d : o ≡ r = cc in d) h

  next_written : (negative : Bool) (w : List ℕ) (b : Bool) (o : Outcome) → g.enumerated ≡ b
      → written p b negative w ≡ Ok o → IsNext ms (asked (number negative w)) o
  next_written negative w true o e h = absurd (cc)
  next_written negative w false o e h = next (number negative w) _ o (λ z is. digits p.«module» g negative w z e is) h

  next_numbered : (w : List ℕ) (steps : List Spot) (i : Item) (n : Option Amount) (o : Outcome) → IsItem g w (path_of steps) (Some i)
      → i.number ≡ n → numbered g.«module» i.at n ≡ Ok o → IsNext ms (asked (by_name w steps)) o
  next_numbered w steps i None o is e h = absurd (cc)
  next_numbered w steps i (Some a) o is e h = next (by_name w steps) _ o (λ z d. item p.«module» g w steps i a z is e d) h

  module _ (w : List ℕ) (steps : List Spot) (none : IsItem g w (path_of steps) None) where
    next_kind : (r : Referent) (t : Tree) (ts : List Spot) (q : Wanted) (b : Bool) (o : Outcome)
        → Refers ms p.«module» w steps r.«module» (value_body t ts) → IsValueOf ms r.«module» t ts q
        → beq q.governor.enumerated g.enumerated ≡ b → (if b then Ok (wants q) else error p not_a_number) ≡ Ok o
        → IsNext ms (asked (by_name w steps)) o
    next_kind r t ts q true o refer is e h =
        next (by_name w steps) (wants q) o (λ z d. value p.«module» g q.governor w steps ts r.«module» t q.amount z none refer is.governed
        (beq-true _ _ e) is.writing (subst (λ m. Denotes ms m q.governor q.amount z) is.inside d)) h
    next_kind r t ts q false o refer is e h = absurd (cc)

    next_body : (r : Referent) (d : Result Wanted Error) (o : Outcome) → referred ms p w (path_of steps) ≡ Ok (Some r)
        → r.assignment.parameters ≡ [] → defined_by ms p r.«module» r.assignment.body ≡ d → (d >>= same_kind p g.enumerated) ≡ Ok o
        → IsNext ms (asked (by_name w steps)) o
    next_body r (Err e) o is without by h = absurd (cc)
    next_body r (Ok q) o is without by h =
        let v = defined_body ms p r.«module» r.assignment.body q by in
        next_kind r v.0 v.1 q (beq q.governor.enumerated g.enumerated) o
        (subst (Refers ms p.«module» w steps r.«module») v.2 (refers ms p w steps r is without)) v.3 refl h

    next_defined : (r : Referent) (b : Bool) (o : Outcome) → referred ms p w (path_of steps) ≡ Ok (Some r)
        → none_left r.assignment.parameters ≡ b
        → ((if b then defined_by ms p r.«module» r.assignment.body else error p unsettled) >>= same_kind p g.enumerated) ≡ Ok o
        → IsNext ms (asked (by_name w steps)) o
    next_defined r true o is e h = next_body r (defined_by ms p r.«module» r.assignment.body) o is (none_left-nil _ e) refl h
    next_defined r false o is e h = absurd (cc)

    next_referred : (r : Result (Option Referent) Error) (o : Outcome) → referred ms p w (path_of steps) ≡ r
        → (r >>= valued_by ms p g.enumerated) ≡ Ok o → IsNext ms (asked (by_name w steps)) o
    next_referred (Err e) o is h = absurd (cc)
    next_referred (Ok None) o is h = absurd (cc)
    next_referred (Ok (Some r)) o is h = next_defined r (none_left r.assignment.parameters) o is refl h

    next_valued : (o : Outcome) → valued ms p g.enumerated w (path_of steps) ≡ Ok o → IsNext ms (asked (by_name w steps)) o
    unfolding valued
    next_valued o h = next_referred (referred ms p w (path_of steps)) o refl h

  next_named : (w : List ℕ) (steps : List Spot) (r : Result (Option Item) Error) (o : Outcome) → item_by g w (path_of steps) ≡ r
      → (r >>= named_by ms p g w (path_of steps)) ≡ Ok o → IsNext ms (asked (by_name w steps)) o
  next_named w steps (Err e) o is h = absurd (cc)
  next_named w steps (Ok (Some i)) o is h = next_numbered w steps i i.number o (is_item g w (Some i) (path_of steps) is) refl h
  next_named w steps (Ok None) o is h = next_valued w steps (is_item g w None (path_of steps) is) o h

  next_by : (a : Amount) (o : Outcome) → step_by ms p g a ≡ Ok o → IsNext ms (asked a) o
  next_by (number negative w) o h = next_written negative w g.enumerated o refl h
  next_by (by_name w steps) o h = next_named w steps (item_by g w (path_of steps)) o refl h

-- ---- the whole way

module _ (ms : List Module) where
  reached_by : (k : ℕ) (q : Wanted) (n : Numeral) (z : ℤ) (o : Result Outcome Error)
      → ((r : Wanted) → numeral ms k r ≡ Ok n → Denotes ms r.place.«module» r.governor r.amount z) → IsWritten n.negative n.digits z
      → step ms q ≡ o → (o >>= after (numeral ms k)) ≡ Ok n → Denotes ms q.place.«module» q.governor q.amount z
  unfolding step
  reached_by k q n z (Err e) on is by h = absurd (cc)
  reached_by k q n z (Ok (reached d)) on is by h =
      next_by ms q.place q.governor q.amount (reached d) by z (let e : n ≡ d = cc in subst (λ x. IsWritten x.negative x.digits z) e is)
  reached_by k q n z (Ok (wants r)) on is by h = next_by ms q.place q.governor q.amount (wants r) by z (on r h)

  denotes : (k : ℕ) (q : Wanted) (n : Numeral) (z : ℤ) → numeral ms k q ≡ Ok n → IsWritten n.negative n.digits z
      → Denotes ms q.place.«module» q.governor q.amount z
  unfolding numeral
  denotes zero q n z h is = absurd (cc)
  denotes (suc k) q n z h is = reached_by k q n z (step ms q) (λ r g. denotes k r n z g is) is refl h

  whole_denotes : (q : Wanted) (r : Result Numeral Error) (z : ℤ) → numeral ms 255 q ≡ r → (r >>= whole) ≡ Ok z
      → Denotes ms q.place.«module» q.governor q.amount z
  whole_denotes q (Err e) z is h = absurd (cc)
  whole_denotes q (Ok n) z is h = denotes 255 q n z is (whole_written n z h)

  -- a number that is counted is denoted
  pub counted : (q : Wanted) (z : ℤ) → count ms q ≡ Ok z → Denotes ms q.place.«module» q.governor q.amount z
  unfolding count
  counted q z h = whole_denotes q (numeral ms 255 q) z refl h

  under : (m : ℕ) (t : Tree) (p : Place) (a : Amount) (z : ℤ) (r : Result Governor Error) → governor ms (type_in m t) ≡ r
      → (r >>= λ g. count ms (record { place = p; governor = g; amount = a })) ≡ Ok z
      → (g : Governor) × Governs ms m t g × Denotes ms p.«module» g a z
  under m t p a z (Err e) is h = absurd (cc)
  under m t p a z (Ok g) is h = (g, governs ms m t g is, counted (record { place = p; governor = g; amount = a }) z h)

  -- and so is one under the governor of a type
  pub numbered_under : (m : ℕ) (t : Tree) (p : Place) (a : Amount) (z : ℤ) → number_at ms (type_in m t) p a ≡ Ok z
      → (g : Governor) × Governs ms m t g × Denotes ms p.«module» g a z
  unfolding number_at
  numbered_under m t p a z h = under m t p a z (governor ms (type_in m t)) refl h

-- ---- one number

has_sole : (w : List ℕ) (is : List Item) (o p : Option Item) → Has w is o → Has w is p → o ≡ p
has_sole w _ _ _ nothing nothing = refl
has_sole w _ _ _ (here i is e) (here _ _ _) = refl
has_sole w _ _ _ (here i is e) (later _ _ _ n _) = absurd (n e)
has_sole w _ _ _ (later i is o n h) (here _ _ e) = absurd (n e)
has_sole w _ _ p (later i is o n h) (later _ _ _ _ g) = has_sole w is o p h g

item_sole : (g : Governor) (w : List ℕ) (q : Path) (o p : Option Item) → IsItem g w q o → IsItem g w q p → o ≡ p
item_sole g w own o p h k =
    let e : h.0 ≡ k.0 = (let a = h.1 in let b = k.1 in cc) in
    has_sole w h.0 o p h.2 (subst (λ is. Has w is p) (sym e) k.2)
item_sole g w (within v) o p h k = h ∙ sym k
item_sole g w fields o p h k = h ∙ sym k

writes_sole : (ts : List Spot) (a b : Amount) → Writes ts a → Writes ts b → a ≡ b
writes_sole ts a b h k =
    let e : ◌≡◌ {A = Result (Value × State) Fault} (Ok (atom h.begins (amount a), h.rest)) (Ok (atom k.begins (amount b), k.rest)) =
    sym h.is ∙ k.is in
    let p : ◌≡◌ {A = Value × State} (atom h.begins (amount a), h.rest) (atom k.begins (amount b), k.rest) = cc in
    let v : atom h.begins (amount a) ≡ atom k.begins (amount b) = ap (λ x. x.0) p in
    cc

module _ (ms : List Module) where
  names_sole : (m : ℕ) (w : List ℕ) (q : Path) (f g : Found) → Names ms m w q f → Names ms m w q g → f ≡ g
  names_sole m w own f g h k = let a = stands_finds ms w m f h in let b = stands_finds ms w m g k in cc
  names_sole m w (within v) f g h k = let a = stands_finds_in ms w v m f h in let b = stands_finds_in ms w v m g k in cc
  names_sole m w fields f g h k = absurd h

  refers_sole : (m : ℕ) (w : List ℕ) (steps : List Spot) (n k : ℕ) (b c : Body) → Refers ms m w steps n b → Refers ms m w steps k c
      → (n ≡ k) × (b ≡ c)
  refers_sole m w steps n k b c r s =
      let e = names_sole m w (path_of steps) r.found s.found r.names s.names in
      let a : ◌≡◌ {A = Option Assignment} (Some r.assignment) (Some s.assignment) =
      sym r.is ∙ ap (λ f. slice_get (assignments_in ms f.«module») f.assignment) e ∙ s.is in
      let d : r.assignment ≡ s.assignment = cc in
      (sym r.module_is ∙ ap (λ f. f.«module») e ∙ s.module_is, sym r.body_is ∙ ap (λ x. x.body) d ∙ s.body_is)

  plain_sole : (m n k at by : ℕ) (b c : Builtin) (is js cs ds : List Spot) (t : Tree) (gs hs : List Given)
      → Means ms m t (type_in n (plain at b is cs)) gs → Means ms m t (type_in k (plain by c js ds)) hs → (n ≡ k) × (b ≡ c) × (is ≡ js)
  plain_sole m n k at by b c is js cs ds t gs hs h g =
      let e = (sole ms m t _ _ gs hs h g).0 in
      let p : plain at b is cs ≡ plain by c js ds = ap (λ u. u.type) e in
      (ap (λ u. u.«module») e, cc, cc)

  governor_same : (n k : ℕ) (b : Bool) (is js : List Spot) → n ≡ k → is ≡ js
      → ◌≡◌ {A = Governor} (record { «module» = n; enumerated = b; items = is }) (record { «module» = k; enumerated = b; items = js })
  governor_same n k b is js e f = cc

  governs_sole : (m : ℕ) (t : Tree) (g h : Governor) → Governs ms m t g → Governs ms m t h → g ≡ h
  governs_sole m t _ _ (by_integer n at is cs gs a) (by_integer k by js ds hs b) =
      let p = plain_sole m n k at by bi.Integer bi.Integer is js cs ds t gs hs a b in governor_same n k false is js p.0 p.2
  governs_sole m t _ _ (by_integer n at is cs gs a) (by_enumerated k by js ds hs b) =
      let p = (plain_sole m n k at by bi.Integer bi.Enumerated is js cs ds t gs hs a b).1 in absurd (cc)
  governs_sole m t _ _ (by_enumerated n at is cs gs a) (by_integer k by js ds hs b) =
      let p = (plain_sole m n k at by bi.Enumerated bi.Integer is js cs ds t gs hs a b).1 in absurd (cc)
  governs_sole m t _ _ (by_enumerated n at is cs gs a) (by_enumerated k by js ds hs b) =
      let p = plain_sole m n k at by bi.Enumerated bi.Enumerated is js cs ds t gs hs a b in governor_same n k true is js p.0 p.2

  -- a value's governor and amount
  value_sole : (n k : ℕ) (t u : Tree) (ts us : List Spot) (g h : Governor) (a b : Amount) → n ≡ k → value_body t ts ≡ value_body u us
      → Governs ms n t g → Governs ms k u h → Writes ts a → Writes us b → (g ≡ h) × (a ≡ b)
  value_sole n k t u ts us g h a b e f p q r s =
      let tu : t ≡ u = cc in
      let same : ts ≡ us = cc in (
        governs_sole n t g h p (subst (λ x. Governs ms n x h) (sym tu) (subst (λ x. Governs ms x u h) (sym e) q)),
        writes_sole ts a b r (subst (λ x. Writes x b) (sym same) s),
      )

  pub denoted_sole : (m : ℕ) (g : Governor) (a : Amount) (y z : ℤ) → Denotes ms m g a y → Denotes ms m g a z → y ≡ z
  denoted_sole _ _ _ _ _ (digits m g negative w y e h) (digits _ _ _ _ z _ k) = h.is ∙ sym k.is
  denoted_sole _ _ _ _ z (item m g w steps i a y is n d) (item _ _ _ _ j b _ js k f) =
      let e : ◌≡◌ {A = Option Item} (Some i) (Some j) = item_sole g w (path_of steps) (Some i) (Some j) is js in
      let ij : i ≡ j = cc in
      let p : ◌≡◌ {A = Option Amount} (Some a) (Some b) = sym n ∙ ap (λ x. x.number) ij ∙ k in
      let ab : a ≡ b = cc in
      denoted_sole g.«module» (bare g.«module») a y z d (subst (λ x. Denotes ms g.«module» (bare g.«module») x z) (sym ab) f)
  denoted_sole _ _ _ _ _ (item m g w steps i a y is n d) (value _ _ h _ _ ts k t b z none r o q s f) =
      let e = item_sole g w (path_of steps) (Some i) None is none in absurd (cc)
  denoted_sole _ _ _ _ _ (value m g h w steps ts n t a y none r o q s d) (item _ _ _ _ j b z js k f) =
      let e = item_sole g w (path_of steps) None (Some j) none js in absurd (cc)
  denoted_sole _ _ _ _ z (value m g h w steps ts n t a y none r o q s d) (value _ _ i _ _ us k u b _ more x p l v f) =
      let e = refers_sole m w steps n k (value_body t ts) (value_body u us) r x in
      let c = value_sole n k t u ts us h i a b e.0 e.1 o p s v in
      denoted_sole n h a y z d
      (subst (λ x. Denotes ms x h a z) (sym e.0) (subst (λ x. Denotes ms k x a z) (sym c.0) (subst (λ x. Denotes ms k i x z) (sym c.1) f)))

  pub one_number : (m n : ℕ) (t : Tree) (g h : Governor) (a : Amount) (y z : ℤ) → Governs ms m t g → Governs ms m t h
      → Denotes ms n g a y → Denotes ms n h a z → y ≡ z
  one_number m n t g h a y z p q d e =
      denoted_sole n g a y z d (subst (λ x. Denotes ms n x a z) (sym (governs_sole m t g h p q)) e)
