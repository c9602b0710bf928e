-- Which whole number a value is (X.680, 14.1, 19.9 to 19.12).
use Rattle.std.specs.Prelude.{◌≡◌, ℕ, zero, suc, ℤ, List, [], ◌∷◌, ◌++◌, Bool, true, false, Option, Some, None, Result, Ok, if◌then◌else◌}
use Rattle.std.specs.Bool.{beq}
use Rattle.std.specs.Str.{bytes_eq}
use Rattle.oer_module_lexer.specs.Token.{Spot}
use Rattle.oer_module_names.specs.declared.error.Place.{Place}
use Rattle.oer_module_syntax.specs.Modules.{none_left}
use Rattle.oer_module_syntax.specs.State.{State, place}
use Rattle.oer_module_syntax.specs.Tree.{Module, Body, type_body, set_body, value_body, class_body}
use Rattle.oer_module_syntax.specs.Tree.{Tree, plain, named}
use Rattle.oer_module_syntax.specs.declared.word.Builtin.TheVariants as bi
use Rattle.oer_module_terms.specs.Items.{enumeration_at, items_at}
use Rattle.oer_module_terms.specs.Trees.{Amount, number, named as by_name, amount, Value, atom, Item, More, Enumeration}
use Rattle.oer_module_terms.specs.Values.{value_at}
use Rattle.oer_module_terms.specs.declared.item.Numbering.TheVariants.{Signed}
use Rattle.oer_module_values.specs.Digits.{IsWritten, whole_of}
use Rattle.oer_module_values.specs.Errors.{Error, error, place_in, in_module, circular, not_a_value, not_a_number, unnumbered}
use Rattle.oer_module_values.specs.Errors.{unsettled, too_large, ◌>>=◌}
use Rattle.oer_module_values.specs.Kept.{kept}
use Rattle.oer_module_values.specs.Looks.{Path, own, within, fields, path_of, place_of}
use Rattle.oer_module_values.specs.Types.{TypeIn, type_in, Referent, Given, Refers, Means, meaning, referred}

-- what governs a number: an INTEGER, or an ENUMERATED, with the items in braces, in a module
pub record Governor : Type 0 where
  pub «module» : ℕ
  pub enumerated : Bool
  pub items : List Spot

-- an INTEGER without items
abbrev pub bare : ℕ → Governor
bare m = record { «module» = m; enumerated = false; items = [] }

-- ---- items

abbrev pub more_items : Option More → List Item
more_items None = []
more_items (Some m) = m.items

abbrev pub all_items : Enumeration → List Item
all_items e = e.root ++ more_items e.more

-- the items of an INTEGER (19.1), and those of an ENUMERATED (20.1)
abbrev pub integer_items : Governor → Result (List Item) Error
integer_items g = in_module g.«module» (items_at Signed (kept g.items)) >>= λ is. Ok is.0

abbrev pub enumeration_items : Governor → Result (List Item) Error
enumeration_items g = in_module g.«module» (enumeration_at (kept g.items)) >>= λ e. Ok (all_items e.0)

-- the items of a governor, in their order
abbrev pub items_of : Governor → Result (List Item) Error
items_of g = if none_left g.items then Ok [] else if g.enumerated then enumeration_items g else integer_items g

-- ---- the relation

-- the first item of that name, or none of them
pub data Has (w : List ℕ) : List Item → Option Item → Type 0 where
  nothing : Has w [] None
  here : (i : Item) (is : List Item) → i.name ≡ w → Has w (i ∷ is) (Some i)
  later : (i : Item) (is : List Item) (o : Option Item) → ¬ (i.name ≡ w) → Has w is o → Has w (i ∷ is) o

-- what the name and the path behind it are among the items of a governor; a path is none of them
abbrev pub IsItem : Governor → List ℕ → Path → Option Item → Type 0
IsItem g w own o = (is : List Item) × (items_of g ≡ Ok is) × Has w is o
IsItem g w (within v) o = o ≡ None
IsItem g w fields o = o ≡ None

-- an amount in a module, at a place, and what governs it
pub record Wanted : Type 0 where
  pub place : Place
  pub governor : Governor
  pub amount : Amount

-- digits at a place, and whether a hyphen stands before them
pub record Numeral : Type 0 where
  pub place : Place
  pub negative : Bool
  pub digits : List ℕ

pub data Outcome : Type 0 where
  reached : Numeral → Outcome
  wants : Wanted → Outcome

-- tokens that are a number, or the name of a value, and nothing else; values may nest to 64 levels in it
pub record Writes (ts : List Spot) (a : Amount) : Type 0 where
  pub begins : ℕ
  pub rest : State
  pub is : value_at 64 (kept ts) ≡ Ok (atom begins (amount a), rest)
  pub done : rest.left ≡ []

module _ (ms : List Module) where
  -- a type in a module is, or stands for, what governs a number (3.8)
  pub data Governs (m : ℕ) (t : Tree) : Governor → Type 0 where
    by_integer : (n at : ℕ) (items cs : List Spot) (gs : List Given) → Means ms m t (type_in n (plain at bi.Integer items cs)) gs
        → Governs m t (record { «module» = n; enumerated = false; items = items })
    by_enumerated : (n at : ℕ) (items cs : List Spot) (gs : List Given) → Means ms m t (type_in n (plain at bi.Enumerated items cs)) gs
        → Governs m t (record { «module» = n; enumerated = true; items = items })

  -- The whole number that an amount in a module is under a governor: that of its digits; that of the item which it names;
  -- or else that of the value for which it stands, whose governor is of the same kind. An item's number has no items.
  pub data Denotes : ℕ → Governor → Amount → ℤ → Type 0 where
    digits : (m : ℕ) (g : Governor) (negative : Bool) (w : List ℕ) (z : ℤ) → g.enumerated ≡ false → IsWritten negative w z
        → Denotes m g (number negative w) z
    item : (m : ℕ) (g : Governor) (w : List ℕ) (steps : List Spot) (i : Item) (a : Amount) (z : ℤ)
        → IsItem g w (path_of steps) (Some i) → i.number ≡ Some a → Denotes g.«module» (bare g.«module») a z
        → Denotes m g (by_name w steps) z
    value : (m : ℕ) (g h : Governor) (w : List ℕ) (steps ts : List Spot) (n : ℕ) (t : Tree) (a : Amount) (z : ℤ)
        → IsItem g w (path_of steps) None → Refers ms m w steps n (value_body t ts) → Governs n t h → h.enumerated ≡ g.enumerated
        → Writes ts a → Denotes n h a z → Denotes m g (by_name w steps) z

-- ---- as the code has it

-- what a type that is no reference governs
abbrev pub governor_by : ℕ → Tree → Result Governor Error
governor_by m (plain at bi.Integer items cs) = Ok (record { «module» = m; enumerated = false; items = items })
governor_by m (plain at bi.Enumerated items cs) = Ok (record { «module» = m; enumerated = true; items = items })
governor_by m (named at _ _ _ _) = error (place_in m at) unsettled
governor_by m t = error (place_in m (place_of t)) not_a_number

-- the first item of that name
abbrev pub item_named : List ℕ → List Item → Option Item
item_named w [] = None
item_named w (i ∷ is) = if bytes_eq i.name w then Some i else item_named w is

abbrev pub named_number : Governor → List ℕ → Result (Option Item) Error
named_number g w = in_module g.«module» (items_at Signed (kept g.items)) >>= λ is. Ok (item_named w is.0)

abbrev pub enumeration_item : Governor → List ℕ → Result (Option Item) Error
enumeration_item g w = in_module g.«module» (enumeration_at (kept g.items)) >>= λ e. Ok (item_named w (all_items e.0))

unfoldable pub own_item : Governor → List ℕ → Result (Option Item) Error
own_item g w = if none_left g.items then Ok None else if g.enumerated then enumeration_item g w else named_number g w

abbrev pub item_by : Governor → List ℕ → Path → Result (Option Item) Error
item_by g w own = own_item g w
item_by g w (within v) = Ok None
item_by g w fields = Ok None

abbrev pub written : Place → Bool → Bool → List ℕ → Result Outcome Error
written p enumerated negative w =
    if enumerated then error p not_a_number else Ok (reached (record { place = p; negative = negative; digits = w }))

abbrev pub numbered : ℕ → ℕ → Option Amount → Result Outcome Error
numbered m at None = error (place_in m at) unnumbered
numbered m at (Some a) = Ok (wants (record { place = place_in m at; governor = bare m; amount = a }))

-- the number that these tokens are
abbrev pub amount_by : Place → Value → Result Amount Error
amount_by p (atom at (amount a)) = Ok a
amount_by p v = error p not_a_number

abbrev pub amount_read : ℕ → Place → Value × State → Result Amount Error
amount_read m p (v, s) = if none_left s.left then amount_by p v else error (place_in m (place s)) unsettled

-- where the first of these tokens stands
abbrev pub place_of_first : ℕ → List Spot → Place
place_of_first m ts = place_in m (place (kept ts))

unfoldable pub amount_in : ℕ → List Spot → Result Amount Error
amount_in m ts = in_module m (value_at 64 (kept ts)) >>= amount_read m (place_of_first m ts)

abbrev pub same_kind : Place → Bool → Wanted → Result Outcome Error
same_kind p enumerated q = if beq q.governor.enumerated enumerated then Ok (wants q) else error p not_a_number

abbrev pub after : (Wanted → Result Numeral Error) → Outcome → Result Numeral Error
after more (reached n) = Ok n
after more (wants q) = more q

abbrev pub fitting : Place → Option ℤ → Result ℤ Error
fitting p None = error p too_large
fitting p (Some z) = Ok z

abbrev pub whole : Numeral → Result ℤ Error
whole n = fitting n.place (whole_of n.negative n.digits)

module _ (ms : List Module) where
  unfoldable pub governor : TypeIn → Result Governor Error
  governor t = meaning ms t >>= λ r. governor_by r.of.«module» r.of.type

  -- the value of an assignment in a module
  unfoldable pub value_in : ℕ → Tree → List Spot → Result Wanted Error
  value_in m t ts = do
    g ← governor (type_in m t)
    a ← amount_in m ts
    Ok (record { place = place_of_first m ts; governor = g; amount = a })

  abbrev pub defined_by : Place → ℕ → Body → Result Wanted Error
  defined_by p m (value_body t ts) = value_in m t ts
  defined_by p m (type_body t) = error p not_a_value
  defined_by p m (class_body _ _) = error p not_a_value
  defined_by p m (set_body _ _) = error p not_a_value

  abbrev pub defined : Place → Referent → Result Wanted Error
  defined p r = if none_left r.assignment.parameters then defined_by p r.«module» r.assignment.body else error p unsettled

  abbrev pub valued_by : Place → Bool → Option Referent → Result Outcome Error
  valued_by p enumerated None = error p unsettled
  valued_by p enumerated (Some r) = defined p r >>= same_kind p enumerated

  unfoldable pub valued : Place → Bool → List ℕ → Path → Result Outcome Error
  valued p enumerated w path = referred ms p w path >>= valued_by p enumerated

  abbrev pub named_by : Place → Governor → List ℕ → Path → Option Item → Result Outcome Error
  named_by p g w path (Some i) = numbered g.«module» i.at i.number
  named_by p g w path None = valued p g.enumerated w path

  abbrev pub step_by : Place → Governor → Amount → Result Outcome Error
  step_by p g (number negative w) = written p g.enumerated negative w
  step_by p g (by_name w steps) = item_by g w (path_of steps) >>= named_by p g w (path_of steps)

  unfoldable pub step : Wanted → Result Outcome Error
  step q = step_by q.place q.governor q.amount

  -- the digits to which what is wanted comes, in so many steps
  unfoldable pub numeral : ℕ → Wanted → Result Numeral Error
  numeral zero q = error q.place circular
  numeral (suc steps) q = step q >>= after (numeral steps)

  -- the number that is wanted
  unfoldable pub count : Wanted → Result ℤ Error
  count q = numeral 255 q >>= whole

  -- the whole number that an amount at a place is, under no governor but that it is an INTEGER
  abbrev pub integer_at : Place → Amount → Result ℤ Error
  integer_at p a = count (record { place = p; governor = bare p.«module»; amount = a })

  -- and under the governor that a type is
  unfoldable pub number_at : TypeIn → Place → Amount → Result ℤ Error
  number_at t p a = governor t >>= λ g. count (record { place = p; governor = g; amount = a })

  abbrev pub given_by : Place → Option Amount → Result (Option ℤ) Error
  given_by p None = Ok None
  given_by p (Some a) = integer_at p a >>= λ z. Ok (Some z)

  -- the number that an item of an ENUMERATED is given, if it is given one
  abbrev pub given_number : ℕ → Item → Result (Option ℤ) Error
  given_number m i = given_by (place_in m i.at) i.number

  -- the numbers that items are given
  abbrev pub given_numbers : ℕ → List Item → Result (List (Option ℤ)) Error
  given_numbers m [] = Ok []
  given_numbers m (i ∷ more) = given_number m i >>= λ n. given_numbers m more >>= λ ns. Ok (n ∷ ns)
