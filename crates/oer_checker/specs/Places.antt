-- Cursors over the octets that are checked: for which place each stands, and what a reader of the program answers there.
use Rattle.std.specs.Prelude.{◌-◌, ℕ, Bool, drop, Result, Ok, Err}
use Rattle.oer_units.specs.Reader.{Outcome, Place, at, got, refused}
use Rattle.oer_units.specs.declared.fault.ReadFault.{ReadFault}
use Rattle.oer_checker.specs.declared.cursor.Cursor.{Cursor}
use Rattle.oer_checker.specs.declared.lengths.Counted.{Counted}
use Rattle.oer_checker.specs.declared.stop.Stop.{Stop}

-- the octets that are left, and how many of them the bound in force still allows
abbrev pub place_of : Cursor → Place
place_of p = at p.rest.now p.left

-- an answer, its value as f shows it, and where the cursor is after it
abbrev pub outcome : {A B : Type 0} → (A → B) → Result A Stop → Cursor → Outcome B
outcome f (Ok y) after = got (f y) (place_of after)
outcome f (Err s) after = refused s.why after.rest.now

abbrev pub same : {A : Type 0} → A → A
same x = x

-- a number that was read, and whether it was in its least form
abbrev pub counted_as : Counted → ℕ × Bool
counted_as c = (c.count, c.is_least)

-- what a reader answers at p that took so many octets, or was refused
abbrev pub ended : {A : Type 0} → Place → Result A ReadFault → ℕ → Outcome A
ended p (Ok x) taken = got x (at (drop taken p.input) (p.left - taken))
ended p (Err e) taken = refused e.why (drop e.taken p.input)
