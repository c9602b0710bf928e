-- What a reader of the program does, compared with reading out of a list.
use Rattle.std.specs.Prelude.{◌≡◌, ◌≢◌, ℕ, ◌+◌, ◌-◌, ◌<◌, ◌≤◌, Bool, true, false, List, ◌++◌, length, Option, Some, None, Result, Ok, Err, IfErr, OnOk, ⊤}
use Rattle.std.specs.List.{AllByRecursion}
use Rattle.std.specs.Borrow.{GName}
use Rattle.oer_units.specs.declared.fault.Why.{Why}
use Rattle.oer_units.specs.declared.fault.Why.TheVariants.{Device, Memory}
use Rattle.oer_units.specs.declared.fault.ReadFault.{ReadFault}
use Rattle.oer_units.specs.Reader.{Place, at, Outcome, got, refused, Reader, named_inside}
use Rattle.oer_units.specs.declared.bound.Bound.{Bound}
use Rattle.oer_units.specs.declared.window.Window.{Window}
use Rattle.oer_units.specs.declared.window.Outer.{Outer}
use Rattle.oer_units.specs.Stream.{one_more}

-- how far a reader may be read: the octets taken so far, and where the bound in force and the limit end
pub record Span : Type 0 where
  pub taken : ℕ
  pub end : ℕ
  pub limit : ℕ
  pub inside : Bool

abbrev pub span : Bound → Span
span b = record { taken = b.taken; end = b.end; limit = b.limit; inside = b.is_inside }

-- how many octets the bound in force still allows
abbrev pub left_of : Span → ℕ
left_of b = b.end - b.taken

-- the place of a window whose reader has these octets left
abbrev pub place : List ℕ → Span → Place
place xs b = at xs (left_of b)

-- Inside an open type, what passes the bound is refused as Window.
abbrev pub named : Bool → Why → Why
named false why = why
named true why = named_inside why

abbrev pub renamed : {A : Type 0} → Bool → Outcome A → Outcome A
renamed inside (got x q) = got x q
renamed inside (refused why rest) = refused (named inside why) rest

-- an answer, its value as f shows it
abbrev pub seen : {A B : Type 0} → (A → B) → Result A ReadFault → Result B ReadFault
seen f (Ok x) = Ok (f x)
seen f (Err e) = Err e

abbrev pub count_after : ℕ → Why → ℕ
count_after n Device = one_more n
count_after n _ = n

-- the count of failures after a call: one more where it answers Device
abbrev pub counted : {A : Type 0} → ℕ → Result A ReadFault → ℕ
counted n (Ok x) = n
counted n (Err e) = count_after n e.why

-- The octets from old to new are t, for which P holds.
abbrev pub Took : Option (List ℕ) → Option (List ℕ) → (List ℕ → Type 0) → Type 0
Took None new P = ⊤
Took (Some xs) None P = ⊥
Took (Some xs) (Some ys) P = (t : List ℕ) × (xs ≡ t ++ ys) × AllByRecursion (λ x. x < 256) t × P t

-- The answer is what reading out of the list gives, unless the device failed or memory ran out.
abbrev pub Gives : {A : Type 0} → Outcome A → Result A ReadFault → List ℕ → Span → Type 0
Gives o (Ok x) ys b = o ≡ got x (place ys b)
Gives o (Err e) ys b = e.why ≢ Device → e.why ≢ Memory → o ≡ refused e.why ys

abbrev pub Exactly : {A : Type 0} → Reader A → Option (List ℕ) → Span → Result A ReadFault → Option (List ℕ) → Span → Type 0
Exactly r None b result new b' = ⊤
Exactly r (Some xs) b result None b' = ⊥
Exactly r (Some xs) b result (Some ys) b' = Gives (renamed b.inside (r (place xs b))) result ys b'

-- At Ok there are octets that r reads as the answer, whatever follows them: those that were taken, whether they were known before or not.
abbrev pub Made : {A : Type 0} → Reader A → Span → Result A ReadFault → Span → Type 0
Made r b (Ok x) b' = (t : List ℕ) × AllByRecursion (λ y. y < 256) t × (b.taken + length t ≡ b'.taken)
    × ((rest : List ℕ) → Exactly r (Some (t ++ rest)) b (Ok x) (Some rest) b')
Made r b (Err e) b' = ⊤

-- what stays of a bound while octets are taken
pub record Keeps (b b' : Span) : Type 0 where
  pub end : b'.end ≡ b.end
  pub limit : b'.limit ≡ b.limit
  pub inside : b'.inside ≡ b.inside
  pub grows : b.taken ≤ b'.taken

-- a window as contracts see it: the name of its loan, that of the loan inside its reader, if there is one, the octets that
-- its reader has left, where they are known, its count of failures, and the bound
pub record State : Type 0 where
  pub name : GName
  pub loan : Option GName
  pub known : Option (List ℕ)
  pub failed : ℕ
  pub bound : Span

abbrev pub bound_of : {R : Type 0} → Window R → Span
bound_of w = span w.bound

abbrev pub state : {R : Type 0} → (R → Option GName) → (R → Option (List ℕ)) → (R → ℕ) → Window R → State
state loan remaining failed w = record {
  name = w.reader.ghost_name;
  loan = loan w.reader.now;
  known = remaining w.reader.now;
  failed = failed w.reader.now;
  bound = bound_of w;
}

-- From old to new a call reads as r does, and answers result. Where it is refused inside an open type, that one's bound
-- may still be in force.
pub record Reads {A : Type 0} (r : Reader A) (old : State) (result : Result A ReadFault) (new : State) : Type 0 where
  -- at any reader
  pub reader : new.name ≡ old.name
  pub loan : new.loan ≡ old.loan
  pub kept : OnOk result (Keeps old.bound new.bound)
  pub limit : new.bound.limit ≡ old.bound.limit
  pub within : old.bound.taken ≤ old.bound.end → new.bound.taken ≤ old.bound.end
  pub count : new.failed ≡ counted old.failed result
  pub fault : IfErr result (λ e. e.taken ≡ new.bound.taken)
  pub made : Made r old.bound result new.bound
  -- where its octets are known
  pub took : Took old.known new.known (λ t. old.bound.taken + length t ≡ new.bound.taken)
  pub exact : Exactly r old.known old.bound result new.known new.bound

-- What r reads from now on makes, seen by f, what whole reads from old on.
abbrev pub Leads : {A B : Type 0} → Reader A → State → (A → B) → Reader B → State → Type 0
Leads {A} r now f whole old = (result : Result A ReadFault) (then : State) → Reads r now result then → Reads whole old (seen f result) then

-- No growth of memory was refused.
abbrev pub TakesNoMemory : {A : Type 0} → Result A ReadFault → Type 0
TakesNoMemory result = IfErr result (λ e. e.why ≢ Memory)

-- the bound that `enter` handed out: where it ends, and whether it is that of an open type
abbrev pub end_of : Outer → ℕ
end_of outer = outer.end

abbrev pub was_inside : Outer → Bool
was_inside outer = outer.is_inside

-- an open type of n octets begins
abbrev pub entered : ℕ → State → State
entered n s = record {
  name = s.name;
  loan = s.loan;
  known = s.known;
  failed = s.failed;
  bound = record { taken = s.bound.taken; end = s.bound.taken + n; limit = s.bound.limit; inside = true };
}

-- the bound is put back
abbrev pub returned : ℕ → Bool → State → State
returned end inside s = record {
  name = s.name;
  loan = s.loan;
  known = s.known;
  failed = s.failed;
  bound = record { taken = s.bound.taken; end = end; limit = s.bound.limit; inside = inside };
}

-- a window that was just made
abbrev pub start : GName → Option GName → Option (List ℕ) → ℕ → ℕ → State
start name loan known failed limit = record {
  name = name;
  loan = loan;
  known = known;
  failed = failed;
  bound = record { taken = 0; end = limit; limit = limit; inside = false };
}

-- A call reads as r does from the front of a reader, under a limit.
pub record ReadsFront {A : Type 0} (r : Reader A) (limit : ℕ) (known : Option (List ℕ)) (failed : ℕ) (result : Result A ReadFault)
    (known' : Option (List ℕ)) (failed' : ℕ) : Type 0 where
  pub name : GName
  pub loan : Option GName
  pub bound : Span
  pub within : bound.taken ≤ limit
  pub reads : Reads r (start name loan known failed limit) result (record
      { name = name; loan = loan; known = known'; failed = failed'; bound = bound })
