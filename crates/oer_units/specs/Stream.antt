-- What a call of a source or a sink does to its count of failures.
use Rattle.std.specs.Prelude.{ℕ, ◌+◌, ◌-◌, ◌^◌, ◌==◌, if◌then◌else◌, min, List, [], ◌∷◌, Result, Ok, Err}
use Rattle.std.specs.Borrow.{GName}
use Rattle.oer_units.specs.declared.stream.Lent.{Lent}
use Rattle.oer_units.specs.declared.stream.Metered.{Metered}

-- one more, up to `u64::MAX`
abbrev pub one_more : ℕ → ℕ
one_more n = min (n + 1) (2 ^ 64 - 1)

-- the count after a read: one more at an error
abbrev pub counted_read : {E : Type 0} → ℕ → Result ℕ E → ℕ
counted_read n (Ok taken) = n
counted_read n (Err e) = one_more n

-- the count after a write that took t of the octets: one more where it took none of one or more
abbrev pub count_taken : ℕ → ℕ → List ℕ → ℕ
count_taken n t [] = n
count_taken n t (x ∷ xs) = if t == 0 then one_more n else n

-- the count after a write: the same, and one more at an error
abbrev pub counted_write : {E : Type 0} → ℕ → Result ℕ E → List ℕ → ℕ
counted_write n (Ok t) xs = count_taken n t xs
counted_write n (Err e) xs = one_more n

-- what is metered
abbrev pub inner_of : {T : Type 0} → Metered T → T
inner_of m = m.inner

-- how many calls of it failed
abbrev pub failures_of : {T : Type 0} → Metered T → ℕ
failures_of m = m.count

-- the reader that was lent, as it stands
abbrev pub lent_by : {R : Type 0} → Lent R → R
lent_by l = l.reader.now

-- the name of that loan
abbrev pub loan_of : {R : Type 0} → Lent R → GName
loan_of l = l.reader.ghost_name

-- how many calls of it failed
abbrev pub failures_of_lent : {R : Type 0} → Lent R → ℕ
failures_of_lent l = l.count
