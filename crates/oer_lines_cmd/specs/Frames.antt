-- The messages of the input that stand each behind its length.
use Rattle.std.specs.Prelude.{◌≡◌, ◌≤◌, ◌<◌, ℕ, zero, suc, ◌+◌, List, [], ◌∷◌, ◌++◌, length, take, drop, leb, Bool, true, false, Option, Result, Ok, Err, IfSome, if◌then◌else◌, ⊤}
use Rattle.std.specs.Io.KnownBytes.{Consumes, IsAtEnd}
use Rattle.oer_units.specs.Numbers.{unsigned}
use Rattle.oer_lines_cmd.specs.declared.failure.Failure.{Failure}
use Rattle.oer_lines_cmd.specs.declared.frames.Taken.{Taken}
use Rattle.oer_lines_cmd.specs.declared.frames.Taken.TheVariants as taken

-- a message behind its length, or how many octets of these there are where the input ends within them
pub data Frame : Type 0 where
  whole : List ℕ → Frame
  cut : ℕ → Frame

-- how many octets the first frame takes, whose length has n octets
abbrev pub frame_size : ℕ → List ℕ → ℕ
frame_size n xs = n + unsigned (take n xs)

-- the first k frames of octets, or all of them, where they are fewer
abbrev pub first_frames : ℕ → ℕ → List ℕ → List Frame
first_frames zero n xs = []
first_frames (suc k) n [] = []
first_frames (suc k) n (x ∷ xs) =
    let octets : List ℕ = x ∷ xs in
    let size : ℕ = frame_size n octets in
    if leb size (length octets) then whole (drop n (take size octets)) ∷ first_frames k n (drop size octets) else cut (length octets) ∷ []

-- The frames of octets, one after the other to their end. Each is a length of n octets, the most significant first, and as many octets as
-- it says.
abbrev pub frames : ℕ → List ℕ → List Frame
frames n xs = first_frames (length xs) n xs

-- Known octets lost so many, which these are, or all that they were, where they were fewer.
abbrev pub TakesUpTo : ℕ → Option (List ℕ) → Option (List ℕ) → List ℕ → Type 0
TakesUpTo count old new b = (length b ≤ count) × Consumes old new b × (length b < count → IfSome old (λ xs. IsAtEnd new))

-- The same of octets of which only the number is told.
abbrev pub PassesUpTo : ℕ → Option (List ℕ) → Option (List ℕ) → ℕ → Type 0
PassesUpTo count old new passed = (b : List ℕ) × (length b ≡ passed) × TakesUpTo count old new b

-- The same of a message of this size, which is kept where it is no longer than the limit.
abbrev pub TakesMessage : ℕ → ℕ → Option (List ℕ) → Option (List ℕ) → List ℕ → ℕ → Type 0
TakesMessage size limit old new message there =
    (b : List ℕ) × (length b ≡ there) × TakesUpTo size old new b × (size ≤ limit → message ≡ b)

-- Known octets lost their first frame, whose message is this one: none is left, or the frame is whole, or longer than the limit, or cut.
abbrev pub TakesFrame : ℕ → ℕ → Option (List ℕ) → Option (List ℕ) → List ℕ → Result Taken Failure → Type 0
TakesFrame n limit old new message (Ok taken.End) = Consumes old new [] × IfSome old (λ xs. IsAtEnd new)
TakesFrame n limit old new message (Ok taken.Whole) =
    (head : List ℕ) × (length head ≡ n) × (unsigned head ≡ length message) × (length message ≤ limit) × Consumes old new (head ++ message)
TakesFrame n limit old new message (Ok taken.Long) =
    (head : List ℕ) × (b : List ℕ) × (length head ≡ n) × (unsigned head ≡ length b) × (limit < length b) × Consumes old new (head ++ b)
TakesFrame n limit old new message (Ok (taken.Cut there)) =
    (b : List ℕ) × (length b ≡ there) × (1 ≤ there) × (there < frame_size n b) × Consumes old new b × IfSome old (λ xs. IsAtEnd new)
TakesFrame n limit old new message (Err failure) = ⊤

-- whether nothing can follow on the input
abbrev pub is_last : Taken → Bool
is_last taken.End = true
is_last taken.Whole = false
is_last taken.Long = false
is_last (taken.Cut there) = true
