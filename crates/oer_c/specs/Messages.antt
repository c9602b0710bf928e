-- What the call that checks many messages answers.
use Rattle.std.specs.Prelude.{◌≡◌, ◌<◌, ◌≤◌, ◌+◌, ℕ, List, length, slice_index_or, ◌⊎◌}
use Rattle.std.specs.List.{between}
use Rattle.oer_model.specs.AsnType.{AsnType}
use Rattle.oer_c.specs.Checking.{IsChecked, only}
use Rattle.oer_c.specs.declared.check.Checked.{Checked}
use Rattle.oer_c.specs.declared.many.Message.{Message}

-- the place after the message
abbrev pub end : Message → ℕ
end m = m.at + m.length

-- The answer is that of the message alone; or its octets aren't all there.
abbrev pub IsAnswered : AsnType → List ℕ → Message → Checked → Type 0
IsAnswered T octets m a = (end m ≤ length octets → IsChecked T (between m.at (end m) octets) a)
    × (length octets < end m → a ≡ only 10)

-- Each message has its answer at its place, and the answers after these are as before.
abbrev pub AreAnswered : AsnType → List ℕ → List Message → List Checked → List Checked → Type 0
AreAnswered T octets messages old new =
    ((k : ℕ) (m : Message) (a : Checked) → k < length messages
    → IsAnswered T octets (slice_index_or messages k m) (slice_index_or new k a))
    × ((k : ℕ) (a : Checked) → length messages ≤ k → slice_index_or new k a ≡ slice_index_or old k a)

-- All messages are answered; or there is room for too few answers, and all is as before.
abbrev pub AnswersAll : AsnType → List ℕ → List Message → List Checked → List Checked → ℕ → Type 0
AnswersAll T octets messages old new status =
    ((status ≡ 0) × (length messages ≤ length old) × AreAnswered T octets messages old new)
    ⊎ ((status ≡ 5) × (length old < length messages) × (new ≡ old))

-- nothing but this status is answered, and the answers are as before
abbrev pub AreUnanswered : List Checked → List Checked → ℕ → ℕ → Type 0
AreUnanswered old new status wanted = (status ≡ wanted) × (new ≡ old)
