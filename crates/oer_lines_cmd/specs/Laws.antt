-- Laws of the messages that stand behind their lengths.
use Rattle.std.specs.Prelude.{◌≡◌, ◌≤◌, ◌<◌, ℕ, List, [], ◌∷◌, ◌++◌, length, Bool, true, false}
use Rattle.oer_model.specs.AsnType.{AsnType}
use Rattle.oer_model.specs.Parts.{Step}
use Rattle.oer_units.specs.Numbers.{unsigned}
use Rattle.oer_cmd.specs.Expected.{Expected}
use Rattle.oer_lines_cmd.specs.Frames.{Frame, cut, frame_size, frames, whole}
use Rattle.oer_lines_cmd.specs.Tasks.{long_answer, octets_told}
use Rattle.oer_lines_cmd.specs.declared.task.LineTask.{LineTask}
use Rattle.oer_lines_cmd.specs.declared.task.LineTask.TheVariants.{Canon, Check, Part, Show}

-- The octets are these frames, one after the other: each length has n octets and stands for the number of octets of the message behind it.
-- Of the last one some octets may be missing.
abbrev pub AreFrames : ℕ → List ℕ → List Frame → Type 0
AreFrames n xs [] = xs ≡ []
AreFrames n xs (whole b ∷ fs) =
    (head : List ℕ) × (rest : List ℕ) × (length head ≡ n) × (unsigned head ≡ length b) × (xs ≡ (head ++ b) ++ rest) × AreFrames n rest fs
AreFrames n xs (cut there ∷ fs) = (length xs ≡ there) × (1 ≤ there) × (there < frame_size n xs) × (fs ≡ [])

-- The octets are their frames, and no others.
abbrev pub FramesAreOne : Type 0
FramesAreOne = (n : ℕ) (xs : List ℕ) → 1 ≤ n → AreFrames n xs (frames n xs) × ((fs : List Frame) → AreFrames n xs fs → fs ≡ frames n xs)

-- the tasks that read all octets first
abbrev pub reads_all : LineTask → Bool
reads_all (Show style) = false
reads_all Canon = false
reads_all Check = true
reads_all (Part text) = true

-- To these a message longer than the limit has the answer that a run with its octets has.
abbrev pub LongIsAsInARun : Type 0
LongIsAsInARun = (nests : Bool) (task : LineTask) (T : AsnType) (limit : ℕ) (path : Expected (List Step)) (b : List ℕ) → reads_all task ≡ true
    → limit < length b → octets_told nests task T limit path b ≡ long_answer task limit path
