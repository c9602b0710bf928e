use Rattle.std.proofs.Common.{arith, length}
use Rattle.oer_lines_cmd.proofs.Framing.{are_frames, only_frames}
use Rattle.oer_lines_cmd.proofs.laws.frames_are_one.Goals as goal

pub returns : goal.returns
returns c = λ n xs some. (are_frames (length xs) n xs some (omega arith), λ fs are. only_frames n xs fs some are)
