use Rattle.std.proofs.Common.{◌≡◌, map, drop, string_bytes}
use Rattle.oer_words.specs.Scan.{scan_of, scanned, scanned_from}
use Rattle.oer_words.proofs.scan.scanned.Given as goal

abbrev pub invariant-loop-word : goal.invariant-loop-word
invariant-loop-word l =
    scanned l.option (map string_bytes l.words) ≡ scanned_from l.option (scan_of l.scan) (map string_bytes (drop l.word-index l.words))
