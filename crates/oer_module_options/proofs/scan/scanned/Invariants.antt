use Rattle.std.proofs.Common.{◌≡◌, map, drop, string_bytes}
use Rattle.oer_module_options.specs.Scan.{scan_of, scanned, scanned_from}
use Rattle.oer_module_options.proofs.scan.scanned.Given as goal

abbrev pub invariant-loop-word : goal.invariant-loop-word
invariant-loop-word l =
    scanned l.command (map string_bytes l.words) ≡ scanned_from l.command (scan_of l.scan) (map string_bytes (drop l.word-index l.words))
