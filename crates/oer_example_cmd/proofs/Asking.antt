-- From what `clap` says of its matches to what the words ask for.
use Rattle.std.proofs.Common.{◌≡◌, ℕ, List, Option, Some, sym, refl, subst, codes}
use Rattle.clap.specs.Words.{Text, first_value, found_of, one_text, rows_of, subcommand_of}
use Rattle.clap.specs.declared.parser.matches.ArgMatches.{ArgMatches}
use Rattle.oer_options.proofs.Asked.{given_is, read_is}
use Rattle.oer_example_cmd.specs.Words.{AreParts, IsSeed, app, given, given_flag}
use Rattle.oer_skeleton.specs.declared.parts.Parts.{Parts}

pub parts_are : (words : List Text) (t : Text) (m : ArgMatches) (parts : Parts) → subcommand_of app words ≡ Some (t, rows_of (found_of m))
    → AreParts (one_text (found_of m) (codes "full")) parts
    → AreParts (given_flag words (codes "full")) parts
parts_are words t m parts e h = subst (λ o. AreParts o parts) (sym (read_is app words t (codes "full") m e)) h

pub seed_is : (words : List Text) (t : Text) (m : ArgMatches) (seed : Option ℕ) → subcommand_of app words ≡ Some (t, rows_of (found_of m))
    → IsSeed (first_value (found_of m) (codes "random")) (one_text (found_of m) (codes "random")) seed
    → IsSeed (given words (codes "random")) (given_flag words (codes "random")) seed
seed_is words t m seed e h =
    subst (λ o. IsSeed o (given_flag words (codes "random")) seed) (sym (given_is app words t (codes "random") m _ e refl))
    (subst (λ o. IsSeed (first_value (found_of m) (codes "random")) o seed) (sym (read_is app words t (codes "random") m e)) h)
