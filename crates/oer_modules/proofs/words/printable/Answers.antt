use Rattle.std.proofs.Common.{rules, tests}
use Rattle.std.proofs.lemmas.Iterator.{YieldsList-from_slice}
use Rattle.std.proofs.lemmas.Iterator.Search.{position_from_yields_List}
use Rattle.oer_modules.proofs.Shown.{none_before, some_before}
use Rattle.oer_modules.specs.Words.{is_hidden}
use Rattle.oer_modules.proofs.words.printable.Goals as goal

pub returns-in-Some : goal.returns-in-Some
returns-in-Some c =
    some_before is_hidden c.in-Some.count c.args.bytes.now
    (position_from_yields_List is_hidden _ _ _ c.in-Some.ensures.ran (YieldsList-from_slice c.args.bytes.now cc) (λ x b q k. search (rules, tests)))

pub returns-in-None : goal.returns-in-None
returns-in-None c =
    none_before is_hidden c.args.bytes.now
    (position_from_yields_List is_hidden _ _ _ c.in-None.ensures.ran (YieldsList-from_slice c.args.bytes.now cc) (λ x b q k. search (rules, tests)))
