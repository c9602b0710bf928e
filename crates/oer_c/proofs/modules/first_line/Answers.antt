use Rattle.std.proofs.Common.{rules, tests}
use Rattle.std.proofs.lemmas.Iterator.{YieldsList-from_slice}
use Rattle.std.proofs.lemmas.Iterator.Search.{position_from_yields_List}
use Rattle.oer_modules.proofs.Shown.{none_before, some_before}
use Rattle.oer_c.specs.Modules.{is_line_feed}
use Rattle.oer_c.proofs.modules.first_line.Goals as goal

pub returns-in-Some : goal.returns-in-Some
returns-in-Some c =
    some_before is_line_feed c.in-Some.end c.args.printed.now
    (position_from_yields_List is_line_feed _ _ _ c.in-Some.ensures.ran (YieldsList-from_slice c.args.printed.now cc) (λ x b q k. search (rules, tests)))

pub returns-in-None : goal.returns-in-None
returns-in-None c =
    none_before is_line_feed c.args.printed.now
    (position_from_yields_List is_line_feed _ _ _ c.in-None.ensures.ran (YieldsList-from_slice c.args.printed.now cc) (λ x b q k. search (rules, tests)))
