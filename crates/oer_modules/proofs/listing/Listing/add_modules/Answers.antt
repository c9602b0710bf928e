use Rattle.std.proofs.Common.{map}
use Rattle.oer_module_names.specs.Views.{modules_in}
use Rattle.oer_modules.proofs.Listings.{module_more, modules_over}
use Rattle.oer_modules.specs.Listed.{printed_of}
use Rattle.oer_modules.specs.Texts.{library_of}
use Rattle.oer_modules.proofs.listing.Listing.add_modules.Goals as goal

pub loop-number-preserved : goal.loop-number-preserved
loop-number-preserved c =
    let l = c.loop-number in
    let s = c.args.sources in
    module_more (map (λ t. t.now) s.texts.now) (library_of s.library.now) (modules_in s.names.now) s.nesting c.args.modules.now l.number c.index-modules-number.result _ (printed_of l.self) _
    c.loop-number-test.true c.index-modules-number.is l.invariant c.in_ok-add_module.ensures

pub returns : goal.returns
returns c =
    let l = c.loop-number in
    let s = c.args.sources in
    modules_over (map (λ t. t.now) s.texts.now) (library_of s.library.now) (modules_in s.names.now) s.nesting c.args.modules.now l.number _ (printed_of l.self) c.loop-number-test.false l.invariant
