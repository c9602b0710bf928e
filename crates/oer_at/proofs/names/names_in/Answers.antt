use Rattle.std.proofs.Common.{◌≡◌, ◌++◌, map, arith, rules, subst}
use Rattle.oer_at.specs.Names.{names_in, text_behind}
use Rattle.oer_parts.proofs.Paths.{found, none_found}
use Rattle.oer_at.proofs.Splitting.{ends, goes_on}
use Rattle.oer_at.proofs.names.names_in.Goals as goal

pub loop-front-preserved : goal.loop-front-preserved
loop-front-preserved c =
    let at = c.in-Some.ensures.byte (omega arith) (λ w o h. h) in
    let next = goes_on c.args.text.now c.loop-front.rest.now c.loop-front.names.items c.in-Some.front c.in-Some.more c.loop-front.invariant.1 (found _ _ _ at.0 at.1 at.2) in
    (search rules, subst (λ l. names_in c.args.text.now ≡ map text_behind l ++ names_in c.in-Some.more.now) (search rules) next)

pub returns : goal.returns
returns c =
    let last = ends c.args.text.now c.loop-front.names.items c.loop-front.rest c.loop-front.invariant.1 (none_found _ (c.in_default.ensures.byte (omega arith) (λ w o h. h))) in
    subst (λ l. map text_behind l ≡ names_in c.args.text.now) (search rules) last
