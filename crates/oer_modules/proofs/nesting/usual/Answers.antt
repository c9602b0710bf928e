use Rattle.std.proofs.Common.{ℕ, sym, subst, ◌∙◌, arith}
use Rattle.oer_module_names.specs.Views.{modules_in}
use Rattle.oer_module_text.specs.Errors.{Gives, Read, error_of}
use Rattle.oer_module_types.specs.Types.{typed}
use Rattle.oer_module_types.specs.Views.{typed_of}
use Rattle.oer_module_values.specs.Views.{type_in}
use Rattle.oer_modules.proofs.Nestings.{first_usual, over_no_memory, turn_err, turn_over, turn_text, turns_over}
use Rattle.oer_modules.specs.Nesting.{Typed, most}
use Rattle.oer_modules.proofs.nesting.usual.Goals as goal

pub returns-in-Ok : goal.returns-in-Ok
returns-in-Ok c =
    let l = c.loop-nesting in
    let f : ℕ → Read Typed = λ n. typed (modules_in c.args.names.now) n (type_in c.args.of) in
    first_usual _ _ ∙ turn_text f (most f 7) l.nesting _ l.invariant.same c.loop-nesting-test.true c.in-Ok.ensures

pub loop-nesting-preserved : goal.loop-nesting-preserved
loop-nesting-preserved c =
    let l = c.loop-nesting in
    let f : ℕ → Read Typed = λ n. typed (modules_in c.args.names.now) n (type_in c.args.of) in
    let over = sym c.is_over.ensures ∙ c.if-is_over.true in
    record {
      same = turn_over f (most f 7) l.nesting (error_of c.in-Err.error) l.invariant.same c.loop-nesting-test.true (c.in-Err.ensures (over_no_memory c.in-Err.error.why over)) over;
      some = omega (arith, c.loop-nesting-test.true);
    }

pub returns-in-Err-2 : goal.returns-in-Err-2
returns-in-Err-2 c =
    let l = c.loop-nesting in
    let f : ℕ → Read Typed = λ n. typed (modules_in c.args.names.now) n (type_in c.args.of) in
    let over = sym c.is_over.ensures ∙ c.if-is_over.false in
    λ not_memory. first_usual _ _ ∙ turn_err f (most f 7) l.nesting (error_of c.in-Err.error) l.invariant.same c.loop-nesting-test.true (c.in-Err.ensures not_memory) over

pub returns : goal.returns
returns c =
    let l = c.loop-nesting in
    let f : ℕ → Read Typed = λ n. typed (modules_in c.args.names.now) n (type_in c.args.of) in
    let is = first_usual _ _ ∙ turns_over f (most f 7) l.nesting l.invariant.same l.invariant.some c.loop-nesting-test.false in
    subst (λ p. Gives typed_of c.typed-2.result p) (sym is) c.typed-2.ensures
