-- From what `clap` says of its matches to what the words ask for.
use Rattle.std.proofs.Common.{◌≡◌, ◌∙◌, List, ℕ, Bool, Option, Some, None, false, true, sym, ap, ap₂, refl, true≢false, IfSome, Ok, Result, ◌<◌, ◌^◌, ◌≢◌, subst, codes}
use Rattle.std.specs.Prelude.{◌↔◌, option_map, option_and_then, unwrap_or, is_some, Box, ◌||◌}
use Rattle.std.specs.Box.{box_value}
use Rattle.std.specs.Str.Parse.{IsNumeral, ParsesBool, digits_value, without_leading_plus}
use Rattle.clap.specs.Words.{AddsArg, AddsSubcommand, App, with_subcommand, Row, Rule, rule_of, with_rule, Text, ReadsOne, found_of, first_value, one_text, is_simple, first_of, one_of, rows_of, subcommand_name_of, subcommand_of, subcommand_rows, subcommand_rows_of, is_simple_and_free}
use Rattle.clap.specs.declared.builder.arg.Arg.{Arg}
use Rattle.clap.specs.Simple.{Shape, app_of_fields, on_top}
use Rattle.clap.specs.declared.builder.command.Command.{Command}
use Rattle.clap.specs.declared.builder.command.Command.TheOpen.{Command-F}
use Rattle.clap.specs.declared.builder.command.Command.TheViews.{out-Command}
use Rattle.std.specs.Borrow.{Bor}
use Rattle.clap.specs.declared.parser.matches.ArgMatches.{ArgMatches}
use Rattle.clap.specs.declared.parser.matches.ArgMatches.TheViews.{out-ArgMatches, out-SubCommand}
use Rattle.clap.specs.declared.parser.matches.SubCommand.{SubCommand}
use Rattle.clap.proofs.WalkLemmas.{first_value-rows, one_text-rows}
use Rattle.oer_options.specs.Words.{HasFlags, HasShape, IsFlag, IsTask, Kind, NumberOf, asked, given, given_number, kind, oer, part, path_among, show}
use Rattle.oer_options.specs.declared.options.Task.{Task}

pub simple : is_simple oer ≡ true
simple = refl

pub simple_and_free : is_simple_and_free oer ≡ true
simple_and_free = refl

both : {Z : Type 0} (o : Option (Box SubCommand Z)) (t : Text) (r : List Row) → option_map (λ b. (out-SubCommand (box_value b)).name.now) o ≡ Some t
    → option_map (λ p. p.1) (subcommand_rows o) ≡ Some r → subcommand_rows o ≡ Some (t, r)
both None t r e f = absurd (true≢false (sym (ap (λ x. is_some x) e)))
both (Some b) t r e f = ap₂ (λ t r. Some (t, r)) (ap (λ x. unwrap_or x t) e) (ap (λ x. unwrap_or x r) f)

-- the task and the rows that a parse gave are those of the words. c: the command that was built
pub met : (a c : App) (words : List Text) (m : ArgMatches) (t : Text) (r : List Row) → c ≡ a → subcommand_rows_of m ≡ subcommand_of c words → Some t ≡ subcommand_name_of m
    → Some r ≡ option_map (λ p. p.1) (subcommand_rows_of m) → subcommand_of a words ≡ Some (t, r)
met a c words m t r is same name rows = sym (ap (λ x. subcommand_of x words) is) ∙ sym same ∙ both (out-ArgMatches m).subcommand t r (sym name) (sym rows)

asked_is : (words : List Text) (t : Text) (r : List Row) → subcommand_of oer words ≡ Some (t, r) → asked words ≡ Some t
asked_is words t r e = ap (option_map (λ p. p.0)) e

pub given_is : (a : App) (words : List Text) (t id : Text) (m : ArgMatches) (o : Option Text) → subcommand_of a words ≡ Some (t, rows_of (found_of m)) → o ≡ first_value (found_of m) id
    → option_and_then (λ p. first_of id p.1) (subcommand_of a words) ≡ o
given_is a words t id m o e is = ap (option_and_then (λ p. first_of id p.1)) e ∙ sym (first_value-rows (found_of m) id) ∙ sym is

-- the same as a number or a flag is read from it
pub read_is : (a : App) (words : List Text) (t id : Text) (m : ArgMatches) → subcommand_of a words ≡ Some (t, rows_of (found_of m))
    → option_and_then (λ p. one_of id p.1) (subcommand_of a words) ≡ one_text (found_of m) id
read_is a words t id m e = ap (option_and_then (λ p. one_of id p.1)) e ∙ sym (one_text-rows (found_of m) id)

path_is : (words : List Text) (t : Text) (m : ArgMatches) (k : Kind) → subcommand_of oer words ≡ Some (t, rows_of (found_of m)) → path_among k (given words) ≡ path_among k (first_value (found_of m))
path_is words t m part e = given_is oer words t _ m _ e refl
path_is words t m _ e = refl

flag_is : (words : List Text) (t : Text) (m : ArgMatches) (id : Text) (is : Bool) → subcommand_of oer words ≡ Some (t, rows_of (found_of m)) → IsFlag (one_text (found_of m)) id is → IsFlag (given_number words) id is
flag_is words t m id is e has = subst (λ v. (is ≡ true) ↔ (v ≡ Some (codes "true"))) (sym (read_is oer words t id m e)) has

flags_are : (words : List Text) (t : Text) (m : ArgMatches) (k : Kind) → subcommand_of oer words ≡ Some (t, rows_of (found_of m)) → HasFlags k (one_text (found_of m)) → HasFlags k (given_number words)
flags_are words t m (show style) e has = record { ascii = flag_is words t m _ _ e has.ascii }
flags_are words t m _ e has = tt

-- the task that a parse gave is that of the words
pub task_is : (words : List Text) (t : Text) (m : ArgMatches) (task : Task) → subcommand_of oer words ≡ Some (t, rows_of (found_of m)) → IsTask (Some t) (first_value (found_of m)) (one_text (found_of m)) task
    → IsTask (asked words) (given words) (given_number words) task
task_is words t m task e is = (asked_is words _ _ e ∙ is.0, given_is oer words t _ m _ e (sym is.1), path_is words t m (kind task) e ∙ is.2, flags_are words t m (kind task) e is.3)

-- a flag, as it was read
pub flag_read : (E : Type 0) (f : Option Text) (r : Option Bool) → (f ≡ None → r ≡ None) → ((t : Text) → f ≡ Some t → ReadsOne (ParsesBool {E = E}) t r)
    → (unwrap_or r false ≡ true) ↔ (f ≡ Some (codes "true"))
flag_read E None r none some = (λ is. absurd (true≢false (sym is ∙ ap (λ o. unwrap_or o false) (none refl))), λ e. let no : None ≡ Some (codes "true") = e in cc)
flag_read E (Some t) (Some true) none some = (λ is. ap Some (some t refl), λ e. refl)
flag_read E (Some t) (Some false) none some =
    (λ is. absurd (true≢false (sym is)), λ e. (let both : Some (codes "false") ≡ Some (codes "true") = ap Some (sym (some t refl)) ∙ e in cc))
flag_read E (Some t) None none some =
    (λ is. absurd (true≢false (sym is)), λ e. absurd ((some t refl).1.0 (let whole : Some t ≡ Some (codes "true") = e in cc)))

-- a number, as it was read. f: the text
pub number_read : {E : Type 0} (f : Option Text) (r : Option ℕ) (gives : List ℕ → Result ℕ E → Type 0)
    → ((t : Text) (n : ℕ) → gives t (Ok n) → (IsNumeral 10 (without_leading_plus t) × (digits_value 10 (without_leading_plus t) < 2 ^ 64)) × (n ≡ digits_value 10 (without_leading_plus t)))
    → (f ≡ None → r ≡ None) → ((t : Text) → f ≡ Some t → ReadsOne gives t r) → IfSome r (λ n. (text : Text) × (f ≡ Some text) × NumberOf text n)
number_read f None gives means none some = tt
number_read None (Some n) gives means none some = absurd (true≢false (ap (λ x. is_some x) (none refl)))
number_read (Some t) (Some n) gives means none some = let reads = means t n (some t refl) in (t, refl, record { digits = reads.0.0; value = reads.1 })

pub or_none : {a b : Bool} → a ≡ false → b ≡ false → (a || b) ≡ false
or_none {a} {b} e f = rw (e, f) refl

-- one more argument
pub adds : (a : App) (c d : Command) (x : Arg) (r : Rule) → HasShape a c → rule_of x ≡ r → x.global ≡ false → AddsArg c x d → HasShape (with_rule a r) d
adds a c d x r shape rule local h = record {
  app = h.shape local ∙ ap₂ with_rule shape.app rule;
  local = h.globals ∙ or_none shape.local local;
}

-- one more subcommand
pub adds_task : (a s : App) (c sub d : Command) → HasShape a c → HasShape s sub → AddsSubcommand c sub d → HasShape (with_subcommand a s.top) d
adds_task a s c sub d shape of h = record {
  app = h.shape of.local ∙ ap₂ with_subcommand shape.app (ap (λ (x : App). x.top) of.app);
  local = h.globals ∙ or_none shape.local of.local;
}

-- the same command with a version
pub has_version : (a : App) (c d : Command) (v : Bor Text) → HasShape a c → out-Command d ≡ record (out-Command c) { version = Some v } → HasShape (on_top (λ s. record s { has_version = true }) a) d
has_version a c d v shape e = record {
  app = ap app_of_fields e ∙ ap (on_top (λ (s : Shape). record s { has_version = true })) shape.app;
  local = ap (λ (f : Command-F Command). f.has_globals) e ∙ shape.local;
}

-- the same command, where the arguments have to name a task
pub requires_task : (a : App) (c d : Command) → HasShape a c → out-Command d ≡ record (out-Command c) { subcommand_required = true } → HasShape (on_top (λ s. record s { subcommand_required = true }) a) d
requires_task a c d shape e = record {
  app = ap app_of_fields e ∙ ap (on_top (λ (s : Shape). record s { subcommand_required = true })) shape.app;
  local = ap (λ (f : Command-F Command). f.has_globals) e ∙ shape.local;
}
