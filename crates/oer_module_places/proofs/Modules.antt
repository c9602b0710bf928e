-- The assignments of a module begin one behind another, and their types lie between their beginning and their end.
use Rattle.std.proofs.Common.{ℕ, List, [], ◌∷◌, Bool, arith}
use Rattle.std.proofs.lemmas.List.Elements.{All-nil, All-cons}
use Rattle.std.specs.List.{All}
use Rattle.oer_module_lexer.specs.Token.{Spot}
use Rattle.oer_module_syntax.specs.Grammar.{Each, SpelledAssignment, SpelledBody, SpelledModule, SpelledModules}
use Rattle.oer_module_syntax.specs.Tree.{Assignment, Body, type_body, class_body, value_body, set_body, Module}
use Rattle.oer_module_places.proofs.Spans.{Spans, parts, widen}
use Rattle.oer_module_places.proofs.Trees.{type_lies, word_lies}
use Rattle.oer_module_places.specs.Rising.{BodyLies, Rise}

body_lies : (b : Body) (small : Bool) (low high : ℕ) (ts : List Spot) → SpelledBody small b ts → Spans low high ts → BodyLies low high b
body_lies (type_body t) small low high ts is s =
    let p = parts is.1 s in
    type_lies t low high p.behind p.last (widen low high (omega arith) (omega arith) p.after)
body_lies (class_body fields syntax) small low high ts is s = tt
body_lies (value_body governor value) small low high ts is s = tt
body_lies (set_body governor set) small low high ts is s = tt

assignments_rise : (xs : List Assignment) (low high : ℕ) (ts : List Spot) → Each SpelledAssignment xs ts → Spans low high ts → Rise low xs
assignments_rise [] low high ts is s = tt
assignments_rise (a ∷ rest) low high ts is s =
    let p = parts is s in
    let name = parts p.first p.before in
    let body = parts name.last name.after in
    let here = word_lies a.at a.name name.first.0 name.before in
    let behind = here.1 in (
      p.mid,
      here.0,
      omega arith,
      body_lies a.body _ a.at p.mid body.behind body.last (widen a.at p.mid (omega arith) (omega arith) body.after),
      assignments_rise rest p.mid high p.behind p.last p.after,
    )

abbrev Placed : Module → Type 0
Placed m = Rise 0 m.assignments

module_rises : (m : Module) (low high : ℕ) (ts : List Spot) → SpelledModule m ts → Spans low high ts → Placed m
module_rises m low high ts is s =
    let header = parts is s in
    let exports = parts header.last header.after in
    let imports = parts exports.last exports.after in
    let assignments = parts imports.last imports.after in
    assignments_rise m.assignments 0 assignments.mid assignments.front assignments.first
    (widen 0 assignments.mid (omega arith) (omega arith) assignments.before)

each_rises : (ms : List Module) (low high : ℕ) (ts : List Spot) → Each SpelledModule ms ts → Spans low high ts → All Placed ms
each_rises [] low high ts is s = All-nil Placed
each_rises (m ∷ ms) low high ts is s =
    let p = parts is s in
    All-cons Placed m ms (module_rises m low p.mid p.front p.first p.before) (each_rises ms p.mid high p.behind p.last p.after)

pub modules_rise : (ms : List Module) (low high : ℕ) (ts : List Spot) → SpelledModules ms ts → Spans low high ts → All Placed ms
modules_rise [] low high ts is s = absurd is
modules_rise (m ∷ ms) low high ts is s = each_rises (m ∷ ms) low high ts is s
