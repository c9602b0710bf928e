-- What a turn of a loop leaves: fewer tokens than there were.
use Rattle.std.proofs.Common.{◌≡◌, ℕ, ◌≤◌, ◌<◌, List, [], ◌∷◌, length, length-append, Bool, true, Ok, ap, arith}
use Rattle.oer_module_lexer.specs.Token.{Spot}
use Rattle.oer_module_lexer.specs.declared.token.Sign.TheVariants.{Comma}
use Rattle.oer_module_syntax.specs.Grammar.{Splits, WordAt, Listed, SpelledSymbol}
use Rattle.oer_module_syntax.specs.Modules.{symbol_at, import_at, assignment_at, module_at}
use Rattle.oer_module_syntax.specs.State.{State, bump, at_sign}
use Rattle.oer_module_syntax.specs.Tree.{Element, Symbol, Import, Assignment, Module}
use Rattle.oer_module_syntax.specs.Types.{one_at, type_at}
use Rattle.oer_module_syntax.proofs.SoundModules.{symbol_took, import_took, assignment_took, module_took}
use Rattle.oer_module_syntax.proofs.SoundTypes.{one_took}
use Rattle.oer_module_syntax.proofs.Took.{Took, sign_took}

no_longer : {s t : State} {P : List Spot → Type 0} → Took s t P → length t.left ≤ length s.left
no_longer {s} {t} p = let e = ap length p.is in let a = length-append p.used t.left in omega arith

shorter : {s t : State} {P : List Spot → Type 0} → Took s t P → ((ts : List Spot) → P ts → 0 < length ts) → length t.left < length s.left
shorter {s} {t} p some = let e = ap length p.is in let a = length-append p.used t.left in let n = some p.used p.holds in omega arith

-- the first part has a token
front_some : {P Q : List Spot → Type 0} (ts : List Spot) (h : Splits P Q ts) → 0 < length h.front → 0 < length ts
front_some ts h n = let e = ap length h.is in let a = length-append h.front h.behind in omega arith

a_word : (at : ℕ) (w : List ℕ) (ts : List Spot) → WordAt at w ts → 0 < length ts
a_word at w ts h = let e = ap length h in omega arith

some_symbol : (x : Symbol) (ts : List Spot) → SpelledSymbol x ts → 0 < length ts
some_symbol x ts h = front_some ts h (a_word x.at x.name h.front h.first.0)

some_symbols : (xs : List Symbol) (ts : List Spot) → Listed SpelledSymbol xs ts → 0 < length ts
some_symbols [] ts h = absurd h
some_symbols (x ∷ xs) ts h = front_some ts h (some_symbol x h.front h.first)

-- behind a comma
after_comma : {P : List Spot → Type 0} (s t : State) → at_sign Comma s ≡ true → Took (bump s) t P → length t.left < length s.left
after_comma s t c p =
    let behind = no_longer p in
    let comma = sign_took Comma s c in
    let e = ap length comma.is in
    let a = length-append comma.used (bump s).left in
    let one = ap length comma.holds.1 in
    omega arith

pub symbol_shorter : (s : State) (r : Symbol × State) → at_sign Comma s ≡ true → symbol_at (bump s) ≡ Ok r → length r.1.left < length s.left
symbol_shorter s r c h = after_comma s r.1 c (symbol_took (bump s) r h)

pub element_shorter : (levels : ℕ) (grouped alternatives : Bool) (s : State) (r : Element × State) → at_sign Comma s ≡ true
    → one_at (type_at levels) grouped alternatives (bump s) ≡ Ok r → length r.1.left < length s.left
element_shorter levels grouped alternatives s r c h = after_comma s r.1 c (one_took levels grouped alternatives (bump s) r h)

pub import_shorter : (s : State) (r : Import × State) → import_at s ≡ Ok r → length r.1.left < length s.left
import_shorter s r h = shorter (import_took s r h) (λ ts p. front_some ts p (some_symbols r.0.symbols p.front p.first))

pub assignment_shorter : (levels : ℕ) (s : State) (r : Assignment × State) → assignment_at levels s ≡ Ok r → length r.1.left < length s.left
assignment_shorter levels s r h = shorter (assignment_took levels s r h) (λ ts p. front_some ts p (a_word r.0.at r.0.name p.front p.first.0))

pub module_shorter : (levels : ℕ) (s : State) (r : Module × State) → module_at levels s ≡ Ok r → length r.1.left < length s.left
module_shorter levels s r h =
    shorter (module_took levels s r h) (λ ts p. front_some ts p (front_some p.front p.first (a_word r.0.at r.0.name p.first.front p.first.first.0)))
