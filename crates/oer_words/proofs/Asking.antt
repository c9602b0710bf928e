-- What was asked for is rejected.
use Rattle.std.proofs.Common.{◌≡◌, ◌∙◌, ℕ, List, map, Option, Some, Result, Ok, Err, Vec, String, Global, string_bytes, option_map, ap, subst, sym, inl, ◌⊎◌}
use Rattle.std.specs.Borrow.{Bor}
use Rattle.oer_words.specs.Rejected.{AppendsFront, IsLost, or_line, unless_misused}
use Rattle.oer_words.specs.Words.{Text, behind, words_of}

-- The line says why. mid: the errors before it
pub misused : {R A : Type 0} (view : R → A) (misuse : A → Option Text) (plain : Result (Option A) Text) (asked : Option R) (x : R) (line : Text) (status : ℕ) (old mid new : Option (List ℕ))
    → plain ≡ Ok (option_map view asked) → asked ≡ Some x → Some line ≡ misuse (view x) → mid ≡ old → status ≡ 2 → AppendsFront mid new line
    → ((l : Text) × (unless_misused misuse plain ≡ Err l) × (status ≡ 2) × AppendsFront old new l) ⊎ IsLost status old new
misused view misuse plain asked x line status old mid new is some why quiet two front =
    let here : unless_misused misuse plain ≡ or_line (misuse (view x)) (view x) = ap (unless_misused misuse) (is ∙ ap (λ o. Ok (option_map view o)) some) in
    inl (line, here ∙ ap (λ m. or_line m (view x)) (sym why), two, subst (λ e. AppendsFront e new line) quiet front)

-- the line that a function returned for the words
pub line_in : (misuse : List Text → Option Text) (words : Vec (String Global) Global) (slice : List (String Global)) (told : Option (Bor Text)) (line : Bor Text)
    → slice ≡ words.items → behind told ≡ misuse (map string_bytes slice) → told ≡ Some line → Some line.now ≡ misuse (words_of words)
line_in misuse words slice told line same why given = sym (ap behind given) ∙ why ∙ ap (λ (l : List (String Global)). misuse (map string_bytes l)) same
