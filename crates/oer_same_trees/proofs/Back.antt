-- The tokens of modules tell which tokens of the notation they are.
use Rattle.std.proofs.Common.{◌≡◌, ℕ, List, [], ◌∷◌, ◌++◌, drop, Bool, true, false, cond, refl, sym, ap, ap₂, ◌∙◌, eqb-true}
use Rattle.oer_lexer.specs.Characters.{hyphen, starts_with}
use Rattle.oer_lexer.specs.Token.{Token, word, number, bits, digits, text, sign}
use Rattle.oer_lexer.specs.declared.token.Sign.{Sign}
use Rattle.oer_lexer.specs.declared.token.Sign.TheVariants as sg
use Rattle.oer_module_lexer.specs.Token as modules
use Rattle.oer_module_lexer.specs.declared.token.Sign as module_signs
use Rattle.oer_module_lexer.specs.declared.token.Sign.TheVariants as of_modules
use Rattle.oer_same_tokens.specs.Same.{same_tokens}
use Rattle.oer_same_trees.specs.Says.{Keeps}
use Rattle.oer_module_lexer.specs.Token.{Spot}

sign_back : module_signs.Sign → Sign
sign_back of_modules.OpenBrace = sg.OpenBrace
sign_back of_modules.CloseBrace = sg.CloseBrace
sign_back of_modules.OpenParenthesis = sg.OpenParenthesis
sign_back of_modules.CloseParenthesis = sg.CloseParenthesis
sign_back of_modules.OpenBracket = sg.OpenBracket
sign_back of_modules.CloseBracket = sg.CloseBracket
sign_back of_modules.Comma = sg.Comma
sign_back of_modules.Range = sg.Range
sign_back of_modules.Ellipsis = sg.Ellipsis
sign_back _ = sg.Assign

-- a token that isn't a hyphen
one_back : modules.Token → Token
one_back (modules.word w) = word w
one_back (modules.number w) = number w
one_back (modules.bits w) = bits w
one_back (modules.digits w) = digits w
one_back (modules.text w) = text w
one_back (modules.sign s) = sign (sign_back s)
one_back _ = sign sg.Assign

back : List modules.Token → List Token
back [] = []
back (modules.sign of_modules.Hyphen ∷ modules.number w ∷ ts) = number (45 ∷ w) ∷ back ts
back (t ∷ ts) = one_back t ∷ back ts

with_hyphen : (w : List ℕ) → starts_with hyphen w ≡ true → 45 ∷ drop 1 w ≡ w
with_hyphen [] h = absurd (cc)
with_hyphen (c ∷ cs) h = ap (λ c. c ∷ cs) (sym (eqb-true c 45 h))

number_back : (b : Bool) (w : List ℕ) (ts : List modules.Token) (us : List Token) → starts_with hyphen w ≡ b → back ts ≡ us
    → back (cond b (modules.sign of_modules.Hyphen ∷ modules.number (drop 1 w) ∷ []) (modules.number w ∷ []) ++ ts) ≡ number w ∷ us
unfolding back one_back
number_back true w ts us h e = ap₂ (λ w us. number w ∷ us) (with_hyphen w h) e
number_back false w ts us h e = ap (λ us. number w ∷ us) e

same_back : (ts : List Token) → back (same_tokens ts) ≡ ts
unfolding back one_back sign_back
same_back [] = refl
same_back (word w ∷ ts) = ap (λ ts. word w ∷ ts) (same_back ts)
same_back (number w ∷ ts) = number_back (starts_with hyphen w) w (same_tokens ts) ts refl (same_back ts)
same_back (bits w ∷ ts) = ap (λ ts. bits w ∷ ts) (same_back ts)
same_back (digits w ∷ ts) = ap (λ ts. digits w ∷ ts) (same_back ts)
same_back (text w ∷ ts) = ap (λ ts. text w ∷ ts) (same_back ts)
same_back (sign sg.OpenBrace ∷ ts) = ap (λ ts. sign sg.OpenBrace ∷ ts) (same_back ts)
same_back (sign sg.CloseBrace ∷ ts) = ap (λ ts. sign sg.CloseBrace ∷ ts) (same_back ts)
same_back (sign sg.OpenParenthesis ∷ ts) = ap (λ ts. sign sg.OpenParenthesis ∷ ts) (same_back ts)
same_back (sign sg.CloseParenthesis ∷ ts) = ap (λ ts. sign sg.CloseParenthesis ∷ ts) (same_back ts)
same_back (sign sg.OpenBracket ∷ ts) = ap (λ ts. sign sg.OpenBracket ∷ ts) (same_back ts)
same_back (sign sg.CloseBracket ∷ ts) = ap (λ ts. sign sg.CloseBracket ∷ ts) (same_back ts)
same_back (sign sg.Comma ∷ ts) = ap (λ ts. sign sg.Comma ∷ ts) (same_back ts)
same_back (sign sg.Range ∷ ts) = ap (λ ts. sign sg.Range ∷ ts) (same_back ts)
same_back (sign sg.Ellipsis ∷ ts) = ap (λ ts. sign sg.Ellipsis ∷ ts) (same_back ts)
same_back (sign sg.Assign ∷ ts) = ap (λ ts. sign sg.Assign ∷ ts) (same_back ts)

-- Tokens that are kept are those of one list.
pub keeps_one : (ts us : List Token) (ss : List Spot) → Keeps ts ss → Keeps us ss → ts ≡ us
keeps_one ts us ss k m = sym (same_back ts) ∙ ap back (sym k ∙ m) ∙ same_back us
