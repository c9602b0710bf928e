-- Tokens of the notation that close all that they open.
use Rattle.std.proofs.Common.{◌≡◌, ℕ, List, [], ◌∷◌, ◌++◌, Bool, true, false, Ok, refl, sym, subst, append_assoc, cond}
use Rattle.std.specs.Prelude.{codes}
use Rattle.std.proofs.lemmas.Grind.{flat_map-append}
use Rattle.oer_lexer.specs.Characters.{starts_with, hyphen}
use Rattle.oer_lexer.specs.Token.{Token, word, sign}
use Rattle.oer_lexer.specs.declared.token.Sign.{Sign}
use Rattle.oer_lexer.specs.declared.token.Sign.TheVariants.{OpenParenthesis, CloseParenthesis, OpenBracket, CloseBracket}
use Rattle.oer_module_lexer.specs.Token as modules
use Rattle.oer_module_lexer.specs.declared.token.Sign as module_signs
use Rattle.oer_module_lexer.specs.declared.token.Sign.TheVariants as of_modules
use Rattle.oer_module_syntax.specs.Ranges.{nest}
use Rattle.oer_notation.specs.Grammar.{universal, application, private, context, IsTag, own_tag}
use Rattle.oer_same_tokens.specs.Same.{same_sign, same_token, same_tokens}
use Rattle.oer_units.specs.declared.tagging.Tag.{Tag}
use Rattle.oer_same_trees.proofs.Groups.{Closing, all_closed, step}
use Rattle.oer_same_trees.proofs.Grows.{Grows, more, natural_grows}

-- Where something is open, it still is behind these.
abbrev Leaves : List modules.Token → Type 0
Leaves ts = (c : module_signs.Sign) (cs : List module_signs.Sign) (us : List modules.Token) → Closing (c ∷ cs) us → Closing (c ∷ cs) (ts ++ us)

abbrev pub Flat : List Token → Type 0
Flat ts = Leaves (same_tokens ts)

flat_behind : (ts us : List Token) → Flat ts → Flat us → Flat (ts ++ us)
flat_behind ts us f g =
    subst Leaves (sym (flat_map-append same_token ts us))
    (λ c cs vs h. subst (Closing (c ∷ cs)) (sym (append_assoc (same_tokens ts) (same_tokens us) vs)) (f c cs (same_tokens us ++ vs) (g c cs vs h)))

hyphen_apart : (b : Bool) (w v : List ℕ)
    → Leaves (cond b (modules.sign of_modules.Hyphen ∷ modules.number v ∷ []) (modules.number w ∷ []) ++ [])
hyphen_apart true w v = λ c cs us h. step (λ at. refl) (step (λ at. refl) h)
hyphen_apart false w v = λ c cs us h. step (λ at. refl) h

-- what is closed behind such tokens
pub closing : (g : Sign) (ts : List Token) → Flat ts
    → ((at : ℕ) → nest at (modules.sign (same_sign g)) (same_sign g ∷ []) ≡ Ok []) → Closing (same_sign g ∷ []) (same_tokens (ts ++ sign g ∷ []))
closing g ts f n = subst (Closing (same_sign g ∷ [])) (sym (flat_map-append same_token ts (sign g ∷ []))) (f (same_sign g) [] (same_tokens (sign g ∷ [])) (step n all_closed))

flat_parentheses : (ts : List Token) → Flat ts → Flat (sign OpenParenthesis ∷ (ts ++ sign CloseParenthesis ∷ []))
flat_parentheses ts f = λ c cs us h. step (λ at. refl)
    (subst (λ l. Closing (of_modules.CloseParenthesis ∷ c ∷ cs) (l ++ us)) (sym (flat_map-append same_token ts (sign CloseParenthesis ∷ [])))
    (subst (Closing (of_modules.CloseParenthesis ∷ c ∷ cs)) (sym (append_assoc (same_tokens ts) (modules.sign of_modules.CloseParenthesis ∷ []) us))
    (f of_modules.CloseParenthesis (c ∷ cs) (modules.sign of_modules.CloseParenthesis ∷ us) (step (λ at. refl) h))))

pub flat : Grows Flat
flat = record {
  nothing = λ c cs us h. h;
  behind = flat_behind;
  a_word = λ w c cs us h. step (λ at. refl) h;
  a_number = λ w. hyphen_apart (starts_with hyphen w) w _;
  comma = λ c cs us h. step (λ at. refl) h;
  dots = λ c cs us h. step (λ at. refl) h;
  ellipsis = λ c cs us h. step (λ at. refl) h;
  parentheses = flat_parentheses;
}

-- ---- tags

pub data Tagging : List Token → Type 0 where
  a_tag : (ts : List Token) → Flat ts → Tagging (sign OpenBracket ∷ (ts ++ sign CloseBracket ∷ []))

with_class : (w : List ℕ) (t : Token) → Flat (t ∷ []) → Flat (word w ∷ t ∷ [])
with_class w t f = more Flat flat (word w) (t ∷ []) (flat.a_word w) f

pub tag_tagging : {place : ℕ} {t : Tag} {ts : List Token} → IsTag true place t ts → Tagging ts
tag_tagging (own_tag {t} universal n) = a_tag (word (codes "UNIVERSAL") ∷ t ∷ []) (with_class (codes "UNIVERSAL") t (natural_grows Flat flat n))
tag_tagging (own_tag {t} application n) = a_tag (word (codes "APPLICATION") ∷ t ∷ []) (with_class (codes "APPLICATION") t (natural_grows Flat flat n))
tag_tagging (own_tag {t} private n) = a_tag (word (codes "PRIVATE") ∷ t ∷ []) (with_class (codes "PRIVATE") t (natural_grows Flat flat n))
tag_tagging (own_tag {t} context n) = a_tag (t ∷ []) (natural_grows Flat flat n)
