-- From the line of a task to that of the words.
use Rattle.std.proofs.Common.{◌≡◌, ◌∙◌, ℕ, List, Bool, Option, Some, None, refl, sym, ap, subst, arith}
use Rattle.std.specs.Str.Parse.{digits_value, without_leading_plus}
use Rattle.std.specs.Prelude.{codes, get_or}
use Rattle.clap.specs.Words.{Text}
use Rattle.oer_model.specs.AsnType.{AsnType}
use Rattle.oer_options.specs.Words.{Asks, HasFlags, HasStyle, Kind, NumberOf, asked, canon, check, given, given_number, kind, make, name_of, part, path_among, path_text, show, source_option, source_text, texts_in, texts_of}
use Rattle.oer_options.specs.declared.options.Options.{Options}
use Rattle.oer_options.specs.declared.options.Style.{Style}
use Rattle.oer_cmd.specs.Octets.{AreAll, AreSpelt}
use Rattle.oer_cmd.specs.Run.{IsLineGiven, IsLine, IsLineAsked, IsLineBy, IsLineOf, NoLine, NoLineAsked, NoLineAskedFor, NoLineOf, OfOctets}
use Rattle.oer_cmd.specs.Types.{SpelledWith}
use Rattle.oer_cmd.proofs.Answered.{one_test}

-- A style is what its flags say.
one_style : (a b : Style) (flag : Text → Option Text) → HasStyle a flag → HasStyle b flag → a ≡ b
one_style a b flag f g = ap (λ (ascii : Bool). let style : Style = record { ascii = ascii } in style) (one_test a.ascii b.ascii f.ascii g.ascii)

-- The names of tasks differ, and of `show` the flags tell the rest.
one_kind : (j k : Kind) (flag : Text → Option Text) → name_of j ≡ name_of k → HasFlags j flag → HasFlags k flag → j ≡ k
one_kind (show a) (show b) flag e f g = ap show (one_style a b flag f g)
one_kind canon canon flag e f g = refl
one_kind check check flag e f g = refl
one_kind make make flag e f g = refl
one_kind part part flag e f g = refl
one_kind _ _ flag e f g = absurd (let letter = ap (λ (t : Text). get_or t 2 0) e in omega (arith, letter))

module _ (words : List Text) (o : Options) (asks : Asks words o) where
  -- The options say what the words do.
  by_words : (P : Option Text → Option Text → Type 0) → P (source_text o.task) (path_text o.task)
      → P (given words (source_option (kind o.task))) (path_among (kind o.task) (given words))
  by_words P p = subst (λ s. P s (path_among (kind o.task) (given words))) (sym asks.task.1) (subst (λ t. P (source_text o.task) t) (sym asks.task.2) p)

  -- The words say what the options do.
  by_options : (k : Kind) → k ≡ kind o.task → (P : Kind → Option Text → Option Text → Type 0)
      → P k (given words (source_option k)) (path_among k (given words)) → P (kind o.task) (source_text o.task) (path_text o.task)
  by_options k same P p = subst (λ t. P (kind o.task) (source_text o.task) t) asks.task.2 (subst (λ s. P (kind o.task) s (path_among (kind o.task) (given words))) asks.task.1
      (subst (λ j. P j (given words (source_option j)) (path_among j (given words))) same p))

  same_kind : (k : Kind) → asked words ≡ Some (name_of k) → HasFlags k (given_number words) → k ≡ kind o.task
  same_kind k name flags = one_kind k (kind o.task) (given_number words) (let both = sym name ∙ asks.task.0 in cc) flags asks.task.3

  same_limit : (limit : ℕ) (text : Text) → given_number words (codes "limit") ≡ Some text → NumberOf text limit → limit ≡ o.limit
  same_limit limit text is number =
      let texts : text ≡ asks.limit.0 = (let both = sym is ∙ asks.limit.1 in cc) in
      number.value ∙ ap (λ t. digits_value 10 (without_leading_plus t)) texts ∙ sym asks.limit.2.value

  texts_are : texts_of o ≡ texts_in words
  texts_are = rw (← asks.type_text, ← asks.types, ← asks.name) refl

-- ---- for values of a type that is given

pub answers_words_for : (T : AsnType) (words : List Text) (o : Options) (told : Option (List ℕ)) (line : Text) → Asks words o
    → IsLineOf o.task told T o.limit line → IsLine T words told line
answers_words_for T words o told line asks h = record {
  limit = o.limit;
  limit_text = asks.limit.0;
  limit_is = asks.limit.1;
  number = asks.limit.2;
  task = kind o.task;
  asks = asks.task.0;
  flags = asks.task.3;
  line_is = by_words words o asks (λ source path. IsLineBy (kind o.task) source path told T o.limit line) h;
}

answers_options_for : (T : AsnType) (words : List Text) (o : Options) (told : Option (List ℕ)) (line : Text) → Asks words o
    → IsLine T words told line → IsLineOf o.task told T o.limit line
answers_options_for T words o told line asks h =
    subst (λ n. IsLineOf o.task told T n line) (same_limit words o asks h.limit h.limit_text h.limit_is h.number)
    (by_options words o asks h.task (same_kind words o asks h.task h.asks h.flags) (λ k source path. IsLineBy k source path told T h.limit line) h.line_is)

-- Where the options have no line, the words have none.
pub none_answers_for : (T : AsnType) (words : List Text) (o : Options) (told : Option (List ℕ)) → Asks words o
    → NoLineOf o.task told T o.limit → NoLineAskedFor T words told
none_answers_for T words o told asks none = λ line h. none line (λ b may. answers_options_for T words o (Some b) line asks (h b may))

-- ---- for values of the type that the words name

pub answers_words : (words : List Text) (o : Options) (told : Option (List ℕ)) (line : Text) → Asks words o
    → IsLineGiven (texts_of o) o.task o.limit told line → IsLineAsked words told line
unfolding answers_words_for
answers_words words o told line asks h = record {
  type = h.type;
  line_is = answers_words_for h.type words o told line asks h.line_is;
  spelled = by_words words o asks (λ source path. SpelledWith (texts_in words) source told h.type)
      (subst (λ t. SpelledWith t (source_text o.task) told h.type) (texts_are words o asks) h.spelled);
}

answers_options : (words : List Text) (o : Options) (told : Option (List ℕ)) (line : Text) → Asks words o → IsLineAsked words told line
    → IsLineGiven (texts_of o) o.task o.limit told line
answers_options words o told line asks h =
    let l = h.line_is in
    let spelled = by_options words o asks l.task (same_kind words o asks l.task l.asks l.flags) (λ k source path. SpelledWith (texts_in words) source told h.type) h.spelled in
    record {
      type = h.type;
      spelled = subst (λ t. SpelledWith t (source_text o.task) told h.type) (sym (texts_are words o asks)) spelled;
      line_is = answers_options_for h.type words o told line asks l;
    }

pub none_answers : (words : List Text) (o : Options) (told : Option (List ℕ)) → Asks words o
    → NoLine told (IsLineGiven (texts_of o) o.task o.limit) → NoLineAsked words told
none_answers words o told asks none = λ line h. none line (λ b may. answers_options words o (Some b) line asks (h b may))

-- what holds of all the octets holds of those that the words give
pub of_all : (hex : Option Text) (spelt told : Option (List ℕ)) (b : List ℕ) (P : List ℕ → Type 0) → AreSpelt hex spelt
    → AreAll spelt told b → P b → OfOctets hex told P
of_all (Some digits) (Some c) told b P spells all p = (c, spells, subst P all p)
of_all (Some digits) None told b P spells all p = absurd spells
of_all None (Some c) told b P spells all p = absurd spells
of_all None None None b P spells all p = tt
of_all None None (Some xs) b P spells all p = subst P (sym all) p
