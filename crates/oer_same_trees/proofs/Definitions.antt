-- Definitions of the notation are read found the assignments of a module.
use Rattle.std.proofs.Common.{◌≡◌, ℕ, suc, length, List, [], ◌∷◌, ◌++◌, Bool, true, false, None, Ok, refl, sym, ap, subst, ◌∙◌, append-nil, arith}
use Rattle.std.specs.Prelude.{codes}
use Rattle.oer_lexer.specs.Token as notation
use Rattle.oer_module_lexer.specs.Token.{Spot, word, sign}
use Rattle.oer_module_lexer.specs.declared.token.Sign.TheVariants.{OpenBrace, Assign}
use Rattle.oer_module_syntax.specs.Modules.{assigned_at, assignment_at, body_at, content_at, control_len, defined_at, ends_assignments, exports_at, extensible_at, imports_at, many, module_at, modules_of, tags_at, tags_behind}
use Rattle.oer_module_syntax.specs.Ranges.{group_at}
use Rattle.oer_module_syntax.specs.State.{State, reference_at, skip_keyword, skip_sign}
use Rattle.oer_module_syntax.specs.Tree.{Assignment, Module, Tree, all, type_body}
use Rattle.oer_module_syntax.specs.Types.{type_at}
use Rattle.oer_module_syntax.specs.Words.{is_identifier, is_reference, is_reserved}
use Rattle.oer_module_syntax.specs.declared.tree.Tags.TheVariants.{Automatic}
use Rattle.oer_notation.specs.Grammar.{AreDefinitions, one_definition, more_definitions}
use Rattle.oer_notation.specs.Reading.{Known}
use Rattle.oer_same_tokens.specs.Laws.{SameTokens}
use Rattle.oer_same_tokens.specs.Same.{same_tokens}
use Rattle.oer_same_trees.specs.Defining.{AreUnreserved, AreWithin, AssignmentsSay, no_assignments, an_assignment, in_module, EndsType}
use Rattle.oer_same_trees.specs.Laws.{AreRead, lexed, ReadsDefinitions, ReadsTexts}
use Rattle.oer_same_trees.proofs.Calm.{brackets_apart}
use Rattle.oer_same_trees.proofs.Groups.{no_group}
use Rattle.oer_same_trees.proofs.Placed.{Placed, none_placed, placed, placed_as, same_parts, apart, before, spot}
use Rattle.oer_same_trees.proofs.Reading.{type_read}
use Rattle.oer_same_trees.proofs.Steps.{First, type_first}
use Rattle.oer_same_trees.proofs.Turns.{Runs, ran, run, all_run}
use Rattle.oer_same_trees.proofs.Words.{free, and_false, both_false, name_capital}

-- the tokens of a header, and those behind it
abbrev headed : List ℕ → ℕ → ℕ → ℕ → ℕ → ℕ → ℕ → List Spot → List Spot
headed name a b c d e f ss =
    spot a (word name) ∷ spot b (word (codes "DEFINITIONS")) ∷ spot c (word (codes "AUTOMATIC")) ∷ spot d (word (codes "TAGS"))
    ∷ spot e (sign Assign) ∷ spot f (word (codes "BEGIN")) ∷ ss

abbrev the_end : ℕ → Spot
the_end at = spot at (word (codes "END"))

unreserved_all : (ks js : List Known) → AreUnreserved ks → AreUnreserved js → AreUnreserved (ks ++ js)
unreserved_all [] js u v = v
unreserved_all (k ∷ ks) js u v = (u.0, unreserved_all ks js u.1 v)

-- ---- what stands behind a definition

end_ends : (at : ℕ) → EndsType (the_end at ∷ [])
end_ends at = record { no_parenthesis = refl; no_brace = refl; no_point = refl; not_defined_by = refl }

definitions_end : {known ks : List Known} {ts : List notation.Token} → AreDefinitions known ks ts → (ss rest : List Spot) → Placed (same_tokens ts) ss → EndsType (ss ++ rest)
definitions_end (one_definition n new d) _ rest (placed at (placed by p)) =
    record { no_parenthesis = refl; no_brace = refl; no_point = refl; not_defined_by = and_false _ _ refl }
definitions_end (more_definitions n new d m) _ rest (placed at (placed by p)) =
    record { no_parenthesis = refl; no_brace = refl; no_point = refl; not_defined_by = and_false _ _ refl }

module _ (end : ℕ) (complete : Bool) where
  abbrev assigned : ℕ → List ℕ → Tree → Assignment
  assigned at w t = record { at = at; name = w; parameters = []; body = type_body t }

  assignment_read : (l at by : ℕ) (w : List ℕ) (ss rest : List Spot) (t : Tree) → is_identifier w ≡ false → is_reserved w ≡ false → First end complete ss
      → type_at l (before end complete (ss ++ rest)) ≡ Ok (t, before end complete rest)
      → assignment_at l (before end complete (spot at (word w) ∷ spot by (sign Assign) ∷ (ss ++ rest))) ≡ Ok (assigned at w t, before end complete rest)
  unfolding assignment_at assigned_at body_at defined_at
  assignment_read l at by w ss rest t capital plain f h =
      rw (plain, no_group end complete OpenBrace (spot by (sign Assign) ∷ (ss ++ rest)) refl, capital, f.no_class rest, h) refl

  goes_on : (w : List ℕ) (at : ℕ) (ss : List Spot) → is_reserved w ≡ false → ends_assignments (before end complete (spot at (word w) ∷ ss)) ≡ false
  goes_on w at ss plain = let f = free w plain in both_false _ _ f.no_end f.no_control

  module _ (l : ℕ) where
    abbrev Assigns : List Spot → List Assignment → List Spot → Type 0
    Assigns tail found ss = Runs Assignment end complete ends_assignments (assignment_at l) tail found ss

    assignment_run : (at by : ℕ) (w : List ℕ) (ps us ss tail : List Spot) (t : Tree) (found : List Assignment) → is_identifier w ≡ false → is_reserved w ≡ false
        → First end complete ps → ss ≡ ps ++ us → type_at l (before end complete (ps ++ (us ++ tail))) ≡ Ok (t, before end complete (us ++ tail)) → Assigns tail found us
        → Assigns tail (assigned at w t ∷ found) (spot at (word w) ∷ spot by (sign Assign) ∷ ss)
    assignment_run at by w ps us ss tail t found capital plain f e h more =
        subst (λ ss. Assigns tail (assigned at w t ∷ found) (spot at (word w) ∷ spot by (sign Assign) ∷ ss)) (sym e)
        (run (spot at (word w)) (spot by (sign Assign) ∷ ps) (goes_on w at (spot by (sign Assign) ∷ (ps ++ (us ++ tail))) plain)
        (assignment_read l at by w ps (us ++ tail) t capital plain f h) more)

    definitions_read : {known ks : List Known} {ts : List notation.Token} → AreDefinitions known ks ts → AreUnreserved known → AreUnreserved ks → AreWithin l ks
        → (ss : List Spot) (e : ℕ) → Placed (same_tokens ts) ss → (found : List Assignment) × Assigns (the_end e ∷ []) found ss × AssignmentsSay known ks found
    definitions_read (one_definition {known} {w} n new d) u v deep _ e (placed at (placed {ss} by p)) =
        let t = type_read known u end complete d l ss (the_end e ∷ []) deep.0 p (end_ends e) in (
          assigned at w t.0 ∷ [],
          assignment_run at by w ss [] ss (the_end e ∷ []) t.0 [] (name_capital n) v.0 (type_first end complete d u ss p) (sym (append-nil ss)) t.1 ran,
          an_assignment n new t.2 no_assignments,
        )
    definitions_read (more_definitions {known} {ks} {w} {T} {ts} {us} n new d m) u v deep _ e (placed at (placed {ss} by p)) =
        let q = same_parts ts us ss p in
        let tail = the_end e ∷ [] in
        let t = type_read known u end complete d l q.front (q.behind ++ tail) deep.0 q.first (definitions_end m q.behind tail q.second) in
        let r = definitions_read m (unreserved_all known (record { name = w; type = T } ∷ []) u (v.0, tt)) v.1 deep.1 q.behind e q.second in (
          assigned at w t.0 ∷ r.0,
          assignment_run at by w q.front q.behind ss tail t.0 r.0 (name_capital n) v.0 (type_first end complete d u q.front q.first) q.is t.1 r.1,
          an_assignment n new t.2 r.2,
        )

  -- ---- the module

  module _ (l : ℕ) where
    header_read : (a b c d e f : ℕ) (name : List ℕ) (ss : List Spot) → is_reference name ≡ true
        → module_at l (before end complete (headed name a b c d e f ss)) ≡ content_at l a name [] None Automatic false (before end complete ss)
    unfolding module_at reference_at group_at skip_keyword skip_sign tags_at tags_behind extensible_at
    header_read a b c d e f name ss h = rw h refl

    nothing_shared : (w : List ℕ) (at : ℕ) (ss : List Spot) → is_reserved w ≡ false
        → (exports_at (before end complete (spot at (word w) ∷ ss)) ≡ Ok (all, before end complete (spot at (word w) ∷ ss)))
        × (imports_at (before end complete (spot at (word w) ∷ ss)) ≡ Ok ([], before end complete (spot at (word w) ∷ ss)))
    unfolding exports_at imports_at
    nothing_shared w at ss plain = let f = free w plain in (rw f.no_exports refl, rw f.no_imports refl)

    no_sharing : {known ks : List Known} {ts : List notation.Token} → AreDefinitions known ks ts → AreUnreserved ks → (ss rest : List Spot) → Placed (same_tokens ts) ss
        → (exports_at (before end complete (ss ++ rest)) ≡ Ok (all, before end complete (ss ++ rest)))
        × (imports_at (before end complete (ss ++ rest)) ≡ Ok ([], before end complete (ss ++ rest)))
    no_sharing (one_definition {w} n new d) v _ rest (placed {ss} at p) = nothing_shared w at (ss ++ rest) v.0
    no_sharing (more_definitions {w} n new d m) v _ rest (placed {ss} at p) = nothing_shared w at (ss ++ rest) v.0

    abbrev the_module : ℕ → List ℕ → List Assignment → Module
    the_module at name found = record {
      at = at;
      name = name;
      id = [];
      instructions = None;
      tags = Automatic;
      extensible = false;
      exports = all;
      imports = [];
      assignments = found;
      control = [];
    }

    content_read : (at : ℕ) (name : List ℕ) (ss : List Spot) (e : ℕ) (found : List Assignment) → exports_at (before end complete ss) ≡ Ok (all, before end complete ss)
        → imports_at (before end complete ss) ≡ Ok ([], before end complete ss)
        → many ends_assignments (assignment_at l) (suc (length ss)) [] (before end complete ss) ≡ Ok (found, before end complete (the_end e ∷ []))
        → content_at l at name [] None Automatic false (before end complete ss) ≡ Ok (the_module at name found, before end complete [])
    unfolding content_at control_len skip_keyword
    content_read at name ss e found f g h = rw (f, g, h) refl

    modules_read : (s : State) (m : Module) → module_at l s ≡ Ok (m, before end true []) → modules_of l s ≡ Ok (m ∷ [])
    unfolding modules_of many
    modules_read s m h = rw h refl

-- ---- all

module _ (l : ℕ) (name : List ℕ) (ks : List Known) (ts : List notation.Token) (d : AreDefinitions [] ks ts) (u : AreUnreserved ks)
    (deep : AreWithin l ks) (known : is_reference name ≡ true) where
  body_read : (end : ℕ) (complete : Bool) → complete ≡ true → (a b c d e f : ℕ) (ss front behind : List Spot) (at : ℕ)
      → ss ≡ front ++ (the_end at ∷ behind) → Placed (same_tokens ts) front
      → Placed [] behind → AreRead l name ks (before end complete (headed name a b c d e f ss))
  body_read end complete true_is a b c d1 e f ss front _ at is p none_placed =
      let r = definitions_read end true l d tt u deep front at p in
      let shared = no_sharing end true l d u front (the_end at ∷ []) p in
      let runs = all_run end true ends_assignments (assignment_at l) (the_end at ∷ []) refl (suc (length (front ++ the_end at ∷ []))) [] r.1 (omega arith) in (
        the_module end true l a name r.0,
        subst (λ k. modules_of l (before end k (headed name a b c d1 e f ss)) ≡ Ok (the_module end true l a name r.0 ∷ [])) (sym true_is)
            (modules_read end true l (before end true (headed name a b c d1 e f ss)) (the_module end true l a name r.0)
            (header_read end true l a b c d1 e f name ss known ∙ ap (λ ss. content_at l a name [] None Automatic false (before end true ss)) is
            ∙ content_read end true l a name (front ++ the_end at ∷ []) at r.0 shared.0 shared.1 runs)),
        record { named = refl; no_id = refl; no_instructions = refl; automatic = refl; not_extensible = refl; exports_all = refl; no_imports = refl; no_control = refl },
        r.2,
      )

  module_read : (end : ℕ) (complete : Bool) (ss : List Spot) → complete ≡ true → Placed (same_tokens (in_module name ts)) ss → AreRead l name ks (before end complete ss)
  module_read end complete _ h (placed a (placed b (placed c (placed d (placed e (placed {ss} f p)))))) =
      let q = apart ts (codes "END") [] ss p in
      body_read end complete h a b c d e f ss q.front q.behind q.at q.is q.first q.second

pub reads_definitions : ReadsDefinitions
reads_definitions l name ks ts s d u deep known keeps complete =
    module_read l name ks ts d u deep known s.end s.complete s.left complete (placed_as (same_tokens (in_module name ts)) s.left keeps)

-- from the text, where its tokens are the same
pub reads_texts : SameTokens → ReadsTexts
reads_texts same l name ks ts bs falls odd d u deep known =
    let t = same bs (in_module name ts) falls odd ((brackets_apart [] ks ts d).1 name) in
    reads_definitions l name ks ts (lexed bs) d u deep known t.0 t.1
