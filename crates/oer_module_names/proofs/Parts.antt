-- Parts, and the modules that they are of.
use Rattle.std.proofs.Common.{◌≡◌, ◌<◌, ◌≤◌, ◌+◌, ℕ, zero, suc, false, List, [], ◌∷◌, ◌++◌, drop, length, map, Option, None, Some, slice_get, take, get_or, add-one, refl, sym, ap, ◌∙◌}
use Rattle.std.proofs.lemmas.List.{map-append}
use Rattle.std.proofs.Math.Seq.{take-suc}
use Rattle.std.specs.Option.{option_map_or}
use Rattle.oer_module_syntax.specs.Tree.{Import, Module, import_of, module_of}
use Rattle.oer_module_syntax.specs.declared.tree.Import.{Import as RawImport}
use Rattle.oer_module_syntax.specs.declared.tree.Module.{Module as RawModule}
use Rattle.oer_module_names.proofs.Indexing.{item_drop, past_drop}
use Rattle.oer_module_names.specs.Indexed.{AreOthersOf, ArePartsOf, IsIndexOf, IsIndexed, IsPartOf, held, leaves}
use Rattle.oer_module_names.specs.Sole.{numbered, sole}
use Rattle.oer_module_names.specs.Tables.{assigned, assigned_in, assigner, assigners_from, identifiers, imported, imported_in, is_exported, is_exported_in, is_other, is_other_than, module_names, named, other, other_entries, other_in, others_from, source, source_in}
use Rattle.oer_module_names.specs.declared.index.Index.{Index}
use Rattle.oer_module_names.specs.declared.index.Sole.{Sole}
use Rattle.oer_module_names.specs.declared.index.Sole.TheVariants.{Nothing}
use Rattle.oer_module_names.specs.declared.part.Part.{Part}

pub parts_push : (ps : List Part) (ms : List Module) (p : Part) (m : Module) → ArePartsOf ps ms → IsPartOf p m → ArePartsOf (ps ++ p ∷ []) (ms ++ m ∷ [])
parts_push [] [] p m h k = (k, tt)
parts_push [] (x ∷ ms) p m h k = absurd h
parts_push (q ∷ ps) [] p m h k = absurd h
parts_push (q ∷ ps) (x ∷ ms) p m h k = (h.0, parts_push ps ms p m h.1 k)

parts_size : (ps : List Part) (ms : List Module) → ArePartsOf ps ms → length ps ≡ length ms
parts_size [] [] h = refl
parts_size [] (m ∷ ms) h = absurd h
parts_size (p ∷ ps) [] h = absurd h
parts_size (p ∷ ps) (m ∷ ms) h = ap suc (parts_size ps ms h.1)

abbrev BothAt : Option Part → Option Module → Type 0
BothAt None None = Unit {0}
BothAt None (Some m) = ⊥
BothAt (Some p) None = ⊥
BothAt (Some p) (Some m) = IsPartOf p m

both_at : (ps : List Part) (ms : List Module) (k : ℕ) → ArePartsOf ps ms → BothAt (slice_get ps k) (slice_get ms k)
both_at [] [] k h = tt
both_at [] (m ∷ ms) k h = absurd h
both_at (p ∷ ps) [] k h = absurd h
both_at (p ∷ ps) (m ∷ ms) zero h = h.0
both_at (p ∷ ps) (m ∷ ms) (suc k) h = both_at ps ms k h.1

-- what holds of a Part and its module holds at each place
at_each : {A : Type 0} (f : Part → A) (g : Module → A) (d : A) → ((p : Part) (m : Module) → IsPartOf p m → f p ≡ g m) → (o : Option Part) (q : Option Module) → BothAt o q
    → option_map_or f o d ≡ option_map_or g q d
at_each f g d same None None h = refl
at_each f g d same None (Some m) h = absurd h
at_each f g d same (Some p) None h = absurd h
at_each f g d same (Some p) (Some m) h = same p m h

-- ---- the imports that ask for another version

-- modules that are found alike make the same entries
others_alike : (f g : List ℕ → Sole) (ids : List (Option (List ℕ))) (n : ℕ) (is : List Import) → ((w : List ℕ) → f w ≡ g w) → others_from f ids n is ≡ others_from g ids n is
others_alike f g ids n [] h = refl
others_alike f g ids n (i ∷ is) h =
    ap (λ s. other_entries (is_other_than ids i s) i.from n ++ others_from f ids (suc n) is) (h i.from)
    ∙ ap (λ es. other_entries (is_other_than ids i (g i.from)) i.from n ++ es) (others_alike f g ids (suc n) is h)

-- what is left of imports
pub others_left : (f : List ℕ → Sole) (ids : List (Option (List ℕ))) (xs : List RawImport) (i : ℕ) (x : RawImport) → i < length xs → x ≡ get_or xs i x
    → others_from f ids i (map import_of (drop i xs)) ≡ other_entries (is_other f ids (import_of x)) x.from.now i ++ others_from f ids (i + 1) (map import_of (drop (i + 1) xs))
others_left f ids xs i x l is =
    ap (λ l. others_from f ids i (map import_of l)) (item_drop xs i x l is)
    ∙ ap (λ j. other_entries (is_other f ids (import_of x)) x.from.now i ++ others_from f ids j (map import_of (drop (i + 1) xs))) (sym (add-one i))

pub others_over : (f : List ℕ → Sole) (ids : List (Option (List ℕ))) (xs : List RawImport) (i : ℕ) → length xs ≤ i → others_from f ids i (map import_of (drop i xs)) ≡ []
others_over f ids xs i l = ap (λ l. others_from f ids i (map import_of l)) (past_drop xs i l)

pub others_push : (f : List ℕ → Sole) (ids : List (Option (List ℕ))) (xs : List Index) (ms : List Module) (x : Index) (m : Module)
    → AreOthersOf f ids xs ms → IsIndexOf x (others_from f ids 0 m.imports) → AreOthersOf f ids (xs ++ x ∷ []) (ms ++ m ∷ [])
others_push f ids [] [] x m h k = (k, tt)
others_push f ids [] (y ∷ ms) x m h k = absurd h
others_push f ids (z ∷ xs) [] x m h k = absurd h
others_push f ids (z ∷ xs) (y ∷ ms) x m h k = (h.0, others_push f ids xs ms x m h.1 k)

others_size : (f : List ℕ → Sole) (ids : List (Option (List ℕ))) (xs : List Index) (ms : List Module) → AreOthersOf f ids xs ms → length xs ≡ length ms
others_size f ids [] [] h = refl
others_size f ids [] (m ∷ ms) h = absurd h
others_size f ids (x ∷ xs) [] h = absurd h
others_size f ids (x ∷ xs) (m ∷ ms) h = ap suc (others_size f ids xs ms h.1)

-- what they say at each place
others_at : (f g : List ℕ → Sole) (ids : List (Option (List ℕ))) (xs : List Index) (ms : List Module) (k : ℕ) (w : List ℕ) → AreOthersOf f ids xs ms
    → ((v : List ℕ) → f v ≡ g v) → option_map_or (λ x. held x w) (slice_get xs k) Nothing ≡ option_map_or (λ m. other g ids m w) (slice_get ms k) Nothing
others_at f g ids [] [] k w h same = refl
others_at f g ids [] (m ∷ ms) k w h same = absurd h
others_at f g ids (x ∷ xs) [] k w h same = absurd h
others_at f g ids (x ∷ xs) (m ∷ ms) zero w h same = h.0.at w ∙ ap (λ es. sole es w) (others_alike f g ids 0 m.imports same)
others_at f g ids (x ∷ xs) (m ∷ ms) (suc k) w h same = others_at f g ids xs ms k w h.1 same

pub indexed : (ms : List Module) (x : Index) (ps : List Part) (y : Index) (zs : List Index) → IsIndexOf x (numbered 0 (module_names ms)) → ArePartsOf ps ms → IsIndexOf y (assigners_from 0 ms)
    → AreOthersOf (held x) (identifiers ms) zs ms → IsIndexed ms x ps y zs
unfolding named assigner assigned_in source_in imported_in is_exported_in other_in
indexed ms x ps y zs names parts all others = record {
  size = parts_size ps ms parts;
  other_size = others_size (held x) (identifiers ms) zs ms others;
  named = λ f. names.at f;
  assigner = λ w. all.at w;
  assigned = λ k w. at_each (λ p. held p.assigned w) (λ m. assigned m w) Nothing (λ p m h. h.assigned.at w) (slice_get ps k) (slice_get ms k) (both_at ps ms k parts);
  source = λ k f. at_each (λ p. held p.sources f) (λ m. source m.imports f) Nothing (λ p m h. h.sources.at f) (slice_get ps k) (slice_get ms k) (both_at ps ms k parts);
  imported = λ k w. at_each (λ p. held p.imported w) (λ m. imported m w) Nothing (λ p m h. h.imported.at w) (slice_get ps k) (slice_get ms k) (both_at ps ms k parts);
  other = λ k f. others_at (held x) (named ms) (identifiers ms) zs ms k f others (λ v. names.at v);
  exported = λ k w. at_each (λ p. leaves p.exported w) (λ m. is_exported m.exports w) false (λ p m h. h.exported w) (slice_get ps k) (slice_get ms k) (both_at ps ms k parts);
}

-- one module more
pub modules_taken : (xs : List RawModule) (i : ℕ) (x : RawModule) → i < length xs → x ≡ get_or xs i x → map module_of (take (i + 1) xs) ≡ map module_of (take i xs) ++ module_of x ∷ []
modules_taken xs i x l is =
    ap (λ j. map module_of (take j xs)) (add-one i) ∙ ap (map module_of) (take-suc xs i x l) ∙ map-append module_of (take i xs) (get_or xs i x ∷ [])
    ∙ ap (λ y. map module_of (take i xs) ++ module_of y ∷ []) (sym is)
