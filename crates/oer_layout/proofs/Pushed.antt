-- The text of objects, as it is appended.
use Rattle.std.proofs.Common.{◌≡◌, ◌∙◌, ℕ, ◌+◌, ◌<◌, ◌≤◌, List, [], ◌∷◌, ◌++◌, length, get_or, take, drop, map, sym, ap, ap₂, append_assoc, append-nil, add-one, codes}
use Rattle.std.proofs.Common.{Bool, true, false, decimal, Option, Some, None, Vec, Global}
use Rattle.std.proofs.Math.Seq.{take-suc}
use Rattle.std.proofs.lemmas.Grind.{flat_map-append}
use Rattle.std.proofs.lemmas.List.{at_drop_all, at_drop_more}
use Rattle.oer_layout.specs.Text.{Text}
use Rattle.json.specs.Print.{escape, escape_byte, quoted}
use Rattle.json.proofs.Printed.Strings.{escape_byte_plain}
use Rattle.serde_json.specs.Data as json
use Rattle.serde_json.specs.Data.{Data, member, no_members, unsigned}
use Rattle.serde_json.specs.View.{items_of}
use Rattle.serde_json.specs.Written.{comma_if, compact_text, items_text}
use Rattle.oer_units.specs.declared.tagging.Tag.{Tag}
use Rattle.oer_entries.specs.Names.{text_of}
use Rattle.oer_entries.specs.declared.bits.NamedBit.{NamedBit}
use Rattle.oer_entries.specs.declared.entry.Entry.{Entry}
use Rattle.oer_entries.specs.declared.frame.Name.{Name}
use Rattle.oer_layout.specs.Array.{bit_data, bits_data, object_of, octets_data, opening, role_text, tag_data, tag_text, value_data, with_canonical}

flat : (t a b c : Text) → ((t ++ a) ++ b) ++ c ≡ t ++ (a ++ (b ++ c))
flat t a b c = simp append_assoc

-- the same text in a place of its own
pub same_part : (f : Text → Text) (t t0 a b : Text) → a ≡ b → t ≡ t0 ++ f a → t ≡ t0 ++ f b
same_part f t t0 a b e is = is ∙ ap (λ x. t0 ++ f x) e

-- one more octet that stands in a string as it is
pub plain_more : (xs : Text) (i : ℕ) → i < length xs → 32 ≤ get_or xs i 0 → (get_or xs i 0 ≡ 34 → ⊥) → (get_or xs i 0 ≡ 92 → ⊥) → escape (take i xs) ≡ take i xs
    → escape (take (i + 1) xs) ≡ take (i + 1) xs
plain_more xs i lt high q b so =
    let x = get_or xs i 0 in
    let split : take (i + 1) xs ≡ take i xs ++ x ∷ [] = rw add-one (take-suc xs i 0 lt) in
    ap escape split ∙ flat_map-append escape_byte (take i xs) (x ∷ []) ∙ ap₂ (λ (a c : Text). a ++ c) so (append-nil (escape_byte x) ∙ escape_byte_plain x q b high) ∙ sym split

pub opened : (o : Option (Vec ℕ Global)) (v : Vec ℕ Global) (t0 t1 t2 t3 : Text) → o ≡ Some v → t1 ≡ t0 ++ codes "{\"canonical\":" → t2 ≡ t1 ++ compact_text (octets_data v.items) → t3 ≡ t2 ++ codes ","
    → t3 ≡ t0 ++ opening o
opened o v t0 t1 t2 t3 is one two three = rw (is, three, two, one) (simp append_assoc)

-- ---- bits and tags

-- what is behind the name of a bit
abbrev pub set_text : Bool → Text
set_text true = codes ",\"set\":true}"
set_text false = codes ",\"set\":false}"

bit_spelt : (name : Text) (is_set : Bool)
    → compact_text (json.object (member (codes "name") (json.string name) (member (codes "set") (json.boolean is_set) no_members))) ≡ codes "{\"name\":" ++ (quoted name ++ set_text is_set)
unfolding escape_byte
bit_spelt name true = simp append_assoc
bit_spelt name false = simp append_assoc

pub bit_pushed : (b : NamedBit) (is_set : Bool) (t0 t1 t2 t3 : Text) → b.is_set ≡ is_set → t1 ≡ t0 ++ codes "{\"name\":" → t2 ≡ t1 ++ quoted (text_of b.name) → t3 ≡ t2 ++ set_text is_set
    → t3 ≡ t0 ++ compact_text (bit_data b)
bit_pushed b is_set t0 t1 t2 t3 is one two three =
    three ∙ ap (λ x. x ++ set_text is_set) (two ∙ ap (λ x. x ++ quoted (text_of b.name)) one) ∙ flat t0 (codes "{\"name\":") (quoted (text_of b.name)) (set_text is_set)
    ∙ ap (λ s. t0 ++ (codes "{\"name\":" ++ (quoted (text_of b.name) ++ set_text s))) (sym is) ∙ ap (λ x. t0 ++ x) (sym (bit_spelt (text_of b.name) b.is_set))

-- what is left of the bits gives the whole
abbrev pub GivesBits : Text → Text → Bool → List NamedBit → Type 0
GivesBits text whole later bits = text ++ items_text later (items_of (map bit_data bits)) ≡ whole

pub bits_begun : (bits : List NamedBit) (t0 t1 : Text) → t1 ≡ t0 ++ codes "[" → GivesBits t1 (t0 ++ compact_text (bits_data bits)) false bits
bits_begun bits t0 t1 one = ap (λ x. x ++ items_text false (items_of (map bit_data bits))) one ∙ append_assoc t0 (codes "[") (items_text false (items_of (map bit_data bits)))

pub next_bit : (bits : List NamedBit) (i : ℕ) (d : NamedBit) (text t1 t2 whole : Text) (later : Bool) → i < length bits → t1 ≡ text ++ comma_if later
    → t2 ≡ t1 ++ compact_text (bit_data (get_or bits i d)) → GivesBits text whole later (drop i bits) → GivesBits t2 whole true (drop (i + 1) bits)
next_bit bits i d text t1 t2 whole later lt one two so =
    let own : Text = compact_text (bit_data (get_or bits i d)) in
    let rest : Text = items_text true (items_of (map bit_data (drop (i + 1) bits))) in
    let split : items_text later (items_of (map bit_data (drop i bits))) ≡ comma_if later ++ (own ++ rest) = at_drop_more (λ bs. items_text later (items_of (map bit_data bs))) bits i d lt in
    ap (λ x. x ++ rest) (two ∙ ap (λ x. x ++ own) one) ∙ flat text (comma_if later) own rest ∙ ap (λ (x : Text). text ++ x) (sym split) ∙ so

pub bits_ended : (bits : List NamedBit) (i : ℕ) (text t1 whole : Text) (later : Bool) → length bits ≤ i → t1 ≡ text ++ codes "]" → GivesBits text whole later (drop i bits) → t1 ≡ whole
bits_ended bits i text t1 whole later over one so =
    one ∙ ap (λ (x : Text). text ++ x) (sym (at_drop_all (λ bs. items_text later (items_of (map bit_data bs))) bits i over)) ∙ so

tag_spelt : (t : Tag) (name : Name) → compact_text (tag_data t name) ≡ codes "{\"name\":" ++ (quoted (text_of name) ++ (codes ",\"tag\":" ++ (quoted (tag_text t) ++ codes "}")))
unfolding escape_byte
tag_spelt t name = simp append_assoc

flat_tag : (t a b c d e : Text) → ((((t ++ a) ++ b) ++ c) ++ d) ++ e ≡ t ++ (a ++ (b ++ (c ++ (d ++ e))))
flat_tag t a b c d e = simp append_assoc

pub tag_pushed : (t : Tag) (name : Name) (t0 t1 t2 t3 t4 t5 : Text) → t1 ≡ t0 ++ codes "{\"name\":" → t2 ≡ t1 ++ quoted (text_of name) → t3 ≡ t2 ++ codes ",\"tag\":" → t4 ≡ t3 ++ quoted (tag_text t)
    → t5 ≡ t4 ++ codes "}" → t5 ≡ t0 ++ compact_text (tag_data t name)
tag_pushed t name t0 t1 t2 t3 t4 t5 one two three four five =
    rw (five, four, three, two, one) (flat_tag t0 (codes "{\"name\":") (quoted (text_of name)) (codes ",\"tag\":") (quoted (tag_text t)) (codes "}")) ∙ ap (λ x. t0 ++ x) (sym (tag_spelt t name))

-- ---- entries

-- what opens an object, its members with their keys, and its end
abbrev object_text : Option (Vec ℕ Global) → ℕ → Bool → Text → Text → List ℕ → ℕ → Text → Text → Data → Text
object_text o count d kind names b offset path role value =
    opening o ++ ((codes "\"count\":" ++ decimal count) ++ ((codes ",\"default\":" ++ compact_text (json.boolean d)) ++ ((codes ",\"kind\":" ++ quoted kind) ++ ((codes ",\"names\":" ++ quoted names)
    ++ (codes ",\"octets\":" ++ (compact_text (octets_data b) ++ ((codes ",\"offset\":" ++ decimal offset) ++ ((codes ",\"path\":" ++ quoted path) ++ ((codes ",\"role\":" ++ quoted role)
    ++ (codes ",\"value\":" ++ (compact_text value ++ codes "}")))))))))))

object_spelt : (o : Option (Vec ℕ Global)) (count : ℕ) (d : Bool) (kind names : Text) (b : List ℕ) (offset : ℕ) (path role : Text) (value : Data)
    → compact_text (json.object (with_canonical o
    (member (codes "count") (json.number (unsigned count))
    (member (codes "default") (json.boolean d)
    (member (codes "kind") (json.string kind)
    (member (codes "names") (json.string names)
    (member (codes "octets") (octets_data b)
    (member (codes "offset") (json.number (unsigned offset))
    (member (codes "path") (json.string path)
    (member (codes "role") (json.string role)
    (member (codes "value") value no_members))))))))))) ≡ object_text o count d kind names b offset path role value
unfolding escape_byte
object_spelt None count true kind names b offset path role value = simp append_assoc
object_spelt None count false kind names b offset path role value = simp append_assoc
object_spelt (Some v) count true kind names b offset path role value = simp append_assoc
object_spelt (Some v) count false kind names b offset path role value = simp append_assoc

all_pushed : (t0 t1 t2 t3 t4 t5 t6 t7 t8 t9 t10 t11 t12 t13 a b c d e f g h i j k l m : Text)
    → t1 ≡ t0 ++ a → t2 ≡ t1 ++ b → t3 ≡ t2 ++ c → t4 ≡ t3 ++ d → t5 ≡ t4 ++ e → t6 ≡ t5 ++ f → t7 ≡ t6 ++ g → t8 ≡ t7 ++ h → t9 ≡ t8 ++ i → t10 ≡ t9 ++ j → t11 ≡ t10 ++ k → t12 ≡ t11 ++ l
    → t13 ≡ t12 ++ m → t13 ≡ t0 ++ (a ++ (b ++ (c ++ (d ++ (e ++ (f ++ (g ++ (h ++ (i ++ (j ++ (k ++ (l ++ m))))))))))))
all_pushed t0 t1 t2 t3 t4 t5 t6 t7 t8 t9 t10 t11 t12 t13 a b c d e f g h i j k l m e1 e2 e3 e4 e5 e6 e7 e8 e9 e10 e11 e12 e13 =
    rw (e13, e12, e11, e10, e9, e8, e7, e6, e5, e4, e3, e2, e1) (simp append_assoc)

pub object_pushed : (e : Entry) (t0 t1 t2 t3 t4 t5 t6 t7 t8 t9 t10 t11 t12 t13 : Text) → t1 ≡ t0 ++ opening e.canonical → t2 ≡ t1 ++ (codes "\"count\":" ++ decimal (length e.octets.now))
    → t3 ≡ t2 ++ (codes ",\"default\":" ++ compact_text (json.boolean e.is_default)) → t4 ≡ t3 ++ (codes ",\"kind\":" ++ quoted e.kind.now) → t5 ≡ t4 ++ (codes ",\"names\":" ++ quoted e.names.now)
    → t6 ≡ t5 ++ codes ",\"octets\":" → t7 ≡ t6 ++ compact_text (octets_data e.octets.now) → t8 ≡ t7 ++ (codes ",\"offset\":" ++ decimal e.offset)
    → t9 ≡ t8 ++ (codes ",\"path\":" ++ quoted e.path.now) → t10 ≡ t9 ++ (codes ",\"role\":" ++ quoted (role_text e.what)) → t11 ≡ t10 ++ codes ",\"value\":"
    → t12 ≡ t11 ++ compact_text (value_data e.what) → t13 ≡ t12 ++ codes "}" → t13 ≡ t0 ++ compact_text (object_of e)
object_pushed e t0 t1 t2 t3 t4 t5 t6 t7 t8 t9 t10 t11 t12 t13 e1 e2 e3 e4 e5 e6 e7 e8 e9 e10 e11 e12 e13 =
    all_pushed t0 t1 t2 t3 t4 t5 t6 t7 t8 t9 t10 t11 t12 t13 _ _ _ _ _ _ _ _ _ _ _ _ _ e1 e2 e3 e4 e5 e6 e7 e8 e9 e10 e11 e12 e13
    ∙ ap (λ x. t0 ++ x) (sym (object_spelt e.canonical (length e.octets.now) e.is_default e.kind.now e.names.now e.octets.now e.offset e.path.now (role_text e.what) (value_data e.what)))
