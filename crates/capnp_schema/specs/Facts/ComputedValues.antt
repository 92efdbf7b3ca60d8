-- The words of a set's values, as a test that computes.
use Rattle.std.proofs.Common.{ℕ, ◌≡◌, ◌-◌, ◌%◌, ◌^◌, ◌&&◌, ◌==◌, nat_lt, nat_le, Bool, true, false, List, length, refl, Option, Some, None}
use Rattle.std.specs.List.{list_all}
use Rattle.std.specs.Option.{is_none}
use Rattle.std.specs.Result.{is_ok}
use Rattle.std.proofs.lemmas.Bool.{ltb-true, leb-true}
use Rattle.std.proofs.lemmas.Bool.Decides.{Decides-eqb}
use Rattle.capnp_wire.specs.Tree as tree
use Rattle.capnp_wire.specs.Tree.{Tree}
use Rattle.capnp_wire.specs.Reading.{as_list, is_null_tree}
use Rattle.capnp_wire.specs.Words.{first_fault}
use Rattle.capnp_schema.specs.Types.{SchemaType, ListType, element_size}
use Rattle.capnp_schema.specs.Schema.{Schemas, Node, Field, Annotation, FieldKind, Slot, Group, Value, TextValue, DataValue, StructValue, ListValue, AnyPointerValue, default_of}
use Rattle.capnp_schema.specs.Accepted.{KindDefault, ReadsDefault, AreWords, HasWords, HaveWords, IsStructOrNull, IsListOrNull, Decodes, ListReads, DefaultStands, NodeHasWords, words_root, EachOfEnum, Rule6}
use Rattle.capnp_schema.specs.Facts.Computed.{both, all_pass, all_fields, each_field}
use Rattle.capnp_schema.specs.Facts.ComputedRules.{passes_node, passes_enum, of_node, of_enum}

-- ---- whole words ----

abbrev pub are_words : List ℕ → Bool
are_words bytes = nat_lt 0 (length bytes) && (length bytes % 8 == 0)

abbrev pub has_words : Value → Bool
has_words (StructValue words) = are_words words
has_words (ListValue words) = are_words words
has_words (AnyPointerValue words) = are_words words
has_words value = true

abbrev pub have_words : List Annotation → Bool
have_words annotations = list_all (λ (a : Annotation). has_words a.value) annotations

whole : (bytes : List ℕ) → are_words bytes ≡ true → AreWords bytes
whole bytes e =
    let parts = both (nat_lt 0 (length bytes)) (length bytes % 8 == 0) e in
    (ltb-true 0 (length bytes) parts.0, (Decides-eqb (length bytes % 8) 0).0 parts.1)

words_there : (value : Value) → has_words value ≡ true → HasWords value
words_there (StructValue words) e = whole words e
words_there (ListValue words) e = whole words e
words_there (AnyPointerValue words) e = whole words e
words_there value e = tt

all_words : (annotations : List Annotation) → have_words annotations ≡ true → HaveWords annotations
all_words annotations = all_pass _ (λ (a : Annotation). HasWords a.value) annotations (λ a. words_there a.value)

-- ---- trees of values ----

abbrev pub is_struct_or_null : Tree → Bool
is_struct_or_null tree.Null = true
is_struct_or_null (tree.Struct bytes pointers) = true
is_struct_or_null t = false

abbrev pub is_list_or_null : Tree → Bool
is_list_or_null tree.Null = true
is_list_or_null (tree.Voids count) = true
is_list_or_null (tree.Bits bits) = true
is_list_or_null (tree.Numbers width bytes) = true
is_list_or_null (tree.Pointers pointers) = true
is_list_or_null (tree.Composite data_words pointer_count elements) = true
is_list_or_null t = false

abbrev pub decodes : Value → Bool
decodes (StructValue words) = is_none (first_fault (words_root words)) && is_struct_or_null (words_root words)
decodes (ListValue words) = is_none (first_fault (words_root words)) && is_list_or_null (words_root words)
decodes (AnyPointerValue words) = is_null_tree (words_root words)
decodes (TextValue bytes) = nat_le (length bytes) (2 ^ 29 - 2)
decodes (DataValue bytes) = nat_le (length bytes) (2 ^ 29 - 1)
decodes value = true

none_there : {A : Type 0} (o : Option A) → is_none o ≡ true → o ≡ None
none_there None e = refl
none_there (Some x) e = cc

struct_there : (t : Tree) → is_struct_or_null t ≡ true → IsStructOrNull t
struct_there tree.Null e = tt
struct_there (tree.Struct bytes pointers) e = tt
struct_there t e = cc

list_there : (t : Tree) → is_list_or_null t ≡ true → IsListOrNull t
list_there tree.Null e = tt
list_there (tree.Voids count) e = tt
list_there (tree.Bits bits) e = tt
list_there (tree.Numbers width bytes) e = tt
list_there (tree.Pointers pointers) e = tt
list_there (tree.Composite data_words pointer_count elements) e = tt
list_there t e = cc

null_there : (t : Tree) → is_null_tree t ≡ true → t ≡ tree.Null
null_there tree.Null e = refl
null_there t e = cc

decoded : (value : Value) → decodes value ≡ true → Decodes value
decoded (StructValue words) e =
    let parts = both (is_none (first_fault (words_root words))) (is_struct_or_null (words_root words)) e in
    (none_there (first_fault (words_root words)) parts.0, struct_there (words_root words) parts.1)
decoded (ListValue words) e =
    let parts = both (is_none (first_fault (words_root words))) (is_list_or_null (words_root words)) e in
    (none_there (first_fault (words_root words)) parts.0, list_there (words_root words) parts.1)
decoded (AnyPointerValue words) e = null_there (words_root words) e
decoded (TextValue bytes) e = leb-true (length bytes) (2 ^ 29 - 2) e
decoded (DataValue bytes) e = leb-true (length bytes) (2 ^ 29 - 1) e
decoded value e = tt

-- ---- lists ----

abbrev pub list_reads : Value → SchemaType → Bool
list_reads (ListValue words) (ListType element) = is_ok (as_list (element_size element) (words_root words) 1)
list_reads value t = true

abbrev pub kind_reads : FieldKind → SchemaType → Bool
kind_reads (Slot offset default) t = list_reads default t
kind_reads (Group node) t = true

reads : (value : Value) (t : SchemaType) → list_reads value t ≡ true → ListReads value t
reads (ListValue words) (ListType element) e = e
reads value t e = tt

kind_read : (kind : FieldKind) (t : SchemaType) → kind_reads kind t ≡ true → KindDefault ListReads kind t
kind_read (Slot offset default) t e = reads default t e
kind_read (Group node) t e = tt

-- ---- rule 6 ----

abbrev pub default_stands : Field → Bool
default_stands f = has_words (default_of f) && decodes (default_of f)

abbrev pub node_stands : Node → Bool
node_stands n = list_all default_stands n.fields && passes_node have_words n

abbrev pub meets_rule6 : Schemas → Bool
meets_rule6 set = (list_all node_stands set.nodes && list_all (passes_enum have_words) set.enums) && all_fields set (λ b i f. kind_reads f.field.kind f.type)

default_there : (f : Field) → default_stands f ≡ true → DefaultStands f
default_there f e =
    let parts = both (has_words (default_of f)) (decodes (default_of f)) e in
    (words_there (default_of f) parts.0, decoded (default_of f) parts.1)

node_there : (n : Node) → node_stands n ≡ true → NodeHasWords n
node_there n e =
    let parts = both (list_all default_stands n.fields) (passes_node have_words n) e in
    record { defaults = all_pass default_stands DefaultStands n.fields default_there parts.0; annotations = of_node have_words HaveWords all_words n parts.1 }

pub rule6 : (set : Schemas) → meets_rule6 set ≡ true → Rule6 set
rule6 set e =
    let parts = both _ _ e in
    let words = both _ _ parts.0 in
    record {
      values = record {
        nodes = all_pass _ NodeHasWords set.nodes node_there words.0;
        enums = all_pass _ (EachOfEnum HaveWords) set.enums (of_enum have_words HaveWords all_words) words.1;
      };
      lists = each_field set _ (λ b i f. ReadsDefault f) (λ b i f. kind_read f.field.kind f.type) parts.1;
    }
