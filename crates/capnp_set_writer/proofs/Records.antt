-- Records of nodes, brands and enums that were written are read as themselves.
use Rattle.std.proofs.Common.{All, bit_xor, ◌≡◌, ℕ, ◌^◌, ◌<◌, refl, ap, ◌∙◌, arith, List, ◌++◌, Bool, true, false, Ok}
use Rattle.capnp_wire.specs.Encoding.{spelled_number}
use Rattle.capnp_wire.specs.WellFormed.{AreBytes}
use Rattle.capnp_wire.specs.Place.{struct_tree}
use Rattle.capnp_wire.specs.Tree.{Null, Tree}
use Rattle.capnp_wire.specs.Facts.Bytes.{AreBytes_append, AreBytes_spelled, AreBytes_zeros, little_endian_spelled}
use Rattle.capnp_schema.specs.Builtin.{zero_word}
use Rattle.capnp_schema.specs.Facts.Bits.{xor_bounded}
use Rattle.capnp_schema.specs.Meta.{meta}
use Rattle.capnp_schema.specs.Schema.{Brand, Enum, Enumerant, Field, FieldKind, Group, Node, Slot, BoolValue, ListValue, Value, field_at}
use Rattle.capnp_schema.specs.SlotValue.{bit_number, slot_number}
use Rattle.capnp_schema.specs.Types.{BoolType}
use Rattle.capnp_records.specs.Part.{which_of}
use Rattle.capnp_records.specs.Reading.{number_value, struct_record}
use Rattle.capnp_records.specs.Record.{Levels, Values, one_less}
use Rattle.capnp_sets.specs.Fields.{field_of, kind_by, node_meant, slot_of}
use Rattle.capnp_sets.specs.Lists.{brand_of, enum_meant, enumerant_of}
use Rattle.capnp_sets.specs.Parts.{name, number, meta_read_at, meta_read_under, struct, structs, truth}
use Rattle.capnp_sets.specs.Types.{type_lists, types}
use Rattle.capnp_sets.specs.Values.{annotations, value_meant}
use Rattle.capnp_set_writer.specs.Kept.{BrandKept, EnumKept, EnumerantKept, FieldKept, IsWrittenName, KindKept, NodeKept, ValueKept}
use Rattle.capnp_set_writer.specs.Trees.{brand_tree, enum_tree, enumerant_tree, field_kind_tree, field_row, field_tree, in_word, node_row, node_tree, value_tree, zeros}
use Rattle.capnp_set_writer.proofs.Lists.{HasLevel, HasLevels, struct_entered, structs_there}
use Rattle.capnp_set_writer.proofs.Numbers.{applied, masked_slot, name_read, read_ok, uint_slot}
use Rattle.capnp_set_writer.proofs.TypesRead.{IsTypeRead, type_lists_there, types_there}
use Rattle.capnp_set_writer.proofs.ValuesRead.{AreBytes_word, annotations_there, value_read}

-- ---- fields ----

module _ (l : Levels) (f : Field) (kind number_of : ℕ) (default : Tree) where
  abbrev row : List ℕ
  row = (field_row f kind number_of default).bytes

  pub row_bytes : AreBytes row
  row_bytes = AreBytes_append (spelled_number 2 (bit_xor f.discriminant_value 65535)) (spelled_number 2 kind ++ spelled_number 4 number_of) (AreBytes_spelled 2 (bit_xor f.discriminant_value 65535)) (AreBytes_append (spelled_number 2 kind) (spelled_number 4 number_of) (AreBytes_spelled 2 kind) (AreBytes_spelled 4 number_of))

  field_discriminant : f.discriminant_value < 2 ^ 16 → number (meta_read_at 2 0 (struct_record meta l (field_row f kind number_of default) 2)) ≡ Ok f.discriminant_value
  unfolding meta_read_at
  field_discriminant h =
      ap read_ok (masked_slot row 2 0 f.discriminant_value 65535 row_bytes (little_endian_spelled 2 (bit_xor f.discriminant_value 65535) (xor_bounded 16 f.discriminant_value 65535 h (omega arith))))

  field_name : IsWrittenName f.name → name (meta_read_at 2 1 (struct_record meta l (field_row f kind number_of default) 2)) ≡ Ok f.name
  unfolding meta_read_at
  field_name h = name_read f.name h.utf8

  field_annotations : HasLevels 3 l → FieldKept f → annotations (meta_read_at 2 2 (struct_record meta l (field_row f kind number_of default) 2)) ≡ Ok f.annotations
  unfolding meta_read_at
  field_annotations e k = annotations_there l e f.annotations k.annotations (ListValue zero_word)

slot_kind : (l : Levels) (f : Field) (offset : ℕ) (default : Value) → HasLevel l → offset < 2 ^ 32 → ValueKept default →
    kind_by (which_of (struct_record meta l (field_kind_tree f (Slot offset default)) 2)) (struct_record meta l (field_kind_tree f (Slot offset default)) 2) ≡ Ok (Slot offset default)
unfolding kind_by slot_of meta_read_at
slot_kind l f offset default e h k =
    let bytes : List ℕ = (field_kind_tree f (Slot offset default)).bytes in
    applied (applied refl (ap read_ok (uint_slot bytes 4 1 offset (row_bytes l f 0 offset (struct_tree (value_tree default))) (little_endian_spelled 4 offset h))))
    (ap (λ v. struct value_meant (meta_read_under (field_at meta 3 1) v)) (struct_entered l (value_tree default) 5 e) ∙ value_read (one_less l) default k)

group_kind : (l : Levels) (f : Field) (node : ℕ) → node < 2 ^ 32 →
    kind_by (which_of (struct_record meta l (field_kind_tree f (Group node)) 2)) (struct_record meta l (field_kind_tree f (Group node)) 2) ≡ Ok (Group node)
unfolding kind_by meta_read_at
group_kind l f node h =
    let bytes : List ℕ = (field_kind_tree f (Group node)).bytes in
    applied refl (ap read_ok (uint_slot bytes 4 1 node (row_bytes l f 1 node Null) (little_endian_spelled 4 node h)))

abbrev with_kind : Field → FieldKind → Field
with_kind f kind = record { name = f.name; discriminant_value = f.discriminant_value; annotations = f.annotations; kind = kind }

kind_read : (l : Levels) → HasLevels 3 l → (f : Field) (kind : FieldKind) → FieldKept f → KindKept kind → field_of (struct_record meta l (field_kind_tree f kind) 2) ≡ Ok (with_kind f kind)
unfolding field_of
kind_read l e f (Slot offset default) k h =
    let d : Tree = struct_tree (value_tree default) in
    applied (applied (applied (applied refl (field_discriminant l f 0 offset d k.discriminant)) (field_name l f 0 offset d k.name)) (field_annotations l f 0 offset d e k)) (slot_kind l f offset default e.0 h.0 h.1)
kind_read l e f (Group node) k h =
    applied (applied (applied (applied refl (field_discriminant l f 1 node Null k.discriminant)) (field_name l f 1 node Null k.name)) (field_annotations l f 1 node Null e k)) (group_kind l f node h)

pub field_read : (l : Levels) → HasLevels 3 l → (f : Field) → FieldKept f → field_of (struct_record meta l (field_tree f) 2) ≡ Ok f
field_read l e f k = kind_read l e f f.kind k k.kind

-- ---- nodes ----

flag_read : (id data_words pointers count offset : ℕ) (b : Bool) → truth (number_value BoolType (slot_number (node_row id data_words pointers count b offset) 112 (BoolValue false) BoolType)) ≡ Ok b
flag_read id data_words pointers count offset true = refl
flag_read id data_words pointers count offset false = refl

module _ (l : Levels) (n : Node) where
  abbrev numbers : List ℕ
  numbers = (node_tree n).bytes

  pub numbers_bytes : AreBytes numbers
  numbers_bytes =
      AreBytes_append (spelled_number 8 n.id) (spelled_number 2 n.data_word_count ++ (spelled_number 2 n.pointer_count ++ (spelled_number 2 n.discriminant_count ++ (spelled_number 1 (bit_number n.is_group) ++ (zeros 1 ++ (in_word 4 n.discriminant_offset)))))) (AreBytes_spelled 8 n.id)
      (AreBytes_append (spelled_number 2 n.data_word_count) (spelled_number 2 n.pointer_count ++ (spelled_number 2 n.discriminant_count ++ (spelled_number 1 (bit_number n.is_group) ++ (zeros 1 ++ (in_word 4 n.discriminant_offset))))) (AreBytes_spelled 2 n.data_word_count)
      (AreBytes_append (spelled_number 2 n.pointer_count) (spelled_number 2 n.discriminant_count ++ (spelled_number 1 (bit_number n.is_group) ++ (zeros 1 ++ (in_word 4 n.discriminant_offset)))) (AreBytes_spelled 2 n.pointer_count)
      (AreBytes_append (spelled_number 2 n.discriminant_count) (spelled_number 1 (bit_number n.is_group) ++ (zeros 1 ++ (in_word 4 n.discriminant_offset))) (AreBytes_spelled 2 n.discriminant_count)
      (AreBytes_append (spelled_number 1 (bit_number n.is_group)) (zeros 1 ++ (in_word 4 n.discriminant_offset)) (AreBytes_spelled 1 (bit_number n.is_group))
      (AreBytes_append (zeros 1) (in_word 4 n.discriminant_offset) (AreBytes_zeros 1) (AreBytes_word 4 n.discriminant_offset))))))

  node_id : n.id < 2 ^ 64 → number (meta_read_at 1 0 (struct_record meta l (node_tree n) 1)) ≡ Ok n.id
  unfolding meta_read_at
  node_id h = ap read_ok (uint_slot numbers 8 0 n.id numbers_bytes (little_endian_spelled 8 n.id h))

  node_words : n.data_word_count < 2 ^ 16 → number (meta_read_at 1 1 (struct_record meta l (node_tree n) 1)) ≡ Ok n.data_word_count
  unfolding meta_read_at
  node_words h = ap read_ok (uint_slot numbers 2 4 n.data_word_count numbers_bytes (little_endian_spelled 2 n.data_word_count h))

  node_pointers : n.pointer_count < 2 ^ 16 → number (meta_read_at 1 2 (struct_record meta l (node_tree n) 1)) ≡ Ok n.pointer_count
  unfolding meta_read_at
  node_pointers h = ap read_ok (uint_slot numbers 2 5 n.pointer_count numbers_bytes (little_endian_spelled 2 n.pointer_count h))

  node_count : n.discriminant_count < 2 ^ 16 → number (meta_read_at 1 3 (struct_record meta l (node_tree n) 1)) ≡ Ok n.discriminant_count
  unfolding meta_read_at
  node_count h = ap read_ok (uint_slot numbers 2 6 n.discriminant_count numbers_bytes (little_endian_spelled 2 n.discriminant_count h))

  node_group : truth (meta_read_at 1 4 (struct_record meta l (node_tree n) 1)) ≡ Ok n.is_group
  unfolding meta_read_at
  node_group = flag_read n.id n.data_word_count n.pointer_count n.discriminant_count n.discriminant_offset n.is_group

  node_offset : n.discriminant_offset < 2 ^ 32 → number (meta_read_at 1 5 (struct_record meta l (node_tree n) 1)) ≡ Ok n.discriminant_offset
  unfolding meta_read_at
  node_offset h = ap read_ok (uint_slot numbers 4 4 n.discriminant_offset numbers_bytes (little_endian_spelled 4 n.discriminant_offset h))

  node_name : IsWrittenName n.display_name → name (meta_read_at 1 6 (struct_record meta l (node_tree n) 1)) ≡ Ok n.display_name
  unfolding meta_read_at
  node_name h = name_read n.display_name h.utf8

  node_annotations : HasLevels 5 l → NodeKept n → annotations (meta_read_at 1 7 (struct_record meta l (node_tree n) 1)) ≡ Ok n.annotations
  unfolding meta_read_at
  node_annotations e k = annotations_there l (e.0, (e.1.0, (e.1.1.0, tt))) n.annotations k.annotations (ListValue zero_word)

  node_fields : HasLevels 5 l → NodeKept n → structs 2 field_of (meta_read_at 1 8 (struct_record meta l (node_tree n) 1)) ≡ Ok n.fields
  unfolding meta_read_at
  node_fields e k = structs_there 2 1 3 field_of field_tree FieldKept l e.0 e.1.0 (field_read (one_less (one_less l)) e.1.1) n.fields k.fields (ListValue zero_word)

pub node_read : (l : Levels) → HasLevels 5 l → (n : Node) → NodeKept n → node_meant (struct_record meta l (node_tree n) 1) ≡ Ok n
unfolding node_meant
node_read l e n k =
    let first = applied (applied (applied refl (node_id l n k.sections.id)) (node_words l n k.sections.data_words)) (node_pointers l n k.sections.pointers) in
    let second = applied (applied (applied first (node_count l n k.sections.discriminant_count)) (node_group l n)) (node_offset l n k.sections.discriminant_offset) in
    applied (applied (applied second (node_name l n k.name)) (node_annotations l n e k)) (node_fields l n e k)

-- ---- enums ----

enumerant_name : (l : Levels) (x : Enumerant) → IsWrittenName x.name → name (meta_read_at 9 0 (struct_record meta l (enumerant_tree x) 9)) ≡ Ok x.name
unfolding meta_read_at
enumerant_name l x h = name_read x.name h.utf8

enumerant_annotations : (l : Levels) (x : Enumerant) → HasLevels 3 l → EnumerantKept x → annotations (meta_read_at 9 1 (struct_record meta l (enumerant_tree x) 9)) ≡ Ok x.annotations
unfolding meta_read_at
enumerant_annotations l x e k = annotations_there l e x.annotations k.annotations (ListValue zero_word)

pub enumerant_read : (l : Levels) → HasLevels 3 l → (x : Enumerant) → EnumerantKept x → enumerant_of (struct_record meta l (enumerant_tree x) 9) ≡ Ok x
unfolding enumerant_of
enumerant_read l e x k = applied (applied refl (enumerant_name l x k.name)) (enumerant_annotations l x e k)

-- a brand or an enum, and that its types name brands of a set
pub record BrandRead (brands : Values) (b : Brand) : Type 0 where
  pub kept : BrandKept b
  pub field_types : All (IsTypeRead brands) b.field_types
  pub own : All (IsTypeRead brands) b.annotation_types.own
  pub children : All (All (IsTypeRead brands)) b.annotation_types.children

pub record EnumRead (brands : Values) (x : Enum) : Type 0 where
  pub kept : EnumKept x
  pub own : All (IsTypeRead brands) x.annotation_types.own
  pub children : All (All (IsTypeRead brands)) x.annotation_types.children

module _ (brands : Values) (l : Levels) (x : Enum) where
  enum_id : x.id < 2 ^ 64 → number (meta_read_at 8 0 (struct_record meta l (enum_tree x) 8)) ≡ Ok x.id
  unfolding meta_read_at
  enum_id h = ap read_ok (uint_slot (spelled_number 8 x.id) 8 0 x.id (AreBytes_spelled 8 x.id) (little_endian_spelled 8 x.id h))

  enum_name : IsWrittenName x.display_name → name (meta_read_at 8 1 (struct_record meta l (enum_tree x) 8)) ≡ Ok x.display_name
  unfolding meta_read_at
  enum_name h = name_read x.display_name h.utf8

  enum_annotations : HasLevels 3 l → EnumKept x → annotations (meta_read_at 8 2 (struct_record meta l (enum_tree x) 8)) ≡ Ok x.annotations
  unfolding meta_read_at
  enum_annotations e k = annotations_there l e x.annotations k.annotations (ListValue zero_word)

  enum_enumerants : HasLevels 5 l → EnumKept x → structs 9 enumerant_of (meta_read_at 8 3 (struct_record meta l (enum_tree x) 8)) ≡ Ok x.enumerants
  unfolding meta_read_at
  enum_enumerants e k = structs_there 9 0 2 enumerant_of enumerant_tree EnumerantKept l e.0 e.1.0 (enumerant_read (one_less (one_less l)) e.1.1) x.enumerants k.enumerants (ListValue zero_word)

  enum_own : HasLevels 2 l → EnumRead brands x → types brands (meta_read_at 8 4 (struct_record meta l (enum_tree x) 8)) ≡ Ok x.annotation_types.own
  unfolding meta_read_at
  enum_own e k = types_there brands l e x.annotation_types.own k.own (ListValue zero_word)

  enum_children : HasLevels 3 l → EnumRead brands x → type_lists brands (meta_read_at 8 5 (struct_record meta l (enum_tree x) 8)) ≡ Ok x.annotation_types.children
  unfolding meta_read_at
  enum_children e k = type_lists_there brands l e x.annotation_types.children k.children (ListValue zero_word)

pub enum_read : (brands : Values) (l : Levels) → HasLevels 5 l → (x : Enum) → EnumRead brands x → enum_meant brands (struct_record meta l (enum_tree x) 8) ≡ Ok x
unfolding enum_meant
enum_read brands l e x k =
    let three : HasLevels 3 l = (e.0, (e.1.0, (e.1.1.0, tt))) in
    let first = applied (applied (applied refl (enum_id brands l x k.kept.id)) (enum_name brands l x k.kept.name)) (enum_annotations brands l x three k.kept) in
    applied (applied first (enum_enumerants brands l x e k.kept)) (applied (applied refl (enum_own brands l x (e.0, (e.1.0, tt)) k)) (enum_children brands l x three k))

-- ---- brands ----

pub brand_node : (l : Levels) (b : Brand) → b.node < 2 ^ 32 → number (meta_read_at 6 0 (struct_record meta l (brand_tree b) 6)) ≡ Ok b.node
unfolding meta_read_at
brand_node l b h = ap read_ok (uint_slot (in_word 4 b.node) 4 0 b.node (AreBytes_word 4 b.node) (little_endian_spelled 4 b.node h))

module _ (brands : Values) (l : Levels) (b : Brand) where
  brand_fields : HasLevels 2 l → BrandRead brands b → types brands (meta_read_at 6 1 (struct_record meta l (brand_tree b) 6)) ≡ Ok b.field_types
  unfolding meta_read_at
  brand_fields e k = types_there brands l e b.field_types k.field_types (ListValue zero_word)

  brand_own : HasLevels 2 l → BrandRead brands b → types brands (meta_read_at 6 2 (struct_record meta l (brand_tree b) 6)) ≡ Ok b.annotation_types.own
  unfolding meta_read_at
  brand_own e k = types_there brands l e b.annotation_types.own k.own (ListValue zero_word)

  brand_children : HasLevels 3 l → BrandRead brands b → type_lists brands (meta_read_at 6 3 (struct_record meta l (brand_tree b) 6)) ≡ Ok b.annotation_types.children
  unfolding meta_read_at
  brand_children e k = type_lists_there brands l e b.annotation_types.children k.children (ListValue zero_word)

pub brand_read : (brands : Values) (l : Levels) → HasLevels 3 l → (b : Brand) → BrandRead brands b → brand_of brands (struct_record meta l (brand_tree b) 6) ≡ Ok b
unfolding brand_of
brand_read brands l e b k =
    let two : HasLevels 2 l = (e.0, (e.1.0, tt)) in
    applied (applied (applied refl (brand_node l b k.kept.node)) (brand_fields brands l b two k)) (applied (applied refl (brand_own brands l b two k)) (brand_children brands l b e k))
