-- The text of a message's root is that of the record that its struct's reader stands on.
use Rattle.std.proofs.Common.{arith, ap, ap₂, ◌∙◌, ◌≡◌, ℕ, ◌+◌, Bool, List, true, false, Result, Ok}
use Rattle.capnp_device.specs.declared.error.ErrorKind.{ErrorKind}
use Rattle.capnp_wire.specs.Reading.{as_struct}
use Rattle.capnp_wire.specs.Tree as tree
use Rattle.capnp_wire.specs.Tree.{StructTree, Tree}
use Rattle.capnp_wire.specs.Standing.{struct_levels, struct_of}
use Rattle.capnp_wire.specs.Stream.{message_tree_of}
use Rattle.capnp_wire.specs.declared.struct_reader.StructReader.{StructReader}
use Rattle.capnp_schema.specs.Schema.{Schemas, brand_at, node_of}
use Rattle.capnp_schema.specs.StructHandles.{IsStruct, number_of, set_of}
use Rattle.capnp_schema.specs.Types.{StructType}
use Rattle.capnp_schema.specs.declared.schema.structs.StructSchema.{StructSchema}
use Rattle.capnp_dynamic_readers.specs.Handles.{reader_of, schema_of}
use Rattle.capnp_dynamic_readers.specs.Seen.{record_seen}
use Rattle.capnp_dynamic_readers.specs.Typed.{struct_type}
use Rattle.capnp_dynamic_readers.specs.declared.dynamic_struct.Reader.{Reader as StructHandle}
use Rattle.capnp_dynamic_readers.specs.declared.dynamic_value.Reader.TheVariants as dynamic
use Rattle.capnp_records.specs.Reading.{struct_record}
use Rattle.capnp_records.specs.Record as value
use Rattle.capnp_records.specs.Record.{Left, Record}
use Rattle.capnp_records.specs.Text.{Out, text_of}
use Rattle.capnp_show_engine.specs.Show.{message_root_text, shown_text, struct_or_group}
use Rattle.capnp_records.specs.Run.{root_type}
use Rattle.capnp_dynamic_readers.specs.Shown.{printed_text, struct_printed, value_printed}

abbrev Read : Type 0
Read = Result StructTree ErrorKind

abbrev entered : StructTree → Read
entered s = Ok s

same_struct : (x y : StructTree) → entered x ≡ entered y → x ≡ y
same_struct x y e = cc

module _ (set : Schemas) (b : ℕ) (indented : Bool) where
  -- the text of a struct's record, whose pointers have the levels that are left below a root
  abbrev struct_text : StructTree → Out
  struct_text s = text_of set indented (root_type set b) (struct_or_group (node_of set b).is_group (struct_record set (Left 63) s b))

  entered_text : (root : Tree) (s : StructTree) → Ok s ≡ as_struct root 64 → struct_text s ≡ message_root_text set b indented (Ok root)
  entered_text tree.Null s e = ap struct_text (same_struct s _ e)
  entered_text (tree.Struct bytes ps) s e = ap struct_text (same_struct s _ e)
  entered_text (tree.Voids n) s e = cc
  entered_text (tree.Bits bs) s e = cc
  entered_text (tree.Numbers w bytes) s e = cc
  entered_text (tree.Pointers ps) s e = cc
  entered_text (tree.Composite d p es) s e = cc
  entered_text (tree.FaultLeaf k) s e = cc

  -- a root that is read as a struct
  pub text_of_root : (root : Tree) (s : StructTree) (m : ℕ) → Ok s ≡ as_struct root 64 → m + 1 ≡ 64 →
      text_of set indented (root_type set b) (struct_or_group (node_of set b).is_group (struct_record set (Left m) s b)) ≡ message_root_text set b indented (Ok root)
  text_of_root root s m e levels =
      ap (λ n. text_of set indented (root_type set b) (struct_or_group (node_of set b).is_group (struct_record set (Left n) s b))) (omega (arith, levels)) ∙ entered_text root s e

printed_is : (q : Bool) (h : StructHandle) (r : Record) → record_seen h ≡ r → struct_printed q h ≡ struct_or_group q r
printed_is true h r e = ap value.Group e
printed_is false h r e = ap value.Struct e

-- a reader is that of the struct at a message's root
pub record IsRootReader (bytes : List ℕ) (root x : Tree) (n : ℕ) (r : StructReader) : Type 0 where
  -- the message was received, with this tree at its root
  pub received : Ok root ≡ message_tree_of bytes
  -- what was asked for a struct is the root, with all the levels of a message
  pub at_root : x ≡ root
  pub limit : n ≡ 64
  -- the struct that it gave, a level further down
  pub read : Ok (struct_of r) ≡ as_struct x n
  pub levels : struct_levels r + 1 ≡ n

-- a handle is a reader's, under a schema that is that of a brand of a set
pub record IsUnderBrand (set : Schemas) (b : ℕ) (h : StructHandle) (s : StructSchema) (r : StructReader) : Type 0 where
  pub schema : schema_of h ≡ s
  pub reader : reader_of h ≡ r
  -- the schema is one of its set
  pub stands : IsStruct s
  pub in_set : set_of s ≡ set
  pub number : number_of s ≡ b

-- the text of a struct's reader under a brand is that of the message whose root it stands on
pub text_seen : (set : Schemas) (b : ℕ) (indented : Bool) (bytes : List ℕ) (root x : Tree) (n : ℕ) (h : StructHandle) (s : StructSchema) (r : StructReader) →
    IsRootReader bytes root x n r → IsUnderBrand set b h s r → printed_text indented (dynamic.Struct h) ≡ shown_text set b indented bytes
text_seen set b indented bytes root x n h s r at under =
    let schema : schema_of h ≡ s = under.schema in
    let reader : reader_of h ≡ r = under.reader in
    let set_is : set_of s ≡ set = under.in_set in
    let number_is : number_of s ≡ b = under.number in
    let in_set : set_of (schema_of h) ≡ set = ap set_of schema ∙ set_is in
    let of_brand : number_of (schema_of h) ≡ b = ap number_of schema ∙ number_is in
    let typed : struct_type (schema_of h) ≡ root_type set b = ap struct_type schema ∙ ap₂ StructType number_is (under.stands.generic ∙ ap₂ (λ y z. (brand_at y z).node) set_is number_is) in
    let seen : record_seen h ≡ struct_record set (Left (struct_levels r)) (struct_of r) b = cc in
    let group : (node_of (set_of (schema_of h)) (number_of (schema_of h))).is_group ≡ (node_of set b).is_group = ap₂ (λ y z. (node_of y z).is_group) in_set of_brand in
    let read_there : Ok (struct_of r) ≡ as_struct root 64 = at.read ∙ ap₂ as_struct at.at_root at.limit in
    ap (λ y. text_of y indented (struct_type (schema_of h)) (value_printed (dynamic.Struct h))) in_set
    ∙ (ap (λ t. text_of set indented t (value_printed (dynamic.Struct h))) typed
    ∙ (ap (λ q. text_of set indented (root_type set b) (struct_printed q h)) group
    ∙ (ap (text_of set indented (root_type set b)) (printed_is (node_of set b).is_group h _ seen)
    ∙ (text_of_root set b indented root (struct_of r) (struct_levels r) read_there (at.levels ∙ at.limit) ∙ ap (message_root_text set b indented) at.received))))
