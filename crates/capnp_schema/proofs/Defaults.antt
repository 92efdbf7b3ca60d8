-- The defaults of an accepted set fit their fields.
use Rattle.std.proofs.Common.{All, ℕ, ◌≡◌, ◌<◌, length, None, refl, sym, ap, subst}
use Rattle.capnp_wire.specs.Tree as tree
use Rattle.capnp_wire.specs.Standing.{levels_of, tree_of}
use Rattle.capnp_wire.specs.Words.{first_fault}
use Rattle.capnp_wire.specs.declared.pointer_reader.PointerReader.{PointerReader}
use Rattle.capnp_schema.specs.Types.{SchemaType, VoidType, BoolType, IntType, UIntType, EnumType, TextType, DataType, StructType, ListType, AnyPointerType}
use Rattle.capnp_schema.specs.Schema.{Schemas, Node, FieldKind, Slot, Group, Value, VoidValue, BoolValue, IntValue, UIntValue, EnumValue, TextValue, DataValue, StructValue, ListValue, AnyPointerValue, fields_of, field_at, default_of, kind_default}
use Rattle.capnp_schema.specs.Accepted.{IsAccepted, DefaultStands, KindDefault, IsDefaultOf, Decodes, ListReads}
use Rattle.capnp_schema.specs.Defaults.{DefaultFits, IsDefaultReadAs, value_default_tree}
use Rattle.capnp_schema.specs.Entries.{lists_seen}
use Rattle.capnp_schema.specs.FieldLists.{index_of, field_schema, typed_of}
use Rattle.capnp_schema.specs.StructHandles.{number_of, set_of}
use Rattle.capnp_schema.specs.Views.{IsViewOf}
use Rattle.capnp_schema.specs.declared.lists.Lists.{Lists}
use Rattle.capnp_schema.specs.declared.schema.fields.Field.{Field as FieldHandle}
use Rattle.capnp_schema.specs.declared.value.Value.TheVariants as view
use Rattle.capnp_schema.proofs.LookUps.{accepted_seen}
use Rattle.capnp_schema.proofs.NamedTypes.{brand_of_field}
use Rattle.capnp_schema.specs.Facts.Fields.{of_field, of_node}

null_reads : (t : SchemaType) → IsDefaultReadAs t tree.Null
null_reads VoidType = refl
null_reads BoolType = refl
null_reads (IntType bytes) = refl
null_reads (UIntType bytes) = refl
null_reads (EnumType number) = refl
null_reads TextType = refl
null_reads DataType = refl
null_reads (StructType number generic) = tt
null_reads (ListType element) = (tt, refl)
null_reads AnyPointerType = refl

abbrev Fits : Value → SchemaType → Type 0
Fits v t = (first_fault (value_default_tree v) ≡ None) × IsDefaultReadAs t (value_default_tree v)

no_tree : (v : Value) (t : SchemaType) → value_default_tree v ≡ tree.Null → Fits v t
no_tree v t e = (ap first_fault e, subst (IsDefaultReadAs t) (sym e) (null_reads t))

value_fits : (v : Value) (t : SchemaType) → IsDefaultOf v t → Decodes v → ListReads v t → Fits v t
value_fits VoidValue t of d r = no_tree VoidValue t refl
value_fits (BoolValue x) t of d r = no_tree (BoolValue x) t refl
value_fits (IntValue bytes x) t of d r = no_tree (IntValue bytes x) t refl
value_fits (UIntValue bytes x) t of d r = no_tree (UIntValue bytes x) t refl
value_fits (EnumValue x) t of d r = no_tree (EnumValue x) t refl
value_fits (TextValue x) t of d r = no_tree (TextValue x) t refl
value_fits (DataValue x) t of d r = no_tree (DataValue x) t refl
value_fits (StructValue words) (StructType number generic) of d r = d
value_fits (StructValue words) t of d r = absurd of
value_fits (ListValue words) (ListType element) of d r = (d.0, (d.1, r))
value_fits (ListValue words) t of d r = absurd of
value_fits (AnyPointerValue words) t of d r = no_tree (AnyPointerValue words) t d

kind_fits : (k : FieldKind) (t : SchemaType) → KindDefault IsDefaultOf k t → Decodes (kind_default k) → KindDefault ListReads k t → Fits (kind_default k) t
kind_fits (Slot offset default) t of d r = value_fits default t of d r
kind_fits (Group node) t of d r = no_tree VoidValue t refl

pub default_fits : (set : Schemas) → IsAccepted set → (b i : ℕ) → b < length set.brands → i < length (fields_of set b) → DefaultFits (field_at set b i)
default_fits set accepted b i b_in i_in = record {
  kind = accepted.rule5 b i b_in i_in;
  words = stands.0;
  decodes = stands.1;
  sound = fits.0;
  read = fits.1;
}
  where
    stands : DefaultStands (field_at set b i).field
    stands = of_field DefaultStands set b i i_in (of_node set accepted (λ (n : Node). All DefaultStands n.fields) (λ n d h. (accepted.rule6.values.nodes n d h).defaults) b b_in)

    fits : Fits (default_of (field_at set b i).field) (field_at set b i).type
    fits = kind_fits (field_at set b i).field.kind (field_at set b i).type (accepted.rule5 b i b_in i_in) stands.1 (accepted.rule6.lists b i b_in i_in)

-- ---- the pointer of a view ----

pub struct_view : (v : Value) (r : PointerReader) → IsViewOf v (view.Struct r) → (tree_of r ≡ value_default_tree v) × (levels_of r ≡ 64)
struct_view (StructValue words) r h = (h.tree, h.levels)
struct_view v r h = absurd h

pub list_view : (v : Value) (r : PointerReader) → IsViewOf v (view.List r) → (tree_of r ≡ value_default_tree v) × (levels_of r ≡ 64)
list_view (ListValue words) r h = (h.tree, h.levels)
list_view v r h = absurd h

pub untyped_view : (v : Value) (r : PointerReader) → IsViewOf v (view.AnyPointer r) → (tree_of r ≡ value_default_tree v) × (levels_of r ≡ 64)
untyped_view (AnyPointerValue words) r h = (h.tree, h.levels)
untyped_view v r h = absurd h

-- ---- the default of a field's handle ----

pub handle_fits : (f : FieldHandle) (lists : Lists) → lists ≡ f.schema.schemas.now → IsAccepted (lists_seen lists) → DefaultFits (typed_of f)
handle_fits f lists same accepted =
    let set = set_of (field_schema f) in
    default_fits set (accepted_seen same accepted) (number_of (field_schema f)) (index_of f) (brand_of_field set (number_of (field_schema f)) (index_of f) f.inside) f.inside
