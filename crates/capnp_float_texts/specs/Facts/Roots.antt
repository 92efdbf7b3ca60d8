-- The text of a value that stands alone.
use Rattle.std.proofs.Common.{◌≡◌, refl, Bool, true, false, ap, sym, ◌∙◌}
use Rattle.std.proofs.lemmas.Bool.{true≢false}
use Rattle.capnp_schema.specs.Schema.{VoidValue, node_of}
use Rattle.capnp_schema.specs.StructHandles.{number_of, set_of}
use Rattle.capnp_records.specs.Text.{Layout}
use Rattle.capnp_dynamic_readers.specs.Handles.{schema_of}
use Rattle.capnp_dynamic_readers.specs.Shown.{struct_printed}
use Rattle.capnp_dynamic_readers.specs.Typed.{struct_type}
use Rattle.capnp_dynamic_readers.specs.declared.dynamic_struct.Reader.{Reader as StructHandle}
use Rattle.capnp_dynamic_readers.specs.declared.dynamic_value.Reader.{Reader as DynamicValue}
use Rattle.capnp_dynamic_readers.specs.declared.dynamic_value.Reader.TheVariants as dynamic
use Rattle.capnp_float_texts.specs.Steps.Shown.{record_shown, root_shown, value_shown}
use Rattle.capnp_float_texts.specs.Texts.{part_text, text_within}

pub group_root : (floats : Bool) (at : Layout) (v : DynamicValue) (s : StructHandle) → v ≡ dynamic.Struct s → (node_of (set_of (schema_of s)) (number_of (schema_of s))).is_group ≡ true → root_shown floats at v ≡ record_shown 64 at s
group_root floats at v s e h = ap (root_shown floats at) e ∙ go (node_of (set_of (schema_of s)) (number_of (schema_of s))).is_group h
  where
    go : (q : Bool) → q ≡ true → part_text (set_of (schema_of s)) (text_within (set_of (schema_of s)) 64) floats at VoidValue (struct_type (schema_of s)) (struct_printed q s) ≡ record_shown 64 at s
    go true e = refl
    go false e = absurd (true≢false (sym e))

pub struct_root : (floats : Bool) (at : Layout) (v : DynamicValue) (s : StructHandle) → v ≡ dynamic.Struct s → (node_of (set_of (schema_of s)) (number_of (schema_of s))).is_group ≡ false → root_shown floats at v ≡ value_shown floats 64 at v
struct_root floats at v s e h =
    ap (root_shown floats at) e ∙ (go (node_of (set_of (schema_of s)) (number_of (schema_of s))).is_group h ∙ sym (ap (value_shown floats 64 at) e))
  where
    go : (q : Bool) → q ≡ false → part_text (set_of (schema_of s)) (text_within (set_of (schema_of s)) 64) floats at VoidValue (struct_type (schema_of s)) (struct_printed q s) ≡ value_shown floats 64 at (dynamic.Struct s)
    go false e = refl
    go true e = absurd (true≢false e)

pub other_root : (floats : Bool) (at : Layout) (v : DynamicValue) → ((s : StructHandle) → v ≡ dynamic.Struct s → ⊥) → root_shown floats at v ≡ value_shown floats 64 at v
other_root floats at (dynamic.Struct s) h = absurd (h s refl)
other_root floats at dynamic.Void h = refl
other_root floats at (dynamic.Bool b) h = refl
other_root floats at (dynamic.Int8 x) h = refl
other_root floats at (dynamic.Int16 x) h = refl
other_root floats at (dynamic.Int32 x) h = refl
other_root floats at (dynamic.Int64 x) h = refl
other_root floats at (dynamic.UInt8 x) h = refl
other_root floats at (dynamic.UInt16 x) h = refl
other_root floats at (dynamic.UInt32 x) h = refl
other_root floats at (dynamic.UInt64 x) h = refl
other_root floats at (dynamic.Enum e) h = refl
other_root floats at (dynamic.Text t) h = refl
other_root floats at (dynamic.«Data» bytes) h = refl
other_root floats at (dynamic.List l) h = refl
other_root floats at (dynamic.AnyPointer p) h = refl
