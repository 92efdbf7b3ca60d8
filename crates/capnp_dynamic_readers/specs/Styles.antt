-- Styles of texts: the texts that values have in one.
use Rattle.std.specs.Prelude.{ℕ, List}
use Rattle.capnp_wire.specs.declared.struct_reader.StructReader.{StructReader}
use Rattle.capnp_schema.specs.Schema.{Schemas, TypedField}
use Rattle.capnp_records.specs.Text.{Layout, Out}
use Rattle.capnp_dynamic_readers.specs.declared.dynamic_list.Reader.{Reader as ListHandle}
use Rattle.capnp_dynamic_readers.specs.declared.dynamic_struct.Reader.{Reader as StructHandle}
use Rattle.capnp_dynamic_readers.specs.declared.dynamic_value.Reader.{Reader as DynamicValue}

-- The texts of a style: of a value that stands alone, and of one where so many levels are left; of an element, and of the
-- elements from one on, so many; of what a struct has under a field, and of its items from a field of a brand on; and of
-- numbers of 32 and of 64 bits without a sign.
pub record Texts : Type 0 where
  pub root : Layout → DynamicValue → Out
  pub value : ℕ → Layout → DynamicValue → Out
  pub element : ℕ → Layout → ListHandle → ℕ → Out
  pub elements : ℕ → Layout → ListHandle → ℕ → ℕ → List Out
  pub field : ℕ → Layout → StructHandle → TypedField → Out
  pub items : ℕ → Schemas → StructReader → Layout → ℕ → ℕ → List Out
  pub narrow : ℕ → List ℕ
  pub wide : ℕ → List ℕ
