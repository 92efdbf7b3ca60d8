-- The defaults of fields: the tree behind a pointer, and what a default is in an accepted set.
use Rattle.std.specs.Prelude.{◌≡◌, None}
use Rattle.capnp_wire.specs.Tree as tree
use Rattle.capnp_wire.specs.Tree.{Tree}
use Rattle.capnp_wire.specs.Words.{first_fault}
use Rattle.capnp_schema.specs.Types.{SchemaType, StructType, ListType}
use Rattle.capnp_schema.specs.Schema.{Schemas, Value, StructValue, ListValue, AnyPointerValue, TypedField, default_of}
use Rattle.capnp_schema.specs.Accepted.{Decodes, DefaultIsOfType, EachField, HasWords, IsAccepted, IsListOrNull, IsStructOrNull, ReadsElements, words_root}

-- the tree of a default's words; null for every other default, a text's or data's bytes too
abbrev pub value_default_tree : Value → Tree
value_default_tree (StructValue words) = words_root words
value_default_tree (ListValue words) = words_root words
value_default_tree (AnyPointerValue words) = words_root words
value_default_tree value = tree.Null

-- null, or what the type reads: a struct, or a list of an element size that is read as the type's elements. Every other
-- type has null
abbrev pub IsDefaultReadAs : SchemaType → Tree → Type 0
IsDefaultReadAs (StructType number generic) d = IsStructOrNull d
IsDefaultReadAs (ListType element) d = IsListOrNull d × ReadsElements element d
IsDefaultReadAs t d = d ≡ tree.Null

-- a field's default is of its type or an untyped null, has whole words, decodes, and is what the type reads or null
pub record DefaultFits (f : TypedField) : Type 0 where
  pub kind : DefaultIsOfType f
  pub words : HasWords (default_of f.field)
  pub decodes : Decodes (default_of f.field)
  pub sound : first_fault (value_default_tree (default_of f.field)) ≡ None
  pub read : IsDefaultReadAs f.type (value_default_tree (default_of f.field))

abbrev pub DefaultsFit : Type 0
DefaultsFit = (set : Schemas) → IsAccepted set → EachField set (λ b i f. DefaultFits f)
