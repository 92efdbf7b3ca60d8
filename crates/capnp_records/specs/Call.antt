-- Calls along a path, what is given to a set, and replies.
use Rattle.std.specs.Prelude.{ℕ, ℤ, List, Bool, Option}
use Rattle.capnp_wire.specs.Tree.{Tree, StructTree}
use Rattle.capnp_device.specs.declared.error.ErrorKind.{ErrorKind}
use Rattle.capnp_schema.specs.Types.{SchemaType}
use Rattle.capnp_records.specs.Record.{Levels}

-- a field by its index or by its name, or an element of a list
pub data PathStep : Type 0 where
  FieldNumber : ℕ → PathStep
  FieldNamed : List ℕ → PathStep
  ElementAt : ℕ → PathStep

-- What is given to a set. The integers by their bytes, with a sign and without; a struct, list or untyped pointer as its
-- reader: the levels left, what it stands on (of a null list an empty one), and the brand of its schema or the type of its
-- elements.
pub data Source : Type 0 where
  VoidSource : Source
  BoolSource : Bool → Source
  IntSource : (bytes : ℕ) → ℤ → Source
  UIntSource : (bytes : ℕ) → ℕ → Source
  EnumSource : ℕ → Source
  TextSource : List ℕ → Source
  DataSource : List ℕ → Source
  StructSource : Levels → StructTree → (brand : ℕ) → Source
  ListSource : Levels → Tree → (element : SchemaType) → Source
  AnyPointerSource : Levels → Tree → Source

pub data Op : Type 0 where
  Get : Op
  Has : Op
  Which : Op
  Set : Source → Op
  Init : Op
  Initn : (size : ℕ) → Op
  Clear : Op

-- the path is walked, and the operation is done at its end to what the last step names
pub record Call : Type 0 where
  pub path : List PathStep
  pub last : PathStep
  pub op : Op

-- a value as it is answered: a list is its length, an untyped pointer whether it is null
pub data Plain : Type 0 where
  VoidPlain : Plain
  BoolPlain : Bool → Plain
  IntPlain : (bytes : ℕ) → ℤ → Plain
  UIntPlain : (bytes : ℕ) → ℕ → Plain
  EnumPlain : ℕ → Plain
  TextPlain : List ℕ → Plain
  DataPlain : List ℕ → Plain
  StructPlain : Plain
  ListPlain : (length : ℕ) → Plain
  AnyPointerPlain : (is_null : Bool) → Plain

pub data Reply : Type 0 where
  Done : Reply
  GivesValue : Plain → Reply
  Flag : Bool → Reply
  Member : (index : Option ℕ) → Reply
  Refused : ErrorKind → Reply
