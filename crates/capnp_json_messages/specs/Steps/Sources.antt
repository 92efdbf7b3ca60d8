-- What a leaf is as one that is given to a set.
use Rattle.std.specs.Prelude.{Option, Some, None}
use Rattle.capnp_records.specs.Call.{Source, VoidSource, BoolSource, IntSource, UIntSource, EnumSource, TextSource, DataSource}
use Rattle.capnp_from_json.specs.declared.leaves.Leaf.{Leaf}
use Rattle.capnp_from_json.specs.declared.leaves.Leaf.TheVariants as leaf

-- a null pointer is not given
abbrev pub leaf_source : Leaf → Option Source
leaf_source leaf.Void = Some VoidSource
leaf_source (leaf.Bool b) = Some (BoolSource b)
leaf_source (leaf.Int8 x) = Some (IntSource 1 x)
leaf_source (leaf.Int16 x) = Some (IntSource 2 x)
leaf_source (leaf.Int32 x) = Some (IntSource 4 x)
leaf_source (leaf.Int64 x) = Some (IntSource 8 x)
leaf_source (leaf.UInt8 n) = Some (UIntSource 1 n)
leaf_source (leaf.UInt16 n) = Some (UIntSource 2 n)
leaf_source (leaf.UInt32 n) = Some (UIntSource 4 n)
leaf_source (leaf.UInt64 n) = Some (UIntSource 8 n)
leaf_source (leaf.Enum n) = Some (EnumSource n)
leaf_source (leaf.Text bytes) = Some (TextSource bytes.items)
leaf_source (leaf.«Data» bytes) = Some (DataSource bytes.items)
leaf_source leaf.Null = None
