-- How a step of the walk is refused.
use Rattle.std.specs.Prelude.{ℕ, ◌≡◌, ◌⊎◌, true, Option, Some, None}
use Rattle.capnp_device.specs.declared.error.ErrorKind.{ErrorKind}
use Rattle.capnp_device.specs.declared.error.ErrorKind.TheVariants.{OutOfMemory, TooDeep}
use Rattle.capnp_wire.specs.Reading.{element_pointer, is_null_tree}
use Rattle.capnp_wire.specs.Standing.{list_levels, list_of, struct_levels, struct_of}
use Rattle.capnp_wire.specs.Tree.{FaultLeaf, Tree}
use Rattle.capnp_wire.specs.declared.fault.Fault.TheVariants as fault
use Rattle.capnp_wire.specs.declared.list_reader.ListReader.{ListReader}
use Rattle.capnp_wire.specs.declared.size.ElementSize.{ElementSize}
use Rattle.capnp_wire.specs.declared.struct_reader.StructReader.{StructReader}
use Rattle.capnp_schema.specs.Discriminant.{discriminant_of}
use Rattle.capnp_schema.specs.Schema.{Schemas}
use Rattle.capnp_schema.specs.SlotValue.{bits_at}
use Rattle.capnp_schema.specs.StructHandles.{struct_node}
use Rattle.capnp_schema.specs.declared.schema.structs.StructSchema.{StructSchema}
use Rattle.capnp_diffs.specs.Refusals.{Compared, IsCompared, IsEntered, IsListEntered, IsRefusal, IsUncopied, Pair}

-- wherever this is compared, under this set and through so many groups, the number is a refusal
abbrev pub IsRefusedAt : Schemas → ℕ → Compared → ErrorKind → Type 0
IsRefusedAt set c what k = (p : Pair) → p.set ≡ set → IsCompared p c what → IsRefusal p k

-- the same whatever the set is, and through however many groups
abbrev pub IsRefusedWhere : Compared → ErrorKind → Type 0
IsRefusedWhere what k = (p : Pair) (c : ℕ) → IsCompared p c what → IsRefusal p k

-- what is put is copied, or refused
abbrev pub IsPutRefusal : Tree → ErrorKind → Type 0
IsPutRefusal y k = (k ≡ OutOfMemory) ⊎ IsUncopied y k

-- what stands behind a pointer; nothing where it is null
abbrev pub IsStructThere : Tree → ℕ → Option StructReader → Type 0
IsStructThere x l None = is_null_tree x ≡ true
IsStructThere x l (Some s) = IsEntered x l (struct_of s) (struct_levels s)

abbrev pub IsListThere : ElementSize → Tree → ℕ → Option ListReader → Type 0
IsListThere size x l None = is_null_tree x ≡ true
IsListThere size x l (Some z) = IsListEntered size x l (list_of z) (list_levels z)

-- the pointer of an element is cut off
abbrev pub IsCutOff : Tree → ℕ → ℕ → ErrorKind → Type 0
IsCutOff x l i k = (k ≡ TooDeep) × (element_pointer x i l ≡ FaultLeaf fault.TooDeep)

-- the number at the discriminant's place is another in both
pub record HaveOtherNumbers (s : StructSchema) (old new : StructReader) : Type 0 where
  pub first : ℕ
  pub is : discriminant_of (struct_node s) ≡ Some first
  pub differ : bits_at (struct_of old).bytes first 16 ≡ bits_at (struct_of new).bytes first 16 → ⊥
