-- What the trees are that set, init and initn write.
use Rattle.std.specs.Prelude.{ℕ, ◌*◌, ◌^◌, ◌<◌, ⊤, replicate}
use Rattle.capnp_wire.specs.Tree.{Tree, Null}
use Rattle.capnp_wire.specs.Place.{struct_tree}
use Rattle.capnp_wire.specs.Edits.{zero_struct, zero_structs, zero_list}
use Rattle.capnp_schema.specs.Types.{SchemaType, TextType, DataType, StructType, ListType, element_size}
use Rattle.capnp_schema.specs.Ranges.{IsSigned}
use Rattle.capnp_schema.specs.Schema.{Schemas}
use Rattle.capnp_records.specs.Call.{Source, IntSource, UIntSource, EnumSource, TextSource, DataSource, StructSource, ListSource}
use Rattle.capnp_records.specs.Given.{data_tree, copied_struct}
use Rattle.capnp_base.specs.Text.{text_tree}
use Rattle.capnp_schema.specs.Plan.{brand_size}

-- the tree that the set of a pointer slot or element writes
abbrev pub source_tree : Source → Tree
source_tree (TextSource bytes) = text_tree bytes
source_tree (DataSource bytes) = data_tree bytes
source_tree (StructSource l s from) = copied_struct s
source_tree (ListSource l t from) = t
source_tree s = Null

-- what the Rust types of sources give by themselves
abbrev pub SourceFits : Source → Type 0
SourceFits (IntSource bytes x) = (0 < bytes) × IsSigned bytes x
SourceFits (UIntSource bytes n) = n < 2 ^ (8 * bytes)
SourceFits (EnumSource n) = n < 65536
SourceFits s = ⊤

-- ---- init and initn ----

abbrev pub init_tree : Schemas → SchemaType → Tree
init_tree set (StructType b g) = struct_tree (zero_struct (brand_size set b))
init_tree set t = Null

-- a list of so many elements of a type
abbrev pub new_list : Schemas → SchemaType → ℕ → Tree
new_list set (StructType b g) n = zero_structs (brand_size set b) n
new_list set t n = zero_list (element_size t) n

abbrev pub initn_tree : Schemas → SchemaType → ℕ → Tree
initn_tree set TextType n = text_tree (replicate n 0)
initn_tree set DataType n = data_tree (replicate n 0)
initn_tree set (ListType element) n = new_list set element n
initn_tree set t n = Null
