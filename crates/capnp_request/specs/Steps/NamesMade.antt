-- What the code keeps of names, as the definition sees it.
use Rattle.std.specs.Global.{Global}
use Rattle.std.specs.HashMap.{get}
use Rattle.std.specs.Prelude.{ℕ, zero, suc, ◌<◌, ◌≡◌, ◌≢◌, List, [], ◌∷◌, ◌++◌, Bool, true, false, not, ◌==◌, ◌||◌, bytes_eq, length, map, slice_get, string_bytes, String, Vec, Option, Some, None}
use Rattle.std.specs.Option.{unwrap_or}
use Rattle.capnp_base.specs.declared.introspect.TypeVariant.{TypeVariant}
use Rattle.capnp_base.specs.declared.introspect.TypeVariant.TheVariants as variant
use Rattle.capnp_device.specs.declared.error.ErrorKind.{ErrorKind}
use Rattle.capnp_device.specs.declared.error.ErrorKind.TheVariants.{OutOfMemory, TooManyTypes}
use Rattle.capnp_schema.specs.Schema.{Node, seen_node}
use Rattle.capnp_schema.specs.Types.{AnyPointerType}
use Rattle.capnp_schema.specs.declared.record.NodeRecord.{NodeRecord}
use Rattle.capnp_request.specs.Names.{Holder, type_name}
use Rattle.capnp_request.specs.Work.{MarkedType, plain}
use Rattle.capnp_request.specs.declared.names.Holder.{Holder as HolderRecord}
use Rattle.capnp_request.specs.declared.names.Names.{Names}

-- the names of the structs that were made, and names as bytes
abbrev pub struct_names : List NodeRecord → List (List ℕ)
struct_names nodes = map (λ (n : Node). n.display_name) (map seen_node nodes)

abbrev pub texts : {A : Type 0} → List (String A) → List (List ℕ)
texts names = map string_bytes names

-- a refusal of a name that gets longer than names are, memory aside
pub record IsTooLong (kind : ErrorKind) (name : List ℕ) : Type 0 where
  pub too_long : kind ≢ OutOfMemory → (kind ≡ TooManyTypes) × (1024 < length name)

-- a file where a name is taken
abbrev pub file_when : Bool → List ℕ → List ℕ
file_when true file = file
file_when false file = []

-- a piece so many times
abbrev pub repeated_piece : ℕ → List ℕ → List ℕ
repeated_piece zero piece = []
repeated_piece (suc count) piece = piece ++ repeated_piece count piece

-- a type that is no list and names no struct and no enum
abbrev pub names_nothing : TypeVariant → Bool
names_nothing (variant.Struct s) = false
names_nothing (variant.Enum e) = false
names_nothing (variant.List t) = false
names_nothing t = true

-- the name of a bound type by its index, an untyped pointer's past the last
abbrev pub bound_name_at : (structs enums : List (List ℕ)) → List MarkedType → ℕ → List ℕ
bound_name_at structs enums ts index = type_name structs enums (unwrap_or (slice_get ts index) (plain AnyPointerType))

-- one more with the name: the first has it, and it is shared where another has another id
abbrev pub one_more : ℕ → Option HolderRecord → HolderRecord
one_more id None = record { id = id; is_shared = false }
one_more id (Some h) = record { id = h.id; is_shared = h.is_shared || not (h.id == id) }

-- who has a dotted name among these
abbrev pub holder_of : List Holder → List ℕ → Option HolderRecord
holder_of [] dotted = None
holder_of (h ∷ hs) dotted = elim (bytes_eq h.dotted dotted) [ true ↦ Some (one_more h.id (holder_of hs dotted)) | false ↦ holder_of hs dotted ]

pub record AreHolders (names : Names) (hs : List Holder) : Type 0 where
  pub held : (dotted : Vec ℕ Global) → get (λ (x y : Vec ℕ Global). bytes_eq x.items y.items) names.holders dotted ≡ holder_of hs dotted.items
