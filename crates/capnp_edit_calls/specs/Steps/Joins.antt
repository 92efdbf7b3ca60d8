-- Two lists one after another.
use Rattle.std.specs.Prelude.{◌≡◌, ◌⊎◌, None, Some}
use Rattle.capnp_device.specs.declared.error.ErrorKind.{ErrorKind}
use Rattle.capnp_device.specs.declared.error.ErrorKind.TheVariants.{TooDeep}
use Rattle.capnp_wire.specs.Depth.{IsShallow}
use Rattle.capnp_wire.specs.Tree.{Tree}
use Rattle.capnp_schema.specs.Schema.{Schemas}
use Rattle.capnp_schema.specs.Types.{SchemaType, element_size}
use Rattle.capnp_splices.specs.Splices.{IsSplice, splice_refusal, spliced_list}
use Rattle.capnp_edits.specs.Changes.{joined, least_size}

-- a list is one with another behind its last element
pub record IsJoined (set : Schemas) (e : SchemaType) (t u w : Tree) : Type 0 where
  pub formed : IsSplice (joined t u)
  pub list : w ≡ spliced_list (element_size e) (least_size set e) (joined t u)
  pub sound : splice_refusal (element_size e) (least_size set e) (joined t u) ≡ None

-- why they are not joined, memory aside
abbrev pub IsJoinRefusal : Schemas → SchemaType → Tree → Tree → ErrorKind → Type 0
IsJoinRefusal set e t u kind = ((kind ≡ TooDeep) × (IsShallow u → ⊥)) ⊎ (splice_refusal (element_size e) (least_size set e) (joined t u) ≡ Some kind)

-- the same of two lists in messages of their own
abbrev pub IsMadeJoinRefusal : Schemas → SchemaType → Tree → Tree → ErrorKind → Type 0
IsMadeJoinRefusal set e t u kind = ((kind ≡ TooDeep) × (IsShallow t → ⊥)) ⊎ IsJoinRefusal set e t u kind
