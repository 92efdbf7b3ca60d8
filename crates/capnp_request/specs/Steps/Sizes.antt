-- Bytes that are taken from those that are left: steps of the code.
use Rattle.std.specs.Prelude.{ℕ, ◌+◌, ◌<◌, ◌≡◌, ◌⊎◌, List, [], ◌∷◌, ◌++◌, Bool, slice_get, Option, Some, None, Result, Ok, Err}
use Rattle.capnp_device.specs.declared.error.Error.{Error}
use Rattle.capnp_device.specs.declared.error.ErrorKind.TheVariants.{TooLarge}
use Rattle.capnp_schema.specs.Schema.{seen_enum, seen_node, seen_schemas}
use Rattle.capnp_schema.specs.declared.record.EnumRecord.{EnumRecord}
use Rattle.capnp_schema.specs.declared.record.NodeRecord.{NodeRecord}
use Rattle.capnp_request.specs.Names.{Holder}
use Rattle.capnp_request.specs.Order.{Made, nothing_made, schemas_made}
use Rattle.capnp_request.specs.Sizes.{enum_bytes, lists_bytes, node_bytes}
use Rattle.capnp_request.specs.Steps.ProgressSeen.{made_of, work_rest}
use Rattle.capnp_request.specs.Terms.{SchemaNode}
use Rattle.capnp_request.specs.Within.{made_in, make_step}
use Rattle.capnp_request.specs.Work.{Named, Work}
use Rattle.capnp_request.specs.declared.conversion.Converted.{Converted}
use Rattle.capnp_request.specs.declared.conversion.Progress.{Progress}

-- so many bytes are taken from those that are left, or they are more
abbrev pub IsTaken : (left bytes : ℕ) → Result ℕ Error → Type 0
IsTaken left bytes (Ok rest) = rest + bytes ≡ left
IsTaken left bytes (Err e) = (left < bytes) × (e.kind ≡ TooLarge)

-- a list stays, or has one more at its end
abbrev pub HasGrown : {A : Type 0} → (old new : List A) → Type 0
HasGrown {A} old new = (new ≡ old) ⊎ ((one : A) × (new ≡ old ++ one ∷ []))

-- the bytes of what may be there
abbrev pub bytes_of : {A : Type 0} → (A → ℕ) → Option A → ℕ
bytes_of f (Some a) = f a
bytes_of f None = 0

-- those of the struct of a number, and of the enum of a number
abbrev pub node_bytes_at : List NodeRecord → ℕ → ℕ
node_bytes_at structs n = bytes_of (λ (x : NodeRecord). node_bytes (seen_node x)) (slice_get structs n)

abbrev pub enum_bytes_at : List EnumRecord → ℕ → ℕ
enum_bytes_at enums n = bytes_of (λ (x : EnumRecord). enum_bytes (seen_enum x)) (slice_get enums n)

-- those of all that was made
abbrev pub made_bytes : Converted → ℕ
made_bytes c = lists_bytes (seen_schemas c.nodes.items c.brands.items c.enums.items)

-- A step makes more than there are bytes left for.
abbrev pub IsStepLarge : List SchemaNode → (strict : Bool) → Made → Named → (left bytes : ℕ) → Progress → Named → Type 0
IsStepLarge nodes strict m s left bytes new t =
    (more : Bool) × ((after : List Holder) × (((again : Made → Work Made) → make_step nodes strict again m s ≡ work_rest more again (made_of new after) t) × (left + bytes < made_bytes new.made)))

-- what some first steps make has more than so many bytes
pub record IsLargeWork (limit : ℕ) (nodes : List SchemaNode) (strict : Bool) (s : Named) : Type 0 where
  pub steps : ℕ
  pub made : Made
  pub after : Named
  pub begun : made_in nodes strict steps nothing_made s ≡ Ok (made, after)
  pub large : limit < lists_bytes (schemas_made made)
