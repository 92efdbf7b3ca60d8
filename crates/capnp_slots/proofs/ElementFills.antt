-- What follows for a builder's get of an element from what is due alone.
use Rattle.std.proofs.Common.{◌≡◌, refl, false, Option, Some, None, Result, Ok, Err, IsOk, OnOk, IfErr, sym}
use Rattle.capnp_device.specs.declared.error.Error.{Error}
use Rattle.capnp_device.specs.declared.error.ErrorKind.{ErrorKind}
use Rattle.capnp_wire.specs.Defaults.{takes_default}
use Rattle.capnp_wire.specs.Edits.{IsDueRefusal}
use Rattle.capnp_wire.specs.Tree as tree
use Rattle.capnp_wire.specs.Tree.{Tree}
use Rattle.capnp_schema.specs.Schema.{Schemas, VoidValue}
use Rattle.capnp_schema.specs.Types.{ListType, SchemaType, StructType}
use Rattle.capnp_records.specs.Writes.Fill.{IsAtRest}
use Rattle.capnp_slots.specs.Copied.{refusal_of}
use Rattle.capnp_slots.specs.Fills.{ElementRests}

-- ---- a call that is refused by what is due alone ----

same_kind : (k l : ErrorKind) (d : Option ErrorKind) → Some k ≡ d → d ≡ Some l → k ≡ l
same_kind k l d e h = cc

module _ {A : Type 0} where
  pub due_within : (r : Result A Error) (d : Option ErrorKind) → refusal_of r ≡ d → OnOk r (d ≡ None)
  due_within (Ok a) d e = sym e
  due_within (Err x) d e = tt

  pub due_cause : (r : Result A Error) (d : Option ErrorKind) → refusal_of r ≡ d → IfErr r (λ e. IsDueRefusal e d)
  due_cause (Ok a) d e = tt
  due_cause (Err x) d e = (λ _. sym e, λ l h. same_kind x.kind l d e h)

  pub due_rests : (r : Result A Error) (d : Option ErrorKind) → refusal_of r ≡ d → d ≡ None → IsOk r
  due_rests (Ok a) d e h = refl
  due_rests (Err x) d e h = absurd cc

pub always : {A E : Type 0} {P : Type 0} (r : Result A E) → P → OnOk r P
always (Ok a) p = p
always (Err e) p = tt

-- ---- a list without a default ----

no_default : (x : Tree) → takes_default tree.Null x ≡ false
no_default tree.Null = refl
no_default x = refl

pub still_rests : (set : Schemas) (e : SchemaType) (x : Tree) → ElementRests set (ListType e) x → IsAtRest set VoidValue (ListType e) x
still_rests set (StructType b g) x h = (no_default x, h)
still_rests set e x h = (no_default x, h)
