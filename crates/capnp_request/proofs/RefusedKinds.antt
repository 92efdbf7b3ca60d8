-- Refusals of copies are those of a conversion.
use Rattle.std.proofs.Common.{◌≡◌, ◌≢◌, ◌∙◌, ap, refl, subst, sym, Bool, true, false, Option, Some, None}
use Rattle.std.proofs.lemmas.Bool.{true≢false}
use Rattle.std.specs.Option.{option_map}
use Rattle.capnp_device.specs.declared.error.Error.{Error}
use Rattle.capnp_device.specs.declared.error.ErrorKind.{ErrorKind}
use Rattle.capnp_device.specs.declared.error.ErrorKind.TheVariants.{OutOfMemory}
use Rattle.capnp_wire.specs.Edits.{IsCopyRefusal}
use Rattle.capnp_wire.specs.Reading.{refusal}
use Rattle.capnp_wire.specs.declared.fault.Fault.{Fault}
use Rattle.capnp_wire.specs.declared.fault.Fault.TheVariants as fault
use Rattle.capnp_request.specs.Refusals.{IsUnstrict, is_unstrict}

fault_kind : (f : Fault) → IsUnstrict (refusal f)
fault_kind fault.BadPointer = refl
fault_kind fault.TooDeep = refl
fault_kind fault.CapabilityPointer = refl

-- a kind that is none of these isn't this one, which is
other : (kind one : ErrorKind) → is_unstrict one ≡ true → is_unstrict kind ≡ false → kind ≢ one
other kind one h not e = true≢false (sym h ∙ (ap is_unstrict (sym e) ∙ not))

pub copy_kinds : (e : Error) (f : Option Fault) → IsCopyRefusal e f → IsUnstrict e.kind
copy_kinds e f h = go (is_unstrict e.kind) refl
  where
    due : (f : Option Fault) → option_map refusal f ≡ Some e.kind → IsUnstrict e.kind
    due None same = cc
    due (Some x) same = let is : refusal x ≡ e.kind = cc in subst IsUnstrict is (fault_kind x)

    go : (q : Bool) → is_unstrict e.kind ≡ q → IsUnstrict e.kind
    go true is = is
    go false not = due f (h (other e.kind OutOfMemory refl not))
