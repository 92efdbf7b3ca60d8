-- Refusals in which no device has part.
use Rattle.std.proofs.Common.{◌≡◌, ◌∙◌, ℕ, List, Bool, true, false, Err, ap, inl, inr, refl, sym}
use Rattle.std.proofs.lemmas.Bool.{true≢false}
use Rattle.capnp_device.specs.declared.error.ErrorKind.{ErrorKind}
use Rattle.capnp_device.specs.declared.error.ErrorKind.TheVariants as kind
use Rattle.capnp_wire.specs.Reading.{as_struct}
use Rattle.capnp_wire.specs.Stream.{message_tree_of}
use Rattle.capnp_wire.specs.Tree.{Tree}
use Rattle.capnp_request.specs.Refusals.{IsRefusal, is_unstrict}
use Rattle.capnp_sets.specs.Facts.MessageRefusals.{message_refused, struct_refused}
use Rattle.capnp_show_engine.specs.Steps.Refusals.{IsOfRead}

-- a test of kinds that no device's passes
tested : (test : ErrorKind → Bool) → test kind.ReadFailed ≡ false → test kind.WriteFailed ≡ false → (k : ErrorKind) → test k ≡ true → IsOfRead k
tested test read write k h = (
  (λ e. true≢false (sym h ∙ (ap test e ∙ read))),
  (λ e. true≢false (sym h ∙ (ap test e ∙ write))),
)

abbrev is_of_no_device : ErrorKind → Bool
is_of_no_device kind.ReadFailed = false
is_of_no_device kind.WriteFailed = false
is_of_no_device k = true

of_no_device : (k : ErrorKind) → is_of_no_device k ≡ true → IsOfRead k
of_no_device k h = tested is_of_no_device refl refl k h

-- a request that isn't converted is refused so
pub of_request : (strict : Bool) (k : ErrorKind) → IsRefusal strict k → IsOfRead k
of_request strict k (inl plain) = tested is_unstrict refl refl k plain
of_request strict k (inr (asked, inl e)) = of_no_device k (ap is_of_no_device e)
of_request strict k (inr (asked, inr e)) = of_no_device k (ap is_of_no_device e)

-- a root that is no struct is refused so
pub root_of_read : (t : Tree) (n : ℕ) (k : ErrorKind) → n ≡ 64 → Err k ≡ as_struct t n → IsOfRead k
root_of_read t n k levels e = struct_refused IsOfRead
    (of_no_device kind.WrongPointerKind refl)
    (of_no_device kind.BadPointer refl)
    (of_no_device kind.TooDeep refl)
    (of_no_device kind.CapabilityPointer refl)
    t n k levels e

-- bytes that are no message are refused so
pub stream_of_read : (bytes : List ℕ) (k : ErrorKind) → Err k ≡ message_tree_of bytes → IsOfRead k
stream_of_read bytes k e = message_refused IsOfRead (of_no_device kind.Truncated refl) (of_no_device kind.TooManySegments refl) bytes k e
