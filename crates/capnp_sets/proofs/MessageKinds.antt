-- Which kinds the bytes of a message are refused with, where they are read as a set.
use Rattle.std.proofs.Common.{ℕ, ◌≡◌, ◌≢◌, ◌∙◌, ap, refl, subst, sym, inl, inr, Bool, true, false, List, Ok, Err, Result, IfErr}
use Rattle.std.proofs.lemmas.Bool.{true≢false}
use Rattle.capnp_device.specs.declared.error.Error.{Error}
use Rattle.capnp_device.specs.declared.error.ErrorKind.{ErrorKind}
use Rattle.capnp_device.specs.declared.error.ErrorKind.TheVariants.{OutOfMemory, Schema}
use Rattle.capnp_wire.specs.Reading.{as_struct}
use Rattle.capnp_wire.specs.Stream.{message_tree_of}
use Rattle.capnp_wire.specs.Tree as tree
use Rattle.capnp_wire.specs.Tree.{StructTree, Tree}
use Rattle.capnp_schema.specs.Broken.{IsKindOf}
use Rattle.capnp_schema.specs.Meta.{meta}
use Rattle.capnp_schema.specs.Schema.{Schemas}
use Rattle.capnp_schema.specs.Types.{StructType}
use Rattle.capnp_records.specs.Facts.ReadFaults.{RecordSound, value_of_sound}
use Rattle.capnp_records.specs.Reading.{struct_record}
use Rattle.capnp_records.specs.Record.{Left}
use Rattle.capnp_sets.specs.Facts.MessageRefusals.{RefusesAs, message_as, message_refused, struct_as, struct_refused}
use Rattle.capnp_sets.specs.Lists.{IsSchemaSetRefusal}
use Rattle.capnp_sets.specs.Message.{IsMessageRefusal, IsRootRefusal, root_record, root_struct}
use Rattle.capnp_sets.specs.Refusals.{IsRefusalOfSet, is_set_kind}
use Rattle.capnp_sets.proofs.Caused.{IsSetKind}
use Rattle.capnp_sets.proofs.SetKinds.{caused_set}

-- who is refused where bytes are read as a message
pub stream_kind : (bytes : List ℕ) (kind : ErrorKind) → Err kind ≡ message_tree_of bytes → IsSetKind kind
stream_kind bytes kind e = message_refused IsSetKind refl refl bytes kind e

-- who is refused where a root is read as a struct
pub struct_kind : (x : Tree) (n : ℕ) (kind : ErrorKind) → n ≡ 64 → Err kind ≡ as_struct x n → IsSetKind kind
struct_kind x n kind levels e = struct_refused IsSetKind refl refl refl refl x n kind levels e

root_told : (r : Result Tree ErrorKind) → RefusesAs IsSetKind r → RefusesAs IsSetKind (root_struct r)
root_told (Ok t) h = struct_as IsSetKind refl refl refl refl t
root_told (Err kind) h = h

-- ---- the set of a root ----

rule_kind : (set : Schemas) (kind : ErrorKind) → IsKindOf set kind → IsSetKind kind
rule_kind set OutOfMemory h = refl
rule_kind set (Schema table field rule entry) h = refl
rule_kind set kind h = absurd h

root_sound : (set : Schemas) (root : StructTree) → RecordSound (struct_record set (Left 63) root 0)
root_sound set root = value_of_sound set (tree.Struct root.bytes root.pointers) (Left 64) (StructType 0 0)

record_kind : (root : StructTree) (e : Error) → IsSchemaSetRefusal (root_record root) e → IsSetKind e.kind
record_kind root e (inl here) = caused_set (root_record root) (root_sound meta root) e.kind here
record_kind root e (inr (set, lists, broken)) = rule_kind set e.kind broken

refusal_kind : (r : Result StructTree ErrorKind) (e : Error) → RefusesAs IsSetKind r → IsRootRefusal r e → IsSetKind e.kind
refusal_kind (Ok root) e told h = record_kind root e h
refusal_kind (Err kind) e told h = subst IsSetKind (sym h) told

pub message_kind : (bytes : List ℕ) (e : Error) → IsMessageRefusal bytes e → IsSetKind e.kind
message_kind bytes e h = refusal_kind (root_struct (message_tree_of bytes)) e (root_told (message_tree_of bytes) (message_as IsSetKind refl refl bytes)) h

-- who is refused for memory, or for one of these
pub set_kind : (bytes : List ℕ) (e : Error) → (e.kind ≢ OutOfMemory → IsMessageRefusal bytes e) → IsSetKind e.kind
set_kind bytes e h = go (is_set_kind e.kind) refl
  where
    no_memory : is_set_kind e.kind ≡ false → e.kind ≢ OutOfMemory
    no_memory not m = true≢false (sym (ap is_set_kind m) ∙ not)

    go : (q : Bool) → is_set_kind e.kind ≡ q → IsSetKind e.kind
    go true known = known
    go false known = message_kind bytes e (h (no_memory known))

pub of_set : (kind : ErrorKind) → IsSetKind kind → IsRefusalOfSet kind
of_set kind h = (
  (λ e. true≢false (sym h ∙ ap is_set_kind e)),
  (λ e. true≢false (sym h ∙ ap is_set_kind e)),
  (λ e. true≢false (sym h ∙ ap is_set_kind e)),
)

-- each refusal of a call by what it says
pub each_kind : {A : Type 0} (made : Result A Error) (bytes : List ℕ) → IfErr made (λ e. e.kind ≢ OutOfMemory → IsMessageRefusal bytes e) → IfErr made (λ e. IsSetKind e.kind)
each_kind (Ok a) bytes h = tt
each_kind (Err e) bytes h = set_kind bytes e h

pub each_of_set : {A : Type 0} (made : Result A Error) → IfErr made (λ e. IsSetKind e.kind) → IfErr made (λ e. IsRefusalOfSet e.kind)
each_of_set (Ok a) h = tt
each_of_set (Err e) h = of_set e.kind h
