-- What is read or refused doesn't answer that a write was made.
use Rattle.std.proofs.Common.{◌≡◌, ◌≢◌, Bool, true, false, Option, Some, None, ap, inl, inr, refl, sym, ◌∙◌}
use Rattle.std.proofs.lemmas.Bool.{true≢false}
use Rattle.capnp_device.specs.declared.error.ErrorKind.{ErrorKind}
use Rattle.capnp_device.specs.declared.error.ErrorKind.TheVariants.{InactiveMember, OutOfMemory}
use Rattle.capnp_schema.specs.Schema.{Schemas}
use Rattle.capnp_schema.specs.Types.{SchemaType}
use Rattle.capnp_records.specs.Call.{Done, Flag, Get, GivesValue, Refused, Reply}
use Rattle.capnp_records.specs.Default.{read_of}
use Rattle.capnp_records.specs.Operation.{Answers, Does, Gets, answer_of}
use Rattle.capnp_records.specs.Record.{Value}
use Rattle.capnp_records.specs.Step.{IsRefused, StepTarget, fault_of}

abbrev is_done : Reply → Bool
is_done Done = true
is_done reply = false

undone : (reply other : Reply) → reply ≡ other → is_done other ≡ false → reply ≢ Done
undone reply other is unlike e = true≢false (sym (ap is_done e) ∙ (ap is_done is ∙ unlike))

pub refused_undone : (kind : ErrorKind) → Refused kind ≢ Done
refused_undone kind = undone (Refused kind) (Refused kind) refl refl

pub flag_undone : (reply : Reply) (b : Bool) → reply ≡ Flag b → reply ≢ Done
flag_undone reply b is = undone reply (Flag b) is refl

answer_undone : (t : SchemaType) (v : Value) (o : Option ErrorKind) (old : Value) (reply : Reply) (new : Value) → Answers t v o old reply new → reply ≢ Done
answer_undone t v (Some kind) old reply new h = undone reply (Refused kind) h.0 refl
answer_undone t v None old reply new (inl h) = undone reply (GivesValue (answer_of t v)) h.0 refl
answer_undone t v None old reply new (inr (takes, refused)) = undone reply (Refused OutOfMemory) refused.0 refl

pub get_undone : (set : Schemas) (x : StepTarget) (old : Value) (reply : Reply) (new : Value) → Does set Get x old reply new → reply ≢ Done
get_undone set x old reply new = go x.inactive
  where
    go : (q : Bool) → (elim q as (λ _. Type 0) [ true ↦ IsRefused InactiveMember reply old new | false ↦ Gets set x old reply new ]) → reply ≢ Done
    go true h = undone reply (Refused InactiveMember) h.0 refl
    go false h = answer_undone x.type (read_of set x.default x.type x.part) (fault_of (read_of set x.default x.type x.part)) old reply new h
