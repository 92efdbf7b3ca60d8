-- Copies of values, and what a set of them does.
use Rattle.std.proofs.Common.{ℕ, ◌≡◌, ◌⊎◌, List, Result, Ok, Err, IfErr, IfOk, inl, inr, subst, sym}
use Rattle.capnp_device.specs.declared.error.Error.{Error}
use Rattle.capnp_device.specs.declared.error.ErrorKind.TheVariants.{TooDeep}
use Rattle.capnp_wire.specs.Depth.{IsShallow, message_levels}
use Rattle.capnp_wire.specs.Reading.{as_struct}
use Rattle.capnp_wire.specs.Standing.{struct_of, struct_read}
use Rattle.capnp_wire.specs.Tree.{StructTree, Tree}
use Rattle.capnp_wire.specs.declared.struct_reader.StructReader.{StructReader}
use Rattle.capnp_schema.specs.declared.schema.structs.StructSchema.{StructSchema}
use Rattle.capnp_records.specs.Call.{PathStep, Reply, Source}
use Rattle.capnp_slots.specs.SetValues.{source_of}
use Rattle.capnp_edit_calls.specs.Copies.{Copies, too_deep}
use Rattle.capnp_edit_calls.specs.Steps.Kept.{IsKeptAt, SetsCopy}
use Rattle.capnp_edit_calls.specs.declared.copy.Kept.{Kept}

-- ---- the struct at a root ----

pub struct_answered : (r : Result StructReader Error) (t u : Tree) (n : ℕ) → struct_read r ≡ as_struct u n → u ≡ t → n ≡ message_levels → IfOk r (λ x. as_struct t message_levels ≡ Ok (struct_of x))
struct_answered (Ok x) t u n h tree levels = subst (λ (k : ℕ). as_struct t k ≡ Ok (struct_of x)) levels (subst (λ (y : Tree). as_struct y n ≡ Ok (struct_of x)) tree (sym h))
struct_answered (Err e) t u n h tree levels = tt

pub struct_refused : (r : Result StructReader Error) (t u : Tree) (n : ℕ) → struct_read r ≡ as_struct u n → u ≡ t → n ≡ message_levels → IfErr r (λ e. ((e.kind ≡ TooDeep) × (IsShallow t → ⊥)) ⊎ (as_struct t message_levels ≡ Err e.kind))
struct_refused (Ok x) t u n h tree levels = tt
struct_refused (Err e) t u n h tree levels = inr (subst (λ (k : ℕ). as_struct t k ≡ Err e.kind) levels (subst (λ (y : Tree). as_struct y n ≡ Err e.kind) tree (sym h)))

-- ---- what is set ----

module _ (schema : StructSchema) (old : StructTree) (path : List PathStep) (reply : Reply) (new : StructTree) (before after : List ℕ) where
  abbrev Leaves : Source → Type 0
  Leaves s = SetsCopy schema old path s reply new before after

  -- a copy of what is seen
  pub copied : (from : List PathStep) (k : Kept) (at : IsKeptAt schema old from k) → Leaves (source_of at.value) → Copies schema old path from reply new before after
  copied from k at (inl h) = inl (record { kind = TooDeep; refused = h.0; cause = λ _. too_deep at.value at.seen h.1 }, h.2)
  copied from k at (inr h) = inr (record { value = at.value; seen = at.seen; copy = h.copy; is_copy = h.is_copy; set = h.set })
