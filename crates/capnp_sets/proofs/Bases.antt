-- What stands past the last base of a type, and past the last member of a value.
use Rattle.std.proofs.Common.{ℕ, ◌≡◌, ◌<◌, arith, ap, refl, sym, None, Option, Some, ◌∙◌, ◌≢◌, List, Result, Ok, Err, IfErr, IfOk, Bool, true, false, cond, ◌==◌}
use Rattle.std.proofs.lemmas.Option.{slice_get_past}
use Rattle.std.specs.Option.{unwrap_or}
use Rattle.capnp_device.specs.declared.error.ErrorKind.TheVariants.{UnknownKind, OutOfMemory}
use Rattle.capnp_schema.specs.Schema.{Value as SchemaValue, Group, seen_value}
use Rattle.capnp_schema.specs.Types.{SchemaType}
use Rattle.capnp_records.specs.Part.{which_of}
use Rattle.capnp_records.specs.Record.{Record, Value, Values}
use Rattle.std.proofs.lemmas.Bool.{eqb-true}
use Rattle.capnp_device.specs.declared.error.Error.{Error}
use Rattle.capnp_device.specs.declared.error.ErrorKind.{ErrorKind}
use Rattle.capnp_schema.specs.declared.record.ValueRecord.{ValueRecord}
use Rattle.capnp_sets.specs.Fields.{kind_by, slot_of}
use Rattle.capnp_sets.specs.Causes.{HasCause, SetRead, refused_read, ◌<*>◌}
use Rattle.capnp_sets.specs.Parts.{number, meta_read_at, struct}
use Rattle.capnp_sets.specs.Types.{base_type_meant, base_types}
use Rattle.capnp_sets.specs.Values.{kinds, list_value, value_by, value_meant}
use Rattle.capnp_sets.proofs.AppliedReads.{only_cause}

second_cond : {A : Type 0} (q : Bool) (a b : A) → q ≡ false → cond q a b ≡ b
second_cond true a b e = cc
second_cond false a b e = refl

eqb_false : (a b : ℕ) → a ≢ b → (a == b) ≡ false
eqb_false a b h = go (a == b) refl
  where
    go : (q : Bool) → (a == b) ≡ q → (a == b) ≡ false
    go true e = absurd (h (eqb-true a b e))
    go false e = e

pub past_bases : (brands : Values) (base number : ℕ) → 18 < base → HasCause (base_type_meant brands base number) UnknownKind
unfolding base_type_meant
past_bases brands base number h = only_cause UnknownKind _ (ap (λ (o : Option (SetRead SchemaType)). unwrap_or o (refused_read UnknownKind)) (slice_get_past (base_types brands number) base (omega (arith, h))))

pub past_kinds : (r : Record) (member : ℕ) → 14 < member → HasCause (value_by (Some member) r) UnknownKind
unfolding value_by
past_kinds r member h = only_cause UnknownKind _ (ap (λ (o : Option (Value → SetRead SchemaValue)). unwrap_or o (λ v. refused_read UnknownKind) (meta_read_at 5 member r)) (slice_get_past kinds member (omega (arith, h))))

pub no_member : (r : Record) → which_of r ≡ None → HasCause (value_meant r) UnknownKind
unfolding value_meant value_by
no_member r e = only_cause UnknownKind _ (ap (λ o. value_by o r) e)

pub by_member : (r : Record) (member : ℕ) → which_of r ≡ Some member → value_meant r ≡ value_by (Some member) r
unfolding value_meant
by_member r member e = ap (λ o. value_by o r) e

-- a list's words, in the value that is made of them
pub list_made : (made : Result ValueRecord Error) (x : SetRead SchemaValue) (words : List ℕ) → x ≡ Ok (list_value words) → IfOk made (λ v. seen_value v ≡ list_value words) → IfOk made (λ v. x ≡ Ok (seen_value v))
list_made (Ok v) x words e h = e ∙ ap (λ (y : SchemaValue). Ok y) (sym h)
list_made (Err error) x words e h = tt

-- a call that is refused for memory alone
pub only_memory : {A : Type 0} (r : Result A Error) (P : ErrorKind → Type 0) → IfErr r (λ e. e.kind ≡ OutOfMemory) → IfErr r (λ e. e.kind ≢ OutOfMemory → P e.kind)
only_memory (Ok a) P h = tt
only_memory (Err e) P h = λ other. absurd (other h)

-- a refusal whose cause stands whatever memory there is
pub whatever_memory : {A : Type 0} (r : Result A Error) (P : ErrorKind → Type 0) → IfErr r (λ e. P e.kind) → IfErr r (λ e. e.kind ≢ OutOfMemory → P e.kind)
whatever_memory (Ok a) P h = tt
whatever_memory (Err e) P h = λ other. h

module _ (r : Record) where
  pub no_kind : which_of r ≡ None → HasCause (kind_by (which_of r) r) UnknownKind
  unfolding kind_by
  no_kind e = only_cause UnknownKind _ (ap (λ o. kind_by o r) e)

  pub slot_kind : which_of r ≡ Some 3 → kind_by (which_of r) r ≡ struct slot_of (meta_read_at 2 3 r)
  unfolding kind_by
  slot_kind e = ap (λ o. kind_by o r) e

  pub group_kind : which_of r ≡ Some 4 → kind_by (which_of r) r ≡ Ok Group <*> number (meta_read_at 2 4 r)
  unfolding kind_by
  group_kind e = ap (λ o. kind_by o r) e

  pub other_kind : (member : ℕ) → which_of r ≡ Some member → member ≢ 3 → member ≢ 4 → HasCause (kind_by (which_of r) r) UnknownKind
  unfolding kind_by
  other_kind member e three four = only_cause UnknownKind _ (ap (λ o. kind_by o r) e ∙ (second_cond (member == 3) _ _ (eqb_false member 3 three) ∙ second_cond (member == 4) _ _ (eqb_false member 4 four)))
