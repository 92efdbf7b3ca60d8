-- A root that holds the value of a text.
use Rattle.std.proofs.Common.{ℕ, ◌≡◌, ◌-◌, Bool, IsTrue, List, None, Some, Ok, length, refl, ap, sym, subst, ◌∙◌}
use Rattle.capnp_wire.specs.Edits.{is_struct, struct_in}
use Rattle.capnp_wire.specs.Place.{struct_tree}
use Rattle.capnp_wire.specs.Tree.{StructTree, Tree}
use Rattle.capnp_wire.specs.WellFormed.{IsWellFormed}
use Rattle.capnp_schema.specs.FieldLists.{field_schema, index_of, typed_of}
use Rattle.capnp_schema.specs.declared.schema.fields.Field.{Field}
use Rattle.capnp_records.specs.Facts.FieldWrite.{fits_after}
use Rattle.capnp_records.specs.Part.{with_part}
use Rattle.capnp_records.specs.Reading.{reads}
use Rattle.capnp_records.specs.Record.{Record}
use Rattle.capnp_slots.specs.Fields.{IsRoomFor, field_brand, field_set}
use Rattle.capnp_json_text.specs.Faults.{fault_of}
use Rattle.capnp_json_text.specs.Laws.{StandsInSteps}
use Rattle.capnp_json_text.specs.Readings.{after_blanks}
use Rattle.capnp_json_text.specs.Values.{json_at, json_value}
use Rattle.capnp_from_json.specs.Errors.{refused}
use Rattle.capnp_from_json.specs.Leaves.{Target}
use Rattle.capnp_from_json.specs.Records.{Rules, all_levels, field_target, value_of_json}
use Rattle.capnp_from_json.specs.declared.error.Error.{Error}
use Rattle.capnp_from_json.specs.declared.error.RefusalKind.TheVariants.{NotJson}
use Rattle.capnp_from_json.specs.declared.reading.Reading.{Reading}
use Rattle.capnp_from_json.proofs.Refusals.{error_same}
use Rattle.capnp_json_messages.specs.Holders.{IsHolderOf, text_value, value_in_root}
use Rattle.capnp_json_messages.specs.Started.{new_struct}
use Rattle.capnp_json_messages.specs.Walks.{FieldRead, IsRefused, field_json}
use Rattle.capnp_json_messages.proofs.NewLists.{new_record, new_room}

-- the value of a text, by the value with which it begins behind blanks
pub in_root_is : StandsInSteps → (t : Target) (text : List ℕ) (rules : Rules) (reading : Reading) (bytes : List ℕ) → fault_of text ≡ None → reading.whole ≡ length text → bytes ≡ after_blanks text
    → value_in_root rules t (json_value text) ≡ value_of_json rules (json_at reading.whole bytes) (all_levels - 1) t
in_root_is steps t text rules reading bytes none is behind =
    ap (value_in_root rules t) (steps.texts text none)
    ∙ (ap (λ n. value_in_root rules t (Ok (json_at n (after_blanks text)))) (sym is)
    ∙ ap (λ (bs : List ℕ). value_in_root rules t (Ok (json_at reading.whole bs))) (sym behind))

pub value_is : StandsInSteps → (f : Field) (text : List ℕ) (rules : Rules) (reading : Reading) (bytes : List ℕ) → fault_of text ≡ None → reading.whole ≡ length text → bytes ≡ after_blanks text
    → text_value f text rules ≡ field_json reading (all_levels - 1) f bytes rules
value_is steps f = in_root_is steps (field_target (typed_of f))

-- one that is no text
pub none_in_root : StandsInSteps → (t : Target) (text : List ℕ) (rules : Rules) (place : ℕ) → fault_of text ≡ Some place → value_in_root rules t (json_value text) ≡ refused NotJson place
none_in_root steps t text rules place fault = ap (value_in_root rules t) (steps.refused text place fault)

pub no_value : StandsInSteps → (f : Field) (text : List ℕ) (rules : Rules) (place : ℕ) → fault_of text ≡ Some place → text_value f text rules ≡ refused NotJson place
no_value steps f = none_in_root steps (field_target (typed_of f))

module _ (f : Field) (strict : Bool) (text : List ℕ) (reading : Reading) (bytes : List ℕ) (told : (rules : Rules) → text_value f text rules ≡ field_json reading (all_levels - 1) f bytes rules) where
  pub holder_read : (s s' : StructTree) (t : Tree) → s ≡ new_struct (field_schema f) → t ≡ struct_tree s' → IsWellFormed t
      → FieldRead f strict (field_json reading (all_levels - 1) f bytes) s s' → IsHolderOf f strict text t
  holder_read s s' t anew is formed read = record {
    here = subst (λ (x : Tree). IsTrue (is_struct x)) (sym is) refl;
    room = subst (λ (x : Tree). IsRoomFor f (struct_in x)) (sym is)
        (fits_after _ (field_set f) (field_brand f) s s' read.puts.writes (new_room (field_schema f) s anew));
    formed = formed;
    value = read.value;
    is = λ rules are. told rules ∙ read.is rules are;
    holds = ap (λ (x : Tree). reads (field_set f) (struct_in x) (field_brand f)) is
        ∙ (read.puts.record_after ∙ ap (λ (r : Record). with_part r (typed_of f).field (index_of f) read.value) (new_record (field_schema f) s anew));
  }

  pub holder_refused : (e : Error) → IsRefused (field_set f) strict (field_json reading (all_levels - 1) f bytes) e → IsRefused (field_set f) strict (text_value f text) e
  holder_refused e h = λ rules are. error_same (text_value f text rules) (field_json reading (all_levels - 1) f bytes rules) e (told rules) (h rules are)
