-- A list of one new element, into which the value of a text is read.
use Rattle.std.proofs.Common.{ℕ, ◌≡◌, ◌-◌, Bool, List, None, Some, length, arith, sym, subst, ◌∙◌}
use Rattle.capnp_wire.specs.Tree.{Tree}
use Rattle.capnp_wire.specs.WellFormed.{IsWellFormed}
use Rattle.capnp_schema.specs.Schema.{Schemas}
use Rattle.capnp_schema.specs.Types.{SchemaType}
use Rattle.capnp_records.specs.Operation.{new_element}
use Rattle.capnp_records.specs.Record.{Values, values_from}
use Rattle.capnp_records.specs.Writes.Contents.{new_list}
use Rattle.capnp_json_fields.specs.declared.fields.DataForm.TheVariants.{Array}
use Rattle.capnp_json_text.specs.Faults.{fault_of}
use Rattle.capnp_json_text.specs.Laws.{StandsInSteps}
use Rattle.capnp_json_text.specs.Readings.{after_blanks}
use Rattle.capnp_from_json.specs.Errors.{refused}
use Rattle.capnp_from_json.specs.LeafReads.{under}
use Rattle.capnp_from_json.specs.Leaves.{OfElement}
use Rattle.capnp_from_json.specs.Records.{Rules, all_levels}
use Rattle.capnp_from_json.specs.declared.error.Error.{Error}
use Rattle.capnp_from_json.specs.declared.error.RefusalKind.TheVariants.{NotJson}
use Rattle.capnp_from_json.specs.declared.reading.Reading.{Reading}
use Rattle.capnp_from_json.proofs.Refusals.{error_same}
use Rattle.capnp_json_messages.specs.Holders.{IsOneOf, text_element}
use Rattle.capnp_json_messages.specs.Put.{HasNew, IsListOf}
use Rattle.capnp_json_messages.specs.Rows.{row_set, row_type}
use Rattle.capnp_json_messages.specs.Walks.{ElementRead, IsRefused, element_json}
use Rattle.capnp_json_messages.specs.declared.row.Row.{Row}
use Rattle.capnp_json_messages.proofs.HolderReads.{in_root_is, none_in_root}
use Rattle.capnp_json_messages.proofs.NewLists.{new_count, new_is_list, new_value}

-- ---- a new list of one ----

abbrev one_new : Schemas → SchemaType → Values
one_new set e = values_from (λ _. new_element set e) 0 1

one_is_list : (set : Schemas) (e : SchemaType) (x : Tree) → x ≡ new_list set e 1 → IsListOf set e x (one_new set e)
one_is_list set e x is = subst (λ (y : Tree). IsListOf set e y (one_new set e)) (sym is) (new_is_list set e 1)

pub new_has_one : (set : Schemas) (e : SchemaType) (x : Tree) → x ≡ new_list set e 1 → HasNew set e x 0
new_has_one set e x is = record {
  values = one_new set e;
  list = one_is_list set e x is;
  inside = omega (arith, new_count set e 1);
  as_new = new_value set e 1 0 (omega arith);
}

-- ---- the value of a text ----

pub element_is : StandsInSteps → (row : Row) (text : List ℕ) (rules : Rules) (reading : Reading) (bytes : List ℕ) → fault_of text ≡ None → reading.whole ≡ length text → bytes ≡ after_blanks text
    → text_element (row_type row) row.is_float text rules ≡ element_json reading (all_levels - 1) (row_type row) row.is_float bytes rules
element_is steps row = in_root_is steps (under (row_type row) OfElement row.is_float Array)

pub no_element : StandsInSteps → (row : Row) (text : List ℕ) (rules : Rules) (place : ℕ) → fault_of text ≡ Some place → text_element (row_type row) row.is_float text rules ≡ refused NotJson place
no_element steps row = none_in_root steps (under (row_type row) OfElement row.is_float Array)

module _ (row : Row) (strict : Bool) (text : List ℕ) (reading : Reading) (bytes : List ℕ) (told : (rules : Rules) → text_element (row_type row) row.is_float text rules ≡ element_json reading (all_levels - 1) (row_type row) row.is_float bytes rules) where
  pub one_read : (x x' : Tree) → x ≡ new_list (row_set row) (row_type row) 1 → IsWellFormed x'
      → ElementRead (row_set row) (row_type row) 0 strict (element_json reading (all_levels - 1) (row_type row) row.is_float bytes) x x' → IsOneOf row strict text x'
  one_read x x' anew formed read = record {
    formed = formed;
    value = read.value;
    is = λ rules are. told rules ∙ read.is rules are;
    list = read.puts (one_new (row_set row) (row_type row)) (one_is_list (row_set row) (row_type row) x anew)
        (omega (arith, new_count (row_set row) (row_type row) 1)) (new_value (row_set row) (row_type row) 1 0 (omega arith));
  }

  pub one_refused : (e : Error) → IsRefused (row_set row) strict (element_json reading (all_levels - 1) (row_type row) row.is_float bytes) e → IsRefused (row_set row) strict (text_element (row_type row) row.is_float text) e
  one_refused e h = λ rules are. error_same (text_element (row_type row) row.is_float text rules) (element_json reading (all_levels - 1) (row_type row) row.is_float bytes rules) e (told rules) (h rules are)
