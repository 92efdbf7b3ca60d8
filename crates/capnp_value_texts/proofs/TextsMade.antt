-- The calls of a text, where it was read, and why there are none.
use Rattle.std.proofs.Common.{◌≡◌, ℕ, List, Ok, Err, refl, ap, subst, sym, ◌∙◌}
use Rattle.capnp_schema.specs.Schema.{Schemas, TypedField}
use Rattle.capnp_schema.specs.declared.schema.structs.StructSchema.{StructSchema}
use Rattle.capnp_records.specs.Call.{Call}
use Rattle.capnp_value_texts.specs.Calls.{alone_within, element_of_text, field_of_text, field_target, root_calls, root_of_text, value_calls}
use Rattle.capnp_value_texts.specs.Errors.{IsErrorOf, Read, read_then}
use Rattle.capnp_value_texts.specs.Values.{IsNotMadeOf}
use Rattle.capnp_value_texts.specs.Written.{Written, written}
use Rattle.capnp_value_texts.specs.declared.error.Error.{Error}
use Rattle.capnp_value_texts.specs.declared.error.Error.TheVariants.{NotMade, OutOfMemory, Refused}
use Rattle.capnp_value_texts.proofs.Refusals.{error_same, error_then}

pub no_memory : (schema : StructSchema) (q : Read (List Call)) → IsNotMadeOf schema q OutOfMemory
no_memory schema (Ok calls) = tt
no_memory schema (Err x) = tt

-- what has no calls is not made
not_called : (schema : StructSchema) (q : Read (List Call)) (e : Error) → IsErrorOf q e → IsNotMadeOf schema q e
not_called schema q OutOfMemory h = no_memory schema q
not_called schema q (NotMade kind) h = absurd h
not_called schema q (Refused x) h = subst (λ (z : Read (List Call)). IsNotMadeOf schema z (Refused x)) (sym h) refl

-- of calls that follow from what was read
module _ (schema : StructSchema) (text : List ℕ) (calls : Written → Read (List Call)) (q : Read (List Call)) (is : q ≡ read_then (written text) calls) where
  calls_are : (v : Written) → written text ≡ Ok v → q ≡ calls v
  calls_are v e = is ∙ ap (λ r. read_then r calls) e

  not_read : (e : Error) → IsErrorOf (written text) e → IsNotMadeOf schema q e
  not_read e h = not_called schema q e (error_same q (read_then (written text) calls) e is (error_then calls (written text) e h))

  not_made : (v : Written) (e : Error) → written text ≡ Ok v → IsErrorOf (calls v) e → IsNotMadeOf schema q e
  not_made v e read h = not_called schema q e (error_same q (calls v) e (calls_are v read) h)

-- ---- elements of fields ----

module _ (schema : StructSchema) (set : Schemas) (f : TypedField) (i depth : ℕ) (text : List ℕ) where
  abbrev calls_of : Written → Read (List Call)
  calls_of v = value_calls set (alone_within depth v) (field_target f i)

  by_element : element_of_text set f i depth text ≡ read_then (written text) calls_of
  unfolding element_of_text
  by_element = refl

  pub element_calls_are : (v : Written) → written text ≡ Ok v → element_of_text set f i depth text ≡ calls_of v
  element_calls_are = calls_are schema text calls_of (element_of_text set f i depth text) by_element

  pub element_not_read : (e : Error) → IsErrorOf (written text) e → IsNotMadeOf schema (element_of_text set f i depth text) e
  element_not_read = not_read schema text calls_of (element_of_text set f i depth text) by_element

  pub element_not_made : (v : Written) (e : Error) → written text ≡ Ok v → IsErrorOf (calls_of v) e → IsNotMadeOf schema (element_of_text set f i depth text) e
  element_not_made = not_made schema text calls_of (element_of_text set f i depth text) by_element

-- in no lists it is the field's value
pub no_depth : (set : Schemas) (f : TypedField) (i : ℕ) (text : List ℕ) → element_of_text set f i 0 text ≡ field_of_text set f i text
unfolding element_of_text field_of_text
no_depth set f i text = refl

-- ---- roots ----

module _ (schema : StructSchema) (set : Schemas) (b : ℕ) (text : List ℕ) where
  by_root : root_of_text set b text ≡ read_then (written text) (root_calls set b)
  unfolding root_of_text
  by_root = refl

  pub root_calls_are : (v : Written) → written text ≡ Ok v → root_of_text set b text ≡ root_calls set b v
  root_calls_are = calls_are schema text (root_calls set b) (root_of_text set b text) by_root

  pub root_not_read : (e : Error) → IsErrorOf (written text) e → IsNotMadeOf schema (root_of_text set b text) e
  root_not_read = not_read schema text (root_calls set b) (root_of_text set b text) by_root

  pub root_not_made : (v : Written) (e : Error) → written text ≡ Ok v → IsErrorOf (root_calls set b v) e → IsNotMadeOf schema (root_of_text set b text) e
  root_not_made = not_made schema text (root_calls set b) (root_of_text set b text) by_root
