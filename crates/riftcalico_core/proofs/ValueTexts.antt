-- What is told of a value of a set is told of the part that it is seen as.
use Rattle.std.proofs.Common.{ℕ, List, Bool, Option, Some, None, Ok, ◌≡◌, subst}
use Rattle.capnp_dynamic_readers.specs.Seen.{value_seen}
use Rattle.capnp_dynamic_readers.specs.Shown.{type_seen}
use Rattle.capnp_dynamic_readers.specs.Typed.{IsOf}
use Rattle.capnp_dynamic_readers.specs.declared.dynamic_value.Reader.{Reader as DynamicValue}
use Rattle.capnp_float_texts.specs.Printed.{printed_float_text}
use Rattle.capnp_patch.specs.Gets.{Reached, value_part_seen}
use Rattle.capnp_queries.proofs.TextParts.{part_text}
use Rattle.capnp_queries.specs.Shown.{raw_bytes, reached_float_text}
use Rattle.capnp_records.specs.Text.{IsText, Out}
use Rattle.capnp_schema.specs.Schema.{Schemas}
use Rattle.riftcalico_core.specs.Gets.{IsReachedWord, IsWordOf}

module _ (set : Schemas) (floats raw indented : Bool) (v : DynamicValue) (typed : IsOf set (type_seen v) v) where
  same_word : (text : List ℕ) (r : Option (List ℕ)) → IsWordOf r (printed_float_text floats indented v) text → IsWordOf r (reached_float_text set floats indented (Ok (value_part_seen v))) text
  same_word text (Some bytes) h = h
  same_word text None h = subst (λ (o : Out). IsText o text) (part_text set floats indented v typed) h

  pub word_is : (y : Reached) (is : Ok (value_part_seen v) ≡ y) (text : List ℕ) → IsWordOf (raw_bytes raw (value_seen v)) (printed_float_text floats indented v) text → IsReachedWord set floats raw indented y text
  word_is y is text h = subst (λ (z : Reached). IsReachedWord set floats raw indented z text) is (same_word text (raw_bytes raw (value_seen v)) h)
