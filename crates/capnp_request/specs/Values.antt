-- The values that a request's values are converted to.
use Rattle.std.specs.Prelude.{ℕ, suc, List, drop, Bool, true, false, nat_lt, Option, Some, None, Ok, Err}
use Rattle.capnp_device.specs.declared.error.ErrorKind.TheVariants.{TooLarge}
use Rattle.capnp_wire.specs.declared.fault.Fault.{Fault}
use Rattle.capnp_wire.specs.Encoding.{message_of}
use Rattle.capnp_wire.specs.Reading.{refusal}
use Rattle.capnp_wire.specs.Tree.{Tree}
use Rattle.capnp_wire.specs.Words.{first_fault, words_of}
use Rattle.capnp_schema.specs.Builtin.{zero_word}
use Rattle.capnp_schema.specs.Schema.{Value, StructValue, ListValue, AnyPointerValue}
use Rattle.capnp_request.specs.Terms.{ListWords, Said, Stands, StructWords, UnreadValue, Untyped, ValueTerm}

-- The words of a tree in one segment, behind the word of its table, where they and the root's pointer are fewer than 2^29;
-- refused with the first fault in preorder.
abbrev pub words_that_fit : Bool → Tree → Said (List ℕ)
words_that_fit true t = Ok (drop 8 (message_of t))
words_that_fit false t = Err TooLarge

abbrev pub words_or_fault : Option Fault → Tree → Said (List ℕ)
words_or_fault None t = words_that_fit (nat_lt (suc (words_of t)) 536870912) t
words_or_fault (Some fault) t = Err (refusal fault)

abbrev pub words_value : (List ℕ → Value) → Said (List ℕ) → Said Value
words_value f (Ok words) = Ok (f words)
words_value f (Err kind) = Err kind

-- by the value's own kind; what stands at an untyped pointer is left out
abbrev pub value_stated : ValueTerm → Said Value
value_stated (Stands v) = Ok v
value_stated (StructWords t) = words_value StructValue (words_or_fault (first_fault t) t)
value_stated (ListWords t) = words_value ListValue (words_or_fault (first_fault t) t)
value_stated (Untyped t) = Ok (AnyPointerValue zero_word)
value_stated (UnreadValue kind) = Err kind
