-- What the code reads words as.
use Rattle.std.specs.Prelude.{List, map, Result, Ok, Err}
use Rattle.std.specs.declared.vec.Vec.{Vec}
use Rattle.capnp_call.specs.Seen as call
use Rattle.capnp_dynamic_readers.specs.Handles.{enum_value_number}
use Rattle.capnp_edit_calls.specs.ActsSeen.{ActSeen}
use Rattle.capnp_records.specs.Call.{BoolSource, DataSource, EnumSource, IntSource, Source, TextSource, UIntSource, VoidSource}
use Rattle.capnp_words.specs.Seen.{op_text_seen}
use Rattle.capnp_words.specs.declared.value.PlainValue.{PlainValue}
use Rattle.capnp_words.specs.declared.value.PlainValue.TheVariants as plain
use Rattle.riftcalico_core.specs.Calls.{act_placed}
use Rattle.riftcalico_core.specs.JsonValues.{whole_source}
use Rattle.riftcalico_core.specs.ShownSeen.{shown_source}
use Rattle.riftcalico_core.specs.Reads.{Reads}
use Rattle.riftcalico_core.specs.declared.calls.GivenValue.{GivenValue}
use Rattle.riftcalico_core.specs.declared.calls.GivenValue.TheVariants as given
use Rattle.riftcalico_core.specs.declared.calls.ReadCall.{ReadCall}
use Rattle.riftcalico_core.specs.declared.calls.Unreadable.{Unreadable}

-- a value as it is given to a set
abbrev pub word_value_source : PlainValue → Source
word_value_source plain.Void = VoidSource
word_value_source (plain.Bool b) = BoolSource b
word_value_source (plain.Int8 x) = IntSource 1 x
word_value_source (plain.Int16 x) = IntSource 2 x
word_value_source (plain.Int32 x) = IntSource 4 x
word_value_source (plain.Int64 x) = IntSource 8 x
word_value_source (plain.UInt8 n) = UIntSource 1 n
word_value_source (plain.UInt16 n) = UIntSource 2 n
word_value_source (plain.UInt32 n) = UIntSource 4 n
word_value_source (plain.UInt64 n) = UIntSource 8 n
word_value_source (plain.Enum e) = EnumSource (enum_value_number e)
word_value_source (plain.Text bytes) = TextSource bytes.items
word_value_source (plain.«Data» bytes) = DataSource bytes.items

-- a value that was read, as it is given
abbrev pub given_value_source : GivenValue → Source
given_value_source (given.Plain v) = word_value_source v
given_value_source (given.Whole w) = whole_source w
given_value_source (given.Shown w) = shown_source w

-- a call or an edit that was read, with its value and its steps
abbrev pub given_source : ReadCall → Source
given_source c = given_value_source c.value

abbrev pub read_act_seen : ReadCall → ActSeen
read_act_seen c = act_placed (call.path_seen c.steps.items) (given_source c) (call.path_seen c.from.items) (op_text_seen c.word.now.op)

-- several that were read, each seen in some way, or where they can't be
abbrev pub all_seen : {A B C : Type 0} → (A → B) → Result (Vec A C) Unreadable → Reads (List B)
all_seen f (Ok xs) = Ok (map f xs.items)
all_seen f (Err at) = Err (at.index, at.place)
