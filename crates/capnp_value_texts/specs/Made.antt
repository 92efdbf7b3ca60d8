-- What the code's calls stand for.
use Rattle.std.specs.Prelude.{List, map}
use Rattle.capnp_records.specs.Call.{Call, Init, Initn, Op, Set}
use Rattle.capnp_call.specs.Seen.{path_seen, step_seen}
use Rattle.capnp_words.specs.Seen.{word_value_seen, word_value_type}
use Rattle.capnp_value_texts.specs.Calls.{source_taken}
use Rattle.capnp_value_texts.specs.declared.made.Goal.{Goal}
use Rattle.capnp_value_texts.specs.declared.made.Goal.TheVariants as goal
use Rattle.capnp_value_texts.specs.declared.made.Made.{Made}

abbrev pub goal_op : Goal → Op
goal_op (goal.Put v) = Set (source_taken (word_value_type v) (word_value_seen v))
goal_op goal.Init = Init
goal_op (goal.InitList count) = Initn count

abbrev pub made_call : Made → Call
made_call m = record { path = path_seen m.path.items; last = step_seen m.last; op = goal_op m.goal }

abbrev pub calls_made : List Made → List Call
calls_made ms = map made_call ms
