-- Requests as the code has them.
use Rattle.std.specs.Prelude.{map, Result, Ok, Err}
use Rattle.std.specs.Option.{option_map}
use Rattle.riftcalico_words.specs.Requests.{AskedRequest, WordFault, no_bytes, no_verb, other_words, unknown_option, unknown_verb}
use Rattle.riftcalico_words.specs.Tasks as tasks
use Rattle.riftcalico_words.specs.Tasks.{CallsTask, CheckTask, CompareTask, DiffTask, FromJsonTask, GetTask, GivenCalls, JsonTask, Root, check_task, compatible_task, convert_task, diff_task, fields_task, from_json_task, get_task, help_task, json_task, in_lines, in_words, new_task, patch_task, structs_task, version_task}
use Rattle.riftcalico_words.specs.declared.request.CallWords.{CallWords}
use Rattle.riftcalico_words.specs.declared.request.CallWords.TheVariants as words
use Rattle.riftcalico_words.specs.declared.request.CallsRequest.{CallsRequest}
use Rattle.riftcalico_words.specs.declared.request.CheckRequest.{CheckRequest}
use Rattle.riftcalico_words.specs.declared.request.CompareRequest.{CompareRequest}
use Rattle.riftcalico_words.specs.declared.request.DiffRequest.{DiffRequest}
use Rattle.riftcalico_words.specs.declared.request.FromJsonRequest.{FromJsonRequest}
use Rattle.riftcalico_words.specs.declared.request.GetRequest.{GetRequest}
use Rattle.riftcalico_words.specs.declared.request.JsonRequest.{JsonRequest}
use Rattle.riftcalico_words.specs.declared.request.Misuse.{Misuse}
use Rattle.riftcalico_words.specs.declared.request.Misuse.TheVariants as misuse
use Rattle.riftcalico_words.specs.declared.request.NamedRoot.{NamedRoot}
use Rattle.riftcalico_words.specs.declared.request.Task.{Task}
use Rattle.riftcalico_words.specs.declared.request.Task.TheVariants as task

abbrev pub root_named : NamedRoot → Root
root_named r = record { file = option_map (λ f. f.now) r.file; name = r.name.now }

abbrev pub get_task_of : GetRequest → GetTask
get_task_of r = record { root = root_named r.root; paths = map (λ w. w.now) r.paths.items; raw = r.raw; with_paths = r.with_paths; indented = r.indented; packed = r.packed; messages = r.messages; limit = r.limit }

abbrev pub json_task_of : JsonRequest → JsonTask
json_task_of r = record { root = root_named r.root; paths = map (λ w. w.now) r.paths.items; indented = r.indented; packed = r.packed; messages = r.messages; limit = r.limit }

abbrev pub from_json_task_of : FromJsonRequest → FromJsonTask
from_json_task_of r = record { root = root_named r.root; strict = r.strict; packed = r.packed; messages = r.messages; limit = r.limit }

abbrev pub check_task_of : CheckRequest → CheckTask
check_task_of r = record { root = root_named r.root; path = r.path.now; all = r.all; packed = r.packed; messages = r.messages; limit = r.limit }

abbrev pub compare_task_of : CompareRequest → CompareTask
compare_task_of r = record { older = r.older.now; newer = r.newer.now; name = option_map (λ w. w.now) r.name; quiet = r.quiet; breaking_only = r.breaking_only; both = r.both; limit = r.limit }

abbrev pub diff_task_of : DiffRequest → DiffTask
diff_task_of r = record { root = root_named r.root; old = r.old.now; new = r.new.now; packed = r.packed; limit = r.limit }

abbrev pub given_of : CallWords → GivenCalls
given_of (words.Words ws) = in_words (map (λ w. w.now) ws.items)
given_of (words.Lines path) = in_lines path.now

abbrev pub calls_task_of : CallsRequest → CallsTask
calls_task_of r = record { root = root_named r.root; calls = given_of r.calls; keep_going = r.keep_going; packed = r.packed; messages = r.messages; limit = r.limit; in_place = option_map (λ w. w.now) r.in_place }

abbrev pub task_seen : Task → tasks.Task
task_seen (task.Get r) = get_task (get_task_of r)
task_seen (task.Json r) = json_task (json_task_of r)
task_seen (task.FromJson r) = from_json_task (from_json_task_of r)
task_seen (task.Check r) = check_task (check_task_of r)
task_seen (task.Patch r) = patch_task (calls_task_of r)
task_seen (task.New r) = new_task (calls_task_of r)
task_seen (task.Structs file limit) = structs_task (option_map (λ f. f.now) file) limit
task_seen (task.Fields r limit) = fields_task (root_named r) limit
task_seen (task.Convert strict limit) = convert_task strict limit
task_seen (task.Compatible r) = compatible_task (compare_task_of r)
task_seen (task.Diff r) = diff_task (diff_task_of r)
task_seen (task.Help v) = help_task v
task_seen task.Version = version_task

abbrev pub fault_seen : Misuse → WordFault
fault_seen misuse.NoVerb = no_verb
fault_seen (misuse.UnknownVerb word) = unknown_verb word.now
fault_seen (misuse.UnknownOption v word) = unknown_option v word.now
fault_seen (misuse.NoBytes v word) = no_bytes v word.now
fault_seen (misuse.OtherWords v) = other_words v

abbrev pub asked_seen : Result Task Misuse → AskedRequest
asked_seen (Ok t) = Ok (task_seen t)
asked_seen (Err m) = Err (fault_seen m)
