-- Refusals, and what they blame.
use Rattle.std.specs.Prelude.{ℕ, ◌≡◌, List, [], ◌∷◌, ◌++◌, Bool, true, false, cond, Option, Some, None, Result, Ok, Err, codes, decimal, string_bytes}
use Rattle.capnp_device.specs.ErrorNumber.{error_name, error_number}
use Rattle.capnp_device.specs.declared.error.Error.{Error}
use Rattle.capnp_device.specs.declared.error.ErrorKind.{ErrorKind}
use Rattle.capnp_device.specs.declared.error.ErrorKind.TheVariants.{NameNotFound, OutOfMemory, ReadFailed}
use Rattle.capnp_patch.specs.Lines.{told_word}
use Rattle.riftcalico_core.specs.Plans.{calls_file}
use Rattle.riftcalico_core.specs.declared.fault.Blamed.{Blamed}
use Rattle.riftcalico_core.specs.declared.fault.Blamed.TheVariants as blamed
use Rattle.riftcalico_core.specs.declared.fault.Fault.{Fault}
use Rattle.riftcalico_words.specs.Tasks.{Task, check_task, compatible_task, diff_task, fields_task, from_json_task, get_task, json_task, new_task, patch_task, structs_task}

-- a refusal of which no more is told
pub record IsPlainFault (f : Fault) (e : Error) (b : Blamed) : Type 0 where
  pub error : f.error ≡ e
  pub blamed : f.blamed ≡ b
  pub note : string_bytes f.note ≡ []

-- the refusal of what has no value, with what is to be looked at
abbrev pub IsFaultOf : {A : Type 0} → Result A Error → Blamed → Fault → Type 0
IsFaultOf (Ok x) b f = ⊥
IsFaultOf (Err e) b f = IsPlainFault f e b

-- the file of a task's set
abbrev pub task_set_file : Task → Option (List ℕ)
task_set_file (get_task t) = t.root.file
task_set_file (json_task t) = t.root.file
task_set_file (from_json_task t) = t.root.file
task_set_file (check_task t) = t.root.file
task_set_file (patch_task t) = t.root.file
task_set_file (new_task t) = t.root.file
task_set_file (structs_task file limit) = file
task_set_file (fields_task r limit) = r.file
task_set_file (compatible_task t) = Some t.older
task_set_file (diff_task t) = t.root.file
task_set_file t = None

-- a file by its path, or what stands for none
abbrev pub file_word : Option (List ℕ) → (other : List ℕ) → List ℕ
file_word (Some path) other = path
file_word None other = other

-- a name, where there is one
abbrev pub name_word : Option (List ℕ) → List ℕ
name_word (Some name) = name
name_word None = []

-- the name of a task's root
abbrev pub task_name : Task → List ℕ
task_name (get_task t) = t.root.name
task_name (json_task t) = t.root.name
task_name (from_json_task t) = t.root.name
task_name (check_task t) = t.root.name
task_name (patch_task t) = t.root.name
task_name (new_task t) = t.root.name
task_name (fields_task r limit) = r.name
task_name (compatible_task t) = name_word t.name
task_name (diff_task t) = t.root.name
task_name t = []

-- the file whose messages are replaced, if there is one
abbrev pub place_file : Task → Option (List ℕ)
place_file (patch_task t) = t.in_place
place_file t = None

-- the file of an older message, which is read and stays as it is
abbrev pub old_file : Task → Option (List ℕ)
old_file (diff_task t) = Some t.old
old_file t = None

-- the file that is read in place of standard input, if there is one
abbrev pub input_file : Task → Option (List ℕ)
input_file (diff_task t) = Some t.old
input_file t = place_file t

-- what is to be looked at
abbrev pub blamed_word : Task → Blamed → List ℕ
blamed_word t blamed.Calls = file_word (calls_file t) []
blamed_word t blamed.Set = file_word (task_set_file t) (codes "the built-in set")
blamed_word t blamed.Name = task_name t
blamed_word t blamed.Input = file_word (input_file t) (codes "standard input")
blamed_word t blamed.Output = file_word (place_file t) (codes "standard output")

-- what a file holds is refused, and not for memory or because it can't be read
abbrev pub is_of_bytes : ErrorKind → Bool
is_of_bytes OutOfMemory = false
is_of_bytes ReadFailed = false
is_of_bytes kind = true

-- of the file of a set, what makes one
abbrev pub set_hint : Option (List ℕ) → ErrorKind → List ℕ
set_hint (Some path) kind = cond (is_of_bytes kind) (codes "; a set is what riftcalico schemas writes") []
set_hint None kind = []

-- of a name that no struct has, how all are listed
abbrev pub name_hint : ErrorKind → List ℕ
name_hint NameNotFound = codes "; see riftcalico structs"
name_hint kind = []

abbrev pub blamed_hint : Task → Blamed → ErrorKind → List ℕ
blamed_hint t blamed.Name kind = name_hint kind
blamed_hint t blamed.«Set» kind = set_hint (task_set_file t) kind
blamed_hint t b kind = []

abbrev pub hint_of : Task → Fault → List ℕ
hint_of t f = blamed_hint t f.blamed f.error.kind

-- of several messages the number of one
abbrev pub message_word : Option ℕ → List ℕ
message_word None = []
message_word (Some number) = codes ", message " ++ decimal number

-- a refusal's number and name, what is to be looked at, of several messages which one, and what tells more
abbrev pub fault_line : Task → (message : Option ℕ) → Fault → List ℕ
fault_line t message f = codes "refused: " ++ decimal (error_number f.error.kind) ++ codes " " ++ error_name f.error.kind ++ codes " (" ++ told_word (blamed_word t f.blamed) ++ message_word message ++ codes ")" ++ told_word (string_bytes f.note) ++ hint_of t f ++ 10 ∷ []
