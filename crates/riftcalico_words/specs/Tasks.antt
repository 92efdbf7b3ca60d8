-- What the program may be asked for.
use Rattle.std.specs.Prelude.{ℕ, List, Bool, Option}
use Rattle.riftcalico_words.specs.declared.request.Messages.{Messages}
use Rattle.riftcalico_words.specs.declared.request.Messages.TheVariants as messages
use Rattle.riftcalico_words.specs.declared.request.Verb.{Verb}

-- a struct by its name, in the set that a file holds, or else in the built-in one
pub record Root : Type 0 where
  pub file : Option (List ℕ)
  pub name : List ℕ

-- what stands at paths, or lengths of lists there, whether texts and data are told as their bytes, whether each line begins with its path, whether the message comes packed,
-- of which messages, and the most bytes that the texts may have together
pub record GetTask : Type 0 where
  pub root : Root
  pub paths : List (List ℕ)
  pub raw : Bool
  pub with_paths : Bool
  pub indented : Bool
  pub packed : Bool
  pub messages : Messages
  pub limit : ℕ

-- what stands at paths as JSON, or lengths of lists there, whether the message comes packed, of which messages, and the most bytes that the JSON may have together
pub record JsonTask : Type 0 where
  pub root : Root
  pub paths : List (List ℕ)
  pub indented : Bool
  pub packed : Bool
  pub messages : Messages
  pub limit : ℕ

-- a JSON text that is made a message, whether names that a struct lacks are refused, whether the message is packed, which texts of the input are meant, and the most
-- bytes that a message may have
pub record FromJsonTask : Type 0 where
  pub root : Root
  pub strict : Bool
  pub packed : Bool
  pub messages : Messages
  pub limit : ℕ

-- whether the value at a path can be shown, or where it can't, everywhere or first, and the most parts of it that may be looked at
pub record CheckTask : Type 0 where
  pub root : Root
  pub path : List ℕ
  pub all : Bool
  pub packed : Bool
  pub messages : Messages
  pub limit : ℕ

-- calls, each a word, or each a line of the file at a path
pub data GivenCalls : Type 0 where
  in_words : List (List ℕ) → GivenCalls
  in_lines : (path : List ℕ) → GivenCalls

-- calls on a root, whether what they leave is written where one was refused, whether messages come and go packed, of which messages, and the most bytes that a
-- message may have that is made; the file, where there is one, whose messages are put in the place of those that it has
pub record CallsTask : Type 0 where
  pub root : Root
  pub calls : GivenCalls
  pub keep_going : Bool
  pub packed : Bool
  pub messages : Messages
  pub limit : ℕ
  pub in_place : Option (List ℕ)

-- the struct of a name in the sets of two files, an older and a newer one, or all structs; whether only the status is wanted, whether only what breaks is told, whether they are compared in both directions, and the most bytes that the text may have
pub record CompareTask : Type 0 where
  pub older : List ℕ
  pub newer : List ℕ
  pub name : Option (List ℕ)
  pub quiet : Bool
  pub breaking_only : Bool
  pub both : Bool
  pub limit : ℕ

-- what makes the message of an older file into that of a newer one, both under a struct, whether they come packed, and the most bytes that the text may have
pub record DiffTask : Type 0 where
  pub root : Root
  pub old : List ℕ
  pub new : List ℕ
  pub packed : Bool
  pub limit : ℕ

-- Values are shown, or as JSON, a JSON text is made a message, or a value is only looked at whether it can be, calls are made on a copy of a message or on an empty root, the structs of a set are shown, in the set of a file or else in the built-in one, or the fields of a struct, a compiler's request is made a set, each of at most so many bytes,
-- two versions of a struct or of all are compared, or two messages, or help is told, of all or of a verb, or the version.
pub data Task : Type 0 where
  get_task : GetTask → Task
  json_task : JsonTask → Task
  from_json_task : FromJsonTask → Task
  check_task : CheckTask → Task
  patch_task : CallsTask → Task
  new_task : CallsTask → Task
  structs_task : (file : Option (List ℕ)) → (limit : ℕ) → Task
  fields_task : Root → (limit : ℕ) → Task
  convert_task : (strict : Bool) → (limit : ℕ) → Task
  compatible_task : CompareTask → Task
  diff_task : DiffTask → Task
  help_task : Option Verb → Task
  version_task : Task

-- the messages of the input that a task means, or the texts that are made messages
abbrev pub task_messages : Task → Messages
task_messages (get_task t) = t.messages
task_messages (json_task t) = t.messages
task_messages (from_json_task t) = t.messages
task_messages (check_task t) = t.messages
task_messages (patch_task t) = t.messages
task_messages (new_task t) = messages.First
task_messages (structs_task file limit) = messages.First
task_messages (fields_task r limit) = messages.First
task_messages (convert_task strict limit) = messages.First
task_messages (compatible_task t) = messages.First
task_messages (diff_task t) = messages.First
task_messages (help_task v) = messages.First
task_messages version_task = messages.First
