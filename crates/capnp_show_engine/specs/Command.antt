-- What the program's words say.
use Rattle.std.specs.Prelude.{ℕ, ⊤, List, [], ◌∷◌, Bool, true, false, ◌&&◌, Option, Some, None, Result, Ok, Err, String, string_bytes, ◌++◌, ◌<◌, ◌⊎◌, length, take, drop, codes, decimal, bytes_eq, if◌then◌else◌}
use Rattle.std.specs.Io.KnownBytes.{Appends}
use Rattle.std.specs.Option.{option_map}
use Rattle.std.specs.Vec.Iter.{into_iter_items}
use Rattle.std.specs.declared.vec.IntoIter.{IntoIter}
use Rattle.capnp_device.specs.Device.{HasFailed}
use Rattle.capnp_device.specs.ErrorNumber.{error_number}
use Rattle.capnp_device.specs.declared.error.ErrorKind.{ErrorKind}
use Rattle.capnp_schema.specs.Builtin.{builtin}
use Rattle.capnp_schema.specs.ByName.{brand_named}
use Rattle.capnp_show_engine.specs.declared.request.Asked.{Asked}
use Rattle.capnp_show_engine.specs.declared.request.Asked.TheVariants.{BuiltIn, InFile}
use Rattle.capnp_show_engine.specs.declared.request.FileRequest.{FileRequest}
use Rattle.capnp_show_engine.specs.declared.request.Request.{Request}

-- the words after the program's name, none where the system answered no words
abbrev pub words_after_name : {A Z E : Type 0} → Result (IntoIter A Z) E → List A
words_after_name (Ok args) = drop 1 (into_iter_items args)
words_after_name (Err error) = []

-- a text under the struct of a name, in the set that the file at a path holds, and whether it is indented
pub record FileTask : Type 0 where
  pub path : List ℕ
  pub name : List ℕ
  pub indented : Bool

-- a text under a brand of the built-in set, or under a struct of a file's set
pub data ShowTask : Type 0 where
  built_in : Request → ShowTask
  in_file : FileTask → ShowTask

-- a text under that struct of the built-in set, where there is one
abbrev pub built_in_asked : (indented : Bool) → Option ℕ → Option ShowTask
built_in_asked indented = option_map (λ b. built_in (record { brand = b; indented = indented }))

-- a text under a struct of a file's set
abbrev pub in_file_asked : {A : Type 0} → (indented : Bool) → (path name : String A) → Option ShowTask
in_file_asked indented path name = Some (in_file (record { path = string_bytes path; name = string_bytes name; indented = indented }))

-- what the words ask for: a struct by its name, before that whether its set is a file's, and after that whether its text is
-- indented
abbrev pub asked_show : {A : Type 0} → List (String A) → Option ShowTask
asked_show [] = None
asked_show (name ∷ []) = built_in_asked false (brand_named builtin (string_bytes name))
asked_show (name ∷ last ∷ []) =
    if bytes_eq (string_bytes last) (codes "--indent") then built_in_asked true (brand_named builtin (string_bytes name)) else None
asked_show (first ∷ path ∷ name ∷ []) = if bytes_eq (string_bytes first) (codes "--set") then in_file_asked false path name else None
asked_show (first ∷ path ∷ name ∷ last ∷ []) =
    if bytes_eq (string_bytes first) (codes "--set") && bytes_eq (string_bytes last) (codes "--indent") then in_file_asked true path name else None
asked_show (first ∷ path ∷ name ∷ last ∷ more ∷ words) = None

abbrev pub file_task_of : FileRequest → FileTask
file_task_of r = record { path = r.path.now; name = r.name.now; indented = r.indented }

-- the task that a value of the program stands for
abbrev pub show_task_of : Asked → ShowTask
show_task_of (BuiltIn r) = built_in r
show_task_of (InFile r) = in_file (file_task_of r)

-- the brand is one of the built-in set's
abbrev pub IsOfBuiltin : Asked → Type 0
IsOfBuiltin (BuiltIn r) = r.brand < length builtin.brands
IsOfBuiltin (InFile r) = ⊤

-- the paths that a task names
abbrev pub show_paths_of : ShowTask → List (List ℕ)
show_paths_of (built_in r) = []
show_paths_of (in_file r) = r.path ∷ []

-- ---- what is told where nothing is shown ----

-- how the program is called
abbrev pub usage_line : List ℕ
usage_line = codes "usage: capnp_show [--set FILE] NAME [--indent]" ++ 10 ∷ []

-- a refusal's number
abbrev pub refusal_line : ErrorKind → List ℕ
refusal_line kind = codes "refused: " ++ decimal (error_number kind) ++ 10 ∷ []

-- a line was written whole, or the sink failed and a beginning of it was written; by what was written before and after
-- and by the sink's count of failures
abbrev pub IsTold : List ℕ → Option (List ℕ) → Option (List ℕ) → ℕ → ℕ → Type 0
IsTold line written written' failures failures' =
    Appends written written' line ⊎ (HasFailed failures failures' × ((n : ℕ) × (n < length line) × Appends written written' (take n line)))
