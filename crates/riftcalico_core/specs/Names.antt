-- What is told where names meet in JSON.
use Rattle.std.specs.Prelude.{List, ℕ, ◌++◌, ◌∷◌, [], Option, Some, None, codes}
use Rattle.std.specs.Option.{option_map}
use Rattle.capnp_json_names.specs.Meetings.{Meeting, meeting_of}
use Rattle.capnp_json_names.specs.Met.{first_name, met_place, second_name}
use Rattle.capnp_patch.specs.Lines.{told_word}
use Rattle.capnp_schema.specs.Schema.{Schemas}
use Rattle.riftcalico_core.specs.Faults.{file_word}
use Rattle.riftcalico_core.specs.Plans.{Plan, diff_plan, from_json_plan, json_plan}

-- the file of the set, where JSON is read or written
abbrev pub json_file : Plan → Option (Option (List ℕ))
json_file (json_plan p) = Some p.root.file
json_file (from_json_plan p) = Some p.root.file
json_file (diff_plan p) = Some p.root.file
json_file p = None

-- the set, the struct or enum, and the own names of both
abbrev pub met_line : (file : Option (List ℕ)) → (place first second : List ℕ) → List ℕ
met_line file place first second =
    codes "refused: 69 JsonNamesMeet (" ++ told_word (file_word file (codes "the built-in set")) ++ codes ") in " ++ told_word place ++ codes ": " ++ told_word first ++ codes ", " ++ told_word second ++ 10 ∷ []

abbrev pub meeting_line : (file : Option (List ℕ)) → Schemas → Meeting → List ℕ
meeting_line file set m = met_line file (met_place set m) (first_name set m) (second_name set m)

abbrev pub line_under : Schemas → Option (Option (List ℕ)) → Option (List ℕ)
line_under set None = None
line_under set (Some file) = option_map (meeting_line file set) (meeting_of set)

-- the line that refuses a plan under a set, if names meet there and JSON is read or written
abbrev pub names_line : Plan → Schemas → Option (List ℕ)
names_line p set = line_under set (json_file p)
