-- All that is refused of a message, as lines.
use Rattle.std.specs.Prelude.{ℕ, List, [], ◌∷◌, ◌++◌, Bool, true, false, codes, decimal, string_bytes}
use Rattle.capnp_check.specs.declared.place.RefusedPlace.{RefusedPlace}
use Rattle.capnp_device.specs.ErrorNumber.{error_name, error_number}
use Rattle.capnp_device.specs.declared.error.ErrorKind.{ErrorKind}
use Rattle.capnp_patch.specs.Lines.{told_word}
use Rattle.capnp_patch.specs.declared.place.Place.TheVariants as place
use Rattle.capnp_patch.specs.declared.place.Refusals.{Refusals}
use Rattle.capnp_patch.specs.declared.place.Refusals.TheVariants as refusals
use Rattle.capnp_records.specs.Call.{PathStep}
use Rattle.riftcalico_core.specs.Notes.{at_note, place_note, words_behind_points}

-- a refusal's number and name, what is to be looked at, and what tells more
abbrev pub input_line : ErrorKind → (note : List ℕ) → List ℕ
input_line kind note = codes "refused: " ++ decimal (error_number kind) ++ codes " " ++ error_name kind ++ codes " (standard input)" ++ told_word note ++ 10 ∷ []

-- a part of what stands at a path
abbrev pub part_note : List PathStep → (words : List ℕ) → List ℕ
part_note path words = at_note (words_behind_points path ++ words)

abbrev pub part_lines : List PathStep → List RefusedPlace → List ℕ
part_lines path [] = []
part_lines path (x ∷ places) = input_line x.kind (part_note path (string_bytes x.words)) ++ part_lines path places

-- the message or its root, a step, or all parts
abbrev pub refusals_lines : List PathStep → Refusals → List ℕ
refusals_lines path (refusals.Root kind) = input_line kind []
refusals_lines path (refusals.Step x) = input_line x.error.kind (place_note path (place.Step x))
refusals_lines path (refusals.Parts places) = part_lines path places.items

abbrev pub any_part : List RefusedPlace → Bool
any_part [] = false
any_part (x ∷ places) = true

abbrev pub any_told : Refusals → Bool
any_told (refusals.Root kind) = true
any_told (refusals.Step x) = true
any_told (refusals.Parts places) = any_part places.items
