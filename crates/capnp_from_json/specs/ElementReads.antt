-- Bytes that the elements of an array stand for.
use Rattle.std.specs.Prelude.{ℕ, List, ◌++◌, Option, Ok, Err}
use Rattle.capnp_records.specs.Record.{Value, Values}
use Rattle.capnp_json_text.specs.Values.{elements_of, json_at}
use Rattle.capnp_json_fields.specs.declared.fields.DataForm.TheVariants.{Array}
use Rattle.capnp_from_json.specs.Errors.{Read}
use Rattle.capnp_from_json.specs.Records.{Rules, byte_target, bytes_of, data_array, element_count, elements_of_json}

abbrev pub bytes_read : Read Values → Read (List ℕ)
bytes_read (Ok vs) = Ok (bytes_of vs)
bytes_read (Err refusal) = Err refusal

-- bytes before those that are read
abbrev pub behind : List ℕ → Read (List ℕ) → Read (List ℕ)
behind front (Ok bytes) = Ok (front ++ bytes)
behind front (Err refusal) = Err refusal

-- those from the first element on
abbrev pub element_bytes : Rules → (whole : ℕ) → Option (List ℕ) → (levels : ℕ) → Read (List ℕ)
element_bytes rules whole first levels = bytes_read (elements_of_json rules (elements_of (json_at whole) first) levels byte_target)

-- data of an array at a place, by its elements from the first on
abbrev pub array_bytes : Rules → (whole : ℕ) → Option (List ℕ) → (place levels : ℕ) → Read Value
array_bytes rules whole first place levels =
    data_array place Array (element_count (elements_of (json_at whole) first)) (elements_of_json rules (elements_of (json_at whole) first) levels byte_target)
