-- The number and the name of each refusal of JSON.
use Rattle.std.specs.Prelude.{ℕ, List, codes}
use Rattle.capnp_device.specs.ErrorNumber.{error_name, error_number}
use Rattle.capnp_json.specs.declared.error.JsonError.{JsonError}
use Rattle.capnp_json.specs.declared.error.JsonError.TheVariants.{OutOfMemory, Read, TextNotUtf8, TooLarge, UntypedHasNoJson}

abbrev pub json_error_number : JsonError → ℕ
json_error_number (Read kind) = error_number kind
json_error_number UntypedHasNoJson = 67
json_error_number TextNotUtf8 = 68
json_error_number OutOfMemory = 1
json_error_number TooLarge = 11

abbrev pub json_error_name : JsonError → List ℕ
json_error_name (Read kind) = error_name kind
json_error_name UntypedHasNoJson = codes "UntypedHasNoJson"
json_error_name TextNotUtf8 = codes "TextNotUtf8"
json_error_name OutOfMemory = codes "OutOfMemory"
json_error_name TooLarge = codes "TooLarge"
