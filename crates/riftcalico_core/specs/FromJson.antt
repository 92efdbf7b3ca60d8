-- What is answered where a JSON text is made a message.
use Rattle.std.specs.Prelude.{◌≡◌, ◌⊎◌, List, ℕ, ◌++◌, true, codes, decimal, string_bytes}
use Rattle.capnp_wire.specs.Tree.{Tree}
use Rattle.capnp_call.specs.Messages.{most_words}
use Rattle.capnp_patch.specs.Patches.{words_within}
use Rattle.capnp_schema.specs.StructHandles.{set_of}
use Rattle.capnp_from_json.specs.Errors.{kind_name, kind_number}
use Rattle.capnp_from_json.specs.declared.error.Error.TheVariants.{Refused}
use Rattle.capnp_from_json.specs.declared.error.Refusal.{Refusal}
use Rattle.capnp_json_messages.specs.Messages.{IsRootOf, text_record}
use Rattle.capnp_json_messages.specs.Walks.{IsRefused}
use Rattle.riftcalico_core.specs.Outputs.{IsMessageOutput}
use Rattle.riftcalico_core.specs.Quiet.{IsQuiet}
use Rattle.riftcalico_core.specs.Room.{FitsIn}
use Rattle.riftcalico_core.specs.declared.answer.Answer.{Answer}
use Rattle.riftcalico_core.specs.declared.answer.Output.TheVariants as output
use Rattle.riftcalico_core.specs.declared.job.FromJsonJob.{FromJsonJob}

-- a message is written whose root reads as the record of the text, and fits into the limit
pub record IsMade (j : FromJsonJob) (text : List ℕ) (a : Answer) : Type 0 where
  pub root : Tree
  pub is : IsRootOf j.schema j.strict text root
  pub within : FitsIn (most_words (words_within j.limit)) root
  pub output : IsMessageOutput j.packed root a.output
  pub quiet : IsQuiet a

-- a refusal of the text, as a line: its number, its name, and how many bytes stand before what is refused
abbrev pub from_json_line : Refusal → List ℕ
from_json_line x =
    codes "refused: " ++ (decimal (kind_number x.kind) ++ (codes " " ++ (kind_name x.kind ++ (codes " (standard input) at byte " ++ (decimal x.place ++ codes "\n")))))

-- the text stands for no record, which is told, and nothing is written
pub record IsUnmade (j : FromJsonJob) (text : List ℕ) (a : Answer) : Type 0 where
  pub refusal : Refusal
  pub cause : IsRefused (set_of j.schema) j.strict (text_record j.schema text) (Refused refusal)
  pub told : string_bytes a.lines ≡ from_json_line refusal
  pub refused : a.refused ≡ true
  pub output : a.output ≡ output.Nothing

abbrev pub IsFromJsonAnswer : FromJsonJob → (text : List ℕ) → Answer → Type 0
IsFromJsonAnswer j text a = IsMade j text a ⊎ IsUnmade j text a
