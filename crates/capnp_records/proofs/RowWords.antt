-- Words of the worked rows.
use Rattle.std.specs.Prelude.{ℕ, ◌≡◌, List, ◌∷◌, Bool, false, codes, replicate}
use Prim.Native.String.{String}
use Rattle.capnp_schema.specs.Types.{StructType}
use Rattle.capnp_schema.specs.Accepted.{words_root}
use Rattle.capnp_schema.specs.Schema.{Schemas}
use Rattle.capnp_schema.specs.Builtin.{builtin}
use Rattle.capnp_records.specs.Record as value
use Rattle.capnp_records.specs.Record.{Left, Record}
use Rattle.capnp_records.specs.Reading.{value_of}
use Rattle.capnp_records.specs.Text.{Out, text_of}
use Rattle.capnp_records.specs.Call.{PathStep, FieldNamed, Op, Call, Reply}
use Rattle.capnp_records.specs.Run.{Run}

-- a word of zeros
abbrev pub z8 : List ℕ
z8 = replicate 8 0

-- the root pointer of `Lists` and its first three pointers, which are null
abbrev pub lists : List ℕ
lists = 0 ∷ 0 ∷ 0 ∷ 0 ∷ 0 ∷ 0 ∷ 4 ∷ 0 ∷ replicate 24 0

-- what is printed of the root of one segment under a brand of the built-in set
abbrev pub printed : List ℕ → ℕ → Bool → Out
printed words b indented = text_of builtin indented (StructType b b) (value_of builtin (words_root words) (Left 64) (StructType b b))

abbrev pub named : String → PathStep
named s = FieldNamed (codes s)

abbrev pub call : List PathStep → PathStep → Op → Call
call path last op = record { path = path; last = last; op = op }

-- a run of the machine under a brand of a set, its replies, and what is printed of the record after it
abbrev pub RunsIn : Schemas → ℕ → Record → List Call → List Reply → Out → Type 0
RunsIn set b old calls replies text = (new : Record) × Run set b old calls replies new × (text_of set false (StructType b b) (value.Struct new) ≡ text)

abbrev pub Runs : ℕ → Record → List Call → List Reply → Out → Type 0
Runs b old calls replies text = RunsIn builtin b old calls replies text
