-- What holds of the lines of changes, in their own terms.
use Rattle.std.specs.Prelude.{ℕ, ◌≡◌, List, Bool, true, Ok}
use Rattle.std.specs.List.{AllByRecursion}
use Rattle.capnp_call.specs.declared.calls.Op.{Op}
use Rattle.capnp_call.specs.declared.calls.Op.TheVariants as op
use Rattle.capnp_diffs.specs.declared.change.Change.{Change as FoundChange}
use Rattle.capnp_dynamic_readers.specs.declared.dynamic_value.Reader.{Reader as DynamicValue}
use Rattle.capnp_records.specs.Call.{PathStep}
use Rattle.capnp_records.specs.Record.{Value}
use Rattle.capnp_records.specs.Step.{step_target}
use Rattle.capnp_schema.specs.Schema.{Schemas}
use Rattle.capnp_schema.specs.Types.{SchemaType}
use Rattle.capnp_words.specs.Calls.{Clear, Init, Set, call_at, call_of}
use Rattle.capnp_words.specs.Laws.{IsPathStep}
use Rattle.capnp_words.specs.Marked.{marked_value_by_word}
use Rattle.capnp_words.specs.Targets.{type_behind}
use Rattle.riftcalico_core.specs.ChangeLines.{IsChangeLine, IsPutWord, change_path, change_steps, is_read_under}
use Rattle.riftcalico_core.specs.FieldNames.{named_step}

-- a line is read as what is done along a path
pub record IsReadAsSet (set : Schemas) (b : ℕ) (path : List PathStep) (v : DynamicValue) (line : List ℕ) : Type 0 where
  pub word : List ℕ
  pub is : IsPutWord set b path v word
  pub place : ℕ
  pub read : call_at line ≡ Ok (call_of (Set word place) path)

abbrev pub IsReadAs : Schemas → ℕ → List PathStep → Op → (line : List ℕ) → Type 0
IsReadAs set b path (op.Set v) line = IsReadAsSet set b path v line
IsReadAs set b path op.Init line = call_at line ≡ Ok (call_of Init path)
IsReadAs set b path o line = call_at line ≡ Ok (call_of Clear path)

-- the line of a change is read as its call
abbrev pub ChangeLinesAreRead : Type 0
ChangeLinesAreRead = (set : Schemas) (b : ℕ) (c : FoundChange) (line : List ℕ) → AllByRecursion IsPathStep (change_steps c) → IsChangeLine set b c line → IsReadAs set b (change_path set b c) c.op line

-- the word of a leaf is read as its value
abbrev pub LeavesAreReadBack : Type 0
LeavesAreReadBack = (set : Schemas) (floats : Bool) (t : SchemaType) (v : Value) (word : List ℕ) → is_read_under set floats (Ok t) v word ≡ true → marked_value_by_word set floats t word ≡ Ok v

-- a step to a field by its name leads where its number leads, in schemas
abbrev pub NamesHaveTypes : Type 0
NamesHaveTypes = (set : Schemas) (t : SchemaType) (s : PathStep) → type_behind set t (named_step set t s) ≡ type_behind set t s

-- and in the machine of records
abbrev pub NamesHaveTargets : Type 0
NamesHaveTargets = (set : Schemas) (t : SchemaType) (v : Value) (s : PathStep) → step_target set t v (named_step set t s) ≡ step_target set t v s
