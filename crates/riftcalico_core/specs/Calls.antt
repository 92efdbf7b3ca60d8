-- The calls and edits that words stand for, under a struct of a set.
use Rattle.std.specs.Prelude.{ℕ, ◌+◌, ◌≡◌, List, [], ◌∷◌, Bool, true, false, Option, Some, None, Ok, Err, pos}
use Rattle.std.specs.Option.{option_and_then, option_map}
use Rattle.capnp_schema.specs.Schema.{Schemas}
use Rattle.capnp_schema.specs.Types.{BoolType, DataType, EnumType, IntType, ListType, SchemaType, TextType, UIntType}
use Rattle.capnp_records.specs.Call as call
use Rattle.capnp_records.specs.Call.{BoolSource, Call, DataSource, EnumSource, FieldNumber, IntSource, Op, PathStep, Source, TextSource, UIntSource, VoidSource}
use Rattle.capnp_records.specs.Record as value
use Rattle.capnp_records.specs.Record.{Value}
use Rattle.capnp_edits.specs.Changes.{Append, Insert, Remove, Resize}
use Rattle.capnp_edit_calls.specs.ActsSeen.{ActSeen, CallAct, CopyAct, EditAct}
use Rattle.capnp_json.specs.Json.{plain}
use Rattle.capnp_queries.specs.Floats.{steps_on}
use Rattle.capnp_words.specs.Calls as text
use Rattle.capnp_words.specs.Calls.{CallOp, CallText}
use Rattle.capnp_words.specs.Reads.{Read, read_as}
use Rattle.capnp_words.specs.Targets.{type_along}
use Rattle.capnp_words.specs.Marked.{marked_value_by_word}
use Rattle.capnp_json_messages.specs.Ones.{is_whole}
use Rattle.riftcalico_core.specs.LastFields.{Spot, spot_along, spot_within}
use Rattle.riftcalico_core.specs.ShownValues.{IsGivenBy, shown_fault}

-- what is given to a set, by the type of what is set
abbrev pub source_taken : SchemaType → Value → Source
source_taken BoolType (value.Truth b) = BoolSource b
source_taken (IntType bytes) (value.Number n) = IntSource bytes n
source_taken (UIntType bytes) (value.Number (pos n)) = UIntSource bytes n
source_taken (EnumType e) (value.Enum n) = EnumSource n
source_taken TextType (value.Text bs) = TextSource bs
source_taken DataType (value.Data bs) = DataSource bs
source_taken t v = VoidSource

-- a place in a value, counted from the word's first byte
abbrev pub shifted_read : {A : Type 0} → ℕ → Read A → Read A
shifted_read place (Ok x) = Ok x
shifted_read place (Err inner) = Err (place + inner)

-- whether the numbers at the end of a path from a type are floats
abbrev pub floats_along : Schemas → SchemaType → List PathStep → Bool
floats_along set t path = (steps_on set path (record { type = t; form = plain })).form.floats

-- the type of a list's elements
abbrev pub element_of : SchemaType → Option SchemaType
element_of (ListType element) = Some element
element_of t = None

-- the type that a value is read under: that of what its path leads to, or of an append and an insertion that of the elements there
abbrev pub given_type : CallOp → Option SchemaType → Option SchemaType
given_type (text.Append bytes place) t = option_and_then element_of t
given_type (text.Insert i bytes place) t = option_and_then element_of t
given_type op t = t

-- a value that has a word, whose numbers are floats or not
abbrev pub plain_read : Schemas → (floats : Bool) → SchemaType → (bytes : List ℕ) → (place : ℕ) → Read Source
plain_read set floats t bytes place = shifted_read place (read_as (source_taken t) (marked_value_by_word set floats t bytes))

-- where what is given goes: a set to where its path leads, edits of lists to an element there
abbrev pub given_spot : CallOp → Option Spot → Option Spot
given_spot (text.Set bytes place) o = o
given_spot (text.Append bytes place) o = option_map spot_within o
given_spot (text.Insert i bytes place) o = option_map spot_within o
given_spot op o = None

-- a value by its type: a struct or a list is given as a JSON text, or as it is printed
abbrev pub IsValueBy : (whole : Bool) → Schemas → (spot : Option Spot) → (floats : Bool) → SchemaType → (bytes : List ℕ) → (place : ℕ) → Read Source → Type 0
IsValueBy true set spot floats t bytes place r = IsGivenBy (shown_fault bytes) set spot floats t bytes place r
IsValueBy false set spot floats t bytes place r = r ≡ plain_read set floats t bytes place

-- Where there is no type the call is refused for its path, whatever it is given.
abbrev pub IsSourceRead : Schemas → (spot : Option Spot) → (floats : Bool) → Option SchemaType → (bytes : List ℕ) → (place : ℕ) → Read Source → Type 0
IsSourceRead set spot floats None bytes place r = r ≡ Ok VoidSource
IsSourceRead set spot floats (Some t) bytes place r = IsValueBy (is_whole t) set spot floats t bytes place r

-- what a call or an edit is given, under the type of its value; of those that have no value nothing, which is a void here
abbrev pub IsSourceGiven : Schemas → (spot : Option Spot) → (floats : Bool) → Option SchemaType → CallOp → Read Source → Type 0
IsSourceGiven set spot floats t (text.Set bytes place) r = IsSourceRead set spot floats t bytes place r
IsSourceGiven set spot floats t (text.Append bytes place) r = IsSourceRead set spot floats t bytes place r
IsSourceGiven set spot floats t (text.Insert i bytes place) r = IsSourceRead set spot floats t bytes place r
IsSourceGiven set spot floats t text.Get r = r ≡ Ok VoidSource
IsSourceGiven set spot floats t text.Has r = r ≡ Ok VoidSource
IsSourceGiven set spot floats t text.Which r = r ≡ Ok VoidSource
IsSourceGiven set spot floats t text.Init r = r ≡ Ok VoidSource
IsSourceGiven set spot floats t (text.Initn size) r = r ≡ Ok VoidSource
IsSourceGiven set spot floats t text.Clear r = r ≡ Ok VoidSource
IsSourceGiven set spot floats t (text.Remove i) r = r ≡ Ok VoidSource
IsSourceGiven set spot floats t (text.Resize count) r = r ≡ Ok VoidSource
IsSourceGiven set spot floats t (text.Copy from) r = r ≡ Ok VoidSource

-- the path of what is copied; else none
abbrev pub from_of : CallOp → List PathStep
from_of (text.Copy from) = from
from_of op = []

abbrev pub with_step : PathStep → Call → Call
with_step s c = record { path = s ∷ c.path; last = c.last; op = c.op }

-- the steps of a path before its last, which is what the operation is done to
abbrev pub split : List PathStep → Op → Call
split [] op = record { path = []; last = FieldNumber 0; op = op }
split (s ∷ []) op = record { path = []; last = s; op = op }
split (s ∷ t ∷ ss) op = with_step s (split (t ∷ ss) op)

-- a struct that is asked for its member stands at the end of the whole path, and no last step is looked at
abbrev pub member_asked : List PathStep → Call
member_asked path = record { path = path; last = FieldNumber 0; op = call.Which }

-- what is done along a path, with what is given and the path of what is copied
abbrev pub act_placed : List PathStep → Source → (from : List PathStep) → CallOp → ActSeen
act_placed path s from text.Get = CallAct (split path call.Get)
act_placed path s from text.Has = CallAct (split path call.Has)
act_placed path s from text.Which = CallAct (member_asked path)
act_placed path s from (text.Set bytes place) = CallAct (split path (call.Set s))
act_placed path s from text.Init = CallAct (split path call.Init)
act_placed path s from (text.Initn size) = CallAct (split path (call.Initn size))
act_placed path s from text.Clear = CallAct (split path call.Clear)
act_placed path s from (text.Append bytes place) = EditAct path (Append (s ∷ []))
act_placed path s from (text.Insert i bytes place) = EditAct path (Insert i s)
act_placed path s from (text.Remove i) = EditAct path (Remove i)
act_placed path s from (text.Resize count) = EditAct path (Resize count)
act_placed path s from (text.Copy f) = CopyAct path from

abbrev pub act_given : CallText → Source → ActSeen
act_given c s = act_placed c.path s (from_of c.op) c.op

-- a call or an edit as it is read, with the type of the root
pub record IsCallRead (set : Schemas) (root : SchemaType) (c : CallText) (r : Read ActSeen) : Type 0 where
  pub source : Read Source
  pub given : IsSourceGiven set (given_spot c.op (spot_along set root c.path)) (floats_along set root c.path) (given_type c.op (type_along set root c.path)) c.op source
  pub act : r ≡ read_as (act_given c) source
