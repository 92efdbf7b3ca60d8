-- What tells more of a reply: of a field that isn't there, the struct that was asked, and names that may have been meant.
use Rattle.std.specs.Prelude.{ℕ, suc, ◌≡◌, Bool, true, false, List, [], ◌∷◌, ◌++◌, Option, Some, None, Result, Ok, Err, codes, get_or, map, slice_get}
use Rattle.capnp_device.specs.declared.error.ErrorKind.{ErrorKind}
use Rattle.capnp_device.specs.declared.error.ErrorKind.TheVariants.{FieldNotFound}
use Rattle.capnp_call.specs.declared.calls.Plain.TheVariants as plain
use Rattle.capnp_call.specs.declared.calls.Reply.{Reply}
use Rattle.capnp_call.specs.declared.calls.Reply.TheVariants as reply
use Rattle.capnp_edit_calls.specs.ActsSeen.{ActSeen, CallAct, CopyAct, EditAct}
use Rattle.capnp_floats.specs.Layout.{IsFloatText}
use Rattle.capnp_floats.specs.declared.width.Width.{Width}
use Rattle.capnp_floats.specs.declared.width.Width.TheVariants.{Float32, Float64}
use Rattle.capnp_patch.specs.Lines.{IsReplyTold, answer_line}
use Rattle.capnp_queries.specs.Floats.{floats_behind}
use Rattle.capnp_records.specs.Call.{Call, ElementAt, FieldNamed, FieldNumber, Op, PathStep, Which}
use Rattle.capnp_records.specs.Run.{root_type}
use Rattle.capnp_schema.specs.Schema.{Schemas, fields_of, node_of}
use Rattle.capnp_schema.specs.Types.{SchemaType, StructType}
use Rattle.capnp_words.specs.Targets.{type_behind}
use Rattle.riftcalico_core.specs.Calls.{member_asked}
use Rattle.riftcalico_core.specs.Near.{near_note}
use Rattle.riftcalico_core.specs.Notes.{field_name}
use Rattle.riftcalico_core.specs.Room.{reply_told}

-- the type of what is asked and the step that it doesn't have
abbrev pub Unknown : Type 0
Unknown = SchemaType × PathStep

-- the type at the end of a path by the schema alone, or the first step that fits nothing
abbrev pub behind_step : SchemaType → PathStep → Option SchemaType → (SchemaType → Result SchemaType Unknown) → Result SchemaType Unknown
behind_step t s None further = Err (t, s)
behind_step t s (Some u) further = further u

abbrev pub types_along : Schemas → SchemaType → List PathStep → Result SchemaType Unknown
types_along set t [] = Ok t
types_along set t (s ∷ steps) = behind_step t s (type_behind set t s) (λ u. types_along set u steps)

-- of a call: its path and what its last step names; the struct that is asked for its member is at the end of the path
abbrev pub last_along : Schemas → (last : PathStep) → Op → Result SchemaType Unknown → Result SchemaType Unknown
last_along set last op (Err unknown) = Err unknown
last_along set last Which (Ok t) = Ok t
last_along set last op (Ok t) = behind_step t last (type_behind set t last) Ok

abbrev pub call_along : Schemas → SchemaType → Call → Result SchemaType Unknown
call_along set t c = last_along set c.last c.op (types_along set t c.path)

-- What an act asks: a call itself, an edit all of its path, and a copy the path that is read, where the schema has that; else the
-- one that is set.
abbrev pub asked_first : (read set : List PathStep) → Result SchemaType Unknown → Call
asked_first read set (Ok t) = member_asked set
asked_first read set (Err unknown) = member_asked read

abbrev pub asked_call : Schemas → (brand : ℕ) → ActSeen → Call
asked_call set b (CallAct c) = c
asked_call set b (EditAct path edit) = member_asked path
asked_call set b (CopyAct path from) = asked_first from path (types_along set (root_type set b) from)

abbrev pub asked_calls : Schemas → (brand : ℕ) → List ActSeen → List Call
asked_calls set b acts = map (asked_call set b) acts

-- the struct that is asked, and what may have been meant
abbrev pub meant_in : Schemas → (brand : ℕ) → PathStep → List ℕ
meant_in set b (FieldNamed name) = near_note name (map field_name (fields_of set b))
meant_in set b (FieldNumber i) = []
meant_in set b (ElementAt i) = []

abbrev pub asked_note : Schemas → SchemaType → PathStep → List ℕ
asked_note set (StructType b g) s = codes " in " ++ (node_of set b).display_name ++ meant_in set b s
asked_note set t s = []

abbrev pub unknown_note : Schemas → Result SchemaType Unknown → List ℕ
unknown_note set (Ok t) = []
unknown_note set (Err unknown) = asked_note set unknown.0 unknown.1

abbrev pub kind_note : Schemas → (brand : ℕ) → Call → ErrorKind → List ℕ
kind_note set b c FieldNotFound = unknown_note set (call_along set (root_type set b) c)
kind_note set b c kind = []

abbrev pub reply_note : Schemas → (brand : ℕ) → Call → Reply → List ℕ
reply_note set b c (reply.Refused kind) = kind_note set b c kind
reply_note set b c r = []

abbrev pub note_of : Schemas → (brand : ℕ) → Option Call → Reply → List ℕ
note_of set b None r = []
note_of set b (Some c) r = reply_note set b c r

-- ---- numbers that are floats ----

-- whether the number that a call asks for is one
abbrev pub asks_float : Schemas → (brand : ℕ) → Option Call → Bool
asks_float set b None = false
asks_float set b (Some c) = floats_behind set b c.path c.last

-- a float is told by its text
abbrev pub IsFloatTold : ℕ → (word : List ℕ) → Width → (bits : ℕ) → (old new : List ℕ) → Type 0
IsFloatTold n word w bits old new = (text : List ℕ) × IsFloatText w bits text × (new ≡ old ++ answer_line n word text)

-- the line of a reply, whose number is a float or not
abbrev pub IsMarkedTold : (floats : Bool) → ℕ → (word note : List ℕ) → Reply → (old new : List ℕ) → Type 0
IsMarkedTold true n word note (reply.Value (plain.UInt32 bits)) old new = IsFloatTold n word Float32 bits old new
IsMarkedTold true n word note (reply.Value (plain.UInt64 bits)) old new = IsFloatTold n word Float64 bits old new
IsMarkedTold floats n word note r old new = IsReplyTold n word note r old new

-- The line of a reply was told, which is one to the call at this index. It has the call's number, from 1 on, and its word; a call that no word is given
-- for has an empty one. Numbers of marked fields are told as floats. Where the limit is the cause of refusals for want of memory, they are told so.
abbrev pub IsNoted : Schemas → (brand : ℕ) → (by_limit : Bool) → ℕ → (words : List (List ℕ)) → List Call → Reply → (old new : List ℕ) → Type 0
IsNoted set b by_limit i words calls r old new = IsMarkedTold (asks_float set b (slice_get calls i)) (suc i) (get_or words i []) (note_of set b (slice_get calls i) r) (reply_told by_limit r) old new

-- the lines of all these replies were, the first of them to the call at this index
abbrev pub AreNoted : Schemas → (brand : ℕ) → (by_limit : Bool) → ℕ → (words : List (List ℕ)) → List Call → List Reply → (old new : List ℕ) → Type 0
AreNoted set b by_limit i words calls [] old new = new ≡ old
AreNoted set b by_limit i words calls (r ∷ replies) old new = (mid : List ℕ) × IsNoted set b by_limit i words calls r old mid × AreNoted set b by_limit (suc i) words calls replies mid new
