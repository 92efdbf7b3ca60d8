-- What calls make of a value, one after another; and from one step further out.
use Rattle.std.proofs.Common.{ℕ, ◌≡◌, ◌⊎◌, inl, inr, refl, List, [], ◌∷◌, ◌++◌, true, None, ap, sym, ◌∙◌, subst}
use Rattle.std.proofs.lemmas.Bool.{true≢false}
use Rattle.capnp_device.specs.declared.error.ErrorKind.{ErrorKind}
use Rattle.capnp_device.specs.declared.error.ErrorKind.TheVariants.{OutOfMemory, SizePastFormat}
use Rattle.capnp_schema.specs.Types.{ListType, SchemaType, StructType}
use Rattle.capnp_schema.specs.Schema.{ListValue, Schemas, Value as SchemaValue}
use Rattle.capnp_records.specs.Call.{Call, Done, PathStep, Refused, Reply}
use Rattle.capnp_records.specs.Record as value
use Rattle.capnp_records.specs.Record.{Record, Value, is_there}
use Rattle.capnp_records.specs.Run.{Ends, Run, root_type}
use Rattle.capnp_records.specs.Step.{CanRefuse, Enters, Passes, StepTarget, Walks, fault_of, filled_value, for_memory, for_size}
use Rattle.capnp_diffs.specs.Laws.{AreDone, HaveRoom}
use Rattle.capnp_diffs.proofs.Walked.{HasRoom, IsSolid, Leaf, Nest}
use Rattle.capnp_value_texts.specs.Calls.{all_behind, behind}
use Rattle.capnp_value_laws.specs.Laws.{AreDoneToRoom}

-- one call turns a value of a type into another, where there is room
abbrev pub CallMakes : Schemas → SchemaType → Value → Call → Value → Type 0
CallMakes set t v c m = (reply : Reply) (new : Value) → Walks set (Ends set c.last c.op) c.path t v reply new → HasRoom reply → (reply ≡ Done) × (new ≡ m)

-- each call turns a value into the next one, which has parts, and so the first into the last
abbrev pub CallsLead : Schemas → SchemaType → Value → List Call → Value → Type 0
CallsLead set t v [] w = v ≡ w
CallsLead set t v (c ∷ cs) w = (m : Value) × IsSolid m × CallMakes set t v c m × CallsLead set t m cs w

pub lead_both : (set : Schemas) (t : SchemaType) (v m w : Value) (cs ds : List Call) → CallsLead set t v cs m → CallsLead set t m ds w → CallsLead set t v (cs ++ ds) w
lead_both set t v m w [] ds first second = subst (λ x. CallsLead set t x ds w) (sym first) second
lead_both set t v m w (c ∷ cs) ds (n, solid, makes, rest) second = (n, solid, makes, lead_both set t n m w cs ds rest second)

pub lead_one : (set : Schemas) (t : SchemaType) (v w : Value) (c : Call) → IsSolid w → CallMakes set t v c w → CallsLead set t v (c ∷ []) w
lead_one set t v w c solid makes = (w, solid, makes, refl)

pub lead_from : (set : Schemas) (t : SchemaType) (v v' w w' : Value) (cs : List Call) → v ≡ v' → w ≡ w' → CallsLead set t v cs w → CallsLead set t v' cs w'
lead_from set t v v' w w' cs e f leads = subst (λ x. CallsLead set t x cs w') e (subst (λ x. CallsLead set t v cs x) f leads)

-- ---- from one step further out ----

filled_there : (set : Schemas) (d : SchemaValue) (t : SchemaType) (v : Value) → is_there v ≡ true → filled_value set d t v ≡ v
filled_there set (ListValue words) (ListType e) (value.Missing l) h = absurd (true≢false (sym h))
filled_there set d (StructType b g) (value.Missing l) h = absurd (true≢false (sym h))
filled_there set d t v h = refl

solid_there : (v : Value) → IsSolid v → is_there v ≡ true
solid_there (value.Struct r) solid = refl
solid_there (value.Group r) solid = refl
solid_there (value.Elements vs) solid = refl
solid_there v solid = absurd solid

solid_sound : (v : Value) → IsSolid v → fault_of v ≡ None
solid_sound (value.Struct r) solid = refl
solid_sound (value.Group r) solid = refl
solid_sound (value.Elements vs) solid = refl
solid_sound v solid = absurd solid

no_room : {set : Schemas} {x : StepTarget} {kind : ErrorKind} {reply : Reply} → CanRefuse set x kind → reply ≡ Refused kind → HasRoom reply → ⊥
no_room (for_memory h) e room = room.memory e
no_room (for_size s h) e room = room.format e

nest_call : (set : Schemas) (t u : SchemaType) (step : PathStep) (put : Value → Value) (p q : Value) (c : Call) → Nest set t u step put → IsSolid p → CallMakes set u p c q → CallMakes set t (put p) (behind step c) (put q)
nest_call set t u step put p q c nest solid makes reply new walks room =
    let at = nest.leads p solid in
    entered at
    (subst (λ k. Enters set (Walks set (Ends set c.last c.op) c.path) (put p) k at.target reply new) (ap fault_of at.part ∙ solid_sound p solid)
    (subst (λ f. Passes set (Walks set (Ends set c.last c.op) c.path) (put p) f reply new) at.found walks))
  where
    entered : (at : Leaf set t u step put p) → Enters set (Walks set (Ends set c.last c.op) c.path) (put p) None at.target reply new → (reply ≡ Done) × (new ≡ put q)
    entered at (inl (kind, can, refused)) = absurd (no_room can refused.0 room)
    entered at (inr goes) =
        let filled : filled_value set at.target.default at.target.type at.target.part ≡ p =
        ap (filled_value set at.target.default at.target.type) at.part ∙ filled_there set at.target.default at.target.type p (solid_there p solid) in
        let inner : Walks set (Ends set c.last c.op) c.path u p reply goes.part =
        subst (λ v. Walks set (Ends set c.last c.op) c.path u v reply goes.part) filled
        (subst (λ z. Walks set (Ends set c.last c.op) c.path z (filled_value set at.target.default at.target.type at.target.part) reply goes.part) at.type goes.goes_on) in
        let (done, is) = makes reply goes.part inner room in
        (done, goes.rest ∙ (at.puts goes.part ∙ ap put is))

pub lead_behind : (set : Schemas) (t u : SchemaType) (step : PathStep) (put : Value → Value) → Nest set t u step put → (cs : List Call) (p q : Value) → IsSolid p → CallsLead set u p cs q → CallsLead set t (put p) (all_behind step cs) (put q)
lead_behind set t u step put nest [] p q solid e = ap put e
lead_behind set t u step put nest (c ∷ cs) p q solid (m, m_solid, makes, rest) =
    (put m, nest.solid m, nest_call set t u step put p m c nest solid makes, lead_behind set t u step put nest cs m q m_solid rest)

-- ---- runs ----

-- calls that lead from a record to a value are done, where there is room, and leave that value
pub run_done : (set : Schemas) (b : ℕ) (calls : List Call) (old : Record) (w : Value) → CallsLead set (root_type set b) (value.Struct old) calls w →
    (replies : List Reply) (left : Record) → Run set b old calls replies left → HaveRoom replies → AreDone replies × (value.Struct left ≡ w)
run_done set b [] old w leads [] left run room = (tt, ap value.Struct run ∙ leads)
run_done set b [] old w leads (reply ∷ replies) left run room = absurd run
run_done set b (call ∷ calls) old w leads [] left run room = absurd run
run_done set b (call ∷ calls) old w (m, solid, makes, rest) (reply ∷ replies) left (mid, step, run) room =
    let made = makes reply (value.Struct mid) step (record { memory = room.0; format = room.1 }) in
    let (done, is) = run_done set b calls mid w (subst (λ x. CallsLead set (root_type set b) x calls w) (sym made.1) rest) replies left run room.2 in
    ((made.0, done), is)

-- a reply is a refusal for room, or not
room_or_not : (reply : Reply) → ((reply ≡ Refused OutOfMemory) ⊎ (reply ≡ Refused SizePastFormat)) ⊎ HasRoom reply
room_or_not (Refused OutOfMemory) = inl (inl refl)
room_or_not (Refused SizePastFormat) = inl (inr refl)
room_or_not (Refused kind) = inr (record { memory = λ e. cc; format = λ e. cc })
room_or_not reply = inr (record { memory = λ e. cc; format = λ e. cc })

-- and they are done up to the first that is refused for room
pub run_goes : (set : Schemas) (b : ℕ) (calls : List Call) (old : Record) (w : Value) → CallsLead set (root_type set b) (value.Struct old) calls w →
    (replies : List Reply) (left : Record) → Run set b old calls replies left → AreDoneToRoom replies
run_goes set b [] old w leads [] left run = tt
run_goes set b [] old w leads (reply ∷ replies) left run = absurd run
run_goes set b (call ∷ calls) old w leads [] left run = absurd run
run_goes set b (call ∷ calls) old w (m, solid, makes, rest) (reply ∷ replies) left (mid, step, run) =
    go (room_or_not reply) (λ is. run_goes set b calls mid w (subst (λ x. CallsLead set (root_type set b) x calls w) (sym is) rest) replies left run)
  where
    go : ((reply ≡ Refused OutOfMemory) ⊎ (reply ≡ Refused SizePastFormat)) ⊎ HasRoom reply → (value.Struct mid ≡ m → AreDoneToRoom replies) → AreDoneToRoom (reply ∷ replies)
    go (inl refused) goes = inr refused
    go (inr room) goes = let made = makes reply (value.Struct mid) step room in inl (made.0, goes made.1)
