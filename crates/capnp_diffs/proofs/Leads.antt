-- What a list of changes makes of a value, one after another; and from one step further out.
use Rattle.std.proofs.Common.{ℕ, ◌≡◌, refl, List, [], ◌∷◌, ◌++◌, ap, sym, ◌∙◌, subst}
use Rattle.capnp_schema.specs.Types.{SchemaType}
use Rattle.capnp_schema.specs.Schema.{Schemas}
use Rattle.capnp_records.specs.Call.{Call, PathStep, Reply}
use Rattle.capnp_records.specs.Record.{Record, Value}
use Rattle.capnp_records.specs.Record as value
use Rattle.capnp_records.specs.Run.{Ends, Run, root_type}
use Rattle.capnp_records.specs.Step.{Walks}
use Rattle.capnp_diffs.specs.Changes.{Change, all_behind}
use Rattle.capnp_diffs.specs.Laws.{AreCallsOf, AreDone, HaveRoom}
use Rattle.capnp_diffs.proofs.Walked.{IsSolid, Makes, Nest, nest_makes}

-- each change turns a value into the next one, which has parts, and so the first into the last
abbrev pub Leads : Schemas → SchemaType → Value → List Change → Value → Type 0
Leads set t v [] w = v ≡ w
Leads set t v (c ∷ cs) w = (m : Value) × IsSolid m × Makes set t v c m × Leads set t m cs w

pub leads_both : (set : Schemas) (t : SchemaType) (v m w : Value) (cs ds : List Change) → Leads set t v cs m → Leads set t m ds w → Leads set t v (cs ++ ds) w
leads_both set t v m w [] ds first second = subst (λ x. Leads set t x ds w) (sym first) second
leads_both set t v m w (c ∷ cs) ds (n, solid, makes, rest) second = (n, solid, makes, leads_both set t n m w cs ds rest second)

pub leads_nest : (set : Schemas) (t u : SchemaType) (step : PathStep) (put : Value → Value) → Nest set t u step put → (cs : List Change) (p q : Value) → IsSolid p → Leads set u p cs q → Leads set t (put p) (all_behind step cs) (put q)
leads_nest set t u step put nest [] p q solid e = ap put e
leads_nest set t u step put nest (c ∷ cs) p q solid (m, m_solid, makes, rest) =
    (put m, nest.solid m, nest_makes set t u step put p m c nest solid makes, leads_nest set t u step put nest cs m q m_solid rest)

pub leads_one : (set : Schemas) (t : SchemaType) (v w : Value) (c : Change) → IsSolid w → Makes set t v c w → Leads set t v (c ∷ []) w
leads_one set t v w c solid makes = (w, solid, makes, refl)

pub leads_from : (set : Schemas) (t : SchemaType) (v v' w w' : Value) (cs : List Change) → v ≡ v' → w ≡ w' → Leads set t v cs w → Leads set t v' cs w'
leads_from set t v v' w w' cs e f leads = subst (λ x. Leads set t x cs w') e (subst (λ x. Leads set t v cs x) f leads)

-- ---- runs ----

module _ (set : Schemas) (b : ℕ) where
  -- the calls that make these changes are done, and lead to their end
  pub run_leads : (changes : List Change) (old : Record) (w : Value) → Leads set (root_type set b) (value.Struct old) changes w →
      (calls : List Call) → AreCallsOf set calls changes → (replies : List Reply) (left : Record) → Run set b old calls replies left → HaveRoom replies → AreDone replies × (value.Struct left ≡ w)
  run_leads [] old w leads [] are [] left run room = (tt, ap value.Struct run ∙ leads)
  run_leads [] old w leads [] are (reply ∷ replies) left run room = absurd run
  run_leads [] old w leads (call ∷ calls) are replies left run room = absurd are
  run_leads (c ∷ changes) old w leads [] are replies left run room = absurd are
  run_leads (c ∷ changes) old w leads (call ∷ calls) are [] left run room = absurd run
  run_leads (c ∷ changes) old w (m, solid, makes, rest) (call ∷ calls) are (reply ∷ replies) left (mid, step, run) room =
      let walked : Walks set (Ends set c.last call.op) c.path (root_type set b) (value.Struct old) reply (value.Struct mid) =
      subst (λ path. Walks set (Ends set c.last call.op) path (root_type set b) (value.Struct old) reply (value.Struct mid)) are.0.path
      (subst (λ last. Walks set (Ends set last call.op) call.path (root_type set b) (value.Struct old) reply (value.Struct mid)) are.0.last step) in
      let made = makes call.op are.0.op reply (value.Struct mid) walked (record { memory = room.0; format = room.1 }) in
      let (done, is) = run_leads changes mid w (subst (λ x. Leads set (root_type set b) x changes w) (sym made.1) rest) calls are.1 replies left run room.2 in
      ((made.0, done), is)
