-- A step that names a field is refused.
use Rattle.std.proofs.Common.{ℕ, List, ◌∷◌, ◌≡◌, refl, subst, sym, ◌∙◌}
use Rattle.std.specs.Borrow.{Bor}
use Rattle.capnp_device.specs.declared.error.ErrorKind.TheVariants.{NotAContainer}
use Rattle.capnp_arena.specs.Forest.{tree}
use Rattle.capnp_arena.specs.Segment.{segment}
use Rattle.capnp_schema.specs.Entries.{lists_seen}
use Rattle.capnp_schema.specs.Types.{seen_type}
use Rattle.capnp_call.proofs.Hopping.{list_refused}
use Rattle.capnp_call.proofs.ListWalks.{names_none}
use Rattle.capnp_call.specs.Steps.Hops.{HopLeads, ListGoes, first_step}
use Rattle.capnp_call.specs.declared.calls.Step.{Step}
use Rattle.capnp_call.specs.declared.calls.Step.TheVariants as step
use Rattle.capnp_call.proofs.hop.hop_at_list.Goals as goal

field_element : {i j : ℕ} → step.Field i ≡ step.Element j → ⊥
field_element e = cc

name_element : {name : Bor (List ℕ)} {j : ℕ} → step.Named name ≡ step.Element j → ⊥
name_element e = cc

pub returns-in-Element : goal.returns-in-Element
returns-in-Element c =
    subst (λ (s : Step). HopLeads (first_step (ListGoes c.args.word (lists_seen c.args.schemas.now) (seen_type c.args.element) (segment c.args.arena.now)) s) c.hop_in_list.result (segment c.hop_in_list.new.arena))
    (sym c.in-Element.is) c.hop_in_list.ensures

pub returns-in-Field : goal.returns-in-Field
returns-in-Field c = λ rest end.
    let set = lists_seen c.args.schemas.now in
    let e = seen_type c.args.element in
    list_refused c.args.word set e (c.args.step ∷ rest) end (segment c.args.arena.now) _ NotAContainer c.requires.stands.forest c.from.ensures
    (names_none set e (tree (segment c.args.arena.now) c.args.word) c.requires.stands.list c.requires.there (c.args.step ∷ rest) c.args.step rest end refl (λ i e. field_element (sym c.in-Field.is ∙ e)))

pub returns-in-Named : goal.returns-in-Named
returns-in-Named c = λ rest end.
    let set = lists_seen c.args.schemas.now in
    let e = seen_type c.args.element in
    list_refused c.args.word set e (c.args.step ∷ rest) end (segment c.args.arena.now) _ NotAContainer c.requires.stands.forest c.from-in-Named.ensures
    (names_none set e (tree (segment c.args.arena.now) c.args.word) c.requires.stands.list c.requires.there (c.args.step ∷ rest) c.args.step rest end refl (λ i e. name_element (sym c.in-Named.is ∙ e)))
