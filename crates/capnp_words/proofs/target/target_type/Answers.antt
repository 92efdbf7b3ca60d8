-- The type that was found is the one at the end of the path, which names entries.
use Rattle.std.proofs.Common.{IfSome, List, Option, length, subst, sym, ◌≤◌}
use Rattle.std.proofs.lemmas.List.{drop_all}
use Rattle.capnp_schema.specs.Accepted.{NamesEntries}
use Rattle.capnp_schema.specs.StructHandles.{set_of}
use Rattle.capnp_schema.specs.Types.{SchemaType, seen_type}
use Rattle.capnp_words.specs.Seen.{path_text_seen, steps_seen}
use Rattle.capnp_words.specs.Targets.{type_along}
use Rattle.capnp_words.specs.declared.path.PathStep.{PathStep}
use Rattle.capnp_words.proofs.TypesNamed.{from_struct_names}
use Rattle.capnp_words.proofs.target.target_type.Goals as goal

pub returns-clause-named : goal.returns-clause-named
returns-clause-named c = λ stands.
    let set = set_of c.args.schema in
    let at_end = subst (λ (steps : List PathStep). length steps ≤ c.loop-step.step-index) c.deref-step-items.ensures.value c.loop-step-test.false in
    let named = subst (λ (o : Option SchemaType). IfSome o (NamesEntries set)) (sym c.loop-step.invariant) (from_struct_names c.args.schema (path_text_seen c.args.path.now) stands) in
    subst (λ (steps : List PathStep). IfSome (type_along set (seen_type c.loop-step.target) (steps_seen steps)) (NamesEntries set)) (drop_all c.loop-step.step-index c.args.path.now.steps.items at_end) named
