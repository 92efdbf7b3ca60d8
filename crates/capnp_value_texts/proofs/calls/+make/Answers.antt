-- What is added of a part, behind what was added before it, is what is said of all parts so far.
use Rattle.std.specs.Prelude.{IfErr, OnOk}
use Rattle.std.proofs.Common.{◌≡◌, ◌+◌, ◌<◌, ◌≤◌, ◌++◌, ◌∷◌, [], List, drop, length, refl, sym, subst, ap, ◌∙◌, arith, rules}
use Rattle.std.proofs.lemmas.List.{drop_more}
use Rattle.capnp_schema.specs.Entries.{lists_seen}
use Rattle.capnp_schema.specs.Facts.Layers.{seen_which}
use Rattle.capnp_schema.specs.Schema.{Schemas}
use Rattle.capnp_schema.specs.Types.{seen_variant}
use Rattle.capnp_call.specs.declared.calls.Step.{Step}
use Rattle.capnp_value_texts.specs.Calls.{fields_calls, most_parts, parts_calls, target_of, value_calls}
use Rattle.capnp_value_texts.specs.Errors.{IsErrorOf}
use Rattle.capnp_value_texts.specs.Seen.{shown_view}
use Rattle.capnp_value_texts.specs.Steps.Adding.{AddsRead, first_calls}
use Rattle.capnp_value_texts.specs.Steps.Seen.{parts_view}
use Rattle.capnp_value_texts.specs.Steps.Targets.{holder_seen, holder_set}
use Rattle.capnp_value_texts.specs.TargetsSeen.{target_seen}
use Rattle.capnp_value_texts.specs.declared.error.RefusalKind.TheVariants.{CannotStand}
use Rattle.capnp_value_texts.proofs.Added.{adds_along}
use Rattle.capnp_value_texts.proofs.Making.{IsGoing, fields_value, goes_on, held_made, items_value, no_fields, on_ok}
use Rattle.capnp_value_texts.proofs.Refusals.{error_at}
use Rattle.capnp_value_texts.proofs.Trees.{PartHeld}
use Rattle.capnp_value_texts.proofs.Weights.{part_lighter, parts_weight, value_weight}
use Rattle.capnp_value_texts.proofs.calls.+make.Goals as goal

pub make_value-returns-in-Fields-clause-made : goal.make_value-returns-in-Fields-clause-made
make_value-returns-in-Fields-clause-made t c =
    subst (λ r. OnOk c.make_fields.result (AddsRead c.args.path.now.items c.args.out.now.items c.make_fields.new.out.items r))
    (sym (fields_value (lists_seen c.args.schemas.now) c.args.shown.now c.in-Fields.place c.in-Fields.parts (target_seen c.args.target) c.in-Fields.is)) c.make_fields.ensures.made

pub make_value-returns-in-Fields-clause-refused : goal.make_value-returns-in-Fields-clause-refused
make_value-returns-in-Fields-clause-refused t c =
    subst (λ r. IfErr c.make_fields.result (IsErrorOf r))
    (sym (fields_value (lists_seen c.args.schemas.now) c.args.shown.now c.in-Fields.place c.in-Fields.parts (target_seen c.args.target) c.in-Fields.is)) c.make_fields.ensures.refused

pub make_value-returns-in-Items-clause-made : goal.make_value-returns-in-Items-clause-made
make_value-returns-in-Items-clause-made t c =
    subst (λ r. OnOk c.make_items.result (AddsRead c.args.path.now.items c.args.out.now.items c.make_items.new.out.items r))
    (sym (items_value (lists_seen c.args.schemas.now) c.args.shown.now c.in-Items.place c.in-Items.parts (target_seen c.args.target) c.in-Items.is)) c.make_items.ensures.made

pub make_value-returns-in-Items-clause-refused : goal.make_value-returns-in-Items-clause-refused
make_value-returns-in-Items-clause-refused t c =
    subst (λ r. IfErr c.make_items.result (IsErrorOf r))
    (sym (items_value (lists_seen c.args.schemas.now) c.args.shown.now c.in-Items.place c.in-Items.parts (target_seen c.args.target) c.in-Items.is)) c.make_items.ensures.refused

pub make_fields-returns-in_default : goal.make_fields-returns-in_default
make_fields-returns-in_default t c =
    let parts = parts_calls (lists_seen c.args.schemas.now) (parts_view c.args.parts.now.items) in
    let n = length c.args.parts.now.items in
    record {
      path = tt;
      made = tt;
      refused = error_at _ c.refused.result CannotStand c.args.place c.args.place c.refused.ensures refl
          (ap (fields_calls c.args.place n parts (target_seen c.args.target)) (sym (ap seen_variant c.which.ensures ∙ seen_which c.args.target.of))
          ∙ no_fields c.args.place n parts (target_seen c.args.target) c.which.result c.in_default.not-Void c.in_default.not-Struct);
    }

pub make_held-returns-clause-made : goal.make_held-returns-clause-made
make_held-returns-clause-made t c =
    let path = c.args.path.now.items in
    let most : length c.args.parts.now.items ≤ most_parts = search rules in
    let inner : c.push.new.self.items ≡ path ++ c.args.step ∷ [] = search rules in
    on_ok c.make_parts-made.result
    (λ adds. held_made c.args.place (length c.args.parts.now.items) path c.push.new.self.items c.args.step c.args.out.now.items c.begin.new.out.items c.make_parts-made.new.out.items (first_calls c.args.step c.args.first)
    (parts_calls (holder_set c.args.holder) (parts_view c.args.parts.now.items) (holder_seen c.args.holder) 0 []) most inner
    (adds_along c.as_slice.result.now path c.args.out.now.items c.begin.new.out.items (first_calls c.args.step c.args.first) c.as_slice.ensures.value c.in-Ok.ensures.made) adds)
    c.make_parts-made.ensures.made

pub make_parts-make_value-requires : goal.make_parts-make_value-requires
make_parts-make_value-requires t c =
    let ps = c.args.parts.now.items in
    let p = c.index-part.result.now in
    let smaller : value_weight (shown_view p.1) < parts_weight (parts_view ps) =
    subst (λ (q : PartHeld). value_weight (shown_view q.1) < parts_weight (parts_view ps)) (sym c.index-part.ensures)
    (part_lighter ps c.loop-index.index p (omega (arith, c.loop-index-test.true, c.len-index-end.ensures, c.args.parts.now.ok.0))) in
    (omega (arith, c.decreases, smaller), tt)

pub make_parts-loop-index-preserved : goal.make_parts-loop-index-preserved
make_parts-loop-index-preserved t c =
    let l = c.loop-index in
    let i = l.index in
    let ps = c.args.parts.now.items in
    let p = c.index-part.result.now in
    let set = holder_set c.args.holder in
    let h = holder_seen c.args.holder in
    let whole = parts_calls set (parts_view ps) h 0 [] in
    let path = c.args.path.now.items in
    let mid = l.out.items in
    let new = c.make_value.new.out.items in
    let value = value_calls set (shown_view p.1) in
    let here : drop i ps ≡ p ∷ drop (i + 1) ps = drop_more ps i p (omega (arith, c.loop-index-test.true, c.len-index-end.ensures, c.args.parts.now.ok.0)) ∙ ap (λ y. y ∷ drop (i + 1) ps) (sym c.index-part.ensures) in
    let going = subst (λ (qs : List PartHeld). IsGoing path c.args.out.now.items mid whole (parts_calls set (parts_view qs) h i l.given.items)) here l.invariant.going in
    let adds = subst (λ (z : Schemas). AddsRead path mid new (value_calls z (shown_view p.1) (target_seen c.in-Ok.target))) c.schemas_of-schemas.ensures
    (subst (λ (xs : List Step). AddsRead xs mid new (value_calls (lists_seen c.schemas_of-schemas.result.now) (shown_view p.1) (target_seen c.in-Ok.target))) l.invariant.path c.in-Ok-make_value.ensures.made) in
    record {
      path = c.in-Ok-make_value.ensures.path ∙ l.invariant.path;
      going = goes_on path c.args.out.now.items mid new whole value (parts_calls set (parts_view (drop (i + 1) ps))) h i (i + 1) (target_of set h i p.0.place p.0.bytes.now l.given.items) (target_seen c.in-Ok.target)
          c.target_of.new.given.items (omega arith) going c.in-Ok.ensures.read adds;
    }
