-- The loop keeps that the steps lead from the root to the current value, and that its refusal is the whole's.
-- Each step leaves less below, so the loop ends.
use Rattle.std.proofs.Common.{sym, None, Some, string_bytes, rules, ◌∙◌}
use Rattle.capnp_dynamic_readers.specs.Shown.{set_seen}
use Rattle.capnp_check.specs.Places.{root_parts}
use Rattle.capnp_check.proofs.PlacesFound.{begins, number_told, path_ends, steps_on}
use Rattle.capnp_check.proofs.FirstRefused.{found_first, none_first, path_short, short_on, short_start}
use Rattle.capnp_check.proofs.PlaceWords.{words_on, words_start}
use Rattle.capnp_check.proofs.place.find_refusal.Goals as goal

pub loop-step-init : goal.loop-step-init
loop-step-init c =
    let b = begins c.args.value c.new-path.result.items c.open_root-current.result c.new-path.ensures.items c.open_root-current.ensures.parts in
    record {
      path = b.0;
      words = words_start (set_seen c.args.value) (root_parts c.args.value) c.new-path.result.items (string_bytes c.new-words.result) c.new-path.ensures.items (search rules);
      of_set = c.open_root-current.ensures.set;
      same = b.1;
      short = short_start c.args.value c.new-path.result.items c.open_root-current.result c.new-path.ensures.items c.open_root-current.ensures.parts;
    }

pub loop-step-preserved : goal.loop-step-preserved
loop-step-preserved c =
    let found = c.in-Some.ensures (set_seen c.args.value) c.loop-step.invariant.of_set in
    let on = steps_on c.args.value c.loop-step.path.items c.push.new.self.items c.in-Some.step c.loop-step.current c.in-Some.next c.in_ok-push.ensures.items c.loop-step.invariant.path c.loop-step.invariant.same found in
    record {
      path = on.0;
      words = words_on (set_seen c.args.value) (root_parts c.args.value) c.loop-step.path.items c.push.new.self.items c.in-Some.step c.loop-step.current
          (string_bytes c.loop-step.words) (string_bytes c.put_step.new.out) c.in_ok-push.ensures.items c.loop-step.invariant.path c.loop-step.invariant.words
          (c.in_ok-put_step.ensures.put (set_seen c.args.value) c.loop-step.invariant.of_set);
      of_set = found.of_set;
      same = on.1;
      short = short_on (set_seen c.args.value) c.loop-step.path.items c.push.new.self.items c.in-Some.step c.loop-step.current c.in-Some.next c.in_ok-push.ensures.items found.less c.loop-step.invariant.short;
    }

pub loop-step-smaller : goal.loop-step-smaller
loop-step-smaller c = (c.in-Some.ensures (set_seen c.args.value) c.loop-step.invariant.of_set).less

pub returns-in_default-get_own_kind-clause-number : goal.returns-in_default-get_own_kind-clause-number
returns-in_default-get_own_kind-clause-number c =
    number_told c.args.value c.loop-step.current None (sym c.in_default-get_own_kind.ensures) c.in_default.ensures c.loop-step.invariant.of_set
    c.loop-step.invariant.same

pub returns-clause-number : goal.returns-clause-number
returns-clause-number c =
    number_told c.args.value c.loop-step.current (Some c.in-Some-get_own_kind.kind) (sym c.in-Some-get_own_kind.ensures) c.in_default.ensures
    c.loop-step.invariant.of_set c.loop-step.invariant.same

pub returns-clause-place : goal.returns-clause-place
returns-clause-place c =
    record {
      steps = path_ends (set_seen c.args.value) c.loop-step.path.items (root_parts c.args.value) c.loop-step.current c.in-Some-get_own_kind.kind (sym c.in-Some-get_own_kind.ensures)
          c.loop-step.invariant.path;
      words = c.loop-step.invariant.words;
    }

pub returns-in_default-get_own_kind-clause-first : goal.returns-in_default-get_own_kind-clause-first
returns-in_default-get_own_kind-clause-first c =
    none_first c.args.value (c.loop-step.invariant.same ∙ (sym (c.in_default.ensures (set_seen c.args.value) c.loop-step.invariant.of_set) ∙ sym c.in_default-get_own_kind.ensures))

pub returns-clause-first : goal.returns-clause-first
returns-clause-first c =
    found_first c.args.value c.loop-step.path.items (string_bytes c.loop-step.words) c.in-Some-get_own_kind.kind
    (path_ends (set_seen c.args.value) c.loop-step.path.items (root_parts c.args.value) c.loop-step.current c.in-Some-get_own_kind.kind (sym c.in-Some-get_own_kind.ensures) c.loop-step.invariant.path)
    c.loop-step.invariant.words (path_short _ _ _ c.loop-step.invariant.short)
