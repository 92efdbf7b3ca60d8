-- A task was done, on the streams or on a file that is replaced, or none was begun; and what is told of that was.
use Rattle.std.proofs.Common.{Err, None, Some, ap, inl, inr, map, refl, string_bytes, subst, sym, ◌∙◌}
use Rattle.riftcalico_core.specs.Faults.{place_file}
use Rattle.riftcalico_engine.proofs.Begun.{IsReady, joined_five, joined_three, named_of, ready_done}
use Rattle.riftcalico_engine.proofs.Ending.{said_at}
use Rattle.riftcalico_engine.proofs.PlaceNamed.{all_named, new_named, none_named, old_named}
use Rattle.riftcalico_engine.proofs.PlaceRuns.{made_run, path_is, pathless_run, place_named, placed_end, removed_end, streams_named, streams_run, unmade_run, unread_run}
use Rattle.riftcalico_engine.specs.Places.{IsPlaceNamed}
use Rattle.riftcalico_engine.specs.Programs.{IsNamed, IsNamedAt, IsRunAt}
use Rattle.riftcalico_engine.specs.Steps.Told.{IsSaid}
use Rattle.riftcalico_engine.specs.declared.told.Told.TheVariants as told
use Rattle.riftcalico_words.specs.Requests.{asked_request}
use Rattle.riftcalico_words.specs.RequestSeen.{task_seen}
use Rattle.riftcalico_engine.proofs.command.command_over.Goals as goal
use Rattle.riftcalico_engine.proofs.command.command_over.Goals.{in-Ok, in-Err, in-Ok-None, in-Ok-Some, in-Ok-open, in-Ok-make_new+then-is_whole, in-Ok-make_new+else-is_whole, in-Err-make_new, in-Err-open, in-Err-find_place, in-Some-Line, in-Some-Number, in-None}

pub returns-clause-done : goal.returns-clause-done
returns-clause-done g c =
    let asked = asked_request (map string_bytes c.args.words.now) in
    let there = c.match-find_task in
    let said = elim c.match-outcome.branch as (λ _. IsSaid g.F.Sink.written g.F.Sink.failures there.outcome.told there.errors c.match-outcome.errors) [
      | in-Some-Line w ↦ said_at g.F.Sink.written g.F.Sink.failures there.outcome.told (Some (told.Line w.in-Some-Line.line)) there.errors c.match-outcome.errors w.tell.new.errors (w.in-Some-Line.is ∙ ap Some (rw w.in-Some-Line.is at w.in-Some-Line.field-0-is)) w.errors-is (rw w.as_bytes.ensures.value at w.tell.ensures)
      | in-Some-Number w ↦ said_at g.F.Sink.written g.F.Sink.failures there.outcome.told (Some (told.Number w.in-Some-Number.kind)) there.errors c.match-outcome.errors w.report.new.errors (w.in-Some-Number.is ∙ ap Some (rw w.in-Some-Number.is at w.in-Some-Number.field-0-is)) w.errors-is w.report.ensures
      | in-None w ↦ said_at g.F.Sink.written g.F.Sink.failures there.outcome.told None there.errors c.match-outcome.errors there.errors w.in-None.is w.errors-is refl
    ] in
    let ready = elim c.match-find_task.branch as (λ _. IsReady g.O.Opener.opens g.O.File.Source.left g.O.File.Source.failures g.O.Replacer.makes g.O.Replacer.puts g.O.Replacer.removes g.O.New.Sink.written g.O.New.Sink.failures g.R.Source.left g.R.Source.failures g.W.Sink.written g.W.Sink.failures g.F.Sink.written g.F.Sink.failures asked there.outcome c.args.opener.now there.opener c.args.source.now there.source c.args.sink.now there.sink c.args.errors.now there.errors) [
      | in-Ok w ↦
          let t = task_seen w.in-Ok.task in
          let place = place_file t in
          let run = elim w.match-find_place.branch as (λ _. IsRunAt g.O.Opener.opens g.O.File.Source.left g.O.File.Source.failures g.O.Replacer.makes g.O.Replacer.puts g.O.Replacer.removes g.O.New.Sink.written g.O.New.Sink.failures g.R.Source.left g.R.Source.failures g.W.Sink.written g.W.Sink.failures g.F.Sink.written g.F.Sink.failures place t c.args.opener.now w.match-find_place.opener c.args.source.now w.match-find_place.source c.args.sink.now w.match-find_place.sink c.args.errors.now w.match-find_place.errors w.match-find_place.ran) [
            | in-Ok-None a ↦ joined_five (λ r o s k f. IsRunAt g.O.Opener.opens g.O.File.Source.left g.O.File.Source.failures g.O.Replacer.makes g.O.Replacer.puts g.O.Replacer.removes g.O.New.Sink.written g.O.New.Sink.failures g.R.Source.left g.R.Source.failures g.W.Sink.written g.W.Sink.failures g.F.Sink.written g.F.Sink.failures place t c.args.opener.now o c.args.source.now s c.args.sink.now k c.args.errors.now f r) w.match-find_place.ran a.run_from-ran.result w.match-find_place.opener a.run_from-ran.new.opener w.match-find_place.source a.run_from-ran.new.source w.match-find_place.sink a.run_from-ran.new.sink w.match-find_place.errors a.run_from-ran.new.errors a.ran-is a.opener-is a.source-is a.sink-is a.errors-is
                (streams_run g.O.Opener.opens g.O.File.Source.left g.O.File.Source.failures g.O.Replacer.makes g.O.Replacer.puts g.O.Replacer.removes g.O.New.Sink.written g.O.New.Sink.failures g.R.Source.left g.R.Source.failures g.W.Sink.written g.W.Sink.failures g.F.Sink.written g.F.Sink.failures place t c.args.opener.now a.run_from-ran.new.opener c.args.source.now a.run_from-ran.new.source c.args.sink.now a.run_from-ran.new.sink c.args.errors.now a.run_from-ran.new.errors a.run_from-ran.result (rw a.in-Ok-None.field-0-is at a.in-Ok-None.ensures.place) a.run_from-ran.ensures.ran)
            | in-Err-find_place a ↦ joined_five (λ r o s k f. IsRunAt g.O.Opener.opens g.O.File.Source.left g.O.File.Source.failures g.O.Replacer.makes g.O.Replacer.puts g.O.Replacer.removes g.O.New.Sink.written g.O.New.Sink.failures g.R.Source.left g.R.Source.failures g.W.Sink.written g.W.Sink.failures g.F.Sink.written g.F.Sink.failures place t c.args.opener.now o c.args.source.now s c.args.sink.now k c.args.errors.now f r) w.match-find_place.ran (Err a.in-Err-find_place.refusal) w.match-find_place.opener c.args.opener.now w.match-find_place.source c.args.source.now w.match-find_place.sink c.args.sink.now w.match-find_place.errors c.args.errors.now a.ran-is a.opener-is a.source-is a.sink-is a.errors-is
                (pathless_run g.O.Opener.opens g.O.File.Source.left g.O.File.Source.failures g.O.Replacer.makes g.O.Replacer.puts g.O.Replacer.removes g.O.New.Sink.written g.O.New.Sink.failures g.R.Source.left g.R.Source.failures g.W.Sink.written g.W.Sink.failures g.F.Sink.written g.F.Sink.failures place t c.args.opener.now c.args.source.now c.args.sink.now c.args.errors.now (Err a.in-Err-find_place.refusal) a.in-Err-find_place.ensures.refused.0 a.in-Err-find_place.ensures.refused.1)
            | in-Ok-Some a ↦ joined_five (λ r o s k f. IsRunAt g.O.Opener.opens g.O.File.Source.left g.O.File.Source.failures g.O.Replacer.makes g.O.Replacer.puts g.O.Replacer.removes g.O.New.Sink.written g.O.New.Sink.failures g.R.Source.left g.R.Source.failures g.W.Sink.written g.W.Sink.failures g.F.Sink.written g.F.Sink.failures place t c.args.opener.now o c.args.source.now s c.args.sink.now k c.args.errors.now f r) w.match-find_place.ran a.match-open.ran w.match-find_place.opener a.match-open.opener w.match-find_place.source c.args.source.now w.match-find_place.sink c.args.sink.now w.match-find_place.errors a.match-open.errors a.ran-is a.opener-is a.source-is a.sink-is a.errors-is
                (let is = rw a.in-Ok-Some.field-0-is at a.in-Ok-Some.ensures.place in
                elim a.match-open.branch as (λ _. IsRunAt g.O.Opener.opens g.O.File.Source.left g.O.File.Source.failures g.O.Replacer.makes g.O.Replacer.puts g.O.Replacer.removes g.O.New.Sink.written g.O.New.Sink.failures g.R.Source.left g.R.Source.failures g.W.Sink.written g.W.Sink.failures g.F.Sink.written g.F.Sink.failures place t c.args.opener.now a.match-open.opener c.args.source.now c.args.source.now c.args.sink.now c.args.sink.now c.args.errors.now a.match-open.errors a.match-open.ran) [
                  | in-Err-open b ↦ joined_three (λ r o f. IsRunAt g.O.Opener.opens g.O.File.Source.left g.O.File.Source.failures g.O.Replacer.makes g.O.Replacer.puts g.O.Replacer.removes g.O.New.Sink.written g.O.New.Sink.failures g.R.Source.left g.R.Source.failures g.W.Sink.written g.W.Sink.failures g.F.Sink.written g.F.Sink.failures place t c.args.opener.now o c.args.source.now c.args.source.now c.args.sink.now c.args.sink.now c.args.errors.now f r) a.match-open.ran b.refuse_old.result a.match-open.opener a.open.new.self a.match-open.errors c.args.errors.now b.ran-is b.opener-is b.errors-is
                      (unread_run g.O.Opener.opens g.O.File.Source.left g.O.File.Source.failures g.O.Replacer.makes g.O.Replacer.puts g.O.Replacer.removes g.O.New.Sink.written g.O.New.Sink.failures g.R.Source.left g.R.Source.failures g.W.Sink.written g.W.Sink.failures g.F.Sink.written g.F.Sink.failures place a.in-Ok-Some.place t c.args.opener.now a.open.new.self c.args.source.now c.args.sink.now c.args.errors.now b.refuse_old.result b.in-Err-open.field-0 is b.in-Err-open.ensures b.refuse_old.ensures)
                  | in-Ok-open b ↦ joined_three (λ r o f. IsRunAt g.O.Opener.opens g.O.File.Source.left g.O.File.Source.failures g.O.Replacer.makes g.O.Replacer.puts g.O.Replacer.removes g.O.New.Sink.written g.O.New.Sink.failures g.R.Source.left g.R.Source.failures g.W.Sink.written g.W.Sink.failures g.F.Sink.written g.F.Sink.failures place t c.args.opener.now o c.args.source.now c.args.source.now c.args.sink.now c.args.sink.now c.args.errors.now f r) a.match-open.ran b.match-make_new.ran a.match-open.opener b.match-make_new.opener a.match-open.errors b.match-make_new.errors b.ran-is b.opener-is b.errors-is
                      (elim b.match-make_new.branch as (λ _. IsRunAt g.O.Opener.opens g.O.File.Source.left g.O.File.Source.failures g.O.Replacer.makes g.O.Replacer.puts g.O.Replacer.removes g.O.New.Sink.written g.O.New.Sink.failures g.R.Source.left g.R.Source.failures g.W.Sink.written g.W.Sink.failures g.F.Sink.written g.F.Sink.failures place t c.args.opener.now b.match-make_new.opener c.args.source.now c.args.source.now c.args.sink.now c.args.sink.now c.args.errors.now b.match-make_new.errors b.match-make_new.ran) [
                        | in-Err-make_new d ↦ joined_three (λ r o f. IsRunAt g.O.Opener.opens g.O.File.Source.left g.O.File.Source.failures g.O.Replacer.makes g.O.Replacer.puts g.O.Replacer.removes g.O.New.Sink.written g.O.New.Sink.failures g.R.Source.left g.R.Source.failures g.W.Sink.written g.W.Sink.failures g.F.Sink.written g.F.Sink.failures place t c.args.opener.now o c.args.source.now c.args.source.now c.args.sink.now c.args.sink.now c.args.errors.now f r) b.match-make_new.ran d.refuse_new.result b.match-make_new.opener b.make_new.new.self b.match-make_new.errors c.args.errors.now d.ran-is d.opener-is d.errors-is
                            (unmade_run g.O.Opener.opens g.O.File.Source.left g.O.File.Source.failures g.O.Replacer.makes g.O.Replacer.puts g.O.Replacer.removes g.O.New.Sink.written g.O.New.Sink.failures g.R.Source.left g.R.Source.failures g.W.Sink.written g.W.Sink.failures g.F.Sink.written g.F.Sink.failures place a.in-Ok-Some.place t b.as_str.result.now c.args.opener.now a.open.new.self b.make_new.new.self c.args.source.now c.args.sink.now c.args.errors.now d.refuse_new.result b.in-Ok-open.old d.in-Err-make_new.field-0 is b.as_str.ensures.value b.in-Ok-open.ensures d.in-Err-make_new.ensures d.refuse_new.ensures)
                        | in-Ok-make_new+then-is_whole d ↦ joined_three (λ r o f. IsRunAt g.O.Opener.opens g.O.File.Source.left g.O.File.Source.failures g.O.Replacer.makes g.O.Replacer.puts g.O.Replacer.removes g.O.New.Sink.written g.O.New.Sink.failures g.R.Source.left g.R.Source.failures g.W.Sink.written g.W.Sink.failures g.F.Sink.written g.F.Sink.failures place t c.args.opener.now o c.args.source.now c.args.source.now c.args.sink.now c.args.sink.now c.args.errors.now f r) b.match-make_new.ran d.get_placed.result b.match-make_new.opener d.put_in_place-put.new.self b.match-make_new.errors d.run-by.new.errors d.ran-is d.opener-is d.errors-is
                            (made_run g.O.Opener.opens g.O.File.Source.left g.O.File.Source.failures g.O.Replacer.makes g.O.Replacer.puts g.O.Replacer.removes g.O.New.Sink.written g.O.New.Sink.failures g.R.Source.left g.R.Source.failures g.W.Sink.written g.W.Sink.failures g.F.Sink.written g.F.Sink.failures place a.in-Ok-Some.place t b.as_str.result.now d.as_str-then-is_whole.result.now c.args.opener.now a.open.new.self b.make_new.new.self d.run-by.new.opener d.put_in_place-put.new.self c.args.source.now c.args.sink.now c.args.errors.now d.run-by.new.errors d.run-by.result d.get_placed.result b.in-Ok-open.old d.run-by.new.source d.in-Ok-make_new.new d.run-by.new.sink is b.as_str.ensures.value d.as_str-then-is_whole.ensures.value b.in-Ok-open.ensures d.in-Ok-make_new.ensures d.run-by.ensures.ran
                            (placed_end g.O.Replacer.puts g.O.Replacer.removes d.as_str-then-is_whole.result.now a.in-Ok-Some.place.file.now d.run-by.new.sink d.run-by.result d.run-by.new.opener d.put_in_place-put.new.self d.put_in_place-put.result d.get_placed.result (sym d.is_whole.ensures ∙ d.if-is_whole.true) d.put_in_place-put.ensures d.get_placed.ensures))
                        | in-Ok-make_new+else-is_whole d ↦ joined_three (λ r o f. IsRunAt g.O.Opener.opens g.O.File.Source.left g.O.File.Source.failures g.O.Replacer.makes g.O.Replacer.puts g.O.Replacer.removes g.O.New.Sink.written g.O.New.Sink.failures g.R.Source.left g.R.Source.failures g.W.Sink.written g.W.Sink.failures g.F.Sink.written g.F.Sink.failures place t c.args.opener.now o c.args.source.now c.args.source.now c.args.sink.now c.args.sink.now c.args.errors.now f r) b.match-make_new.ran d.run-by.result b.match-make_new.opener d.remove_new.new.self b.match-make_new.errors d.run-by.new.errors d.ran-is d.opener-is d.errors-is
                            (made_run g.O.Opener.opens g.O.File.Source.left g.O.File.Source.failures g.O.Replacer.makes g.O.Replacer.puts g.O.Replacer.removes g.O.New.Sink.written g.O.New.Sink.failures g.R.Source.left g.R.Source.failures g.W.Sink.written g.W.Sink.failures g.F.Sink.written g.F.Sink.failures place a.in-Ok-Some.place t b.as_str.result.now d.as_str-else-is_whole.result.now c.args.opener.now a.open.new.self b.make_new.new.self d.run-by.new.opener d.remove_new.new.self c.args.source.now c.args.sink.now c.args.errors.now d.run-by.new.errors d.run-by.result d.run-by.result b.in-Ok-open.old d.run-by.new.source d.in-Ok-make_new.new d.run-by.new.sink is b.as_str.ensures.value d.as_str-else-is_whole.ensures.value b.in-Ok-open.ensures d.in-Ok-make_new.ensures d.run-by.ensures.ran
                            (removed_end g.O.Replacer.puts g.O.Replacer.removes d.as_str-else-is_whole.result.now a.in-Ok-Some.place.file.now d.run-by.new.sink d.run-by.result d.run-by.new.opener d.remove_new.new.self (sym d.is_whole.ensures ∙ d.if-is_whole.false) d.remove_new.ensures))
                      ])
                ])
          ] in
          joined_five (λ x o s k f. IsReady g.O.Opener.opens g.O.File.Source.left g.O.File.Source.failures g.O.Replacer.makes g.O.Replacer.puts g.O.Replacer.removes g.O.New.Sink.written g.O.New.Sink.failures g.R.Source.left g.R.Source.failures g.W.Sink.written g.W.Sink.failures g.F.Sink.written g.F.Sink.failures asked x c.args.opener.now o c.args.source.now s c.args.sink.now k c.args.errors.now f) there.outcome w.get_outcome-outcome.result there.opener w.match-find_place.opener there.source w.match-find_place.source there.sink w.match-find_place.sink there.errors w.match-find_place.errors w.outcome-is w.opener-is w.source-is w.sink-is w.errors-is
          (inl (record {
            task = t;
            is_asked = w.in-Ok.ensures.task;
            by = w.match-find_place.ran;
            ran = run;
            ended = w.get_outcome-outcome.ensures;
          }))
      | in-Err w ↦
          joined_five (λ x o s k f. IsReady g.O.Opener.opens g.O.File.Source.left g.O.File.Source.failures g.O.Replacer.makes g.O.Replacer.puts g.O.Replacer.removes g.O.New.Sink.written g.O.New.Sink.failures g.R.Source.left g.R.Source.failures g.W.Sink.written g.W.Sink.failures g.F.Sink.written g.F.Sink.failures asked x c.args.opener.now o c.args.source.now s c.args.sink.now k c.args.errors.now f) there.outcome w.in-Err.outcome there.opener c.args.opener.now there.source c.args.source.now there.sink c.args.sink.now there.errors c.args.errors.now w.outcome-is w.opener-is w.source-is w.sink-is w.errors-is
          (inr (record {
            ended = w.in-Err.ensures.ended;
            unopened = refl;
            unread = refl;
            unwritten = refl;
            untold = refl;
          }))
    ] in
    ready_done g.O.Opener.opens g.O.File.Source.left g.O.File.Source.failures g.O.Replacer.makes g.O.Replacer.puts g.O.Replacer.removes g.O.New.Sink.written g.O.New.Sink.failures g.R.Source.left g.R.Source.failures g.W.Sink.written g.W.Sink.failures g.F.Sink.written g.F.Sink.failures asked there.outcome c.args.opener.now there.opener c.args.source.now there.source c.args.sink.now there.sink c.args.errors.now there.errors c.match-outcome.errors ready said

pub returns-clause-named : goal.returns-clause-named
returns-clause-named g c = λ other e.
    let asked = asked_request (map string_bytes c.args.words.now) in
    let o = c.args.opener.now in
    elim c.match-find_task.branch as (λ _. IsNamed g.O.Opener.opens g.O.Replacer.makes g.O.Replacer.puts g.O.Replacer.removes other o c.match-find_task.opener) [
      | in-Err w ↦ subst (λ x. IsNamed g.O.Opener.opens g.O.Replacer.makes g.O.Replacer.puts g.O.Replacer.removes other o x) (sym w.opener-is) (none_named g.O.Opener.opens g.O.Replacer.makes g.O.Replacer.puts g.O.Replacer.removes other o)
      | in-Ok w ↦
          let t = task_seen w.in-Ok.task in
          let place = place_file t in
          let named = elim w.match-find_place.branch as (λ _. IsNamedAt g.O.Opener.opens g.O.Replacer.makes g.O.Replacer.puts g.O.Replacer.removes place t o w.match-find_place.opener) [
            | in-Ok-None a ↦ subst (λ x. IsNamedAt g.O.Opener.opens g.O.Replacer.makes g.O.Replacer.puts g.O.Replacer.removes place t o x) (sym a.opener-is) (streams_named g.O.Opener.opens g.O.Replacer.makes g.O.Replacer.puts g.O.Replacer.removes place t o a.run_from-ran.new.opener (rw a.in-Ok-None.field-0-is at a.in-Ok-None.ensures.place) a.run_from-ran.ensures.opened)
            | in-Err-find_place a ↦ subst (λ x. IsNamedAt g.O.Opener.opens g.O.Replacer.makes g.O.Replacer.puts g.O.Replacer.removes place t o x) (sym a.opener-is) (none_named g.O.Opener.opens g.O.Replacer.makes g.O.Replacer.puts g.O.Replacer.removes t o)
            | in-Ok-Some a ↦ subst (λ x. IsNamedAt g.O.Opener.opens g.O.Replacer.makes g.O.Replacer.puts g.O.Replacer.removes place t o x) (sym a.opener-is)
                (let is = rw a.in-Ok-Some.field-0-is at a.in-Ok-Some.ensures.place in
                let file = a.in-Ok-Some.place.file.now in
                let path = path_is g.O.Opener.opens g.O.File.Source.left g.O.File.Source.failures g.O.Replacer.makes g.O.Replacer.puts g.O.Replacer.removes g.O.New.Sink.written g.O.New.Sink.failures g.R.Source.left g.R.Source.failures g.W.Sink.written g.W.Sink.failures g.F.Sink.written g.F.Sink.failures place a.in-Ok-Some.place is in
                place_named g.O.Opener.opens g.O.Replacer.makes g.O.Replacer.puts g.O.Replacer.removes place a.in-Ok-Some.place t o a.match-open.opener is (elim a.match-open.branch as (λ _. IsPlaceNamed g.O.Opener.opens g.O.Replacer.makes g.O.Replacer.puts g.O.Replacer.removes t file o a.match-open.opener) [
                  | in-Err-open b ↦ subst (λ x. IsPlaceNamed g.O.Opener.opens g.O.Replacer.makes g.O.Replacer.puts g.O.Replacer.removes t file o x) (sym b.opener-is) (old_named g.O.Opener.opens g.O.Replacer.makes g.O.Replacer.puts g.O.Replacer.removes t file o a.open.new.self a.open.result a.open.ensures)
                  | in-Ok-open b ↦ subst (λ x. IsPlaceNamed g.O.Opener.opens g.O.Replacer.makes g.O.Replacer.puts g.O.Replacer.removes t file o x) (sym b.opener-is) (elim b.match-make_new.branch as (λ _. IsPlaceNamed g.O.Opener.opens g.O.Replacer.makes g.O.Replacer.puts g.O.Replacer.removes t file o b.match-make_new.opener) [
                    | in-Err-make_new d ↦ subst (λ x. IsPlaceNamed g.O.Opener.opens g.O.Replacer.makes g.O.Replacer.puts g.O.Replacer.removes t file o x) (sym d.opener-is)
                        (new_named g.O.Opener.opens g.O.Replacer.makes g.O.Replacer.puts g.O.Replacer.removes t file b.as_str.result.now o a.open.new.self b.make_new.new.self a.open.result b.make_new.result (b.as_str.ensures.value ∙ path) a.open.ensures b.make_new.ensures)
                    | in-Ok-make_new+then-is_whole d ↦ subst (λ x. IsPlaceNamed g.O.Opener.opens g.O.Replacer.makes g.O.Replacer.puts g.O.Replacer.removes t file o x) (sym d.opener-is)
                        (let end = placed_end g.O.Replacer.puts g.O.Replacer.removes d.as_str-then-is_whole.result.now a.in-Ok-Some.place.file.now d.run-by.new.sink d.run-by.result d.run-by.new.opener d.put_in_place-put.new.self d.put_in_place-put.result d.get_placed.result (sym d.is_whole.ensures ∙ d.if-is_whole.true) d.put_in_place-put.ensures d.get_placed.ensures in
                        all_named g.O.Opener.opens g.O.Replacer.makes g.O.Replacer.puts g.O.Replacer.removes t file b.as_str.result.now o a.open.new.self b.make_new.new.self d.run-by.new.opener d.put_in_place-put.new.self a.open.result b.make_new.result d.run-by.new.sink d.run-by.result d.get_placed.result (b.as_str.ensures.value ∙ path) a.open.ensures b.make_new.ensures d.run-by.ensures.opened
                        (rw (d.as_str-then-is_whole.ensures.value ∙ sym b.as_str.ensures.value) at end))
                    | in-Ok-make_new+else-is_whole d ↦ subst (λ x. IsPlaceNamed g.O.Opener.opens g.O.Replacer.makes g.O.Replacer.puts g.O.Replacer.removes t file o x) (sym d.opener-is)
                        (let end = removed_end g.O.Replacer.puts g.O.Replacer.removes d.as_str-else-is_whole.result.now a.in-Ok-Some.place.file.now d.run-by.new.sink d.run-by.result d.run-by.new.opener d.remove_new.new.self (sym d.is_whole.ensures ∙ d.if-is_whole.false) d.remove_new.ensures in
                        all_named g.O.Opener.opens g.O.Replacer.makes g.O.Replacer.puts g.O.Replacer.removes t file b.as_str.result.now o a.open.new.self b.make_new.new.self d.run-by.new.opener d.remove_new.new.self a.open.result b.make_new.result d.run-by.new.sink d.run-by.result d.run-by.result (b.as_str.ensures.value ∙ path) a.open.ensures b.make_new.ensures d.run-by.ensures.opened
                        (rw (d.as_str-else-is_whole.ensures.value ∙ sym b.as_str.ensures.value) at end))
                  ])
                ]))
          ] in
          named_of g.O.Opener.opens g.O.Replacer.makes g.O.Replacer.puts g.O.Replacer.removes asked t other o c.match-find_task.opener w.in-Ok.ensures.task (subst (λ x. IsNamed g.O.Opener.opens g.O.Replacer.makes g.O.Replacer.puts g.O.Replacer.removes t o x) (sym w.opener-is) named) e
    ]
