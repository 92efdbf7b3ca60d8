-- What is printed into an empty text within the limit is the value's text; appended whole, it adds at most the limit.
use Rattle.std.proofs.Common.{None, Some, cond, string_bytes, subst}
use Rattle.capnp_records.specs.Text.{Layout}
use Rattle.capnp_dynamic_readers.specs.Pieces.{Taken, made_bytes, made_text}
use Rattle.capnp_dynamic_readers.specs.Steps.Pieces.{IsPut, IsStopped}
use Rattle.capnp_dynamic_readers.proofs.Pieces.{appended_whole, appended_within}
use Rattle.capnp_dynamic_readers.proofs.Steps.{ok_map}
use Rattle.capnp_dynamic_readers.proofs.walk.append_text.Goals as goal

pub returns-in-Ok-clause-printed : goal.returns-in-Ok-clause-printed
returns-in-Ok-clause-printed g c =
    let m = c.print_root_value.new.out in
    let put = subst (λ (z : Layout). IsPut (made_text c.new-made.result) ((g.S.Style.texts c.args.style).root z c.args.value) (made_text m)) c.layout.ensures c.in-Ok.ensures.put in
    let whole = subst (λ (z : Taken). IsPut z ((g.S.Style.texts c.args.style).root (cond c.args.indented (Some 0) None) c.args.value) (made_text m)) c.new-made.ensures put in
    ok_map c.append_to.result (appended_whole ((g.S.Style.texts c.args.style).root (cond c.args.indented (Some 0) None) c.args.value) c.args.limit m.limit (string_bytes c.args.out.now) (string_bytes c.append_to.new.out) (made_bytes m) whole) c.append_to.ensures.appended

pub returns-in-Ok-clause-within : goal.returns-in-Ok-clause-within
returns-in-Ok-clause-within g c =
    let m = c.print_root_value.new.out in
    let put = subst (λ (z : Layout). IsPut (made_text c.new-made.result) ((g.S.Style.texts c.args.style).root z c.args.value) (made_text m)) c.layout.ensures c.in-Ok.ensures.put in
    let whole = subst (λ (z : Taken). IsPut z ((g.S.Style.texts c.args.style).root (cond c.args.indented (Some 0) None) c.args.value) (made_text m)) c.new-made.ensures put in
    ok_map c.append_to.result (appended_within ((g.S.Style.texts c.args.style).root (cond c.args.indented (Some 0) None) c.args.value) c.args.limit m.limit (string_bytes c.args.out.now) (string_bytes c.append_to.new.out) (made_bytes m) whole) c.append_to.ensures.appended

pub returns-in-Err-clause-stopped : goal.returns-in-Err-clause-stopped
returns-in-Err-clause-stopped g c =
    let stopped = subst (λ (z : Layout). IsStopped (made_text c.new-made.result) ((g.S.Style.texts c.args.style).root z c.args.value) c.in-Err.stop) c.layout.ensures c.in-Err.ensures.stopped in
    subst (λ (z : Taken). IsStopped z ((g.S.Style.texts c.args.style).root (cond c.args.indented (Some 0) None) c.args.value) c.in-Err.stop) c.new-made.ensures stopped
