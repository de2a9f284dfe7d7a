use Rattle.std.proofs.Common.{◌≡◌, ◌-◌, ◌≤◌, ◌∙◌, List, None, Some, ap, refl, sym, subst, rules}
use Rattle.std.specs.List.{slice_get}
use Rattle.mx_core.specs.declared.words.Triple.{Triple}
use Rattle.mx_desc.specs.Passes.{PassValue, without_trace}
use Rattle.mx_line.proofs.ScriptLaws.{script_is}
use Rattle.mx_line.specs.declared.operands.Progress.TheVariants.{Before}
use Rattle.mx_request.specs.Versions.{most_gates}
use Rattle.mx_script.specs.Sessions.{IsSession, Outline}
use Rattle.mx_state.specs.declared.journal.Entry as journaled
use Rattle.mx_transcript.specs.Scripts.{first_line, script_at}
use Rattle.mx_process.proofs.ProcessLaws.{first_process, new_untraced, opening_is, started}
use Rattle.mx_process.specs.Processes.{IsProcess}
use Rattle.mx_process.proofs.processes.Process.new.Goals as goal

pub invariant_of-result : goal.invariant_of-result
invariant_of-result g c =
    let x = g.B.Sitting.session in
    let p = c.args.pass.view.process in
    let forgotten = c.forget_trace.ensures in
    let own : c.process-p.result ≡ p = c.process-p.ensures.value
    ∙ ap (λ (o : PassValue journaled.Entry). o.view.process) forgotten in
    let some : 1 ≤ p = subst (λ n. 1 ≤ n) own c.process-p.ensures.low in
    let at : slice_get c.args.session.now.scripts (c.from.result - 1) ≡ Some c.script_at-script.result.now = search rules in
    subst (λ (z : List Triple × PassValue journaled.Entry). IsProcess x g.B.Sitting.setup g.B.Attending.accounts
    c.script_at-script.result.now z.0 (record {
      state = record {
        first = c.first_line.result;
        control = c.opening.result;
        recording = c.in_ok-with_room.field-0;
        progress = Before;
      };
      missing = None;
      pass = z.1;
      account = None;
    })) (λ i. (sym c.new.ensures i, sym forgotten i))
    (first_process x g.B.Sitting.setup g.B.Attending.accounts c.script_at-script.result.now _ (without_trace c.args.pass)
    (subst IsSession c.requires.session c.scripts.ensures.session) (record {
      fresh = new_untraced x c.args.pass c.requires.fresh;
      some = some;
      first = c.first_line.ensures ∙ (λ i. first_line (c.requires.session i) (own i));
      control = c.opening.ensures.value
          ∙ ap started (c.most_gates.ensures.value
          ∙ ap most_gates (c.version.ensures ∙ ap (λ (y : Outline). y.version) c.requires.session))
          ∙ opening_is x p some;
      steps = c.in_ok-with_room.ensures.steps;
      events = c.in_ok-with_room.ensures.events;
      progress = refl;
    })
    (sym (script_is c.args.session.now.scripts (c.from.result - 1) c.script_at-script.result.now at)
    ∙ (λ i. script_at (c.requires.session i).scripts ((c.from.ensures ∙ own) i - 1))) c.opening.ensures.packable)
