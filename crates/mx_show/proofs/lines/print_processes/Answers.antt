use Rattle.std.proofs.Common.{rules, ◌≡◌, ◌<◌, ◌≤◌, ◌+◌, ℕ, length, arith, ◌∙◌}
use Rattle.std.proofs.lemmas.List.{drop_all}
use Rattle.mx_judging.proofs.ReferenceLaws.{drop_next}
use Rattle.mx_show.proofs.LinesLaws.{processes_begun, process_next, sent_first, processes_done}
use Rattle.mx_show.proofs.PartLaws.{own_lines, own_part, own_script}
use Rattle.mx_show.proofs.lines.print_processes.Goals as goal

part_there : (i parts entrants : ℕ) → parts ≡ 1 + entrants → i < entrants → i + 1 < parts
part_there i parts entrants e below = omega (arith, e, below)

no_parts : (i parts entrants : ℕ) → parts ≡ 1 + entrants → entrants ≤ i → parts ≤ i + 1
no_parts i parts entrants e end = omega (arith, e, end)

pub loop-i-init : goal.loop-i-init
loop-i-init g c = record {
  through = rw (c.items-entrants.ensures, c.principals.ensures.value) (processes_begun _ _ _ _ _);
  same = search rules;
  held = search rules;
}

pub print_script-requires-clause-lines : goal.print_script-requires-clause-lines
print_script-requires-clause-lines g c =
    let below : c.loop-i.i < length c.args.session.now.principals
    = rw (← c.principals.ensures.value, ← c.items-entrants.ensures) c.loop-i-test.true in
    let own = own_part c.args.session.now _ _ c.index-transcripts-i.result c.requires.parts
    (part_there _ _ _ c.requires.transcripts below) c.index-transcripts-i.is in
    let script = own_script c.args.session.now _ _ c.index-scripts-i.result
    (c.items-scripts.ensures ∙ c.scripts.ensures.value) c.scripts.ensures.session.scripts below c.index-scripts-i.is in
    rw (c.first_line-first.ensures, c.items-script.ensures) (own_lines c.args.session.now _ _ _ own script)

pub loop-i-preserved : goal.loop-i-preserved
loop-i-preserved g c =
    let below : c.loop-i.i < length c.args.session.now.principals
    = rw (← c.principals.ensures.value, ← c.items-entrants.ensures) c.loop-i-test.true in
    let part = part_there _ _ _ c.requires.transcripts below in
    let own = own_part c.args.session.now _ _ c.index-transcripts-i.result c.requires.parts part c.index-transcripts-i.is in
    let script = own_script c.args.session.now _ _ c.index-scripts-i.result
    (c.items-scripts.ensures ∙ c.scripts.ensures.value) c.scripts.ensures.session.scripts below c.index-scripts-i.is in
    record {
      through = process_next _ _ _ _ _ _ _ _ _ _ _ _ _ _ _ _ _ _ c.loop-i.invariant.through
          (drop_next _ _ _ c.loop-i-test.true c.index-entrants-i.is) (drop_next _ _ _ part c.index-transcripts-i.is)
          c.in_ok-add_heading.ensures own script
          (sent_first _ _ _ _ _ _ _ _ _ c.in_ok-send_when_long.ensures.sent
          (rw (c.first_line-first.ensures, c.items-script.ensures) at c.in_ok-print_script.ensures.printed));
      same = search rules;
      held = search rules;
    }

pub returns-clause-printed : goal.returns-clause-printed
returns-clause-printed g c =
    processes_done _ _ _ _ _ _ _ _ _ _ c.loop-i.invariant.through (drop_all _ _ c.loop-i-test.false)
    (drop_all _ _ (no_parts _ _ _ c.requires.transcripts
    (rw (c.items-entrants.ensures, c.principals.ensures.value) at c.loop-i-test.false)))
