use Rattle.std.proofs.Common.{◌+◌, length, sym, ◌∙◌}
use Rattle.std.proofs.lemmas.Result.{IfOk-weaker}
use Rattle.mx_legal.proofs.VerdictLaws.{all_undone}
use Rattle.mx_legal.proofs.judging.undone_beside.Goals as goal

pub map_indices-requires-after_bounds : goal.map_indices-requires-after_bounds
map_indices-requires-after_bounds g c κs within = λ p below. (c.requires.session, (c.requires.journal, c.requires.access))

pub returns : goal.returns
returns g c =
    all_undone c.args.session.now c.args.journal.now c.args.transcripts.now (λ v. v.items) (length c.items.result.now + 1) c.map_indices.result
    (IfOk-weaker c.map_indices.result _ _ (λ v len. sym v.ok.0 ∙ len) c.map_indices.ensures.len)
    (IfOk-weaker c.map_indices.result _ _ (λ v each. λ p d below. (each p d below).1.met) c.map_indices.ensures.each)
