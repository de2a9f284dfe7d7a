use Rattle.std.proofs.Common.{◌↔◌, Bool, true, false, ap, rules, refl}
use Rattle.std.specs.Prelude.{IsTrue, MatchBool}
use Rattle.mx_sdw.specs.Admissible.{IsAdmissible}
use Rattle.mx_core.specs.Append.{IsGoodChange}
use Rattle.mx_core.specs.Notions.{IsPair}
use Rattle.mx_worlds.specs.Shows.{Counts}
use Rattle.mx_core.specs.World.{World}
use Rattle.mx_core.specs.declared.changes.Change.{Change}
use Rattle.mx_worlds.proofs.Seating.{process_is}
use Rattle.mx_worlds.proofs.worlds.World.is_good.Goals as goal

good_by : (w : World) (a : Change) (b : Bool) → IsPair w a.process a.segno → (IsTrue b ↔ IsAdmissible a.desc)
    → MatchBool b (IsGoodChange w a) (IsGoodChange w a → ⊥)
good_by w a true pair is = record { pair = pair; desc = is.0 refl }
good_by w a false pair is = λ good. let t = is.1 good.desc in cc

pub returns-then-change-eq0 : goal.returns-then-change-eq0
returns-then-change-eq0 c w shows = λ good.
    let e = ap (λ (x : Counts). x.processes) shows.parts.same in
    let low = good.pair.process.low in
    let high = good.pair.process.high in search rules

pub returns-then-change-self-2 : goal.returns-then-change-self-2
returns-then-change-self-2 c w shows = λ good.
    let e = ap (λ (x : Counts). x.numbers) shows.parts.same in
    let under = good.pair.number in search rules

pub returns : goal.returns
returns c w shows =
    let e = ap (λ (x : Counts). x.numbers) shows.parts.same in
    let pair : IsPair w c.args.change.now.process c.args.change.now.segno = record {
      process = process_is _ w c.args.change.now.process shows.parts.same (search rules) (search rules);
      number = search rules;
    } in good_by w c.args.change.now c.admits.result pair c.admits.ensures
