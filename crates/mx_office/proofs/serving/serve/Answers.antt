use Rattle.std.proofs.Common.{◌≡◌, ◌<◌, ◌≤◌, length, sym, ap, ◌∙◌, subst, arith, rules}
use Rattle.mx_script.specs.Sessions.{limit_of}
use Rattle.mx_office.specs.Serving.{IsServed}
use Rattle.mx_office.specs.declared.answers.Served.{Served}
use Rattle.mx_office.proofs.Locks.{journal_length}
use Rattle.mx_office.proofs.Serves.{same_entered, same_length}
use Rattle.mx_office.proofs.serving.serve.Goals as goal

pub returns-then-length-limit-clause-full : goal.returns-then-length-limit-clause-full
returns-then-length-limit-clause-full g c n same =
    let x = g.B.Sitting.session in
    let long : length c.args.supervisor.now.journal ≡ c.args.chief.now.length =
    journal_length x g.B.Sitting.setup g.B.Naming.layout c.args.supervisor.now c.args.chief.now c.args.book.now.total
    c.requires.locked (let a = c.length-length-2.ensures.counted in let b = c.length-length-2.ensures.begun in omega arith) in
    let is : c.length-length.result ≡ n = same_length c.length-length.result n same in
    let bound = c.length-length.ensures.history.within_limit in
    let limit = ap limit_of c.requires.locked.session in
    let value = c.length-length.ensures.value in
    let most : c.limit.result ≤ c.length-length.result = search rules in
    let least = c.limit.ensures.value in record {
      limit = omega arith;
      floor = c.tell.ensures.floor ∙ sym long ∙ sym value ∙ is;
      grown = c.tell.ensures.grown;
      amount = c.tell.ensures.amount;
    }

pub enter_below-requires-clause-below : goal.enter_below-requires-clause-below
enter_below-requires-clause-below g c =
    let x = g.B.Sitting.session in
    let long : length c.args.supervisor.now.journal ≡ c.args.chief.now.length =
    journal_length x g.B.Sitting.setup g.B.Naming.layout c.args.supervisor.now c.args.chief.now c.args.book.now.total
    c.requires.locked (let a = c.length-length-2.ensures.counted in let b = c.length-length-2.ensures.begun in omega arith) in
    let value = c.length-length.ensures.value in
    let most = c.limit.ensures.most in
    let under : c.length-length.result < c.limit.result = search rules in omega arith

pub returns-in-Ok-clause-served : goal.returns-in-Ok-clause-served
returns-in-Ok-clause-served g c served same =
    subst (λ (z : Served). IsServed c.args.supervisor.now c.args.pass.now.view.process c.args.ring c.args.request.now z
    c.enter_below.new.supervisor) (same_entered c.in-Ok.served served same)
    (c.enter_below.ensures.served c.in-Ok.served c.in-Ok.is)
