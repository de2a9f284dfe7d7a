use Rattle.std.proofs.Common.{rules, ◌≡◌, sym, subst}
use Rattle.mx_upcall.proofs.ChangeLaws.{call_packable, return_packable}
use Rattle.mx_upcall.specs.Changes.{Fits, changed}
use Rattle.mx_upcall.specs.Control.{after_call, after_return}
use Rattle.mx_upcall.specs.Soundness.{IsPackableControl}
use Rattle.mx_line.proofs.OperandLaws.{first_low}
use Rattle.mx_line.proofs.at_work.move_at.Goals as goal

pub returns-in-Ok-clause-good : goal.returns-in-Ok-clause-good
returns-in-Ok-clause-good c =
    let is : changed c.args.control.now c.in-Ok.after ≡ after_call c.args.control.now c.args.target.now c.args.desc.now = search rules in
    let fits : Fits c.args.control.now.gates c.in-Ok.after.gates = search rules in record {
      fits = fits;
      packable = subst IsPackableControl (sym is)
          (call_packable c.args.control.now c.args.target.now c.args.desc.now c.requires.packable c.requires.target.packable
          (first_low c.args.desc.now c.requires.desc));
    }

pub returns-in-Ok-ret-clause-good : goal.returns-in-Ok-ret-clause-good
returns-in-Ok-ret-clause-good c =
    let is : changed c.args.control.now c.in-Ok-ret.after ≡ after_return c.args.control.now c.args.target.now = search rules in
    let fits : Fits c.args.control.now.gates c.in-Ok-ret.after.gates = search rules in record {
      fits = fits;
      packable = subst IsPackableControl (sym is)
          (return_packable c.args.control.now c.args.target.now c.requires.packable c.requires.target.packable);
    }
