use Rattle.mx_name.specs.Paths.{IsPath}
use Rattle.mx_name.proofs.TextLaws.{path_pathname, path_again}
use Rattle.mx_name.proofs.paths.Path.append_to.Goals as goal

pub returns-clause-pathname : goal.returns-clause-pathname
returns-clause-pathname c = let path : IsPath c.args.self.now = rw (← c.self.view_is) c.self.invariant in path_pathname c.args.self.now path

pub returns-clause-again : goal.returns-clause-again
returns-clause-again c = let path : IsPath c.args.self.now = rw (← c.self.view_is) c.self.invariant in path_again c.args.self.now path
