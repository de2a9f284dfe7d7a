use Rattle.mx_state.proofs.VersionLaws.{version_law}
use Rattle.mx_state.proofs.laws.only_status_asks_the_version.Goals as goal

pub returns : goal.returns
returns c = version_law
