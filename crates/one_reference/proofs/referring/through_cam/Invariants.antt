use Rattle.std.proofs.Common.{◌≡◌, ◌≤◌, ◌+◌}
use Rattle.mx_core.specs.declared.words.Stage.TheVariants.{Ready}
use Rattle.one_reference.proofs.referring.through_cam.Given as goal

abbrev pub invariant-loop-made : goal.invariant-loop-made
invariant-loop-made g l = (l.pass.view.stage ≡ Ready) × (l.cam ≡ l.pass.view.memory)
    × (l.count ≤ l.pass.spare + l.made) × (l.granted ≤ l.made)
