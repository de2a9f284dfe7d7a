use Rattle.std.proofs.Common.{None}
use Rattle.mx_sdw.specs.Descriptors.{unknown_desc}
use Rattle.mx_desc.proofs.slots.opening_slots.Goals as goal

pub returns : goal.returns
returns c = c.put_changes.ensures.shown (λ p n. unknown_desc) (λ p n. None) c.in_ok-slots.ensures
