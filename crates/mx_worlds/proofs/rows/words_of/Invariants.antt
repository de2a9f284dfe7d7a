use Rattle.std.proofs.Common.{◌≡◌}
use Rattle.std.specs.Vec.{vec_len}
use Rattle.mx_core.specs.Lists.{Lists}
use Rattle.mx_worlds.specs.Tables.{desc_in}
use Rattle.mx_core.specs.declared.words.DescriptorWord.TheVariants.{Valid}
use Rattle.mx_worlds.proofs.rows.words_of.Given as goal

abbrev pub invariant-loop-desc : goal.invariant-loop-desc
invariant-loop-desc l = (vec_len l.words ≡ l.desc-index) × Lists l.words.items (λ n. Valid l.start (desc_in l.row n))
