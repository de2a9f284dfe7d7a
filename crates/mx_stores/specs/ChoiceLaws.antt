-- A read is right exactly where the choice is the store that it stands for.
use Rattle.std.specs.Prelude.{◌↔◌, ℕ}
use Rattle.mx_reads.specs.Deeds.{Deeds}
use Rattle.mx_reads.specs.ReadRule.{Reading, IsRightRead}
use Rattle.mx_reads.specs.Sightings.{Source}
use Rattle.mx_stores.specs.Choices.{choice, StandsFor}
use Rattle.mx_stores.specs.Known.{IsKnown}
use Rattle.mx_stores.specs.StoreLaws.{AreBelow}

abbrev pub ChoiceLaw : Type 0
ChoiceLaw = (count : ℕ) (done : Deeds) → AreBelow count done → (source : Source) (read : Reading)
    → IsRightRead done (IsKnown done) source read
    ↔ StandsFor (choice done count source read) read.writer (source read.process read.place)
