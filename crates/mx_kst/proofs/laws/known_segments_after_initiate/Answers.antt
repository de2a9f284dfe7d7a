use Rattle.std.proofs.Common.{◌<◌, length, arith}
use Rattle.mx_kst.proofs.InitiateLaws.{initiated, sound_initiated}
use Rattle.mx_kst.proofs.laws.known_segments_after_initiate.Goals as goal

pub returns : goal.returns
returns c = record {
  words = λ before after uid ring name section known sound low e.
      let within : ring < length before.names = omega (arith, sound.rings) in
      initiated before uid ring name section known after within e;
  sound = λ before after uid ring name section known sound fits e. sound_initiated before uid ring name section known after sound fits e;
}
