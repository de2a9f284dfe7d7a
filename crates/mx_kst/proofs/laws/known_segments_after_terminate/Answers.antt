use Rattle.mx_kst.proofs.TerminateLaws.{terminated, sound_terminated}
use Rattle.mx_kst.proofs.laws.known_segments_after_terminate.Goals as goal

pub returns : goal.returns
returns c = record {
  words = λ before after segno sound e. terminated before after segno sound e;
  sound = λ before after segno sound e. sound_terminated before after segno sound e;
}
